-- What is learned from clauses has no other variables.
use Rattle.sat_restarts.proofs.Common.{option_and_then, ℕ, zero, suc, ◌≡◌, ◌<◌, ◌≤◌, ◌++◌, ◌⊎◌, inl, inr, List, [], ◌∷◌, Some, length, arith, get_or, slice_get, take, map, sym, subst, refl, cond_some, option_and_then_some, same_Some, slice_get_within, take-length, Lit, AreWithin, Step, Has, chain_resolvent, clause_numbered, resolved_along, IsSoundAt, standing_before, AreInRange, standing}
use Rattle.clause_log.specs.Resolution.{joined, resolvent}
use Rattle.clause_log.proofs.Membership.{from_joined}
use Rattle.clause_search.proofs.Findings.{among-numbered}

abbrev clauses_of : List Step → List (List Lit)
clauses_of steps = map (λ s. s.clause) steps

place-has : {X : Type 0} (xs : List X) (i : ℕ) (d : X) → i < length xs → Has xs (get_or xs i d)
place-has [] i d lt = absurd (omega arith)
place-has (x ∷ xs) zero d lt = inl refl
place-has (x ∷ xs) (suc i) d lt = inr (place-has xs i d (omega arith))

append-has : (cs ds : List (List Lit)) (c : List Lit) → Has (cs ++ ds) c → Has cs c ⊎ Has ds c
append-has [] ds c h = inr h
append-has (d ∷ cs) ds c (inl e) = inl (inl e)
append-has (d ∷ cs) ds c (inr h) = elim (append-has cs ds c h) [ inl g ↦ inl (inr g) | inr g ↦ inr g ]

right-has : (cs ds : List (List Lit)) (c : List Lit) → Has ds c → Has (cs ++ ds) c
right-has [] ds c h = h
right-has (d ∷ cs) ds c h = inr (right-has cs ds c h)

pub within-in_range : (variables : ℕ) (clauses : List (List Lit)) → AreInRange variables clauses → AreWithin variables clauses
within-in_range variables clauses range = λ i d lt j e lt'. range (get_or clauses i d) (place-has clauses i d lt) (get_or (get_or clauses i d) j e) (place-has (get_or clauses i d) j e lt')

abbrev In : ℕ → Lit → Type 0
In n l = (0 < l.variable) × (l.variable ≤ n)

module _ (n : ℕ) where
  resolvent-range : (c d r : List Lit) → resolvent c d ≡ Some r → ((l : Lit) → Has c l → In n l) → ((l : Lit) → Has d l → In n l) → (l : Lit) → Has r l → In n l
  resolvent-range c d r e hc hd l has =
      let is : joined c d ≡ r = (cond_some _ (joined c d) r e).1 in
      elim (from_joined c d l (subst (λ (x : List Lit). Has x l) (sym is) has)) [ inl g ↦ hc l g | inr g ↦ hd l g ]

  along-range : (cs : List (List Lit)) (ns : List ℕ) (c r : List Lit) → AreInRange n cs → ((l : Lit) → Has c l → In n l) → resolved_along cs c ns ≡ Some r → (l : Lit) → Has r l → In n l
  along-range cs [] c r range h e l has = h l (subst (λ (x : List Lit). Has x l) (sym (same_Some c r e)) has)
  along-range cs (k ∷ ks) c r range h e l has =
      option_and_then_some (λ d. option_and_then (λ x. resolved_along cs x ks) (resolvent c d)) (clause_numbered cs k) r e
      (λ d at e'. option_and_then_some (λ x. resolved_along cs x ks) (resolvent c d) r e'
      (λ x is e''. along-range cs ks x r range (λ m g. resolvent-range c d x is h (range d (among-numbered cs k d at)) m g) e'' l has))

  chain-range : (cs : List (List Lit)) (chain : List ℕ) (r : List Lit) → AreInRange n cs → chain_resolvent cs chain ≡ Some r → (l : Lit) → Has r l → In n l
  chain-range cs [] r range e l has = absurd (let x : ⊥ = cc in x)
  chain-range cs (k ∷ ks) r range e l has =
      option_and_then_some (λ c. resolved_along cs c ks) (clause_numbered cs k) r e
      (λ c at e'. along-range cs ks c r range (range c (among-numbered cs k c at)) e' l has)

  has-take : (log : List Step) (i : ℕ) (c : List Lit) → Has (clauses_of (take (suc i) log)) c → Has (clauses_of (take i log)) c ⊎ ((s : Step) × (slice_get log i ≡ Some s) × (s.clause ≡ c))
  has-take [] i c h = absurd h
  has-take (s ∷ ss) zero c h = elim h [ inl e ↦ inr (s, refl, e) | inr g ↦ absurd g ]
  has-take (s ∷ ss) (suc i) c h = elim h [
    | inl e ↦ inl (inl e)
    | inr g ↦ elim (has-take ss i c g) [ inl k ↦ inl (inr k) | inr k ↦ inr k ]
  ]

  module _ (clauses : List (List Lit)) (log : List Step) (range : AreInRange n clauses) (sound : (index : ℕ) → index < length log → IsSoundAt clauses log index) where
    before-range : (i : ℕ) → AreInRange n (standing_before clauses log i)
    before-range zero c h l has = elim (append-has clauses (clauses_of (take zero log)) c h) [ inl g ↦ range c g l has | inr g ↦ absurd g ]
    before-range (suc i) c h l has = elim (append-has clauses (clauses_of (take (suc i) log)) c h) [
      | inl g ↦ range c g l has
      | inr g ↦ elim (has-take log i c g) [
        | inl k ↦ before-range i c (right-has clauses (clauses_of (take i log)) c k) l has
        | inr k ↦ step (before-range i) k.0 k.1 k.2 (sound i (slice_get_within log i k.0 k.1))
      ]
    ]
      where
        step : AreInRange n (standing_before clauses log i) → (s : Step) → slice_get log i ≡ Some s → s.clause ≡ c → IsSoundAt clauses log i → In n l
        step earlier s at e (t, at', chain) =
            let same : t ≡ s = same_Some t s (let it : Some t ≡ Some s = cc in it) in
            let is : t.clause ≡ c = subst (λ (x : Step). x.clause ≡ c) (sym same) e in
            chain-range (standing_before clauses log i) t.chain t.clause earlier chain l (subst (λ (x : List Lit). Has x l) (sym is) has)

    pub standing-range : AreInRange n (standing clauses log)
    standing-range = subst (λ (ss : List Step). AreInRange n (clauses ++ clauses_of ss)) (take-length log) (before-range (length log))
