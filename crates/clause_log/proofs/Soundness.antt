-- A resolvent is true wherever both clauses are, so what a log refutes has no model.
use Rattle.clause_log.proofs.Common.{option_and_then, ℕ, zero, suc, ◌≡◌, ◌<◌, ◌+◌, ◌-◌, ◌++◌, ◌⊎◌, inl, inr, Bool, true, false, not, cond, List, [], ◌∷◌, Option, Some, None, length, slice_get, take, map, ltb, eqb, arith, sym, subst, refl, ◌∙◌, ltb-false, cases_Bool, eqb-true, false≢true, true≢false, and_parts, and_from, or_cases, or_left, or_right, take-length, Lit, lit_true, clause_true, clauses_true, Step, joined, joined_at, clashes, clashes_at, resolvent, same_sign, clause_numbered, resolved_along, chain_resolvent, standing_before, IsSoundAt, EndsEmpty, Refutes}
use Rattle.std.proofs.lemmas.Option.{slice_get_within}

-- two literals of one variable and one sign have one value
lit_true-same : (v : ℕ → Bool) (x y : Lit) → x.variable ≡ y.variable → same_sign x y ≡ true → lit_true v x ≡ lit_true v y
lit_true-same v x y e s = rw e (signs x.positive y.positive (v y.variable) s)
  where
    signs : (p q b : Bool) → cond p q (cond q false true) ≡ true → cond p b (not b) ≡ cond q b (not b)
    signs true true b s = refl
    signs true false b s = absurd (false≢true s)
    signs false true b s = absurd (false≢true s)
    signs false false b s = refl

-- and of opposite signs one of them is false
lit_true-opposite : (v : ℕ → Bool) (x y : Lit) → x.variable ≡ y.variable → same_sign x y ≡ false → lit_true v x ≡ true → lit_true v y ≡ false
lit_true-opposite v x y e s t = signs x.positive y.positive (v y.variable) s (rw e at t)
  where
    signs : (p q b : Bool) → cond p q (cond q false true) ≡ false → cond p b (not b) ≡ true → cond q b (not b) ≡ false
    signs true true b s t = absurd (true≢false s)
    signs true false b s t = rw t refl
    signs false true true s t = absurd (false≢true t)
    signs false true false s t = refl
    signs false false b s t = absurd (true≢false s)

-- some literal of the list is true
abbrev pub Holds : (ℕ → Bool) → List Lit → Type 0
Holds v [] = ⊥
Holds v (l ∷ ls) = (lit_true v l ≡ true) ⊎ Holds v ls

pub holds_from : (v : ℕ → Bool) (ls : List Lit) → clause_true v ls ≡ true → Holds v ls
holds_from v [] t = absurd (false≢true t)
holds_from v (l ∷ ls) t = elim (or_cases (lit_true v l) (clause_true v ls) t) [ inl h ↦ inl h | inr h ↦ inr (holds_from v ls h) ]

pub from_holds : (v : ℕ → Bool) (ls : List Lit) → Holds v ls → clause_true v ls ≡ true
from_holds v [] h = absurd h
from_holds v (l ∷ ls) (inl h) = or_left (lit_true v l) (clause_true v ls) h
from_holds v (l ∷ ls) (inr h) = or_right (lit_true v l) (clause_true v ls) (from_holds v ls h)

module _ (v : ℕ → Bool) where
  -- where nothing clashes the join is true if one of the two is
  either_at : (x : Lit) (xs : List Lit) (rest : List Lit → List Lit) (count : List Lit → ℕ)
      → ((zs : List Lit) → count zs ≡ 0 → Holds v xs ⊎ Holds v zs → Holds v (rest zs))
      → (ys : List Lit) → clashes_at x count ys ≡ 0 → Holds v (x ∷ xs) ⊎ Holds v ys → Holds v (joined_at x rest ys)
  either_at x xs rest count more [] none (inr t) = absurd t
  either_at x xs rest count more [] none (inl (inl h)) = inl h
  either_at x xs rest count more [] none (inl (inr h)) = inr (more [] none (inl h))
  either_at x xs rest count more (y ∷ ys) none t =
      elim (cases_Bool (ltb x.variable y.variable)) [
        | inl e ↦ rw e (
            let none' : count (y ∷ ys) ≡ 0 = rw e at none in
            elim t [
              | inl s ↦ elim s [ inl h ↦ inl h | inr h ↦ inr (more (y ∷ ys) none' (inl h)) ]
              | inr s ↦ inr (more (y ∷ ys) none' (inr s))
            ])
        | inr e ↦ rw e (elim (cases_Bool (ltb y.variable x.variable)) [
          | inl f ↦ rw f (
              let none' : clashes_at x count ys ≡ 0 = rw f at (rw e at none) in
              elim t [
                | inl s ↦ inr (either_at x xs rest count more ys none' (inl s))
                | inr s ↦ elim s [ inl h ↦ inl h | inr h ↦ inr (either_at x xs rest count more ys none' (inr h)) ]
              ])
          | inr f ↦ rw f (
              let same : x.variable ≡ y.variable = omega (arith, ltb-false _ _ e, ltb-false _ _ f) in
              let count' = rw f at (rw e at none) in
              elim (cases_Bool (same_sign x y)) [
                | inl g ↦ rw g (
                    let none' : count ys ≡ 0 = rw g at count' in
                    let like = lit_true-same v x y same g in
                    elim t [
                      | inl s ↦ elim s [ inl h ↦ inl h | inr h ↦ inr (more ys none' (inl h)) ]
                      | inr s ↦ elim s [ inl h ↦ inl (like ∙ h) | inr h ↦ inr (more ys none' (inr h)) ]
                    ])
                | inr g ↦ let some : 1 + count ys ≡ 0 = rw g at count' in absurd (omega arith)
              ])
        ])
      ]

  either : (xs ys : List Lit) → clashes xs ys ≡ 0 → Holds v xs ⊎ Holds v ys → Holds v (joined xs ys)
  either [] ys none (inl t) = absurd t
  either [] ys none (inr t) = t
  either (x ∷ xs) ys none t = either_at x xs (joined xs) (clashes xs) (either xs) ys none t

  -- where one variable clashes the join is true if both are
  both_at : (x : Lit) (xs : List Lit)
      → ((zs : List Lit) → clashes xs zs ≡ 1 → Holds v xs → Holds v zs → Holds v (joined xs zs))
      → (ys : List Lit) → clashes_at x (clashes xs) ys ≡ 1 → Holds v (x ∷ xs) → Holds v ys → Holds v (joined_at x (joined xs) ys)
  both_at x xs more [] one s t = absurd t
  both_at x xs more (y ∷ ys) one s t =
      elim (cases_Bool (ltb x.variable y.variable)) [
        | inl e ↦ rw e (
            let one' : clashes xs (y ∷ ys) ≡ 1 = rw e at one in
            elim s [ inl h ↦ inl h | inr h ↦ inr (more (y ∷ ys) one' h t) ])
        | inr e ↦ rw e (elim (cases_Bool (ltb y.variable x.variable)) [
          | inl f ↦ rw f (
              let one' : clashes_at x (clashes xs) ys ≡ 1 = rw f at (rw e at one) in
              elim t [ inl h ↦ inl h | inr h ↦ inr (both_at x xs more ys one' s h) ])
          | inr f ↦ rw f (
              let same : x.variable ≡ y.variable = omega (arith, ltb-false _ _ e, ltb-false _ _ f) in
              let count = rw f at (rw e at one) in
              elim (cases_Bool (same_sign x y)) [
                | inl g ↦ rw g (
                    let one' : clashes xs ys ≡ 1 = rw g at count in
                    let like = lit_true-same v x y same g in
                    elim s [
                      | inl h ↦ inl h
                      | inr h ↦ elim t [ inl k ↦ inl (like ∙ k) | inr k ↦ inr (more ys one' h k) ]
                    ])
                | inr g ↦ rw g (
                    let some : 1 + clashes xs ys ≡ 1 = rw g at count in
                    let none : clashes xs ys ≡ 0 = omega arith in
                    elim s [
                      | inr h ↦ either xs ys none (inl h)
                      | inl h ↦ elim t [
                        | inl k ↦ absurd (false≢true (sym (lit_true-opposite v x y same g h) ∙ k))
                        | inr k ↦ either xs ys none (inr k)
                      ]
                    ])
              ])
        ])
      ]

  both : (xs ys : List Lit) → clashes xs ys ≡ 1 → Holds v xs → Holds v ys → Holds v (joined xs ys)
  both [] ys one s t = absurd s
  both (x ∷ xs) ys one s t = both_at x xs (both xs) ys one s t

  -- the resolvent of two true clauses is true
  pub resolvent-true : (a b c : List Lit) → resolvent a b ≡ Some c → clause_true v a ≡ true → clause_true v b ≡ true → clause_true v c ≡ true
  resolvent-true a b c e s t =
      elim (cases_Bool (eqb (clashes a b) 1)) [
        | inl h ↦
            let is : Some (joined a b) ≡ Some c = rw h at e in
            let it : joined a b ≡ c = cc in
            from_holds v c (subst (λ (ls : List Lit). Holds v ls) it (both a b (eqb-true _ _ h) (holds_from v a s) (holds_from v b t)))
        | inr h ↦ let no = rw h at e in cc
      ]

  numbered-true : (clauses : List (List Lit)) (i : ℕ) (c : List Lit) → clauses_true v clauses ≡ true → slice_get clauses i ≡ Some c → clause_true v c ≡ true
  numbered-true [] i c t e = cc
  numbered-true (d ∷ ds) zero c t e = let it : d ≡ c = cc in subst (λ (ls : List Lit). clause_true v ls ≡ true) it ((and_parts (clause_true v d) (clauses_true v ds) t).0)
  numbered-true (d ∷ ds) (suc i) c t e = numbered-true ds i c ((and_parts (clause_true v d) (clauses_true v ds) t).1) e

  numbered_from_one-true : (clauses : List (List Lit)) (n : ℕ) (c : List Lit) → clauses_true v clauses ≡ true → clause_numbered clauses n ≡ Some c → clause_true v c ≡ true
  numbered_from_one-true clauses n c t e =
      elim (cases_Bool (eqb n 0)) [
        | inl h ↦ let no = rw h at e in cc
        | inr h ↦ let at = rw h at e in numbered-true clauses (n - 1) c t at
      ]

  along-true : (clauses : List (List Lit)) (chain : List ℕ) (c r : List Lit) → clauses_true v clauses ≡ true → clause_true v c ≡ true
      → resolved_along clauses c chain ≡ Some r → clause_true v r ≡ true
  along-true clauses [] c r t h e = let it : c ≡ r = cc in subst (λ (ls : List Lit). clause_true v ls ≡ true) it h
  along-true clauses (n ∷ ns) c r t h e = go (λ q s. along-true clauses ns q r t s) (clause_numbered clauses n) refl e
    where
      then : ((q : List Lit) → clause_true v q ≡ true → resolved_along clauses q ns ≡ Some r → clause_true v r ≡ true) → (d : List Lit) (o : Option (List Lit)) → clause_true v d ≡ true → resolvent c d ≡ o
          → option_and_then (λ q. resolved_along clauses q ns) o ≡ Some r → clause_true v r ≡ true
      then more d None td is e = cc
      then more d (Some q) td is e = more q (resolvent-true c d q is h td) e

      go : ((q : List Lit) → clause_true v q ≡ true → resolved_along clauses q ns ≡ Some r → clause_true v r ≡ true) → (o : Option (List Lit)) → clause_numbered clauses n ≡ o
          → option_and_then (λ d. option_and_then (λ q. resolved_along clauses q ns) (resolvent c d)) o ≡ Some r → clause_true v r ≡ true
      go more None is e = cc
      go more (Some d) is e = then more d (resolvent c d) (numbered_from_one-true clauses n d t is) refl e

  -- what a chain of true clauses gives is true
  pub chain-true : (clauses : List (List Lit)) (chain : List ℕ) (r : List Lit) → clauses_true v clauses ≡ true
      → chain_resolvent clauses chain ≡ Some r → clause_true v r ≡ true
  chain-true clauses [] r t e = cc
  chain-true clauses (n ∷ ns) r t e = go (clause_numbered clauses n) refl e
    where
      go : (o : Option (List Lit)) → clause_numbered clauses n ≡ o
          → option_and_then (λ c. resolved_along clauses c ns) o ≡ Some r → clause_true v r ≡ true
      go None is e = cc
      go (Some c) is e = along-true clauses ns c r t (numbered_from_one-true clauses n c t is) e

  appended-true : (cs ds : List (List Lit)) → clauses_true v cs ≡ true → clauses_true v ds ≡ true → clauses_true v (cs ++ ds) ≡ true
  appended-true [] ds s t = t
  appended-true (c ∷ cs) ds s t =
      let parts = and_parts (clause_true v c) (clauses_true v cs) s in
      and_from (clause_true v c) (clauses_true v (cs ++ ds)) parts.0 (appended-true cs ds parts.1 t)

  -- each of the first n clauses is true where each one is that has only true ones before it
  taken-true : (log : List Step) (n : ℕ) → ((i : ℕ) (s : Step) → i < n → slice_get log i ≡ Some s → clause_true v s.clause ≡ true)
      → clauses_true v (map (λ s. s.clause) (take n log)) ≡ true
  taken-true [] zero h = refl
  taken-true [] (suc n) h = refl
  taken-true (s ∷ log) zero h = refl
  taken-true (s ∷ log) (suc n) h =
      and_from (clause_true v s.clause) (clauses_true v (map (λ s. s.clause) (take n log))) (h 0 s (omega arith) refl)
      (taken-true log n (λ i t lt e. h (suc i) t (omega arith) e))

  -- each step of a refutation is true wherever the clauses are
  pub step-true : (clauses : List (List Lit)) (log : List Step) → ((index : ℕ) → index < length log → IsSoundAt clauses log index) → clauses_true v clauses ≡ true
      → (n i : ℕ) (s : Step) → i < n → slice_get log i ≡ Some s → clause_true v s.clause ≡ true
  step-true clauses log sound_at t zero i s lt e = absurd (omega arith)
  step-true clauses log sound_at t (suc n) i s lt e =
      go (λ j w below at'. step-true clauses log sound_at t n j w (omega arith) at') (sound_at i (slice_get_within log i s e))
    where
      go : ((j : ℕ) (w : Step) → j < i → slice_get log j ≡ Some w → clause_true v w.clause ≡ true) → IsSoundAt clauses log i → clause_true v s.clause ≡ true
      go earlier (u, at, sound) =
          let same : u ≡ s = cc in
          let before = taken-true log i earlier in
          let it = chain-true (standing_before clauses log i) u.chain u.clause (appended-true clauses (map (λ s. s.clause) (take i log)) t before) sound in
          subst (λ (w : Step). clause_true v w.clause ≡ true) same it

  -- what is refuted is nowhere true
  pub refuted-false : (clauses : List (List Lit)) (log : List Step) → Refutes clauses log → clauses_true v clauses ≡ true → ⊥
  refuted-false clauses log refutes t = go refutes.empty
    where
      go : EndsEmpty log → ⊥
      go (s, at, none) =
          let it = step-true clauses log refutes.sound t (suc (length log - 1)) (length log - 1) s (omega arith) at in
          let no : clause_true v [] ≡ true = rw none at it in absurd (false≢true no)

  -- where the clauses are true and each step is sound, the clauses of all steps are true
  pub standing-true : (clauses : List (List Lit)) (log : List Step) → ((index : ℕ) → index < length log → IsSoundAt clauses log index) → clauses_true v clauses ≡ true
      → clauses_true v (clauses ++ map (λ s. s.clause) log) ≡ true
  standing-true clauses log sound_at t =
      let all = taken-true log (length log) (λ i s lt e. step-true clauses log sound_at t (length log) i s lt e) in
      let whole = take-length log in
      appended-true clauses (map (λ s. s.clause) log) t (subst (λ (x : List Step). clauses_true v (map (λ s. s.clause) x) ≡ true) whole all)
