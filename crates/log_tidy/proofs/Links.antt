-- Resolvents of clauses within those that a resolvent is of.
use Rattle.log_tidy.proofs.Common.{option_and_then, ℕ, zero, suc, ◌≡◌, ◌<◌, ◌≤◌, ◌+◌, ◌-◌, inl, inr, List, [], ◌∷◌, Option, Some, None, length, slice_get, get_or, take, drop, arith, sym, ap, subst, refl, ◌∙◌, cases_lt, drop_all, drop_more, take_more, option_and_then_some, Lit, IsClause, RisesFrom, opposite_of, Step, Has, Resolves, joined, resolvent, chain_resolvent, clause_numbered, resolved_along, one_clash, rises-has, ContainsClause, standing, get-taken, IsWithin, AreParts, AreSame, AreShorter, IsDerived, IsNumbered, IsResolved, Resolve, new_number, renumbered_step}
use Rattle.clause_log.proofs.Joining.{resolvent-one}
use Rattle.clause_log.proofs.Resolving.{resolves-from}
use Rattle.clause_search.proofs.Back.{chain-push}
use Rattle.log_tidy.proofs.Marked.{has-last}
use Rattle.log_tidy.proofs.Numbered.{chain-same, clauses_of, left-numbered, new_number-first, new_number-step, numbered-left, step-numbered}

-- a clause has one literal of a variable
one_literal : (n : ℕ) (ls : List Lit) (a b : Lit) → RisesFrom n ls → Has ls a → Has ls b → a.variable ≡ b.variable → a ≡ b
one_literal n [] a b r h g v = absurd h
one_literal n (x ∷ xs) a b r (inl e) (inl f) v = sym e ∙ f
one_literal n (x ∷ xs) a b r (inl e) (inr g) v = absurd (omega (arith, ap (λ (k : Lit). k.variable) e, rises-has x.variable xs b r.1 g, v))
one_literal n (x ∷ xs) a b r (inr h) (inl f) v = absurd (omega (arith, ap (λ (k : Lit). k.variable) f, rises-has x.variable xs a r.1 h, v))
one_literal n (x ∷ xs) a b r (inr h) (inr g) v = one_literal x.variable xs a b r.1 h g v

module _ (a b whole left right : List Lit) (r : Resolves a b whole) (ca : IsClause a) (cb : IsClause b) (fits-left : ContainsClause a left) (fits-right : ContainsClause b right) where
  keep-left : (Has left r.pivot → ⊥) → ContainsClause whole left
  keep-left absent l h = (r.literals l).1 (
    inl (fits-left l h),
    λ v. absent (subst (λ (k : Lit). Has left k) (one_literal 0 a l r.pivot ca (fits-left l h) r.left v) h),
  )

  keep-right : (Has right (opposite_of r.pivot) → ⊥) → ContainsClause whole right
  keep-right absent l h = (r.literals l).1 (
    inr (fits-right l h),
    λ v. absent (subst (λ (k : Lit). Has right k) (one_literal 0 b l (opposite_of r.pivot) cb (fits-right l h) r.right v) h),
  )

  -- where neither lies within the resolvent, the two have one
  both-resolve : IsClause left → IsClause right → (ContainsClause whole left → ⊥) → (ContainsClause whole right → ⊥) → Resolve left right
  both-resolve cl cr wide-left wide-right = go (resolvent left right) refl
    where
      clash : Has left r.pivot → Has right (opposite_of r.pivot) → resolvent left right ≡ Some (joined left right)
      clash h g = resolvent-one left right (one_clash 0 r.pivot left right cl cr h g (λ l x y. r.only l (fits-left l x) (fits-right (opposite_of l) y)))

      go : (o : Option (List Lit)) → resolvent left right ≡ o → Resolve left right
      go (Some c) is = (c, is)
      go None is = absurd (wide-left (keep-left (λ h. wide-right (keep-right (λ g. let some = clash h g in let z : ⊥ = cc in z)))))

  -- and it lies within the other
  both-within : (c : List Lit) → IsClause left → IsClause right → resolvent left right ≡ Some c → ContainsClause whole c
  both-within c cl cr is l h =
      let s = resolves-from left right cl cr c is in
      let same : s.pivot ≡ r.pivot = r.only s.pivot (fits-left s.pivot s.left) (fits-right (opposite_of s.pivot) s.right) in
      let its = (s.literals l).0 h in
      (r.literals l).1 (
        elim its.0 [ inl g ↦ inl (fits-left l g) | inr g ↦ inr (fits-right l g) ],
        λ v. its.1 (v ∙ ap (λ (k : Lit). k.variable) (sym same)),
      )

pub parts-resolve : (whole left right : List Lit) → AreParts whole left right → IsClause left → IsClause right → (ContainsClause whole left → ⊥) → (ContainsClause whole right → ⊥) → Resolve left right
parts-resolve whole left right (a, b, is, ca, cb, fl, fr) cl cr wl wr = both-resolve a b whole left right (resolves-from a b ca cb whole is) ca cb fl fr cl cr wl wr

pub parts-within : (whole left right c : List Lit) → AreParts whole left right → IsClause left → IsClause right → resolvent left right ≡ Some c → ContainsClause whole c
parts-within whole left right c (a, b, is, ca, cb, fl, fr) cl cr e = both-within a b whole left right (resolves-from a b ca cb whole is) ca cb fl fr c cl cr e

-- a chain of one clause
pub alone-derived : (cs : List (List Lit)) (whole : List Lit) (number : ℕ) (c : List Lit) (s : Step) → clause_numbered cs number ≡ Some c → ContainsClause whole c → s ≡ record { chain = number ∷ []; clause = c } → IsDerived cs whole s
alone-derived cs whole number c s at within is =
    subst (λ (t : Step). IsDerived cs whole t) (sym is) (ap (option_and_then (λ d. resolved_along cs d [])) at, within)

-- a chain with one more clause
pub resolved-derived : (cs : List (List Lit)) (whole : List Lit) (s r : Step) (next : List Lit) (number : ℕ) → AreParts whole s.clause next → IsClause s.clause → IsClause next
    → chain_resolvent cs s.chain ≡ Some s.clause → clause_numbered cs number ≡ Some next → IsResolved s next number r → IsDerived cs whole r
resolved-derived cs whole s r next number parts cl cr sound at is = (
  subst (λ (ns : List ℕ). chain_resolvent cs ns ≡ Some r.clause) (sym is.1) (chain-push cs s.chain number s.clause next r.clause sound at is.0),
  parts-within whole s.clause next r.clause parts cl cr is.0,
)

-- each number of a chain with a resolvent is of a clause
along-numbered : (cs : List (List Lit)) (ns : List ℕ) (c r : List Lit) → resolved_along cs c ns ≡ Some r → (n : ℕ) → Has ns n → IsNumbered cs n
along-numbered cs [] c r e n h = absurd h
along-numbered cs (k ∷ ks) c r e n h =
    option_and_then_some (λ d. option_and_then (λ x. resolved_along cs x ks) (resolvent c d)) (clause_numbered cs k) r e
    (λ d at e'. option_and_then_some (λ x. resolved_along cs x ks) (resolvent c d) r e'
    (λ x is e''. elim h [ inl same ↦ (d, ap (clause_numbered cs) (sym same) ∙ at) | inr g ↦ along-numbered cs ks x r e'' n g ]))

pub chain-numbered : (cs : List (List Lit)) (ns : List ℕ) (r : List Lit) → chain_resolvent cs ns ≡ Some r → (n : ℕ) → Has ns n → IsNumbered cs n
chain-numbered cs [] r e n h = absurd h
chain-numbered cs (k ∷ ks) r e n h =
    option_and_then_some (λ c. resolved_along cs c ks) (clause_numbered cs k) r e
    (λ c at e'. elim h [ inl same ↦ (c, ap (clause_numbered cs) (sym same) ∙ at) | inr g ↦ along-numbered cs ks c r e' n g ])

pub has-get : (ns : List ℕ) (i d : ℕ) → i < length ns → Has ns (get_or ns i d)
has-get [] i d lt = absurd (omega (arith, lt))
has-get (n ∷ ns) zero d lt = inl refl
has-get (n ∷ ns) (suc i) d lt = inr (has-get ns i d (omega (arith, lt)))

-- a number that has a clause within has a clause
pub shorter-numbered : (f : ℕ → ℕ) (old new : List (List Lit)) (n : ℕ) → AreShorter f old new → IsNumbered old n → IsNumbered new (f n)
shorter-numbered f old new n h (d, at) = let w = h n d at in (w.0, w.1)

pub same-more : (f : ℕ → ℕ) (old new : List (List Lit)) (chain : List ℕ) (i : ℕ) (c d : List Lit) → i < length chain → AreSame f old new (take i chain)
    → clause_numbered old (get_or chain i 0) ≡ Some c → clause_numbered new (f (get_or chain i 0)) ≡ Some d → d ≡ c → AreSame f old new (take (i + 1) chain)
same-more f old new chain i c d lt h at at' same n e has found =
    let n' = get_or chain i 0 in
    elim (has-last (take i chain) n' n (subst (λ (ns : List ℕ). Has ns n) (take_more chain i 0 lt) has)) [
      | inl g ↦ h n e g found
      | inr g ↦ elim g [
        | inl is ↦
            let there : clause_numbered old n' ≡ Some e = ap (clause_numbered old) is ∙ found in
            let both : c ≡ e = cc in
            ap (λ k. clause_numbered new (f k)) (sym is) ∙ (at' ∙ ap (λ (x : List Lit). Some x) (same ∙ both))
        | inr none ↦ absurd none
      ]
    ]

-- what a chain resolved so far, and what its clauses became
pub record IsAnew (old new : List (List Lit)) (target : List Lit) (rest : List ℕ) (index : ℕ) (whole : List Lit) (current : Step) : Type 0 where
  pub along : resolved_along old whole (drop index rest) ≡ Some target
  pub sound : chain_resolvent new current.chain ≡ Some current.clause
  pub within : ContainsClause whole current.clause

module _ (old new : List (List Lit)) (target : List Lit) (rest : List ℕ) (index : ℕ) (whole : List Lit) (current : Step) (h : IsAnew old new target rest index whole current) where
  pub anew-along : index < length rest → resolved_along old whole (get_or rest index 0 ∷ drop (index + 1) rest) ≡ Some target
  anew-along lt = ap (λ (ns : List ℕ). resolved_along old whole ns) (sym (drop_more rest index 0 lt)) ∙ h.along

  -- the next clause of the chain
  pub anew-next : index < length rest → IsNumbered old (get_or rest index 0)
  anew-next lt = along-numbered old (get_or rest index 0 ∷ drop (index + 1) rest) whole target (anew-along lt) (get_or rest index 0) (inl refl)

  -- and the resolvent with it
  pub anew-resolvent : (d : List Lit) → index < length rest → clause_numbered old (get_or rest index 0) ≡ Some d
      → (r : List Lit) × (resolvent whole d ≡ Some r) × (resolved_along old r (drop (index + 1) rest) ≡ Some target)
  anew-resolvent d lt at =
      let n = get_or rest index 0 in
      let ks = drop (index + 1) rest in
      option_and_then_some (λ e. option_and_then (λ x. resolved_along old x ks) (resolvent whole e)) (clause_numbered old n) target (anew-along lt)
      (λ e at' is. option_and_then_some (λ x. resolved_along old x ks) (resolvent whole e) target is
      (λ x found more. let same : e ≡ d = cc in (x, ap (resolvent whole) (sym same) ∙ found, more)))

  pub anew-none : (d : List Lit) → index < length rest → clause_numbered old (get_or rest index 0) ≡ Some d → resolvent whole d ≡ None → ⊥
  anew-none d lt at none = let r = anew-resolvent d lt at in let some = r.1 in let z : ⊥ = cc in z

  pub anew-more : (d r : List Lit) (s : Step) → index < length rest → clause_numbered old (get_or rest index 0) ≡ Some d → resolvent whole d ≡ Some r → IsDerived new r s → IsAnew old new target rest (index + 1) r s
  anew-more d r s lt at is derived =
      let found = anew-resolvent d lt at in
      let its = found.1 in
      let same : found.0 ≡ r = cc in
      record {
        along = subst (λ (x : List Lit). resolved_along old x (drop (index + 1) rest) ≡ Some target) same found.2;
        sound = derived.0;
        within = derived.1;
      }

  pub anew-all : length rest ≤ index → IsDerived new target current
  anew-all le =
      let at : resolved_along old whole [] ≡ Some target = ap (λ (ns : List ℕ). resolved_along old whole ns) (sym (drop_all index rest le)) ∙ h.along in
      let same : whole ≡ target = cc in
      (h.sound, subst (λ (x : List Lit). ContainsClause x current.clause) same h.within)

-- the clauses of the first steps, by the numbers of what lies within them
pub shorter-from : (clauses : List (List Lit)) (log : List Step) (place : ℕ) (numbers : List ℕ) (kept : List Step)
    → ((k : ℕ) (s : Step) → k < place → slice_get log k ≡ Some s → (n : ℕ) × (slice_get numbers k ≡ Some n) × IsWithin (standing clauses kept) s.clause n)
    → AreShorter (new_number (length clauses) numbers) (standing clauses (take place log)) (standing clauses kept)
shorter-from clauses log place numbers kept h n d at = elim (cases_lt (length clauses) n) [
  | inr le ↦ (
    d,
    ap (clause_numbered (standing clauses kept)) (new_number-first (length clauses) numbers n le)
        ∙ numbered-left clauses (clauses_of kept) n d (left-numbered clauses (clauses_of (take place log)) n d le at),
    λ l g. g,
  )
  | inl lt ↦ late (n - length clauses - 1) (omega (arith, lt))
]
  where
    late : (k : ℕ) → n ≡ length clauses + k + 1 → IsWithin (standing clauses kept) d (new_number (length clauses) numbers n)
    late k e =
        let found = step-numbered clauses (take place log) n k d e at in
        let old = get-taken log place k found.0 found.1 in
        let w = h k found.0 old.0 old.1 in (
          w.2.0,
          ap (clause_numbered (standing clauses kept)) (new_number-step (length clauses) numbers n k w.0 e w.1) ∙ w.2.1,
          subst (λ (x : List Lit). ContainsClause x w.2.0) found.2 w.2.2,
        )

-- the clause within another one, by its number
pub within-same : (new : List (List Lit)) (before next : List Lit) (n m : ℕ) → IsWithin new before n → m ≡ n → clause_numbered new m ≡ Some next → ContainsClause before next
within-same new before next n m (d, at, contains) e there =
    let here : clause_numbered new n ≡ Some next = ap (clause_numbered new) (sym e) ∙ there in
    let same : d ≡ next = cc in
    subst (λ (x : List Lit). ContainsClause before x) same contains

pub moved-derived : (old new : List (List Lit)) (count : ℕ) (numbers : List ℕ) (s r : Step) → chain_resolvent old s.chain ≡ Some s.clause → AreSame (new_number count numbers) old new s.chain → r ≡ renumbered_step count numbers s
    → IsDerived new s.clause r
moved-derived old new count numbers s r sound same is = subst (λ (t : Step). IsDerived new s.clause t) (sym is) (chain-same (new_number count numbers) old new s.chain s.clause same sound, λ l h. h)
