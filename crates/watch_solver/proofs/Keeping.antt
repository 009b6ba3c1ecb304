-- Clauses that are kept stay so while the trail grows and pairs change.
use Rattle.watch_solver.proofs.Common.{ℕ, zero, suc, ◌≡◌, ◌<◌, ◌+◌, ◌-◌, ◌++◌, inl, inr, false, List, [], ◌∷◌, Some, slice_get, take, length, nat_eq, arith, sym, ap, subst, refl, ◌∙◌, set, cases_eq, ne_eqb, take-append-le, take_all, slice_get_within, Has, clause_numbered, Lit, opposite_of, Entry, IsConsistent, IsFalse, IsSettled, Stands, get-early, get-late, length-push, Pair, lit_of, AreFree, AreKept, AreKeptBack, IsKept, IsMove, IsOneOf}
use Rattle.watch_solver.proofs.Lists.{get-set}

-- what is true early is true on the whole trail
pub stands-whole : (trail : List Entry) (i : ℕ) (l : Lit) → Stands (take i trail) l → Stands trail l
stands-whole [] zero l s = absurd s
stands-whole [] (suc i) l s = absurd s
stands-whole (e ∷ es) zero l s = absurd s
stands-whole (e ∷ es) (suc i) l (inl a) = inl a
stands-whole (e ∷ es) (suc i) l (inr a) = inr (stands-whole es i l a)

-- the clause of the number after an index
pub get-numbered : (clauses : List (List Lit)) (i : ℕ) (c : List Lit) → clause_numbered clauses (i + 1) ≡ Some c → slice_get clauses i ≡ Some c
get-numbered clauses i c e =
    let back : i + 1 - 1 ≡ i = omega arith in
    let f : nat_eq (i + 1) 0 ≡ false = ne_eqb (i + 1) 0 (λ z. omega (arith, z)) in
    rw (f, back) at e

pub numbered-get : (clauses : List (List Lit)) (i : ℕ) (c : List Lit) → slice_get clauses i ≡ Some c → clause_numbered clauses (i + 1) ≡ Some c
numbered-get clauses i c e =
    let back : i + 1 - 1 ≡ i = omega arith in
    let f : nat_eq (i + 1) 0 ≡ false = ne_eqb (i + 1) 0 (λ z. omega (arith, z)) in
    rw (f, back) e

-- on a longer trail
pub kept-later : (early trail trail' : List Entry) → ((l : Lit) → Stands trail l → Stands trail' l) → (c : List Lit) (p : Pair) → IsKept early trail c p → IsKept early trail' c p
kept-later early trail trail' more c p (inl t) = inl (t.0, t.1, more t.0 t.2)
kept-later early trail trail' more c p (inr free) = inr free

-- one of the two literals isn't false
pub free-one : (early : List Entry) (c : List Lit) (p : Pair) (l : Lit) → AreFree early c p → IsOneOf p l → IsFalse early l → ⊥
free-one early c p l free (inl e) f = free.first (subst (λ (k : Lit). IsFalse early k) (sym e) f)
free-one early c p l free (inr e) f = free.second (subst (λ (k : Lit). IsFalse early k) (sym e) f)

-- where a clause watches another pair
module _ (clauses : List (List Lit)) (pairs : List Pair) (trail : List Entry) (f : Lit) (q : ℕ) (new : Pair) (move : IsMove clauses pairs trail f q new) where
  pub free-moved : (early late : List Entry) → ((l : Lit) → IsFalse late l → IsFalse trail l) → (IsFalse late (lit_of new.second) → IsFalse early (lit_of new.second))
      → AreFree early move.clause move.old → AreFree late move.clause new
  free-moved early late part back free = record {
    pair = move.is;
    first = λ g. move.free (part (lit_of new.first) g);
    second = λ g. free-one early move.clause move.old (lit_of new.second) free move.other (back g);
  }

  pub kept-moved : (early now : List Entry) → ((l : Lit) → IsFalse early l → IsFalse trail l) → AreKept clauses pairs early now → AreKept clauses (set pairs q new) early now
  kept-moved early now part kept n c p at there = elim (get-set pairs q n new p (slice_get_within pairs q move.old move.old_at) there) [
    | inr g ↦ kept n c p at g.1
    | inl g ↦
        let here : slice_get clauses q ≡ Some c = subst (λ (k : ℕ). slice_get clauses k ≡ Some c) g.0 at in
        let move_at = move.at in
        let same : move.clause ≡ c = cc in
        subst (λ (x : Pair). IsKept early now c x) g.1
        (subst (λ (d : List Lit). IsKept early now d new) same
        (elim (kept q move.clause move.old move.at move.old_at) [
          | inl t ↦ inl t
          | inr free ↦ inr (free-moved early early part (λ h. h) free)
        ]))
  ]

  pub back-moved : AreKeptBack clauses pairs trail → AreKeptBack clauses (set pairs q new) trail
  back-moved back d decision = kept-moved (take d trail) (take d trail) (λ l h. stands-whole trail d (opposite_of l) h) (back d decision)

-- one more entry that is no decision
pub back-implied : (clauses : List (List Lit)) (pairs : List Pair) (trail : List Entry) (e : Entry) → (e.reason ≡ 0 → ⊥) → AreKeptBack clauses pairs trail
    → AreKeptBack clauses pairs (trail ++ e ∷ [])
back-implied clauses pairs trail e implied back d (x, at, none) = elim (cases_eq d (length trail)) [
  | inl is ↦ absurd (implied (ap (λ (z : Entry). z.reason) (get-late trail e x d is at) ∙ none))
  | inr ne ↦
      let lt : d < length trail = omega (arith, ne, length-push trail e, slice_get_within (trail ++ e ∷ []) d x at) in
      let same : take d (trail ++ e ∷ []) ≡ take d trail = take-append-le d trail (e ∷ []) (omega (arith, lt)) in
      subst (λ (es : List Entry). AreKept clauses pairs es es) (sym same) (back d (x, get-early trail e x d lt at, none))
]

-- or a decision, where all clauses are kept
pub back-decided : (clauses : List (List Lit)) (pairs : List Pair) (trail : List Entry) (e : Entry) → AreKept clauses pairs trail trail → AreKeptBack clauses pairs trail
    → AreKeptBack clauses pairs (trail ++ e ∷ [])
back-decided clauses pairs trail e kept back d (x, at, none) = elim (cases_eq d (length trail)) [
  | inl is ↦
      let same : take d (trail ++ e ∷ []) ≡ trail = take-append-le d trail (e ∷ []) (omega (arith, is)) ∙ take_all d trail (omega (arith, is)) in
      subst (λ (es : List Entry). AreKept clauses pairs es es) (sym same) kept
  | inr ne ↦
      let lt : d < length trail = omega (arith, ne, length-push trail e, slice_get_within (trail ++ e ∷ []) d x at) in
      let same : take d (trail ++ e ∷ []) ≡ take d trail = take-append-le d trail (e ∷ []) (omega (arith, lt)) in
      subst (λ (es : List Entry). AreKept clauses pairs es es) (sym same) (back d (x, get-early trail e x d lt at, none))
]

-- a clause that is kept by the whole trail is settled
pub kept-settled : (clauses : List (List Lit)) (pairs : List Pair) (trail : List Entry) → IsConsistent trail → length pairs ≡ length clauses → AreKept clauses pairs trail trail
    → IsSettled clauses trail
kept-settled clauses pairs trail con count kept c among k but = go (among-at clauses c among)
  where
    among-at : (cs : List (List Lit)) (d : List Lit) → Has cs d → (i : ℕ) × (i < length cs) × (slice_get cs i ≡ Some d)
    among-at [] d h = absurd h
    among-at (x ∷ xs) d (inl e) = (0, omega arith, ap Some e)
    among-at (x ∷ xs) d (inr h) = next (among-at xs d h)
      where
        next : ((i : ℕ) × (i < length xs) × (slice_get xs i ≡ Some d)) → (i : ℕ) × (i < suc (length xs)) × (slice_get (x ∷ xs) i ≡ Some d)
        next (i, lt, e) = (suc i, omega arith, e)

    inside : (ps : List Pair) (i : ℕ) → i < length ps → (p : Pair) × (slice_get ps i ≡ Some p)
    inside [] i lt = absurd (omega arith)
    inside (p ∷ ps) zero lt = (p, refl)
    inside (p ∷ ps) (suc i) lt = inside ps i (omega arith)

    stands : (p : Pair) → IsKept trail trail c p → Stands trail k
    stands p (inl (l, has, here)) = elim (but l has) [
      | inl e ↦ subst (λ (x : Lit). Stands trail x) e here
      | inr f ↦ absurd (con l here f)
    ]
    stands p (inr free) = elim (but (lit_of p.first) free.pair.first) [
      | inr f ↦ absurd (free.first f)
      | inl e ↦ elim (but (lit_of p.second) free.pair.second) [
        | inr f ↦ absurd (free.second f)
        | inl g ↦ absurd (free.pair.apart (e ∙ sym g))
      ]
    ]

    found : (i : ℕ) → slice_get clauses i ≡ Some c → ((p : Pair) × (slice_get pairs i ≡ Some p)) → Stands trail k
    found i at (p, there) = stands p (kept i c p at there)

    go : ((i : ℕ) × (i < length clauses) × (slice_get clauses i ≡ Some c)) → Stands trail k
    go (i, lt, at) = found i at (inside pairs i (omega (arith, lt, count)))

-- one more clause
pub kept-added : (clauses : List (List Lit)) (pairs : List Pair) (c : List Lit) (new : Pair) (early trail : List Entry) → length pairs ≡ length clauses
    → AreKept clauses pairs early trail → IsKept early trail c new → AreKept (clauses ++ c ∷ []) (pairs ++ new ∷ []) early trail
kept-added clauses pairs c new early trail count kept here n d p at there = elim (cases_eq n (length clauses)) [
  | inl e ↦
      subst (λ (x : Pair). IsKept early trail d x) (get-late pairs new p n (e ∙ sym count) there)
      (subst (λ (x : List Lit). IsKept early trail x new) (get-late clauses c d n e at) here)
  | inr ne ↦
      let lt : n < length clauses = omega (arith, ne, length-push clauses c, slice_get_within (clauses ++ c ∷ []) n d at) in
      kept n d p (get-early clauses c d n lt at) (get-early pairs new p n (omega (arith, lt, count)) there)
]
