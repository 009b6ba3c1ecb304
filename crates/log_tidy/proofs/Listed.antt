-- Which entries an index has.
use Rattle.log_tidy.proofs.Common.{ℕ, zero, suc, ◌≡◌, ◌<◌, ◌+◌, ◌%◌, ◌++◌, ◌⊎◌, inl, inr, Bool, true, false, cond, List, [], ◌∷◌, Some, None, length, slice_get, get_or, take, arith, sym, ap, subst, refl, ◌∙◌, slice_set, cases_eq, length-set, take_more, get_or_from_slice_get, slice_get_within, Lit, Has, clause_numbered, Entry, Index, IsWithin, AreNone, IsEntered, IsFound, IsIndexed, IsListed, IsPut, IsSized, Covers, Signature, signature, slot}
use Rattle.std.proofs.Math.Nat.{mod-lt}
use Rattle.log_tidy.proofs.Numbered.{numbered-from}
use Rattle.log_tidy.proofs.Signatures.{signature-covers}

module _ {X : Type 0} where
  pub item-last : (xs : List X) (x y : X) → Has (xs ++ x ∷ []) y → Has xs y ⊎ (x ≡ y)
  item-last [] x y h = elim h [ inl e ↦ inr e | inr g ↦ absurd g ]
  item-last (z ∷ zs) x y h = elim h [
    | inl e ↦ inl (inl e)
    | inr g ↦ elim (item-last zs x y g) [ inl k ↦ inl (inr k) | inr k ↦ inr k ]
  ]

  pub item-early : (xs : List X) (x y : X) → Has xs y → Has (xs ++ x ∷ []) y
  item-early [] x y h = absurd h
  item-early (z ∷ zs) x y h = elim h [ inl e ↦ inl e | inr g ↦ inr (item-early zs x y g) ]

  pub item-own : (xs : List X) (x : X) → Has (xs ++ x ∷ []) x
  item-own [] x = inl refl
  item-own (z ∷ zs) x = inr (item-own zs x)

  pub item-at : (xs : List X) (i : ℕ) (d : X) → i < length xs → Has xs (get_or xs i d)
  item-at [] i d lt = absurd (omega (arith, lt))
  item-at (x ∷ xs) zero d lt = inl refl
  item-at (x ∷ xs) (suc i) d lt = inr (item-at xs i d (omega (arith, lt)))

  pub item-got : (xs : List X) (i : ℕ) (x : X) → slice_get xs i ≡ Some x → Has xs x
  item-got xs i x at = subst (λ (y : X). Has xs y) (get_or_from_slice_get xs i x x at) (item-at xs i x (slice_get_within xs i x at))

  pub item-more : (xs : List X) (i : ℕ) (d y : X) → i < length xs → Has (take (i + 1) xs) y → Has (take i xs) y ⊎ (get_or xs i d ≡ y)
  item-more xs i d y lt h = item-last (take i xs) (get_or xs i d) y (subst (λ (ys : List X). Has ys y) (take_more xs i d lt) h)

  get-set_same : (xs : List X) (i : ℕ) (x : X) → i < length xs → slice_get (slice_set xs i x) i ≡ Some x
  get-set_same [] i x lt = absurd (omega (arith, lt))
  get-set_same (y ∷ ys) zero x lt = refl
  get-set_same (y ∷ ys) (suc i) x lt = get-set_same ys i x (omega (arith, lt))

  get-set_other : (xs : List X) (i j : ℕ) (x : X) → (j ≡ i → ⊥) → slice_get (slice_set xs i x) j ≡ slice_get xs j
  get-set_other [] i j x ne = refl
  get-set_other (y ∷ ys) zero zero x ne = absurd (ne refl)
  get-set_other (y ∷ ys) zero (suc j) x ne = refl
  get-set_other (y ∷ ys) (suc i) zero x ne = refl
  get-set_other (y ∷ ys) (suc i) (suc j) x ne = get-set_other ys i j x (λ e. ne (ap suc e))

-- a clause of the list has a number
pub numbered-has : (cs : List (List Lit)) (c : List Lit) → Has cs c → (n : ℕ) × (clause_numbered cs n ≡ Some c)
numbered-has cs c h = let p = place cs h in (p.0 + 1, numbered-from cs (p.0 + 1) p.0 refl ∙ p.1)
  where
    place : (ds : List (List Lit)) → Has ds c → (i : ℕ) × (slice_get ds i ≡ Some c)
    place [] h = absurd h
    place (d ∷ ds) (inl e) = (0, ap (λ (x : List Lit). Some x) e)
    place (d ∷ ds) (inr g) = let p = place ds g in (suc p.0, p.1)

-- one more entry keeps the others
pub put-entered : (old new : Index) (c : List Lit) (literal : Lit) (entry : Entry) → IsSized old → Has c literal → entry.signature ≡ signature c → slot old.half literal < old.half + old.half
    → IsPut old new literal entry → IsEntered old new entry.number c
put-entered old new c literal entry s has signed lt put =
    let lists = old.lists.items in
    let k = slot old.half literal in
    let list = get_or lists k [] in
    let after = slice_set lists k (list ++ entry ∷ []) in
    let room : k < length lists = omega (arith, lt, s.lists) in
    record {
      half = put.half;
      sized = record {
        some = subst (λ n. 0 < n) (sym put.half) s.some;
        small = subst (λ n. n + n < 18446744073709551616) (sym put.half) s.small;
        lists = ap length put.lists ∙ (length-set lists k (list ++ entry ∷ []) ∙ (s.lists ∙ sym (ap (λ n. n + n) put.half)));
      };
      kept = λ n d h. moved n d (kept-listed k list entry room refl n d h);
      own = moved entry.number c (record {
        literal = literal;
        has = has;
        list = list ++ entry ∷ [];
        at = get-set_same lists k (list ++ entry ∷ []) room;
        entry = entry;
        among = item-own list entry;
        same = refl;
        signed = signed;
      });
    }
  where
    moved : (n : ℕ) (d : List Lit)
        → IsListed old.half (slice_set old.lists.items (slot old.half literal) (get_or old.lists.items (slot old.half literal) [] ++ entry ∷ [])) n d
        → IsListed new.half new.lists.items n d
    moved n d h =
        subst (λ m. IsListed m new.lists.items n d) (sym put.half)
        (subst (λ (ls : List (List Entry)). IsListed old.half ls n d) (sym put.lists) h)

    kept-listed : (k : ℕ) (list : List Entry) (entry : Entry) → k < length old.lists.items → list ≡ get_or old.lists.items k [] → (n : ℕ) (d : List Lit) → IsListed old.half old.lists.items n d
        → IsListed old.half (slice_set old.lists.items k (list ++ entry ∷ [])) n d
    kept-listed k list entry room is n d h = elim (cases_eq (slot old.half h.literal) k) [
      | inl e ↦
          let its : list ≡ h.list = is ∙ get_or_from_slice_get old.lists.items k h.list [] (ap (slice_get old.lists.items) (sym e) ∙ h.at) in
          record {
            literal = h.literal;
            has = h.has;
            list = list ++ entry ∷ [];
            at = ap (slice_get (slice_set old.lists.items k (list ++ entry ∷ []))) e ∙ get-set_same old.lists.items k (list ++ entry ∷ []) room;
            entry = h.entry;
            among = item-early list entry h.entry (subst (λ (es : List Entry). Has es h.entry) (sym its) h.among);
            same = h.same;
            signed = h.signed;
          }
      | inr ne ↦ record {
        literal = h.literal;
        has = h.has;
        list = h.list;
        at = get-set_other old.lists.items k (slot old.half h.literal) (list ++ entry ∷ []) ne ∙ h.at;
        entry = h.entry;
        among = h.among;
        same = h.same;
        signed = h.signed;
      }
    ]

-- one more literal of whose slot no entry is of a clause within this one
pub none-more : (clauses : List (List Lit)) (half : ℕ) (lists : List (List Entry)) (own : Signature) (c : List Lit) (i : ℕ) (d : Lit) (found : List Entry) → i < length c
    → slice_get lists (slot half (get_or c i d)) ≡ Some found → AreNone clauses found own c
    → ((l : Lit) (list : List Entry) → Has (take i c) l → slice_get lists (slot half l) ≡ Some list → AreNone clauses list own c)
    → (l : Lit) (list : List Entry) → Has (take (i + 1) c) l → slice_get lists (slot half l) ≡ Some list → AreNone clauses list own c
none-more clauses half lists own c i d found lt at none before l list has here = elim (item-more c i d l lt has) [
  | inl g ↦ before l list g here
  | inr same ↦
      let there : slice_get lists (slot half (get_or c i d)) ≡ Some list = ap (λ (m : Lit). slice_get lists (slot half m)) same ∙ here in
      let both : found ≡ list = cc in
      subst (λ (es : List Entry). AreNone clauses es own c) both none
]

-- where no list of a literal has one, no clause lies within this one
pub none-found : (clauses : List (List Lit)) (index : Index) (c : List Lit) → IsIndexed clauses index
    → ((l : Lit) (list : List Entry) → Has c l → slice_get index.lists.items (slot index.half l) ≡ Some list → AreNone clauses list (signature c) c)
    → IsFound clauses c None
none-found clauses index c h none d among contains =
    let numbered = numbered-has clauses d among in
    let its = h.each numbered.0 d numbered.1 in
    none its.literal its.list (contains its.literal its.has) its.at its.entry its.among (
      subst (λ (s : Signature). Covers (signature c) s) (sym its.signed) (signature-covers c d contains),
      subst (λ n. IsWithin clauses c n) (sym its.same) (d, numbered.1, contains),
    )

pub slot-within : (half : ℕ) (l : Lit) → 0 < half → slot half l < half + half
slot-within half l some = go l.positive
  where
    go : (b : Bool) → cond b (l.variable % half) (half + l.variable % half) < half + half
    go true = omega (arith, mod-lt l.variable some)
    go false = omega (arith, mod-lt l.variable some)
