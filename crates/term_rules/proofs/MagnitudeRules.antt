-- Why the rules of signs and magnitudes are right.
use Rattle.term_rules.proofs.Common.{ap, ℕ, ◌≡◌, ◌<◌, ◌≤◌, ◌+◌, ◌-◌, ◌/◌, ◌%◌, ◌^◌, cond, List, length, arith, ◌∙◌, sym, subst, refl, inl, inr, cases_eq, cases_lt, le-leb, lt-leb, add-mod_right, mod-eq_of_lt, mod_self, pow_pos, div-eq_of_lt, div-eq_of_lt-le, TermId, Term, Tree, truth, is_negative, value_of, width_of, AreInRange, bit_at, term_at, tree_in, weight_of, Form, Known, Makes, form_tree, IsOpposite, IsSign, IsSigned, IsTakenFrom, IsTurned, Simplifies}
use Rattle.std.specs.Prelude.{nat_le, ◌⊎◌}
use Rattle.bv_terms.specs.declared.term.BinaryOp.TheVariants as op
use Rattle.bv_terms.specs.Tree as tree
use Rattle.bv_terms.specs.Trees.{Keeps}
use Rattle.term_rules.proofs.BoundRules.{halves}
use Rattle.term_rules.proofs.Simplifying.{same_tree}

-- ---- numbers

-- what is left of a number without what is left of it without another
taken_back : (a y m : ℕ) → a < m → y < m → (a + (m - (a + (m - y)) % m)) % m ≡ y
taken_back a y m la ly = elim (cases_lt a y) [
  | inl less ↦
      let inner : (a + (m - y)) % m ≡ a + (m - y) = mod-eq_of_lt (let small : a + (m - y) < m = omega (arith, less, ly) in small) in
      ap (λ k. (a + (m - k)) % m) inner
      ∙ (ap (λ k. k % m) (let e : a + (m - (a + (m - y))) ≡ y = omega (arith, less, ly) in e) ∙ mod-eq_of_lt ly)
  | inr more ↦
      let inner : (a + (m - y)) % m ≡ a - y =
      ap (λ k. k % m) (let e : a + (m - y) ≡ (a - y) + m = omega (arith, more, ly) in e) ∙ (add-mod_right (a - y) m ∙ mod-eq_of_lt (let small : a - y < m = omega (arith, la) in small)) in
      ap (λ k. (a + (m - k)) % m) inner
      ∙ (ap (λ k. k % m) (let e : a + (m - (a - y)) ≡ y + m = omega (arith, more, la) in e) ∙ (add-mod_right y m ∙ mod-eq_of_lt ly))
]

-- the highest bit of a number of two halves
highest : (h x : ℕ) → 1 ≤ h → x < h + h → truth (x / h % 2 ^ 1) ≡ nat_le h x
highest h x pos lt = elim (cases_lt x h) [
  | inl low ↦ ap (λ k. truth (k % 2 ^ 1)) (div-eq_of_lt low) ∙ sym (lt-leb h x low)
  | inr high ↦
      let one : x / h ≡ 1 = div-eq_of_lt-le h (omega (arith, high)) (omega (arith, lt)) in
      ap (λ k. truth (k % 2 ^ 1)) one ∙ sym (le-leb h x high)
]

module _ (h m x : ℕ) (whole : m ≡ h + h) (pos : 1 ≤ h) (lt : x < m) where
  opposite-zero : x ≡ 0 → (m - x) % m ≡ 0
  opposite-zero none = ap (λ k. k % m) (let e : m - x ≡ m = omega (arith, none) in e) ∙ mod_self m

  opposite-is : 1 ≤ x → (m - x) % m ≡ m - x
  opposite-is one = mod-eq_of_lt (let small : m - x < m = omega (arith, one, lt) in small)

  picked-first : (n p q : ℕ) → h ≤ n → cond (nat_le h n) p q ≡ p
  picked-first n p q le = ap (λ t. cond t p q) (le-leb h n le)

  picked-second : (n p q : ℕ) → n < h → cond (nat_le h n) p q ≡ q
  picked-second n p q less = ap (λ t. cond t p q) (lt-leb h n less)

  -- the magnitude of the opposite
  of_opposite : cond (nat_le h x) ((m - x) % m) x ≡ cond (nat_le h ((m - x) % m)) x ((m - x) % m)
  of_opposite = elim (cases_eq x 0) [
    | inl none ↦
        let e = opposite-zero none in
        picked-second x ((m - x) % m) x (omega (arith, none, pos)) ∙ (none ∙ (sym e ∙ sym (picked-second ((m - x) % m) x ((m - x) % m) (omega (arith, e, pos)))))
    | inr some ↦
        let one : 1 ≤ x = omega (arith, some) in
        let e = opposite-is one in
        elim (cases_lt x h) [
          | inl low ↦ picked-second x ((m - x) % m) x low ∙ sym (picked-first ((m - x) % m) x ((m - x) % m) (omega (arith, e, low, whole)))
          | inr high ↦
              picked-first x ((m - x) % m) x high
              ∙ elim (cases_lt h x) [
                | inl above ↦ sym (picked-second ((m - x) % m) x ((m - x) % m) (omega (arith, e, above, whole, lt)))
                | inr same ↦ let f : (m - x) % m ≡ x = omega (arith, e, same, high, whole) in f ∙ sym (picked-first ((m - x) % m) x ((m - x) % m) (omega (arith, f, high)))
              ]
        ]
  ]

-- a magnitude r with a sign, t
module _ (h m r t : ℕ) (whole : m ≡ h + h) (pos : 1 ≤ h) (small : r ≤ h) (signed : (t ≡ r) ⊎ (t ≡ (m - r) % m)) where
  below : r < m
  below = omega (arith, whole, pos, small)

  plainly : r ≡ cond (nat_le h r) ((m - r) % m) r
  plainly = elim (cases_lt r h) [
    | inl low ↦ sym (picked-second h m r whole pos below r ((m - r) % m) r low)
    | inr high ↦
        let e = opposite-is h m r whole pos below (let one : 1 ≤ r = omega (arith, high, pos) in one) in
        let f : r ≡ (m - r) % m = omega (arith, e, high, small, whole) in
        f ∙ sym (picked-first h m r whole pos below r ((m - r) % m) r high)
  ]

  twice : (m - (m - r) % m) % m ≡ r
  twice = elim (cases_eq r 0) [
    | inl none ↦
        let e = opposite-zero h m r whole pos below none in
        ap (λ k. k % m) (let f : m - (m - r) % m ≡ m = omega (arith, e) in f) ∙ (mod_self m ∙ sym none)
    | inr some ↦
        let e = opposite-is h m r whole pos below (let one : 1 ≤ r = omega (arith, some) in one) in
        ap (λ k. k % m) (let f : m - (m - r) % m ≡ r = omega (arith, e, below) in f) ∙ mod-eq_of_lt below
  ]

  turned-back : (m - r) % m ≡ cond (nat_le h ((m - r) % m)) ((m - r) % m) r
  turned-back = elim (cases_eq r 0) [
    | inl none ↦
        let e = opposite-zero h m r whole pos below none in
        e ∙ (sym none ∙ sym (picked-second h m r whole pos below ((m - r) % m) ((m - r) % m) r (omega (arith, e, pos))))
    | inr some ↦
        let e = opposite-is h m r whole pos below (let one : 1 ≤ r = omega (arith, some) in one) in
        sym (picked-first h m r whole pos below ((m - r) % m) ((m - r) % m) r (omega (arith, e, small, whole)))
  ]

  -- the magnitude of a number that is one, with a sign
  size_again : r ≡ cond (nat_le h t) ((m - t) % m) t
  size_again = elim signed [
    | inl plain ↦ rw plain plainly
    | inr turned ↦ rw turned (plainly ∙ (of_opposite h m r whole pos below ∙ ap (λ k. cond (nat_le h ((m - r) % m)) k ((m - r) % m)) (sym twice)))
  ]

  -- a magnitude to which its sign is given again
  sign_again : t ≡ cond (nat_le h t) ((m - r) % m) r
  sign_again = elim signed [
    | inl plain ↦ rw plain plainly
    | inr turned ↦ rw turned turned-back
  ]

-- ---- terms

pub difference_of_taken : (terms : List Term) (a b taken : TermId) → AreInRange terms → a.index < length terms → width_of (tree_in terms a) ≡ width_of (tree_in terms b) → IsTakenFrom terms a b taken
    → Simplifies terms (tree.Binary op.Sub (tree_in terms a) (tree_in terms b) (width_of (tree_in terms a))) (Known taken)
difference_of_taken terms a b taken range la alike h =
    let w = width_of (tree_in terms a) in
    record {
      fit = h.within;
      wide = h.wide ∙ sym alike;
      says = λ v.
          let x = term_at v terms a in
          let y = term_at v terms taken in
          let small : y < 2 ^ w = subst (λ k. y < 2 ^ k) (h.wide ∙ sym alike) (range v taken h.within) in
          let value : term_at v terms b ≡ (x + (2 ^ w - y)) % 2 ^ w = h.says v ∙ ap (λ k. (x + (2 ^ k - y)) % 2 ^ k) (sym alike) in
          sym (ap (λ k. (x + (2 ^ w - k)) % 2 ^ w) value ∙ taken_back x y (2 ^ w) (range v a la) small);
      least = omega (arith, h.least);
    }

-- the highest bit of a term
pub highest_bit : (terms : List Term) (a : TermId) (from width : ℕ) → AreInRange terms → a.index < length terms → width ≡ 1 → from + 1 ≡ width_of (tree_in terms a)
    → (v : ℕ → ℕ → ℕ) → truth (term_at v terms a / 2 ^ from % 2 ^ width) ≡ is_negative (width_of (tree_in terms a)) (term_at v terms a)
highest_bit terms a from width range la one top v =
    let w = width_of (tree_in terms a) in
    let x = term_at v terms a in
    let e : from ≡ w - 1 = omega (arith, top) in
    let whole = halves w (let pos : 1 ≤ w = omega (arith, top) in pos) in
    ap (λ k. truth (x / 2 ^ from % 2 ^ k)) one
    ∙ (ap (λ k. truth (x / 2 ^ k % 2 ^ 1)) e
    ∙ highest (2 ^ (w - 1)) x (pow_pos (w - 1)) (omega (arith, whole, range v a la)))

pub sign_of : (terms : List Term) (c a : TermId) (from width : ℕ) → AreInRange terms → a.index < length terms → tree.Extract (tree_in terms a) from width ≡ tree_in terms c → width ≡ 1
    → from + 1 ≡ width_of (tree_in terms a) → IsSign terms c a
sign_of terms c a from width range la is one top = record {
  within = la;
  says = λ v. ap (λ (t : Tree). truth (value_of v t)) (sym is) ∙ highest_bit terms a from width range la one top v;
  least = omega (arith, ap weight_of is);
}

module _ (terms : List Term) (range : AreInRange terms) where
  -- the choice by a sign between a term's opposite and it
  chosen : (c a b : TermId) (v : ℕ → ℕ → ℕ) (w : ℕ) → w ≡ width_of (tree_in terms b) → IsSign terms c b → IsOpposite terms a b
      → cond (bit_at v terms c) (term_at v terms a) (term_at v terms b) ≡ cond (nat_le (2 ^ (w - 1)) (term_at v terms b)) ((2 ^ w - term_at v terms b) % 2 ^ w) (term_at v terms b)
  chosen c a b v w e sign turned =
      ap (λ t. cond t (term_at v terms a) (term_at v terms b)) (sign.says v)
      ∙ (ap (λ k. cond (is_negative (width_of (tree_in terms b)) (term_at v terms b)) k (term_at v terms b)) (turned.says v)
      ∙ ap (λ k. cond (is_negative k (term_at v terms b)) ((2 ^ k - term_at v terms b) % 2 ^ k) (term_at v terms b)) (sym e))

  -- the sign of the same term
  sign-at : (c a b : TermId) → a.index ≡ b.index → IsSign terms c a → IsSign terms c b
  sign-at c a b same h =
      let e : tree_in terms a ≡ tree_in terms b = same_tree terms a b same in
      record {
        within = subst (λ i. i < length terms) same h.within;
        says = λ v. h.says v ∙ ap (λ (t : Tree). is_negative (width_of t) (value_of v t)) e;
        least = omega (arith, h.least, ap weight_of e);
      }

  module _ (c a b signed size : TermId) (la : a.index < length terms) (alike : width_of (tree_in terms a) ≡ width_of (tree_in terms b)) (pos : 1 ≤ width_of (tree_in terms a))
      (sign : IsSign terms c signed) (h : IsSigned terms signed size) (turned : IsOpposite terms a b) where
    pub choice_of_size : b.index ≡ signed.index → Simplifies terms (tree.Ite (tree_in terms c) (tree_in terms a) (tree_in terms b) (width_of (tree_in terms a))) (Known size)
    choice_of_size same =
        let w = width_of (tree_in terms a) in
        let e : tree_in terms b ≡ tree_in terms signed = same_tree terms b signed same in
        let ws : width_of (tree_in terms signed) ≡ w = ap width_of (sym e) ∙ sym alike in
        record {
          fit = h.within;
          wide = h.alike ∙ ws;
          says = λ v.
              let r = term_at v terms size in
              let small : r ≤ 2 ^ (w - 1) = subst (λ k. r ≤ 2 ^ (k - 1)) ws (h.small v) in
              let either : (term_at v terms b ≡ r) ⊎ (term_at v terms b ≡ (2 ^ w - r) % 2 ^ w) =
              subst (λ (t : Tree). (value_of v t ≡ r) ⊎ (value_of v t ≡ (2 ^ w - r) % 2 ^ w)) (sym e)
              (subst (λ k. (term_at v terms signed ≡ r) ⊎ (term_at v terms signed ≡ (2 ^ k - r) % 2 ^ k)) ws (h.says v)) in
              size_again (2 ^ (w - 1)) (2 ^ w) r (term_at v terms b) (sym (halves w pos)) (pow_pos (w - 1)) small either
              ∙ sym (chosen c a b v w alike (sign-at c signed b (sym same) sign) turned);
          least = omega (arith, h.least, ap weight_of e);
        }

    pub choice_of_signed : b.index ≡ size.index → Simplifies terms (tree.Ite (tree_in terms c) (tree_in terms a) (tree_in terms b) (width_of (tree_in terms a))) (Known signed)
    choice_of_signed same =
        let w = width_of (tree_in terms a) in
        let e : tree_in terms b ≡ tree_in terms size = same_tree terms b size same in
        let ws : width_of (tree_in terms signed) ≡ w = sym h.alike ∙ (ap width_of (sym e) ∙ sym alike) in
        record {
          fit = sign.within;
          wide = ws;
          says = λ v.
              let r = term_at v terms size in
              let t = term_at v terms signed in
              let small : r ≤ 2 ^ (w - 1) = subst (λ k. r ≤ 2 ^ (k - 1)) ws (h.small v) in
              let either : (t ≡ r) ⊎ (t ≡ (2 ^ w - r) % 2 ^ w) = subst (λ k. (t ≡ r) ⊎ (t ≡ (2 ^ k - r) % 2 ^ k)) ws (h.says v) in
              let bit : bit_at v terms c ≡ nat_le (2 ^ (w - 1)) t = sign.says v ∙ ap (λ k. is_negative k t) ws in
              let second : term_at v terms b ≡ r = ap (value_of v) e in
              let first : term_at v terms a ≡ (2 ^ w - r) % 2 ^ w =
              turned.says v ∙ (ap (λ k. (2 ^ k - term_at v terms b) % 2 ^ k) (sym alike) ∙ ap (λ k. (2 ^ w - k) % 2 ^ w) second) in
              sign_again (2 ^ (w - 1)) (2 ^ w) r t (sym (halves w pos)) (pow_pos (w - 1)) small either
              ∙ (ap (λ k. cond (nat_le (2 ^ (w - 1)) t) k r) (sym first)
              ∙ (ap (λ k. cond (nat_le (2 ^ (w - 1)) t) (term_at v terms a) k) (sym second)
              ∙ ap (λ k. cond k (term_at v terms a) (term_at v terms b)) (sym bit)));
          least = omega (arith, sign.least);
        }

  pub choice_turned_over : (c a b signed : TermId) → a.index < length terms → 1 ≤ width_of (tree_in terms a) → IsSign terms c signed → signed.index ≡ b.index → IsOpposite terms b a → IsTurned terms c a b
  choice_turned_over c a b signed la pos sign same turned =
      let w = width_of (tree_in terms a) in
      let own = sign-at c signed b same sign in
      record {
        alike = turned.alike;
        says = λ v.
            let x = term_at v terms a in
            let o = (2 ^ w - x) % 2 ^ w in
            let bit : bit_at v terms c ≡ nat_le (2 ^ (w - 1)) o = own.says v ∙ (ap (λ k. is_negative k (term_at v terms b)) turned.alike ∙ ap (λ k. is_negative w k) (turned.says v)) in
            ap (λ k. cond (nat_le (2 ^ (w - 1)) x) k x) (turned.says v)
            ∙ (of_opposite (2 ^ (w - 1)) (2 ^ w) x (sym (halves w pos)) (pow_pos (w - 1)) (range v a la)
            ∙ (ap (λ k. cond (nat_le (2 ^ (w - 1)) o) x k) (sym (turned.says v))
            ∙ ap (λ k. cond k x (term_at v terms b)) (sym bit)));
        least = omega (arith, own.least, turned.least);
      }

pub magnitude_makes : (old mid new : List Term) (a opposite sign id : TermId) (top : ℕ) (highest form : Form) → AreInRange old → a.index < length old → opposite.index < length old
    → top + 1 ≡ width_of (tree_in old a) → width_of (tree_in old opposite) ≡ width_of (tree_in old a) → Simplifies old (tree.Extract (tree_in old a) top 1) highest
    → Makes mid sign (width_of (form_tree old highest)) (λ v. value_of v (form_tree old highest)) → Keeps old mid
    → Simplifies mid (tree.Ite (tree_in mid sign) (tree_in mid opposite) (tree_in mid a) (width_of (tree_in mid opposite))) form
    → Makes new id (width_of (form_tree mid form)) (λ v. value_of v (form_tree mid form))
    → Makes new id (width_of (tree_in old a)) (λ v. cond (is_negative (width_of (tree_in old a)) (term_at v old a)) (term_at v old opposite) (term_at v old a))
magnitude_makes old mid new a opposite sign id top highest form range la lo last alike part made kept choice m = record {
  within = m.within;
  wide = m.wide ∙ (choice.wide ∙ (ap width_of (kept.kept opposite lo) ∙ alike));
  says = λ v.
      let bit : bit_at v mid sign ≡ is_negative (width_of (tree_in old a)) (term_at v old a) =
      ap truth (made.says v ∙ part.says v) ∙ highest_bit old a top 1 range la refl last v in
      m.says v
      ∙ (choice.says v
      ∙ (ap (λ t. cond t (term_at v mid opposite) (term_at v mid a)) bit
      ∙ (ap (λ (t : Tree). cond (is_negative (width_of (tree_in old a)) (term_at v old a)) (value_of v t) (term_at v mid a)) (kept.kept opposite lo)
      ∙ ap (λ (t : Tree). cond (is_negative (width_of (tree_in old a)) (term_at v old a)) (term_at v old opposite) (value_of v t)) (kept.kept a la))));
}
