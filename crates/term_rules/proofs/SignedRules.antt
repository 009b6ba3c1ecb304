-- Why a dividend in two's complement without the product of its quotient is the remainder.
use Rattle.term_rules.proofs.Common.{ap, ℕ, ◌≡◌, ◌<◌, ◌≤◌, ◌+◌, ◌-◌, ◌*◌, ◌%◌, ◌^◌, Bool, true, false, not, cond, List, length, arith, ◌∙◌, sym, subst, refl, inl, inr, cases_eq, bit_xor, add-mod_right, mod-add-mod, add-mod-mod, mod-eq_of_lt, mod-lt, mod_self, mul_comm, mul-mod_right, mul-mod_second, TermId, Term, Tree, truth, quotient, remainder, value_of, width_of, AreInRange, Makes, bit_at, term_at, tree_in, weight_of, IsMagnitude, IsOpposite, IsSizes, IsSignedQuotient, IsSignedMultiple}
use Rattle.bv_terms.specs.declared.term.BinaryOp.TheVariants as op
use Rattle.bv_terms.specs.Tree as tree
use Rattle.term_rules.specs.declared.signed_divisions.SignedDivision.{SignedDivision}
use Rattle.term_rules.proofs.MultipleRules.{part-of}
use Rattle.term_sums.proofs.MultipleRules.{multiple_and_rest}
use Rattle.term_rules.proofs.Simplifying.{same_tree}
use Rattle.term_rules.proofs.SumRules.{add-cancel}

-- ---- numbers

-- the opposite of the opposite
negated_twice : (m x : ℕ) → x < m → (m - (m - x) % m) % m ≡ x
negated_twice m x lt = elim (cases_eq x 0) [
  | inl none ↦
      let e : (m - x) % m ≡ 0 = ap (λ k. k % m) (let f : m - x ≡ m = omega (arith, none) in f) ∙ mod_self m in
      ap (λ k. k % m) (let f : m - (m - x) % m ≡ m = omega (arith, e) in f) ∙ (mod_self m ∙ sym none)
  | inr some ↦
      let e : (m - x) % m ≡ m - x = mod-eq_of_lt (let small : m - x < m = omega (arith, some, lt) in small) in
      ap (λ k. k % m) (let f : m - (m - x) % m ≡ x = omega (arith, e, lt) in f) ∙ mod-eq_of_lt lt
]

-- of two numbers whose sum is 0 one is the opposite of the other
opposite_of : (m p q : ℕ) → 1 ≤ m → (p + q) % m ≡ 0 → p % m ≡ (m - q % m) % m
opposite_of m p q pos none =
    let zero : (p % m + q % m) % m ≡ 0 = add-mod-mod (p % m) q m ∙ (mod-add-mod p m q ∙ none) in
    sym (add-cancel (p % m) (q % m) m (mod-lt p pos) (mod-lt q pos))
    ∙ (ap (λ k. (k + (m - q % m)) % m) zero ∙ ap (λ k. k % m) (let z : 0 + (m - q % m) ≡ m - q % m = omega arith in z))

negated_product : (m a b : ℕ) → a < m → ((m - a) % m * b) % m ≡ (m - (a * b) % m) % m
negated_product m a b lt =
    let whole : (m - a) + a ≡ m = omega (arith, lt) in
    let split : ((m - a) + a) * b ≡ (m - a) * b + a * b = grind arith in
    let none : ((m - a) * b + a * b) % m ≡ 0 = ap (λ k. k % m) (sym split ∙ ap (λ k. k * b) whole) ∙ mul-mod_right m b in
    ap (λ k. k % m) (mul_comm ((m - a) % m) b)
    ∙ (mul-mod_second b (m - a) m
    ∙ (ap (λ k. k % m) (mul_comm b (m - a)) ∙ opposite_of m ((m - a) * b) (a * b) (omega (arith, lt)) none))

negated_second : (m a b : ℕ) → b < m → (a * ((m - b) % m)) % m ≡ (m - (a * b) % m) % m
negated_second m a b lt =
    ap (λ k. k % m) (mul_comm a ((m - b) % m)) ∙ (negated_product m b a lt ∙ ap (λ k. (m - k % m) % m) (mul_comm b a))

-- a number that its sign is given again
number_of_size : (m x : ℕ) (s : Bool) → x < m → x ≡ cond s ((m - cond s ((m - x) % m) x) % m) (cond s ((m - x) % m) x)
number_of_size m x true lt = sym (negated_twice m x lt)
number_of_size m x false lt = refl

-- the product of two numbers of these magnitudes
signed_product : (m u y : ℕ) (s t : Bool) → u < m → y < m
    → (cond (cond s (not t) t) ((m - u) % m) u * cond t ((m - y) % m) y) % m ≡ cond s ((m - (u * y) % m) % m) ((u * y) % m)
signed_product m u y true true lu ly = negated_second m u y ly
signed_product m u y true false lu ly = negated_product m u y lu
signed_product m u y false true lu ly =
    negated_product m u ((m - y) % m) lu
    ∙ (ap (λ k. (m - k) % m) (negated_second m u y ly) ∙ negated_twice m ((u * y) % m) (mod-lt (u * y) (omega (arith, lu))))
signed_product m u y false false lu ly = refl

-- what is left where the multiple is taken off, with the sign of both
signed_rest : (m x p r : ℕ) (s : Bool) → x < m → p + r ≡ x → cond s ((m - r) % m) r ≡ (cond s ((m - x) % m) x + (m - cond s ((m - p) % m) p)) % m
signed_rest m x p r false lt e = part-of r p x m (let f : r + p ≡ x = omega (arith, e) in f) lt
signed_rest m x p r true lt e = elim (cases_eq p 0) [
  | inl none ↦
      let whole : (m - p) % m ≡ 0 = ap (λ k. k % m) (let f : m - p ≡ m = omega (arith, none) in f) ∙ mod_self m in
      let same : r ≡ x = omega (arith, e, none) in
      let small : (m - x) % m < m = mod-lt (m - x) (omega (arith, lt)) in
      ap (λ k. (m - k) % m) same
      ∙ (sym (mod-eq_of_lt small)
      ∙ (sym (add-mod_right ((m - x) % m) m) ∙ ap (λ k. k % m) (let f : (m - x) % m + m ≡ (m - x) % m + (m - (m - p) % m) = omega (arith, whole) in f)))
  | inr some ↦
      let first : (m - p) % m ≡ m - p = mod-eq_of_lt (let f : m - p < m = omega (arith, some, e, lt) in f) in
      let second : (m - x) % m ≡ m - x = mod-eq_of_lt (let f : m - x < m = omega (arith, some, e, lt) in f) in
      ap (λ k. k % m) (let f : m - r ≡ (m - x) % m + (m - (m - p) % m) = omega (arith, first, second, e, lt) in f)
]

xor_truth : (x y : ℕ) → x < 2 → y < 2 → truth (bit_xor x y) ≡ cond (truth x) (not (truth y)) (truth y)
xor_truth x y lx ly = elim (cases_eq x 0) [
  | inl none ↦ elim (cases_eq y 0) [
    | inl zero ↦ rw none (rw zero refl)
    | inr some ↦ let one : y ≡ 1 = omega (arith, some, ly) in rw none (rw one refl)
  ]
  | inr some ↦ let one : x ≡ 1 = omega (arith, some, lx) in elim (cases_eq y 0) [
    | inl zero ↦ rw one (rw zero refl)
    | inr more ↦ let two : y ≡ 1 = omega (arith, more, ly) in rw one (rw two refl)
  ]
]

xor_turned : (s t : Bool) → cond s (not t) t ≡ cond t (not s) s
xor_turned true true = refl
xor_turned true false = refl
xor_turned false true = refl
xor_turned false false = refl

-- ---- terms

pub signed_quotient : (terms : List Term) (q c opposite size s t a b : TermId) (n : ℕ) (d : SignedDivision) → AreInRange terms
    → tree.Ite (tree_in terms c) (tree_in terms opposite) (tree_in terms size) n ≡ tree_in terms q → size.index < length terms → width_of (tree_in terms size) ≡ n
    → s.index < length terms → width_of (tree_in terms s) ≡ 1
    → ((v : ℕ → ℕ → ℕ) → bit_at v terms c ≡ cond (bit_at v terms s) (not (bit_at v terms t)) (bit_at v terms t))
    → 1 + weight_of (tree_in terms s) ≤ weight_of (tree_in terms c) → IsOpposite terms opposite size → IsSizes terms size s t a b d → IsSignedQuotient terms q a b d
signed_quotient terms q c opposite size s t a b n d range is lz wz ls ws bit heavy turned h =
    let w = width_of (tree_in terms q) in
    let e : width_of (tree_in terms size) ≡ w = wz ∙ ap width_of is in
    let sign : tree_in terms d.sign ≡ tree_in terms s = ap (tree_in terms) h.sign in
    let second : width_of (tree_in terms b) ≡ w = sym h.second.alike ∙ (h.wide.1 ∙ e) in
    record {
      sign = record { within = subst (λ (x : TermId). x.index < length terms) (sym h.sign) ls; wide = ap width_of sign ∙ ws };
      left = record { within = h.within.0; wide = h.wide.0 ∙ e };
      right = record { within = h.within.1; wide = h.wide.1 ∙ e };
      first = subst (λ (x : TermId). IsMagnitude terms a x d.first) (sym h.sign) h.first;
      says = λ lb v.
          let m = 2 ^ w in
          let u = term_at v terms size in
          let y = term_at v terms d.second in
          let x = term_at v terms d.first in
          let sb = bit_at v terms s in
          let tb = bit_at v terms t in
          let lu : u < m = subst (λ k. u < 2 ^ k) e (range v size lz) in
          let ly : y < m = subst (λ k. y < 2 ^ k) (h.wide.1 ∙ e) (range v d.second h.within.1) in
          let lt : term_at v terms b < m = subst (λ k. term_at v terms b < 2 ^ k) second (range v b lb) in
          let value : term_at v terms q ≡ cond (cond sb (not tb) tb) ((m - u) % m) u =
          ap (value_of v) (sym is)
          ∙ (ap (λ k. cond k (term_at v terms opposite) u) (bit v)
          ∙ (ap (λ k. cond (cond sb (not tb) tb) k u) (turned.says v) ∙ ap (λ k. cond (cond sb (not tb) tb) ((2 ^ k - u) % 2 ^ k) u) e)) in
          let size-of : y ≡ cond tb ((m - term_at v terms b) % m) (term_at v terms b) = h.second.says v ∙ ap (λ k. cond tb ((2 ^ k - term_at v terms b) % 2 ^ k) (term_at v terms b)) second in
          let divisor : term_at v terms b ≡ cond tb ((m - y) % m) y =
          number_of_size m (term_at v terms b) tb lt ∙ ap (λ k. cond tb ((m - k) % m) k) (sym size-of) in
          let whole : u ≡ quotient w x y = h.says v ∙ ap (λ k. quotient k x y) e in
          ap (λ k. (k * term_at v terms b) % m) value
          ∙ (ap (λ k. (cond (cond sb (not tb) tb) ((m - u) % m) u * k) % m) divisor
          ∙ (signed_product m u y sb tb lu ly
          ∙ (ap (λ k. cond sb ((m - (k * y) % m) % m) ((k * y) % m)) whole
          ∙ ap (λ (z : Tree). cond (truth (value_of v z)) ((m - (quotient w x y * y) % m) % m) ((quotient w x y * y) % m)) (sym sign))));
      least = omega (arith, ap weight_of is, ap weight_of sign, heavy, turned.least, h.least);
    }

negated_where : (m u y : ℕ) (s : Bool) → u < m → (cond s ((m - u) % m) u * y) % m ≡ cond s ((m - (u * y) % m) % m) ((u * y) % m)
negated_where m u y true lt = negated_product m u y lt
negated_where m u y false lt = refl

pub quotient_by_unsigned : (terms : List Term) (q c opposite size first second a b : TermId) (n k : ℕ) → AreInRange terms
    → tree.Ite (tree_in terms c) (tree_in terms opposite) (tree_in terms size) n ≡ tree_in terms q → tree.Binary op.Udiv (tree_in terms first) (tree_in terms second) k ≡ tree_in terms size
    → c.index < length terms → width_of (tree_in terms c) ≡ 1 → size.index < length terms → width_of (tree_in terms size) ≡ n
    → first.index < length terms → second.index < length terms → width_of (tree_in terms first) ≡ k → width_of (tree_in terms second) ≡ k
    → second.index ≡ b.index → IsOpposite terms opposite size → IsMagnitude terms a c first → IsSignedQuotient terms q a b (record { sign = c; first = first; second = second })
quotient_by_unsigned terms q c opposite size first second a b n k range is by lc wc lz wz lf ls wf ws same turned magnitude =
    let w = width_of (tree_in terms q) in
    let e : width_of (tree_in terms size) ≡ w = wz ∙ ap width_of is in
    let narrow : k ≡ w = ap width_of by ∙ e in
    record {
      sign = record { within = lc; wide = wc };
      left = record { within = lf; wide = wf ∙ narrow };
      right = record { within = ls; wide = ws ∙ narrow };
      first = magnitude;
      says = λ lb v.
          let m = 2 ^ w in
          let u = term_at v terms size in
          let x = term_at v terms first in
          let y = term_at v terms second in
          let s = bit_at v terms c in
          let lu : u < m = subst (λ j. u < 2 ^ j) e (range v size lz) in
          let value : term_at v terms q ≡ cond s ((m - u) % m) u =
          ap (value_of v) (sym is) ∙ (ap (λ j. cond s j u) (turned.says v) ∙ ap (λ j. cond s ((2 ^ j - u) % 2 ^ j) u) e) in
          let whole : u ≡ quotient w x y = ap (value_of v) (sym by) ∙ ap (λ j. quotient j x y) narrow in
          ap (λ j. (j * term_at v terms b) % m) value
          ∙ (ap (λ (z : Tree). (cond s ((m - u) % m) u * value_of v z) % m) (sym (same_tree terms second b same))
          ∙ (negated_where m u y s lu ∙ ap (λ j. cond s ((m - (j * y) % m) % m) ((j * y) % m)) whole));
      least = omega (arith, ap weight_of is, ap weight_of by, turned.least);
    }

module _ (terms : List Term) (c s t : TermId) (range : AreInRange terms) (is : tree.Binary op.Xor (tree_in terms s) (tree_in terms t) 1 ≡ tree_in terms c)
    (ls : s.index < length terms) (lt : t.index < length terms) (ws : width_of (tree_in terms s) ≡ 1) (wt : width_of (tree_in terms t) ≡ 1) where
  pub xor_bit : (v : ℕ → ℕ → ℕ) → bit_at v terms c ≡ cond (bit_at v terms s) (not (bit_at v terms t)) (bit_at v terms t)
  xor_bit v =
      ap (λ (x : Tree). truth (value_of v x)) (sym is)
      ∙ xor_truth (term_at v terms s) (term_at v terms t) (subst (λ k. term_at v terms s < 2 ^ k) ws (range v s ls)) (subst (λ k. term_at v terms t < 2 ^ k) wt (range v t lt))

  pub xor_bit_turned : (v : ℕ → ℕ → ℕ) → bit_at v terms c ≡ cond (bit_at v terms t) (not (bit_at v terms s)) (bit_at v terms s)
  xor_bit_turned v = xor_bit v ∙ xor_turned (bit_at v terms s) (bit_at v terms t)

pub signed_remainder_makes : (old new : List Term) (a b id : TermId) (d : SignedDivision) → AreInRange old → a.index < length old → width_of (tree_in old a) ≡ width_of (tree_in old b) → IsSignedMultiple old a b d
    → Makes new id (width_of (tree_in old d.first))
    (λ v. cond (bit_at v old d.sign)
    ((0 + (2 ^ width_of (tree_in old d.first) - remainder (term_at v old d.first) (term_at v old d.second))) % 2 ^ width_of (tree_in old d.first))
    (remainder (term_at v old d.first) (term_at v old d.second)))
    → Makes new id (width_of (tree_in old a)) (λ v. (term_at v old a + (2 ^ width_of (tree_in old a) - term_at v old b)) % 2 ^ width_of (tree_in old a))
signed_remainder_makes old new a b id d range la alike h made =
    let w = width_of (tree_in old a) in
    let e : width_of (tree_in old d.first) ≡ w = h.left.wide ∙ sym alike in
    record {
      within = made.within;
      wide = made.wide ∙ e;
      says = λ v.
          let m = 2 ^ w in
          let s = bit_at v old d.sign in
          let x = term_at v old d.first in
          let y = term_at v old d.second in
          let r = remainder x y in
          let p = (quotient w x y * y) % m in
          let lx : x < m = subst (λ k. x < 2 ^ k) e (range v d.first h.left.within) in
          let dividend : term_at v old a ≡ cond s ((m - x) % m) x =
          number_of_size m (term_at v old a) s (range v a la) ∙ ap (λ k. cond s ((m - k) % m) k) (sym (h.first.says v)) in
          let multiple : term_at v old b ≡ cond s ((m - p) % m) p =
          h.says v ∙ ap (λ k. cond s ((2 ^ k - (quotient k x y * y) % 2 ^ k) % 2 ^ k) ((quotient k x y * y) % 2 ^ k)) (sym alike) in
          made.says v
          ∙ (ap (λ k. cond s ((0 + (2 ^ k - r)) % 2 ^ k) r) e
          ∙ (ap (λ k. cond s (k % m) r) (let z : 0 + (m - r) ≡ m - r = omega arith in z)
          ∙ (signed_rest m x p r s lx (multiple_and_rest w x y lx)
          ∙ (ap (λ k. (k + (m - cond s ((m - p) % m) p)) % m) (sym dividend)
          ∙ ap (λ k. (term_at v old a + (m - k)) % m) (sym multiple)))));
    }
