-- Why a multiple that does not wrap is divided without a remainder.
use Rattle.std.proofs.lemmas.Nat.{mul-lt, pow_pos, pow_below, and_le_l, and_le_r, shr_split, shr_below, mod_below}
use Rattle.std.specs.Prelude.{◌⊎◌}
use Rattle.bv_terms.specs.declared.term.BinaryOp.TheVariants as op
use Rattle.bv_terms.specs.Tree as tree
use Rattle.bv_terms.specs.Tree.{shifted_right}
use Rattle.bv_terms.specs.Trees.{Keeps}
use Rattle.term_rules.specs.Wrapping.{Fits, IsExactFactor, IsExactShift, IsKept, IsRestWhere}
use Rattle.term_rules.specs.declared.wrapping.Plain.{Plain}
use Rattle.term_rules.specs.declared.wrapping.Plain.TheVariants.{Product, Shift, Sum}
use Rattle.term_rules.proofs.Simplifying.{same_tree}
use Rattle.term_rules.proofs.Common.{ap, ℕ, ◌≡◌, ◌<◌, ◌≤◌, ◌+◌, ◌-◌, ◌*◌, ◌/◌, ◌%◌, ◌^◌, Bool, true, false, cond, eqb, inl, inr, nat_lt, nat_eq, not, bit_or, or_add_and, truth, arith, ◌∙◌, sym, subst, refl, eqb-true, cases_lt, lt-ltb, le-ltb, div-add-mod', add-mod_right, mod-eq_of_lt, mul_comm, mul-mod_left, mul-div_cancel, add-mul-mod_self_right, pow-add, ne_eqb, shifted_left, quotient, remainder, List, length, TermId, Term, Tree, value_of, width_of, weight_of, AreInRange, Makes, term_at, bit_at, tree_in}

-- a number below the square whose high half is 0
pub low-half : (w n : ℕ) → n < 2 ^ (w + w) → n / 2 ^ w % 2 ^ w ≡ 0 → n < 2 ^ w
low-half w n lt e =
    let small : n / 2 ^ w < 2 ^ w = shr_below n w w lt in
    let nought : n / 2 ^ w ≡ 0 = sym (mod-eq_of_lt small) ∙ e in
    let none : n / 2 ^ w * 2 ^ w ≡ 0 * 2 ^ w = ap (λ k. k * 2 ^ w) nought in
    let split = shr_split n w in
    let rest = mod_below n (2 ^ w) (pow_pos w) in
    omega (arith, split, rest, none)

pub product-below : (w x y : ℕ) → x < 2 ^ w → y < 2 ^ w → x * y < 2 ^ (w + w)
product-below w x y hx hy = subst (λ k. x * y < k) (sym (pow-add 2 w w)) (mul-lt x y (2 ^ w) (2 ^ w) hx hy)

-- ---- divisions of multiples

pub exact-remainder : (c b : ℕ) → remainder (c * b) b ≡ 0
exact-remainder c b = go (eqb b 0) refl
  where
    go : (t : Bool) → eqb b 0 ≡ t → cond t (c * b) (c * b % b) ≡ 0
    go true e = ap (λ k. c * k) (eqb-true b 0 e) ∙ (let z : c * 0 ≡ 0 = omega arith in z)
    go false e = mul-mod_left c b

pub exact-quotient : (w c b : ℕ) → 1 ≤ b → quotient w (c * b) b ≡ c
exact-quotient w c b some =
    rw (ne_eqb b 0 (λ e. omega (arith, some, e))) (mul-div_cancel c some)

pub rest-of-multiple : (c y b : ℕ) → remainder y b ≡ remainder (y + c * b) b
rest-of-multiple c y b = go (eqb b 0) refl
  where
    go : (t : Bool) → eqb b 0 ≡ t → cond t y (y % b) ≡ cond t (y + c * b) ((y + c * b) % b)
    go true e = let none : c * b ≡ c * 0 = ap (λ k. c * k) (eqb-true b 0 e) in omega (arith, none)
    go false e = sym (add-mul-mod_self_right y c b)

-- a sum that is no less than a part of it
pub whole-sum : (m x y : ℕ) → x < m → y < m → x ≤ (x + y) % m → (x + y) % m ≡ x + y
whole-sum m x y hx hy le = elim (cases_lt (x + y) m) as (λ _. (x + y) % m ≡ x + y) [
  | inl less ↦ mod-eq_of_lt less
  | inr more ↦
      let turned : x + y ≡ (x + y - m) + m = omega (arith, more) in
      let small : x + y - m < m = omega (arith, hx, hy, more) in
      let cut : (x + y) % m ≡ x + y - m = ap (λ k. k % m) turned ∙ (add-mod_right (x + y - m) m ∙ mod-eq_of_lt small) in
      omega (arith, hx, hy, more, cut, le)
]

pub whole-sum-by : (m x y : ℕ) → x < m → y < m → (x ≤ (x + y) % m) ⊎ (y ≤ (x + y) % m) → (x + y) % m ≡ x + y
whole-sum-by m x y hx hy (inl le) = whole-sum m x y hx hy le
whole-sum-by m x y hx hy (inr le) =
    let turned : x + y ≡ y + x = omega arith in
    ap (λ k. k % m) turned ∙ (whole-sum m y x hy hx (subst (λ k. y ≤ k % m) turned le) ∙ sym turned)

-- ---- shifts

-- one that can be undone is a product, of 0 where the amount is the width or more
pub whole-shift : (w x z : ℕ) → shifted_right w (shifted_left w x z) z ≡ x → shifted_left w x z ≡ shifted_left w 1 z * x
whole-shift w x z e = elim (cases_lt z w) as (λ _. shifted_left w x z ≡ shifted_left w 1 z * x) [
  | inl less ↦
      let t : nat_lt z w ≡ true = lt-ltb z w less in
      let m = x * 2 ^ z % 2 ^ w in
      let back : m / 2 ^ z ≡ x = (let f : m / 2 ^ z ≡ shifted_right w (shifted_left w x z) z = rw (t) refl in f) ∙ e in
      let split = shr_split m z in
      let again : m / 2 ^ z * 2 ^ z ≡ x * 2 ^ z = ap (λ k. k * 2 ^ z) back in
      let low : m < 2 ^ w = mod_below (x * 2 ^ z) (2 ^ w) (pow_pos w) in
      let fits : x * 2 ^ z < 2 ^ w = omega (arith, split, again, low) in
      let power : 1 * 2 ^ z ≡ 2 ^ z = omega arith in
      let one : 1 * 2 ^ z % 2 ^ w ≡ 2 ^ z = ap (λ k. k % 2 ^ w) power ∙ mod-eq_of_lt (pow_below z w less) in
      let product : x * 2 ^ z ≡ 2 ^ z * x = omega arith in
      rw (t) (mod-eq_of_lt fits ∙ (product ∙ ap (λ k. k * x) (sym one)))
  | inr more ↦ rw (le-ltb z w more) (let f : 0 ≡ 0 * x = omega arith in f)
]

-- ---- terms that do not wrap

module _ (terms : List Term) (m x y left right : TermId) (n : ℕ) (range : AreInRange terms) (lx : x.index < length terms) (ly : y.index < length terms) (alike : width_of (tree_in terms x) ≡ width_of (tree_in terms y))
    (is : tree.Binary op.Mul (tree_in terms left) (tree_in terms right) n ≡ tree_in terms m) (twice : n ≡ 2 * width_of (tree_in terms x)) where
  pub product_fits : (v : ℕ → ℕ → ℕ) → term_at v terms x * term_at v terms y < 2 ^ n
  product_fits v =
      let w = width_of (tree_in terms x) in
      let e : w + w ≡ n = omega (arith, twice) in
      subst (λ k. term_at v terms x * term_at v terms y < 2 ^ k) e
      (product-below w (term_at v terms x) (term_at v terms y) (range v x lx) (subst (λ k. term_at v terms y < 2 ^ k) (sym alike) (range v y ly)))

  pub whole_product : ((v : ℕ → ℕ → ℕ) → term_at v terms x ≡ term_at v terms left) → ((v : ℕ → ℕ → ℕ) → term_at v terms y ≡ term_at v terms right)
      → (v : ℕ → ℕ → ℕ) → term_at v terms m ≡ term_at v terms x * term_at v terms y
  whole_product hx hy v =
      ap (value_of v) (sym is) ∙ (ap (λ k. (k * term_at v terms right) % 2 ^ n) (sym (hx v)) ∙ (ap (λ k. (term_at v terms x * k) % 2 ^ n) (sym (hy v)) ∙ mod-eq_of_lt (product_fits v)))

  pub whole_product_turned : ((v : ℕ → ℕ → ℕ) → term_at v terms y ≡ term_at v terms left) → ((v : ℕ → ℕ → ℕ) → term_at v terms x ≡ term_at v terms right)
      → (v : ℕ → ℕ → ℕ) → term_at v terms m ≡ term_at v terms x * term_at v terms y
  whole_product_turned hy hx v =
      ap (value_of v) (sym is) ∙ (ap (λ k. (k * term_at v terms right) % 2 ^ n) (sym (hy v)) ∙ (ap (λ k. (term_at v terms y * k) % 2 ^ n) (sym (hx v))
      ∙ (ap (λ k. k % 2 ^ n) (mul_comm (term_at v terms y) (term_at v terms x)) ∙ mod-eq_of_lt (product_fits v))))

pub half_of_product : (terms : List Term) (h m x y : TermId) (from n : ℕ) → AreInRange terms → x.index < length terms → y.index < length terms → width_of (tree_in terms x) ≡ width_of (tree_in terms y)
    → tree.Extract (tree_in terms m) from n ≡ tree_in terms h → from ≡ n → n ≡ width_of (tree_in terms x) → ((v : ℕ → ℕ → ℕ) → term_at v terms m ≡ term_at v terms x * term_at v terms y)
    → (v : ℕ → ℕ → ℕ) → term_at v terms h ≡ 0 → term_at v terms x * term_at v terms y < 2 ^ width_of (tree_in terms x)
half_of_product terms h m x y from n range lx ly alike is same wide product v nought =
    let w = width_of (tree_in terms x) in
    let low : term_at v terms x * term_at v terms y < 2 ^ (w + w) = product-below w (term_at v terms x) (term_at v terms y) (range v x lx) (subst (λ k. term_at v terms y < 2 ^ k) (sym alike) (range v y ly)) in
    let value : term_at v terms m / 2 ^ from % 2 ^ n ≡ 0 = ap (value_of v) is ∙ nought in
    let cut : (term_at v terms x * term_at v terms y) / 2 ^ w % 2 ^ w ≡ 0 =
    ap (λ k. k / 2 ^ w % 2 ^ w) (sym (product v)) ∙ (ap (λ k. term_at v terms m / 2 ^ k % 2 ^ w) (sym (same ∙ wide)) ∙ (ap (λ k. term_at v terms m / 2 ^ from % 2 ^ k) (sym wide) ∙ value)) in
    low-half w (term_at v terms x * term_at v terms y) low cut

module _ (terms : List Term) (p a b x y : TermId) (n : ℕ) (is : tree.Binary op.Mul (tree_in terms x) (tree_in terms y) n ≡ tree_in terms a) (wide : width_of (tree_in terms x) ≡ n)
    (kept : IsKept terms p (Product x y)) where
  whole : (v : ℕ → ℕ → ℕ) → bit_at v terms p ≡ false → term_at v terms a ≡ term_at v terms x * term_at v terms y
  whole v e = ap (value_of v) (sym is) ∙ (ap (λ k. (term_at v terms x * term_at v terms y) % 2 ^ k) (sym wide) ∙ mod-eq_of_lt (kept.says v e))

  pub first_factor : x.index < length terms → y.index ≡ b.index → IsExactFactor terms p a b x
  first_factor lx same = record {
    within = lx;
    wide = wide ∙ ap width_of is;
    least = omega (arith, ap weight_of is);
    says = λ v e. whole v e ∙ ap (λ (t : Tree). term_at v terms x * value_of v t) (same_tree terms y b same);
  }

  pub second_factor : y.index < length terms → width_of (tree_in terms y) ≡ n → x.index ≡ b.index → IsExactFactor terms p a b y
  second_factor ly wide_y same = record {
    within = ly;
    wide = wide_y ∙ ap width_of is;
    least = omega (arith, ap weight_of is);
    says = λ v e. whole v e ∙ (mul_comm (term_at v terms x) (term_at v terms y) ∙ ap (λ (t : Tree). term_at v terms y * value_of v t) (same_tree terms x b same));
  }

pub exact_shift : (terms : List Term) (p a b x amount : TermId) (n : ℕ) → tree.Binary op.Shl (tree_in terms x) (tree_in terms amount) n ≡ tree_in terms a → amount.index < length terms
    → width_of (tree_in terms amount) ≡ n → IsKept terms p (Shift a x amount) → x.index ≡ b.index → IsExactShift terms p a b amount
exact_shift terms p a b x amount n is lt wide kept same =
    let w = width_of (tree_in terms a) in
    record {
      within = lt;
      wide = wide ∙ ap width_of is;
      least = omega (arith, ap weight_of is);
      says = λ v e.
          let number = term_at v terms x in
          let by = term_at v terms amount in
          let value : term_at v terms a ≡ shifted_left w number by = ap (value_of v) (sym is) ∙ ap (λ k. shifted_left k number by) (ap width_of is) in
          let undone : shifted_right w (shifted_left w number by) by ≡ number = ap (λ k. shifted_right w k by) (sym value) ∙ kept.says v e in
          value ∙ (whole-shift w number by undone ∙ ap (λ (t : Tree). shifted_left w 1 by * value_of v t) (same_tree terms x b same));
    }

module _ (terms : List Term) (p a b x y : TermId) (n : ℕ) (range : AreInRange terms) (lx : x.index < length terms) (ly : y.index < length terms) (is : tree.Binary op.Add (tree_in terms x) (tree_in terms y) n ≡ tree_in terms a)
    (wide_x : width_of (tree_in terms x) ≡ n) (wide_y : width_of (tree_in terms y) ≡ n) (kept : IsKept terms p (Sum a x y)) where
  sum : (v : ℕ → ℕ → ℕ) → bit_at v terms p ≡ false → term_at v terms a ≡ term_at v terms x + term_at v terms y
  sum v e =
      let first = term_at v terms x in
      let second = term_at v terms y in
      let value : term_at v terms a ≡ (first + second) % 2 ^ n = ap (value_of v) (sym is) in
      let low_x : first < 2 ^ n = subst (λ k. first < 2 ^ k) wide_x (range v x lx) in
      let low_y : second < 2 ^ n = subst (λ k. second < 2 ^ k) wide_y (range v y ly) in
      value ∙ whole-sum-by (2 ^ n) first second low_x low_y (subst (λ k. (first ≤ k) ⊎ (second ≤ k)) value (kept.says v e))

  pub second_part : (c : TermId) → IsExactFactor terms p x b c → IsRestWhere terms p a b y
  second_part c h = record {
    within = ly;
    wide = wide_y ∙ ap width_of is;
    least = omega (arith, ap weight_of is);
    says = λ v e.
        let turned : term_at v terms y + term_at v terms c * term_at v terms b ≡ term_at v terms a = ap (λ k. term_at v terms y + k) (sym (h.says v e)) ∙ (let f : term_at v terms y + term_at v terms x ≡ term_at v terms x + term_at v terms y = omega arith in f ∙ sym (sum v e)) in
        rest-of-multiple (term_at v terms c) (term_at v terms y) (term_at v terms b) ∙ ap (λ k. remainder k (term_at v terms b)) turned;
  }

  pub first_part : (c : TermId) → IsExactFactor terms p y b c → IsRestWhere terms p a b x
  first_part c h = record {
    within = lx;
    wide = wide_x ∙ ap width_of is;
    least = omega (arith, ap weight_of is);
    says = λ v e.
        let turned : term_at v terms x + term_at v terms c * term_at v terms b ≡ term_at v terms a = ap (λ k. term_at v terms x + k) (sym (h.says v e)) ∙ sym (sum v e) in
        rest-of-multiple (term_at v terms c) (term_at v terms x) (term_at v terms b) ∙ ap (λ k. remainder k (term_at v terms b)) turned;
  }

-- ---- what the builders make

pub factor_leaves_none : (terms : List Term) (p a b c : TermId) → IsExactFactor terms p a b c → (v : ℕ → ℕ → ℕ) → bit_at v terms p ≡ false → remainder (term_at v terms a) (term_at v terms b) ≡ 0
factor_leaves_none terms p a b c h v e = ap (λ k. remainder k (term_at v terms b)) (h.says v e) ∙ exact-remainder (term_at v terms c) (term_at v terms b)

pub shift_leaves_none : (terms : List Term) (p a b c : TermId) → IsExactShift terms p a b c → (v : ℕ → ℕ → ℕ) → bit_at v terms p ≡ false → remainder (term_at v terms a) (term_at v terms b) ≡ 0
shift_leaves_none terms p a b c h v e =
    ap (λ k. remainder k (term_at v terms b)) (h.says v e) ∙ exact-remainder (shifted_left (width_of (tree_in terms a)) 1 (term_at v terms c)) (term_at v terms b)

pub factor_is_quotient : (terms : List Term) (p a b c : TermId) → IsExactFactor terms p a b c → (v : ℕ → ℕ → ℕ) → bit_at v terms p ≡ false → 1 ≤ term_at v terms b
    → term_at v terms c ≡ quotient (width_of (tree_in terms a)) (term_at v terms a) (term_at v terms b)
factor_is_quotient terms p a b c h v e some =
    let w = width_of (tree_in terms a) in
    sym (ap (λ k. quotient w k (term_at v terms b)) (h.says v e) ∙ exact-quotient w (term_at v terms c) (term_at v terms b) some)

pub shift_is_quotient : (terms : List Term) (p a b c : TermId) → IsExactShift terms p a b c → (v : ℕ → ℕ → ℕ) → bit_at v terms p ≡ false → 1 ≤ term_at v terms b
    → shifted_left (width_of (tree_in terms a)) 1 (term_at v terms c) ≡ quotient (width_of (tree_in terms a)) (term_at v terms a) (term_at v terms b)
shift_is_quotient terms p a b c h v e some =
    let w = width_of (tree_in terms a) in
    sym (ap (λ k. quotient w k (term_at v terms b)) (h.says v e) ∙ exact-quotient w (shifted_left w 1 (term_at v terms c)) (term_at v terms b) some)

module _ (old mid new : List Term) (p a b by one id : TermId) (n : ℕ) (shift : IsExactShift old p a b by) (wide : n ≡ width_of (tree_in old a)) (first : Makes mid one n (λ _. 1)) (kept : Keeps old mid)
    (second : Makes new id (width_of (tree_in mid one)) (λ v. shifted_left (width_of (tree_in mid one)) (term_at v mid one) (term_at v mid by))) where
  pub shifted_quotient : (v : ℕ → ℕ → ℕ) → bit_at v old p ≡ false → 1 ≤ term_at v old b → term_at v new id ≡ quotient (width_of (tree_in old a)) (term_at v old a) (term_at v old b)
  shifted_quotient v e some =
      let w = width_of (tree_in old a) in
      second.says v ∙ (ap (λ k. shifted_left k (term_at v mid one) (term_at v mid by)) (first.wide ∙ wide) ∙ (ap (λ k. shifted_left w k (term_at v mid by)) (first.says v)
      ∙ (ap (λ (t : Tree). shifted_left w 1 (value_of v t)) (kept.kept by shift.within) ∙ shift_is_quotient old p a b by shift v e some)))

-- ---- disjunctions

parts-false : (x y : ℕ) → truth (bit_or x y) ≡ false → (truth x ≡ false) × (truth y ≡ false)
parts-false x y e =
    let nought : bit_or x y ≡ 0 = eqb-true (bit_or x y) 0 (not-false (nat_eq (bit_or x y) 0) e) in
    let both = or_add_and x y in
    let left = and_le_l x y in
    let right = and_le_r x y in
    let first : x ≡ 0 = omega (arith, nought, both, left, right) in
    let second : y ≡ 0 = omega (arith, nought, both, left, right) in
    (ap truth first, ap truth second)
  where
    not-false : (t : Bool) → not t ≡ false → t ≡ true
    not-false true _ = refl
    not-false false e = sym e

module _ (terms : List Term) (p first second : TermId) (n : ℕ) (plain : Plain) (is : tree.Binary op.Or (tree_in terms first) (tree_in terms second) n ≡ tree_in terms p) where
  pub kept_by_first : IsKept terms first plain → IsKept terms p plain
  kept_by_first h = record { says = λ v e. h.says v (parts-false (term_at v terms first) (term_at v terms second) (ap (λ (t : Tree). truth (value_of v t)) is ∙ e)).0 }

  pub kept_by_second : IsKept terms second plain → IsKept terms p plain
  kept_by_second h = record { says = λ v e. h.says v (parts-false (term_at v terms first) (term_at v terms second) (ap (λ (t : Tree). truth (value_of v t)) is ∙ e)).1 }
