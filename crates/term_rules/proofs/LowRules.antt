-- Why low bits come from low bits.
use Rattle.term_rules.proofs.Common.{ap, ℕ, ◌≡◌, ◌<◌, ◌≤◌, ◌+◌, ◌-◌, ◌*◌, ◌/◌, ◌%◌, ◌^◌, Bool, true, false, cond, List, length, arith, ◌∙◌, sym, subst, and_mod, div-add-mod', mul-mod, or_mod, pow-add, pow_pos, xor_mod, add-mod-mod, add-mul, add-mul-mod_self_right, lt_of_mul-lt-mul_right, mod-add-mod, mod-eq_of_lt, mod-lt, mod-mod-pow, TermId, Term, Tree, extended_signed, is_negative, value_of, width_of, AreInRange, term_at, tree_in, weight_of, pow-le, Form, IsLow, IsNarrowing, IsOperation, Simplifies, operated}
use Rattle.bv_terms.specs.Tree as tree
use Rattle.term_rules.specs.declared.low_bits.Kind.{Kind}
use Rattle.term_rules.specs.declared.low_bits.Operation.{Operation}
use Rattle.term_rules.specs.declared.low_bits.Kind.TheVariants.{Sum, Difference, Reverse, Product, Conjunction, Disjunction, Exclusive}

-- ---- numbers

-- fewer of the low bits
mod-shorter : (n k m : ℕ) → m ≤ k → n % 2 ^ k % 2 ^ m ≡ n % 2 ^ m
mod-shorter n k m le =
    let e : (k - m) + m ≡ k = omega arith in
    sym (ap (λ j. n % 2 ^ j % 2 ^ m) e) ∙ mod-mod-pow n (k - m) m

-- the greater power of 2 is a multiple of the smaller
multiple : (w k : ℕ) → k ≤ w → 2 ^ w ≡ 2 ^ (w - k) * 2 ^ k
multiple w k le =
    let e : (w - k) + k ≡ w = omega arith in
    sym (ap (λ j. 2 ^ j) e) ∙ pow-add 2 (w - k) k

low-sum : (x y m : ℕ) → (x + y) % m ≡ (x % m + y % m) % m
low-sum x y m = sym (add-mod-mod x y m) ∙ sym (mod-add-mod x m (y % m))

-- what is left of q * m without y
taken : (q m y : ℕ) → 0 < m → y < q * m → q * m - y ≡ (m - y % m) + (q - y / m - 1) * m
taken q m y pos lt =
    let d = y / m in
    let r = y % m in
    let split : d * m + r ≡ y = div-add-mod' y m in
    let small : r < m = mod-lt y pos in
    let j = q - d - 1 in
    let less : d < q = lt_of_mul-lt-mul_right m (let below : d * m < q * m = omega (arith, split, lt) in below) in
    let whole : (d + 1) + j ≡ q = omega (arith, less) in
    let parts : q * m ≡ (d * m + 1 * m) + j * m = sym (ap (λ k. k * m) whole) ∙ (add-mul (d + 1) j m ∙ ap (λ k. k + j * m) (add-mul d 1 m)) in
    let once : 1 * m ≡ m = omega arith in
    omega (arith, parts, once, split, small)

low-difference : (w k x y : ℕ) → k ≤ w → y < 2 ^ w → (x + (2 ^ w - y)) % 2 ^ k ≡ (x % 2 ^ k + (2 ^ k - y % 2 ^ k)) % 2 ^ k
low-difference w k x y le lt =
    let m = 2 ^ k in
    let q = 2 ^ (w - k) in
    let whole : 2 ^ w ≡ q * m = multiple w k le in
    let rest : 2 ^ w - y ≡ (m - y % m) + (q - y / m - 1) * m = ap (λ n. n - y) whole ∙ taken q m y (pow_pos k) (subst (λ n. y < n) whole lt) in
    ap (λ n. (x + n) % m) rest
    ∙ (ap (λ n. n % m) (let e : x + ((m - y % m) + (q - y / m - 1) * m) ≡ (x + (m - y % m)) + (q - y / m - 1) * m = omega arith in e)
    ∙ (add-mul-mod_self_right (x + (m - y % m)) (q - y / m - 1) m
    ∙ sym (mod-add-mod x m (m - y % m))))

pub low_operated : (kind : Kind) (w k x y : ℕ) → k ≤ w → x < 2 ^ w → y < 2 ^ w → operated kind w x y % 2 ^ k ≡ operated kind k (x % 2 ^ k) (y % 2 ^ k)
low_operated Sum w k x y le lx ly = mod-shorter (x + y) w k le ∙ low-sum x y (2 ^ k)
low_operated Difference w k x y le lx ly = mod-shorter (x + (2 ^ w - y)) w k le ∙ low-difference w k x y le ly
low_operated Reverse w k x y le lx ly = mod-shorter (y + (2 ^ w - x)) w k le ∙ low-difference w k y x le lx
low_operated Product w k x y le lx ly = mod-shorter (x * y) w k le ∙ mul-mod x y (2 ^ k)
low_operated Conjunction w k x y le lx ly = and_mod x y k
low_operated Disjunction w k x y le lx ly = or_mod x y k
low_operated Exclusive w k x y le lx ly = xor_mod x y k

-- copies of the sign are cut off
pub low_extended : (from k w x : ℕ) → from ≤ k → k ≤ w → x < 2 ^ from → extended_signed from w x % 2 ^ k ≡ extended_signed from k x
low_extended from k w x le more lt = go (is_negative from x)
  where
    go : (t : Bool) → cond t (2 ^ w - 2 ^ from + x) x % 2 ^ k ≡ cond t (2 ^ k - 2 ^ from + x) x
    go true =
        let m = 2 ^ k in
        let q = 2 ^ (w - k) in
        let whole : 2 ^ w ≡ q * m = multiple w k more in
        let next : (q - 1) + 1 ≡ q = omega (arith, pow_pos (w - k)) in
        let once : (q - 1) * m + 1 * m ≡ q * m = sym (add-mul (q - 1) 1 m) ∙ ap (λ n. n * m) next in
        let less : 2 ^ from ≤ m = pow-le from k le in
        let e : 2 ^ w - 2 ^ from + x ≡ (m - 2 ^ from + x) + (q - 1) * m = omega (arith, whole, once, less) in
        ap (λ n. n % m) e ∙ (add-mul-mod_self_right (m - 2 ^ from + x) (q - 1) m ∙ mod-eq_of_lt (let small : m - 2 ^ from + x < m = omega (arith, lt, less) in small))
    go false = mod-eq_of_lt (let small : x < 2 ^ k = omega (arith, lt, pow-le from k le) in small)

-- ---- rules

module _ (terms : List Term) (a inner : TermId) (k n : ℕ) (form : Form) (range : AreInRange terms) (lt : inner.index < length terms) (fits : width_of (tree_in terms inner) ≤ k) where
  below : (v : ℕ → ℕ → ℕ) → term_at v terms inner < 2 ^ k
  below v = omega (arith, range v inner lt, pow-le (width_of (tree_in terms inner)) k fits)

  pub low_of_zext : tree.Zext (tree_in terms inner) n ≡ tree_in terms a → Simplifies terms (tree.Zext (tree_in terms inner) k) form → IsLow terms a k form
  low_of_zext is s = record {
    fit = s.fit;
    wide = s.wide;
    says = λ v. s.says v ∙ (sym (mod-eq_of_lt (below v)) ∙ ap (λ (t : Tree). value_of v t % 2 ^ k) is);
    least = let heavy : 1 + weight_of (tree_in terms inner) ≡ weight_of (tree_in terms a) = ap weight_of is in omega (arith, heavy, s.least);
  }

  pub low_of_sext : (from : ℕ) → tree.Sext (tree_in terms inner) from n ≡ tree_in terms a → width_of (tree_in terms inner) ≡ from → k ≤ width_of (tree_in terms a)
      → Simplifies terms (tree.Sext (tree_in terms inner) (width_of (tree_in terms inner)) k) form → IsLow terms a k form
  low_of_sext from is same more s = record {
    fit = s.fit;
    wide = s.wide;
    says = λ v.
        let x = term_at v terms inner in
        s.says v
        ∙ (ap (λ j. extended_signed j k x) same
        ∙ (sym (low_extended from k n x (subst (λ j. j ≤ k) same fits) (omega (arith, more, ap width_of is)) (subst (λ j. x < 2 ^ j) same (range v inner lt)))
        ∙ ap (λ (t : Tree). value_of v t % 2 ^ k) is));
    least = let heavy : 1 + weight_of (tree_in terms inner) ≡ weight_of (tree_in terms a) = ap weight_of is in omega (arith, heavy, s.least);
  }

module _ (terms : List Term) (a : TermId) (k : ℕ) (o : Operation) (form : Form) (range : AreInRange terms) (le : k ≤ width_of (tree_in terms a)) (is : IsOperation terms a o) where
  lows : (v : ℕ → ℕ → ℕ) → term_at v terms a % 2 ^ k ≡ operated o.kind k (term_at v terms o.a % 2 ^ k) (term_at v terms o.b % 2 ^ k)
  lows v = ap (λ n. n % 2 ^ k) (is.says v)
      ∙ low_operated o.kind (width_of (tree_in terms a)) k (term_at v terms o.a) (term_at v terms o.b) le
      (subst (λ n. term_at v terms o.a < 2 ^ n) is.left.wide (range v o.a is.left.within))
      (subst (λ n. term_at v terms o.b < 2 ^ n) is.right.wide (range v o.b is.right.within))

  pub narrow_first : IsLow terms o.a k form → IsNarrowing terms a k (record { kind = o.kind; form = form; rest = o.b })
  narrow_first l = record {
    fit = l.fit;
    wide = l.wide;
    rest = is.right;
    says = λ v. lows v ∙ ap (λ n. operated o.kind k n (term_at v terms o.b % 2 ^ k)) (sym (l.says v));
    least = omega (arith, l.least, is.least);
  }

  pub narrow_second : (kind : Kind) → ((width x y : ℕ) → operated kind width y x ≡ operated o.kind width x y) → IsLow terms o.b k form → IsNarrowing terms a k (record { kind = kind; form = form; rest = o.a })
  narrow_second kind same l = record {
    fit = l.fit;
    wide = l.wide;
    rest = is.left;
    says = λ v. lows v ∙ (sym (same k (term_at v terms o.a % 2 ^ k) (term_at v terms o.b % 2 ^ k)) ∙ ap (λ n. operated kind k n (term_at v terms o.a % 2 ^ k)) (sym (l.says v)));
    least = omega (arith, l.least, is.least);
  }
