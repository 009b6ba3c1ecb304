-- Why the rules of parts of numbers are right.
use Rattle.term_rules.proofs.Common.{ap, ℕ, ◌≡◌, ◌<◌, ◌≤◌, ◌+◌, ◌-◌, ◌*◌, ◌/◌, ◌%◌, ◌^◌, false, List, length, arith, ◌∙◌, sym, subst, refl, lt-leb, field_of, mod_low, mod-pow-add, pow_pos, shr-shr, shr_high, div-eq_of_lt, div-one, mod-eq_of_lt, zero-mod, mod-mod-pow, TermId, Term, Tree, is_negative, value_of, width_of, AreInRange, IsWidth, term_at, tree_in, weight_of, pow-le, Form, Built, Known, BitRange, IsSamePart, Simplifies}
use Rattle.bv_terms.specs.declared.term.Term.TheVariants as term
use Rattle.bv_terms.specs.Tree as tree
use Rattle.term_rules.proofs.Simplifying.{constant_form, same_tree, simplifies_like}

-- ---- numbers

-- fewer of the low bits
mod-shorter : (n k m : ℕ) → m ≤ k → n % 2 ^ k % 2 ^ m ≡ n % 2 ^ m
mod-shorter n k m le =
    let e : (k - m) + m ≡ k = omega arith in
    sym (ap (λ j. n % 2 ^ j % 2 ^ m) e) ∙ mod-mod-pow n (k - m) m

-- a part that lies in the low bits is a part of these
part-low : (n low from width : ℕ) → from + width ≤ low → n % 2 ^ low / 2 ^ from % 2 ^ width ≡ n / 2 ^ from % 2 ^ width
part-low n low from width le =
    let e : (low - from) + from ≡ low = omega arith in
    sym (ap (λ j. n % 2 ^ j / 2 ^ from % 2 ^ width) e)
    ∙ (ap (λ k. k % 2 ^ width) (field_of n (low - from) from) ∙ mod-shorter (n / 2 ^ from) (low - from) width (omega arith))

part-part : (x below inner from width : ℕ) → from + width ≤ inner → x / 2 ^ below % 2 ^ inner / 2 ^ from % 2 ^ width ≡ x / 2 ^ (below + from) % 2 ^ width
part-part x below inner from width le = part-low (x / 2 ^ below) inner from width le ∙ ap (λ k. k % 2 ^ width) (shr-shr x below from)

joined-low : (high low below from width : ℕ) → low < 2 ^ below → from + width ≤ below → (high * 2 ^ below + low) / 2 ^ from % 2 ^ width ≡ low / 2 ^ from % 2 ^ width
joined-low high low below from width lt le =
    sym (part-low (high * 2 ^ below + low) below from width le) ∙ ap (λ k. k / 2 ^ from % 2 ^ width) (mod_low high below low lt)

joined-high : (high low below from width : ℕ) → low < 2 ^ below → below ≤ from → (high * 2 ^ below + low) / 2 ^ from % 2 ^ width ≡ high / 2 ^ (from - below) % 2 ^ width
joined-high high low below from width lt le =
    let e : below + (from - below) ≡ from = omega arith in
    let n : ℕ = high * 2 ^ below + low in
    ap (λ k. k % 2 ^ width)
    (sym (ap (λ j. n / 2 ^ j) e) ∙ (sym (shr-shr n below (from - below)) ∙ ap (λ k. k / 2 ^ (from - below)) (shr_high high below low lt)))

-- ---- rules

pub whole_part : (terms : List Term) (a : TermId) (from width : ℕ) → AreInRange terms → a.index < length terms → from + width ≤ width_of (tree_in terms a) → width ≡ width_of (tree_in terms a)
    → Simplifies terms (tree.Extract (tree_in terms a) from width) (Known a)
whole_part terms a from width range la le e =
    let none : from ≡ 0 = omega (arith, le, e) in
    record {
      fit = la;
      wide = sym e;
      says = λ v.
          let x = term_at v terms a in
          let lt : x < 2 ^ width = subst (λ n. x < 2 ^ n) (sym e) (range v a la) in
          sym (ap (λ k. x / 2 ^ k % 2 ^ width) none ∙ (ap (λ k. k % 2 ^ width) (div-one x) ∙ mod-eq_of_lt lt));
      least = omega arith;
    }

module _ (terms : List Term) (a : TermId) (range : AreInRange terms) (from width : ℕ) where
  pub part_of_part : (inner : TermId) (below n : ℕ) → tree.Extract (tree_in terms inner) below n ≡ tree_in terms a → inner.index < length terms
      → below + n ≤ width_of (tree_in terms inner) → from + width ≤ width_of (tree_in terms a) → IsSamePart terms a from width (record { a = inner; from = below + from })
  part_of_part inner below n is lt wide le =
      let within : from + width ≤ n = omega (arith, le, ap width_of is) in
      let weight : weight_of (tree_in terms a) ≡ 1 + weight_of (tree_in terms inner) = ap weight_of (sym is) in
      record {
        within = lt;
        most = omega (arith, within, wide);
        says = λ v. sym (ap (λ (t : Tree). value_of v t / 2 ^ from % 2 ^ width) (sym is) ∙ part-part (term_at v terms inner) below n from width within);
        least = omega (arith, weight);
      }

  pub part_of_low : (high low : TermId) (below n : ℕ) → tree.Concat (tree_in terms high) (tree_in terms low) below n ≡ tree_in terms a → low.index < length terms
      → width_of (tree_in terms low) ≡ below → from + width ≤ below → IsSamePart terms a from width (record { a = low; from = from })
  part_of_low high low below n is lt wide le =
      let weight : weight_of (tree_in terms a) ≡ 1 + weight_of (tree_in terms high) + weight_of (tree_in terms low) = ap weight_of (sym is) in
      record {
        within = lt;
        most = omega (arith, wide, le);
        says = λ v. sym (ap (λ (t : Tree). value_of v t / 2 ^ from % 2 ^ width) (sym is)
            ∙ joined-low (term_at v terms high) (term_at v terms low) below from width (subst (λ k. term_at v terms low < 2 ^ k) wide (range v low lt)) le);
        least = omega (arith, weight);
      }

  pub part_of_high : (high low : TermId) (below n : ℕ) → tree.Concat (tree_in terms high) (tree_in terms low) below n ≡ tree_in terms a → high.index < length terms → low.index < length terms
      → width_of (tree_in terms low) ≡ below → width_of (tree_in terms high) + below ≡ n → below ≤ from → from + width ≤ width_of (tree_in terms a)
      → IsSamePart terms a from width (record { a = high; from = from - below })
  part_of_high high low below n is lh lt wide sum le most =
      let weight : weight_of (tree_in terms a) ≡ 1 + weight_of (tree_in terms high) + weight_of (tree_in terms low) = ap weight_of (sym is) in
      record {
        within = lh;
        most = omega (arith, sum, le, most, ap width_of is);
        says = λ v. sym (ap (λ (t : Tree). value_of v t / 2 ^ from % 2 ^ width) (sym is)
            ∙ joined-high (term_at v terms high) (term_at v terms low) below from width (subst (λ k. term_at v terms low < 2 ^ k) wide (range v low lt)) le);
        least = omega (arith, weight);
      }

pub part_above : (terms : List Term) (a : TermId) (from width : ℕ) (p : BitRange) → IsWidth width → IsSamePart terms a from width p
    → ((v : ℕ → ℕ → ℕ) → term_at v terms p.a < 2 ^ p.from) → Simplifies terms (tree.Extract (tree_in terms a) from width) (Built (term.Constant 0 width))
part_above terms a from width p wide same below = constant_form terms _ 0 width wide (pow_pos width) refl
    (λ v. sym (same.says v) ∙ (ap (λ k. k % 2 ^ width) (div-eq_of_lt (below v)) ∙ zero-mod (2 ^ width)))

-- ---- parts next to each other

pub parts_adjacent : (terms : List Term) (high low whole same : TermId) (above from upper lower : ℕ) (form : Form)
    → tree.Extract (tree_in terms whole) above upper ≡ tree_in terms high → tree.Extract (tree_in terms same) from lower ≡ tree_in terms low
    → whole.index ≡ same.index → above ≡ from + lower
    → Simplifies terms (tree.Extract (tree_in terms whole) from (upper + lower)) form
    → Simplifies terms (tree.Concat (tree_in terms high) (tree_in terms low) (width_of (tree_in terms low)) (width_of (tree_in terms high) + width_of (tree_in terms low))) form
parts_adjacent terms high low whole same above from upper lower form ih il e next s =
    let wl : lower ≡ width_of (tree_in terms low) = ap width_of il in
    let wh : upper ≡ width_of (tree_in terms high) = ap width_of ih in
    let heavy : weight_of (tree_in terms high) ≡ 1 + weight_of (tree_in terms whole) = ap weight_of (sym ih) in
    simplifies_like terms _ _ form s (omega (arith, wl, wh))
    (λ v.
    let x = term_at v terms whole in
    let y = x / 2 ^ from in
    let h : term_at v terms high ≡ y / 2 ^ lower % 2 ^ upper =
    ap (value_of v) (sym ih) ∙ (ap (λ k. x / 2 ^ k % 2 ^ upper) next ∙ ap (λ k. k % 2 ^ upper) (sym (shr-shr x from lower))) in
    let l : term_at v terms low ≡ y % 2 ^ lower =
    ap (value_of v) (sym il) ∙ ap (λ (t : Tree). value_of v t / 2 ^ from % 2 ^ lower) (sym (same_tree terms whole same e)) in
    mod-pow-add y upper lower
    ∙ (ap (λ k. k * 2 ^ lower + y % 2 ^ lower) (sym h)
    ∙ (ap (λ k. term_at v terms high * 2 ^ lower + k) (sym l)
    ∙ ap (λ k. term_at v terms high * 2 ^ k + term_at v terms low) wl)))
    (omega (arith, heavy))

-- ---- a number with zeros before it has no sign

pub unsigned : (w from x : ℕ) → w < from → x < 2 ^ w → is_negative from x ≡ false
unsigned w from x le lt = lt-leb (2 ^ (from - 1)) x (omega (arith, lt, pow-le w (from - 1) (omega arith)))
