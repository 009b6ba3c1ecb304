-- The value of a term is below the power of its width.
use Rattle.std.proofs.Common.{ap, ℕ, ◌≡◌, ◌≢◌, ◌<◌, ◌≤◌, ◌+◌, ◌-◌, ◌*◌, ◌/◌, ◌%◌, ◌^◌, Bool, true, false, cond, eqb, ltb, List, [], ◌∷◌, ◌++◌, length, get_or, sym, subst, arith, lit<, ◌∙◌, refl, length-append, inl, inr, pow-add}
use Rattle.std.proofs.lemmas.List.{get_or_push, get_or_append_left}
use Rattle.std.proofs.lemmas.Bool.{cases_eq, false≢true}
use Rattle.std.proofs.lemmas.Bool.Decides.{Decides-eqb}
use Rattle.std.proofs.lemmas.Nat.{mod_below, pow_pos, and_le_l, or_lt, xor_lt, mul-le}
use Rattle.std.proofs.Math.Nat.{div-le_self}
use Rattle.bv_terms.specs.declared.term.TermId.{TermId}
use Rattle.bv_terms.specs.declared.term.BinaryOp.{BinaryOp}
use Rattle.bv_terms.specs.declared.term.BinaryOp.TheVariants as op
use Rattle.bv_terms.specs.declared.term.Term.{Term}
use Rattle.bv_terms.specs.declared.term.Term.TheVariants as term
use Rattle.bv_terms.specs.Tree as tree
use Rattle.bv_terms.specs.Tree.{Tree, binary_value, binary_width, width_of, value_of, truth, digit, is_negative, shifted_right, extended_signed}
use Rattle.bv_terms.specs.Trees.{AreFit, IsFit, tree_at, tree_of, trees_from, trees_of, tree_in, term_at}
use Rattle.bv_terms.proofs.Stages.{length-trees}

-- under one assignment the value is below the power of the width
abbrev pub IsBelow : (ℕ → ℕ → ℕ) → Tree → Type 0
IsBelow v t = value_of v t < 2 ^ width_of t

digit-below : (b : Bool) → digit b < 2 ^ 1
digit-below true = lit< tt
digit-below false = lit< tt

cond-below : (b : Bool) (x y n : ℕ) → x < n → y < n → cond b x y < n
cond-below true x y n p q = p
cond-below false x y n p q = q

mod-below-cond : (b a n : ℕ) → a < n → b < n → cond (eqb b 0) a (a % b) < n
mod-below-cond b a n p q = go (eqb b 0) refl
  where
    go : (t : Bool) → eqb b 0 ≡ t → cond t a (a % b) < n
    go true e = p
    go false e =
        let ne : b ≢ 0 = λ z. false≢true (sym e ∙ (Decides-eqb b 0).1 z) in
        let pos : 0 < b = omega (arith, ne) in
        omega (arith, mod_below a b pos, q)

shifted_right-below : (width a b : ℕ) → a < 2 ^ width → shifted_right width a b < 2 ^ width
shifted_right-below width a b h = cond-below (ltb b width) (a / 2 ^ b) 0 (2 ^ width) (omega (arith, div-le_self a (2 ^ b), h)) (pow_pos width)

concat-below : (high low above below : ℕ) → high < 2 ^ above → low < 2 ^ below → high * 2 ^ below + low < 2 ^ (above + below)
concat-below high low above below h l =
    let product : (high + 1) * 2 ^ below ≤ 2 ^ above * 2 ^ below = mul-le (high + 1) (2 ^ below) (2 ^ above) (2 ^ below) (omega arith) (omega arith) in
    let whole : 2 ^ (above + below) ≡ 2 ^ above * 2 ^ below = pow-add 2 above below in
    let split : (high + 1) * 2 ^ below ≡ high * 2 ^ below + 2 ^ below = omega arith in
    omega (arith, product, whole, split, l)

pow-le : (from width : ℕ) → from ≤ width → 2 ^ from ≤ 2 ^ width
pow-le from width h =
    let whole : from + (width - from) ≡ width = omega arith in
    let e : 2 ^ width ≡ 2 ^ from * 2 ^ (width - from) = ap (λ k. 2 ^ k) (sym whole) ∙ pow-add 2 from (width - from) in
    let product : 1 * 2 ^ from ≤ 2 ^ (width - from) * 2 ^ from = mul-le 1 (2 ^ from) (2 ^ (width - from)) (2 ^ from) (omega (arith, pow_pos (width - from))) (omega arith) in
    let turn : 2 ^ (width - from) * 2 ^ from ≡ 2 ^ from * 2 ^ (width - from) = omega arith in
    omega (arith, e, product, turn)

extended-below : (from width a : ℕ) → from ≤ width → a < 2 ^ from → extended_signed from width a < 2 ^ width
extended-below from width a le h =
    let wide = pow-le from width le in
    cond-below (is_negative from a) (2 ^ width - 2 ^ from + a) a (2 ^ width) (omega (arith, wide, h)) (omega (arith, wide, h))

zext-below : (from width a : ℕ) → from ≤ width → a < 2 ^ from → a < 2 ^ width
zext-below from width a le h = omega (arith, pow-le from width le, h)

-- the value of an operation fits what it answers
binary-below : (o : BinaryOp) (width x y : ℕ) → x < 2 ^ width → y < 2 ^ width → binary_value o width x y < 2 ^ binary_width o width
binary-below op.And width x y p q = omega (arith, and_le_l x y, p)
binary-below op.Or width x y p q = or_lt width x y p q
binary-below op.Xor width x y p q = xor_lt width x y p q
binary-below op.Add width x y p q = mod_below _ (2 ^ width) (pow_pos width)
binary-below op.Sub width x y p q = mod_below _ (2 ^ width) (pow_pos width)
binary-below op.Mul width x y p q = mod_below _ (2 ^ width) (pow_pos width)
binary-below op.Udiv width x y p q = cond-below (eqb y 0) (2 ^ width - 1) (x / y) (2 ^ width) (omega (arith, pow_pos width)) (omega (arith, div-le_self x y, p))
binary-below op.Urem width x y p q = mod-below-cond y x (2 ^ width) p q
binary-below op.Shl width x y p q = cond-below (ltb y width) (x * 2 ^ y % 2 ^ width) 0 (2 ^ width) (mod_below _ (2 ^ width) (pow_pos width)) (pow_pos width)
binary-below op.Lshr width x y p q = shifted_right-below width x y p
binary-below op.Ashr width x y p q =
    cond-below (is_negative width x) (2 ^ width - 1 - shifted_right width (2 ^ width - 1 - x) y) (shifted_right width x y) (2 ^ width) (omega (arith, pow_pos width)) (shifted_right-below width x y p)
binary-below op.Eq width x y p q = digit-below _
binary-below op.Ult width x y p q = digit-below _
binary-below op.Slt width x y p q = digit-below _

module _ (v : ℕ → ℕ → ℕ) where
  abbrev pub AreBelow : List Tree → Type 0
  AreBelow trees = (i : ℕ) → i < length trees → IsBelow v (get_or trees i (tree.Constant 0 1))

  -- a value of an earlier term at a stated width
  at-width : (earlier : List Tree) (a : TermId) (width : ℕ) → AreBelow earlier → a.index < length earlier → width_of (tree_at earlier a) ≡ width → value_of v (tree_at earlier a) < 2 ^ width
  at-width earlier a width h lt e = subst (λ n. value_of v (tree_at earlier a) < 2 ^ n) e (h a.index lt)

  pub tree-below : (earlier : List Tree) (t : Term) → AreBelow earlier → IsFit earlier t → IsBelow v (tree_of earlier t)
  tree-below earlier (term.Constant value width) h fit = fit.within.1
  tree-below earlier (term.Variable number width) h fit = mod_below (v number width) (2 ^ width) (pow_pos width)
  tree-below earlier (term.Not a width) h fit = omega (arith, pow_pos width)
  tree-below earlier (term.Binary o a b width) h fit =
      binary-below o width (value_of v (tree_at earlier a)) (value_of v (tree_at earlier b)) (at-width earlier a width h fit.within.1 fit.matched.0) (at-width earlier b width h fit.within.2 fit.matched.1)
  tree-below earlier (term.Ite c a b width) h fit = cond-below (truth (value_of v (tree_at earlier c))) (value_of v (tree_at earlier a)) (value_of v (tree_at earlier b)) (2 ^ width) (at-width earlier a width h fit.within.1 fit.matched.0) (at-width earlier b width h fit.within.2 fit.matched.1)
  tree-below earlier (term.Extract a from width) h fit = mod_below _ (2 ^ width) (pow_pos width)
  tree-below earlier (term.Concat high low below width) h fit =
      subst (λ n. value_of v (tree_at earlier high) * 2 ^ below + value_of v (tree_at earlier low) < 2 ^ n) fit.matched.1
      (concat-below (value_of v (tree_at earlier high)) (value_of v (tree_at earlier low)) (width_of (tree_at earlier high)) below (h high.index fit.within.1) (at-width earlier low below h fit.within.2 fit.matched.0))
  tree-below earlier (term.Zext a width) h fit = zext-below (width_of (tree_at earlier a)) width (value_of v (tree_at earlier a)) fit.matched (h a.index fit.within.1)
  tree-below earlier (term.Sext a from width) h fit = extended-below from width (value_of v (tree_at earlier a)) fit.matched.1 (at-width earlier a from h fit.within.1 fit.matched.0)

  below-push : (earlier : List Tree) (t : Tree) → AreBelow earlier → IsBelow v t → AreBelow (earlier ++ t ∷ [])
  below-push earlier t h new i lt = elim (cases_eq i (length earlier)) [
    | inl is ↦ subst (IsBelow v) (sym (get_or_push earlier t (tree.Constant 0 1) i (sym is))) new
    | inr other ↦
        let early : i < length earlier = omega (arith, other, length-append earlier (t ∷ [])) in
        subst (IsBelow v) (sym (get_or_append_left earlier (t ∷ []) (tree.Constant 0 1) i early)) (h i early)
  ]

  pub trees-below : (earlier : List Tree) (ts : List Term) → AreBelow earlier → AreFit earlier ts → AreBelow (trees_from earlier ts)
  trees-below earlier [] h fit = h
  trees-below earlier (t ∷ ts) h fit = trees-below (earlier ++ tree_of earlier t ∷ []) ts (below-push earlier (tree_of earlier t) h (tree-below earlier t h fit.0)) fit.1

pub below_terms : (ts : List Term) → AreFit [] ts → (v : ℕ → ℕ → ℕ) (a : TermId) → a.index < length ts → term_at v ts a < 2 ^ width_of (tree_in ts a)
unfolding trees_of
below_terms ts fit v a lt = trees-below v [] ts (λ i none. absurd (omega arith)) fit a.index (omega (arith, lt, length-trees [] ts))
