-- The trees of terms as one more is stored.
use Rattle.std.proofs.Common.{Bool, true, false, cond, ap, ℕ, zero, suc, ◌≡◌, ◌<◌, ◌≤◌, ◌+◌, List, [], ◌∷◌, ◌++◌, length, get_or, slice_get, Some, sym, subst, arith, ◌∙◌, refl, length-append}
use Rattle.std.proofs.lemmas.List.{get_or_push, get_or_append_left}
use Rattle.bv_terms.specs.declared.term.TermId.{TermId}
use Rattle.bv_terms.specs.declared.term.BinaryOp.{BinaryOp}
use Rattle.bv_terms.specs.declared.term.BinaryOp.TheVariants as op
use Rattle.bv_terms.specs.declared.term.Term.{Term}
use Rattle.bv_terms.specs.declared.term.Term.TheVariants as term
use Rattle.bv_terms.specs.Tree as tree
use Rattle.bv_terms.specs.Tree.{Tree, binary_width, width_of}
use Rattle.bv_terms.specs.Trees.{AreFit, IsFit, IsWidth, IsWithin, tree_at, tree_of, term_width, trees_from}

pub AreFit-push : (earlier : List Tree) (terms : List Term) (t : Term) → AreFit earlier terms → IsFit (trees_from earlier terms) t → AreFit earlier (terms ++ t ∷ [])
AreFit-push earlier [] t h fit = (fit, tt)
AreFit-push earlier (s ∷ ss) t h fit = (h.0, AreFit-push (earlier ++ tree_of earlier s ∷ []) ss t h.1 fit)

-- whether the term was there or not
pub AreFit-stored : (known : Bool) (terms stored : List Term) (t : Term) → stored ≡ cond known terms (terms ++ t ∷ []) → AreFit [] terms
    → IsFit (trees_from [] terms) t → AreFit [] stored
AreFit-stored true terms stored t e h fit = rw e h
AreFit-stored false terms stored t e h fit = rw e (AreFit-push [] terms t h fit)

pub length-trees : (earlier : List Tree) (ts : List Term) → length (trees_from earlier ts) ≡ length earlier + length ts
length-trees earlier [] = omega arith
length-trees earlier (t ∷ ts) = omega (arith, length-trees (earlier ++ tree_of earlier t ∷ []) ts, length-append earlier (tree_of earlier t ∷ []))

pub trees-append : (earlier : List Tree) (ts us : List Term) → trees_from earlier (ts ++ us) ≡ trees_from (trees_from earlier ts) us
trees-append earlier [] us = refl
trees-append earlier (t ∷ ts) us = trees-append (earlier ++ tree_of earlier t ∷ []) ts us

pub trees-front : (earlier : List Tree) (ts : List Term) (i : ℕ) (d : Tree) → i < length earlier → get_or (trees_from earlier ts) i d ≡ get_or earlier i d
trees-front earlier [] i d lt = refl
trees-front earlier (t ∷ ts) i d lt =
    let more : i < length (earlier ++ tree_of earlier t ∷ []) = omega (arith, length-append earlier (tree_of earlier t ∷ [])) in
    trees-front (earlier ++ tree_of earlier t ∷ []) ts i d more ∙ get_or_append_left earlier (tree_of earlier t ∷ []) d i lt

-- the width of a term is that of its tree
pub width-tree : (earlier : List Tree) (t : Term) → width_of (tree_of earlier t) ≡ term_width t
width-tree earlier (term.Constant value width) = refl
width-tree earlier (term.Variable number width) = refl
width-tree earlier (term.Not a width) = refl
width-tree earlier (term.Binary o a b width) = refl
width-tree earlier (term.Ite c a b width) = refl
width-tree earlier (term.Extract a from width) = refl
width-tree earlier (term.Concat high low below width) = refl
width-tree earlier (term.Zext a width) = refl
width-tree earlier (term.Sext a from width) = refl

-- a term has one tree over lists that agree on what it names
pub tree-same : (early late : List Tree) (t : Term) → IsWithin (length early) t
    → ((a : TermId) → a.index < length early → tree_at late a ≡ tree_at early a) → tree_of late t ≡ tree_of early t
tree-same early late (term.Constant value width) w h = refl
tree-same early late (term.Variable number width) w h = refl
tree-same early late (term.Not a width) w h = ap (λ x. tree.Not x width) (h a w.1)
tree-same early late (term.Binary o a b width) w h = rw (h a w.1, h b w.2) refl
tree-same early late (term.Ite c a b width) w h = rw (h c w.3, h a w.1, h b w.2) refl
tree-same early late (term.Extract a from width) w h = ap (λ x. tree.Extract x from width) (h a w.1)
tree-same early late (term.Concat high low below width) w h = rw (h high w.1, h low w.2) refl
tree-same early late (term.Zext a width) w h = ap (λ x. tree.Zext x width) (h a w.1)
tree-same early late (term.Sext a from width) w h = ap (λ x. tree.Sext x from width) (h a w.1)

-- the tree of the term at an index is the one over all trees
pub tree-stored : (earlier : List Tree) (ts : List Term) (i : ℕ) (t : Term) → AreFit earlier ts → slice_get ts i ≡ Some t
    → get_or (trees_from earlier ts) (length earlier + i) (tree.Constant 0 1) ≡ tree_of (trees_from earlier ts) t
tree-stored earlier [] i t fit e = absurd (let x : ⊥ = cc in x)
tree-stored earlier (s ∷ ss) zero t fit e =
    let is : s ≡ t = cc in
    let at : length earlier + 0 ≡ length earlier = omega arith in
    let more : length earlier < length (earlier ++ tree_of earlier s ∷ []) = omega (arith, length-append earlier (tree_of earlier s ∷ [])) in
    let front = trees-front (earlier ++ tree_of earlier s ∷ []) ss (length earlier) (tree.Constant 0 1) more in
    let same = tree-same earlier (trees_from (earlier ++ tree_of earlier s ∷ []) ss) s fit.0.within
    (λ a lt. trees-front earlier (s ∷ ss) a.index (tree.Constant 0 1) lt) in
    ap (λ k. get_or (trees_from (earlier ++ tree_of earlier s ∷ []) ss) k (tree.Constant 0 1)) at
    ∙ (front ∙ (get_or_push earlier (tree_of earlier s) (tree.Constant 0 1) (length earlier) refl ∙ (sym same ∙ ap (λ x. tree_of (trees_from (earlier ++ tree_of earlier s ∷ []) ss) x) is)))
tree-stored earlier (s ∷ ss) (suc i) t fit e =
    let at : length earlier + suc i ≡ length (earlier ++ tree_of earlier s ∷ []) + i = omega (arith, length-append earlier (tree_of earlier s ∷ [])) in
    ap (λ k. get_or (trees_from (earlier ++ tree_of earlier s ∷ []) ss) k (tree.Constant 0 1)) at
    ∙ tree-stored (earlier ++ tree_of earlier s ∷ []) ss i t fit.1 e

-- the width of a term that goes well is one
one_width : IsWidth 1
one_width = (omega arith, omega arith)

binary-range : (o : BinaryOp) (width : ℕ) → IsWidth width → IsWidth (binary_width o width)
binary-range op.Eq width is = one_width
binary-range op.Ult width is = one_width
binary-range op.Slt width is = one_width
binary-range _ width is = is

pub width-within : (n : ℕ) (t : Term) → IsWithin n t → IsWidth (term_width t)
width-within n (term.Constant value width) w = w.0
width-within n (term.Variable number width) w = w
width-within n (term.Not a width) w = w.0
width-within n (term.Binary o a b width) w = binary-range o width w.0
width-within n (term.Ite c a b width) w = w.0
width-within n (term.Extract a from width) w = w.0
width-within n (term.Concat high low below width) w = w.0
width-within n (term.Zext a width) w = w.0
width-within n (term.Sext a from width) w = w.0

pub width-range : (earlier : List Tree) (ts : List Term) (i : ℕ) (t : Term) → AreFit earlier ts → slice_get ts i ≡ Some t → IsWidth (term_width t)
width-range earlier [] i t fit e = absurd (let x : ⊥ = cc in x)
width-range earlier (s ∷ ss) zero t fit e =
    let is : s ≡ t = cc in
    subst (λ (x : Term). IsWidth (term_width x)) is (width-within (length earlier) s fit.0.within)
width-range earlier (s ∷ ss) (suc i) t fit e = width-range (earlier ++ tree_of earlier s ∷ []) ss i t fit.1 e

-- what names some of the first terms names some of more
pub within-more : (m n : ℕ) (t : Term) → m ≤ n → IsWithin m t → IsWithin n t
within-more m n (term.Constant value width) le w = w
within-more m n (term.Variable number width) le w = w
within-more m n (term.Not a width) le w = (w.0, omega (arith, le, w.1))
within-more m n (term.Binary o a b width) le w = (w.0, omega (arith, le, w.1), omega (arith, le, w.2))
within-more m n (term.Ite c a b width) le w = (w.0, omega (arith, le, w.1), omega (arith, le, w.2), omega (arith, le, w.3))
within-more m n (term.Extract a from width) le w = (w.0, omega (arith, le, w.1))
within-more m n (term.Concat high low below width) le w = (w.0, omega (arith, le, w.1), omega (arith, le, w.2))
within-more m n (term.Zext a width) le w = (w.0, omega (arith, le, w.1))
within-more m n (term.Sext a from width) le w = (w.0, omega (arith, le, w.1))
