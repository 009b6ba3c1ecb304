-- What was said of terms is said of more of them.
use Rattle.std.proofs.Common.{Bool, true, false, cond, ap, ℕ, zero, suc, ◌≡◌, inl, inr, ◌<◌, ◌+◌, List, [], ◌∷◌, ◌++◌, length, get_or, slice_get, Some, sym, subst, arith, ◌∙◌, refl, length-append, append-nil, append_assoc}
use Rattle.bv_terms.specs.declared.term.TermId.{TermId}
use Rattle.bv_terms.specs.declared.term.Term.{Term}
use Rattle.bv_terms.specs.declared.term.Term.TheVariants as term
use Rattle.bv_terms.specs.declared.variable.Variable.{Variable}
use Rattle.bv_terms.specs.Tree as tree
use Rattle.bv_terms.specs.Tree.{width_of, value_of}
use Rattle.bv_terms.specs.Trees.{AreFit, IsFit, IsWithin, AreMatched, tree_of, term_width, trees_from, trees_of, tree_in, variable_in, variables_among, Extends, Gains, IsNoVariable, Keeps, Makes}
use Rattle.bv_terms.proofs.Stages.{length-trees, trees-append, trees-front, tree-same, tree-stored, width-tree}

pub extends_self : (ts : List Term) → Extends ts ts
extends_self ts = record { longer = omega arith; terms = λ i lt. refl; kept = λ a lt. refl }

get-append : (old more : List Term) (i : ℕ) → i < length old → slice_get (old ++ more) i ≡ slice_get old i
get-append [] more i lt = absurd (omega arith)
get-append (x ∷ xs) more zero lt = refl
get-append (x ∷ xs) more (suc i) lt = get-append xs more i (omega arith)

extends_append : (old more : List Term) → Extends old (old ++ more)
unfolding trees_of
extends_append old more = record {
  longer = omega (arith, length-append old more);
  terms = λ i lt. get-append old more i lt;
  kept = λ a lt.
      let within : a.index < length (trees_from [] old) = omega (arith, length-trees [] old) in
      ap (λ zs. get_or zs a.index (tree.Constant 0 1)) (trees-append [] old more) ∙ trees-front (trees_from [] old) more a.index (tree.Constant 0 1) within;
}

pub extends_stored : (known : Bool) (old new : List Term) (t : Term) → new ≡ cond known old (old ++ t ∷ []) → Extends old new
extends_stored true old new t e = rw e (extends_self old)
extends_stored false old new t e = rw e (extends_append old (t ∷ []))

among-push : (old : List Term) (t : Term) → variables_among (old ++ t ∷ []) ≡ variables_among old ++ variable_in t
unfolding variables_among
among-push [] t = append-nil (variable_in t)
among-push (x ∷ xs) t = ap (λ (zs : List Variable). variable_in x ++ zs) (among-push xs t) ∙ sym (append_assoc (variable_in x) (variables_among xs) (variable_in t))

pub gains_stored : (known : Bool) (old new : List Term) (t : Term) → new ≡ cond known old (old ++ t ∷ []) → Gains old new (variable_in t)
gains_stored true old new t e = inl (ap variables_among e)
gains_stored false old new t e = inr (ap variables_among e ∙ among-push old t)

none_in : (t : Term) → IsNoVariable t → variable_in t ≡ []
none_in (term.Constant value width) none = refl
none_in (term.Variable number width) none = absurd none
none_in (term.Not a width) none = refl
none_in (term.Binary o a b width) none = refl
none_in (term.Ite c a b width) none = refl
none_in (term.Extract a from width) none = refl
none_in (term.Concat high low below width) none = refl
none_in (term.Zext a width) none = refl
none_in (term.Sext a from width) none = refl

-- an operation that is stored brings no variable
pub keeps_stored : (old new : List Term) (t : Term) → Extends old new → Gains old new (variable_in t) → IsNoVariable t → Keeps old new
keeps_stored old new t more gains none = record { longer = more.longer; terms = more.terms; kept = more.kept; calm = go gains }
  where
    go : Gains old new (variable_in t) → variables_among new ≡ variables_among old
    go (inl same) = same
    go (inr one) = one ∙ (ap (λ (zs : List Variable). variables_among old ++ zs) (none_in t none) ∙ append-nil (variables_among old))

pub makes_stored : (old new : List Term) (id : TermId) (t : Term) → Extends old new → AreFit [] new → IsWithin (length old) t → slice_get new id.index ≡ Some t → id.index < length new
    → Makes new id (term_width t) (λ v. value_of v (tree_of (trees_of old) t))
unfolding trees_of
makes_stored old new id t kept fit within at lt =
    let zero_more : id.index ≡ 0 + id.index = omega arith in
    let whole : length (trees_from [] old) ≡ length old = omega (arith, length-trees [] old) in
    let stored = tree-stored [] new id.index t fit at in
    let same = tree-same (trees_from [] old) (trees_from [] new) t (subst (λ n. IsWithin n t) (sym whole) within) (λ a below. kept.kept a (omega (arith, below, length-trees [] old))) in
    let is : tree_in new id ≡ tree_of (trees_from [] old) t = ap (λ k. get_or (trees_from [] new) k (tree.Constant 0 1)) zero_more ∙ (stored ∙ same) in
    record { within = lt; wide = ap width_of is ∙ width-tree (trees_from [] old) t; says = λ v. ap (value_of v) is }

pub width-stored : (ts : List Term) (a : TermId) (t : Term) → AreFit [] ts → slice_get ts a.index ≡ Some t → term_width t ≡ width_of (tree_in ts a)
unfolding trees_of
width-stored ts a t fit at =
    let zero_more : a.index ≡ 0 + a.index = omega arith in
    let is : tree_in ts a ≡ tree_of (trees_from [] ts) t = ap (λ k. get_or (trees_from [] ts) k (tree.Constant 0 1)) zero_more ∙ tree-stored [] ts a.index t fit at in
    sym (ap width_of is ∙ width-tree (trees_from [] ts) t)

-- a term that goes well after a list of terms
pub fits : (terms : List Term) (t : Term) → IsWithin (length terms) t → AreMatched (trees_of terms) t → IsFit (trees_from [] terms) t
unfolding trees_of
fits terms t within matched =
    let whole : length (trees_from [] terms) ≡ length terms = omega (arith, length-trees [] terms) in
    record { within = subst (λ n. IsWithin n t) (sym whole) within; matched = matched }

pub within_stored : (ts : List Term) (i : ℕ) (t : Term) → slice_get ts i ≡ Some t → i < length ts
within_stored [] i t e = absurd (let x : ⊥ = cc in x)
within_stored (s ∷ ss) zero t e = omega arith
within_stored (s ∷ ss) (suc i) t e = omega (arith, within_stored ss i t e)

pub term_place : (ts : List Term) (i : ℕ) (d : Term) → i < length ts → slice_get ts i ≡ Some (get_or ts i d)
term_place [] i d lt = absurd (omega arith)
term_place (t ∷ ts) zero d lt = refl
term_place (t ∷ ts) (suc i) d lt = term_place ts i d (omega arith)
