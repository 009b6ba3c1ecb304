-- Terms of the tests, and which variables they have.
use Rattle.std.proofs.Common.{ℕ, zero, suc, ◌≡◌, inl, inr, All, List, [], ◌∷◌, Some, slice_get, arith, sym, ap, subst, ◌∙◌}
use Rattle.std.proofs.lemmas.Option.{get_or_from_slice_get, slice_get_within}
use Rattle.bv_terms.specs.declared.term.BinaryOp.{BinaryOp}
use Rattle.bv_terms.specs.declared.term.TermId.{TermId}
use Rattle.bv_terms.specs.declared.term.Term.{Term}
use Rattle.bv_terms.specs.declared.term.Term.TheVariants as term
use Rattle.bv_terms.specs.Tree.{Tree}
use Rattle.bv_terms.specs.Trees.{AreFit, Keeps, tree_in, tree_of, trees_of}
use Rattle.bv_terms.specs.declared.variable.Variable.{Variable}
use Rattle.sat_ask.specs.Questions.{HasAll, IsVariable, Mentions, variable_of}
use Rattle.sat_ask.proofs.Marking.{tree_placed}

pub later : (old new : List Term) (i : ℕ) (t : Term) → Keeps old new → slice_get old i ≡ Some t → slice_get new i ≡ Some t
later old new i t k h = k.terms i (slice_get_within old i t h) ∙ h

-- the only variable of a term
abbrev pub HasAlone : List Term → Variable → TermId → Type 0
HasAlone terms x a = (v : Variable) → Mentions v (tree_in terms a) → v ≡ x

module _ (terms : List Term) (x : Variable) (fit : AreFit [] terms) where
  placed : (a : TermId) (t : Term) → slice_get terms a.index ≡ Some t → (v : Variable) → Mentions v (tree_in terms a) → Mentions v (tree_of (trees_of terms) t)
  placed a t at v m = subst (λ (z : Tree). Mentions v z) (tree_placed terms a.index t fit at) m

  pub alone-constant : (a : TermId) (value width : ℕ) → slice_get terms a.index ≡ Some (term.Constant value width) → HasAlone terms x a
  alone-constant a value width at v m = absurd (placed a (term.Constant value width) at v m)

  pub alone-variable : (a : TermId) → slice_get terms a.index ≡ Some (term.Variable x.number x.width) → HasAlone terms x a
  alone-variable a at v m = placed a (term.Variable x.number x.width) at v m

  pub alone-binary : (goal : TermId) (op : BinaryOp) (a b : TermId) (width : ℕ) → slice_get terms goal.index ≡ Some (term.Binary op a b width) → HasAlone terms x a → HasAlone terms x b → HasAlone terms x goal
  alone-binary goal op a b width at p q v m = elim (placed goal (term.Binary op a b width) at v m) [ inl l ↦ p v l | inr r ↦ q v r ]

-- two variables
module _ (terms : List Term) (x y : TermId) (own : slice_get terms x.index ≡ Some (term.Variable 0 8)) (other : slice_get terms y.index ≡ Some (term.Variable 1 8)) where
  pub two-variables : All (IsVariable terms) (y ∷ x ∷ [])
  two-variables zero d lt = (1, 8, other)
  two-variables (suc zero) d lt = (0, 8, own)
  two-variables (suc (suc i)) d lt = absurd (omega arith)

  pub two-all : (goal : TermId) → HasAlone terms (record { number = 0; width = 8 }) goal → HasAll terms goal (y ∷ x ∷ [])
  two-all goal alone v m = (1, omega arith, ap variable_of (get_or_from_slice_get terms x.index (term.Variable 0 8) (term.Constant 0 0) own) ∙ sym (alone v m))
