-- The variables of a question, numbered in the order of its numbers.
use Rattle.std.specs.Prelude.{ℕ, ◌≡◌, ◌+◌, List, [], ◌∷◌, slice_get, Some}
use Rattle.bv_terms.specs.declared.term.TermId.{TermId}
use Rattle.bv_terms.specs.declared.term.Term.{Term}
use Rattle.bv_terms.specs.declared.term.Term.TheVariants as term
use Rattle.bv_terms.specs.declared.variable.Variable.{Variable}
use Rattle.bv_terms.specs.Trees.{variables_among}
use Rattle.mem_terms.specs.Values.{Each}

-- variables that have these widths and the numbers from this one on
abbrev pub AreNumbered : List Term → (from : ℕ) → List TermId → List ℕ → Type 0
AreNumbered terms from [] [] = Unit {0}
AreNumbered terms from (a ∷ rest) (w ∷ ws) = (slice_get terms a.index ≡ Some (term.Variable from w)) × AreNumbered terms (from + 1) rest ws
AreNumbered terms from [] (w ∷ ws) = ⊥
AreNumbered terms from (a ∷ rest) [] = ⊥

-- the width at a variable's number is its own
abbrev pub IsNumbered : List ℕ → Variable → Type 0
IsNumbered widths x = slice_get widths x.number ≡ Some x.width

-- the terms have these variables, numbered from 0 and with these widths, and no others
pub record IsOrder (terms : List Term) (order : List TermId) (widths : List ℕ) : Type 0 where
  pub numbered : AreNumbered terms 0 order widths
  pub named : Each (IsNumbered widths) (variables_among terms)
