-- What a fault of a fold says.
use Rattle.std.specs.Prelude.{List, Contains}
use Rattle.bv_terms.specs.declared.term.Term.{Term}
use Rattle.bv_terms.specs.declared.folding.FoldFault.{FoldFault}
use Rattle.bv_terms.specs.declared.folding.FoldFault.TheVariants.{NoMemory, Node}

-- one of the terms gives the fault
abbrev pub IsFaultOf : {E : Type 0} → (Term → E → Type 0) → List Term → FoldFault E → Type 0
IsFaultOf gives terms NoMemory = Unit {0}
IsFaultOf gives terms (Node fault) = (t : Term) × Contains terms t × gives t fault
