-- Terms over one variable.
use Rattle.std.specs.Prelude.{◌≡◌, List}
use Rattle.bv_terms.specs.declared.term.Term.{Term}
use Rattle.bv_terms.specs.declared.variable.Variable.{Variable}
use Rattle.bv_terms.specs.Trees.{variables_among}
use Rattle.mem_terms.specs.Values.{Each}

-- the terms have no other variable
abbrev pub AreOver : Variable → List Term → Type 0
AreOver x terms = Each (λ v. v ≡ x) (variables_among terms)
