-- A literal of a clause, other than a given one, that isn't false.
use Rattle.std.specs.Prelude.{◌≡◌, List, Option, Some, None}
use Rattle.clause_log.specs.Members.{Has}
use Rattle.clause_lits.specs.declared.lit.Lit.{Lit}
use Rattle.clause_search.specs.declared.trail.Entry.{Entry}
use Rattle.clause_search.specs.Trail.{IsFalse, FalseBut}

abbrev pub IsFree : List Entry → List Lit → Lit → Option Lit → Type 0
IsFree trail c other None = FalseBut trail c other
IsFree trail c other (Some l) = Has c l × (l ≡ other → ⊥) × (IsFalse trail l → ⊥)
