-- What a look at a clause, or at all of them, finds.
use Rattle.std.specs.Prelude.{◌≡◌, ◌⊎◌, List, Option, Some, None}
use Rattle.clause_log.specs.Members.{Has}
use Rattle.clause_lits.specs.declared.lit.Lit.{Lit}
use Rattle.clause_lits.specs.Meaning.{RisesFrom}
use Rattle.clause_search.specs.declared.trail.Entry.{Entry}
use Rattle.clause_search.specs.declared.looking.Look.{Look}
use Rattle.clause_search.specs.declared.looking.Look.TheVariants.{Settled, Unit, False}
use Rattle.clause_search.specs.Trail.{Stands, IsFalse, IsUnassigned, AllFalse, FalseBut}

-- where all literals of the clause but one are false, that one is true
abbrev pub IsOpen : List Entry → List Lit → Type 0
IsOpen trail c = (k : Lit) → FalseBut trail c k → Stands trail k

-- the one literal of a clause that isn't false, and isn't assigned
pub record IsUnit (trail : List Entry) (c : List Lit) (k : Lit) : Type 0 where
  pub has : Has c k
  pub others : FalseBut trail c k
  pub free : IsUnassigned trail k.variable

abbrev pub IsLook : List Entry → List Lit → Look → Type 0
IsLook trail c Settled = IsOpen trail c
IsLook trail c (Unit k) = IsUnit trail c k
IsLook trail c False = AllFalse trail c

-- what is known of the literals of a clause before the rest: which of them isn't assigned
abbrev pub IsSeen : List Entry → List Lit → List Lit → Option Lit → Type 0
IsSeen trail c rest None =
    ((l : Lit) → Has rest l → Has c l) × RisesFrom 0 rest × ((l : Lit) → Has c l → IsFalse trail l ⊎ Has rest l)
IsSeen trail c rest (Some k) =
    ((l : Lit) → Has rest l → Has c l) × RisesFrom k.variable rest × ((l : Lit) → Has c l → (l ≡ k) ⊎ (IsFalse trail l ⊎ Has rest l))
    × Has c k × (Stands trail k → ⊥) × (IsFalse trail k → ⊥)
