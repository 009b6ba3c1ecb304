-- Functions and modules that are the same wherever their parts are in a text.
use Rattle.std.specs.Prelude.{◌≡◌, List, [], ◌∷◌, Result, Ok}
use Rattle.ir_tree.specs.declared.tree.Function.{Function}
use Rattle.ir_tree.specs.declared.module.Refused.{Refused}
use Rattle.ir_tree.specs.declared.module.Entry.{Entry}
use Rattle.ir_tree.specs.declared.module.Module.{Module}

-- the one is the other except for the positions of its parts
abbrev pub IsSameFunction : Function → Function → Type 0
IsSameFunction f g = g ≡ record f { places = g.places }

-- both are accepted, and the functions are the same
abbrev pub AreSameFound : Result Function Refused → Result Function Refused → Type 0
AreSameFound (Ok f) (Ok g) = IsSameFunction f g
AreSameFound _ _ = ⊥

pub record IsSameEntry (d e : Entry) : Type 0 where
  pub name : e.name ≡ d.name
  pub function : AreSameFound d.function e.function

abbrev pub AreSameEntries : List Entry → List Entry → Type 0
AreSameEntries [] [] = Unit {0}
AreSameEntries (d ∷ ds) (e ∷ es) = IsSameEntry d e × AreSameEntries ds es
AreSameEntries _ _ = ⊥

-- the same functions under the same names, in order, none refused
abbrev pub IsSameModule : Module → Module → Type 0
IsSameModule m n = AreSameEntries m.entries n.entries
