-- The function of a name as reports write it.
use Rattle.std.specs.Prelude.{List, [], ◌∷◌, ℕ, Bool, Option, Some, None, if◌then◌else◌}
use Rattle.std.specs.Str.{bytes_eq}
use Rattle.ir_tree.specs.declared.module.Entry.{Entry}
use Rattle.ir_naming.specs.Naming.{name_text}

abbrev pub is_named : List ℕ → Entry → Bool
is_named name e = bytes_eq (name_text e.name) name

-- the first function that has the name
abbrev pub entry_named : List Entry → List ℕ → Option Entry
entry_named [] name = None
entry_named (e ∷ es) name = if is_named name e then Some e else entry_named es name
