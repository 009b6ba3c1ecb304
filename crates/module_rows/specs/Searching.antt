-- Names of a module's functions, and which function has one.
use Rattle.std.specs.Prelude.{List, map, Option, option_map, Result}
use Rattle.std.specs.Borrow.{Bor}
use Rattle.ir_tree.specs.declared.name.Name.{Name}
use Rattle.ir_tree.specs.declared.tree.Function.{Function}
use Rattle.ir_tree.specs.declared.module.Refused.{Refused}
use Rattle.ir_tree.specs.declared.module.Entry.{Entry}

abbrev pub entry_names : List Entry → List Name
entry_names entries = map (λ (e : Entry). e.name) entries

-- the function of an entry that was found
abbrev pub function_found : Option (Bor Entry) → Option (Result Function Refused)
function_found found = option_map (λ e. e.now.function) found
