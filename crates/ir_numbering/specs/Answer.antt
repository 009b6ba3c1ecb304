-- What numbering a part may return.
use Rattle.std.specs.Prelude.{◌≡◌, List, Result, Ok, Err}
use Rattle.support.specs.declared.no_memory.NoMemory.{NoMemory}
use Rattle.ir_tree.specs.declared.name.Name.{Name}
use Rattle.ir_numbering.specs.Numbering.{Numbered, so}

-- this is numbered so and leaves these names, unless memory runs out
abbrev pub Numbers : {X : Type 0} → Result X NoMemory → List Name → Numbered X → Type 0
Numbers (Ok x) after answer = answer ≡ so x after
Numbers (Err fault) after answer = Unit {0}
