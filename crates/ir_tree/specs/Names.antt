-- Names and their numbers: a name's number is its index in the order of first appearance.
use Rattle.std.specs.Prelude.{ℕ, Bool, false, List, [], ◌∷◌, ◌++◌, if◌then◌else◌}
use Rattle.std.specs.List.{list_any, position_or_len}
use Rattle.std.specs.Str.{bytes_eq}
use Rattle.ir_tree.specs.declared.name.Name.{Name}
use Rattle.ir_tree.specs.declared.name.Name.TheVariants.{Number, Word}

-- whether both are the same name: a number is never a word
abbrev pub same_name : Name → Name → Bool
same_name (Number a) (Number b) = bytes_eq a b
same_name (Word a) (Word b) = bytes_eq a b
same_name _ _ = false

-- the names with this one, which goes last if it is new
abbrev pub with_name : List Name → Name → List Name
with_name names name = if list_any (same_name name) names then names else names ++ name ∷ []

-- the number of the name among these, or the next one
abbrev pub number_of : List Name → Name → ℕ
number_of names name = position_or_len (same_name name) names
