-- Which variables are the same.
use Rattle.std.specs.Prelude.{◌&&◌, Bool, nat_eq}
use Rattle.bv_terms.specs.declared.variable.Variable.{Variable}

-- a variable is its number and its width together
abbrev pub is_variable : Variable → Variable → Bool
is_variable x y = nat_eq x.number y.number && nat_eq x.width y.width
