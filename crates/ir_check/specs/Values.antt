-- The values that names get, where each name is defined once.
use Rattle.std.specs.Prelude.{◌≡◌, ℕ, Bool, true, false, List, slice_get, Option, Some, None}
use Rattle.ir_tree.specs.declared.tree.IrType.{IrType}
use Rattle.ir_tree.specs.declared.sites.Site.{Site}
use Rattle.ir_tree.specs.declared.sites.Site.TheVariants.{Defines, Uses, Enters, Written}
use Rattle.ir_tree.specs.WellFormed.{HasValue}

-- the type that a site gives the name that it defines
abbrev pub defined_type : Site → Option IrType
defined_type (Defines type name) = type
defined_type (Uses type name) = None
defined_type (Enters name) = None
defined_type (Written fits) = None

-- whether the site defines a label
abbrev pub is_label_of : Site → Bool
is_label_of (Defines None name) = true
is_label_of (Defines (Some type) name) = false
is_label_of (Uses type name) = false
is_label_of (Enters name) = false
is_label_of (Written fits) = false

-- the name gets a value of this type and of no other, or no value
abbrev pub GivesValue : List Site → ℕ → Option IrType → Type 0
GivesValue all name None = HasValue all name → ⊥
GivesValue all name (Some type) =
    ((m : ℕ) × (slice_get all m ≡ Some (Defines (Some type) name))) × ((m : ℕ) (other : IrType) → slice_get all m ≡ Some (Defines (Some other) name) → other ≡ type)
