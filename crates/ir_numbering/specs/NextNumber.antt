-- Which number the name of what is written without one is (LLVM Language Reference, "Functions").
use Rattle.std.specs.Prelude.{◌≡◌, ◌⊎◌, ◌<◌, ◌≤◌, ℕ, ◌+◌, List, [], ◌∷◌}
use Rattle.std.specs.List.{Contains}
use Rattle.ir_tree.specs.declared.name.Name.{Name}
use Rattle.ir_tree.specs.declared.name.Name.TheVariants.{Number}
use Rattle.ir_words.specs.Numbers.{value_of}

abbrev pub AreDigits : List ℕ → Type 0
AreDigits [] = Unit {0}
AreDigits (d ∷ ds) = (48 ≤ d) × (d ≤ 57) × AreDigits ds

-- digits without leading zeros
abbrev pub IsDecimal : List ℕ → Type 0
IsDecimal [] = ⊥
IsDecimal (d ∷ ds) = AreDigits (d ∷ ds) × ((48 < d) ⊎ (ds ≡ []))

abbrev pub AreDecimal : List Name → Type 0
AreDecimal names = (digits : List ℕ) → Contains names (Number digits) → IsDecimal digits

-- greater than each number among the names, and one more than one of them, or 0 if there is none
pub record IsNextNumber (names : List Name) (n : ℕ) : Type 0 where
  pub above : (digits : List ℕ) → Contains names (Number digits) → value_of digits < n
  pub least : (n ≡ 0) ⊎ ((digits : List ℕ) × Contains names (Number digits) × (n ≡ value_of digits + 1))

pub record IsNextName (names : List Name) (name : Name) : Type 0 where
  pub digits : List ℕ
  pub is : name ≡ Number digits
  pub decimal : IsDecimal digits
  pub next : IsNextNumber names (value_of digits)
