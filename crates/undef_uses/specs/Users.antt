-- For each name the names that carry its undef.
use Rattle.std.specs.Prelude.{◌≡◌, ◌<◌, ◌⊎◌, ℕ, List, [], length, slice_index_or}
use Rattle.std.specs.List.{All, Contains}
use Rattle.ir_tree.specs.declared.tree.Operand.{Operand}
use Rattle.ir_tree.specs.declared.tree.Operand.TheVariants.{Local}
use Rattle.undef_uses.specs.declared.carried.Carried.{Carried}
use Rattle.undef_uses.specs.Counts.{carried_at}

abbrev pub users_at : List (List ℕ) → ℕ → List ℕ
users_at users name = slice_index_or users name []

-- the name is one of these operands
abbrev pub Mentions : Carried → ℕ → Type 0
Mentions c name = (c.first ≡ Local name) ⊎ ((c.second ≡ Local name) ⊎ (c.third ≡ Local name))

-- each name in the lists is below this number
abbrev pub AreBelow : ℕ → List (List ℕ) → Type 0
AreBelow most users = All (All (λ user. user < most)) users

-- the lists have what they had, and this user of an operand that is a name of theirs
pub record HasUser (old new : List (List ℕ)) (operand : Operand) (user : ℕ) : Type 0 where
  pub long : length new ≡ length old
  pub kept : (name other : ℕ) → Contains (users_at old name) other → Contains (users_at new name) other
  pub added : (name : ℕ) → name < length old → operand ≡ Local name → Contains (users_at new name) user
  pub below : (most : ℕ) → user < most → AreBelow most old → AreBelow most new

-- the same for each of these operands
pub record HasUsers (old new : List (List ℕ)) (c : Carried) (user : ℕ) : Type 0 where
  pub long : length new ≡ length old
  pub kept : (name other : ℕ) → Contains (users_at old name) other → Contains (users_at new name) other
  pub added : (name : ℕ) → name < length old → Mentions c name → Contains (users_at new name) user
  pub below : (most : ℕ) → user < most → AreBelow most old → AreBelow most new

-- for each name of the table those of the names before an end that carry its undef
pub record AreUsers (table : List Carried) (end : ℕ) (users : List (List ℕ)) : Type 0 where
  pub long : length users ≡ length table
  pub below : AreBelow (length table) users
  pub each : (user name : ℕ) → user < end → name < length table → Mentions (carried_at table user) name → Contains (users_at users name) user
