-- What a file holds: a module, a fault, or too many bytes.
use Rattle.std.specs.Prelude.{◌≡◌, ℕ, ◌<◌, ◌≤◌, List, length, Option, Some}
use Rattle.tv_io.specs.Files.{Files}
use Rattle.ir_tree.specs.declared.module.Module.{Module}
use Rattle.ir_reader.specs.declared.fault.ModuleFault.{ModuleFault}
use Rattle.ir_reader.specs.Module.{IsModule, IsFault}

-- the most bytes of a module
abbrev pub text_limit : ℕ
text_limit = 16777216

-- the file exists, and this holds of its bytes
pub record HasText (file : Option (List ℕ)) (P : List ℕ → Type 0) : Type 0 where
  pub text : List ℕ
  pub there : file ≡ Some text
  pub holds : P text

abbrev pub IsWithin : Option (List ℕ) → Type 0
IsWithin file = HasText file (λ text. length text ≤ text_limit)

abbrev pub IsLonger : Option (List ℕ) → Type 0
IsLonger file = HasText file (λ text. text_limit < length text)

-- the file is this module, within the limit
abbrev pub HasModule : Option (List ℕ) → Module → Type 0
HasModule file m = HasText file (λ text. (length text ≤ text_limit) × IsModule text m)

-- the file has this fault, within the limit
abbrev pub HasFault : Option (List ℕ) → ModuleFault → Type 0
HasFault file fault = HasText file (λ text. (length text ≤ text_limit) × IsFault text fault)

-- a fact of the files, where they are known
abbrev pub WhereKnown : Option Files → (Files → Type 0) → Type 0
WhereKnown known P = (files : Files) → known ≡ Some files → P files
