-- Which modules can be written as text, and what it means that a text reads back.
use Rattle.std.specs.Prelude.{◌≡◌, ◌<◌, ◌≤◌, ℕ, Bool, List, map, length, All, Ok}
use Rattle.std.specs.List.{IsDistinct, AllByRecursion}
use Rattle.ir_lexer.specs.Lexeme.{Lexeme}
use Rattle.ir_tree.specs.Names.{same_name}
use Rattle.ir_tree.specs.declared.tree.Function.{Function}
use Rattle.ir_tree.specs.declared.module.Entry.{Entry}
use Rattle.ir_tree.specs.declared.module.Module.{Module}
use Rattle.ir_reader.specs.Functions.{IsFunction}
use Rattle.ir_reader.specs.Module.{IsModule}
use Rattle.read_back.specs.SameModule.{IsSameFunction, IsSameModule}
use Rattle.ir_printer.specs.Made.{made_module}
use Rattle.ir_printer.specs.ModuleText.{module_text}

-- a token of bytes
abbrev pub IsOfBytes : Lexeme → Type 0
IsOfBytes t = All (λ (b : ℕ). b < 256) t.text

-- some tokens are this function, within the limits and well formed
pub record IsSpelled (f : Function) : Type 0 where
  pub tokens : List Lexeme
  pub bytes : All IsOfBytes tokens
  pub function : Function
  pub is : IsFunction tokens (Ok function)
  pub same : IsSameFunction function f

-- it is accepted, under its own name
pub record IsPrintableEntry (e : Entry) : Type 0 where
  pub function : Function
  pub accepted : e.function ≡ Ok function
  pub named : e.name ≡ function.name
  pub spelled : IsSpelled function

-- at most 4,096 functions with different names, each of which some tokens spell
pub record IsPrintable (m : Module) : Type 0 where
  pub few : length m.entries ≤ 4096
  pub different : IsDistinct same_name (map (λ (e : Entry). e.name) m.entries)
  pub each : AllByRecursion IsPrintableEntry m.entries

-- the text is a module that is the same
pub record ReadsBack (text : List ℕ) (m : Module) : Type 0 where
  pub read : Module
  pub is_module : IsModule text read
  pub same : IsSameModule m read

-- what is printed of such a module reads back
abbrev pub PrintedModulesReadBack : Type 0
PrintedModulesReadBack = (m : Module) → IsPrintable m → ReadsBack (module_text m) m

-- the modules of a seed are such
abbrev pub MadeModulesArePrintable : Type 0
MadeModulesArePrintable = (in_target : Bool) (seed functions insts : ℕ) → functions ≤ 4096 → insts ≤ 64 → IsPrintable (made_module in_target seed functions insts)
