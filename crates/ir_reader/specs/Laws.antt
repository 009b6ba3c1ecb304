-- What is unique for a text.
use Rattle.std.specs.Prelude.{◌≡◌, ◌⊎◌, ℕ, List, Result}
use Rattle.ir_lexer.specs.Lexeme.{Lexeme}
use Rattle.ir_tree.specs.declared.module.Module.{Module}
use Rattle.ir_tree.specs.declared.module.Refused.{Refused}
use Rattle.ir_tree.specs.declared.tree.Function.{Function}
use Rattle.ir_reader.specs.declared.fault.ModuleFault.{ModuleFault}
use Rattle.ir_reader.specs.declared.fault.ModuleFault.TheVariants.{NoMemory}
use Rattle.ir_reader.specs.Functions.{IsFunction}
use Rattle.ir_reader.specs.Module.{IsModule, IsFault}

-- the tokens of a define are one function, or are refused in one way
abbrev pub OneFunction : Type 0
OneFunction = (tokens : List Lexeme) (a b : Result Function Refused) → IsFunction tokens a → IsFunction tokens b → a ≡ b

-- a text is one module
abbrev pub OneModule : Type 0
OneModule = (text : List ℕ) (m n : Module) → IsModule text m → IsModule text n → m ≡ n

-- a text that is a module has no fault except out of memory
abbrev pub ModuleOrFault : Type 0
ModuleOrFault = (text : List ℕ) (m : Module) (fault : ModuleFault) → IsModule text m → IsFault text fault → fault ≡ NoMemory

-- a text has one fault, or memory runs out
abbrev pub OneFault : Type 0
OneFault = (text : List ℕ) (f g : ModuleFault) → IsFault text f → IsFault text g → (f ≡ g) ⊎ (f ≡ NoMemory) ⊎ (g ≡ NoMemory)
