-- What the parts of the reader may return.
use Rattle.std.specs.Prelude.{◌≡◌, ℕ, ◌≤◌, ◌<◌, ◌+◌, ◌^◌, List, [], ◌∷◌, length, true, Result, Ok, Err}
use Rattle.ir_lexer.specs.Lexeme.{Lexeme}
use Rattle.ir_lexer.specs.Tokens.{lexed}
use Rattle.ir_items.specs.declared.item.Define.{Define}
use Rattle.ir_items.specs.Items.{IsCut}
use Rattle.ir_tree.specs.WellFormed.{IsWellFormed, IsRefusedAt}
use Rattle.ir_tree.specs.declared.module.Reason.{Reason}
use Rattle.ir_tree.specs.declared.module.Reason.TheVariants.{Limit}
use Rattle.ir_tree.specs.declared.module.CheckFault.{CheckFault}
use Rattle.ir_tree.specs.declared.module.CheckFault.TheVariants as fault
use Rattle.ir_tree.specs.declared.tree.Function.{Function}
use Rattle.token_forms.specs.declared.fault.ReadFault.{ReadFault}
use Rattle.token_forms.specs.declared.fault.ReadFault.TheVariants as stop
use Rattle.token_forms.specs.Spelling.{Spells}
use Rattle.ir_grammar.specs.declared.written.WrittenFunction.{WrittenFunction}
use Rattle.ir_grammar.specs.Grammar.{define}
use Rattle.ir_reader.specs.Functions.{refused_at, stop_place, IsFunction}

-- a stop before the tokens that are left, as it is reported
abbrev pub fault_at : ReadFault → List Lexeme → List Lexeme → CheckFault
fault_at (stop.Unfit why) tokens rest = fault.Refused (refused_at why (stop_place tokens rest))
fault_at stop.PastLimit tokens rest = fault.Refused (refused_at Limit (stop_place tokens rest))
fault_at stop.NoMemory tokens rest = fault.NoMemory

-- the tokens write this function, or are refused so
abbrev pub Writes : List Lexeme → Result WrittenFunction CheckFault → Type 0
Writes tokens (Ok w) = Spells true define w tokens []
Writes tokens (Err (fault.Refused refused)) = IsFunction tokens (Err refused)
Writes tokens (Err fault.NoMemory) = Unit {0}

-- the function is well formed, or is refused so
abbrev pub Tests : Function → Result (Unit {0}) CheckFault → Type 0
Tests f (Ok passed) = IsWellFormed f
Tests f (Err (fault.Refused refused)) = (why : Reason) × IsRefusedAt why f refused
Tests f (Err fault.NoMemory) = Unit {0}

-- the defines follow one another between these indices
abbrev pub Ascend : ℕ → ℕ → List Define → Type 0
Ascend from end [] = from ≤ end
Ascend from end (d ∷ defines) = (from ≤ d.first) × (d.first ≤ d.last + 1) × Ascend (d.last + 1) end defines

-- the text is these tokens, and the defines among them are these
pub record AreDefines (text : List ℕ) (tokens : List Lexeme) (defines : List Define) : Type 0 where
  pub lexed_so : lexed text ≡ Ok tokens
  pub small : length tokens < 2 ^ 64
  pub cut : IsCut tokens (length tokens) defines
