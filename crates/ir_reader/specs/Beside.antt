-- Parts of a text that are read beside each other.
use Rattle.std.specs.Prelude.{ℕ, List, length}
use Rattle.ir_lexer.specs.Lexeme.{Lexeme}
use Rattle.ir_lexer.specs.Part.{AreBetween}
use Rattle.ir_items.specs.declared.item.Define.{Define}
use Rattle.ir_items.specs.Joined.{AreItems, AreEdges}
use Rattle.ir_reader.specs.declared.beside.Span.{Span}
use Rattle.ir_reader.specs.Module.{AreEntries}

-- The tokens of a text from an offset up to what follows the span are items, and it has the entries of the defines among
-- them, and their edges.
pub record IsSpan (text : List ℕ) (from : ℕ) (span : Span) : Type 0 where
  pub tokens : List Lexeme
  pub between : AreBetween text from span.after tokens
  pub defines : List Define
  pub items : AreItems tokens (length tokens) defines
  pub entries : AreEntries tokens defines span.entries.items
  pub edges : AreEdges tokens span.edges
