-- The module that a text is, or where and why it is none.
use Rattle.std.specs.Prelude.{◌≡◌, ℕ, ◌+◌, List, [], ◌∷◌, length, slice_get, slice_range, Option, Some, None, Ok, Err}
use Rattle.text_places.specs.declared.place.Place.{Place}
use Rattle.text_places.specs.Place.{place_at}
use Rattle.ir_lexer.specs.Lexeme.{Lexeme}
use Rattle.ir_lexer.specs.Tokens.{Spot, lexed}
use Rattle.ir_items.specs.declared.item.Define.{Define}
use Rattle.ir_items.specs.declared.fault.Why.{Why}
use Rattle.ir_items.specs.Items.{IsCut}
use Rattle.ir_items.specs.Stops.{IsStop}
use Rattle.ir_tree.specs.declared.module.Entry.{Entry}
use Rattle.ir_tree.specs.declared.module.Module.{Module}
use Rattle.ir_reader.specs.declared.fault.ModuleFault.{ModuleFault}
use Rattle.ir_reader.specs.declared.fault.ModuleFault.TheVariants as fault
use Rattle.ir_reader.specs.Functions.{IsFunction}

-- ---- a module

-- the tokens of a define, from its word to the mark that closes its body
abbrev pub tokens_of : List Lexeme → Define → List Lexeme
tokens_of tokens d = slice_range tokens d.first (d.last + 1)

pub record IsEntry (tokens : List Lexeme) (d : Define) (entry : Entry) : Type 0 where
  pub name : entry.name ≡ d.name
  pub function : IsFunction (tokens_of tokens d) entry.function

-- an entry for each define, in order
abbrev pub AreEntries : List Lexeme → List Define → List Entry → Type 0
AreEntries tokens [] [] = Unit {0}
AreEntries tokens (d ∷ defines) (entry ∷ entries) = IsEntry tokens d entry × AreEntries tokens defines entries
AreEntries tokens _ _ = ⊥

-- the text is tokens, these are items, and the module has what each define among them is
pub record IsModule (text : List ℕ) (m : Module) : Type 0 where
  pub tokens : List Lexeme
  pub lexed_so : lexed text ≡ Ok tokens
  pub defines : List Define
  pub cut : IsCut tokens (length tokens) defines
  pub entries : AreEntries tokens defines m.entries

-- ---- a text that is none

-- the position of a token; after the last one the end of the text
abbrev pub place_or_end : List ℕ → Option Lexeme → Place
place_or_end text (Some t) = t.place
place_or_end text None = place_at text (length text)

-- no token begins at this position
pub record IsNoToken (text : List ℕ) (place : Place) : Type 0 where
  pub spot : Spot
  pub lexed_so : lexed text ≡ Err spot
  pub is : place ≡ spot.place

-- the text is tokens, and these stop being items here
pub record IsNoItem (text : List ℕ) (why : Why) (place : Place) : Type 0 where
  pub tokens : List Lexeme
  pub lexed_so : lexed text ≡ Ok tokens
  pub at : ℕ
  pub stop : IsStop tokens at why
  pub is : place ≡ place_or_end text (slice_get tokens at)

-- of running out of memory nothing is said
abbrev pub IsFault : List ℕ → ModuleFault → Type 0
IsFault text (fault.NoToken place) = IsNoToken text place
IsFault text (fault.Item why place) = IsNoItem text why place
IsFault text fault.NoMemory = Unit {0}
