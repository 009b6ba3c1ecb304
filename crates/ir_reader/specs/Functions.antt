-- What the tokens of a define are: a function, or why none and where.
use Rattle.std.specs.Prelude.{List, [], ◌∷◌, true, Result, Ok, Err}
use Rattle.text_places.specs.declared.place.Place.{Place}
use Rattle.ir_lexer.specs.Lexeme.{Lexeme}
use Rattle.ir_tree.specs.Sites.{no_place}
use Rattle.ir_tree.specs.WellFormed.{IsWellFormed, IsRefusedAt}
use Rattle.ir_tree.specs.declared.module.Reason.{Reason}
use Rattle.ir_tree.specs.declared.module.Reason.TheVariants.{Limit}
use Rattle.ir_tree.specs.declared.module.Refused.{Refused}
use Rattle.ir_tree.specs.declared.module.CheckFault.{CheckFault}
use Rattle.ir_tree.specs.declared.module.CheckFault.TheVariants as fault
use Rattle.ir_tree.specs.declared.tree.Function.{Function}
use Rattle.token_forms.specs.Spelling.{Spells}
use Rattle.token_forms.specs.Refusals.{StopsUnfit, StopsPast}
use Rattle.ir_grammar.specs.declared.written.WrittenFunction.{WrittenFunction}
use Rattle.ir_grammar.specs.Grammar.{define}
use Rattle.ir_numbering.specs.Numbering.{numbered}
use Rattle.ir_reader.specs.StopReason.{IsStopReason}

-- a refusal at a position
abbrev pub refused_at : Reason → Place → Refused
refused_at why place = record { reason = why; line = place.line; column = place.column }

abbrev pub last_place : Place → List Lexeme → Place
last_place place [] = place
last_place place (t ∷ tokens) = last_place t.place tokens

-- the position of the first token that is left; where none is left, of the last of all tokens
abbrev pub stop_place : List Lexeme → List Lexeme → Place
stop_place tokens [] = last_place no_place tokens
stop_place tokens (t ∷ others) = t.place

-- The tokens are the beginning of a function up to the first of rest, which isn't allowed there for
-- this reason.
pub record IsUnfit (why : Reason) (tokens rest : List Lexeme) : Type 0 where
  pub stops : StopsUnfit define tokens rest
  pub because : IsStopReason stops.front rest why

-- The function without the positions of its parts. They say where it is refused, and are not kept.
abbrev pub without_places : Function → Function
without_places f = record f { places = [] }

-- All the tokens of a define, its word first, are this function, or are refused so.
pub data IsFunction (tokens : List Lexeme) : Result Function Refused → Type 0 where
  -- they spell a function within the limits, and its names and types are right
  well_formed : (w : WrittenFunction) → Spells true define w tokens [] → IsWellFormed (numbered w) → IsFunction tokens (Ok (without_places (numbered w)))
  -- they spell a function, and a name or a type is wrong
  tested : (w : WrittenFunction) (why : Reason) (refused : Refused) → Spells true define w tokens [] → IsRefusedAt why (numbered w) refused → IsFunction tokens (Err refused)
  -- a token isn't allowed where it is
  unfit : (why : Reason) (rest : List Lexeme) → IsUnfit why tokens rest → IsFunction tokens (Err (refused_at why (stop_place tokens rest)))
  -- a token passes a limit
  past : (rest : List Lexeme) → StopsPast define tokens rest → IsFunction tokens (Err (refused_at Limit (stop_place tokens rest)))

-- the same of what a call returns; of running out of memory nothing is said
abbrev pub Answers : List Lexeme → Result Function CheckFault → Type 0
Answers tokens (Ok f) = IsFunction tokens (Ok f)
Answers tokens (Err (fault.Refused refused)) = IsFunction tokens (Err refused)
Answers tokens (Err fault.NoMemory) = Unit {0}
