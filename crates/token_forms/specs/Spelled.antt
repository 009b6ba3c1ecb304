-- What a cursor over tokens returns, stated without how it reads.
use Rattle.std.specs.Prelude.{List, true, Result, Ok, Err}
use Rattle.ir_lexer.specs.Lexeme.{Lexeme}
use Rattle.token_forms.specs.declared.fault.ReadFault.{ReadFault}
use Rattle.token_forms.specs.declared.fault.ReadFault.TheVariants.{Unfit, PastLimit, NoMemory}
use Rattle.token_forms.specs.Form.{never, Form}
use Rattle.token_forms.specs.Spelling.{Spells}
use Rattle.token_forms.specs.Refusals.{RefusedAs, StopsUnfit, StopsPast}

-- The tokens before rest spell the value, within the limits. Or the first of rest is the first
-- token that isn't allowed, for this reason, or the first that passes a limit. If memory runs out
-- nothing is said.
abbrev pub SpellsOrStops : {X : Type 0} → Form never X → Result X ReadFault → List Lexeme → List Lexeme → Type 0
SpellsOrStops f (Ok x) tokens rest = Spells true f x tokens rest
SpellsOrStops f (Err (Unfit reason)) tokens rest = StopsUnfit f tokens rest × RefusedAs f reason tokens rest
SpellsOrStops f (Err PastLimit) tokens rest = StopsPast f tokens rest
SpellsOrStops f (Err NoMemory) tokens rest = Unit {0}
