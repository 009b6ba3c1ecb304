-- What a cursor over tokens may return.
use Rattle.std.specs.Prelude.{◌≡◌, List, Result, Ok, Err}
use Rattle.ir_lexer.specs.Lexeme.{Lexeme}
use Rattle.token_forms.specs.declared.fault.ReadFault.{ReadFault}
use Rattle.token_forms.specs.declared.fault.ReadFault.TheVariants.{Unfit, PastLimit, NoMemory}
use Rattle.token_forms.specs.Form.{Reading, reads, stops, unfit, limit}

-- the fault is the stop, unless memory runs out
abbrev pub Fails : {X : Type 0} → ReadFault → List Lexeme → Reading X → Type 0
Fails (Unfit reason) rest reading = reading ≡ stops (unfit reason) rest
Fails PastLimit rest reading = reading ≡ stops limit rest
Fails NoMemory rest reading = Unit {0}

-- what a function returns, seen by view, with the tokens that are left, is what reading gives
abbrev pub Reads : {X Y : Type 0} → (X → Y) → Result X ReadFault → List Lexeme → Reading Y → Type 0
Reads view (Ok x) rest reading = reading ≡ reads (view x) rest
Reads view (Err fault) rest reading = Fails fault rest reading

-- the same where there is no value
abbrev pub Passes : Result (Unit {0}) ReadFault → List Lexeme → Reading (Unit {0}) → Type 0
Passes (Ok x) rest reading = reading ≡ reads tt rest
Passes (Err fault) rest reading = Fails fault rest reading
