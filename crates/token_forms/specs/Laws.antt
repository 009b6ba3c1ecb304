-- What holds of every form: it is read as it is spelled, and reading stops where it has to.
use Rattle.std.specs.Prelude.{◌≡◌, ◌↔◌, List, ◌∷◌, Bool, true}
use Rattle.ir_lexer.specs.Lexeme.{Lexeme}
use Rattle.ir_tree.specs.declared.module.Reason.{Reason}
use Rattle.token_forms.specs.Form.{never, Form, unfit, limit, reads, stops, read}
use Rattle.token_forms.specs.Spelling.{Spells}
use Rattle.token_forms.specs.Refusals.{RefusedAs, StopsUnfit, StopsPast}

-- what is read is spelled, and what is spelled is read, within the limits or with limits lifted
abbrev pub ReadsWhatIsSpelled : {X : Type 0} → Form never X → Type 0
ReadsWhatIsSpelled {X} f = (limits : Bool) (x : X) (tokens rest : List Lexeme) → (read limits f tokens ≡ reads x rest) ↔ Spells limits f x tokens rest

-- reading stops for a reason at the first token that isn't allowed, where that is the form's reason
abbrev pub StopsWhereUnfit : {X : Type 0} → Form never X → Type 0
StopsWhereUnfit f = (reason : Reason) (tokens rest : List Lexeme) → (read true f tokens ≡ stops (unfit reason) rest) ↔ (StopsUnfit f tokens rest × RefusedAs f reason tokens rest)

-- it stops for a limit at the first token that passes one
abbrev pub StopsWherePast : {X : Type 0} → Form never X → Type 0
StopsWherePast f = (tokens rest : List Lexeme) → (read true f tokens ≡ stops limit rest) ↔ StopsPast f tokens rest

-- no token is allowed after what is whole
abbrev pub EndsWhereWhole : {X : Type 0} → Form never X → Type 0
EndsWhereWhole {X} f = (x : X) (tokens : List Lexeme) (t : Lexeme) (others : List Lexeme) → Spells true f x tokens (t ∷ others) → StopsUnfit f tokens (t ∷ others)
