-- A form is read as it is spelled.
use Rattle.token_forms.proofs.Common.{◌≡◌, Bool, true, List, ◌∷◌, ◌↔◌, Result, Ok, Err, Lexeme, Reason, ReadFault, Unfit, PastLimit, NoMemory, never, Form, unfit, limit, reads, stops, read, Spells, RefusedAs, StopsUnfit, StopsPast, Reads}
use Rattle.token_forms.specs.Spelled.{SpellsOrStops}
use Rattle.token_forms.proofs.Exact.{read-found, read-again}
use Rattle.token_forms.proofs.Stops.{limit-again, stops-unfit, stops-past, stops-behind}
use Rattle.token_forms.proofs.Reasons.{refused-as}
use Rattle.token_forms.proofs.RefusedAgain.{refused-again}

pub read-spelled : {X : Type 0} (f : Form never X) (limits : Bool) (x : X) (tokens rest : List Lexeme) → (read limits f tokens ≡ reads x rest) ↔ Spells limits f x tokens rest
read-spelled f limits x tokens rest = (read-found limits f tokens x rest, read-again limits f tokens x rest)

pub unfit-stops : {X : Type 0} (f : Form never X) (reason : Reason) (tokens rest : List Lexeme) → (read true f tokens ≡ stops (unfit reason) rest) ↔ (StopsUnfit f tokens rest × RefusedAs f reason tokens rest)
unfit-stops f reason tokens rest = (λ e. (stops-unfit f tokens reason rest e, refused-as f reason tokens rest e), λ s. refused-again f reason tokens rest s.1)

pub past-stops : {X : Type 0} (f : Form never X) (tokens rest : List Lexeme) → (read true f tokens ≡ stops limit rest) ↔ StopsPast f tokens rest
past-stops f tokens rest = (stops-past f tokens rest, λ s. limit-again f tokens rest s.passes)

pub whole-ends : {X : Type 0} (f : Form never X) (x : X) (tokens : List Lexeme) (t : Lexeme) (others : List Lexeme) → Spells true f x tokens (t ∷ others) → StopsUnfit f tokens (t ∷ others)
whole-ends f x tokens t others s = stops-behind f tokens x t others (read-again true f tokens x (t ∷ others) s)

-- what a cursor answers, said without the reading
pub as-spelled : {X : Type 0} (f : Form never X) (r : Result X ReadFault) (tokens rest : List Lexeme) → Reads (λ (x : X). x) r rest (read true f tokens) → SpellsOrStops f r tokens rest
as-spelled f (Ok x) tokens rest e = read-found true f tokens x rest e
as-spelled f (Err (Unfit reason)) tokens rest e = (stops-unfit f tokens reason rest e, refused-as f reason tokens rest e)
as-spelled f (Err PastLimit) tokens rest e = stops-past f tokens rest e
as-spelled f (Err NoMemory) tokens rest e = tt
