use Rattle.read_back.proofs.SpelledFunction.{spellable_is_spelled}
use Rattle.read_back.proofs.MadeModule.{made-printable}
use Rattle.read_back.proofs.laws.made_modules_are_printable.Goals as goal

pub returns : goal.returns
returns c = made-printable spellable_is_spelled
