use Rattle.read_back.proofs.SpelledFunction.{spellable_is_spelled}
use Rattle.read_back.proofs.ReadBackModule.{modules-read_back}
use Rattle.read_back.proofs.laws.printed_modules_read_back.Goals as goal

pub returns : goal.returns
returns c = modules-read_back spellable_is_spelled
