use Rattle.ir_grammar.proofs.PlainGrammar.{plain-define, one-define}
use Rattle.ir_grammar.proofs.laws.is_plain_grammar.Goals as goal

pub returns : goal.returns
returns c = record { plain = plain-define; one = one-define }
