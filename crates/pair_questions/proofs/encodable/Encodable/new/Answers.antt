use Rattle.pair_questions.proofs.Encoding.{encoded_stands_in}
use Rattle.pair_questions.proofs.encodable.Encodable.new.Goals as goal

pub returns-clause-encodable : goal.returns-clause-encodable
returns-clause-encodable c = record {
  within = c.in_ok-layered.ensures.turns;
  stands_in = encoded_stands_in c.args.f.now c.in_ok-slotted.slotted c.in_ok-slotted.ensures;
  copies = rw c.encoded_of.ensures at c.in_ok-layered.ensures.copies;
}
