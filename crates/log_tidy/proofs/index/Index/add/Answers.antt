-- The literal is of the clause, and the signature is its own.
use Rattle.log_tidy.proofs.Common.{on_ok_weaker}
use Rattle.log_tidy.proofs.Listed.{put-entered, slot-within}
use Rattle.log_tidy.proofs.index.Index.add.Goals as goal

pub returns : goal.returns
returns c =
    on_ok_weaker c.enter.result
    (λ put. put-entered c.args.self.now c.enter.new.self c.args.clause.now c.rarest-literal.result (record { number = c.args.number; signature = c.signature_of.result }) c.requires.sized c.rarest-literal.ensures c.signature_of.ensures
    (slot-within c.args.self.now.half c.rarest-literal.result c.requires.sized.some) put)
    c.enter.ensures
