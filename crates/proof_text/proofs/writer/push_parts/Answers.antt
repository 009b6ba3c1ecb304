use Rattle.proof_text.proofs.Common.{take, with_parts}
use Rattle.proof_text.proofs.Growing.{parts_more}
use Rattle.proof_text.proofs.writer.push_parts.Goals as goal

pub loop-part-preserved : goal.loop-part-preserved
loop-part-preserved c = λ proof written.
    let parts = c.args.parts.now in
    let i = c.loop-part.part-index in
    let before = c.loop-part.invariant proof written in
    parts_more proof parts i c.part-item.result c.as_slice.result.now c.push_part.new.text.items c.loop-part-test.true c.part-item.is c.as_slice.ensures (c.in_ok-push_part.ensures (with_parts proof (take i parts)) before)
