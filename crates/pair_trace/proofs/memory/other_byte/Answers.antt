use Rattle.std.proofs.Common.{sym, ◌∙◌, arith}
use Rattle.pair_trace.proofs.Bytes.{none_before, before_more, before_all, other_at}
use Rattle.pair_trace.proofs.memory.other_byte.Goals as goal

pub loop-i-init : goal.loop-i-init
loop-i-init c = none_before c.args.source.now c.args.target.now

pub loop-i-preserved : goal.loop-i-preserved
loop-i-preserved c =
    before_more c.args.source.now c.args.target.now c.loop-i.i c.loop-i-test.true (omega arith) c.loop-i.invariant (sym c.byte_is_allowed.ensures ∙ c.if-not-byte_is_allowed.false)

pub returns-then-not-byte_is_allowed : goal.returns-then-not-byte_is_allowed
returns-then-not-byte_is_allowed c =
    other_at c.args.source.now c.args.target.now c.loop-i.i c.loop-i-test.true (omega arith) c.loop-i.invariant (sym c.byte_is_allowed.ensures ∙ c.if-not-byte_is_allowed.true)

pub returns : goal.returns
returns c = before_all c.args.source.now c.args.target.now c.loop-i.i (omega arith) (omega arith) c.loop-i.invariant
