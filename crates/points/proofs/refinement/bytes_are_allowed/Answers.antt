use Rattle.points.proofs.Common.{refl, sym, ◌∙◌, arith, Bits, byte_allows}
use Rattle.points.proofs.Allowed.{pairs_pass-lengths, pairs_pass-more, pairs_pass-end}
use Rattle.points.proofs.refinement.bytes_are_allowed.Goals as goal

pub returns-then-source-target : goal.returns-then-source-target
returns-then-source-target c = sym (pairs_pass-lengths byte_allows c.args.source.now c.args.target.now c.if-source-target.true)

pub returns-then-not-byte_is_allowed : goal.returns-then-not-byte_is_allowed
returns-then-not-byte_is_allowed c =
    let more = pairs_pass-more byte_allows c.args.source.now c.args.target.now c.loop-i.i (Bits 0 0) (Bits 0 0) c.loop-i-test.true (omega arith) in
    sym (c.loop-i.invariant ∙ more ∙ rw (← c.byte_is_allowed.ensures, c.if-not-byte_is_allowed.true) refl)

pub loop-i-preserved : goal.loop-i-preserved
loop-i-preserved c =
    let more = pairs_pass-more byte_allows c.args.source.now c.args.target.now c.loop-i.i (Bits 0 0) (Bits 0 0) c.loop-i-test.true (omega arith) in
    c.loop-i.invariant ∙ more ∙ rw (← c.byte_is_allowed.ensures, c.if-not-byte_is_allowed.false) refl

pub returns : goal.returns
returns c = sym (c.loop-i.invariant ∙ pairs_pass-end byte_allows c.args.source.now c.args.target.now c.loop-i.i (omega arith) (omega arith))
