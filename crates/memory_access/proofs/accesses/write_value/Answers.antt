use Rattle.memory_access.proofs.Common.{◌+◌, ap, ◌∙◌, arith, set, value_bytes}
use Rattle.memory_access.proofs.ByteLists.{paste-byte, paste-all}
use Rattle.memory_access.proofs.Values.{length-value_bytes}
use Rattle.memory_access.proofs.accesses.write_value.Goals as goal

pub loop-k-preserved : goal.loop-k-preserved
loop-k-preserved c =
    let long = length-value_bytes c.args.access c.args.value in
    let room = c.requires in
    c.set.ensures ∙ ap (λ xs. set xs (c.args.from + c.loop-k.k) c.byte_of.result) c.loop-k.invariant
    ∙ paste-byte c.args.places.now (value_bytes c.args.access c.args.value) c.args.from c.loop-k.k c.byte_of.result (omega (arith, long, room)) c.byte_of.ensures

pub returns : goal.returns
returns c =
    let long = length-value_bytes c.args.access c.args.value in
    let size = c.size_of-size.ensures.value in
    c.loop-k.invariant ∙ paste-all c.args.places.now (value_bytes c.args.access c.args.value) c.args.from c.loop-k.k (omega (arith, long, size))
