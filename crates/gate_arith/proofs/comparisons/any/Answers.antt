use Rattle.gate_arith.proofs.Common.{◌<◌, false, length, arith, GateId}
use Rattle.gate_arith.proofs.Testing.{any-more, any-whole, none_any}
use Rattle.gate_arith.proofs.comparisons.any.Goals as goal

pub loop-i-init : goal.loop-i-init
loop-i-init c = none_any c.args.circuit.now c.constant.new.self c.args.a.now c.in_ok-found.found c.in_ok-found.ensures.kept c.in_ok-found.ensures.made

pub loop-i-preserved : goal.loop-i-preserved
loop-i-preserved c =
    let d : GateId = record { index = 0; negated = false } in
    let lt : c.loop-i.i < length c.args.a.now = omega arith in
    any-more c.args.circuit.now c.loop-i.circuit c.or.new.self c.args.a.now c.loop-i.found c.in_ok-either.either d c.loop-i.i c.loop-i.invariant lt (c.requires c.loop-i.i d lt) c.in_ok-either.ensures.kept c.in_ok-either.ensures.made

pub returns-clause-made : goal.returns-clause-made
returns-clause-made c = any-whole c.args.circuit.now c.loop-i.circuit c.args.a.now c.loop-i.found c.loop-i.i (omega arith) c.loop-i.invariant
