use Rattle.std.proofs.Common.{sym, arith}
use Rattle.lowering.proofs.NameLemmas.{most_more, most_none}
use Rattle.lowering.proofs.stack_names.stack_height.Goals as goal

pub loop-name-init : goal.loop-name-init
loop-name-init c = record { most = sym (most_none c.args.plan.now.f.now); fits = omega arith }

pub loop-name-preserved : goal.loop-name-preserved
loop-name-preserved c =
    let more = most_more c.args.plan.now.f.now c.loop-name.name in
    record { most = omega (arith, more); fits = omega arith }
