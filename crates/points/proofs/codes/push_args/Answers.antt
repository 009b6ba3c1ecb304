use Rattle.points.proofs.Common.{◌++◌, ap, sym, ◌∙◌, arith, Parameter, value_code}
use Rattle.points.proofs.Pushes.{args_pushed, all_args_pushed}
use Rattle.points.proofs.codes.push_args.Goals as goal

pub loop-i-preserved : goal.loop-i-preserved
loop-i-preserved c = λ layout. args_pushed layout c.args.parameters.now c.args.args.now c.loop-i.i c.index-parameters-i.result c.get.result.now c.loop-i.code.items c.push_value.new.code.items _ (omega arith) (omega arith) c.index-parameters-i.is c.get.ensures
    (c.in_ok-push_value.ensures layout ∙ ap (λ (p : Parameter). c.loop-i.code.items ++ value_code layout p.of_type c.get.result.now) (sym c.index-parameters-i.is))
    (c.loop-i.invariant layout)

pub returns : goal.returns
returns c = λ layout. all_args_pushed layout c.args.parameters.now c.args.args.now c.loop-i.i c.loop-i.code.items _ (omega arith) (c.loop-i.invariant layout)
