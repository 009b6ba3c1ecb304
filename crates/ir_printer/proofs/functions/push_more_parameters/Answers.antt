use Rattle.ir_printer.proofs.Common.{◌∷◌, parameter_pieces, comma, space}
use Rattle.ir_printer.proofs.Texts.{all_texts}
use Rattle.ir_printer.proofs.functions.push_more_parameters.Goals as goal

pub returns : goal.returns
returns c = all_texts (λ x. comma ∷ parameter_pieces c.args.names.now space x) c.args.parameters.now c.loop-parameter.parameter-index _ _ c.loop-parameter-test.false c.loop-parameter.invariant
