use Rattle.encoder.proofs.Common.{◌∙◌, ap, length, None, shape_in, length-replicate}
use Rattle.encoder.proofs.Whole.{unknown_states, unknown_shape, unknown_unreached}
use Rattle.encoder.proofs.function_run.unknown.Goals as goal

pub returns-clause-made : goal.returns-clause-made
returns-clause-made c = record { ahead = unknown_states c.no_end.new.terms c.in_ok-ahead.ahead c.len.result c.in_ok-ahead.ensures; ending = c.in_ok-ending.ensures.made }

pub returns-clause-shape : goal.returns-clause-shape
returns-clause-shape c = record {
  ahead = unknown_shape (shape_in c.args.setting) c.in_ok-ahead.ahead c.len.result c.in_ok-ahead.ensures;
  count = ap length c.in_ok-ahead.ensures ∙ (length-replicate c.len.result None ∙ c.len.ensures);
  ending = c.in_ok-ending.ensures.shape;
}

pub returns-clause-stands : goal.returns-clause-stands
returns-clause-stands c = λ g. record { ahead = unknown_unreached g c.no_end.new.terms c.in_ok-ahead.ahead c.len.result c.in_ok-ahead.ensures; ending = c.in_ok-ending.ensures.stands g }
