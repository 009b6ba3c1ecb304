use Rattle.run_trace.proofs.Common.{List, ap, ◌∙◌, Value, operand_value, index_values}
use Rattle.run_trace.proofs.Addresses.{gep_reason}
use Rattle.run_trace.proofs.causes.gep_cause.Goals as goal

pub returns : goal.returns
returns c = λ into nuw tape needs.
    gep_reason into c.args.inbounds nuw c.args.of_type.now c.args.base c.args.indices.now tape c.args.machine.now c.gep_flag-flag.result c.value_of-base.result c.as_slice.result.now
    (c.value_of-base.ensures ∙ ap (λ (rs : List Value). operand_value rs c.args.base) c.as_slice-registers.ensures)
    (c.as_slice.ensures ∙ c.in_ok-take_index_values.ensures.value ∙ ap (λ (rs : List Value). index_values rs c.args.of_type.now 0 c.args.indices.now) c.as_slice-registers.ensures)
    c.requires.written c.gep_flag-flag.ensures.inbounds c.gep_flag-flag.ensures.nuw needs
