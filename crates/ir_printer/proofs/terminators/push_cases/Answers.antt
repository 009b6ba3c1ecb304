use Rattle.ir_printer.proofs.Common.{case_pieces}
use Rattle.ir_printer.proofs.Texts.{all_texts}
use Rattle.ir_printer.proofs.terminators.push_cases.Goals as goal

pub returns : goal.returns
returns c = all_texts (case_pieces c.args.names.now) c.args.cases.now c.loop-case.case-index _ _ c.loop-case-test.false c.loop-case.invariant
