use Rattle.ir_check.proofs.Common.{◌∙◌, ap, rules, marks_in}
use Rattle.ir_check.proofs.Rounds.{no_marks}
use Rattle.ir_check.proofs.marks.Marks.new.Goals as goal

pub returns : goal.returns
returns c = ap (marks_in 0) (search rules) ∙ no_marks c.args.names
