use Rattle.ir_check.proofs.Common.{List, set, ap, ◌∙◌, Mark}
use Rattle.ir_check.proofs.Rounds.{mark_set}
use Rattle.ir_check.proofs.marks.Marks.set.Goals as goal

pub returns : goal.returns
returns c = mark_set c.self.inside.round c.self.inside.slots.items c.args.name c.args.mark ∙ ap (λ (ms : List Mark). set ms c.args.name c.args.mark) c.self.view_is
