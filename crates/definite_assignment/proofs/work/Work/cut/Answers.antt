use Rattle.definite_assignment.proofs.Spread.{cut_keeps_at, cut_marks_at}
use Rattle.definite_assignment.proofs.work.Work.cut.Goals as goal

pub returns-then-cut : goal.returns-then-cut
returns-then-cut c =
    cut_marks_at c.args.self.now.sets c.args.self.now.is_waiting.items c.args.next c.args.leaving.now c.get_mut.result.now c.cut.new.self c.requires.within c.requires.marks c.requires.alike
    c.get_mut.ensures.value c.cut.ensures.both (c.cut.ensures.changed c.if-cut.true)

pub returns-else-cut : goal.returns-else-cut
returns-else-cut c =
    cut_keeps_at c.args.self.now.sets c.args.self.now.is_waiting.items c.args.next c.args.leaving.now c.get_mut.result.now c.cut.new.self c.requires.within c.requires.alike
    c.get_mut.ensures.value c.cut.ensures.both (c.cut.ensures.same c.if-cut.false)
