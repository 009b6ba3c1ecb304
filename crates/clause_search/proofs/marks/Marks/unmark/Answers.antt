-- One mark less from the position on.
use Rattle.clause_search.proofs.Common.{arith, refl}
use Rattle.clause_search.proofs.Marking.{count-some, counted-less}
use Rattle.clause_search.proofs.marks.Marks.unmark.Goals as goal

pub overflow_sub-self : goal.overflow_sub-self
overflow_sub-self c =
    let some = count-some c.args.low c.args.place c.args.self.now.marked.items c.requires.late c.requires.marked in
    let told = c.requires.counted.late in
    omega (arith, some, told)

pub returns-clause-counted : goal.returns-clause-counted
returns-clause-counted c =
    counted-less c.args.low c.args.place c.args.self.now _ c.requires.within c.requires.counted c.requires.marked c.requires.late refl refl refl
