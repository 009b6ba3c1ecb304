-- One mark more.
use Rattle.clause_search.proofs.Common.{arith, refl}
use Rattle.clause_search.proofs.Marking.{count-room, counted-early, counted-more, read-mark}
use Rattle.clause_search.proofs.marks.Marks.mark.Goals as goal

pub overflow_add-self : goal.overflow_add-self
overflow_add-self c =
    let v = c.args.self.now.marked in
    let none = read-mark v.items c.args.place c.index.result.now c.requires.within c.index.ensures in
    let room = count-room c.args.low c.args.place v.items c.requires.within (rw c.if-index.false at none) in
    let told = c.requires.counted.late in
    omega (arith, room, told, v.ok.0, v.small)

pub returns-then-place-low-clause-counted : goal.returns-then-place-low-clause-counted
returns-then-place-low-clause-counted c =
    let v = c.args.self.now.marked in
    let none = read-mark v.items c.args.place c.index.result.now c.requires.within c.index.ensures in
    counted-early c.args.low c.args.place c.args.self.now _ c.requires.within c.requires.counted (rw c.if-index.false at none) c.if-place-low.true refl refl c.in_ok-push.ensures.items

pub returns-clause-counted : goal.returns-clause-counted
returns-clause-counted c =
    let v = c.args.self.now.marked in
    let none = read-mark v.items c.args.place c.index.result.now c.requires.within c.index.ensures in
    counted-more c.args.low c.args.place c.args.self.now _ c.requires.within c.requires.counted (rw c.if-index.false at none) c.if-place-low.false refl refl refl
