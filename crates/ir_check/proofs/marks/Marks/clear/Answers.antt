use Rattle.ir_check.proofs.Common.{◌≡◌, List, length, replicate, rules, ap, ◌∙◌, Mark, Stranger, marks_in}
use Rattle.ir_check.proofs.Rounds.{unmarked, next_round, first_round}
use Rattle.ir_check.proofs.marks.Marks.clear.Goals as goal

pub returns-in-Some : goal.returns-in-Some
returns-in-Some c =
    next_round c.self.inside.round c.in-Some.round c.self.inside.slots.items c.in-Some.ensures.1 c.self.invariant ∙ ap (λ (ms : List Mark). replicate (length ms) Stranger) c.self.view_is

pub returns-in-None : goal.returns-in-None
returns-in-None c =
    let filled : c.fill.new.self.items ≡ replicate (length c.self.inside.slots.items) unmarked = search rules in
    ap (marks_in 0) filled ∙ (first_round c.self.inside.round c.self.inside.slots.items ∙ ap (λ (ms : List Mark). replicate (length ms) Stranger) c.self.view_is)
