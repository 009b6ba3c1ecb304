-- The variable's number is its index in the order.
use Rattle.pair_questions.proofs.Common.{◌≡◌, length, arith}
use Rattle.pair_questions.proofs.Numbered.{order_push}
use Rattle.pair_questions.proofs.variables.variable.Goals as goal

pub returns-clause-order : goal.returns-clause-order
returns-clause-order c widths is =
    let long : c.args.order.now.len ≡ length c.args.order.now.items = omega (arith, c.args.order.now.ok.0) in
    order_push c.args.terms.now c.variable.new.self c.args.order.now.items c.push.new.self.items widths c.in_ok-id.id c.args.width is c.variable.ensures.kept
    (rw (c.len.ensures, long) at c.variable.ensures.gains) (rw (c.len.ensures, long) at c.in_ok-id.ensures.stored) c.in_ok-push.ensures.items
