use Rattle.register_slots.proofs.PhiLemmas.{grows_in, added_in}
use Rattle.register_slots.proofs.rows.push_at.Goals as goal

pub returns-clause-grows : goal.returns-clause-grows
returns-clause-grows c = grows_in c.args.rows.now c.args.at c.args.item c.get_mut.result.now c.push_new.new.row c.get_mut.ensures.value c.in_ok-push_new.ensures

pub returns-clause-added : goal.returns-clause-added
returns-clause-added c = λ _. added_in c.args.rows.now c.args.at c.args.item c.get_mut.result.now c.push_new.new.row c.get_mut.ensures.value c.in_ok-push_new.ensures
