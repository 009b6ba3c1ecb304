use Rattle.definite_assignment.proofs.Common.{rules, ◌≡◌, ◌∙◌, false, length, refl, ap, sym, subst, arith, length-replicate, places_for, IsSearch, state_of}
use Rattle.definite_assignment.proofs.Search.{none_waits, search_ends, search_room, search_starts_at}
use Rattle.definite_assignment.proofs.fixpoint.Goals as goal

pub loop-init : goal.loop-init
loop-init c =
    let long : length c.in_ok-leaving.leaving ≡ places_for c.args.names = ap length c.in_ok-leaving.ensures ∙ length-replicate (places_for c.args.names) false in
    record {
      search = subst (λ n. IsSearch c.args.successors.now c.args.assigns.now n (state_of c.in_ok-work.work)) (sym long)
          (search_starts_at c.args.successors.now c.args.assigns.now c.args.names (length c.args.successors.now) (state_of c.in_ok-work.work) refl (search rules) c.requires.within c.in_ok-work.ensures.sets c.in_ok-work.ensures.marks);
      room = long;
    }

pub returns-clause-room : goal.returns-clause-room
returns-clause-room c = search_room c.pass.ensures.search (c.pass.ensures.room ∙ c.loop.invariant.room)

pub returns-clause-exact : goal.returns-clause-exact
returns-clause-exact c block name below place =
    search_ends c.args.successors.now c.args.assigns.now (length c.pass.new.leaving) (state_of c.pass.new.self) c.pass.ensures.search
    (none_waits (state_of c.pass.new.self) c.in_ok-order.order.items (length c.args.successors.now) (rw c.deref.ensures.value at (c.pass.ensures.quiet c.loop-test.false)) c.in_ok-order.ensures.every)
    block name below (omega (arith, place, c.pass.ensures.room, c.loop.invariant.room))
