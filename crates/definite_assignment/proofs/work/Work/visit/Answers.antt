use Rattle.definite_assignment.proofs.Common.{◌<◌, ◌∙◌, false, length, set, refl, sym, subst, arith, IsSearch, state_of}
use Rattle.definite_assignment.proofs.Search.{list_at, search_turns, set_places, visit_shrinks}
use Rattle.definite_assignment.proofs.work.Work.visit.Goals as goal

pub returns-clause-room : goal.returns-clause-room
returns-clause-room c = c.fill.ensures.places ∙ set_places c.requires.search c.requires.block c.get.ensures

pub returns-clause-search : goal.returns-clause-search
returns-clause-search c =
    let below : c.args.block < length c.args.assigns.now = omega (arith, c.requires.block, c.requires.alike) in
    subst (λ n. IsSearch c.args.successors.now c.args.assigns.now n (state_of c.spread.new.self)) (sym (c.fill.ensures.places ∙ set_places c.requires.search c.requires.block c.get.ensures))
    (search_turns (record { sets = c.args.self.now.sets; marks = set c.args.self.now.is_waiting.items c.args.block false }) c.args.block c.requires.search c.requires.block refl refl c.get.ensures
    (list_at c.args.assigns.now c.args.block c.index-assigns-block.result below c.as_slice.ensures c.index-assigns-block.is)
    (list_at c.args.successors.now c.args.block c.index-successors-block.result c.requires.block c.as_slice-2.ensures c.index-successors-block.is)
    c.fill.ensures c.spread.ensures)

pub returns-clause-rest : goal.returns-clause-rest
returns-clause-rest c =
    visit_shrinks (state_of c.args.self.now) (record { sets = c.args.self.now.sets; marks = set c.args.self.now.is_waiting.items c.args.block false }) (state_of c.spread.new.self) c.args.block refl refl c.spread.ensures
