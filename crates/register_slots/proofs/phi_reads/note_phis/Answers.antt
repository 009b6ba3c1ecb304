use Rattle.register_slots.proofs.Common.{List, subst, AllByRecursion, Phi, PhiEntry, IsEntryNoted, IsPhiNoted}
use Rattle.register_slots.proofs.PhiLemmas.{phi_later, note_more, all_end}
use Rattle.register_slots.proofs.phi_reads.note_phis.Goals as goal

pub loop-phi-preserved : goal.loop-phi-preserved
loop-phi-preserved c =
    let here : IsPhiNoted c.note_entries.new.rows c.phi-item.result = subst (λ (entries : List PhiEntry). AllByRecursion (IsEntryNoted c.note_entries.new.rows) entries) c.as_slice.ensures (c.in_ok-note_entries.ensures.noted c.if-not-branch.false) in
    record {
      grows = λ at name found. c.in_ok-note_entries.ensures.grows at name (c.loop-phi.invariant.grows at name found);
      noted = note_more IsPhiNoted (λ old new phi. phi_later old new phi) c.args.phis.now c.loop-phi.phi-index c.phi-item.result c.loop-phi.rows c.note_entries.new.rows c.loop-phi-test.true c.in_ok-note_entries.ensures.grows (subst (λ (phi : Phi). IsPhiNoted c.note_entries.new.rows phi) c.phi-item.is here) c.loop-phi.invariant.noted;
    }

pub returns-clause-noted : goal.returns-clause-noted
returns-clause-noted c = λ _. c.loop-phi.invariant.noted c.loop-phi.rows (λ at name found. found) (all_end (IsPhiNoted c.loop-phi.rows) c.args.phis.now c.loop-phi.phi-index c.loop-phi-test.false)
