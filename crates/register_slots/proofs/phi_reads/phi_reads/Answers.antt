use Rattle.register_slots.proofs.Common.{List, subst, AllByRecursion, Phi, Block, IsPhiNoted, IsBlockNoted}
use Rattle.register_slots.proofs.PhiLemmas.{block_later, note_more, all_end}
use Rattle.register_slots.proofs.phi_reads.phi_reads.Goals as goal

pub loop-block-preserved : goal.loop-block-preserved
loop-block-preserved c =
    let here : IsBlockNoted c.note_phis.new.rows c.block-item.result = subst (λ (phis : List Phi). AllByRecursion (IsPhiNoted c.note_phis.new.rows) phis) c.as_slice.ensures (c.in_ok-note_phis.ensures.noted c.if-not-branch.false) in
    note_more IsBlockNoted (λ old new b. block_later old new b) c.as_slice-blocks.result.now c.loop-block.block-index c.block-item.result c.loop-block.rows c.note_phis.new.rows c.loop-block-test.true c.in_ok-note_phis.ensures.grows (subst (λ (b : Block). IsBlockNoted c.note_phis.new.rows b) c.block-item.is here) c.loop-block.invariant

pub returns : goal.returns
returns c = subst (λ (blocks : List Block). AllByRecursion (IsBlockNoted c.loop-block.rows) blocks) c.as_slice-blocks.ensures (c.loop-block.invariant c.loop-block.rows (λ at name found. found) (all_end (IsBlockNoted c.loop-block.rows) c.as_slice-blocks.result.now c.loop-block.block-index c.loop-block-test.false))
