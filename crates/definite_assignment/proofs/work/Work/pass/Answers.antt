use Rattle.definite_assignment.proofs.Common.{◌≡◌, ◌<◌, ◌∙◌, false, length, get_or, sym, ap, arith, take_all, get_or_default, All-more, both_ways, is_waiting, rest_of, state_of}
use Rattle.definite_assignment.proofs.work.Work.pass.Goals as goal
use Rattle.definite_assignment.proofs.work.Work.pass.Goals.{then-index, else-index}

pub loop-block-preserved : goal.loop-block-preserved
loop-block-preserved c =
    let block = get_or c.args.order.now c.loop-block.block-index 0 in
    let below : block < length c.args.successors.now = c.requires.blocks c.loop-block.block-index 0 c.loop-block-test.true in
    let mark : is_waiting (state_of c.loop-block.self) block ≡ c.index.result.now =
    get_or_default c.loop-block.self.is_waiting.items block false c.index.result.now (omega (arith, below, c.loop-block.invariant.search.marks)) ∙ sym c.index.ensures in
    elim c.if-index.branch [
      | then-index w ↦
          let less : rest_of (state_of w.visit.new.self) < rest_of (state_of c.args.self.now) = omega (arith, w.visit.ensures.rest (mark ∙ w.if-index.true), c.loop-block.invariant.most) in
          record {
            search = rw (w.self-is, w.leaving-is) w.visit.ensures.search;
            room = ap length w.leaving-is ∙ (w.visit.ensures.room ∙ c.loop-block.invariant.room);
            most = rw w.self-is (omega (arith, less));
            rest = λ t. rw w.self-is less;
            quiet = λ f. absurd (both_ways _ f w.visited-is);
          }
      | else-index w ↦
          record {
            search = rw (w.self-is, w.leaving-is) c.loop-block.invariant.search;
            room = ap length w.leaving-is ∙ c.loop-block.invariant.room;
            most = rw w.self-is c.loop-block.invariant.most;
            rest = λ t. rw w.self-is (c.loop-block.invariant.rest (sym w.visited-is ∙ t));
            quiet = λ f. rw w.self-is (All-more (λ b. is_waiting (state_of c.loop-block.self) b ≡ false) c.args.order.now c.loop-block.block-index 0 c.loop-block-test.true
                (c.loop-block.invariant.quiet (sym w.visited-is ∙ f)) (mark ∙ w.if-index.false));
          }
    ]

pub returns-clause-quiet : goal.returns-clause-quiet
returns-clause-quiet c = rw (take_all c.loop-block.block-index c.args.order.now c.loop-block-test.false) at c.loop-block.invariant.quiet
