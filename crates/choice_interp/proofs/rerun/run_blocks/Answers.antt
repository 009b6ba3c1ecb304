use Rattle.choice_interp.proofs.Common.{◌≤◌, List, length, refl, ap, subst, ◌∙◌, arith, Value, Block, run_turns}
use Rattle.choice_interp.specs.declared.flow.Left.TheVariants as left
use Rattle.choice_interp.proofs.Ways.{way_start, left_at, way_over, way_on, way_beyond, way_outside}
use Rattle.choice_interp.proofs.rerun.run_blocks.Goals as goal

pub loop-at-init : goal.loop-at-init
loop-at-init c = record {
  way = way_start c.args.f.now c.args.tape.now c.args.turns c.args.machine.now;
  turn = (let none = c.requires.turn in omega (arith, none));
  registers = refl;
}

pub returns-in-Over-clause-run : goal.returns-in-Over-clause-run
returns-in-Over-clause-run c =
    let whole = run_turns c.args.f.now c.args.tape.now c.args.turns 0 c.args.machine.now in
    way_over c.args.f.now c.args.tape.now c.loop-at.jumps c.loop-at.at c.run_block.new.machine c.in-Over.ending whole
    (left_at c.args.f.now c.args.tape.now c.loop-at.jumps c.loop-at.at c.loop-at.machine c.run_block.new.machine c.as_slice-blocks.result.now c.index-blocks-at.result c.in_ok-ending.field-0 (left.Over c.in-Over.ending) whole
    c.loop-at.invariant.way c.as_slice-blocks.ensures c.loop-at-test.true c.index-blocks-at.is c.in_ok-ending.ensures.exit c.in-Over.is)

pub loop-at-preserved : goal.loop-at-preserved
loop-at-preserved c =
    let whole = run_turns c.args.f.now c.args.tape.now c.args.turns 0 c.args.machine.now in
    let so = left_at c.args.f.now c.args.tape.now c.loop-at.jumps c.loop-at.at c.loop-at.machine c.run_block.new.machine c.as_slice-blocks.result.now c.index-blocks-at.result c.in_ok-ending.field-0 (left.To c.in-To.label) whole
    c.loop-at.invariant.way c.as_slice-blocks.ensures c.loop-at-test.true c.index-blocks-at.is c.in_ok-ending.ensures.exit c.in-To.is in
    record {
      way = way_on c.args.f.now c.args.tape.now c.loop-at.jumps c.loop-at.at c.in-To.label c.place-to.result c.in-Some.rest c.run_block.new.machine c.jump.new.machine whole so c.place-to.ensures c.in-Some.ensures.value;
      turn = (let a = c.in-Some.ensures.turn in let b = c.run_block.ensures.turn in let d = c.loop-at.invariant.turn in omega (arith, a, b, d));
      registers = ap (λ (vs : List Value). length vs) c.jump.ensures.registers ∙ c.run_block.ensures.registers ∙ c.loop-at.invariant.registers;
    }

pub returns-in-None-clause-run : goal.returns-in-None-clause-run
returns-in-None-clause-run c =
    let whole = run_turns c.args.f.now c.args.tape.now c.args.turns 0 c.args.machine.now in
    let so = left_at c.args.f.now c.args.tape.now c.loop-at.jumps c.loop-at.at c.loop-at.machine c.run_block.new.machine c.as_slice-blocks.result.now c.index-blocks-at.result c.in_ok-ending.field-0 (left.To c.in-To.label) whole
    c.loop-at.invariant.way c.as_slice-blocks.ensures c.loop-at-test.true c.index-blocks-at.is c.in_ok-ending.ensures.exit c.in-To.is in
    way_beyond c.args.f.now c.args.tape.now c.loop-at.jumps c.loop-at.at c.in-To.label c.place-to.result c.run_block.new.machine c.jump.new.machine whole so c.place-to.ensures c.in-None.ensures.value

pub returns-clause-run : goal.returns-clause-run
returns-clause-run c =
    let past : length c.args.f.now.blocks ≤ c.loop-at.at = subst (λ (ys : List Block). length ys ≤ c.loop-at.at) c.as_slice-blocks.ensures c.loop-at-test.false in
    way_outside c.args.f.now c.args.tape.now c.loop-at.jumps c.loop-at.at c.loop-at.machine (run_turns c.args.f.now c.args.tape.now c.args.turns 0 c.args.machine.now) c.loop-at.invariant.way past
