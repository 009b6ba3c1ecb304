use Rattle.encoder.proofs.Common.{◌≡◌, ◌∙◌, ◌+◌, subst, refl, slice_get_within, targets, Machine, Exit, exit_insts, left_by, bit_at, keeps_self, keeps_trans, is_term-later, words-later, Simulates, placed, ending-later, frontier-later, state-later, tally-later, sees-later, tested, ended_frontier, ended_shape, simulates_copy, fits_at, labels_at, numbers_at, objects_at}
use Rattle.std.proofs.lemmas.Result.{on_ok_weaker}
use Rattle.ir_tree.specs.declared.tree.Block.{Block}
use Rattle.encoder.proofs.passing.run_copy.Goals as goal

pub get-block-requires : goal.get-block-requires
get-block-requires c = slice_get_within _ c.args.copy.now.block c.requires.copy.block c.requires.copy.is

pub step_all-requires-clause-types : goal.step_all-requires-clause-types
step_all-requires-clause-types c = rw c.as_slice.ensures (objects_at c.args.setting.f.now c.args.copy.now.block c.get-block.result.now c.requires.run c.get-block.ensures)

pub step_all-requires-clause-numbers : goal.step_all-requires-clause-numbers
step_all-requires-clause-numbers c = rw c.as_slice.ensures (numbers_at c.args.setting.f.now c.args.copy.now.block c.get-block.result.now c.requires.run c.get-block.ensures)

pub and_not-requires-clause-a : goal.and_not-requires-clause-a
and_not-requires-clause-a c = is_term-later c.args.terms.now c.step_all.new.terms c.step_all.ensures.kept 1 c.args.entry.alive c.requires.entry.alive

pub and_not-requires-clause-b : goal.and_not-requires-clause-b
and_not-requires-clause-b c = c.in_ok-step_all.ensures.steps.state.alive

pub end_undefined-requires-clause-own : goal.end_undefined-requires-clause-own
end_undefined-requires-clause-own c = ending-later c.args.terms.now c.and_not.new.terms (keeps_trans c.args.terms.now c.step_all.new.terms c.and_not.new.terms c.step_all.ensures.kept c.and_not.ensures.kept) c.args.frontier.now.ending c.requires.frontier.ending

pub end_undefined-requires-clause-tally : goal.end_undefined-requires-clause-tally
end_undefined-requires-clause-tally c = tally-later c.step_all.new.terms c.and_not.new.terms c.and_not.ensures.kept c.step_all.new.state.tally c.in_ok-step_all.ensures.steps.state.tally

pub leave-requires-clause-leaving : goal.leave-requires-clause-leaving
leave-requires-clause-leaving c =
    let old = c.args.terms.now in
    let a = c.step_all.new.terms in
    let b = c.and_not.new.terms in
    let d = c.end_undefined.new.terms in
    let kb = c.and_not.ensures.kept in
    let kd = c.end_undefined.ensures.kept in
    let before = frontier-later old b (keeps_trans old a b c.step_all.ensures.kept kb) c.args.frontier.now c.requires.frontier in
    let undefined = tested c.in_ok-undefined.ensures.made in
    let ends = c.in_ok-end_undefined.ensures.ends in
    let steps = c.in_ok-step_all.ensures.steps in
    let state = state-later a d (keeps_trans a b d kb kd) c.step_all.new.state steps.state in
    record {
      frontier = ended_frontier (keeps_self b) kd before undefined ends;
      shape = ended_shape (keeps_self b) kd before undefined ends c.requires.shape;
      state = state;
      fits = steps.shape ∙ c.requires.fits;
      c = state.alive;
      path = rw c.as_slice-2.ensures state.path;
    }

pub leave-requires-clause-returned : goal.leave-requires-clause-returned
leave-requires-clause-returned c = fits_at c.args.setting.f.now c.args.copy.now.block c.get-block.result.now c.requires.run.returns c.get-block.ensures

pub leave-requires-clause-edges : goal.leave-requires-clause-edges
leave-requires-clause-edges c = rw c.as_slice-edges.ensures (labels_at c.args.setting.f.now c.args.copy.now c.get-block.result.now c.requires.copy c.get-block.ensures)

pub leave-requires-clause-tape : goal.leave-requires-clause-tape
leave-requires-clause-tape c = words-later c.args.terms.now c.end_undefined.new.terms
    (keeps_trans c.args.terms.now c.step_all.new.terms c.end_undefined.new.terms c.step_all.ensures.kept (keeps_trans c.step_all.new.terms c.and_not.new.terms c.end_undefined.new.terms c.and_not.ensures.kept c.end_undefined.ensures.kept)) c.args.setting.tape.now c.requires.tape

pub returns-clause-frontier : goal.returns-clause-frontier
returns-clause-frontier c = on_ok_weaker c.leave.result (λ so. so.frontier) c.leave.ensures.leaves

pub returns-clause-shape : goal.returns-clause-shape
returns-clause-shape c = on_ok_weaker c.leave.result (λ so. so.shape) c.leave.ensures.leaves

pub returns-clause-simulates : goal.returns-clause-simulates
returns-clause-simulates c = on_ok_weaker c.leave.result (λ so g block sees found.
    let old = c.args.terms.now in
    let a = c.step_all.new.terms in
    let b = c.and_not.new.terms in
    let d = c.end_undefined.new.terms in
    let ka = c.step_all.ensures.kept in
    let kb = c.and_not.ensures.kept in
    let kd = c.end_undefined.ensures.kept in
    let here = c.get-block.result.now in
    let is = c.get-block.ensures in
    let same : here ≡ block = cc in
    let no_undef = c.args.setting.f.now.returns_no_undef in
    let sees_d = sees-later old d (keeps_trans old a d ka (keeps_trans a b d kb kd)) g c.args.setting.tape.now c.requires.tape sees in
    subst (λ (x : Block). Simulates g old c.leave.new.terms c.args.frontier.now c.leave.new.frontier (bit_at g.v old c.args.entry.alive) (record { label = x.label; turn = c.args.copy.now.turn }) c.args.entry
    (λ (m : Machine). placed c.args.setting.f.now c.args.setting.copies.now (c.args.number + 1) (left_by (targets x.terminator) c.args.copy.now.edges (exit_insts no_undef x.insts x.terminator g.tape m)))) same
    (simulates_copy ka kb kd c.requires.frontier c.args.entry c.step_all.new.state c.requires.entry here no_undef (λ (x : Exit). placed c.args.setting.f.now c.args.setting.copies.now (c.args.number + 1) (left_by (targets here.terminator) c.args.copy.now.edges x))
    (rw c.as_slice.ensures at c.in_ok-step_all.ensures.steps) c.in_ok-undefined.ensures.made c.in_ok-end_undefined.ensures.ends g (record { label = here.label; turn = c.args.copy.now.turn }) (refl, sees) (λ r. refl)
    (rw c.as_slice-edges.ensures at (so.simulates g c.args.copy.now.turn sees_d)))) c.leave.ensures.leaves

pub returns-clause-kept : goal.returns-clause-kept
returns-clause-kept c =
    let ka = c.step_all.ensures.kept in
    let kb = c.and_not.ensures.kept in
    let kd = c.end_undefined.ensures.kept in
    keeps_trans c.args.terms.now c.step_all.new.terms c.leave.new.terms ka (keeps_trans c.step_all.new.terms c.and_not.new.terms c.leave.new.terms kb (keeps_trans c.and_not.new.terms c.end_undefined.new.terms c.leave.new.terms kd c.leave.ensures.kept))
