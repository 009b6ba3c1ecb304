use Rattle.encoder.proofs.Common.{◌+◌, ◌∙◌, ap, sym, subst, List, Option, Some, arith, slice_get_within, RunState, targets, Machine, exit_insts, left_by, pass_copy, bit_at, Simulates, MatchesFrontier, placed, taken_frontier, taken_shape, entry_state, entry_shape, pass_unknown, pass_known}
use Rattle.encoder.proofs.passing.pass_copy.Goals as goal

pub run_copy-requires-clause-frontier : goal.run_copy-requires-clause-frontier
run_copy-requires-clause-frontier c = taken_frontier c.args.terms.now c.args.frontier.now c.take_entry.new.ahead c.args.number c.take_entry.ensures.rest c.requires.frontier

pub run_copy-requires-clause-shape : goal.run_copy-requires-clause-shape
run_copy-requires-clause-shape c = taken_shape c.args.setting c.args.frontier.now c.take_entry.new.ahead c.args.number c.take_entry.ensures.rest c.requires.shape

pub run_copy-requires-clause-entry : goal.run_copy-requires-clause-entry
run_copy-requires-clause-entry c = entry_state c.args.terms.now c.args.frontier.now c.args.number c.in-Some.entry (c.take_entry.ensures.value ∙ ap Some c.in-Some.is) c.requires.frontier

pub run_copy-requires-clause-fits : goal.run_copy-requires-clause-fits
run_copy-requires-clause-fits c = entry_shape c.args.setting c.args.frontier.now c.args.number c.in-Some.entry (c.take_entry.ensures.value ∙ ap Some c.in-Some.is) c.requires.shape

pub take_entry-requires : goal.take_entry-requires
take_entry-requires c = (let lt = slice_get_within c.args.setting.copies.now c.args.number c.args.copy.now c.requires.number in let n = c.requires.shape.count in omega (arith, lt, n))

pub returns-in_ok-run_copy-in-Some-clause-passes : goal.returns-in_ok-run_copy-in-Some-clause-passes
returns-in_ok-run_copy-in-Some-clause-passes c = λ g w sees s.
    let known = c.take_entry.ensures.value ∙ ap Some c.in-Some.is in
    let it = c.requires.copy in
    pass_known g c.args.terms.now c.run_copy.new.terms c.args.setting.f.now c.args.setting.copies.now c.args.frontier.now c.run_copy.new.frontier c.requires.frontier c.args.number c.args.copy.now it.block c.in-Some.entry w known c.requires.number it.is
    (subst (λ (xs : List (Option RunState)). Simulates g c.args.terms.now c.run_copy.new.terms (record { ahead = xs; ending = c.args.frontier.now.ending }) c.run_copy.new.frontier (bit_at g.v c.args.terms.now c.in-Some.entry.alive) (record { label = it.block.label; turn = c.args.copy.now.turn }) c.in-Some.entry
    (λ (m : Machine). placed c.args.setting.f.now c.args.setting.copies.now (c.args.number + 1) (left_by (targets it.block.terminator) c.args.copy.now.edges (exit_insts c.args.setting.f.now.returns_no_undef it.block.insts it.block.terminator g.tape m)))) c.take_entry.ensures.rest
    (c.in_ok-run_copy-in-Some.ensures.simulates g it.block sees it.is)) s

pub returns-in-None-clause-frontier : goal.returns-in-None-clause-frontier
returns-in-None-clause-frontier c = taken_frontier c.args.terms.now c.args.frontier.now c.take_entry.new.ahead c.args.number c.take_entry.ensures.rest c.requires.frontier

pub returns-in-None-clause-shape : goal.returns-in-None-clause-shape
returns-in-None-clause-shape c = taken_shape c.args.setting c.args.frontier.now c.take_entry.new.ahead c.args.number c.take_entry.ensures.rest c.requires.shape

pub returns-in-None-clause-passes : goal.returns-in-None-clause-passes
returns-in-None-clause-passes c = λ g w sees s.
    let it = c.requires.copy in
    subst (λ (xs : List (Option RunState)). MatchesFrontier g c.args.terms.now (record { ahead = xs; ending = c.args.frontier.now.ending })
    (Some (placed c.args.setting.f.now c.args.setting.copies.now (c.args.number + 1) (pass_copy c.args.setting.f.now c.args.number c.args.copy.now g.tape w)))) (sym c.take_entry.ensures.rest)
    (pass_unknown g c.args.terms.now c.args.setting.f.now c.args.setting.copies.now c.args.frontier.now c.requires.frontier c.args.number c.args.copy.now it.block w (c.take_entry.ensures.value ∙ ap Some c.in-None.is) c.requires.number it.is s)
