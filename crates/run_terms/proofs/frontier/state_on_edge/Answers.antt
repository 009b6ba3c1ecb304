use Rattle.run_terms.proofs.Common.{refl, is_term-later}
use Rattle.run_terms.proofs.Lasting.{leads-later, run_memory-later, tally-later}
use Rattle.run_terms.proofs.Entering.{edge_matches}
use Rattle.run_terms.proofs.frontier.state_on_edge.Goals as goal

pub returns-clause-stands : goal.returns-clause-stands
returns-clause-stands c = edge_matches c.args.terms.now c.registers_after.new.terms c.args.state.now
    (record { alive = c.args.c; path = c.in_ok-path.path; registers = c.in_ok-registers.registers; memory = c.in_ok-memory.memory; tally = c.args.state.now.tally; words_bound = c.args.state.now.words_bound }) c.args.label c.args.block.now
    c.requires.state c.registers_after.ensures.kept c.in_ok-memory.ensures refl refl (λ r m. rw (c.as_slice.ensures, c.as_slice-2.ensures) at (c.in_ok-registers.ensures.stands r m))

pub returns-clause-made : goal.returns-clause-made
returns-clause-made c =
    let old = c.args.terms.now in
    let new = c.registers_after.new.terms in
    let k = c.registers_after.ensures.kept in
    record {
      alive = is_term-later old new k 1 c.args.c c.requires.c;
      path = rw c.in_ok-path.ensures (leads-later old new k c.args.c c.args.path.now c.requires.c c.requires.path);
      registers = c.in_ok-registers.ensures.made;
      memory = rw c.in_ok-memory.ensures (run_memory-later old new k c.args.state.now.memory c.requires.state.memory);
      tally = tally-later old new k c.args.state.now.tally c.requires.state.tally;
    }
