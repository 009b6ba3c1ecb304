use Rattle.run_terms.proofs.Common.{keeps_trans, is_term-later, sym_values-later}
use Rattle.run_terms.proofs.Lasting.{leads-later, run_memory-later, tally-later}
use Rattle.run_terms.proofs.Leading.{common_leads}
use Rattle.run_terms.proofs.Joined.{join_goes, join_stays}
use Rattle.run_terms.proofs.joining.join.Goals as goal

pub choice_by_path-requires-clause-c : goal.choice_by_path-requires-clause-c
choice_by_path-requires-clause-c c = is_term-later c.args.terms.now c.either.new.terms c.either.ensures.kept 1 c.args.edge.now.alive c.requires.edge.alive

pub choice_by_path-requires-clause-path : goal.choice_by_path-requires-clause-path
choice_by_path-requires-clause-path c = rw c.as_slice-taken.ensures (leads-later c.args.terms.now c.either.new.terms c.either.ensures.kept c.args.edge.now.alive c.args.edge.now.path c.requires.edge.alive c.requires.edge.path)

pub pick_tally-requires-clause-a : goal.pick_tally-requires-clause-a
pick_tally-requires-clause-a c =
    tally-later c.args.terms.now c.choice_by_path.new.terms (keeps_trans c.args.terms.now c.either.new.terms c.choice_by_path.new.terms c.either.ensures.kept c.choice_by_path.ensures.kept) c.args.edge.now.tally c.requires.edge.tally

pub pick_tally-requires-clause-b : goal.pick_tally-requires-clause-b
pick_tally-requires-clause-b c =
    tally-later c.args.terms.now c.choice_by_path.new.terms (keeps_trans c.args.terms.now c.either.new.terms c.choice_by_path.new.terms c.either.ensures.kept c.choice_by_path.ensures.kept) c.args.into.now.tally c.requires.into.tally

pub returns-clause-goes : goal.returns-clause-goes
returns-clause-goes c = join_goes c.args.terms.now c.either.new.terms c.choice_by_path.new.terms c.pick_tally.new.terms c.pick_registers.new.terms c.pick_blocks.new.terms c.args.edge.now c.args.into.now c.in_ok-alive.alive c.in_ok-by.by c.in_ok-path.path c.in_ok-tally.tally c.in_ok-registers.registers c.in_ok-memory.memory c.max-words_bound.result
    c.requires.edge c.requires.into c.requires.shape c.either.ensures.kept c.choice_by_path.ensures.kept c.pick_tally.ensures.kept c.pick_registers.ensures.kept c.pick_blocks.ensures.kept c.max-words_bound.ensures c.in_ok-by.ensures.made c.in_ok-tally.ensures.made c.in_ok-registers.ensures.made c.in_ok-memory.ensures.given
    (λ s. rw (c.as_slice.ensures, c.as_slice-2.ensures) at (c.in_ok-registers.ensures.stands s)) c.in_ok-memory.ensures.stands c.in_ok-tally.ensures.goes c.in_ok-by.ensures.goes

pub returns-clause-stays : goal.returns-clause-stays
returns-clause-stays c = join_stays c.args.terms.now c.either.new.terms c.choice_by_path.new.terms c.pick_tally.new.terms c.pick_registers.new.terms c.pick_blocks.new.terms c.args.edge.now c.args.into.now c.in_ok-alive.alive c.in_ok-by.by c.in_ok-path.path c.in_ok-tally.tally c.in_ok-registers.registers c.in_ok-memory.memory c.max-words_bound.result
    c.requires.edge c.requires.into c.requires.shape c.either.ensures.kept c.choice_by_path.ensures.kept c.pick_tally.ensures.kept c.pick_registers.ensures.kept c.pick_blocks.ensures.kept c.max-words_bound.ensures c.in_ok-by.ensures.made c.in_ok-tally.ensures.made c.in_ok-registers.ensures.made c.in_ok-memory.ensures.given
    (λ s. rw (c.as_slice.ensures, c.as_slice-2.ensures) at (c.in_ok-registers.ensures.stands s)) c.in_ok-memory.ensures.stands c.in_ok-tally.ensures.stays (λ v none held. c.in_ok-by.ensures.stays v none (rw c.as_slice-known.ensures held))

pub pick_registers-requires-clause-a : goal.pick_registers-requires-clause-a
pick_registers-requires-clause-a c =
    let old = c.args.terms.now in
    let x = c.either.new.terms in
    let a = c.choice_by_path.new.terms in
    let b = c.pick_tally.new.terms in
    let kb = keeps_trans old a b (keeps_trans old x a c.either.ensures.kept c.choice_by_path.ensures.kept) c.pick_tally.ensures.kept in
    rw c.as_slice.ensures (sym_values-later old b kb c.args.edge.now.registers c.requires.edge.registers)

pub pick_registers-requires-clause-b : goal.pick_registers-requires-clause-b
pick_registers-requires-clause-b c =
    let old = c.args.terms.now in
    let x = c.either.new.terms in
    let a = c.choice_by_path.new.terms in
    let b = c.pick_tally.new.terms in
    let kb = keeps_trans old a b (keeps_trans old x a c.either.ensures.kept c.choice_by_path.ensures.kept) c.pick_tally.ensures.kept in
    rw c.as_slice-2.ensures (sym_values-later old b kb c.args.into.now.registers c.requires.into.registers)

pub pick_blocks-requires-clause-a : goal.pick_blocks-requires-clause-a
pick_blocks-requires-clause-a c =
    let old = c.args.terms.now in
    let x = c.either.new.terms in
    let a = c.choice_by_path.new.terms in
    let b = c.pick_tally.new.terms in
    let d = c.pick_registers.new.terms in
    let kb = keeps_trans old a b (keeps_trans old x a c.either.ensures.kept c.choice_by_path.ensures.kept) c.pick_tally.ensures.kept in
    run_memory-later old d (keeps_trans old b d kb c.pick_registers.ensures.kept) c.args.edge.now.memory c.requires.edge.memory

pub pick_blocks-requires-clause-b : goal.pick_blocks-requires-clause-b
pick_blocks-requires-clause-b c =
    let old = c.args.terms.now in
    let x = c.either.new.terms in
    let a = c.choice_by_path.new.terms in
    let b = c.pick_tally.new.terms in
    let d = c.pick_registers.new.terms in
    let kb = keeps_trans old a b (keeps_trans old x a c.either.ensures.kept c.choice_by_path.ensures.kept) c.pick_tally.ensures.kept in
    run_memory-later old d (keeps_trans old b d kb c.pick_registers.ensures.kept) c.args.into.now.memory c.requires.into.memory

pub returns-clause-made : goal.returns-clause-made
returns-clause-made c =
    let old = c.args.terms.now in
    let x = c.either.new.terms in
    let a = c.choice_by_path.new.terms in
    let b = c.pick_tally.new.terms in
    let d = c.pick_registers.new.terms in
    let e = c.pick_blocks.new.terms in
    let kbe = keeps_trans b d e c.pick_registers.ensures.kept c.pick_blocks.ensures.kept in
    let kxe = keeps_trans x a e c.choice_by_path.ensures.kept (keeps_trans a b e c.pick_tally.ensures.kept kbe) in
    let alive = c.in_ok-alive.ensures.made in
    record {
      alive = is_term-later x e kxe 1 c.in_ok-alive.alive (record { within = alive.within; wide = alive.wide });
      path = common_leads c.either.ensures.kept kxe c.args.edge.now.alive c.args.into.now.alive c.in_ok-alive.alive c.args.edge.now.path c.args.into.now.path c.in_ok-path.path (rw (c.as_slice-taken.ensures, c.as_slice-known.ensures) at c.in_ok-path.ensures) c.requires.edge.path c.requires.into.path alive;
      registers = sym_values-later d e c.pick_blocks.ensures.kept c.in_ok-registers.registers c.in_ok-registers.ensures.made;
      memory = c.in_ok-memory.ensures.made;
      tally = tally-later b e kbe c.in_ok-tally.tally c.in_ok-tally.ensures.made;
    }
