use Rattle.run_terms.proofs.Common.{◌∙◌, refl, arith, keeps_trans, term-later, given_before}
use Rattle.run_terms.proofs.Lasting.{memory_blocks}
use Rattle.run_terms.proofs.Accessing.{whole_object}
use Rattle.run_terms.proofs.Loading.{alloca_steps}
use Rattle.run_terms.proofs.memory_steps.step_alloca.Goals as goal

pub alloca-requires-clause-memory : goal.alloca-requires-clause-memory
alloca-requires-clause-memory c = memory_blocks c.args.terms.now c.args.state.now.memory c.requires.state.memory

pub alloca-requires-clause-number : goal.alloca-requires-clause-number
alloca-requires-clause-number c =
    let own = c.requires.own in
    omega (arith, own, given_before c.args.state.now.memory.given)

pub returns-clause-steps : goal.returns-clause-steps
returns-clause-steps c =
    let a = c.alloca.new.terms in
    let b = c.number.new.terms in
    let d = c.number-2.new.terms in
    let new = c.pointer_value.new.terms in
    let kn = keeps_trans a d new (keeps_trans a b d c.number.ensures.kept c.number-2.ensures.kept) c.pointer_value.ensures.kept in
    rw c.assign.ensures (alloca_steps c.args.terms.now a new c.alloca.ensures.kept kn c.args.state.now c.requires.state c.args.into c.args.of_type.now c.args.align c.args.block c.indexed_size-size.result c.alloca.new.memory c.in_ok-address.address
    c.in_ok-alloca.ensures.memory c.in_ok-alloca.ensures.grown c.requires.own c.in_ok-address.ensures.made (c.indexed_size-size.ensures ∙ whole_object c.args.of_type.now c.requires.size) c.in_ok-alloca.ensures.after
    (λ r. c.in_ok-address.ensures.stands r ∙ rw (term-later b d c.number-2.ensures.kept r.v c.in_ok-known.known c.in_ok-known.ensures.made.within, c.in_ok-known.ensures.made.says r.v, c.in_ok-zero.ensures.made.says r.v) refl))
