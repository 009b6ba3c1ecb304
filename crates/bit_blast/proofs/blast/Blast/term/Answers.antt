use Rattle.std.proofs.Common.{subst, sym}
use Rattle.bit_blast.specs.Table.{Blasted, Follows, IsTable}
use Rattle.bit_blast.specs.Written.{AreReady, HasVariable}
use Rattle.bit_blast.proofs.Standing.{later-ready, later-written}
use Rattle.bit_blast.proofs.Tables.{table_kept}
use Rattle.bit_blast.proofs.blast.Blast.term.Goals as goal

pub written-requires-clause-ready : goal.written-requires-clause-ready
written-requires-clause-ready c =
    subst (λ (b : Blasted). AreReady b.gates b.table c.args.done.now c.args.term.now) (sym c.self.view_is)
    (later-ready c.args.self.now c.prepare.new.self c.requires.stood.0 c.args.done.now c.args.term.now c.prepare.ensures.follows
    (subst (λ (b : Blasted). IsTable b.gates b.table) c.self.view_is c.self.invariant) c.in_ok-prepare.ensures.known c.requires.stood.1 c.requires.stood.2)

pub invariant_of-self : goal.invariant_of-self
invariant_of-self c = table_kept c.self.inside.circuit c.written.new.circuit c.self.inside.table.entries c.written.ensures.kept c.self.invariant

pub invariant_of-self-2 : goal.invariant_of-self-2
invariant_of-self-2 c = table_kept c.self.inside.circuit c.written.new.circuit c.self.inside.table.entries c.written.ensures.kept c.self.invariant

pub returns-clause-stands : goal.returns-clause-stands
returns-clause-stands c = λ trees stood fit. rw c.from_vec.ensures (
    later-written c.args.self.now (record { gates = c.self.inside.circuit; table = c.self.inside.table.entries }) trees c.args.done.now c.written.new.circuit c.args.term.now c.in_ok-digits.digits.items
    (subst (λ (b : Blasted). Follows c.args.self.now b) (sym c.self.view_is) c.prepare.ensures.follows) c.self.invariant
    (subst (λ (b : Blasted). HasVariable b.table c.args.term.now) (sym c.self.view_is) c.in_ok-prepare.ensures.known) stood fit c.in_ok-digits.ensures.made)
