use Rattle.std.proofs.Common.{◌∙◌, ap, inl, refl, subst, sym}
use Rattle.gates.specs.Values.{Grows}
use Rattle.bit_blast.specs.Table.{Blasted, digits_of}
use Rattle.bit_blast.proofs.Found.{none_copied, some_copied}
use Rattle.bit_blast.proofs.Tables.{added_or_kept}
use Rattle.bit_blast.proofs.blast.Blast.add.Goals as goal

pub returns-then-is_some-clause-added : goal.returns-then-is_some-clause-added
returns-then-is_some-clause-added c =
    let found = some_copied c.digits.result (digits_of c.args.self.now.table c.args.variable) c.digits.ensures (sym c.is_some.ensures ∙ c.if-is_some.true) in
    inl (found.0, found.1, refl)

pub add_variable-requires-clause-absent : goal.add_variable-requires-clause-absent
add_variable-requires-clause-absent c =
    ap (λ (b : Blasted). digits_of b.table c.args.variable) c.self.view_is
    ∙ none_copied c.digits.result (digits_of c.args.self.now.table c.args.variable) c.digits.ensures (sym c.is_some.ensures ∙ c.if-is_some.false)

pub returns-clause-follows : goal.returns-clause-follows
returns-clause-follows c = record {
  grows = subst (λ (b : Blasted). Grows b.gates c.add_variable.new.circuit) c.self.view_is c.add_variable.ensures.kept;
  table = λ y digits found.
      added_or_kept c.add_variable.result c.self.inside.table.entries c.add_variable.new.table.entries c.args.variable c.add_variable.ensures.added c.add_variable.ensures.entries y digits
      (ap (λ (b : Blasted). digits_of b.table y) c.self.view_is ∙ found);
}
