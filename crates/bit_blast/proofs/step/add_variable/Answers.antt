use Rattle.std.proofs.Common.{◌∙◌, ◌++◌, ◌∷◌, [], ap, inr}
use Rattle.indexmap.proofs.CallerLemmas.{insert_entry-new}
use Rattle.bv_terms.specs.contracts.variable.VariablePartialEq.TheImpl.{eq-value}
use Rattle.bit_blast.proofs.Tables.{get-digits, table_pushed}
use Rattle.bit_blast.proofs.step.add_variable.Goals as goal

pub returns-in-Ok-clause-table : goal.returns-in-Ok-clause-table
returns-in-Ok-clause-table c = table_pushed c.args.circuit.now c.inputs.new.circuit c.args.table.now.entries c.insert.new.self.entries c.args.variable c.in_ok-digits.digits.items
    (c.in-Ok.ensures.entries ∙ (insert_entry-new eq-value.it c.args.table.now c.args.variable c.from_vec.result (get-digits c.args.table.now.entries c.args.variable ∙ c.requires.absent)
    ∙ ap (λ ds. c.args.table.now.entries ++ (c.args.variable, ds) ∷ []) c.from_vec.ensures)) c.in_ok-digits.ensures.kept c.in_ok-digits.ensures.made c.requires.table

pub returns-in-Ok-clause-added : goal.returns-in-Ok-clause-added
returns-in-Ok-clause-added c = inr (
  c.in_ok-digits.digits.items,
  c.requires.absent,
  c.in-Ok.ensures.entries ∙ (insert_entry-new eq-value.it c.args.table.now c.args.variable c.from_vec.result (get-digits c.args.table.now.entries c.args.variable ∙ c.requires.absent)
      ∙ ap (λ ds. c.args.table.now.entries ++ (c.args.variable, ds) ∷ []) c.from_vec.ensures),
)
