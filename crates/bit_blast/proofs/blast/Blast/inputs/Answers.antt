use Rattle.std.proofs.Common.{◌≡◌, ◌∙◌, ap, subst}
use Rattle.bit_blast.specs.Table.{Blasted, IsTable, all_digits}
use Rattle.bit_blast.proofs.Tables.{are_inputs, inputs_named}
use Rattle.bit_blast.proofs.blast.Blast.inputs.Goals as goal

pub returns-clause-digits : goal.returns-clause-digits
returns-clause-digits c = c.in_ok-digits.ensures ∙ ap (λ (b : Blasted). all_digits b.table) c.self.view_is

pub returns-clause-inputs : goal.returns-clause-inputs
returns-clause-inputs c =
    let is = subst (λ (b : Blasted). IsTable b.gates b.table) c.self.view_is c.self.invariant in
    let e : c.in_ok-digits.digits.items ≡ all_digits c.args.self.now.table = c.in_ok-digits.ensures ∙ ap (λ (b : Blasted). all_digits b.table) c.self.view_is in
    rw e (are_inputs c.args.self.now.gates c.args.self.now.table is)

pub returns-clause-apart : goal.returns-clause-apart
returns-clause-apart c =
    let is = subst (λ (b : Blasted). IsTable b.gates b.table) c.self.view_is c.self.invariant in
    let e : c.in_ok-digits.digits.items ≡ all_digits c.args.self.now.table = c.in_ok-digits.ensures ∙ ap (λ (b : Blasted). all_digits b.table) c.self.view_is in
    rw e is.apart

pub returns-clause-named : goal.returns-clause-named
returns-clause-named c =
    let is = subst (λ (b : Blasted). IsTable b.gates b.table) c.self.view_is c.self.invariant in
    let e : c.in_ok-digits.digits.items ≡ all_digits c.args.self.now.table = c.in_ok-digits.ensures ∙ ap (λ (b : Blasted). all_digits b.table) c.self.view_is in
    rw e (inputs_named c.args.self.now.gates c.args.self.now.table is)
