-- The bits of one more variable come after the others.
use Rattle.std.proofs.Common.{suc, ◌≡◌, ◌<◌, ◌+◌, ◌++◌, [], List, get_or, take, length, arith, ap, sym, ◌∙◌}
use Rattle.std.proofs.lemmas.Option.{slice_get-get_or}
use Rattle.gates.specs.declared.circuit.GateId.{GateId}
use Rattle.bv_terms.specs.declared.variable.Variable.{Variable}
use Rattle.bit_blast.specs.Table.{all_digits}
use Rattle.bit_blast.proofs.Tables.{all-more}
use Rattle.bit_blast.proofs.step.all_inputs.Goals as goal

pub loop-place-preserved : goal.loop-place-preserved
loop-place-preserved c =
    let es = c.args.table.now.entries in
    let d : Variable × List GateId = (record { number = 0; width = 0 }, []) in
    let p = c.loop-place.place in
    let lt : p < length es = omega (arith, c.len-place-end.ensures.len, c.loop-place-test.true) in
    let at = slice_get-get_or es p d lt in
    let next : suc p ≡ p + 1 = omega arith in
    c.in_ok-push_digits.ensures (get_or es p d) at
    ∙ (ap (λ ds. ds ++ (get_or es p d).1) c.loop-place.invariant ∙ (sym (all-more es p (get_or es p d) at) ∙ ap (λ k. all_digits (take k es)) next))
