use Rattle.run_terms.proofs.Common.{◌∙◌, List, ap, arith, index_value, keeps_trans, sym_values-later, values-later, Value, values_at}
use Rattle.run_terms.proofs.Indexing.{all_stand, pushed_made, pushed_stands}
use Rattle.run_terms.proofs.memory_steps.indices_of.Goals as goal

pub index_of-requires-clause-registers : goal.index_of-requires-clause-registers
index_of-requires-clause-registers c = sym_values-later c.args.terms.now c.loop-n.terms c.loop-n.invariant.kept c.args.registers.now c.requires.registers

pub loop-n-preserved : goal.loop-n-preserved
loop-n-preserved c =
    let old = c.args.terms.now in
    let l = c.loop-n.terms in
    let new = c.index_of.new.terms in
    record {
      kept = keeps_trans old l new c.loop-n.invariant.kept c.index_of.ensures.kept;
      within = omega arith;
      made = rw c.in_ok-push.ensures.items (pushed_made l new c.index_of.ensures.kept c.loop-n.values.items c.in_ok-value.value c.loop-n.invariant.made c.in_ok-value.ensures.made);
      stands = λ r names. rw c.in_ok-push.ensures.items
          (pushed_stands l new c.index_of.ensures.kept r.v c.loop-n.values.items c.in_ok-value.value (values_at r old c.args.registers.now) c.args.of_type.now c.args.indices.now c.loop-n.n c.index-indices-n.result _ c.loop-n.invariant.made c.loop-n-test.true c.index-indices-n.is
          (c.in_ok-value.ensures.stands r names ∙ ap (λ (rs : List Value). index_value rs c.args.of_type.now c.loop-n.n c.index-indices-n.result) (values-later old l c.loop-n.invariant.kept r c.args.registers.now c.requires.registers))
          (c.loop-n.invariant.stands r names));
    }

pub returns-clause-stands : goal.returns-clause-stands
returns-clause-stands c = λ r names. rw c.from_vec.ensures
    (all_stand r.v c.loop-n.terms c.loop-n.values.items (values_at r c.args.terms.now c.args.registers.now) c.args.of_type.now c.args.indices.now c.loop-n.n _ c.loop-n-test.false (c.loop-n.invariant.stands r names))
