use Rattle.run_terms.proofs.Common.{◌≡◌, ◌^◌, ◌%◌, ◌∙◌, ap, refl, arith, cut_value, number_at, value_from, bit-later, is_term-later, index_at}
use Rattle.points.specs.Run.{operand_value}
use Rattle.bv_terms.specs.Trees.{bit_at, term_at}
use Rattle.mem_terms.specs.Values.{values_at}
use Rattle.run_terms.proofs.Reading.{cut_integer}
use Rattle.run_terms.proofs.Cutting.{cut-from}
use Rattle.run_terms.proofs.Accessing.{index_small, whole_index}
use Rattle.run_terms.proofs.memory_steps.index_of.Goals as goal

pub returns-clause-made : goal.returns-clause-made
returns-clause-made c =
    let made = rw c.bits.ensures at c.in_ok-number.ensures.made in
    let small = index_small c.args.of_type.now c.args.n c.requires.arrays in
    let whole = whole_index c.args.of_type.now c.args.n c.requires.arrays in
    record {
      poison = is_term-later c.number_of.new.terms c.resize.new.terms c.resize.ensures.kept 1 c.in_ok-operand.operand.poison c.in_ok-operand.ensures.made.poison;
      number = record { within = made.within; wide = made.wide };
      scale = (let size = c.indexed_size.ensures in omega (arith, size, whole, small));
    }

pub returns-clause-stands : goal.returns-clause-stands
unfolding index_at number_at
returns-clause-stands c = λ r names.
    let mid = c.number_of.new.terms in
    let new = c.resize.new.terms in
    let operand = c.in_ok-operand.operand in
    let width = c.args.index.width.bits in
    let made = rw c.bits.ensures at c.in_ok-number.ensures.made in
    let read = c.in_ok-operand.ensures.stands r names in
    let value : value_from (bit_at r.v mid operand.poison) (term_at r.v mid operand.number % 2 ^ width) ≡ cut_value width (operand_value (values_at r c.args.terms.now c.args.registers.now) c.args.index.operand) =
    cut-from (bit_at r.v mid operand.poison) (term_at r.v mid operand.number) _ width refl ∙ (ap (cut_value width) read ∙ cut_integer width (operand_value (values_at r c.args.terms.now c.args.registers.now) c.args.index.operand)) in
    rw (bit-later mid new c.resize.ensures.kept r.v operand.poison c.in_ok-operand.ensures.made.poison.within, made.says r.v, value, c.indexed_size.ensures, whole_index c.args.of_type.now c.args.n c.requires.arrays) refl
