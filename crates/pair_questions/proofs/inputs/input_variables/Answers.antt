use Rattle.pair_questions.proofs.Extending.{extends_trans, args_extended, terms_extended}
use Rattle.pair_questions.proofs.inputs.input_variables.Goals as goal

pub returns-clause-input : goal.returns-clause-input
returns-clause-input c =
    let one = c.arg_variables.new.terms in
    let two = c.row_of_variables.new.terms in
    let three = c.blocks_variables.new.terms in
    let last = c.blocks_variables.ensures.kept in
    record {
      args = args_extended one three (extends_trans one two three c.row_of_variables.ensures.kept last) c.args.shape.now.parameters c.in_ok-args.args (rw c.as_slice.ensures at c.in_ok-args.ensures.args);
      size_count = c.in_ok-sizes.ensures.count;
      sizes = terms_extended two three last 6 c.in_ok-sizes.sizes c.in_ok-sizes.ensures.row;
      block_count = c.in_ok-places.ensures.count;
      places = c.in_ok-places.ensures.places;
    }
