use Rattle.pair_questions.proofs.Common.{◌++◌, ◌∷◌, ◌+◌, [], replicate, arith, IsTerm, sym}
use Rattle.pair_questions.proofs.Extending.{extends_trans, terms_extended, each_more, length_more, grows_as, grows_trans, replicate_more, ids_as, ids_more}
use Rattle.pair_questions.proofs.inputs.row_of_variables.Goals as goal

pub loop-variable-preserved : goal.loop-variable-preserved
loop-variable-preserved c =
    let old = c.args.terms.now in
    let before = c.loop-variable.terms in
    let after = c.variable.new.terms in
    let n = c.loop-variable._variable in
    let width = c.args.width in
    let start = c.args.order.now.items in
    let middle = c.loop-variable.order.items in
    let end = c.variable.new.order.items in
    let xs = c.loop-variable.row.items in
    let more = c.push.new.self.items in
    let id = c.in_ok-id.id in
    record {
      within = omega arith;
      kept = extends_trans old before after c.loop-variable.invariant.kept c.variable.ensures.kept;
      count = length_more xs more id n c.loop-variable.invariant.count c.in_ok-push.ensures.items;
      row = each_more (IsTerm after width) xs more id (terms_extended before after c.variable.ensures.kept width xs c.loop-variable.invariant.row) c.in_ok-id.ensures.term c.in_ok-push.ensures.items;
      order = grows_as old after start end (replicate n width ++ width ∷ []) (replicate (n + 1) width) (replicate_more n width)
          (grows_trans old before after start middle end (replicate n width) (width ∷ []) c.loop-variable.invariant.order c.in_ok-id.ensures.order);
      ids = ids_as start end (xs ++ id ∷ []) more (sym c.in_ok-push.ensures.items) (ids_more start middle end xs (id ∷ []) c.loop-variable.invariant.ids c.in_ok-id.ensures.added);
    }
