use Rattle.pair_questions.proofs.Common.{◌∷◌, []}
use Rattle.pair_questions.proofs.Extending.{grows_trans}
use Rattle.pair_questions.proofs.inputs.place_variables.Goals as goal

pub returns-clause-order : goal.returns-clause-order
returns-clause-order c =
    let t0 = c.args.terms.now in
    let t1 = c.variable.new.terms in
    let t2 = c.variable-2.new.terms in
    let t3 = c.variable-3.new.terms in
    let t4 = c.variable-4.new.terms in
    let t5 = c.variable-5.new.terms in
    let t6 = c.variable-6.new.terms in
    let o0 = c.args.order.now.items in
    let o1 = c.variable.new.order.items in
    let o2 = c.variable-2.new.order.items in
    let o3 = c.variable-3.new.order.items in
    let o4 = c.variable-4.new.order.items in
    let o5 = c.variable-5.new.order.items in
    let o6 = c.variable-6.new.order.items in
    grows_trans t0 t1 t6 o0 o1 o6 (2 ∷ []) (8 ∷ 8 ∷ 3 ∷ 64 ∷ 3 ∷ []) c.in_ok-kind.ensures.order
    (grows_trans t1 t2 t6 o1 o2 o6 (8 ∷ []) (8 ∷ 3 ∷ 64 ∷ 3 ∷ []) c.in_ok-mask.ensures.order
    (grows_trans t2 t3 t6 o2 o3 o6 (8 ∷ []) (3 ∷ 64 ∷ 3 ∷ []) c.in_ok-number.ensures.order
    (grows_trans t3 t4 t6 o3 o4 o6 (3 ∷ []) (64 ∷ 3 ∷ []) c.in_ok-block.ensures.order
    (grows_trans t4 t5 t6 o4 o5 o6 (64 ∷ []) (3 ∷ []) c.in_ok-offset.ensures.order c.in_ok-part.ensures.order))))
