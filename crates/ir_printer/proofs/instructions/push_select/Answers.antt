use Rattle.ir_printer.proofs.Common.{◌++◌, ◌∷◌, ◌∙◌, ap, sym, codes, comma, operand_piece, space, typed_pieces, word, result_pieces}
use Rattle.ir_printer.proofs.Texts.{five_joined, text_of-append}
use Rattle.ir_printer.proofs.instructions.push_select.Goals as goal

pub returns : goal.returns
returns c =
    let names = c.args.names.now in
    five_joined c.args.out.now.items _ _ _ _ _ _ _ _ _ _ c.in_ok-push_result.ensures c.in_ok-push_word.ensures c.in_ok-push_word-2.ensures c.in_ok-push_operand.ensures c.in_ok-push_arms.ensures
    ∙ ap (λ t. c.args.out.now.items ++ t)
    (sym (text_of-append (result_pieces names c.args.into)
    (word space (codes "select") ∷ word space (codes "i1") ∷ operand_piece names c.args.condition ∷ comma ∷ (typed_pieces names c.args.if_true ++ comma ∷ typed_pieces names c.args.if_false))))
