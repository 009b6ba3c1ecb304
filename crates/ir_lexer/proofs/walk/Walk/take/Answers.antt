use Rattle.ir_lexer.proofs.Common.{◌≡◌, ◌∙◌, ◌<◌, ◌+◌, ◌++◌, ◌∷◌, [], List, get_or, arith, sym, ap, length, Lexeme}
use Rattle.std.specs.Prelude.{slice_range}
use Rattle.std.proofs.lemmas.List.Edits.{between_more}
use Rattle.std.proofs.lemmas.Option.{get_or_from_slice_get}
use Rattle.ir_lexer.proofs.walk.Walk.take.Goals as goal

pub loop-index-preserved : goal.loop-index-preserved
loop-index-preserved c =
    let all = c.loop-index.self in
    let from = c.args.from in
    let i = c.loop-index.index in
    let token = c.token.result in
    let within : i < length all = omega (arith, c.loop-index-test.true, c.requires.within, ap length c.loop-index.invariant.same) in
    let is : get_or all i token ≡ token = get_or_from_slice_get all i token token c.token.ensures.token in
    let more : slice_range all from (i + 1) ≡ slice_range all from i ++ token ∷ [] =
    between_more all from i token c.loop-index.auto.index within ∙ ap (λ (t : Lexeme). slice_range all from i ++ t ∷ []) is in
    record {
      so_far = c.in_ok-push.ensures.items ∙ ap (λ (ts : List Lexeme). ts ++ token ∷ []) c.loop-index.invariant.so_far
          ∙ sym more ∙ ap (λ (ts : List Lexeme). slice_range ts from (i + 1)) (sym c.token.ensures.same);
      same = c.token.ensures.same ∙ c.loop-index.invariant.same;
    }
