use Rattle.ir_lexer.proofs.Common.{◌≡◌, ◌+◌, ◌<◌, ◌++◌, ◌∷◌, [], List, length, Option, Some, Result, Ok, ap, subst, sym, ◌∙◌, arith, length-append, LexFault, IsNext, Lexeme}
use Rattle.ir_lexer.proofs.Taking.{IsPart, are, enough, is_one, read_one}
use Rattle.ir_lexer.proofs.lexer.Lexer.take.Goals as goal

pub unreachable-requires : goal.unreachable-requires
unreachable-requires c =
    let all = are c.args.count c.args.self.now c.requires in
    let less : length c.loop-self.part.items < c.args.count = omega (arith, c.loop-self-test.true, c.len.ensures) in
    let one = is_one all.0 c.loop-self.part.items (length c.loop-self.part.items) c.loop-self.self c.next.new.self c.next.result
    (enough c.args.count (length c.loop-self.part.items) c.args.self.now all.0 c.requires all.1 less) (c.loop-self.invariant.so_far all.0 all.1) c.next.ensures in
    c.in_default.not-Ok (Some one.0) one.1

pub unreachable-requires-in_default-next : goal.unreachable-requires-in_default-next
unreachable-requires-in_default-next c =
    let all = are c.args.count c.args.self.now c.requires in
    let less : length c.loop-self.part.items < c.args.count = omega (arith, c.loop-self-test.true, c.len.ensures) in
    let one = is_one all.0 c.loop-self.part.items (length c.loop-self.part.items) c.loop-self.self c.next.new.self c.next.result
    (enough c.args.count (length c.loop-self.part.items) c.args.self.now all.0 c.requires all.1 less) (c.loop-self.invariant.so_far all.0 all.1) c.next.ensures in
    absurd (cc (one.1, c.in-Ok.is, c.in_default-next.is))

pub loop-self-preserved : goal.loop-self-preserved
loop-self-preserved c =
    let items : c.push.new.self.items ≡ c.loop-self.part.items ++ c.in-Some.token ∷ [] = c.in_ok-push.ensures.items in
    let len : length c.push.new.self.items ≡ length c.loop-self.part.items + 1 = ap length items ∙ length-append c.loop-self.part.items (c.in-Some.token ∷ []) in
    let next : IsNext c.loop-self.self (Ok (Some c.in-Some.token)) c.next.new.self =
    subst (λ (r : Result (Option Lexeme) LexFault). IsNext c.loop-self.self r c.next.new.self) (c.in-Ok.is ∙ ap (λ (o : Option Lexeme). Ok o) c.in-Some.is) c.next.ensures in
    record {
      within = omega (arith, len, c.loop-self-test.true, c.len.ensures);
      so_far = λ tokens is. subst (λ (part : List Lexeme). IsPart tokens part (length c.push.new.self.items) c.next.new.self) (sym items)
          (read_one tokens c.loop-self.part.items (length c.loop-self.part.items) (length c.push.new.self.items) c.loop-self.self c.next.new.self c.in-Some.token (omega (arith, len))
          (c.loop-self.invariant.so_far tokens is) next);
    }
