use Rattle.ir_lexer.proofs.Common.{◌≡◌, ◌∙◌, ◌++◌, ◌∷◌, [], List, Option, Ok, length, ap, sym, subst, arith, Mark, Lexeme, mark_of, Position, IsToken, Reads}
use Rattle.std.proofs.lemmas.Result.{err_from_is_err_and}
use Rattle.ir_lexer.proofs.Fuel.{after-shorter}
use Rattle.ir_lexer.proofs.Kept.{bounds}
use Rattle.ir_lexer.specs.Part.{IsPart}
use Rattle.ir_lexer.proofs.Left.{begins, one_more, fails}
use Rattle.ir_lexer.proofs.marking.part_until.Goals as goal

pub loop-cursor-init : goal.loop-cursor-init
loop-cursor-init c = rw (c.in_ok-marks.ensures.items) (begins c.args.start)

pub returns-in_err-token : goal.returns-in_err-token
returns-in_err-token c =
    let p = err_from_is_err_and c.from_residual-in_err-token.result c.from_residual-in_err-token.ensures.1 in
    rw (p.1, p.2) (fails c.args.start c.loop-cursor.cursor c.next.new.self c.loop-cursor.marks.items _ c.in_err-token.ensures.reads c.loop-cursor.invariant)

pub of-requires-clause-line : goal.of-requires-clause-line
of-requires-clause-line c =
    let token : IsToken c.loop-cursor.cursor c.in-Some.token c.next.new.self =
    subst (λ (o : Option Lexeme). Reads c.loop-cursor.cursor (Ok o) c.next.new.self) c.in-Some.is c.in_ok-token.ensures.reads in
    let fits = bounds c.loop-cursor.cursor c.in-Some.token c.next.new.self c.next.ensures.within token in
    omega (arith, fits.line, ap length c.loop-cursor.invariant.same, c.requires.small)

pub loop-cursor-smaller : goal.loop-cursor-smaller
loop-cursor-smaller c =
    let token : IsToken c.loop-cursor.cursor c.in-Some.token c.next.new.self =
    subst (λ (o : Option Lexeme). Reads c.loop-cursor.cursor (Ok o) c.next.new.self) c.in-Some.is c.in_ok-token.ensures.reads in
    let rest = ap (λ (p : Position). length p.rest) token.after in
    omega (arith, rest, after-shorter c.loop-cursor.cursor.rest (c.in-Some.token.kind, token.len) token.found)

pub loop-cursor-preserved : goal.loop-cursor-preserved
loop-cursor-preserved c =
    let token : IsToken c.loop-cursor.cursor c.in-Some.token c.next.new.self =
    subst (λ (o : Option Lexeme). Reads c.loop-cursor.cursor (Ok o) c.next.new.self) c.in-Some.is c.in_ok-token.ensures.reads in
    let items : c.push.new.self.items ≡ c.loop-cursor.marks.items ++ mark_of c.in-Some.token ∷ [] =
    c.in_ok-push.ensures.items ∙ ap (λ (m : Mark). c.loop-cursor.marks.items ++ m ∷ []) c.of.ensures in
    subst (λ (marks : List Mark). IsPart c.args.start marks c.next.new.self) (sym items)
    (one_more c.args.start c.loop-cursor.cursor c.next.new.self c.loop-cursor.marks.items c.in-Some.token c.next.ensures.within token c.loop-cursor.invariant)
