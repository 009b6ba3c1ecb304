use Rattle.ir_grammar.proofs.Common.{◌≡◌, ◌≤◌, List, true, length, err_from_is_err_and, Lexeme, Reading, reads, read, shorter, at_start, step-more, step-done, step-fails, step-shorter, any, is_comma, comma_begins, attachment, attachments}
use Rattle.ir_grammar.proofs.cursor.Cursor.attachments.Goals as goal

abbrev part : Unit {0} → Unit {0} → List Lexeme → Reading (Unit {0})
part s a ts = read true attachment ts

short : (s : Unit {0}) (a : Unit {0}) (ts : List Lexeme) (x : Unit {0}) (rest : List Lexeme) → part s a ts ≡ reads x rest → length rest ≤ length ts
short s a ts x rest e = shorter true attachment ts x rest e

pub loop-is_more-init : goal.loop-is_more-init
unfolding attachments
loop-is_more-init c = at_start is_comma comma_begins (λ s. any) part tt c.args.self.now

pub returns-in_err-is_more : goal.returns-in_err-is_more
returns-in_err-is_more c =
    let p = err_from_is_err_and c.from_residual.result c.from_residual.ensures.1 in
    rw (p.1, p.2) (step-fails is_comma comma_begins (λ s. any) part short tt c.loop-is_more.self c.one_attachment.new.self _ _ c.in_err-is_more.ensures c.loop-is_more.invariant)

pub returns-then-not-is_more : goal.returns-then-not-is_more
returns-then-not-is_more c = step-done is_comma comma_begins (λ s. any) part short tt tt c.loop-is_more.self c.one_attachment.new.self _ (rw c.if-not-is_more.true at c.in_ok-is_more.ensures) c.loop-is_more.invariant

pub loop-is_more-smaller : goal.loop-is_more-smaller
loop-is_more-smaller c = step-shorter is_comma comma_begins (λ s. any) part short tt tt c.loop-is_more.self c.one_attachment.new.self (rw c.if-not-is_more.false at c.in_ok-is_more.ensures)

pub loop-is_more-preserved : goal.loop-is_more-preserved
loop-is_more-preserved c = step-more is_comma comma_begins (λ s. any) part short tt tt c.loop-is_more.self c.one_attachment.new.self _ (rw c.if-not-is_more.false at c.in_ok-is_more.ensures) c.loop-is_more.invariant
