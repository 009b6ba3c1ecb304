use Rattle.ir_grammar.proofs.Common.{◌≡◌, ◌≤◌, List, true, false, length, err_from_is_err_and, Lexeme, Reading, reads, read, shorter, at_start, step-more, step-done, step-fails, step-shorter, any, follows_header, header_begins, with_header, header_parts, Bool, HeaderPart}
use Rattle.ir_grammar.proofs.cursor.Cursor.header_parts.Goals as goal

abbrev part : Bool → HeaderPart → List Lexeme → Reading (Bool)
part s a ts = read true (with_header s a) ts

short : (s : Bool) (a : HeaderPart) (ts : List Lexeme) (x : Bool) (rest : List Lexeme) → part s a ts ≡ reads x rest → length rest ≤ length ts
short s a ts x rest e = shorter true (with_header s a) ts x rest e

pub loop-next-init : goal.loop-next-init
unfolding header_parts
loop-next-init c = at_start follows_header header_begins (λ s. any) part false c.args.self.now

pub returns-in_err-next : goal.returns-in_err-next
returns-in_err-next c =
    let p = err_from_is_err_and c.from_residual.result c.from_residual.ensures.1 in
    rw (p.1, p.2) (step-fails follows_header header_begins (λ s. any) part short c.loop-next.so_far c.loop-next.self c.one_header.new.self _ _ c.in_err-next.ensures c.loop-next.invariant)

pub returns-then-not-is_more : goal.returns-then-not-is_more
returns-then-not-is_more c = step-done follows_header header_begins (λ s. any) part short c.loop-next.so_far c.in_ok-next.next c.loop-next.self c.one_header.new.self _ (rw c.if-not-is_more.true at c.in_ok-next.ensures) c.loop-next.invariant

pub loop-next-smaller : goal.loop-next-smaller
loop-next-smaller c = step-shorter follows_header header_begins (λ s. any) part short c.loop-next.so_far c.in_ok-next.next c.loop-next.self c.one_header.new.self (rw c.if-not-is_more.false at c.in_ok-next.ensures)

pub loop-next-preserved : goal.loop-next-preserved
loop-next-preserved c = step-more follows_header header_begins (λ s. any) part short c.loop-next.so_far c.in_ok-next.next c.loop-next.self c.one_header.new.self _ (rw c.if-not-is_more.false at c.in_ok-next.ensures) c.loop-next.invariant
