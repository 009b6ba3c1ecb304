use Rattle.ir_grammar.proofs.Common.{◌≡◌, ◌≤◌, List, [], true, length, err_from_is_err_and, Lexeme, Reading, reads, read, shorter, at_start, step-more, step-done, step-fails, step-shorter, any, follows_parameter, parameter_begins, with_part, parameter_parts, new_parameter, ParameterPart, WrittenParameters}
use Rattle.ir_grammar.proofs.cursor.Cursor.parameter_parts.Goals as goal

abbrev part : WrittenParameters → ParameterPart → List Lexeme → Reading (WrittenParameters)
part s a ts = read true (with_part s a) ts

short : (s : WrittenParameters) (a : ParameterPart) (ts : List Lexeme) (x : WrittenParameters) (rest : List Lexeme) → part s a ts ≡ reads x rest → length rest ≤ length ts
short s a ts x rest e = shorter true (with_part s a) ts x rest e

pub loop-next-init : goal.loop-next-init
unfolding parameter_parts
loop-next-init c = rw (c.no_items.ensures, c.new_parameter.ensures) (at_start follows_parameter parameter_begins (λ s. any) part (record { before = []; last = new_parameter c.args.of_type }) c.args.self.now)

pub returns-in_err-next : goal.returns-in_err-next
returns-in_err-next c =
    let p = err_from_is_err_and c.from_residual.result c.from_residual.ensures.1 in
    rw (p.1, p.2) (step-fails follows_parameter parameter_begins (λ s. any) part short c.loop-next.so_far c.loop-next.self c.one_part.new.self _ _ c.in_err-next.ensures c.loop-next.invariant)

pub returns-then-not-is_more : goal.returns-then-not-is_more
returns-then-not-is_more c = step-done follows_parameter parameter_begins (λ s. any) part short c.loop-next.so_far c.in_ok-next.next c.loop-next.self c.one_part.new.self _ (rw c.if-not-is_more.true at c.in_ok-next.ensures) c.loop-next.invariant

pub loop-next-smaller : goal.loop-next-smaller
loop-next-smaller c = step-shorter follows_parameter parameter_begins (λ s. any) part short c.loop-next.so_far c.in_ok-next.next c.loop-next.self c.one_part.new.self (rw c.if-not-is_more.false at c.in_ok-next.ensures)

pub loop-next-preserved : goal.loop-next-preserved
loop-next-preserved c = step-more follows_parameter parameter_begins (λ s. any) part short c.loop-next.so_far c.in_ok-next.next c.loop-next.self c.one_part.new.self _ (rw c.if-not-is_more.false at c.in_ok-next.ensures) c.loop-next.invariant
