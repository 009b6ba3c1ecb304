use Rattle.ir_grammar.proofs.Common.{◌≡◌, ◌≤◌, List, [], true, length, err_from_is_err_and, Lexeme, Reading, reads, read, shorter, at_start, step-more, step-done, step-fails, step-shorter, is_type, case_begins, case_within, with_case, cases, WrittenIntType}
use Rattle.ir_words.specs.declared.written.WrittenCase.{WrittenCase}
use Rattle.ir_grammar.proofs.cursor.Cursor.cases.Goals as goal

abbrev part : List WrittenCase → WrittenIntType → List Lexeme → Reading (List WrittenCase)
part s a ts = read true (with_case s a) ts

short : (s : List WrittenCase) (a : WrittenIntType) (ts : List Lexeme) (x : List WrittenCase) (rest : List Lexeme) → part s a ts ≡ reads x rest → length rest ≤ length ts
short s a ts x rest e = shorter true (with_case s a) ts x rest e

pub loop-next-init : goal.loop-next-init
unfolding cases
loop-next-init c = rw c.no_items-so_far.ensures (at_start is_type case_begins case_within part [] c.args.self.now)

pub returns-in_err-next : goal.returns-in_err-next
returns-in_err-next c =
    let p = err_from_is_err_and c.from_residual.result c.from_residual.ensures.1 in
    rw (p.1, p.2) (step-fails is_type case_begins case_within part short c.loop-next.so_far c.loop-next.self c.one_case.new.self _ _ c.in_err-next.ensures c.loop-next.invariant)

pub returns-then-not-is_more : goal.returns-then-not-is_more
returns-then-not-is_more c = step-done is_type case_begins case_within part short c.loop-next.so_far c.in_ok-next.next c.loop-next.self c.one_case.new.self _ (rw c.if-not-is_more.true at c.in_ok-next.ensures) c.loop-next.invariant

pub loop-next-smaller : goal.loop-next-smaller
loop-next-smaller c = step-shorter is_type case_begins case_within part short c.loop-next.so_far c.in_ok-next.next c.loop-next.self c.one_case.new.self (rw c.if-not-is_more.false at c.in_ok-next.ensures)

pub loop-next-preserved : goal.loop-next-preserved
loop-next-preserved c = step-more is_type case_begins case_within part short c.loop-next.so_far c.in_ok-next.next c.loop-next.self c.one_case.new.self _ (rw c.if-not-is_more.false at c.in_ok-next.ensures) c.loop-next.invariant
