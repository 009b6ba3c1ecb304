use Rattle.ir_grammar.proofs.Common.{◌≡◌, ◌≤◌, List, true, length, err_from_is_err_and, Lexeme, Reading, reads, read, shorter, at_start, step-more, step-done, step-fails, step-shorter, starts_line, line_begins, line_within, next_line, opened, lines, LineStart, WrittenLines}
use Rattle.ir_grammar.proofs.cursor.Cursor.lines.Goals as goal

abbrev part : WrittenLines → LineStart → List Lexeme → Reading (WrittenLines)
part s a ts = read true (next_line s a) ts

short : (s : WrittenLines) (a : LineStart) (ts : List Lexeme) (x : WrittenLines) (rest : List Lexeme) → part s a ts ≡ reads x rest → length rest ≤ length ts
short s a ts x rest e = shorter true (next_line s a) ts x rest e

pub loop-so_far-init : goal.loop-so_far-init
unfolding lines
loop-so_far-init c = rw (c.no_items.ensures, c.no_items-2.ensures) (at_start starts_line line_begins line_within part (opened c.args.is_new c.args.room) c.args.self.now)

pub returns-in_err-is_more : goal.returns-in_err-is_more
returns-in_err-is_more c =
    let p = err_from_is_err_and c.from_residual.result c.from_residual.ensures.1 in
    rw (p.1, p.2) (step-fails starts_line line_begins line_within part short c.loop-so_far.so_far c.loop-so_far.self c.one_line.new.self _ _ c.in_err-is_more.ensures c.loop-so_far.invariant)

pub returns-then-not-is_more : goal.returns-then-not-is_more
returns-then-not-is_more c = step-done starts_line line_begins line_within part short c.loop-so_far.so_far c.one_line.new.so_far c.loop-so_far.self c.one_line.new.self _ (rw c.if-not-is_more.true at c.in_ok-is_more.ensures) c.loop-so_far.invariant

pub loop-so_far-smaller : goal.loop-so_far-smaller
loop-so_far-smaller c = step-shorter starts_line line_begins line_within part short c.loop-so_far.so_far c.one_line.new.so_far c.loop-so_far.self c.one_line.new.self (rw c.if-not-is_more.false at c.in_ok-is_more.ensures)

pub loop-so_far-preserved : goal.loop-so_far-preserved
loop-so_far-preserved c = step-more starts_line line_begins line_within part short c.loop-so_far.so_far c.one_line.new.so_far c.loop-so_far.self c.one_line.new.self _ (rw c.if-not-is_more.false at c.in_ok-is_more.ensures) c.loop-so_far.invariant
