use Rattle.ir_grammar.proofs.Common.{◌≡◌, ◌≤◌, List, true, length, err_from_is_err_and, Lexeme, Reading, reads, read, shorter, at_start, step-more, step-done, step-fails, step-shorter, any, begins_block, block_begins, next_block, other_blocks, WrittenName}
use Rattle.ir_words.specs.declared.written.WrittenBlocks.{WrittenBlocks}
use Rattle.ir_grammar.proofs.cursor.Cursor.other_blocks.Goals as goal

abbrev part : WrittenBlocks → WrittenName → List Lexeme → Reading (WrittenBlocks)
part s a ts = read true (next_block s a) ts

short : (s : WrittenBlocks) (a : WrittenName) (ts : List Lexeme) (x : WrittenBlocks) (rest : List Lexeme) → part s a ts ≡ reads x rest → length rest ≤ length ts
short s a ts x rest e = shorter true (next_block s a) ts x rest e

pub loop-next-init : goal.loop-next-init
unfolding other_blocks
loop-next-init c = at_start begins_block block_begins (λ s. any) part c.args.entry c.args.self.now

pub returns-in_err-next : goal.returns-in_err-next
returns-in_err-next c =
    let p = err_from_is_err_and c.from_residual.result c.from_residual.ensures.1 in
    rw (p.1, p.2) (step-fails begins_block block_begins (λ s. any) part short c.loop-next.so_far c.loop-next.self c.one_block.new.self _ _ c.in_err-next.ensures c.loop-next.invariant)

pub returns-then-not-is_more : goal.returns-then-not-is_more
returns-then-not-is_more c = step-done begins_block block_begins (λ s. any) part short c.loop-next.so_far c.in_ok-next.next c.loop-next.self c.one_block.new.self _ (rw c.if-not-is_more.true at c.in_ok-next.ensures) c.loop-next.invariant

pub loop-next-smaller : goal.loop-next-smaller
loop-next-smaller c = step-shorter begins_block block_begins (λ s. any) part short c.loop-next.so_far c.in_ok-next.next c.loop-next.self c.one_block.new.self (rw c.if-not-is_more.false at c.in_ok-next.ensures)

pub loop-next-preserved : goal.loop-next-preserved
loop-next-preserved c = step-more begins_block block_begins (λ s. any) part short c.loop-next.so_far c.in_ok-next.next c.loop-next.self c.one_block.new.self _ (rw c.if-not-is_more.false at c.in_ok-next.ensures) c.loop-next.invariant
