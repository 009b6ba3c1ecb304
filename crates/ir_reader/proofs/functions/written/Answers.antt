use Rattle.ir_reader.proofs.Common.{◌∙◌, sym, ap, length, get_or, arith, List, Lexeme}
use Rattle.ir_reader.proofs.Answers.{writes-whole, writes-more, writes-fault}
use Rattle.ir_reader.proofs.functions.written.Goals as goal

pub returns-in-empty : goal.returns-in-empty
returns-in-empty c = let e = rw c.new-cursor.ensures at c.in-Ok.ensures in writes-whole c.args.tokens.now c.define.new.self c.in-Ok.function e (omega (arith, ap length c.left.ensures))

pub returns-in-len1-up : goal.returns-in-len1-up
returns-in-len1-up c =
    let e = rw c.new-cursor.ensures at c.in-Ok.ensures in
    let first = c.first-item.is ∙ ap (λ (us : List Lexeme). get_or us 0 c.first-item.result) (c.left.ensures ∙ sym c.left-in-len1-up.ensures) in
    rw c.fault_at.ensures (writes-more c.args.tokens.now c.define.new.self c.left-in-len1-up.result.now c.in-Ok.function c.reason_at.result c.first-item.result e c.left-in-len1-up.ensures (omega (arith, ap length c.left.ensures, ap length c.left-in-len1-up.ensures)) first c.reason_at.ensures)

pub returns-in-Err : goal.returns-in-Err
returns-in-Err c =
    let e = rw c.new-cursor.ensures at c.in-Err.ensures in
    rw c.fault_at-in-Err.ensures (writes-fault c.args.tokens.now c.define.new.self c.left-in-Err.result.now c.in-Err.fault e c.left-in-Err.ensures)
