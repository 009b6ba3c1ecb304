use Rattle.proof_text.proofs.Common.{Limits}
use Rattle.proof_text.proofs.Languages.{limits_missing, limits_nil, some_limits}
use Rattle.proof_text.proofs.Moves.{stuck_at_end, stuck_at_line}
use Rattle.proof_text.proofs.reader.read_head.Goals as goal

pub returns-in_default-clause-err : goal.returns-in_default-clause-err
returns-in_default-clause-err c =
    let none = (rw c.in_default.is at c.next.ensures.none) in
    rw c.left.ensures (stuck_at_end Limits c.args.lines.now some_limits none.0 limits_nil)

pub returns-in-None-clause-err : goal.returns-in-None-clause-err
returns-in-None-clause-err c =
    let fact = (rw c.in-None.is at c.head_in.ensures) in
    rw c.left.ensures (stuck_at_line Limits c.args.lines.now c.in-Some.line.now c.next.new.self some_limits c.in-Some.ensures.some (limits_missing c.in-Some.line.now fact))
