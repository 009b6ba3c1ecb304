use Rattle.proof_text.proofs.Common.{subst, row_line, Counts, Rows, Parts}
use Rattle.proof_text.proofs.Languages.{row_leads, row_missing, some_rows}
use Rattle.proof_text.proofs.Moves.{moves_line, stuck_at_line, stuck_within}
use Rattle.proof_text.proofs.reader.read_row.Goals as goal

pub returns-in_default-clause-err : goal.returns-in_default-clause-err
returns-in_default-clause-err c =
    let none = (rw c.in_default.is at c.next.ensures.none) in
    rw c.left.ensures (stuck_within Rows c.args.lines.now some_rows none.0 c.requires)

pub returns-in-Some-2-clause-ok : goal.returns-in-Some-2-clause-ok
returns-in-Some-2-clause-ok c =
    let r = c.in-Some-2.row in
    let fact = (rw c.in-Some-2.is at c.in_ok-row.ensures) in
    let parts = subst (λ t. Parts 10 c.args.lines.now t c.next.new.self) fact.1 c.in-Some.ensures.some in
    (fact.0, moves_line Rows Counts c.args.lines.now (row_line r.name r.is_correct) c.next.new.self parts (row_leads r.name r.is_correct fact.0))

pub returns-in-None-clause-err : goal.returns-in-None-clause-err
returns-in-None-clause-err c =
    let fact = (rw c.in-None.is at c.in_ok-row.ensures) in
    rw c.left.ensures (stuck_at_line Rows c.args.lines.now c.in-Some.line.now c.next.new.self some_rows c.in-Some.ensures.some (row_missing c.in-Some.line.now fact))
