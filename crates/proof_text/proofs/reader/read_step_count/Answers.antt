use Rattle.proof_text.proofs.Common.{subst, log_line, Log, Steps, Parts}
use Rattle.proof_text.proofs.Languages.{log_leads, log_missing, log_nil, some_log}
use Rattle.proof_text.proofs.Moves.{moves_line, stuck_at_end, stuck_at_line}
use Rattle.proof_text.proofs.reader.read_step_count.Goals as goal

pub returns-in_default-clause-err : goal.returns-in_default-clause-err
returns-in_default-clause-err c =
    let v = c.args.variables in
    let none = (rw c.in_default.is at c.next.ensures.none) in
    rw c.left.ensures (stuck_at_end (Log v) c.args.lines.now (some_log v) none.0 (log_nil v))

pub returns-in-Some-log_in-clause-ok : goal.returns-in-Some-log_in-clause-ok
returns-in-Some-log_in-clause-ok c =
    let v = c.args.variables in
    let fact = (rw c.in-Some-log_in.is at c.log_in.ensures) in
    let parts = subst (λ t. Parts 10 c.args.lines.now t c.next.new.self) fact.1 c.in-Some.ensures.some in
    (fact.0, moves_line (Log v) (Steps v c.in-Some-log_in.steps) c.args.lines.now (log_line c.in-Some-log_in.steps) c.next.new.self parts (log_leads v c.in-Some-log_in.steps fact.0))

pub returns-in-None-clause-err : goal.returns-in-None-clause-err
returns-in-None-clause-err c =
    let v = c.args.variables in
    let fact = (rw c.in-None.is at c.log_in.ensures) in
    rw c.left.ensures (stuck_at_line (Log v) c.args.lines.now c.in-Some.line.now c.next.new.self (some_log v) c.in-Some.ensures.some (log_missing v c.in-Some.line.now fact))
