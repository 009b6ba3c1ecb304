use Rattle.proof_text.proofs.Common.{subst, ◌-◌, IsClauseOver, clause_line, Clauses, Log, Parts}
use Rattle.proof_text.proofs.Languages.{many_leads, many_missing, many_nil, some_clauses}
use Rattle.proof_text.proofs.Moves.{moves_line, stuck_at_end, stuck_at_line}
use Rattle.proof_text.proofs.reader.read_clause.Goals as goal

pub returns-in_default-clause-err : goal.returns-in_default-clause-err
returns-in_default-clause-err c =
    let v = c.args.variables in
    let none = (rw c.in_default.is at c.next.ensures.none) in
    rw c.left.ensures (stuck_at_end (Clauses v c.args.left) c.args.lines.now (some_clauses v c.args.left) none.0 (many_nil (IsClauseOver v) clause_line (Log v) c.args.left c.requires.left))

pub returns-in-Some-2-clause-ok : goal.returns-in-Some-2-clause-ok
returns-in-Some-2-clause-ok c =
    let v = c.args.variables in
    let fact = (rw c.in-Some-2.is at c.in_ok-clause.ensures) in
    let parts = subst (λ t. Parts 10 c.args.lines.now t c.next.new.self) fact.1 c.in-Some.ensures.some in
    (fact.0, moves_line (Clauses v c.args.left) (Clauses v (c.args.left - 1)) c.args.lines.now (clause_line c.in-Some-2.clause) c.next.new.self parts (many_leads (IsClauseOver v) clause_line (Log v) c.args.left c.in-Some-2.clause c.requires.left fact.0))

pub returns-in-None-clause-err : goal.returns-in-None-clause-err
returns-in-None-clause-err c =
    let v = c.args.variables in
    let fact = (rw c.in-None.is at c.in_ok-clause.ensures) in
    rw c.left.ensures (stuck_at_line (Clauses v c.args.left) c.args.lines.now c.in-Some.line.now c.next.new.self (some_clauses v c.args.left) c.in-Some.ensures.some (many_missing (IsClauseOver v) clause_line (Log v) c.args.left c.in-Some.line.now c.requires.left fact))
