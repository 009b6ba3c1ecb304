use Rattle.proof_text.proofs.Common.{subst, counts_line, Clauses, Counts, Parts}
use Rattle.proof_text.proofs.Languages.{counts_leads, counts_missing, counts_nil, some_counts}
use Rattle.proof_text.proofs.Moves.{moves_line, stuck_at_end, stuck_at_line}
use Rattle.proof_text.proofs.reader.read_counts.Goals as goal

pub returns-in_default-clause-err : goal.returns-in_default-clause-err
returns-in_default-clause-err c =
    let none = (rw c.in_default.is at c.next.ensures.none) in
    rw c.left.ensures (stuck_at_end Counts c.args.lines.now some_counts none.0 counts_nil)

pub returns-in-Some-counts_in-clause-ok : goal.returns-in-Some-counts_in-clause-ok
returns-in-Some-counts_in-clause-ok c =
    let k = c.in-Some-counts_in.counts in
    let fact = (rw c.in-Some-counts_in.is at c.counts_in.ensures) in
    let parts = subst (λ t. Parts 10 c.args.lines.now t c.next.new.self) fact.1 c.in-Some.ensures.some in
    (fact.0.0, fact.0.1, moves_line Counts (Clauses k.variables k.clauses) c.args.lines.now (counts_line k.variables k.clauses) c.next.new.self parts (counts_leads k.variables k.clauses fact.0.0 fact.0.1))

pub returns-in-None-clause-err : goal.returns-in-None-clause-err
returns-in-None-clause-err c =
    let fact = (rw c.in-None.is at c.counts_in.ensures) in
    rw c.left.ensures (stuck_at_line Counts c.args.lines.now c.in-Some.line.now c.next.new.self some_counts c.in-Some.ensures.some
    (counts_missing c.in-Some.line.now (λ v n hv hn e. fact (record { variables = v; clauses = n }) (hv, hn) e)))
