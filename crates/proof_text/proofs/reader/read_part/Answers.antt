use Rattle.proof_text.proofs.Common.{◌∷◌, [], ◌++◌, map, err_from_is_err_and, Part, clause_line, counts_line, log_line, row_line, Clauses, Counts, Log, Rows, Steps}
use Rattle.proof_text.proofs.Languages.{clauses_within}
use Rattle.proof_text.proofs.Moves.{moves_then, stopped_after}
use Rattle.proof_text.proofs.Reading.{part_fits, part_moves}
use Rattle.proof_text.proofs.reader.read_part.Goals as goal

pub returns-in_err-counts-clause-err : goal.returns-in_err-counts-clause-err
returns-in_err-counts-clause-err c =
    let r = c.in_ok-name.field-0 in
    let p = err_from_is_err_and c.from_residual-in_err-counts.result c.from_residual-in_err-counts.ensures.1 in
    rw (p.1, p.2) (stopped_after Rows Counts c.args.lines.now c.read_row.new.lines (row_line r.name r.is_correct ∷ []) c.in_err-counts.field-0.0 c.in_ok-name.ensures.ok.1 c.in_err-counts.ensures.err)

pub returns-in_err-clauses-clause-err : goal.returns-in_err-clauses-clause-err
returns-in_err-clauses-clause-err c =
    let r = c.in_ok-name.field-0 in
    let k = c.in_ok-counts.counts in
    let row = row_line r.name r.is_correct ∷ [] in
    let counts = counts_line k.variables k.clauses ∷ [] in
    let m = moves_then Rows Counts (Clauses k.variables k.clauses) c.args.lines.now c.read_row.new.lines c.read_counts.new.lines row counts c.in_ok-name.ensures.ok.1 c.in_ok-counts.ensures.ok.2 in
    let p = err_from_is_err_and c.from_residual-in_err-clauses.result c.from_residual-in_err-clauses.ensures.1 in
    rw (p.1, p.2) (stopped_after Rows (Clauses k.variables k.clauses) c.args.lines.now c.read_counts.new.lines (row ++ counts) c.in_err-clauses.field-0.0 m c.in_err-clauses.ensures.err)

pub returns-in_err-count-clause-err : goal.returns-in_err-count-clause-err
returns-in_err-count-clause-err c =
    let r = c.in_ok-name.field-0 in
    let k = c.in_ok-counts.counts in
    let row = row_line r.name r.is_correct ∷ [] in
    let counts = counts_line k.variables k.clauses ∷ [] in
    let clauses = map clause_line c.in_ok-clauses.clauses in
    let m2 = moves_then Rows Counts (Clauses k.variables k.clauses) c.args.lines.now c.read_row.new.lines c.read_counts.new.lines row counts c.in_ok-name.ensures.ok.1 c.in_ok-counts.ensures.ok.2 in
    let m3 = moves_then Rows (Clauses k.variables k.clauses) (Log k.variables) c.args.lines.now c.read_counts.new.lines c.read_clauses.new.lines (row ++ counts) clauses m2 c.in_ok-clauses.ensures.ok.2 in
    let p = err_from_is_err_and c.from_residual-in_err-count.result c.from_residual-in_err-count.ensures.1 in
    rw (p.1, p.2) (stopped_after Rows (Log k.variables) c.args.lines.now c.read_clauses.new.lines ((row ++ counts) ++ clauses) c.in_err-count.field-0.0 m3 c.in_err-count.ensures.err)

pub returns-in_err-log-clause-err : goal.returns-in_err-log-clause-err
returns-in_err-log-clause-err c =
    let r = c.in_ok-name.field-0 in
    let k = c.in_ok-counts.counts in
    let n = c.in_ok-count.count in
    let row = row_line r.name r.is_correct ∷ [] in
    let counts = counts_line k.variables k.clauses ∷ [] in
    let clauses = map clause_line c.in_ok-clauses.clauses in
    let m2 = moves_then Rows Counts (Clauses k.variables k.clauses) c.args.lines.now c.read_row.new.lines c.read_counts.new.lines row counts c.in_ok-name.ensures.ok.1 c.in_ok-counts.ensures.ok.2 in
    let m3 = moves_then Rows (Clauses k.variables k.clauses) (Log k.variables) c.args.lines.now c.read_counts.new.lines c.read_clauses.new.lines (row ++ counts) clauses m2 c.in_ok-clauses.ensures.ok.2 in
    let m4 = moves_then Rows (Log k.variables) (Steps k.variables n) c.args.lines.now c.read_clauses.new.lines c.read_step_count.new.lines ((row ++ counts) ++ clauses) (log_line n ∷ []) m3 c.in_ok-count.ensures.ok.1 in
    let p = err_from_is_err_and c.from_residual-in_err-log.result c.from_residual-in_err-log.ensures.1 in
    rw (p.1, p.2) (stopped_after Rows (Steps k.variables n) c.args.lines.now c.read_step_count.new.lines (((row ++ counts) ++ clauses) ++ log_line n ∷ []) c.in_err-log.field-0.0 m4 c.in_err-log.ensures.err)

pub new-cnf-requires-clause-within : goal.new-cnf-requires-clause-within
new-cnf-requires-clause-within c = clauses_within c.in_ok-counts.counts.variables c.in_ok-clauses.clauses c.in_ok-clauses.ensures.ok.1

pub returns-clause-ok : goal.returns-clause-ok
returns-clause-ok c =
    let r = c.in_ok-name.field-0 in
    let k = c.in_ok-counts.counts in
    let n = c.in_ok-count.count in
    let cs = c.in_ok-clauses.clauses in
    let cnf = c.new-cnf.ensures in
    let one = c.in_ok-counts.ensures.ok in
    let two = c.in_ok-clauses.ensures.ok in
    let three = c.in_ok-count.ensures.ok in
    let four = c.in_ok-log.ensures.ok in
    let p : Part = record { name = r.name; is_correct = r.is_correct; cert = record { cnf = c.new-cnf.result; log = c.in_ok-log.log } } in (
      part_fits p k.variables k.clauses n cs cnf.variables cnf.clauses c.in_ok-name.ensures.ok.0 one.0 one.1 three.0 two.0 four.0 two.1 four.1,
      cnf.front,
      part_moves p k.variables k.clauses n cs c.args.lines.now c.read_row.new.lines c.read_counts.new.lines c.read_clauses.new.lines c.read_step_count.new.lines c.read_steps.new.lines cnf.variables cnf.clauses two.0 four.0
          c.in_ok-name.ensures.ok.1 one.2 two.2 three.1 four.2,
    )
