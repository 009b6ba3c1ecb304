use Rattle.std.proofs.Common.{subst, sym, ◌∙◌}
use Rattle.std.proofs.lemmas.List.{take_all}
use Rattle.std.proofs.lemmas.List.Elements.{All-more, All-same}
use Rattle.clause_lits.specs.Meaning.{IsClause}
use Rattle.proof_files.proofs.writing.are_clauses.Goals as goal

pub loop-clause-preserved : goal.loop-clause-preserved
loop-clause-preserved c =
    All-more IsClause c.as_slice-clauses.result.now c.loop-clause.clause-index c.clause-item.result c.loop-clause-test.true c.loop-clause.invariant
    (subst IsClause c.clause-item.is c.literals-literals.ensures.clause)

pub returns-clause-clauses : goal.returns-clause-clauses
returns-clause-clauses c =
    All-same IsClause c.args.cert.now.cnf.clauses _ (sym (take_all c.loop-clause.clause-index c.as_slice-clauses.result.now c.loop-clause-test.false ∙ c.as_slice-clauses.ensures)) c.loop-clause.invariant
