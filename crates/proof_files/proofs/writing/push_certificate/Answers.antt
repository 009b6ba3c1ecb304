use Rattle.std.proofs.Common.{subst, sym}
use Rattle.proof_text.specs.Format.{IsPrintedName}
use Rattle.proof_files.proofs.Spelling.{spelled}
use Rattle.proof_files.proofs.writing.push_certificate.Goals as goal

pub push_part-requires : goal.push_part-requires
push_part-requires c =
    spelled c.as_slice.result.now c.args.is_correct c.args.cert.now
    (subst IsPrintedName (sym c.as_slice.ensures.value) c.in_ok-printed.ensures.printed)
    c.are_clauses.ensures.clauses c.are_clauses.ensures.within c.requires.certified.refutes c.requires.certified.variables c.requires.certified.clauses
