-- The steps of a refutation are resolved from earlier clauses.
use Rattle.log_tidy.proofs.Common.{ℕ, ◌<◌, List, length, subst, sym, Step, IsBelow}
use Rattle.log_tidy.proofs.Numbered.{sound-below}
use Rattle.log_tidy.proofs.trimming.trim.Goals as goal

pub marks-requires-clause-sound : goal.marks-requires-clause-sound
marks-requires-clause-sound c =
    let clauses = c.args.clauses.now in
    subst (λ (ss : List Step). (i : ℕ) → i < length ss → IsBelow (length clauses) ss i) (sym c.as_slice.ensures)
    (λ i lt. sound-below clauses c.args.log i (c.requires.sound i lt))
