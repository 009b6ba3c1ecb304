-- The point of the least code, and what there is where there is none.
use Rattle.std.specs.Prelude.{◌≡◌, ℕ, List, Option}
use Rattle.points.specs.Code.{IsOfShape, code_of}
use Rattle.points.specs.Codes.{IsCode}
use Rattle.points.specs.declared.point.Bounds.{Bounds}
use Rattle.points.specs.declared.point.Point.{Point}
use Rattle.points.specs.declared.point.Shape.{Shape}
use Rattle.verdicts.specs.Pair.{RunPair}
use Rattle.candidate_runs.specs.declared.candidate.Candidate.{Candidate}
use Rattle.clause_log.specs.declared.step.Cert.{Cert}
use Rattle.pair_questions.specs.declared.found.Found.{Found}
use Rattle.pair_questions.specs.declared.found.Found.TheVariants as found
use Rattle.pair_questions.specs.Questions.{IsFoundCode, IsFoundPoint, IsLeastMissed}

module _ (pair : RunPair) (bounds : Bounds) (s : Shape) (front : List Candidate) (tapes : List (List ℕ)) (limit : Option ℕ) (f : Found (List ℕ)) where
  pub well_code : (code : List ℕ) → f ≡ found.Least code → IsFoundCode pair bounds s front tapes limit f → IsCode s code
  well_code code e h = (rw e at h).of_shape

  pub least_point_of : (code : List ℕ) → f ≡ found.Least code → IsFoundCode pair bounds s front tapes limit f
      → (p : Point) → IsOfShape s p → code_of s.layout s.parameters p ≡ code → IsLeastMissed pair bounds front tapes p
  least_point_of code e h p of_shape same = (rw e at h).least p of_shape same

  pub none_of : (cert : Cert) → f ≡ found.None cert → IsFoundCode pair bounds s front tapes limit f → IsFoundPoint pair bounds tapes limit (found.None cert)
  none_of cert e h = rw e at h

  pub spent_of : (cert : Cert) → f ≡ found.Spent cert → IsFoundCode pair bounds s front tapes limit f → IsFoundPoint pair bounds tapes limit (found.Spent cert)
  spent_of cert e h = rw e at h
