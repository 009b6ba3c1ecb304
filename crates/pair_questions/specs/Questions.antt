-- The two questions on a pair, as questions of lists of numbers, and what clauses show of them.
use Rattle.std.specs.Prelude.{◌≡◌, ◌↔◌, ◌<◌, ℕ, zero, suc, Bool, true, false, List, [], ◌∷◌, ◌++◌, length, replicate, Option, Some}
use Rattle.ir_tree.specs.declared.tree.IrType.{IrType}
use Rattle.ir_tree.specs.declared.tree.IrType.TheVariants as type
use Rattle.ir_tree.specs.declared.tree.Parameter.{Parameter}
use Rattle.points.specs.declared.point.Layout.{Layout}
use Rattle.points.specs.declared.point.Bounds.{Bounds}
use Rattle.points.specs.declared.point.Point.{Point}
use Rattle.points.specs.declared.point.Shape.{Shape}
use Rattle.verdicts.specs.Pair.{RunPair, layout_of}
use Rattle.points.specs.Code.{IsOfShape, WordsFit, code_of}
use Rattle.points.specs.Codes.{IsCode}
use Rattle.points.specs.Runnable.{IsRunnable}
use Rattle.points.specs.Tapes.{need_of}
use Rattle.verdicts.specs.Covers.{covers, some_covers, is_covered, IsLeastCover, HasNoCover}
use Rattle.verdicts.specs.Trail.{IsPoint, place_in, IsLeastUncovered, AreAllCovered}
use Rattle.clause_lits.specs.declared.cnf.Cnf.{Cnf}
use Rattle.clause_log.specs.declared.step.Cert.{Cert}
use Rattle.clause_log.specs.Refutation.{Refutes}
use Rattle.clause_search.specs.Outcome.{IsCareful, IsSpent}
use Rattle.answer_order.specs.Fronts.{numbers_of, total}
use Rattle.sat_ask.specs.Asks.{Asks, HasSmallNumbers}
use Rattle.candidate_runs.specs.declared.candidate.Candidate.{Candidate}
use Rattle.candidate_runs.specs.Candidates.{tapes_of}
use Rattle.pair_costs.specs.Small.{AreSmall}
use Rattle.ir_tree.specs.Limits.{CanRun}
use Rattle.pair_questions.specs.declared.found.Found.{Found}
use Rattle.pair_questions.specs.declared.found.Found.TheVariants as found

-- ---- what may be asked about

pub record CanBeAsked (pair : RunPair) (bounds : Bounds) : Type 0 where
  pub source_runnable : IsRunnable pair.source
  pub target_runnable : IsRunnable pair.target
  pub source_run : CanRun pair.source
  pub target_run : CanRun pair.target
  pub small : AreSmall bounds

-- ---- the widths of the numbers

-- a flag and the number, or the block and the offset
abbrev pub value_widths : IrType → List ℕ
value_widths (type.Int width) = 1 ∷ width.bits ∷ []
value_widths type.Ptr = 1 ∷ 3 ∷ 64 ∷ []

abbrev pub args_widths : List Parameter → List ℕ
args_widths [] = []
args_widths (p ∷ ps) = value_widths p.of_type ++ args_widths ps

-- the kind, the mask, the number, the block, the offset and the part of each byte
abbrev pub places_widths : ℕ → List ℕ
places_widths zero = []
places_widths (suc n) = 2 ∷ 8 ∷ 8 ∷ 3 ∷ 64 ∷ 3 ∷ places_widths n

-- those of n given blocks
abbrev pub blocks_widths : Layout → ℕ → List ℕ
blocks_widths layout zero = []
blocks_widths layout (suc n) = places_widths layout.bytes ++ blocks_widths layout n

-- how many bits each number of a point's code has: those of the arguments, a size for each given block, the contents of all, and the words of the tape
abbrev pub point_widths : RunPair → Bounds → List ℕ
point_widths pair bounds =
    args_widths pair.target.parameters
    ++ (replicate (layout_of pair bounds).blocks 6 ++ (blocks_widths (layout_of pair bounds) (layout_of pair bounds).blocks ++ replicate (need_of bounds.turns pair.target) 64))

-- how many bits each word of a tape of the source has
abbrev pub tape_widths : RunPair → Bounds → List ℕ
tape_widths pair bounds = replicate (need_of bounds.turns pair.source) 64

-- ---- the questions

-- the code of a point that neither a candidate nor one of the tapes covers
pub record IsUncovered (pair : RunPair) (bounds : Bounds) (tapes : List (List ℕ)) (numbers : List ℕ) : Type 0 where
  pub of : Point
  pub point : IsPoint pair bounds of
  pub code : code_of (layout_of pair bounds) pair.target.parameters of ≡ numbers
  pub uncovered : is_covered pair bounds tapes of ≡ false

-- the code of a point that neither one of these candidates nor one of the tapes covers
pub record IsMissed (pair : RunPair) (bounds : Bounds) (cs : List Candidate) (tapes : List (List ℕ)) (numbers : List ℕ) : Type 0 where
  pub of : Point
  pub point : IsPoint pair bounds of
  pub code : code_of (layout_of pair bounds) pair.target.parameters of ≡ numbers
  pub by_candidate : some_covers pair bounds of (tapes_of pair bounds of cs) ≡ false
  pub by_tape : some_covers pair bounds of tapes ≡ false

-- a tape of the source that covers the point
pub record IsCovering (pair : RunPair) (bounds : Bounds) (p : Point) (tape : List ℕ) : Type 0 where
  pub fits : WordsFit 64 (need_of bounds.turns pair.source) tape
  pub cover : covers pair bounds p tape ≡ true

-- clauses that ask, of all numbers of these widths, which are an answer
pub record AsksFor (Answer : List ℕ → Type 0) (widths : List ℕ) (cnf : Cnf) : Type 0 where
  pub test : List Bool → Bool
  pub asks : Asks test (total widths) cnf
  pub means : (digits : List Bool) → length digits ≡ total widths → (test digits ≡ true) ↔ Answer (numbers_of widths digits)

-- none is, and the log shows it
pub record IsRefuted (Answer : List ℕ → Type 0) (widths : List ℕ) (cert : Cert) : Type 0 where
  pub asks : AsksFor Answer widths cert.cnf
  pub refutes : Refutes cert.cnf.clauses cert.log
  pub careful : IsCareful cert.cnf.clauses cert.log
  pub small : HasSmallNumbers cert

-- as many clauses as the limit were learned of the question
pub record IsSpentOn (Answer : List ℕ → Type 0) (widths : List ℕ) (limit : ℕ) (cert : Cert) : Type 0 where
  pub asks : AsksFor Answer widths cert.cnf
  pub spent : IsSpent cert.cnf.clauses cert.log limit
  pub small : HasSmallNumbers cert

-- ---- the answers

abbrev pub IsFoundPoint : RunPair → Bounds → List (List ℕ) → Option ℕ → Found Point → Type 0
IsFoundPoint pair bounds tapes limit (found.Least p) = IsLeastUncovered pair bounds tapes p
IsFoundPoint pair bounds tapes limit (found.None cert) = AreAllCovered pair bounds tapes × IsRefuted (IsUncovered pair bounds tapes) (point_widths pair bounds) cert
IsFoundPoint pair bounds tapes limit (found.Spent cert) = (n : ℕ) × (limit ≡ Some n) × IsSpentOn (IsUncovered pair bounds tapes) (point_widths pair bounds) n cert

-- a point that none of these candidates and none of the tapes covers, where each smaller one is covered
pub record IsLeastMissed (pair : RunPair) (bounds : Bounds) (cs : List Candidate) (tapes : List (List ℕ)) (p : Point) : Type 0 where
  pub point : IsPoint pair bounds p
  pub by_candidate : some_covers pair bounds p (tapes_of pair bounds p cs) ≡ false
  pub by_tape : some_covers pair bounds p tapes ≡ false
  pub least : (q : Point) → IsPoint pair bounds q → place_in pair bounds q < place_in pair bounds p → is_covered pair bounds tapes q ≡ true

-- its code: each point of the shape with this code is that point
pub record IsLeastCode (pair : RunPair) (bounds : Bounds) (s : Shape) (cs : List Candidate) (tapes : List (List ℕ)) (code : List ℕ) : Type 0 where
  pub of_shape : IsCode s code
  pub least : (p : Point) → IsOfShape s p → code_of s.layout s.parameters p ≡ code → IsLeastMissed pair bounds cs tapes p

abbrev pub IsFoundCode : RunPair → Bounds → Shape → List Candidate → List (List ℕ) → Option ℕ → Found (List ℕ) → Type 0
IsFoundCode pair bounds s cs tapes limit (found.Least code) = IsLeastCode pair bounds s cs tapes code
IsFoundCode pair bounds s cs tapes limit (found.None cert) = IsFoundPoint pair bounds tapes limit (found.None cert)
IsFoundCode pair bounds s cs tapes limit (found.Spent cert) = IsFoundPoint pair bounds tapes limit (found.Spent cert)

abbrev pub IsFoundMissed : RunPair → Bounds → List Candidate → List (List ℕ) → Option ℕ → Found Point → Type 0
IsFoundMissed pair bounds cs tapes limit (found.Least p) = IsLeastMissed pair bounds cs tapes p
IsFoundMissed pair bounds cs tapes limit (found.None cert) = IsFoundPoint pair bounds tapes limit (found.None cert)
IsFoundMissed pair bounds cs tapes limit (found.Spent cert) = IsFoundPoint pair bounds tapes limit (found.Spent cert)

abbrev pub IsFoundTape : RunPair → Bounds → Point → Option ℕ → Found (List ℕ) → Type 0
IsFoundTape pair bounds p limit (found.Least tape) = IsLeastCover pair bounds p tape
IsFoundTape pair bounds p limit (found.None cert) = HasNoCover pair bounds p × IsRefuted (IsCovering pair bounds p) (tape_widths pair bounds) cert
IsFoundTape pair bounds p limit (found.Spent cert) = (n : ℕ) × (limit ≡ Some n) × IsSpentOn (IsCovering pair bounds p) (tape_widths pair bounds) n cert
