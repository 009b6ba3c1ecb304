-- What the judge goes through: the points of the pair's shape. Functions without pointers neither read nor change given blocks, so of their points those decide whose given blocks have size 0.
use Rattle.std.specs.Prelude.{◌≡◌, ℕ, zero, suc, ◌+◌, ◌<◌, ◌≤◌, List, [], ◌∷◌, ◌++◌, length, map, replicate, true, false}
use Rattle.ir_tree.specs.declared.tree.Parameter.{Parameter}
use Rattle.ir_tree.specs.Pointers.{HasNoPointers}
use Rattle.byte_block.specs.declared.value.BlockName.TheVariants.{Given}
use Rattle.byte_block.specs.declared.value.Byte.TheVariants as byte
use Rattle.byte_block.specs.declared.value.Value.{Value}
use Rattle.byte_block.specs.declared.block.MemoryBlock.{MemoryBlock}
use Rattle.points.specs.declared.point.Bounds.{Bounds}
use Rattle.points.specs.declared.point.Budget.{Budget}
use Rattle.points.specs.declared.point.Layout.{Layout}
use Rattle.points.specs.declared.point.Point.{Point}
use Rattle.points.specs.declared.point.Shape.{Shape}
use Rattle.verdicts.specs.declared.verdict.Kept.{Kept}
use Rattle.verdicts.specs.declared.verdict.Cause.TheVariants.{Rounds}
use Rattle.verdicts.specs.declared.verdict.Verdict.{Verdict}
use Rattle.verdicts.specs.declared.verdict.Verdict.TheVariants as verdict
use Rattle.verdicts.specs.Pair.{RunPair, layout_of}
use Rattle.points.specs.Code.{ArgsFit, WordsFit}
use Rattle.points.specs.Next.{least_value}
use Rattle.points.specs.Run.{run_of, IsPlain}
use Rattle.points.specs.Tapes.{need_of, widest_choice}
use Rattle.verdicts.specs.Covers.{is_covered, IsLeastCover, HasNoCover}
use Rattle.verdicts.specs.Trail.{place_in, TrailFrom, open_point, Ends, IsLeastUncovered, AreAllCovered}
use Rattle.candidate_runs.specs.Candidates.{AreTemplates, AreTries, integer_count}
use Rattle.choice_interp.specs.Runners.{IsRunner}
use Rattle.slow_judge.specs.declared.bench.Bench.{Bench}
use Rattle.slow_judge.specs.declared.round.Round.{Round}
use Rattle.slow_judge.specs.declared.round.Round.TheVariants.{Correct, Incorrect, Covered}

pub record HaveNoPointers (pair : RunPair) : Type 0 where
  pub source : HasNoPointers pair.source
  pub target : HasNoPointers pair.target

-- ---- given blocks

-- the given block of this number, with size 0
abbrev pub empty_block : Layout → ℕ → MemoryBlock
empty_block layout number = record { name = Given number; size = 0; align = 16; places = replicate layout.bytes (byte.Bits 0 0) }

-- the first n of them, numbered from 1
unfoldable pub first_empty : Layout → ℕ → List MemoryBlock
first_empty layout zero = []
first_empty layout (suc n) = first_empty layout n ++ empty_block layout (n + 1) ∷ []

-- all of them
abbrev pub empty_blocks : Layout → List MemoryBlock
empty_blocks layout = first_empty layout layout.blocks

-- ---- the points in order, whether or not their tape is plain

-- the shape of the pair's points
pub record IsShapeOf (pair : RunPair) (bounds : Bounds) (s : Shape) : Type 0 where
  pub parameters : s.parameters ≡ pair.target.parameters
  pub layout : s.layout ≡ layout_of pair bounds
  pub words : s.words ≡ need_of bounds.turns pair.target
  pub word_width : s.word_width.bits ≡ widest_choice pair.target

-- a cell is a point with empty blocks
pub record IsCell (pair : RunPair) (bounds : Bounds) (p : Point) : Type 0 where
  pub args : ArgsFit (layout_of pair bounds) pair.target.parameters p.input.args
  pub blocks : p.input.blocks ≡ empty_blocks (layout_of pair bounds)
  pub tape : WordsFit (widest_choice pair.target) (need_of bounds.turns pair.target) p.tape

-- the least argument of each parameter
abbrev pub least_args : List Parameter → List Value
least_args parameters = map (λ (p : Parameter). least_value p.of_type) parameters

-- the next one among some points: it comes later, and none of them between the two was left out
pub record IsNextAmong (Among : Point → Type 0) (pair : RunPair) (bounds : Bounds) (old new : Point) : Type 0 where
  pub among : Among new
  pub later : place_in pair bounds old < place_in pair bounds new
  pub no_gap : (q : Point) → Among q → place_in pair bounds q < place_in pair bounds new → place_in pair bounds q ≤ place_in pair bounds old

abbrev pub IsNextCell : RunPair → Bounds → Point → Point → Type 0
IsNextCell pair bounds old new = IsNextAmong (IsCell pair bounds) pair bounds old new

abbrev pub IsLastAmong : (Point → Type 0) → RunPair → Bounds → Point → Type 0
IsLastAmong Among pair bounds p = (q : Point) → Among q → place_in pair bounds q ≤ place_in pair bounds p

abbrev pub IsLastCell : RunPair → Bounds → Point → Type 0
IsLastCell pair bounds p = IsLastAmong (IsCell pair bounds) pair bounds p

-- ---- the least of them that nothing covers

pub record IsUncovered (pair : RunPair) (bounds : Bounds) (tapes : List (List ℕ)) (p : Point) : Type 0 where
  pub plain : IsPlain p.tape (run_of pair.target bounds p.input p.tape)
  pub uncovered : is_covered pair bounds tapes p ≡ false

pub record IsLeastAmong (Among : Point → Type 0) (pair : RunPair) (bounds : Bounds) (tapes : List (List ℕ)) (p : Point) : Type 0 where
  pub among : Among p
  pub here : IsUncovered pair bounds tapes p
  pub least : (q : Point) → Among q → IsPlain q.tape (run_of pair.target bounds q.input q.tape) → place_in pair bounds q < place_in pair bounds p → is_covered pair bounds tapes q ≡ true

abbrev pub AreCoveredAmong : (Point → Type 0) → RunPair → Bounds → List (List ℕ) → Type 0
AreCoveredAmong Among pair bounds tapes = (q : Point) → Among q → IsPlain q.tape (run_of pair.target bounds q.input q.tape) → is_covered pair bounds tapes q ≡ true

-- ---- what the judge works with

-- tries of the source, a runner of the target, and the templates of the integer parameters
pub record IsReady (pair : RunPair) (bounds : Bounds) (bench : Bench) : Type 0 where
  pub source : AreTries pair bounds bench.source
  pub target : IsRunner pair.target bench.target
  pub templates : AreTemplates (integer_count pair.target.parameters) bench.templates.items

-- ---- a round

-- the least tape that covers the least point that nothing so far covers
pub record IsNextTape (pair : RunPair) (bounds : Bounds) (tapes : List (List ℕ)) (tape : List ℕ) : Type 0 where
  pub point : Point
  pub least : IsLeastUncovered pair bounds tapes point
  pub cover : IsLeastCover pair bounds point tape

-- what the round after these tapes finds
abbrev pub IsFound : RunPair → Bounds → List (List ℕ) → Round → Type 0
IsFound pair bounds tapes Correct = AreAllCovered pair bounds tapes
IsFound pair bounds tapes (Incorrect p) = IsLeastUncovered pair bounds tapes p × HasNoCover pair bounds p
IsFound pair bounds tapes (Covered tape) = IsNextTape pair bounds tapes tape

-- the round after these tapes is the last, with this verdict
abbrev pub IsEnd : Budget → List (List ℕ) → Round → Verdict → Type 0
IsEnd budget tapes Correct v = v ≡ verdict.Correct
IsEnd budget tapes (Incorrect p) v = v ≡ verdict.Incorrect p
IsEnd budget tapes (Covered tape) v = (length tapes ≡ budget.rounds) × (v ≡ verdict.Unknown Rounds)

-- or it found a tape, the budget has room for it, and the new tapes end with it
abbrev pub HasAdded : Budget → List (List ℕ) → Round → List (List ℕ) → Type 0
HasAdded budget old Correct new = ⊥
HasAdded budget old (Incorrect p) new = ⊥
HasAdded budget old (Covered tape) new = ¬ (length old ≡ budget.rounds) × (new ≡ old ++ tape ∷ [])

-- the verdict of a pair that is not too heavy
pub record HasTrail (pair : RunPair) (bounds : Bounds) (budget : Budget) (v : Verdict) : Type 0 where
  pub kept : Kept
  pub trail : TrailFrom pair bounds [] kept.tapes kept.points
  pub within : length kept.tapes ≤ budget.rounds
  pub ends : Ends pair bounds budget kept.tapes (open_point kept) v
