-- The candidates by name, and what it is to try them.
use Rattle.std.specs.Prelude.{◌≡◌, ℕ, zero, suc, ◌+◌, ◌<◌, List, [], ◌∷◌, length, map, slice_get, slice_index, Some, true, false}
use Rattle.std.specs.List.{flat_map}
use Rattle.ir_tree.specs.declared.tree.IrType.{IrType}
use Rattle.ir_tree.specs.declared.tree.IrType.TheVariants as type
use Rattle.ir_tree.specs.declared.tree.Parameter.{Parameter}
use Rattle.byte_block.specs.declared.block.MemoryBlock.{MemoryBlock}
use Rattle.points.specs.declared.point.Bounds.{Bounds}
use Rattle.points.specs.declared.point.Point.{Point}
use Rattle.points.specs.Run.{run_of}
use Rattle.points.specs.Runnable.{IsRunnable}
use Rattle.points.specs.Tapes.{need_of}
use Rattle.verdicts.specs.Pair.{RunPair}
use Rattle.verdicts.specs.Covers.{covers, some_covers, integers, templates, words_of, word_before, word_behind, word_plus, word_minus, word_xor}
use Rattle.choice_interp.specs.declared.ending.Ending.{Ending}
use Rattle.choice_interp.specs.Ran.{outcome_of}
use Rattle.choice_interp.specs.Runners.{IsRunner}
use Rattle.candidate_runs.specs.declared.candidate.Candidate.{Candidate}
use Rattle.candidate_runs.specs.declared.candidate.Candidate.TheVariants.{Later, Earlier, Plus, Minus, Xor}
use Rattle.candidate_runs.specs.declared.running.Tries.{Tries}

-- ---- by name

-- the function, by the numbers of the integer arguments and the target's tape
abbrev pub function_of : (numbers tape : List ℕ) → Candidate → ℕ → ℕ
function_of numbers tape (Later by) i = word_behind tape by i
function_of numbers tape (Earlier by) i = word_before tape by i
function_of numbers tape (Plus place) i = word_plus tape (slice_index numbers place) i
function_of numbers tape (Minus place) i = word_minus tape (slice_index numbers place) i
function_of numbers tape (Xor place) i = word_xor tape (slice_index numbers place) i

-- those of a point, as many words of each as the source needs
abbrev pub tape_of : RunPair → Bounds → Point → Candidate → List ℕ
tape_of pair bounds p c = words_of (need_of bounds.turns pair.source) (function_of (integers pair.target.parameters p.input.args) p.tape c)

abbrev pub tapes_of : RunPair → Bounds → Point → List Candidate → List (List ℕ)
tapes_of pair bounds p cs = map (tape_of pair bounds p) cs

abbrev pub counted : IrType → ℕ → ℕ
counted (type.Int width) n = suc n
counted type.Ptr n = n

unfoldable pub integer_count : List Parameter → ℕ
integer_count [] = 0
integer_count (p ∷ ps) = counted p.of_type (integer_count ps)

-- the templates of this many numbers
abbrev pub AreTemplates : ℕ → List Candidate → Type 0
AreTemplates count cs = (numbers tape : List ℕ) → length numbers ≡ count → map (function_of numbers tape) cs ≡ flat_map (templates tape) numbers

-- ---- tries

pub record AreRunnable (pair : RunPair) : Type 0 where
  pub source : IsRunnable pair.source
  pub target : IsRunnable pair.target

-- the target's run on the point ends so and leaves this memory
abbrev pub DoesEnd : RunPair → Bounds → Point → Ending → List MemoryBlock → Type 0
DoesEnd pair bounds p ending memory = (run_of pair.target bounds p.input p.tape).outcome ≡ outcome_of ending memory

-- a runner of the source, and room for one of its tapes
pub record AreTries (pair : RunPair) (bounds : Bounds) (tries : Tries) : Type 0 where
  pub runner : IsRunner pair.source tries.runner
  pub tape : length tries.tape ≡ need_of bounds.turns pair.source

abbrev pub NoneCovers : RunPair → Bounds → Point → List Candidate → Type 0
NoneCovers pair bounds p cs = some_covers pair bounds p (tapes_of pair bounds p cs) ≡ false

-- the candidate at the index covers the point
pub record CoversAt (pair : RunPair) (bounds : Bounds) (p : Point) (cs : List Candidate) (i : ℕ) : Type 0 where
  pub candidate : Candidate
  pub there : slice_get cs i ≡ Some candidate
  pub cover : covers pair bounds p (tape_of pair bounds p candidate) ≡ true
