-- What the terms of an outcome show of a run, under an assignment of the variables.
use Rattle.std.specs.Prelude.{◌≡◌, ◌↔◌, ℕ, true, cond, List, length, map, IfSome}
use Rattle.std.specs.Option.{option_map}
use Rattle.points.specs.declared.outcome.Outcome.{Outcome}
use Rattle.points.specs.declared.outcome.Outcome.TheVariants.{Return, Ub, Beyond}
use Rattle.points.specs.Run.{Run, IsPlain}
use Rattle.bv_terms.specs.declared.term.Term.{Term}
use Rattle.bv_terms.specs.Trees.{IsTerm, bit_at, term_at}
use Rattle.mem_terms.specs.declared.outcome.OutcomeTerms.{OutcomeTerms}
use Rattle.mem_terms.specs.Values.{Each, IsSymValue, Reading, value_at}
use Rattle.mem_terms.specs.Memory.{AreSymBlocks, SymFrame, IsAlways, frame_of, memory_at}

abbrev pub outcome_at : Reading → List Term → OutcomeTerms → Outcome
outcome_at r terms o = cond (bit_at r.v terms o.ub) Ub (cond (bit_at r.v terms o.beyond) Beyond (Return (option_map (value_at r terms) o.value) (memory_at r terms o.blocks)))

-- the blocks exist in every run
pub record IsOutcome (terms : List Term) (o : OutcomeTerms) : Type 0 where
  pub ub : IsTerm terms 1 o.ub
  pub beyond : IsTerm terms 1 o.beyond
  pub value : IfSome o.value (IsSymValue terms)
  pub blocks : AreSymBlocks terms o.blocks
  pub always : Each (IsAlways terms) o.blocks
  pub read : IsTerm terms 64 o.read
  pub plain : IsTerm terms 1 o.plain

-- the blocks that it leaves are those of which this is known
abbrev pub LeavesGiven : List SymFrame → OutcomeTerms → Type 0
LeavesGiven known o = map frame_of o.blocks ≡ known

-- they show how the run on this tape ended, how many words of it were read, and whether the tape is plain for it
pub record Shows (r : Reading) (terms : List Term) (tape : List ℕ) (run : Run) (o : OutcomeTerms) : Type 0 where
  pub outcome : outcome_at r terms o ≡ run.outcome
  pub read : term_at r.v terms o.read ≡ length run.taken
  pub plain : (bit_at r.v terms o.plain ≡ true) ↔ IsPlain tape run
