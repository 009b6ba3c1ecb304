-- Tapes of the source that are tried for an input and an outcome of the target.
use Rattle.std.specs.Prelude.{ℕ, Bool, true, not, ◌&&◌, List, [], ◌∷◌, map, Contains}
use Rattle.ir_tree.specs.declared.tree.Function.{Function}
use Rattle.points.specs.declared.point.Layout.{Layout}
use Rattle.points.specs.declared.point.Bounds.{Bounds}
use Rattle.points.specs.declared.point.Input.{Input}
use Rattle.points.specs.declared.outcome.Outcome.{Outcome}
use Rattle.points.specs.Refines.{is_refined}
use Rattle.points.specs.Run.{run_of}
use Rattle.bv_terms.specs.declared.term.TermId.{TermId}
use Rattle.bv_terms.specs.declared.term.Term.{Term}
use Rattle.bv_terms.specs.Trees.{Tests, bit_at}
use Rattle.mem_terms.specs.declared.inputs.InputTerms.{InputTerms}
use Rattle.mem_terms.specs.declared.inputs.TapeTerms.{TapeTerms}
use Rattle.mem_terms.specs.declared.outcome.OutcomeTerms.{OutcomeTerms}
use Rattle.mem_terms.specs.Values.{Each, reading}
use Rattle.mem_terms.specs.Inputs.{AreWords, IsInput, input_at, words_at}
use Rattle.mem_terms.specs.Outcomes.{IsOutcome, LeavesGiven, outcome_at}
use Rattle.verdicts.specs.Covers.{words_of}
use Rattle.candidate_runs.specs.declared.candidate.Candidate.{Candidate}
use Rattle.candidate_runs.specs.Candidates.{function_of}
use Rattle.pair_questions.specs.declared.goals.Trial.{Trial}
use Rattle.pair_questions.specs.Encodables.{IsEncodable}
use Rattle.ir_tree.specs.Limits.{CanRun}
use Rattle.mem_terms.specs.Memory.{frames_of}

-- the words of these tapes
abbrev pub tapes_at : (ℕ → ℕ → ℕ) → List Term → List TapeTerms → List (List ℕ)
tapes_at v terms tapes = map (λ (tape : TapeTerms). words_at v terms tape.words) tapes

abbrev pub AreTapes : List Term → List TapeTerms → Type 0
AreTapes terms tapes = Each (λ (tape : TapeTerms). AreWords terms tape.words) tapes

-- the tapes of these candidates, by the numbers of the integer arguments and the target's tape
abbrev pub words_of_each : ℕ → (numbers tape : List ℕ) → List Candidate → List (List ℕ)
words_of_each need numbers tape cs = map (λ c. words_of need (function_of numbers tape c)) cs

-- each tape of one list occurs in the other, in whatever order and however often
pub record AreSameTapes (xs ys : List (List ℕ)) : Type 0 where
  pub here : (tape : List ℕ) → Contains xs tape → Contains ys tape
  pub there : (tape : List ℕ) → Contains ys tape → Contains xs tape

-- the source's run on none of the tapes allows the outcome
unfoldable pub none_allows : Function → Bounds → Input → Outcome → List (List ℕ) → Bool
none_allows f bounds input target [] = true
none_allows f bounds input target (tape ∷ tapes) = not (is_refined (run_of f bounds input tape).outcome target) && none_allows f bounds input target tapes

-- the source may be encoded, and the input and the outcome, which leaves the blocks of an input, are made of these terms
pub record IsTrial (terms : List Term) (t : Trial) : Type 0 where
  pub source : IsEncodable t.bounds.now.turns t.source.now
  pub run : CanRun t.source.now.of.now
  pub input : IsInput t.source.now.of.now.parameters t.layout.now terms t.input.now
  pub target : IsOutcome terms t.target.now
  pub given : LeavesGiven (frames_of t.layout.now) t.target.now

-- what the input denotes, with as many given blocks as the layout has
abbrev pub input_in : Layout → (ℕ → ℕ → ℕ) → List Term → InputTerms → Input
input_in layout v terms input = input_at (reading layout.blocks v) terms input

abbrev pub outcome_in : Layout → (ℕ → ℕ → ℕ) → List Term → OutcomeTerms → Outcome
outcome_in layout v terms o = outcome_at (reading layout.blocks v) terms o

-- true where the goal is and the source's run on none of the tapes allows the target's outcome
abbrev pub Narrows : Trial → (old new : List Term) → (goal : TermId) → (tapes : (ℕ → ℕ → ℕ) → List (List ℕ)) → TermId → Type 0
Narrows t old new goal tapes id = Tests new id (λ v. bit_at v old goal && none_allows t.source.now.of.now t.bounds.now (input_in t.layout.now v old t.input.now) (outcome_in t.layout.now v old t.target.now) (tapes v))
