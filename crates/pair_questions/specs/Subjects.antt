-- What all questions on a pair share.
use Rattle.std.specs.Prelude.{◌≡◌, ℕ, true, List}
use Rattle.points.specs.declared.point.Bounds.{Bounds}
use Rattle.verdicts.specs.Pair.{RunPair, same_signature, layout_of}
use Rattle.points.specs.Run.{run_of}
use Rattle.points.specs.Tapes.{need_of}
use Rattle.bv_terms.specs.declared.term.Term.{Term}
use Rattle.mem_terms.specs.declared.inputs.InputTerms.{InputTerms}
use Rattle.mem_terms.specs.declared.inputs.TapeTerms.{TapeTerms}
use Rattle.mem_terms.specs.declared.outcome.OutcomeTerms.{OutcomeTerms}
use Rattle.mem_terms.specs.Values.{reading}
use Rattle.mem_terms.specs.Inputs.{words_at}
use Rattle.mem_terms.specs.Outcomes.{IsOutcome, LeavesGiven, Shows}
use Rattle.pair_questions.specs.declared.subject.Subject.{Subject}
use Rattle.pair_questions.specs.Candidates.{input_in}
use Rattle.pair_questions.specs.Encodables.{IsEncodable}
use Rattle.pair_questions.specs.Questions.{CanBeAsked}
use Rattle.pair_questions.specs.Shapes.{IsShapeOf}
use Rattle.mem_terms.specs.Memory.{frames_of}

-- a pair that may be asked about, with the shape of its points, its functions as they are encoded and the words of a tape of its source
pub record IsSubject (s : Subject) : Type 0 where
  pub ready : CanBeAsked s.pair.now s.bounds.now
  pub signature : same_signature s.pair.now.source s.pair.now.target ≡ true
  pub shape : IsShapeOf s.pair.now s.bounds.now s.shape
  pub of_source : s.source.of.now ≡ s.pair.now.source
  pub of_target : s.target.of.now ≡ s.pair.now.target
  pub source : IsEncodable s.bounds.now.turns s.source
  pub target : IsEncodable s.bounds.now.turns s.target
  pub need : s.need ≡ need_of s.bounds.now.turns s.pair.now.source

-- the outcome of the target's run on the input and the tape
pub record IsOfTarget (pair : RunPair) (bounds : Bounds) (terms : List Term) (input : InputTerms) (tape : TapeTerms) (o : OutcomeTerms) : Type 0 where
  pub made : IsOutcome terms o
  pub given : LeavesGiven (frames_of (layout_of pair bounds)) o
  pub shows : (v : ℕ → ℕ → ℕ) → Shows (reading (layout_of pair bounds).blocks v) terms (words_at v terms tape.words) (run_of pair.target bounds (input_in (layout_of pair bounds) v terms input) (words_at v terms tape.words)) o
