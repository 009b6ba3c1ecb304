-- The terms of a point that a question asks for.
use Rattle.std.specs.Prelude.{◌≡◌, ℕ, List}
use Rattle.bv_terms.specs.declared.term.Term.{Term}
use Rattle.mem_terms.specs.Inputs.{AreWords, words_at}
use Rattle.refine_terms.specs.Numbers.{IsInputOf, IsTapeOf}
use Rattle.pair_questions.specs.declared.point_terms.PointTerms.{PointTerms}
use Rattle.pair_questions.specs.declared.subject.Subject.{Subject}
use Rattle.pair_questions.specs.Subjects.{IsOfTarget}
use Rattle.pair_questions.specs.Tapes.{integers_at}

-- the terms of a point with the outcome of the target's run and the numbers of its integer arguments
pub record ArePointTerms (s : Subject) (terms : List Term) (of : PointTerms) : Type 0 where
  pub input : IsInputOf s.shape terms of.input
  pub tape : IsTapeOf s.shape terms of.tape
  pub numbers : AreWords terms of.numbers
  pub integers : (v : ℕ → ℕ → ℕ) → words_at v terms of.numbers ≡ integers_at v terms of.input.args
  pub target : IsOfTarget s.pair.now s.bounds.now terms of.input of.tape of.target
