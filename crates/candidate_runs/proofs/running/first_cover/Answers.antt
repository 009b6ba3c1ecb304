use Rattle.candidate_runs.proofs.Common.{arith, sym, ap, ◌∙◌, List, ℕ}
use Rattle.candidate_runs.proofs.Covering.{none_after, none_at_end}
use Rattle.candidate_runs.proofs.running.first_cover.Goals as goal

pub loop-i-preserved : goal.loop-i-preserved
loop-i-preserved c = record {
  ready = c.candidate_allows.ensures.ready;
  numbers = rw c.candidate_allows.ensures.numbers c.loop-i.invariant.numbers;
  none = none_after c.args.pair.now c.args.bounds.now c.args.point.now c.args.candidates.now c.loop-i.i _ (omega arith) (sym c.in_ok-candidate_allows.ensures.value ∙ c.if-branch.false) c.loop-i.invariant.none;
}

pub returns-clause-found : goal.returns-clause-found
returns-clause-found c = none_at_end c.args.pair.now c.args.bounds.now c.args.point.now c.args.candidates.now c.loop-i.i (omega arith) c.loop-i.invariant.none
