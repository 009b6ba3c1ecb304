use Rattle.refine_terms.proofs.Common.{◌≤◌, drop, term_at, Each, keeps_trans, is_term-later, IsNarrow}
use Rattle.refine_terms.proofs.Deciders.{row_starts, row_ends}
use Rattle.refine_terms.proofs.Rows.{each_get, each_end, narrow-later, most_row}
use Rattle.refine_terms.proofs.comparing.all_at_most.Goals as goal

pub at_most-requires : goal.at_most-requires
at_most-requires c =
    narrow-later c.args.terms.now c.loop-a.terms c.loop-a.invariant.kept _ (each_get (IsNarrow c.args.terms.now) c.args.numbers.now c.loop-a.a-index (record { index = 0 }) c.requires c.loop-a-test.true)

pub both-requires-clause-a : goal.both-requires-clause-a
both-requires-clause-a c = is_term-later c.loop-a.terms c.at_most.new.terms c.at_most.ensures.kept 1 c.loop-a.all c.loop-a.invariant.all

pub loop-a-init : goal.loop-a-init
loop-a-init c = record {
  kept = c.truth.ensures.kept;
  all = record { within = c.in_ok-all.ensures.made.within; wide = c.in_ok-all.ensures.made.wide };
  rest = row_starts c.truth.new.terms c.in_ok-all.all (λ v. Each (λ a. term_at v c.args.terms.now a ≤ c.args.most) c.args.numbers.now) c.in_ok-all.ensures.made;
}

pub loop-a-preserved : goal.loop-a-preserved
loop-a-preserved c = record {
  kept = keeps_trans c.args.terms.now c.at_most.new.terms c.both.new.terms (keeps_trans c.args.terms.now c.loop-a.terms c.at_most.new.terms c.loop-a.invariant.kept c.at_most.ensures.kept) c.both.ensures.kept;
  all = record { within = c.in_ok-all-2.ensures.made.within; wide = c.in_ok-all-2.ensures.made.wide };
  rest = most_row c.args.terms.now c.loop-a.terms c.at_most.new.terms c.both.new.terms c.args.numbers.now c.loop-a.a-index c.args.most (record { index = 0 }) c.loop-a.all c.in_ok-one.one c.in_ok-all-2.all
      c.requires c.loop-a-test.true c.loop-a.invariant.kept c.at_most.ensures.kept c.loop-a.invariant.all c.loop-a.invariant.rest c.in_ok-one.ensures.made c.in_ok-all-2.ensures.made;
}

pub returns-clause-made : goal.returns-clause-made
returns-clause-made c =
    row_ends c.loop-a.terms c.loop-a.all (λ v. Each (λ a. term_at v c.args.terms.now a ≤ c.args.most) (drop c.loop-a.a-index c.args.numbers.now)) (λ v. Each (λ a. term_at v c.args.terms.now a ≤ c.args.most) c.args.numbers.now) c.loop-a.invariant.all c.loop-a.invariant.rest
    (λ v. each_end (λ a. term_at v c.args.terms.now a ≤ c.args.most) c.args.numbers.now c.loop-a.a-index c.loop-a-test.false)
