use Rattle.refine_terms.proofs.Common.{length, keeps_trans, keeps_five}
use Rattle.refine_terms.proofs.MemoryTests.{covered_tests}
use Rattle.refine_terms.proofs.covering.covered.Goals as goal

pub returns-clause-made : goal.returns-clause-made
returns-clause-made c =
    covered_tests (length c.args.source.now.blocks) c.args.terms.now c.return_allowed.new.terms c.either.new.terms c.negation.new.terms c.both.new.terms c.either-2.new.terms c.either-3.new.terms c.args.source.now c.args.target.now
    c.in_ok-returned.returned c.in_ok-ends.ends c.in_ok-is_defined.is_defined c.in_ok-allowed.allowed c.in_ok-is_free.is_free c.in_ok-id.id c.requires.source c.requires.target
    c.return_allowed.ensures.kept c.either.ensures.kept c.negation.ensures.kept c.both.ensures.kept c.either-2.ensures.kept
    c.in_ok-returned.ensures.made c.in_ok-ends.ensures.made c.in_ok-is_defined.ensures.made c.in_ok-allowed.ensures.made c.in_ok-is_free.ensures.made c.in_ok-id.ensures.made

pub returns-clause-kept : goal.returns-clause-kept
returns-clause-kept c =
    keeps_trans c.args.terms.now c.return_allowed.new.terms c.either-3.new.terms c.return_allowed.ensures.kept
    (keeps_five c.return_allowed.new.terms c.either.new.terms c.negation.new.terms c.both.new.terms c.either-2.new.terms c.either-3.new.terms c.either.ensures.kept c.negation.ensures.kept c.both.ensures.kept c.either-2.ensures.kept c.either-3.ensures.kept)
