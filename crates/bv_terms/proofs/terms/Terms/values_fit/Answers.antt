use Rattle.bv_terms.proofs.Below.{below_terms}
use Rattle.bv_terms.proofs.terms.Terms.values_fit.Goals as goal

pub returns : goal.returns
returns c = below_terms c.args.self.now c.as_slice.ensures.fit
