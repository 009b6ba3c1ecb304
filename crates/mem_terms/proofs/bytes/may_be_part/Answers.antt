use Rattle.mem_terms.proofs.SymBytes.{never_one}
use Rattle.mem_terms.proofs.bytes.may_be_part.Goals as goal

pub returns : goal.returns
returns c = λ no v. never_one c.args.terms.now c.args.b.is_part c.values_fit.ensures c.requires.is_part v (c.may_be.ensures no v)
