use Rattle.refine_terms.proofs.Common.{◌∙◌, sym}
use Rattle.refine_terms.proofs.MemoryTests.{byte_is_same, terms_same}
use Rattle.refine_terms.proofs.covering.byte_allowed.Goals as goal

pub returns-in_ok-id-clause-made : goal.returns-in_ok-id-clause-made
returns-in_ok-id-clause-made c = byte_is_same c.args.given c.args.terms.now c.truth.new.terms c.args.source c.args.target c.in_ok-id.id (terms_same c.args.source c.args.target (sym c.eq.ensures ∙ c.if-eq.true)) c.in_ok-id.ensures.made

pub returns-in_ok-id-2-clause-made : goal.returns-in_ok-id-2-clause-made
returns-in_ok-id-2-clause-made c = c.in_ok-id-2.ensures.made c.args.given
