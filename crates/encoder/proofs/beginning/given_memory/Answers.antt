use Rattle.encoder.proofs.Common.{Each, IsBlockTerms, IsByteTerms, each-weaker}
use Rattle.encoder.proofs.beginning.given_memory.Goals as goal

pub given_blocks-requires-clause-places : goal.given_blocks-requires-clause-places
given_blocks-requires-clause-places c = each-weaker (IsBlockTerms c.args.layout.now.bytes c.args.terms.now) (Each (IsByteTerms c.args.terms.now)) c.args.input.now.places (λ bytes h. h.are) c.requires.places

pub returns-clause-given : goal.returns-clause-given
returns-clause-given c = c.in_ok-blocks.ensures.given c.args.layout.now c.requires.size_count c.requires.places
