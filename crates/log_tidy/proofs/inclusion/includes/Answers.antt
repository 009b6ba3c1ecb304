-- The literals of a clause are in order.
use Rattle.log_tidy.proofs.Common.{◌∙◌, List, ap, Lit, included}
use Rattle.log_tidy.proofs.Included.{includes-from}
use Rattle.log_tidy.proofs.inclusion.includes.Goals as goal

pub returns-clause-includes : goal.returns-clause-includes
returns-clause-includes c =
    includes-from c.args.whole.now c.args.part.now c.merged.result c.literals.ensures.clause c.literals-2.ensures.clause
    (c.merged.ensures ∙ (ap (λ (ls : List Lit). included ls c.literals.result.now) c.literals-2.ensures.value ∙ ap (λ (ls : List Lit). included c.args.part.now ls) c.literals.ensures.value))
