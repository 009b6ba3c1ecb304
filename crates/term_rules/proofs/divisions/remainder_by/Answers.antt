use Rattle.term_rules.proofs.Common.{refl}
use Rattle.term_rules.proofs.DivisionRules.{remainder_of_less}
use Rattle.term_rules.proofs.divisions.remainder_by.Goals as goal

pub returns-then-is_below_number : goal.returns-then-is_below_number
returns-then-is_below_number c = remainder_of_less c.args.terms.now c.args.a c.args.b c.requires.a (λ v _. c.if-is_below_number.ensures refl v)
