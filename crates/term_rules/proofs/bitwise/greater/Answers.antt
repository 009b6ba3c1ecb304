use Rattle.term_rules.proofs.Common.{◌∙◌, refl, or_comm, term_at}
use Rattle.term_rules.proofs.BitRules.{or_is_first, or_is_second}
use Rattle.term_rules.proofs.bitwise.greater.Goals as goal

pub returns-then-is_in_or : goal.returns-then-is_in_or
returns-then-is_in_or c = or_is_first c.args.terms.now c.args.a c.args.b c.requires.a c.requires.b c.requires.alike (c.if-is_in_or.ensures.or refl)

pub returns-then-is_in_or-2 : goal.returns-then-is_in_or-2
returns-then-is_in_or-2 c = or_is_second c.args.terms.now c.args.a c.args.b c.requires.a c.requires.b c.requires.alike
    (λ v. or_comm (term_at v c.args.terms.now c.args.a) (term_at v c.args.terms.now c.args.b) ∙ c.if-is_in_or-2.ensures.or refl v)

pub returns-then-is_in_and : goal.returns-then-is_in_and
returns-then-is_in_and c = or_is_second c.args.terms.now c.args.a c.args.b c.requires.a c.requires.b c.requires.alike (c.if-is_in_and.ensures.or refl)

pub returns-then-is_in_and-2 : goal.returns-then-is_in_and-2
returns-then-is_in_and-2 c = or_is_first c.args.terms.now c.args.a c.args.b c.requires.a c.requires.b c.requires.alike
    (λ v. or_comm (term_at v c.args.terms.now c.args.a) (term_at v c.args.terms.now c.args.b) ∙ c.if-is_in_and-2.ensures.or refl v)
