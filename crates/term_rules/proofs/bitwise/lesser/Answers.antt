use Rattle.term_rules.proofs.Common.{◌∙◌, refl, and_comm, term_at}
use Rattle.term_rules.proofs.BitRules.{and_is_first, and_is_second}
use Rattle.term_rules.proofs.bitwise.lesser.Goals as goal

pub returns-then-is_in_and : goal.returns-then-is_in_and
returns-then-is_in_and c = and_is_first c.args.terms.now c.args.a c.args.b c.requires.a c.requires.b c.requires.alike (c.if-is_in_and.ensures.and refl)

pub returns-then-is_in_and-2 : goal.returns-then-is_in_and-2
returns-then-is_in_and-2 c = and_is_second c.args.terms.now c.args.a c.args.b c.requires.a c.requires.b c.requires.alike
    (λ v. and_comm (term_at v c.args.terms.now c.args.a) (term_at v c.args.terms.now c.args.b) ∙ c.if-is_in_and-2.ensures.and refl v)

pub returns-then-is_in_or : goal.returns-then-is_in_or
returns-then-is_in_or c = and_is_second c.args.terms.now c.args.a c.args.b c.requires.a c.requires.b c.requires.alike (c.if-is_in_or.ensures.and refl)

pub returns-then-is_in_or-2 : goal.returns-then-is_in_or-2
returns-then-is_in_or-2 c = and_is_first c.args.terms.now c.args.a c.args.b c.requires.a c.requires.b c.requires.alike
    (λ v. and_comm (term_at v c.args.terms.now c.args.a) (term_at v c.args.terms.now c.args.b) ∙ c.if-is_in_or-2.ensures.and refl v)
