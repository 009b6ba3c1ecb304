use Rattle.term_rules.proofs.ChoiceRules.{choice_and, choice_or}
use Rattle.term_rules.proofs.choices.choice_of_truths.Goals as goal

pub returns-in-Some-None : goal.returns-in-Some-None
returns-in-Some-None c = choice_or c.args.terms.now c.args.c c.args.a c.args.b c.values_fit.ensures c.requires.c c.requires.a c.requires.b c.requires.bit
    c.requires.first c.requires.second c.in-Some-None.x c.if-x-eq1-2.true c.in-Some-None.ensures.says

pub returns-in-None-Some : goal.returns-in-None-Some
returns-in-None-Some c = choice_and c.args.terms.now c.args.c c.args.a c.args.b c.values_fit.ensures c.requires.c c.requires.a c.requires.b c.requires.bit
    c.requires.first c.in-None-Some.y c.if-y-eq0-2.true c.in-None-Some.ensures.says
