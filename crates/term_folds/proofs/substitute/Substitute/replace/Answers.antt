-- The one variable has its replacement, and the others have what they had.
use Rattle.std.proofs.Common.{List, sym, subst}
use Rattle.bv_terms.specs.declared.term.TermId.{TermId}
use Rattle.bv_terms.specs.declared.variable.Variable.{Variable}
use Rattle.term_folds.specs.Substitution.{AreReplacements}
use Rattle.term_folds.proofs.Substitutes.{replacements_put}
use Rattle.term_folds.proofs.substitute.Substitute.replace.Goals as goal

pub invariant_of-self : goal.invariant_of-self
invariant_of-self c = subst (λ (es : List (Variable × TermId)). AreReplacements c.self.inside.terms es) (sym c.in_err-insert.ensures.err) c.self.invariant

pub invariant_of-self-2 : goal.invariant_of-self-2
invariant_of-self-2 c =
    replacements_put c.self.inside.terms c.self.inside.replacements.entries c.insert.new.self.entries c.args.variable c.args.by
    (λ y. c.in_ok-insert.ensures.updates.0 y) (record { within = rw (← c.self.view_is) at c.requires.within; wide = rw (← c.self.view_is) at c.requires.wide }) c.self.invariant

pub returns-clause-ok : goal.returns-clause-ok
returns-clause-ok c = rw (← c.self.view_is) (λ y. c.in_ok-insert.ensures.updates.0 y)
