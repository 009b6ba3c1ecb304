-- The answers so far are right, so the same operation over them is; what replaces a variable denotes it.
use Rattle.std.proofs.Common.{◌∙◌, sym}
use Rattle.term_folds.proofs.Substitutes.{follows_keeps, over-matched, over-within, replacement_stands, replacements_later, stored_stands}
use Rattle.term_folds.proofs.substitute.SubstituteTermFold.node.Goals as goal

pub store-requires-clause-within : goal.store-requires-clause-within
store-requires-clause-within c =
    rw c.over.ensures (over-within (record { terms = c.self.inside.terms; replacements = c.self.inside.replacements.entries }) c.requires.stood.0 c.args.done.now (rw (← c.self.view_is) at c.requires.stood.1) c.args.term.now c.requires.stood.2)

pub store-requires-clause-matched : goal.store-requires-clause-matched
store-requires-clause-matched c =
    rw c.over.ensures (over-matched (record { terms = c.self.inside.terms; replacements = c.self.inside.replacements.entries }) c.requires.stood.0 c.args.done.now (rw (← c.self.view_is) at c.requires.stood.1) c.args.term.now c.requires.stood.2)

pub invariant_of-self : goal.invariant_of-self
invariant_of-self c = replacements_later c.self.inside.terms c.store.new.self c.self.inside.replacements.entries c.store.ensures.kept c.self.invariant

pub invariant_of-self-in-None : goal.invariant_of-self-in-None
invariant_of-self-in-None c = replacements_later c.self.inside.terms c.store.new.self c.self.inside.replacements.entries c.store.ensures.kept c.self.invariant

pub returns-in_err-id-in-None-clause-follows : goal.returns-in_err-id-in-None-clause-follows
returns-in_err-id-in-None-clause-follows c =
    rw (← c.self.view_is) (follows_keeps c.self.inside.terms c.store.new.self c.self.inside.replacements.entries c.store.ensures.kept c.self.invariant)

pub returns-in_ok-id-in-None-clause-follows : goal.returns-in_ok-id-in-None-clause-follows
returns-in_ok-id-in-None-clause-follows c =
    rw (← c.self.view_is) (follows_keeps c.self.inside.terms c.store.new.self c.self.inside.replacements.entries c.store.ensures.kept c.self.invariant)

pub returns-in-Some-clause-stands : goal.returns-in-Some-clause-stands
returns-in-Some-clause-stands c = λ trees stood fit.
    rw (← c.self.view_is) (replacement_stands (record { terms = c.self.inside.terms; replacements = c.self.inside.replacements.entries }) trees c.args.done.now (rw (← c.self.view_is) at stood)
    c.args.term.now c.in-Some.by (sym c.replacement.ensures ∙ c.in-Some.is) c.self.invariant c.values_fit.ensures)

pub returns-in_ok-id-in-None-clause-stands : goal.returns-in_ok-id-in-None-clause-stands
returns-in_ok-id-in-None-clause-stands c = λ trees stood fit.
    stored_stands (record { terms = c.self.inside.terms; replacements = c.self.inside.replacements.entries }) trees c.args.done.now (rw (← c.self.view_is) at stood)
    (record { terms = c.store.new.self; replacements = c.self.inside.replacements.entries }) c.args.term.now c.in_ok-id-in-None.id (sym c.replacement.ensures ∙ c.in-None.is) fit
    (follows_keeps c.self.inside.terms c.store.new.self c.self.inside.replacements.entries c.store.ensures.kept c.self.invariant)
    (rw c.over.ensures at c.in_ok-id-in-None.ensures.made)
