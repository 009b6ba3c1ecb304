use Rattle.run_terms.proofs.Common.{◌≡◌, ◌∙◌, ap, sym, subst, List, [], Option, Some, None, IfSome, set-set, keeps_self, RunState, IsState, shape_of, visit_of, AreStates, MatchesAhead, MatchesEntry}
use Rattle.std.specs.Prelude.{slice_set}
use Rattle.run_terms.proofs.Lasting.{each-get}
use Rattle.run_terms.proofs.Reached.{set_entries, changed_ahead, changed_reached, passes_first, passes_joined, joined_alive}
use Rattle.run_terms.proofs.frontier.reach.Goals as goal

pub returns-in_ok-entry-in-Some-clause-ahead : goal.returns-in_ok-entry-in-Some-clause-ahead
returns-in_ok-entry-in-Some-clause-ahead c =
    let is : c.set.new.self ≡ slice_set c.args.ahead.now c.args.n (Some c.in_ok-entry-in-Some.entry) =
    c.set.ensures ∙ (ap (λ (xs : List (Option RunState)). slice_set xs c.args.n (Some c.in_ok-entry-in-Some.entry)) c.take_entry.ensures.rest ∙ set-set c.args.ahead.now c.args.n None (Some c.in_ok-entry-in-Some.entry)) in
    subst (λ (xs : List (Option RunState)). AreStates c.join.new.terms xs) (sym is)
    (set_entries c.args.terms.now c.join.new.terms c.join.ensures.kept c.args.ahead.now c.requires.ahead (record { v = λ a b. 0; tape = []; given = 0 }) c.args.n (Some c.in_ok-entry-in-Some.entry) c.in_ok-entry-in-Some.ensures.made)

pub returns-in_ok-entry-in-Some-clause-stays : goal.returns-in_ok-entry-in-Some-clause-stays
returns-in_ok-entry-in-Some-clause-stays c = λ g at none s.
    let is : c.set.new.self ≡ slice_set c.args.ahead.now c.args.n (Some c.in_ok-entry-in-Some.entry) =
    c.set.ensures ∙ (ap (λ (xs : List (Option RunState)). slice_set xs c.args.n (Some c.in_ok-entry-in-Some.entry)) c.take_entry.ensures.rest ∙ set-set c.args.ahead.now c.args.n None (Some c.in_ok-entry-in-Some.entry)) in
    subst (λ (xs : List (Option RunState)). MatchesAhead g c.join.new.terms xs at) (sym is)
    (changed_ahead c.args.terms.now c.join.new.terms c.join.ensures.kept c.args.ahead.now c.requires.ahead g c.args.n (Some c.in-Some.known) (Some c.in_ok-entry-in-Some.entry) at c.requires.n (c.take_entry.ensures.value ∙ ap Some c.in-Some.is)
    (passes_joined c.args.terms.now c.join.new.terms g c.args.edge c.in-Some.known c.in_ok-entry-in-Some.entry c.in_ok-entry-in-Some.ensures.alive none (λ visit m there h. c.in_ok-entry-in-Some.ensures.stays g visit m none there h)) s)

pub returns-in_ok-entry-in-Some-clause-goes : goal.returns-in_ok-entry-in-Some-clause-goes
returns-in_ok-entry-in-Some-clause-goes c = λ g m held h s.
    let is : c.set.new.self ≡ slice_set c.args.ahead.now c.args.n (Some c.in_ok-entry-in-Some.entry) =
    c.set.ensures ∙ (ap (λ (xs : List (Option RunState)). slice_set xs c.args.n (Some c.in_ok-entry-in-Some.entry)) c.take_entry.ensures.rest ∙ set-set c.args.ahead.now c.args.n None (Some c.in_ok-entry-in-Some.entry)) in
    subst (λ (xs : List (Option RunState)). MatchesEntry g c.join.new.terms xs c.args.n m) (sym is)
    (changed_reached c.args.terms.now c.join.new.terms c.join.ensures.kept c.args.ahead.now c.requires.ahead g c.args.n c.in_ok-entry-in-Some.entry m c.requires.n
    (joined_alive c.args.terms.now c.join.new.terms g c.args.edge c.in-Some.known c.in_ok-entry-in-Some.entry c.in_ok-entry-in-Some.ensures.alive held) (c.in_ok-entry-in-Some.ensures.goes g (visit_of m) m held h) s)

pub returns-in-None-clause-stays : goal.returns-in-None-clause-stays
returns-in-None-clause-stays c = λ g at none s.
    let is : c.set-in-None.new.self ≡ slice_set c.args.ahead.now c.args.n (Some c.args.edge) =
    c.set-in-None.ensures ∙ (ap (λ (xs : List (Option RunState)). slice_set xs c.args.n (Some c.args.edge)) c.take_entry.ensures.rest ∙ set-set c.args.ahead.now c.args.n None (Some c.args.edge)) in
    subst (λ (xs : List (Option RunState)). MatchesAhead g c.args.terms.now xs at) (sym is)
    (changed_ahead c.args.terms.now c.args.terms.now (keeps_self c.args.terms.now) c.args.ahead.now c.requires.ahead g c.args.n None (Some c.args.edge) at c.requires.n (c.take_entry.ensures.value ∙ ap Some c.in-None.is)
    (passes_first c.args.terms.now g c.args.edge none) s)

pub returns-in-None-clause-goes : goal.returns-in-None-clause-goes
returns-in-None-clause-goes c = λ g m held h s.
    let is : c.set-in-None.new.self ≡ slice_set c.args.ahead.now c.args.n (Some c.args.edge) =
    c.set-in-None.ensures ∙ (ap (λ (xs : List (Option RunState)). slice_set xs c.args.n (Some c.args.edge)) c.take_entry.ensures.rest ∙ set-set c.args.ahead.now c.args.n None (Some c.args.edge)) in
    subst (λ (xs : List (Option RunState)). MatchesEntry g c.args.terms.now xs c.args.n m) (sym is)
    (changed_reached c.args.terms.now c.args.terms.now (keeps_self c.args.terms.now) c.args.ahead.now c.requires.ahead g c.args.n c.args.edge m c.requires.n held h s)

pub join-requires-clause-into : goal.join-requires-clause-into
join-requires-clause-into c = each-get (λ (o : Option RunState). IfSome o (IsState c.args.terms.now)) c.args.ahead.now c.args.n (Some c.in-Some.known) c.requires.ahead (c.take_entry.ensures.value ∙ ap Some c.in-Some.is)

pub join-requires-clause-shape : goal.join-requires-clause-shape
join-requires-clause-shape c = each-get (λ (o : Option RunState). IfSome o (λ (s : RunState). shape_of s ≡ shape_of c.args.edge)) c.args.ahead.now c.args.n (Some c.in-Some.known) c.requires.shapes (c.take_entry.ensures.value ∙ ap Some c.in-Some.is)
