-- One more clause has an entry.
use Rattle.log_tidy.proofs.Common.{◌+◌, ◌∙◌, List, [], ◌∷◌, ◌++◌, arith, subst, sym, take, length-take-le, take_more, Lit, Has, IsIndexed}
use Rattle.log_tidy.proofs.Adding.{indexed-more}
use Rattle.log_tidy.proofs.Listed.{item-at}
use Rattle.log_tidy.proofs.tidying.indexed.Goals as goal

pub add-requires-clause-some : goal.add-requires-clause-some
add-requires-clause-some c e =
    let clauses = c.args.clauses.now in
    let clause = c.index-clauses-place.result in
    c.requires (subst (λ (x : List Lit). Has clauses x) (sym c.index-clauses-place.is ∙ e) (item-at clauses c.loop-place.place clause c.loop-place-test.true))

pub loop-place-preserved : goal.loop-place-preserved
loop-place-preserved c =
    let clauses = c.args.clauses.now in
    let clause = c.index-clauses-place.result in
    let i = c.loop-place.place in
    subst (λ (cs : List (List Lit)). IsIndexed cs c.add.new.self) (sym (take_more clauses i clause c.loop-place-test.true))
    (subst (λ (x : List Lit). IsIndexed (take i clauses ++ x ∷ []) c.add.new.self) c.index-clauses-place.is
    (indexed-more (take i clauses) clause c.loop-place.index c.add.new.self (i + 1) c.loop-place.invariant
    (omega (arith, length-take-le i clauses (omega (arith, c.loop-place-test.true)))) c.in_ok-add.ensures))
