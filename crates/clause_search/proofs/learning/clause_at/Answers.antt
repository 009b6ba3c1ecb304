-- The sorted literals are the clause.
use Rattle.clause_search.proofs.Common.{◌∙◌, List, rules, subst, sym, IsNonDecreasingBy-from_sort_by_key, Lit, IsClause}
use Rattle.clause_search.proofs.Ordering.{put-in-order}
use Rattle.clause_search.proofs.learning.clause_at.Goals as goal

pub new-requires : goal.new-requires
new-requires c =
    let sorted = IsNonDecreasingBy-from_sort_by_key (λ (l : Lit). l.variable) _ c.sort_unstable_by_key.ensures.sorted (λ a r q k. search rules) in
    let ordered = put-in-order c.args.trail.now c.args.literal c.args.places.now c.requires.0 c.requires.1 c.in_ok-literals.literals.items c.as_mut_slice.result.now
    c.sort_unstable_by_key.new.self c.in_ok-literals.ensures c.as_mut_slice.ensures.value c.sort_unstable_by_key.ensures.len c.sort_unstable_by_key.ensures.permutation sorted in
    subst (λ (ls : List Lit). IsClause ls) (sym ordered) c.requires.1.clause

pub returns : goal.returns
returns c d spread =
    let sorted = IsNonDecreasingBy-from_sort_by_key (λ (l : Lit). l.variable) _ c.sort_unstable_by_key.ensures.sorted (λ a r q k. search rules) in
    c.new.ensures ∙ put-in-order c.args.trail.now c.args.literal c.args.places.now d spread c.in_ok-literals.literals.items c.as_mut_slice.result.now
    c.sort_unstable_by_key.new.self c.in_ok-literals.ensures c.as_mut_slice.ensures.value c.sort_unstable_by_key.ensures.len c.sort_unstable_by_key.ensures.permutation sorted
