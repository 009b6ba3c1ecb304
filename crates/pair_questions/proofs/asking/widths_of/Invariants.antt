use Rattle.pair_questions.proofs.Common.{◌≡◌, map, take, TermId, width_of, tree_in}
use Rattle.pair_questions.proofs.asking.widths_of.Given as goal

abbrev pub invariant-loop-id : goal.invariant-loop-id
invariant-loop-id l = l.widths.items ≡ map (λ (id : TermId). width_of (tree_in l.terms id)) (take l.id-index l.ids)
