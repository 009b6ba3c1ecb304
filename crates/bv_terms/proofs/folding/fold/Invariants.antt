-- The answers so far denote the trees so far, and what is left takes these to the trees of all.
use Rattle.std.proofs.Common.{List}
use Rattle.std.specs.List.{AllZip}
use Rattle.bv_terms.specs.Tree.{Tree}
use Rattle.bv_terms.specs.Trees.{trees_of}
use Rattle.bv_terms.proofs.Zips.{IsStage}
use Rattle.bv_terms.proofs.folding.fold.Given as goal

abbrev pub invariant-loop-term : goal.invariant-loop-term
invariant-loop-term g l =
    (trees : List Tree)
    × IsStage l.term-items (trees_of l.terms) trees l.term-index
    × AllZip (g.F.TermFold.stands l.folder) trees l.outs.items
    × g.F.TermFold.follows l.initial.folder l.folder
