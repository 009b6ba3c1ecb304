use Rattle.ir_items.proofs.Common.{Option, subst, Edges, AreEdges}
use Rattle.ir_items.proofs.Joined.{edges-join}
use Rattle.ir_items.proofs.edges.joined_edges.Goals as goal

pub returns-in-Some-Some : goal.returns-in-Some-Some
returns-in-Some-Some c ours theirs front back =
    edges-join ours theirs c.in-Some-Some.front c.in-Some-Some.back (subst (λ (o : Option Edges). AreEdges ours o) c.in-Some-Some.is-0 front) (subst (λ (o : Option Edges). AreEdges theirs o) c.in-Some-Some.is-1 back)
