use Rattle.unroll.proofs.Copies.{copies_are}
use Rattle.unroll.proofs.Forward.{copies_lead}
use Rattle.unroll.proofs.Walking.{layers_have_runs}
use Rattle.unroll.proofs.copying.layers.Goals as goal

pub returns-clause-forward : goal.returns-clause-forward
returns-clause-forward c =
    copies_lead c.args.f.now c.args.turns c.from_vec.result
    (copies_are c.args.f.now c.args.turns c.as_slice.result.now c.in_ok-graph.graph c.in_ok-copies.copies.items c.from_vec.result c.in_ok-graph.ensures c.as_slice.ensures c.in_ok-copies.ensures c.from_vec.ensures)

pub returns-clause-runs : goal.returns-clause-runs
returns-clause-runs c =
    layers_have_runs c.args.f.now (record { turns = c.args.turns; copies = c.from_vec.result }) c.args.turns
    (copies_are c.args.f.now c.args.turns c.as_slice.result.now c.in_ok-graph.graph c.in_ok-copies.copies.items c.from_vec.result c.in_ok-graph.ensures c.as_slice.ensures c.in_ok-copies.ensures c.from_vec.ensures)
