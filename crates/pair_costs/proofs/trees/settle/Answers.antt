use Rattle.std.proofs.Common.{◌<◌, length, length-set, ◌∙◌, arith}
use Rattle.pair_costs.proofs.PathLemmas.{entry_is, kept-set, known-most, known-right, known-set, taken-now, walk-goes, walk-settles}
use Rattle.pair_costs.proofs.TreeOperations.{carried-below}
use Rattle.pair_costs.proofs.trees.settle.Goals as goal

pub index-requires : goal.index-requires
index-requires c =
    let inside = carried-below c.args.plan.now c.requires.plan c.args.root c.requires.carries in
    omega (arith, inside, c.requires.long, c.loop-path.invariant.long)

pub loop-path-smaller-in-Continue-branch-2 : goal.loop-path-smaller-in-Continue-branch-2
loop-path-smaller-in-Continue-branch-2 c =
    let f = c.args.plan.now.f.now in
    let costs = c.loop-path.costs.items in
    let inside = carried-below c.args.plan.now c.requires.plan c.args.root c.requires.carries in
    let took = taken-now f costs c.loop-path.path.items c.pop.new.self.items c.args.root c.unwrap_or-name.result c.index.result.now c.pop.result c.requires.carries (omega (arith, inside, c.requires.long, c.loop-path.invariant.long)) c.index.ensures c.loop-path-test.true
    c.pop.ensures.items (λ some. c.pop.ensures.variant.1 (omega (arith, some))) c.unwrap_or-name.ensures c.loop-path.invariant.path in
    let steps = walk-goes f costs c.deref.result.now c.loop-path.path.items c.pop.new.self.items c.push.new.self.items c.push-in-Some.new.self.items c.args.root c.unwrap_or-name.result c.in-Some.operand c.operation-operation.result c.unknown_in.result c.requires.plan.few took
    c.operation-operation.ensures c.deref.ensures.value c.unknown_in.ensures c.in-Some.is c.in_ok-push-in-Some.ensures.items c.in_ok-push-in-Some-2.ensures.items in
    steps.1

pub loop-path-preserved-in-Continue-branch-2 : goal.loop-path-preserved-in-Continue-branch-2
loop-path-preserved-in-Continue-branch-2 c =
    let f = c.args.plan.now.f.now in
    let costs = c.loop-path.costs.items in
    let inside = carried-below c.args.plan.now c.requires.plan c.args.root c.requires.carries in
    let took = taken-now f costs c.loop-path.path.items c.pop.new.self.items c.args.root c.unwrap_or-name.result c.index.result.now c.pop.result c.requires.carries (omega (arith, inside, c.requires.long, c.loop-path.invariant.long)) c.index.ensures c.loop-path-test.true
    c.pop.ensures.items (λ some. c.pop.ensures.variant.1 (omega (arith, some))) c.unwrap_or-name.ensures c.loop-path.invariant.path in
    let steps = walk-goes f costs c.deref.result.now c.loop-path.path.items c.pop.new.self.items c.push.new.self.items c.push-in-Some.new.self.items c.args.root c.unwrap_or-name.result c.in-Some.operand c.operation-operation.result c.unknown_in.result c.requires.plan.few took
    c.operation-operation.ensures c.deref.ensures.value c.unknown_in.ensures c.in-Some.is c.in_ok-push-in-Some.ensures.items c.in_ok-push-in-Some-2.ensures.items in
    record { long = c.loop-path.invariant.long; known = c.loop-path.invariant.known; kept = c.loop-path.invariant.kept; path = steps.0 }

pub made_in-requires : goal.made_in-requires
made_in-requires c = rw c.deref-in-None.ensures.value (known-most c.args.plan.now.f.now c.requires.plan.few c.requires.limits c.loop-path.costs.items c.loop-path.invariant.known)

pub index_mut-requires : goal.index_mut-requires
index_mut-requires c =
    let f = c.args.plan.now.f.now in
    let costs = c.loop-path.costs.items in
    let inside = carried-below c.args.plan.now c.requires.plan c.args.root c.requires.carries in
    let took = taken-now f costs c.loop-path.path.items c.pop.new.self.items c.args.root c.unwrap_or-name.result c.index.result.now c.pop.result c.requires.carries (omega (arith, inside, c.requires.long, c.loop-path.invariant.long)) c.index.ensures c.loop-path-test.true
    c.pop.ensures.items (λ some. c.pop.ensures.variant.1 (omega (arith, some))) c.unwrap_or-name.ensures c.loop-path.invariant.path in
    let own = carried-below c.args.plan.now c.requires.plan c.unwrap_or-name.result took.own.carried in
    omega (arith, own, c.requires.long, c.loop-path.invariant.long)

pub loop-path-smaller : goal.loop-path-smaller
loop-path-smaller c =
    let f = c.args.plan.now.f.now in
    let costs = c.loop-path.costs.items in
    let inside = carried-below c.args.plan.now c.requires.plan c.args.root c.requires.carries in
    let took = taken-now f costs c.loop-path.path.items c.pop.new.self.items c.args.root c.unwrap_or-name.result c.index.result.now c.pop.result c.requires.carries (omega (arith, inside, c.requires.long, c.loop-path.invariant.long)) c.index.ensures c.loop-path-test.true
    c.pop.ensures.items (λ some. c.pop.ensures.variant.1 (omega (arith, some))) c.unwrap_or-name.ensures c.loop-path.invariant.path in
    let own = carried-below c.args.plan.now c.requires.plan c.unwrap_or-name.result took.own.carried in
    let below : c.unwrap_or-name.result < length costs = omega (arith, own, c.requires.long, c.loop-path.invariant.long) in
    let written = walk-settles f costs c.deref.result.now c.deref-in-None.result.now c.loop-path.path.items c.pop.new.self.items c.args.root c.unwrap_or-name.result c.made_in.result c.operation-operation.result c.unknown_in.result c.requires.plan.few c.loop-path.invariant.known took
    c.operation-operation.ensures below c.deref.ensures.value c.unknown_in.ensures c.in-None.is c.deref-in-None.ensures.value c.made_in.ensures in
    written.less

pub loop-path-preserved : goal.loop-path-preserved
loop-path-preserved c =
    let f = c.args.plan.now.f.now in
    let costs = c.loop-path.costs.items in
    let inside = carried-below c.args.plan.now c.requires.plan c.args.root c.requires.carries in
    let took = taken-now f costs c.loop-path.path.items c.pop.new.self.items c.args.root c.unwrap_or-name.result c.index.result.now c.pop.result c.requires.carries (omega (arith, inside, c.requires.long, c.loop-path.invariant.long)) c.index.ensures c.loop-path-test.true
    c.pop.ensures.items (λ some. c.pop.ensures.variant.1 (omega (arith, some))) c.unwrap_or-name.ensures c.loop-path.invariant.path in
    let own = carried-below c.args.plan.now c.requires.plan c.unwrap_or-name.result took.own.carried in
    let below : c.unwrap_or-name.result < length costs = omega (arith, own, c.requires.long, c.loop-path.invariant.long) in
    let written = walk-settles f costs c.deref.result.now c.deref-in-None.result.now c.loop-path.path.items c.pop.new.self.items c.args.root c.unwrap_or-name.result c.made_in.result c.operation-operation.result c.unknown_in.result c.requires.plan.few c.loop-path.invariant.known took
    c.operation-operation.ensures below c.deref.ensures.value c.unknown_in.ensures c.in-None.is c.deref-in-None.ensures.value c.made_in.ensures in
    record {
      long = length-set costs c.unwrap_or-name.result c.made_in.result ∙ c.loop-path.invariant.long;
      known = known-set f costs c.unwrap_or-name.result c.made_in.result below written.right c.loop-path.invariant.known;
      kept = λ o before. kept-set f costs c.unwrap_or-name.result c.made_in.result below written.right o (c.loop-path.invariant.kept o before);
      path = written.left;
    }

pub returns : goal.returns
returns c =
    let inside = carried-below c.args.plan.now c.requires.plan c.args.root c.requires.carries in
    let read = entry_is c.loop-path.costs.items c.args.root c.index.result.now (omega (arith, inside, c.requires.long, c.loop-path.invariant.long)) c.index.ensures in
    record {
      long = c.loop-path.invariant.long;
      known = c.loop-path.invariant.known;
      kept = c.loop-path.invariant.kept;
      own = known-right c.args.plan.now.f.now c.loop-path.costs.items c.args.root c.index.result.now c.loop-path.invariant.known read c.loop-path-test.false;
    }
