use Rattle.std.proofs.Common.{List, [], sym, subst}
use Rattle.std.proofs.lemmas.List.Elements.{All-from_recursion}
use Rattle.std.specs.List.{AllZip}
use Rattle.pair_driver.specs.declared.judged.Judged.{Judged}
use Rattle.pair_driver.proofs.Zips.{AllZip-next, AllZip-whole}
use Rattle.pair_driver.proofs.pairs.judge_all.Goals as goal

pub loop-pair-init : goal.loop-pair-init
loop-pair-init g c = subst (λ (answers : List Judged). AllZip (g.J.Judge.allows c.args.judge.now) [] answers) (sym c.new-answers.ensures.items) tt

pub judge-requires : goal.judge-requires
judge-requires g c =
    let takes = g.J.Judge.takes c.args.judge.now in
    let taken : takes c.pair-item.result = subst takes (sym c.pair-item.is) (All-from_recursion takes c.args.pairs.now c.requires.taken c.loop-pair.pair-index c.pair-item.result c.loop-pair-test.true) in
    search taken

pub loop-pair-preserved : goal.loop-pair-preserved
loop-pair-preserved g c =
    AllZip-next (g.J.Judge.allows c.args.judge.now) c.args.pairs.now c.loop-pair.pair-index c.pair-item.result _ c.loop-pair.answers.items _ c.loop-pair-test.true c.pair-item.is c.in_ok-push.ensures.items
    c.loop-pair.invariant c.in_ok-judge.ensures

pub returns : goal.returns
returns g c = AllZip-whole (g.J.Judge.allows c.args.judge.now) c.args.pairs.now c.loop-pair.pair-index c.loop-pair.answers.items c.loop-pair-test.false c.loop-pair.invariant
