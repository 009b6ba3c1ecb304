use Rattle.std.proofs.Common.{take}
use Rattle.std.specs.List.{AllZip}
use Rattle.pair_driver.proofs.pairs.judge_all.Given as goal

-- the answers so far are on the first pairs
abbrev pub invariant-loop-pair : goal.invariant-loop-pair
invariant-loop-pair g l = AllZip (g.J.Judge.allows l.judge) (take l.pair-index l.pairs) l.answers.items
