use Rattle.std.proofs.Common.{◌≡◌, ◌+◌, sum_by, drop}
use Rattle.pair_costs.proofs.Sizes.{words_of}
use Rattle.pair_costs.proofs.words.words_in.Given as goal

abbrev pub invariant-loop-inst : goal.invariant-loop-inst
invariant-loop-inst l = l.total + sum_by words_of (drop l.inst-index l.insts) ≡ sum_by words_of l.insts
