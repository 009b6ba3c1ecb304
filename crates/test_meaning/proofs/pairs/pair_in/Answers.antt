use Rattle.std.proofs.Common.{arith, get_or, sym, subst}
use Rattle.std.specs.List.{AllByRecursion}
use Rattle.ir_reader.specs.Judgeable.{IsJudgeable, IsJudgeableEntry}
use Rattle.test_meaning.proofs.Entries.{all_at}
use Rattle.test_meaning.proofs.pairs.pair_in.Goals as goal

pub returns-clause-source : goal.returns-clause-source
returns-clause-source c =
    let all : AllByRecursion IsJudgeableEntry c.as_slice-entries.result.now = subst (AllByRecursion IsJudgeableEntry) (sym c.as_slice-entries.ensures) c.requires in
    let e : IsJudgeableEntry (get_or c.as_slice-entries.result.now 0 c.index-entries-0.result) = all_at IsJudgeableEntry c.as_slice-entries.result.now 0 c.index-entries-0.result all (omega (arith, c.if-entries-ne2.false)) in
    subst IsJudgeable (sym c.new.ensures.source) (e c.in-Ok-Ok.source c.in-Ok-Ok.is-0)

pub returns-clause-target : goal.returns-clause-target
returns-clause-target c =
    let all : AllByRecursion IsJudgeableEntry c.as_slice-entries.result.now = subst (AllByRecursion IsJudgeableEntry) (sym c.as_slice-entries.ensures) c.requires in
    let e : IsJudgeableEntry (get_or c.as_slice-entries.result.now 1 c.index-entries-1.result) = all_at IsJudgeableEntry c.as_slice-entries.result.now 1 c.index-entries-1.result all (omega (arith, c.if-entries-ne2.false)) in
    subst IsJudgeable (sym c.new.ensures.target) (e c.in-Ok-Ok.target c.in-Ok-Ok.is-1)
