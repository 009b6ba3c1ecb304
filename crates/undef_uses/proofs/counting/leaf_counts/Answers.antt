use Rattle.std.proofs.Common.{subst}
use Rattle.std.specs.Prelude.{List}
use Rattle.std.proofs.lemmas.Result.{IfOk-weaker}
use Rattle.undef_uses.specs.declared.carried.Carried.{Carried}
use Rattle.undef_uses.specs.Counts.{AreLeast}
use Rattle.undef_uses.proofs.CountLemmas.{counts_are}
use Rattle.undef_uses.proofs.counting.leaf_counts.Goals as goal

pub returns : goal.returns
returns c =
    IfOk-weaker c.least_counts.result _ _ (λ counts least. counts_are c.args.f.now c.in_ok-table.table.items counts.items c.requires c.in_ok-table.ensures.len c.in_ok-table.ensures.carried
    (subst (λ (table : List Carried). AreLeast table counts.items) c.deref.ensures.value least)) c.least_counts.ensures
