-- After the sort each number is at least the one before it, and no two are the same.
use Rattle.clause_log.proofs.Common.{eqb, subst, sym, IsStrictlyIncreasing, IsStrictlyIncreasing-dedup}
use Rattle.std.proofs.lemmas.List.Filters.{dedup_is}
use Rattle.clause_log.proofs.places.Variables.sorted.Goals as goal

pub invariant_of-result : goal.invariant_of-result
invariant_of-result c = record {
  rising =
      let left = dedup_is eqb c.sort_unstable.new.self.items c.dedup.new.self.items c.dedup.ensures.filtered in
      subst IsStrictlyIncreasing (sym left) (IsStrictlyIncreasing-dedup c.sort_unstable.new.self.items c.sort_unstable.ensures.sorted);
}
