use Rattle.std.proofs.Common.{◌≡◌, ◌≤◌, length, drop}
use Rattle.undef_uses.specs.Counts.{AreCarried}
use Rattle.undef_uses.proofs.TableLemmas.{insts_in}
use Rattle.undef_uses.proofs.carried.carried_of.Given as goal

abbrev pub invariant-loop-place : goal.invariant-loop-place
invariant-loop-place l = record {
  blocks : l.blocks ≡ l.f.blocks;
  within : l.place ≤ length l.f.blocks;
  long : length l.table.items ≡ length l.f.names;
  carried : AreCarried (insts_in (drop l.place l.f.blocks)) l.table.items;
}
