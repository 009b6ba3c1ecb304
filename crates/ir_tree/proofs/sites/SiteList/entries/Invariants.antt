use Rattle.ir_tree.proofs.Common.{◌≡◌, drop, flat_map, entry_sites, with_part}
use Rattle.ir_tree.proofs.sites.SiteList.entries.Given as goal

abbrev pub invariant-loop-entry : goal.invariant-loop-entry
invariant-loop-entry l = with_part l.self l.part (flat_map (entry_sites l.of_type) (drop l.entry-index l.entries)) ≡ with_part l.fn.self l.part (flat_map (entry_sites l.of_type) l.entries)
