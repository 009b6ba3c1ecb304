use Rattle.std.proofs.Common.{◌-◌, ◌<◌, length, sym, ap, ◌∙◌, arith}
use Rattle.std.proofs.Math.Seq.{drop-length}
use Rattle.std.specs.Option.{option_copied}
use Rattle.lowering.proofs.NameLemmas.{is_at, longest_more, longest_none, no_gap}
use Rattle.lowering.proofs.stack_names.longest.Goals as goal

pub loop-at-init : goal.loop-at-init
loop-at-init c = record {
  within = omega arith;
  longest = rw (c.len-at.ensures, drop-length c.args.names.now) (sym longest_none);
  most = omega arith;
}

pub loop-at-preserved-in-Some : goal.loop-at-preserved-in-Some
loop-at-preserved-in-Some c =
    let below : c.loop-at.at - 1 < length c.args.names.now = omega arith in
    let more = longest_more c.args.names.now (c.loop-at.at - 1) c.loop-at.at c.in-Some.name.now (omega arith) below (is_at c.args.names.now (c.loop-at.at - 1) c.in-Some.name.now (sym c.in-Some.ensures)) in
    record {
      within = omega arith;
      longest = omega (arith, more);
      most = omega arith;
    }

pub loop-at-preserved : goal.loop-at-preserved
loop-at-preserved c = absurd (no_gap c.args.names.now (c.loop-at.at - 1) (omega arith) (sym c.get.ensures ∙ ap option_copied c.in_default.is))
