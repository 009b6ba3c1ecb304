use Rattle.std.proofs.Common.{sym, ap, ◌∙◌, arith}
use Rattle.std.specs.Option.{option_copied}
use Rattle.lowering.proofs.NameLemmas.{copied_more, no_gap}
use Rattle.lowering.proofs.stack_names.copy_names.Goals as goal
use Rattle.lowering.proofs.stack_names.copy_names.Goals.{in-Some+in_ok-copy_name+in_ok-push_name, in_default}

pub loop-at-preserved : goal.loop-at-preserved
loop-at-preserved c = elim c.match-get.branch [
  | in-Some+in_ok-copy_name+in_ok-push_name w ↦ w.copy-is ∙ copied_more c.args.names.now c.loop-at.copy w.push_name.new.names c.loop-at.at w.in_ok-copy_name.field-0 w.in-Some.name.now (omega arith) w.in-Some.ensures w.in_ok-copy_name.ensures c.loop-at.invariant w.in_ok-push_name.ensures
  | in_default w ↦ absurd (no_gap c.args.names.now c.loop-at.at (omega arith) (sym c.get.ensures ∙ ap option_copied w.in_default.is))
]
