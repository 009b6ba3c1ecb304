use Rattle.points.proofs.Common.{length, ap, sym, ◌∙◌}
use Rattle.points.proofs.Args.{ArgsFit-length}
use Rattle.points.proofs.codes.code_of.Goals as goal

pub push_args-requires : goal.push_args-requires
push_args-requires c = ArgsFit-length _ _ _ c.requires.args ∙ ap length (sym c.as_slice.ensures)
