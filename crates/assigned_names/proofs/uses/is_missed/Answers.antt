use Rattle.std.proofs.Common.{◌∙◌, sym, arith}
use Rattle.assigned_names.proofs.UseLemmas.{missed_there}
use Rattle.assigned_names.proofs.uses.is_missed.Goals as goal

pub returns : goal.returns
returns c =
    missed_there c.args.f.now c.args.before.now c.args.block c.args.ran c.args.name c.is_assigned_in.result c.requires.before (omega (arith, c.if-block-len.false, c.len.ensures)) (omega (arith, c.requires.within, c.requires.known.names))
    (sym c.has.ensures ∙ c.if-has.false) (λ b stands. c.is_assigned_in.ensures c.args.f.now b c.requires.known stands)
