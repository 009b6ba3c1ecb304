use Rattle.assigned_names.proofs.UseLemmas.{behind_label}
use Rattle.assigned_names.proofs.uses.is_missed_behind.Goals as goal

pub returns : goal.returns
returns c =
    let both = behind_label c.args.f.now c.args.label c.args.name c.block_of-block.result c.requires.known.once c.block_of-block.ensures in
    (λ t. both.0 (c.is_missed_at_end.ensures.0 t), λ b. c.is_missed_at_end.ensures.1 (both.1 b))
