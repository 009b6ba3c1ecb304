use Rattle.run_terms.proofs.Common.{◌≤◌, length, arith, slice_get_past}
use Rattle.run_terms.proofs.Moving.{placed_at, placed_blockless}
use Rattle.run_terms.proofs.edges.block_ahead.Goals as goal

pub returns-then-copy-len-clause-goes : goal.returns-then-copy-len-clause-goes
returns-then-copy-len-clause-goes c = λ block found. placed_at c.args.setting.f.now c.args.setting.copies.now c.args.ahead c.args.n c.get-copy.result.now block c.if-n-ahead.false c.get-copy.ensures found

pub returns-else-copy-len-clause-none : goal.returns-else-copy-len-clause-none
returns-else-copy-len-clause-none c = λ e m.
    let past : length c.args.setting.f.now.blocks ≤ c.get-copy.result.now.block = omega arith in
    placed_blockless c.args.setting.f.now c.args.setting.copies.now c.args.ahead c.args.n c.get-copy.result.now m c.get-copy.ensures (slice_get_past c.args.setting.f.now.blocks c.get-copy.result.now.block past)
