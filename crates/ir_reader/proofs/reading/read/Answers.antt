use Rattle.ir_reader.proofs.Limits.{all-judgeable}
use Rattle.ir_reader.proofs.Different.{different}
use Rattle.ir_reader.proofs.reading.read.Goals as goal

pub returns-clause-judgeable : goal.returns-clause-judgeable
returns-clause-judgeable c = all-judgeable _ c.in_ok-defines.defines c.in_ok-entries.entries c.in_ok-entries.ensures.2

pub returns-clause-different : goal.returns-clause-different
returns-clause-different c =
    let made = c.in_ok-entries.ensures in
    different _ _ c.in_ok-defines.defines c.in_ok-entries.entries made.1.cut made.2
