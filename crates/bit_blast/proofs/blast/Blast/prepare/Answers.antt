use Rattle.bit_blast.proofs.Tables.{OnOk-then, added-known}
use Rattle.bit_blast.proofs.blast.Blast.prepare.Goals as goal

pub returns-in-Variable-clause-known : goal.returns-in-Variable-clause-known
returns-in-Variable-clause-known c = rw c.in-Variable.is (OnOk-then c.add.result _ _ c.add.ensures.added (λ added. added-known c.args.self.now.table c.add.new.self.table (record { number = c.in-Variable.number; width = c.in-Variable.width }) added))
