use Rattle.module_files.proofs.Writing.{from_write}
use Rattle.module_files.proofs.refusals.refuse_file.Goals as goal

pub returns-in-CannotRead-clause-line : goal.returns-in-CannotRead-clause-line
returns-in-CannotRead-clause-line g c =
    rw c.in-CannotRead.is (from_write c.write_line.result _ _ _ (rw c.as_bytes.ensures.value at c.write_line.ensures.written) (rw c.as_bytes.ensures.value at c.write_line.ensures.cut_off))
