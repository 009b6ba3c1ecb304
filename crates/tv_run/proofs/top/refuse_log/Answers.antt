use Rattle.module_files.proofs.Writing.{from_write}
use Rattle.tv_run.proofs.top.refuse_log.Goals as goal

pub returns-in-CannotRead-clause-line : goal.returns-in-CannotRead-clause-line
returns-in-CannotRead-clause-line g c =
    rw c.in-CannotRead.is (from_write c.write_line.result _ _ _ (rw c.as_bytes.ensures.value at c.write_line.ensures.written) (rw c.as_bytes.ensures.value at c.write_line.ensures.cut_off))

pub returns-in-Line-clause-line : goal.returns-in-Line-clause-line
returns-in-Line-clause-line g c = rw c.in-Line.is (from_write c.write_line_fault.result _ _ _ c.write_line_fault.ensures.written c.write_line_fault.ensures.cut_off)
