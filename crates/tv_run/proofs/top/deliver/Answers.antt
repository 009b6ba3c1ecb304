use Rattle.tv_run.proofs.Common.{ap, inr, option_map, refl}
use Rattle.module_files.proofs.Writing.{from_write}
use Rattle.tv_run.proofs.top.deliver.Goals as goal

pub returns-in-Err-Failed-clause-delivered : goal.returns-in-Err-Failed-clause-delivered
returns-in-Err-Failed-clause-delivered g c =
    inr (
      refl,
      record {
        name = c.in-Some.name.now;
        asked_is = ap (option_map (λ name. name.now)) c.in-Some.is;
        counted = rw c.in-Err-Failed.field-0-is at c.in-Err-Failed.ensures.counted;
        says = from_write c.write_line.result _ _ _ (rw c.as_bytes.ensures.value at c.write_line.ensures.written) (rw c.as_bytes.ensures.value at c.write_line.ensures.cut_off);
      },
    )
