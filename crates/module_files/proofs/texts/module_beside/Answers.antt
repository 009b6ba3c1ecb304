use Rattle.std.proofs.Common.{subst}
use Rattle.ir_reader.specs.Module.{IsFault}
use Rattle.module_files.proofs.texts.module_beside.Goals as goal

pub returns : goal.returns
returns g c = c.load_fault.ensures c.args.text.items (subst (λ text. IsFault text c.in-Err.fault) c.as_slice.ensures.value c.in-Err.ensures.fault)
