use Rattle.ir_reader.proofs.OneFunction.{one_module, module_or_fault, one_fault}
use Rattle.ir_reader.proofs.laws.is_one_module.Goals as goal

pub returns : goal.returns
returns c = record { modules = one_module; apart = module_or_fault; faults = one_fault }
