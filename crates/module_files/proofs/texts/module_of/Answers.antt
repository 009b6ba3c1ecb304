use Rattle.module_files.proofs.texts.module_of.Goals as goal

pub returns-in-Err : goal.returns-in-Err
returns-in-Err c = c.load_fault.ensures _ c.in-Err.ensures.fault
