use Rattle.tv_run.proofs.Common.{◌∙◌, List, ℕ, subst, IsModule, module_text, IsFaultOf}
use Rattle.tv_run.proofs.ReadAgain.{no_fault, read_is_same}
use Rattle.tv_run.proofs.Named.{judgeable_module}
use Rattle.tv_run.proofs.made.read_again.Goals as goal

pub returns-in-Ok-clause-read : goal.returns-in-Ok-clause-read
returns-in-Ok-clause-read c =
    read_is_same c.printed_modules_read_back.ensures c.is_one_module.ensures.modules c.args.module.now c.in-Ok.read c.requires
    (subst (λ (text : List ℕ). IsModule text c.in-Ok.read) (c.as_slice.ensures.value ∙ c.in_ok-text.ensures) c.in-Ok.ensures.formed)

pub returns-in-Ok-clause-judgeable : goal.returns-in-Ok-clause-judgeable
returns-in-Ok-clause-judgeable c = judgeable_module _ c.in-Ok.read c.in-Ok.ensures

-- the text is a module, so it has no fault
pub unreachable-requires : goal.unreachable-requires
unreachable-requires c =
    let text = c.as_slice.ensures.value ∙ c.in_ok-text.ensures in
    let back = c.printed_modules_read_back.ensures c.args.module.now c.requires in
    no_fault c.is_one_module.ensures.apart (module_text c.args.module.now) back.read c.in-Err-Trouble.field-0-0 back.is_module
    (subst (λ (t : List ℕ). IsFaultOf t c.in-Err-Trouble.field-0-0) text (rw c.in-Err-Trouble.field-0-is at c.in-Err-Trouble.ensures))
