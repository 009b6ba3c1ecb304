-- Functions of pairs that are judged can be lowered, and run.
use Rattle.module_rows.proofs.Common.{◌≡◌, Option, Some, None, Entry, Function, IsJudgeableEntry, function_found, same_Some}
use Rattle.std.specs.Prelude.{IfSome, Ok}
use Rattle.std.specs.Borrow.{Bor}
use Rattle.lowering.specs.Lowered.{CanBeLowered}
use Rattle.module_rows.proofs.Pairs.{none≢some, judgeable_lowered}

pub source_runnable : (e : Entry) (f : Function) → IsJudgeableEntry e → e.function ≡ Ok f → CanBeLowered f
source_runnable e f all is = judgeable_lowered f (all f is)

pub target_runnable : (found : Option (Bor Entry)) (f : Function) → IfSome found (λ e. IsJudgeableEntry e.now) → function_found found ≡ Some (Ok f) → CanBeLowered f
target_runnable None f all is = absurd (none≢some (Ok f) is)
target_runnable (Some e) f all is = judgeable_lowered f (all f (same_Some e.now.function (Ok f) is))
