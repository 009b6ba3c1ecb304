-- A command line asks for one job.
use Rattle.tv_run.proofs.Common.{◌≡◌, ◌∙◌, Option, Some, subst, Files, Check, Job, Text, check, log, WhereKnown, WhereChecked}

pub check_is : (a b : Check) → Some (check a) ≡ Some (check b) → a ≡ b
check_is a b e = cc e

pub log_is : (a b : Text) → Some (log a) ≡ Some (log b) → a ≡ b
log_is a b e = cc e

-- so a fact of the check that was read is one of the check that it asks for
pub where_checked : (known : Option Files) (command : Option Job) (c : Check) (P : Files → Check → Type 0) → Some (check c) ≡ command → WhereKnown known (λ files. P files c) → WhereChecked known command P
where_checked known command c P read holds files d is_known is = subst (P files) (check_is c d (read ∙ is)) (holds files is_known)
