use Rattle.tv_run.proofs.Common.{◌∙◌, Some, ap, arith, option_map, refl, sym, seen, seen_check, job_in, IsUnfinished}
use Rattle.tv_run.proofs.Files.{job_unchanged, unchanged}
use Rattle.tv_run.proofs.OneJob.{where_checked}
use Rattle.tv_run.proofs.top.run.Goals as goal

pub returns-in-Ok-Some-Check-clause-unwritten : goal.returns-in-Ok-Some-Check-clause-unwritten
returns-in-Ok-Some-Check-clause-unwritten g c = λ seven.
    let read = ap (λ job. Some (seen job)) (sym c.in-Ok-Some-Check.field-0-0-is) ∙ ap (option_map seen) (sym c.in-Ok-Some-Check.field-0-is) ∙ c.in-Ok-Some-Check.ensures.job in
    rw (sym read) (c.run_check.ensures.unwritten (omega (arith, seven)))

pub returns-in-Ok-Some-Check-clause-part : goal.returns-in-Ok-Some-Check-clause-part
returns-in-Ok-Some-Check-clause-part g c = λ seven.
    let old = g.S.Shelf.state c.args.shelf.now in
    let new = g.S.Shelf.state c.run_check.new.shelf in
    let out = g.K.Sink.state c.args.out.now in
    let out_new = g.K.Sink.state c.run_check.new.out in
    let read = ap (λ job. Some (seen job)) (sym c.in-Ok-Some-Check.field-0-0-is) ∙ ap (option_map seen) (sym c.in-Ok-Some-Check.field-0-is) ∙ c.in-Ok-Some-Check.ensures.job in
    where_checked old.files (job_in c.args.arguments.now) (seen_check c.in-Ok-Some-Check.check) (λ files check. IsUnfinished files check c.run_check.new.judged.items old new out out_new) read
    (c.run_check.ensures.part (omega (arith, seven)))

pub returns-in-Err-clause-files : goal.returns-in-Err-clause-files
returns-in-Err-clause-files g c =
    let files = (g.S.Shelf.state c.args.shelf.now).files in
    record { only = job_unchanged (job_in c.args.arguments.now) files; unreported = λ above other. unchanged files files refl }
