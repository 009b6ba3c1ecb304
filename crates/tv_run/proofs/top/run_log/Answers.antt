use Rattle.tv_run.proofs.Logging.{complete_log}
use Rattle.tv_run.proofs.top.run_log.Goals as goal

pub returns-in-Err-Trouble-clause-complete : goal.returns-in-Err-Trouble-clause-complete
returns-in-Err-Trouble-clause-complete g c =
    complete_log c.args.name.now (g.S.Shelf.state c.args.shelf.now) (g.S.Shelf.state c.check_file.new.shelf) c.in-Err-Trouble.trouble c.refuse_log.result
    (rw c.in-Err-Trouble.field-0-is at c.in-Err-Trouble.ensures.cause) c.refuse_log.ensures.status
