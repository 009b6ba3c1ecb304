use Rattle.std.proofs.Common.{◌+◌, sym, subst}
use Rattle.proof_files.proofs.Walking.{IsWalked, next_certified, row_walked}
use Rattle.proof_files.proofs.writing.proof_of.Goals as goal

pub push_row-requires-clause-certified : goal.push_row-requires-clause-certified
push_row-requires-clause-certified c =
    next_certified c.args.head.now c.args.rows.now c.args.answers.now c.loop-row.row-index c.row-item.result c.loop-row.left.now c.loop-row.text.items c.loop-row-test.true c.row-item.is c.loop-row.invariant c.requires.certified

pub loop-row-preserved : goal.loop-row-preserved
loop-row-preserved c =
    let head = c.args.head.now in
    let rows = c.args.rows.now in
    let answers = c.args.answers.now in
    let i = c.loop-row.row-index in
    subst (λ left. IsWalked head rows answers (i + 1) left c.push_row.new.text.items) (sym c.left_after-left.ensures)
    (row_walked head rows answers i c.row-item.result c.loop-row.left.now c.loop-row.text.items c.push_row.new.text.items c.loop-row-test.true c.row-item.is c.loop-row.invariant c.in_ok-push_row.ensures)
