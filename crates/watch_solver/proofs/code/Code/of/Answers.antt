use Rattle.watch_solver.proofs.Common.{◌≡◌, cond, ◌+◌, ◌*◌, ap, sym, ◌∙◌}
use Rattle.watch_solver.proofs.Codes.{lit_made}
use Rattle.watch_solver.proofs.code.Code.of.Goals as goal
use Rattle.watch_solver.proofs.code.Code.of.Goals.{then-literal, else-literal}

pub returns : goal.returns
returns c =
    let sign : c.if-literal.sign ≡ cond c.args.literal.positive 1 0 = elim c.if-literal.branch [
      | then-literal w ↦ w.sign-is ∙ sym (ap (λ b. cond b 1 0) w.if-literal.true)
      | else-literal w ↦ w.sign-is ∙ sym (ap (λ b. cond b 1 0) w.if-literal.false)
    ] in
    lit_made c.args.literal (c.args.literal.variable * 2 + c.if-literal.sign) (ap (λ s. c.args.literal.variable * 2 + s) sign)
