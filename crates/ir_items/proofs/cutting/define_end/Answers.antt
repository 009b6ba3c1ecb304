use Rattle.ir_items.proofs.Common.{ℕ, List, Define, IsPiece, IsNamed, IsDefine, PieceStops, ItemStops, IsNew, err_from_is_err_and, IfOk-weaker, IfErr-weaker}
use Rattle.ir_items.proofs.Phases.{parameters_fault, behind_parameters, parameters_end_balanced, in_body_fault}
use Rattle.ir_items.proofs.cutting.define_end.Goals as goal

pub returns-in_err-behind-clause-stops : goal.returns-in_err-behind-clause-stops
returns-in_err-behind-clause-stops c =
    let p = err_from_is_err_and c.from_residual.result c.from_residual.ensures.1 in
    rw (p.1, p.2) (λ defines first new. parameters_fault c.args.tokens.now defines first c.args.name _ new c.in_err-behind.ensures.stops)

pub returns-in_err-body-clause-stops : goal.returns-in_err-body-clause-stops
returns-in_err-body-clause-stops c =
    let p = err_from_is_err_and c.from_residual-in_err-body.result c.from_residual-in_err-body.ensures.1 in
    rw (p.1, p.2) (λ defines first new. c.in_err-body.ensures.stops defines first c.args.name new (behind_parameters c.args.tokens.now first c.args.name c.in_ok-behind.behind new.named c.in_ok-behind.ensures.ok)
    (parameters_end_balanced c.args.tokens.now first c.args.name c.in_ok-behind.behind new.named c.in_ok-behind.ensures.ok))

pub returns-clause-ok : goal.returns-clause-ok
returns-clause-ok c =
    IfOk-weaker c.piece_end-2.result (λ end. IsPiece c.args.tokens.now c.in_ok-body.body end) (λ end. (first : ℕ) → IsNamed c.args.tokens.now first c.args.name → IsDefine c.args.tokens.now first c.args.name end)
    (λ end piece first named. record {
      body = c.in_ok-body.body;
      has_body = c.in_ok-body.ensures.ok first c.args.name (behind_parameters c.args.tokens.now first c.args.name c.in_ok-behind.behind named c.in_ok-behind.ensures.ok)
          (parameters_end_balanced c.args.tokens.now first c.args.name c.in_ok-behind.behind named c.in_ok-behind.ensures.ok);
      closed = piece;
    }) c.piece_end-2.ensures.ok

pub returns-clause-stops : goal.returns-clause-stops
returns-clause-stops c =
    IfErr-weaker c.piece_end-2.result (λ fault. PieceStops c.args.tokens.now c.in_ok-body.body fault)
    (λ fault. (defines : List Define) (first : ℕ) → IsNew c.args.tokens.now defines first c.args.name → ItemStops c.args.tokens.now defines first fault)
    (λ fault stops defines first new. in_body_fault c.args.tokens.now defines first c.args.name c.in_ok-body.body fault new
    (c.in_ok-body.ensures.ok first c.args.name (behind_parameters c.args.tokens.now first c.args.name c.in_ok-behind.behind new.named c.in_ok-behind.ensures.ok)
    (parameters_end_balanced c.args.tokens.now first c.args.name c.in_ok-behind.behind new.named c.in_ok-behind.ensures.ok)) c.in_ok-body.ensures.within stops) c.piece_end-2.ensures.stops
