use Rattle.std.proofs.Common.{◌++◌, Some, List, ℕ, ap, sym, ◌∙◌, arith}
use Rattle.std.proofs.lemmas.List.{take_all}
use Rattle.tv_run.proofs.line_sink.LineSinkSink.write.Goals as goal

pub returns-in-Ok-clause-took : goal.returns-in-Ok-clause-took
returns-in-Ok-clause-took c = ap (λ (bytes : List ℕ). Some bytes) (c.in-Ok.ensures.items ∙ ap (λ (piece : List ℕ). c.args.self.now.bytes.items ++ piece) (sym (take_all _ c.args.piece.now (omega arith))))
