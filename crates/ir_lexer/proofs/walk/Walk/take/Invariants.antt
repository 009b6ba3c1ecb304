use Rattle.ir_lexer.proofs.Common.{◌≡◌}
use Rattle.std.specs.Prelude.{slice_range}
use Rattle.ir_lexer.proofs.walk.Walk.take.Given as goal

abbrev pub invariant-loop-index : goal.invariant-loop-index
invariant-loop-index l = record {
  so_far : l.tokens.items ≡ slice_range l.self l.from l.index;
  same : l.self ≡ l.fn.self;
}
