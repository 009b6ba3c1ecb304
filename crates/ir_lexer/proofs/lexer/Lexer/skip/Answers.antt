use Rattle.ir_lexer.proofs.Common.{◌+◌, arith}
use Rattle.ir_lexer.proofs.Taking.{enough, skip_one}
use Rattle.ir_lexer.proofs.lexer.Lexer.skip.Goals as goal

pub loop-preserved : goal.loop-preserved
loop-preserved c = λ tokens is. skip_one tokens c.loop.counter (c.loop.counter + 1) c.loop.self c.next.new.self c.next.result (omega arith)
    (enough c.args.count c.loop.counter c.args.self.now tokens c.requires is c.loop-test.true) (c.loop.invariant tokens is) c.next.ensures
