use Rattle.ir_reader.proofs.Common.{refl}
use Rattle.ir_reader.proofs.Spans.{span-none}
use Rattle.ir_reader.proofs.beside.span_of.Goals as goal

pub loop-pieces-init : goal.loop-pieces-init
loop-pieces-init c = (c.requires.start, span-none c.args.text.now c.args.start.at _ c.requires.start.0 c.new.ensures.items refl refl)
