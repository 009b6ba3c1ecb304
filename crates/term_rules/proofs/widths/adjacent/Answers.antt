use Rattle.term_rules.proofs.WidthRules.{parts_adjacent}
use Rattle.term_rules.proofs.widths.adjacent.Goals as goal

pub returns-then-above-from : goal.returns-then-above-from
returns-then-above-from c = parts_adjacent c.args.terms.now c.args.high c.args.low c.in-Extract-Extract.whole c.in-Extract-Extract.same
    c.in-Extract-Extract.above c.in-Extract-Extract.from c.in-Extract-Extract.upper c.in-Extract-Extract.lower c.bits.result
    c.in-Extract-Extract.ensures.tree c.in-Extract-Extract.ensures'.tree c.if-whole-same.true c.if-above-from.true c.bits.ensures
