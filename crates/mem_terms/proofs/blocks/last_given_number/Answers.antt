use Rattle.mem_terms.proofs.Naming.{few_given, many_given}
use Rattle.mem_terms.proofs.blocks.last_given_number.Goals as goal

pub returns-then-given-lt8 : goal.returns-then-given-lt8
returns-then-given-lt8 c = few_given c.args.given c.if-given-lt8.true

pub returns-else-given-lt8 : goal.returns-else-given-lt8
returns-else-given-lt8 c = many_given c.args.given c.if-given-lt8.false
