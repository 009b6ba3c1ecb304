use Rattle.bit_blast.proofs.Standing.{standing-zip}
use Rattle.bit_blast.proofs.blast.BlastTermFold.node.Goals as goal

pub term-requires-clause-stood : goal.term-requires-clause-stood
term-requires-clause-stood c =
    (c.requires.stood.0, standing-zip c.args.self.now.gates c.args.self.now.table c.requires.stood.0 c.args.done.now c.requires.stood.1 c.args.term.now c.requires.stood.2, c.requires.stood.2)

pub returns-clause-stands : goal.returns-clause-stands
returns-clause-stands c = λ trees stood fit. c.term.ensures.stands trees (standing-zip c.args.self.now.gates c.args.self.now.table trees c.args.done.now stood c.args.term.now fit) fit
