use Rattle.definite_assignment.proofs.Common.{ap, ◌+◌, ◌/◌, ◌∙◌, names_in}
use Rattle.definite_assignment.proofs.Names.{names_in-ones}
use Rattle.definite_assignment.proofs.name_set.NameSet.every.Goals as goal

pub returns : goal.returns
returns c = ap names_in c.in_ok-alike.ensures ∙ names_in-ones (c.args.names / 64 + 1)
