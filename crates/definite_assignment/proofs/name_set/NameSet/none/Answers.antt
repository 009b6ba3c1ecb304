use Rattle.definite_assignment.proofs.Common.{ap, ◌+◌, ◌/◌, ◌∙◌, names_in}
use Rattle.definite_assignment.proofs.Names.{names_in-zeros}
use Rattle.definite_assignment.proofs.name_set.NameSet.none.Goals as goal

pub returns : goal.returns
returns c = ap names_in c.in_ok-alike.ensures ∙ names_in-zeros (c.args.names / 64 + 1)
