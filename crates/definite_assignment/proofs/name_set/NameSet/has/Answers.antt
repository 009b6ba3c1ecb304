use Rattle.definite_assignment.proofs.Common.{◌∙◌}
use Rattle.definite_assignment.proofs.Names.{set_is-has}
use Rattle.definite_assignment.proofs.name_set.NameSet.has.Goals as goal

pub returns : goal.returns
returns c = c.has.ensures ∙ set_is-has c.deref.result.now c.self.inside.words.items c.args.self.now c.args.name c.deref.ensures.value c.self.view_is
