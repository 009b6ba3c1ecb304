use Rattle.definite_assignment.proofs.Common.{ap, length, sym, ◌∙◌}
use Rattle.definite_assignment.proofs.Names.{same_words}
use Rattle.definite_assignment.proofs.name_set.NameSet.copy.Goals as goal

pub copy_from_slice-requires : goal.copy_from_slice-requires
copy_from_slice-requires c = c.self.inside.words.ok.0 ∙ (same_words c.self.inside.words.items c.other.inside.words.items c.args.self.now c.args.other.now c.self.view_is c.other.view_is c.requires ∙ ap length (sym c.deref.ensures.value))
