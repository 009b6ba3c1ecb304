use Rattle.definite_assignment.proofs.Common.{ap, length, sym, ◌∙◌, with_items_is, names_in}
use Rattle.definite_assignment.proofs.Names.{same_words, set_is-both, set_differs}
use Rattle.definite_assignment.proofs.name_set.NameSet.cut.Goals as goal

pub cut-requires : goal.cut-requires
cut-requires c =
    ap length c.deref_mut.ensures.value ∙ (same_words c.self.inside.words.items c.other.inside.words.items c.args.self.now c.args.other.now c.self.view_is c.other.view_is c.requires ∙ ap length (sym c.deref.ensures.value))

pub returns-clause-both : goal.returns-clause-both
returns-clause-both c =
    ap names_in (with_items_is c.self.inside.words c.cut.new.words (c.cut.auto.words ∙ c.deref_mut.ensures.len))
    ∙ set_is-both c.deref_mut.result.now c.self.inside.words.items c.deref.result.now c.other.inside.words.items c.cut.new.words c.args.self.now c.args.other.now
    c.deref_mut.ensures.value c.self.view_is c.deref.ensures.value c.other.view_is c.requires c.cut.auto.words c.cut.ensures.both

pub returns-clause-changed : goal.returns-clause-changed
returns-clause-changed c changed same =
    set_differs c.deref_mut.result.now c.self.inside.words.items c.deref.result.now c.cut.new.words c.args.self.now c.deref_mut.ensures.value c.self.view_is c.cut.auto.words c.cut.ensures.fits c.cut.ensures.both (c.cut.ensures.changed changed)
    (sym (ap names_in (with_items_is c.self.inside.words c.cut.new.words (c.cut.auto.words ∙ c.deref_mut.ensures.len))) ∙ same)
