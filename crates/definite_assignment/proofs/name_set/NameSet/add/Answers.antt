use Rattle.definite_assignment.proofs.Common.{ap, length, ◌∙◌, arith, with_items_is, names_in}
use Rattle.definite_assignment.proofs.Names.{places_of, set_is-add}
use Rattle.definite_assignment.proofs.name_set.NameSet.add.Goals as goal

pub add-requires : goal.add-requires
add-requires c = omega (arith, c.requires, places_of c.self.inside.words.items c.args.self.now c.self.view_is, ap length c.deref_mut.ensures.value)

pub returns : goal.returns
returns c =
    ap names_in (with_items_is c.self.inside.words c.add.new.words (c.add.auto.words ∙ c.deref_mut.ensures.len))
    ∙ set_is-add c.deref_mut.result.now c.self.inside.words.items c.add.new.words c.args.self.now c.args.name c.deref_mut.ensures.value c.self.view_is c.requires c.add.ensures
