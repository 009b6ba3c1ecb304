use Rattle.encoder.proofs.Common.{◌∙◌, rules, poison_made, poison_stands}
use Rattle.encoder.proofs.beginning.poison_registers.Goals as goal

pub returns-clause-stands : goal.returns-clause-stands
returns-clause-stands c = poison_stands c.poison_value.new.terms c.in_ok-poison.poison c.args.names c.from_vec.result
    (c.from_vec.ensures ∙ c.in_ok-registers.ensures.items_if_clones_equal (λ y e. search rules)) c.in_ok-poison.ensures.stands

pub returns-clause-made : goal.returns-clause-made
returns-clause-made c = poison_made c.poison_value.new.terms c.in_ok-poison.poison c.args.names c.from_vec.result
    (c.from_vec.ensures ∙ c.in_ok-registers.ensures.items_if_clones_equal (λ y e. search rules)) c.in_ok-poison.ensures.made
