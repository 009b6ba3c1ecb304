-- An input goes last, since it carries its index.
use Rattle.gates.proofs.Common.{◌++◌, ◌∷◌, [], ap, ◌∙◌, Input}
use Rattle.gates.proofs.Stages.{grows_grown, input_last, input_inputs, input_is, input_made, input_pushed}
use Rattle.gates.proofs.circuit.Circuit.input.Goals as goal

pub returns-clause-input : goal.returns-clause-input
returns-clause-input c = input_is c.args.self.now c.store.new.self c.in_ok-id.id c.len-place.result
    (record { at_end = c.len-place.ensures; stored = c.in_ok-id.ensures.stored; plain = c.in_ok-id.ensures.plain; fit = c.store.ensures.fit; grown = c.store.ensures.grown })

pub returns-clause-last : goal.returns-clause-last
returns-clause-last c = input_last c.args.self.now c.store.new.self c.in_ok-id.id c.len-place.result
    (record { at_end = c.len-place.ensures; stored = c.in_ok-id.ensures.stored; plain = c.in_ok-id.ensures.plain; fit = c.store.ensures.fit; grown = c.store.ensures.grown })

pub returns-clause-made : goal.returns-clause-made
returns-clause-made c = input_made c.args.self.now c.store.new.self c.in_ok-id.id c.len-place.result
    (record { at_end = c.len-place.ensures; stored = c.in_ok-id.ensures.stored; plain = c.in_ok-id.ensures.plain; fit = c.store.ensures.fit; grown = c.store.ensures.grown })

pub returns-clause-inputs : goal.returns-clause-inputs
returns-clause-inputs c = input_inputs c.args.self.now c.store.new.self c.in_ok-id.id c.len-place.result
    (record { at_end = c.len-place.ensures; stored = c.in_ok-id.ensures.stored; plain = c.in_ok-id.ensures.plain; fit = c.store.ensures.fit; grown = c.store.ensures.grown })

pub returns-clause-added : goal.returns-clause-added
returns-clause-added c =
    input_pushed c.args.self.now c.store.new.self c.in_ok-id.id c.len-place.result
    (record { at_end = c.len-place.ensures; stored = c.in_ok-id.ensures.stored; plain = c.in_ok-id.ensures.plain; fit = c.store.ensures.fit; grown = c.store.ensures.grown })
    ∙ ap (λ place. c.args.self.now ++ Input place ∷ []) c.len-place.ensures

pub returns-clause-kept : goal.returns-clause-kept
returns-clause-kept c = grows_grown c.args.self.now c.store.new.self (Input c.len-place.result) c.store.ensures.grown
