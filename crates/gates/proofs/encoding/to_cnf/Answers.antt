-- What was made is an encoding.
use Rattle.gates.proofs.Common.{◌++◌, ◌∷◌, [], ◌∙◌, ap, arith, subst, sym, List, Lit, Gate, AreInputs}
use Rattle.gates.proofs.FactLemmas.{inputs_stored}
use Rattle.gates.proofs.Encoded.{encoded, one-a_front}
use Rattle.gates.proofs.encoding.to_cnf.Goals as goal

pub numbering_of-requires-clause-order : goal.numbering_of-requires-clause-order
numbering_of-requires-clause-order c = subst (λ (gs : List Gate). AreInputs gs c.args.order.now) (sym c.as_slice-gates.ensures.value) c.requires.order

pub returns-clause-encodes : goal.returns-clause-encodes
returns-clause-encodes c = encoded c.args.circuit.now c.args.out c.args.order.now c.new.result (record {
  number = c.in_ok-numbering.numbering.number.items;
  gate_of = c.in_ok-numbering.numbering.gate_of.items;
  fit = c.as_slice-gates.ensures.fit;
  inputs = c.requires.order;
  numbering = rw c.as_slice-gates.ensures.value at c.in_ok-numbering.ensures;
  variables = omega (arith, c.new.ensures.variables, c.len.ensures, c.in_ok-numbering.numbering.gate_of.ok);
  front = c.new.ensures.front;
  body = c.in_ok-clauses.clauses.items;
  literal = c.literal_of.result;
  clauses = c.new.ensures.clauses
      ∙ (c.from_vec.ensures ∙ (c.in_ok-push.ensures.items ∙ ap (λ (k : List Lit). c.in_ok-clauses.clauses.items ++ k ∷ []) c.in_ok-last.ensures));
  says = λ v. rw (c.deref.ensures.value, c.deref-2.ensures.value, c.as_slice-gates.ensures.value) at c.in_ok-clauses.ensures.says v;
  within = c.requires.out;
  output = λ v. rw c.deref-3.ensures.value at c.literal_of.ensures.says v;
})

pub returns-clause-fronts : goal.returns-clause-fronts
returns-clause-fronts c = λ all body last is values len.
    one-a_front c.args.circuit.now c.args.out c.args.order.now c.new.result (returns-clause-encodes c)
    (let room = (rw c.as_slice-gates.ensures.value at c.in_ok-numbering.ensures).room in omega (arith, room, c.new.ensures.variables, c.len.ensures, c.in_ok-numbering.numbering.gate_of.ok))
    (inputs_stored c.args.circuit.now c.args.order.now c.requires.order) all body last is values len
