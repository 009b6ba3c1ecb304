use Rattle.run_terms.proofs.Common.{◌≡◌, ◌∙◌, ap, sym, Bool, List, if◌then◌else◌, on_ok_weaker, is_poison, returned_with, undef_type, Ub, keeps_trans, words-later, naming, Value, ended, typed_operand_value, Done, bit_at, sight}
use Rattle.run_terms.proofs.Arguments.{poison_bit}
use Rattle.run_terms.proofs.Lasting.{leaving-later, sees-later}
use Rattle.run_terms.proofs.Leaves.{poison_leaves}
use Rattle.run_terms.proofs.Returning.{done_if}
use Rattle.run_terms.proofs.terminators.return_defined.Goals as goal

pub end_where_poison-requires-clause-leaving : goal.end_where_poison-requires-clause-leaving
end_where_poison-requires-clause-leaving c = leaving-later c.args.terms.now c.typed_operand_of.new.terms c.typed_operand_of.ensures.kept c.args.setting c.args.frontier.now c.args.leaving c.requires.leaving

pub return_operand-requires-clause-tape : goal.return_operand-requires-clause-tape
return_operand-requires-clause-tape c =
    words-later c.args.terms.now c.end_where_poison.new.terms (keeps_trans c.args.terms.now c.typed_operand_of.new.terms c.end_where_poison.new.terms c.typed_operand_of.ensures.kept c.end_where_poison.ensures.kept) c.args.setting.tape.now c.requires.tape

pub returns-clause-leaves : goal.returns-clause-leaves
returns-clause-leaves c = on_ok_weaker c.return_operand.result (λ so.
    let old = c.args.terms.now in
    let a = c.typed_operand_of.new.terms in
    let b = c.end_where_poison.new.terms in
    let ka = c.typed_operand_of.ensures.kept in
    let kb = c.end_where_poison.ensures.kept in
    let r = c.args.returned in
    poison_leaves c.in_ok-value.value.poison ka kb c.requires.leaving c.in_ok-c.ensures.rest c.in_ok-c.ensures.simulates so (λ g sees. sees-later old b (keeps_trans old a b ka kb) g c.args.setting.tape.now c.requires.tape sees) (λ g at m h.
    let p = bit_at g.v a c.in_ok-value.value.poison in
    let is : p ≡ is_poison (typed_operand_value m.registers r) = sym (poison_bit (sight g) a c.in_ok-value.value)
    ∙ ap is_poison ((rw c.as_slice.ensures at (c.in_ok-value.ensures.stands (sight g) (naming g.given))) ∙ ap (λ (rs : List Value). typed_operand_value rs r) h.registers) in
    done_if p (ended Ub m) (returned_with (undef_type r.of_type r.operand) r g.tape m) ∙ ap (λ (x : Bool). Done (if x then ended Ub m else returned_with (undef_type r.of_type r.operand) r g.tape m)) is)) c.return_operand.ensures.leaves
