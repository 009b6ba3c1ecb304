use Rattle.run_terms.proofs.Common.{◌≡◌, ◌%◌, ◌^◌, ◌∙◌, ap, List, on_ok_weaker, keeps_trans, bit-later, term-later, naming, Value, operand_value, bit_at, term_at, as_integer, sight}
use Rattle.run_terms.proofs.Lasting.{leaving-later}
use Rattle.run_terms.proofs.Leaves.{poison_leaves, switch_is}
use Rattle.run_terms.proofs.terminators.leave_by_switch.Goals as goal

pub end_where_poison-requires-clause-leaving : goal.end_where_poison-requires-clause-leaving
end_where_poison-requires-clause-leaving c =
    leaving-later c.args.terms.now c.resize.new.terms (keeps_trans c.args.terms.now c.number_of.new.terms c.resize.new.terms c.number_of.ensures.kept c.resize.ensures.kept) c.args.setting c.args.frontier.now c.args.leaving c.requires

pub returns-clause-leaves : goal.returns-clause-leaves
returns-clause-leaves c = on_ok_weaker c.leave_by_cases.result (λ so edge default es.
    let o = c.number_of.new.terms in
    let a = c.resize.new.terms in
    let b = c.end_where_poison.new.terms in
    let ka = keeps_trans c.args.terms.now o a c.number_of.ensures.kept c.resize.ensures.kept in
    let kb = c.end_where_poison.ensures.kept in
    let value = c.in_ok-value.value in
    let number = c.in_ok-number.number in
    let made = rw c.bits.ensures at c.in_ok-number.ensures.made in
    poison_leaves value.poison ka kb c.requires c.in_ok-c.ensures.rest c.in_ok-c.ensures.simulates (so edge default es) (λ g here. tt) (λ g at m h.
    let is = (rw c.as_slice.ensures at (c.in_ok-value.ensures.stands (sight g) (naming g.given))) ∙ ap (λ (rs : List Value). as_integer (operand_value rs c.args.on.1)) h.registers in
    let n_is : term_at g.v b number ≡ term_at g.v o value.number % 2 ^ c.args.on.0.bits = term-later a b kb g.v number made.within ∙ made.says g.v in
    switch_is g.v o value c.args.setting.f.now c.args.setting.copies.now c.args.leaving.ahead c.args.on.0.bits (bit_at g.v a value.poison) (term_at g.v b number) (operand_value m.registers c.args.on.1) edge default c.args.cases.now m is
    (bit-later o a c.resize.ensures.kept g.v value.poison c.in_ok-value.ensures.made.poison.within) n_is)) c.leave_by_cases.ensures.leaves
