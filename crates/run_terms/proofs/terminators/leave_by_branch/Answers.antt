use Rattle.run_terms.proofs.Common.{◌≡◌, ◌%◌, ◌∙◌, ap, List, nat_eq, on_ok_weaker, truth, keeps_trans, bit-later, naming, Value, operand_value, bit_at, term_at, as_integer, sight}
use Rattle.run_terms.proofs.Lasting.{leaving-later}
use Rattle.run_terms.proofs.Leaves.{branch_is, lowest_is, poison_leaves}
use Rattle.run_terms.proofs.terminators.leave_by_branch.Goals as goal

pub end_where_poison-requires-clause-leaving : goal.end_where_poison-requires-clause-leaving
end_where_poison-requires-clause-leaving c =
    leaving-later c.args.terms.now c.resize.new.terms (keeps_trans c.args.terms.now c.number_of.new.terms c.resize.new.terms c.number_of.ensures.kept c.resize.ensures.kept) c.args.setting c.args.frontier.now c.args.leaving c.requires

pub returns-clause-leaves : goal.returns-clause-leaves
returns-clause-leaves c = on_ok_weaker c.leave_by_bit.result (λ so.
    let o = c.number_of.new.terms in
    let a = c.resize.new.terms in
    let b = c.end_where_poison.new.terms in
    let ka = keeps_trans c.args.terms.now o a c.number_of.ensures.kept c.resize.ensures.kept in
    let kb = c.end_where_poison.ensures.kept in
    let test = c.in_ok-test.test in
    let lowest = c.in_ok-lowest.lowest in
    poison_leaves test.poison ka kb c.requires c.in_ok-c.ensures.rest c.in_ok-c.ensures.simulates so (λ g here. tt) (λ g at m h.
    let is = (rw c.as_slice.ensures at (c.in_ok-test.ensures.stands (sight g) (naming g.given))) ∙ ap (λ (rs : List Value). as_integer (operand_value rs c.args.condition)) h.registers in
    let low : bit_at g.v b lowest ≡ nat_eq (term_at g.v o test.number % 2) 1 = bit-later a b kb g.v lowest c.in_ok-lowest.ensures.made.within ∙ (ap truth (c.in_ok-lowest.ensures.made.says g.v) ∙ lowest_is (term_at g.v o test.number)) in
    branch_is g.v o test c.args.setting.f.now c.args.setting.copies.now c.args.leaving.ahead (bit_at g.v a test.poison) (bit_at g.v b lowest) (operand_value m.registers c.args.condition) c.args.if_true c.args.if_false m is
    (bit-later o a c.resize.ensures.kept g.v test.poison c.in_ok-test.ensures.made.poison.within) low)) c.leave_by_bit.ensures.leaves
