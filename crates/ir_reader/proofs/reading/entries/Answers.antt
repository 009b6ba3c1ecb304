use Rattle.ir_reader.proofs.Common.{◌≡◌, ◌∙◌, ◌+◌, ◌≤◌, List, [], length, sym, subst, arith, IsOkAnd, into_iter_items, Lexeme, Spot}
use Rattle.std.proofs.Common.{Result}
use Rattle.ir_reader.proofs.Entries.{so-far-start, so-far-more, so-far-ahead, so-far-all, none-left}
use Rattle.ir_reader.proofs.reading.entries.Goals as goal

pub loop-define-init : goal.loop-define-init
loop-define-init c =
    let are = c.requires.1 in
    let left : into_iter_items c.into_iter-define-iterator.result ≡ c.args.defines = search in
    (c.requires.0, are, so-far-start c.requires.0 c.args.defines _ _ _ left c.in_ok-entries.ensures.items (c.new-lexer.ensures ∙ are.lexed_so) are.cut)

pub overflow_add-end : goal.overflow_add-end
overflow_add-end c =
    let so_far = c.loop-define.invariant in
    let ahead = so-far-ahead so_far.0 c.args.defines _ _ c.loop-define.done c.in-Some.define _ _ c.in-Some.ensures.steps.0 so_far.2 in
    omega (arith, ahead.within, so_far.1.small)

pub entry-requires-clause-small : goal.entry-requires-clause-small
entry-requires-clause-small c =
    let so_far = c.loop-define.invariant in
    let ahead = so-far-ahead so_far.0 c.args.defines _ _ c.loop-define.done c.in-Some.define _ _ c.in-Some.ensures.steps.0 so_far.2 in
    omega (arith, ahead.within, so_far.1.small)

pub entry-requires-clause-left : goal.entry-requires-clause-left
entry-requires-clause-left c =
    let so_far = c.loop-define.invariant in
    let ahead = so-far-ahead so_far.0 c.args.defines _ _ c.loop-define.done c.in-Some.define _ _ c.in-Some.ensures.steps.0 so_far.2 in
    subst (λ (r : Result (List Lexeme) Spot). IsOkAnd r (λ ts. c.in-Some.define.last + 1 ≤ c.loop-define.done + length ts)) (sym so_far.2.passed) ahead.left

pub loop-define-preserved : goal.loop-define-preserved
loop-define-preserved c =
    let so_far = c.loop-define.invariant in
    let is = c.in_ok-entry.ensures.entry so_far.0 so_far.2.passed in
    let passed = c.in_ok-entry.ensures.left so_far.0 so_far.2.passed in
    (so_far.0, so_far.1, so-far-more so_far.0 c.args.defines _ _ c.loop-define.done c.in-Some.define _ _ _ _ _ c.in-Some.ensures.steps.0 c.in_ok-push.ensures.items is passed so_far.2)

pub returns : goal.returns
returns c =
    let so_far = c.loop-define.invariant in
    let done : into_iter_items c.loop-define.define-iterator ≡ [] = none-left _ (omega (arith, c.in-None.ensures.steps.0, c.loop-define.define-iterator.rest.ok)) in
    (so_far.0, so_far.1, rw c.from_vec.ensures (so-far-all so_far.0 c.args.defines _ _ _ _ done so_far.2))
