use Rattle.ir_reader.proofs.Common.{◌≡◌, ◌∙◌, ◌+◌, List, [], refl, ap, subst, arith, Lexeme, IsFunction, IsEntry, tokens_of, into_iter_items}
use Rattle.ir_reader.proofs.Entries.{so-far-start, so-far-more, so-far-ahead, so-far-all, none-left}
use Rattle.ir_reader.proofs.beside.entries_of.Goals as goal

pub loop-define-init : goal.loop-define-init
loop-define-init c =
    let left : into_iter_items c.into_iter-define-iterator.result ≡ c.args.defines = search in
    (c.walk-walk.ensures, 0, so-far-start c.args.tokens.now c.args.defines _ _ _ left c.in_ok-entries.ensures.items refl c.requires)

pub prove-unreachable-requires : goal.prove-unreachable-requires
prove-unreachable-requires c =
    let ahead = so-far-ahead c.args.tokens.now c.args.defines _ _ c.loop-define.invariant.1 c.in-Some.define _ _ c.in-Some.ensures.steps.0 c.loop-define.invariant.2 in
    omega (arith, ahead.within, c.if-prove.true, c.len-in-loop-define.ensures)

pub loop-define-preserved : goal.loop-define-preserved
loop-define-preserved c =
    let tokens : c.in_ok-taken.taken ≡ tokens_of c.args.tokens.now c.in-Some.define =
    c.in_ok-taken.ensures.taken ∙ ap (λ (ts : List Lexeme). tokens_of ts c.in-Some.define) c.loop-define.invariant.0 in
    let entry : IsEntry c.args.tokens.now c.in-Some.define (record { name = c.in-Some.define.name; function = c.in_ok-function.function }) =
    record { name = refl; function = subst (λ (ts : List Lexeme). IsFunction ts c.in_ok-function.function) (c.as_slice.ensures ∙ tokens) c.in_ok-function.ensures } in (
      c.in_ok-taken.ensures.same ∙ c.loop-define.invariant.0,
      c.in-Some.define.last + 1,
      so-far-more c.args.tokens.now c.args.defines _ _ c.loop-define.invariant.1 c.in-Some.define _ _ _ _ _ c.in-Some.ensures.steps.0 c.in_ok-push.ensures.items entry refl c.loop-define.invariant.2,
    )

pub returns : goal.returns
returns c =
    let done : into_iter_items c.loop-define.define-iterator ≡ [] = none-left _ (omega (arith, c.in-None.ensures.steps.0, c.loop-define.define-iterator.rest.ok)) in
    so-far-all c.args.tokens.now c.args.defines _ _ _ _ done c.loop-define.invariant.2
