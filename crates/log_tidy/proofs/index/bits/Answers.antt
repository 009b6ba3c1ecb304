-- The bit of one more literal is set.
use Rattle.log_tidy.proofs.Common.{false, ◌≡◌, ◌<◌, ◌∙◌, List, ap, arith, get_or, length, take_all, Lit, bits, slot}
use Rattle.log_tidy.proofs.Signatures.{bits-more}
use Rattle.log_tidy.proofs.index.bits.Goals as goal

pub loop-literal-preserved : goal.loop-literal-preserved
loop-literal-preserved c =
    let clause = c.args.clause.now in
    let half = c.args.half in
    let none : Lit = record { variable = 0; positive = false } in
    let i = c.loop-literal.literal-index in
    let lt : i < length clause = omega (arith, c.loop-literal-test.true, ap length c.literals-literal-items.ensures.value) in
    let place : c.slot.result ≡ slot half (get_or clause i none) =
    c.slot.ensures.value ∙ ap (λ (ls : List Lit). slot half (get_or ls i none)) c.literals-literal-items.ensures.value in
    bits-more half clause i none c.loop-literal.bits c.slot.result lt place (omega (arith, c.slot.ensures.within, c.requires.small)) c.loop-literal.invariant

pub returns : goal.returns
returns c =
    let clause = c.args.clause.now in
    let i = c.loop-literal.literal-index in
    let whole = take_all i clause (omega (arith, c.loop-literal-test.false, ap length c.literals-literal-items.ensures.value)) in
    c.loop-literal.invariant ∙ ap (bits c.args.half) whole
