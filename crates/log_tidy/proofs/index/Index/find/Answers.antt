-- One literal after another.
use Rattle.log_tidy.proofs.Common.{false, ◌≡◌, ◌<◌, ◌∙◌, List, Some, ap, arith, get_or, length, refl, slice_get, subst, sym, take_all, slice_get_read, Lit, Has, standing, Entry, AreNone, Signature, signature, slot}
use Rattle.log_tidy.proofs.Listed.{none-found, none-more}
use Rattle.log_tidy.proofs.index.Index.find.Goals as goal

pub loop-literal-preserved : goal.loop-literal-preserved
loop-literal-preserved c =
    let self = c.args.self.now in
    let clause = c.args.clause.now in
    let none : Lit = record { variable = 0; positive = false } in
    let i = c.loop-literal.literal-index in
    let lt : i < length clause = omega (arith, c.loop-literal-test.true, ap length c.literals-literal-items.ensures.value) in
    let place : c.slot.result ≡ slot self.half (get_or clause i none) =
    c.slot.ensures.value ∙ ap (λ (ls : List Lit). slot self.half (get_or ls i none)) c.literals-literal-items.ensures.value in
    let within : c.slot.result < length self.lists.items = omega (arith, c.slot.ensures.within, c.requires.sized.lists) in
    let at : slice_get self.lists.items (slot self.half (get_or clause i none)) ≡ Some c.index.result.now =
    ap (slice_get self.lists.items) (sym place) ∙ slice_get_read self.lists.items (length self.lists.items) c.slot.result c.index.result.now refl within c.index.ensures in
    let cs = standing c.args.clauses.now c.args.steps.now in
    none-more cs self.half self.lists.items (signature clause) clause i none c.index.result.now lt at
    (subst (λ (s : Signature). AreNone cs c.index.result.now s clause) c.signature_of-signature.ensures
    (subst (λ (es : List Entry). AreNone cs es c.signature_of-signature.result clause) c.as_slice-list.ensures c.in_default.ensures)) c.loop-literal.invariant

pub returns : goal.returns
returns c =
    let clause = c.args.clause.now in
    let i = c.loop-literal.literal-index in
    let whole = take_all i clause (omega (arith, c.loop-literal-test.false, ap length c.literals-literal-items.ensures.value)) in
    none-found (standing c.args.clauses.now c.args.steps.now) c.args.self.now clause c.requires
    (λ l list has at. c.loop-literal.invariant l list (subst (λ (ls : List Lit). Has ls l) (sym whole) has) at)
