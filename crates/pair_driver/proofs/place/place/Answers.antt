use Rattle.std.proofs.Common.{◌≡◌, ◌<◌, ℕ, List, length, None, Option, Some, map, take, sym, ap, subst, ◌∙◌}
use Rattle.std.specs.Prelude.{All, IsSome}
use Rattle.std.proofs.lemmas.List.{length-replicate}
use Rattle.pair_driver.specs.declared.judged.Judged.{Judged}
use Rattle.pair_driver.specs.Draws.{IsFirstEnd, IsReached, StopsAtFirst}
use Rattle.pair_driver.proofs.Slots.{all_full, placed_right, placed_stops}
use Rattle.pair_driver.proofs.place.place.Goals as goal

pub take_all-requires : goal.take_all-requires
take_all-requires g c =
    let ends = g.T.Tasks.ending c.args.tasks.now in
    let slots = c.fill.new.slots in
    let many : length slots.items ≡ c.args.count =
    sym slots.ok.0 ∙ c.fill.ensures.len ∙ c.in_ok-slots.slots.ok.0 ∙ ap length c.in_ok-slots.ensures ∙ length-replicate c.args.count None
    in
    let first : IsFirstEnd ends slots.items c.first_end-end.result = subst (λ (xs : List (Option Judged)). IsFirstEnd ends xs c.first_end-end.result) c.as_slice.ensures.value c.first_end-end.ensures in
    let each : (x : ℕ) → x < length slots.items → IsReached ends c.args.answers.items x = λ x inside. c.requires.each x (subst (λ m. x < m) many inside) in
    subst (All (λ slot. IsSome slot)) (sym c.truncate.ensures.items) (all_full ends c.args.answers.items slots.items c.first_end-end.result c.fill.ensures.filled c.requires.unique each first)

pub returns-clause-stops : goal.returns-clause-stops
returns-clause-stops g c =
    let ends = g.T.Tasks.ending c.args.tasks.now in
    let slots = c.fill.new.slots in
    let placed = c.in_ok-placed.placed in
    let many : length slots.items ≡ c.args.count =
    sym slots.ok.0 ∙ c.fill.ensures.len ∙ c.in_ok-slots.slots.ok.0 ∙ ap length c.in_ok-slots.ensures ∙ length-replicate c.args.count None
    in
    let first : IsFirstEnd ends slots.items c.first_end-end.result = subst (λ (xs : List (Option Judged)). IsFirstEnd ends xs c.first_end-end.result) c.as_slice.ensures.value c.first_end-end.ensures in
    let taken : map (λ judged. Some judged) placed.items ≡ take c.first_end-end.result slots.items = c.in_ok-placed.ensures ∙ c.truncate.ensures.items in
    subst (λ m. StopsAtFirst ends m placed.items) many (placed_stops slots.items c.first_end-end.result placed.items taken first.few ends first)

pub returns-clause-placed : goal.returns-clause-placed
returns-clause-placed g c =
    let ends = g.T.Tasks.ending c.args.tasks.now in
    let slots = c.fill.new.slots in
    let placed = c.in_ok-placed.placed in
    let first : IsFirstEnd ends slots.items c.first_end-end.result = subst (λ (xs : List (Option Judged)). IsFirstEnd ends xs c.first_end-end.result) c.as_slice.ensures.value c.first_end-end.ensures in
    let taken : map (λ judged. Some judged) placed.items ≡ take c.first_end-end.result slots.items = c.in_ok-placed.ensures ∙ c.truncate.ensures.items in
    placed_right slots.items c.first_end-end.result placed.items taken first.few c.args.answers.items c.fill.ensures.filled
