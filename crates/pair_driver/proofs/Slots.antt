-- Slots that answers fill.
use Rattle.std.proofs.lemmas.Option.{same_Some}
use Rattle.std.proofs.Common.{◌≡◌, ℕ, Bool, true, true≢false, ◌-◌, ◌≤◌, map, take, ⊎_elim, zero, suc, ◌<◌, List, [], ◌∷◌, ◌++◌, length, get_or, set, Option, None, Some, refl, sym, ap, ◌∙◌, subst, arith, get_or-set_same, get_or-set_other, length-set, rules}
use Rattle.std.specs.Prelude.{All, Any, Contains, IsSome}
use Rattle.std.proofs.lemmas.List.{get_or-map, get_or-take, get_or_default, length-map, length-take-le}
use Rattle.std.proofs.lemmas.List.Elements.{Contains-append_left, Contains-append_right}
use mathlib.Core.Logic.{dite}
use native.Mathlib.Decide.{ℕ_discrete}
use Rattle.pair_driver.specs.declared.judged.Judged.{Judged}
use Rattle.pair_driver.specs.declared.place.Answer.{Answer}
use Rattle.pair_driver.specs.Draws.{AreFilled, ArePlaced, AreUnique, IsFirstEnd, IsReached, StopsAtFirst, slot_ends}

-- where it isn't the last, it is before it
Any-front : {X : Type 0} (P : X → Type 0) (xs : List X) (y : X) → Any P (xs ++ y ∷ []) → ¬ (P y) → Any P xs
Any-front P [] y (zero, x, l, e, p) n = absurd (n (subst P (sym e) p))
Any-front P [] y (suc k, x, l, e, p) n = absurd (omega arith)
Any-front P (z ∷ zs) y (zero, x, l, e, p) n = (0, x, omega arith, e, p)
Any-front P (z ∷ zs) y (suc k, x, l, e, p) n = let r = Any-front P zs y (k, x, omega arith, e, p) n in let m = r.2 in (suc r.0, r.1, omega arith, r.3, r.4)

pub filled-more : (answers : List Answer) (slots : List (Option Judged)) (a : Answer) → AreFilled answers slots → a.number < length slots
    → AreFilled (answers ++ a ∷ []) (set slots a.number (Some a.judged))
filled-more answers slots a before inside = record {
  right = λ i j e. dite (ℕ_discrete i a.number)
      (λ same.
      let here : get_or (set slots a.number (Some a.judged)) a.number None ≡ Some a.judged = get_or-set_same slots a.number (Some a.judged) None inside in
      let holds : a.judged ≡ j = same_Some _ _ (sym here ∙ (ap (λ m. get_or (set slots a.number (Some a.judged)) m None) (sym same) ∙ e)) in
      let whole : a ≡ record { number = i; judged = j } = λ k. record { number = sym same k; judged = holds k } in
      Contains-append_right answers (a ∷ []) _ (subst (λ b. Contains (a ∷ []) b) whole (0, omega arith, refl)))
      (λ other. Contains-append_left answers (a ∷ []) _ (before.right i j (sym (get_or-set_other slots a.number i (Some a.judged) None other) ∙ e)));
  full = λ i l any. dite (ℕ_discrete i a.number)
      (λ same.
      let here : get_or (set slots a.number (Some a.judged)) a.number None ≡ Some a.judged = get_or-set_same slots a.number (Some a.judged) None inside in
      let there : get_or (set slots a.number (Some a.judged)) i None ≡ Some a.judged = ap (λ m. get_or (set slots a.number (Some a.judged)) m None) same ∙ here in
      subst (λ o. IsSome o) (sym there) (search rules))
      (λ other.
      let k = length-set slots a.number (Some a.judged) in
      subst (λ o. IsSome o) (sym (get_or-set_other slots a.number i (Some a.judged) None other))
      (before.full i (omega arith) (Any-front (λ b. b.number ≡ i) answers a any (λ e. other (sym e)))));
}

-- ---- the slots up to the first that ends the run

-- what an answer that ends the run left in its slot
ends_there : (ends : Judged → Bool) (answers : List Answer) (slots : List (Option Judged)) (k : ℕ) (o : Option Judged) → get_or slots k None ≡ o → IsSome o
    → AreFilled answers slots → AreUnique answers → (a : Answer) → Contains answers a → a.number ≡ k → ends a.judged ≡ true → slot_ends ends o ≡ true
ends_there ends answers slots k None is some filled unique a there numbered ending = absurd (true≢false (sym some))
ends_there ends answers slots k (Some j) is some filled unique a there numbered ending =
    let one : a ≡ record { number = k; judged = j } = unique a (record { number = k; judged = j }) there (filled.right k j is) numbered in
    ap (λ (b : Answer). ends b.judged) (sym one) ∙ ending

pub all_full : (ends : Judged → Bool) (answers : List Answer) (slots : List (Option Judged)) (m : ℕ) → AreFilled answers slots → AreUnique answers → ((x : ℕ) → x < length slots → IsReached ends answers x)
    → IsFirstEnd ends slots m → All (λ slot. IsSome slot) (take m slots)
all_full ends answers slots m filled unique each first x d inside =
    let few = first.few in
    let long = length-take-le m slots few in
    let low : x < length slots = omega arith in
    let here : get_or (take m slots) x d ≡ get_or slots x None = get_or-take m slots x d (omega arith) ∙ get_or_default slots x d None low in
    subst (λ slot. IsSome slot) (sym here) (⊎_elim (filled.full x low)
    (λ earlier.
    let k : ℕ = earlier.0 in
    let before : k < x = earlier.1 in
    let end = earlier.2 in
    let some = filled.full k (omega arith) (end.0, end.1, end.2, end.3, end.4.0) in
    let ended = ends_there ends answers slots k (get_or slots k None) refl some filled unique end.1 (end.0, end.2, end.3) end.4.0 end.4.1 in
    absurd (true≢false (sym ended ∙ first.before k (omega arith))))
    (each x low))

any_at : {X : Type 0} (P : X → Type 0) (xs : List X) (i : ℕ) → i < length xs → ((d : X) → P (get_or xs i d)) → Any P xs
any_at P [] i inside holds = absurd (omega arith)
any_at P (x ∷ xs) i inside holds = (i, get_or (x ∷ xs) i x, inside, get_or_default (x ∷ xs) i (get_or (x ∷ xs) i x) x inside, holds x)

module _ (slots : List (Option Judged)) (m : ℕ) (placed : List Judged) (taken : map (λ judged. Some judged) placed ≡ take m slots) (few : m ≤ length slots) where
  placed_many : length placed ≡ m
  placed_many = sym (length-map placed (λ (judged : Judged). Some judged)) ∙ ap length taken ∙ length-take-le m slots few

  placed_at : (i : ℕ) (d : Judged) → i < length placed → get_or slots i None ≡ Some (get_or placed i d)
  placed_at i d inside =
      let many = placed_many in
      sym (get_or-take m slots i None (omega arith)) ∙ ap (λ l. get_or l i None) (sym taken) ∙ get_or-map (λ (judged : Judged). Some judged) placed i d None inside

  pub placed_right : (answers : List Answer) → AreFilled answers slots → ArePlaced answers placed
  placed_right answers filled i d inside = filled.right i (get_or placed i d) (placed_at i d inside)

  pub placed_stops : (ends : Judged → Bool) → IsFirstEnd ends slots m → StopsAtFirst ends (length slots) placed
  placed_stops ends first =
      let many = placed_many in record {
        few = omega arith;
        before = λ i d inside. sym (ap (slot_ends ends) (placed_at i d (omega arith))) ∙ first.before i (omega arith);
        last = λ fewer.
            let end = first.last (omega arith) in
            let some = end.0 in
            let inside : m - 1 < length placed = omega arith in
            any_at (λ judged. ends judged ≡ true) placed (m - 1) inside (λ d. sym (ap (slot_ends ends) (placed_at (m - 1) d inside)) ∙ end.1);
      }
