-- Each step of the table is one of the board.
use Rattle.std.proofs.Common.{◌≡◌, ℕ, ◌+◌, ◌-◌, ◌%◌, ◌^◌, ◌<◌, ◌≤◌, List, [], ◌∷◌, ◌++◌, length, set, get_or, nat_lt, refl, sym, ap, ◌∙◌, subst, arith, length-set, get_or-set_same, get_or-set_other}
use Rattle.std.proofs.Math.Nat.{mod-eq_of_lt}
use Rattle.std.proofs.lemmas.List.{get_or_default}
use Rattle.std.specs.Prelude.{Contains, min}
use mathlib.Core.Option.{some}
use lib.ListN.{get_elem?}
use Rattle.atomic_table.specs.Table.{State, Me, step, keeps, Allows, Splits, Joins}
use Rattle.claim_board.specs.declared.board.Hand.{Hand}
use Rattle.claim_board.specs.declared.board.Limits.{Limits}
use Rattle.claim_board.specs.Board.{hand, with_found, with_passed, BoardRun, claims, finds, looks, splits, joins}
use Rattle.claim_board.specs.Drawing.{IsRunning, claimed, looked, reported}
use Rattle.atomic_table.proofs.Lists.{set_else}
use Rattle.claim_board.proofs.Found.{least_at}
use Rattle.claim_board.proofs.Runs.{at_place, drawn_below, count_within}

-- the words of a step are those of a run
running : (limits : Limits) (words : List ℕ) (c w : ℕ) (views : List Hand) → get_or words 0 0 ≡ c → get_or words 1 0 ≡ w → BoardRun limits.items limits.total c w views
    → BoardRun limits.items limits.total (get_or words 0 0) (get_or words 1 0) views
running limits words c w views count least run =
    subst (λ n. BoardRun limits.items limits.total n (get_or words 1 0) views) (sym count) (subst (λ n. BoardRun limits.items limits.total c n views) (sym least) run)

pub claim_allowed : (limits : Limits) (slots id : ℕ) (me : Me (Unit {0}) Hand) → 0 < me.0.allowance
    → Allows (IsRunning limits) slots id me 0 (λ n. (n + 1) % 2 ^ 64) (claimed (step slots 0 1 0 mathlib.Core.Option.none) me)
claim_allowed limits slots id me room s holds size at range =
    let c = get_or s.words 0 0 in
    let w = get_or s.words 1 0 in
    let v = me.0 in
    let two = holds.0 in
    let small = holds.1 in
    let run = holds.2 in
    let within = count_within limits.items limits.total c w s.views id v run at in
    let next : c + 1 < 2 ^ 64 = omega arith in
    let inside : 0 < length s.words = omega arith in
    let u = hand (v.drawn ++ c ∷ []) v.found v.passed (v.allowance - 1) in (
      u,
      keeps,
      tt,
      (
        length-set s.words 0 ((c + 1) % 2 ^ 64) ∙ two,
        small,
        running limits (set s.words 0 ((c + 1) % 2 ^ 64)) (c + 1) w (set s.views id u)
            (get_or-set_same s.words 0 ((c + 1) % 2 ^ 64) 0 inside ∙ mod-eq_of_lt next)
            (get_or-set_other s.words 0 1 ((c + 1) % 2 ^ 64) 0 (λ e. omega arith))
            (claims c w s.views id v run at room),
      ),
      (refl, drawn_below limits.items limits.total c w s.views id v run at),
    )

pub find_allowed : (limits : Limits) (slots id k : ℕ) (me : Me (Unit {0}) Hand) → k < limits.items → Contains me.0.drawn k → ¬ Contains me.0.found k
    → Allows (IsRunning limits) slots id me 1 (λ n. min n k) (reported (step slots 1 k 0 mathlib.Core.Option.none) me)
find_allowed limits slots id k me below drawn once s holds size at range =
    let c = get_or s.words 0 0 in
    let w = get_or s.words 1 0 in
    let v = me.0 in
    let two = holds.0 in
    let inside : 1 < length s.words = omega arith in (
      with_found k v,
      keeps,
      tt,
      (
        length-set s.words 1 (min w k) ∙ two,
        holds.1,
        running limits (set s.words 1 (min w k)) c (min w k) (set s.views id (with_found k v))
            (get_or-set_other s.words 1 0 (min w k) 0 (λ e. omega arith))
            (get_or-set_same s.words 1 (min w k) 0 inside)
            (finds c w s.views id v k holds.2 at below drawn once),
      ),
      refl,
    )

pub look_allowed : (limits : Limits) (slots id k : ℕ) (me : Me (Unit {0}) Hand) → k < limits.items → Contains me.0.drawn k
    → Allows (IsRunning limits) slots id me 1 (λ n. n) (looked k (step slots 1 0 0 mathlib.Core.Option.none) me)
look_allowed limits slots id k me below drawn s holds size at range =
    let c = get_or s.words 0 0 in
    let w = get_or s.words 1 0 in
    let v = me.0 in
    let two = holds.0 in
    let inside : 1 < length s.words = omega arith in
    let u = with_passed (nat_lt w k) k v in (
      u,
      keeps,
      tt,
      (
        length-set s.words 1 w ∙ two,
        holds.1,
        running limits (set s.words 1 w) c w (set s.views id u)
            (get_or-set_other s.words 1 0 w 0 (λ e. omega arith))
            (get_or-set_same s.words 1 w 0 inside)
            (looks c w s.views id v k holds.2 at below drawn),
      ),
      (refl, least_at limits.items limits.total c w s.views id v holds.2 at),
    )

pub split_allowed : (limits : Limits) (id part : ℕ) (v : Hand) → part ≤ v.allowance
    → Splits {S = Unit {0}} (IsRunning limits) id v (hand v.drawn v.found v.passed (v.allowance - part)) (hand [] [] [] part)
split_allowed limits id part v enough s holds at = (holds.0, holds.1, splits (get_or s.words 0 0) (get_or s.words 1 0) s.views id v part holds.2 at enough)

pub join_allowed : (limits : Limits) (id other : ℕ) (u v : Hand)
    → Joins {S = Unit {0}} (IsRunning limits) id u other v (hand (u.drawn ++ v.drawn) (u.found ++ v.found) (u.passed ++ v.passed) (u.allowance + v.allowance)) (hand [] [] [] 0)
join_allowed limits id other u v s holds at apart there =
    (holds.0, holds.1, joins (get_or s.words 0 0) (get_or s.words 1 0) s.views id other u v holds.2 at apart (sym (set_else s.views id other _ apart) ∙ there))

-- the count that a closed board has is that of a run in which the seat has its view
pub last_run : (limits : Limits) (count : ℕ) (words : List ℕ) (s : State (Unit {0}) Hand)
    → IsRunning limits s → s.words ≡ words → get_elem? words 0 ≡ some count → BoardRun limits.items limits.total count (get_or s.words 1 0) s.views
last_run limits count words s holds same first =
    let e : get_elem? s.words 0 ≡ some count = ap (λ ws. get_elem? ws 0) same ∙ first in
    let p = at_place s.words 0 count e in
    subst (λ n. BoardRun limits.items limits.total n (get_or s.words 1 0) s.views) (get_or_default s.words 0 0 count p.0 ∙ p.1) holds.2
