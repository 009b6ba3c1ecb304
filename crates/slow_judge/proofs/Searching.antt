-- Some points in order, up to the first that nothing covers.
use Rattle.slow_judge.proofs.Common.{◌≡◌, ℕ, ◌<◌, inl, inr, List, true, false, sym, arith, IsTrue, cases_eq, cases_Bool, Bounds, Point, RunPair, run_of, IsPlain, is_covered, place_in, AreSmall, IsNextAmong, IsLastAmong, IsUncovered, IsLeastAmong, AreCoveredAmong}
use Rattle.slow_judge.proofs.Order.{IsFit, same_place}

-- the search has come to this point: each one before it is covered
pub record IsReached (Among : Point → Type 0) (pair : RunPair) (bounds : Bounds) (tapes : List (List ℕ)) (p : Point) : Type 0 where
  pub among : Among p
  pub before : (q : Point) → Among q → IsPlain q.tape (run_of pair.target bounds q.input q.tape) → place_in pair bounds q < place_in pair bounds p → is_covered pair bounds tapes q ≡ true

abbrev pub AreFit : (Point → Type 0) → RunPair → Bounds → Type 0
AreFit Among pair bounds = (q : Point) → Among q → IsFit pair bounds q

pub reached_first : (Among : Point → Type 0) (pair : RunPair) (bounds : Bounds) (tapes : List (List ℕ)) (p : Point) → Among p → place_in pair bounds p ≡ 0 → IsReached Among pair bounds tapes p
reached_first Among pair bounds tapes p among zero_place = record { among = among; before = λ q q_among plain less. absurd (omega (arith, less, zero_place)) }

pub reached_is_least : (Among : Point → Type 0) (pair : RunPair) (bounds : Bounds) (tapes : List (List ℕ)) (p : Point) → IsReached Among pair bounds tapes p → IsUncovered pair bounds tapes p → IsLeastAmong Among pair bounds tapes p
reached_is_least Among pair bounds tapes p reached here = record { among = reached.among; here = here; least = reached.before }

covered_unless : (pair : RunPair) (bounds : Bounds) (tapes : List (List ℕ)) (q : Point) → IsPlain q.tape (run_of pair.target bounds q.input q.tape) → (IsUncovered pair bounds tapes q → IsTrue false) → is_covered pair bounds tapes q ≡ true
covered_unless pair bounds tapes q plain h =
    elim (cases_Bool (is_covered pair bounds tapes q)) as (λ _. is_covered pair bounds tapes q ≡ true) [
      | inl holds ↦ holds
      | inr fails ↦ absurd (let f = h (record { plain = plain; uncovered = fails }) in cc)
    ]

-- a point at the same position is the same
same_covered : (pair : RunPair) (bounds : Bounds) (tapes : List (List ℕ)) (p q : Point) → AreSmall bounds → IsFit pair bounds p → IsFit pair bounds q → IsPlain q.tape (run_of pair.target bounds q.input q.tape) → (IsUncovered pair bounds tapes p → IsTrue false) → place_in pair bounds q ≡ place_in pair bounds p → is_covered pair bounds tapes q ≡ true
same_covered pair bounds tapes p q small fits fits' plain h e =
    let same : p ≡ q = same_place pair bounds p q small fits fits' (sym e) in
    let h' = rw same at h in
    covered_unless pair bounds tapes q plain h'

pub reached_next : (Among : Point → Type 0) (pair : RunPair) (bounds : Bounds) (tapes : List (List ℕ)) (p new : Point) → AreFit Among pair bounds → AreSmall bounds → IsReached Among pair bounds tapes p → (IsUncovered pair bounds tapes p → IsTrue false) → IsNextAmong Among pair bounds p new → IsReached Among pair bounds tapes new
reached_next Among pair bounds tapes p new fit small reached h next = record {
  among = next.among;
  before = λ q q_among plain less.
      let at_most = next.no_gap q q_among less in
      elim (cases_eq (place_in pair bounds q) (place_in pair bounds p)) as (λ _. is_covered pair bounds tapes q ≡ true) [
        | inl same ↦ same_covered pair bounds tapes p q small (fit p reached.among) (fit q q_among) plain h same
        | inr apart ↦ reached.before q q_among plain (omega (arith, at_most, apart))
      ];
}

pub reached_last : (Among : Point → Type 0) (pair : RunPair) (bounds : Bounds) (tapes : List (List ℕ)) (p : Point) → AreFit Among pair bounds → AreSmall bounds → IsReached Among pair bounds tapes p → (IsUncovered pair bounds tapes p → IsTrue false) → IsLastAmong Among pair bounds p → AreCoveredAmong Among pair bounds tapes
reached_last Among pair bounds tapes p fit small reached h last = λ q q_among plain.
    let at_most = last q q_among in
    elim (cases_eq (place_in pair bounds q) (place_in pair bounds p)) as (λ _. is_covered pair bounds tapes q ≡ true) [
      | inl same ↦ same_covered pair bounds tapes p q small (fit p reached.among) (fit q q_among) plain h same
      | inr apart ↦ reached.before q q_among plain (omega (arith, at_most, apart))
    ]
