-- What workers bring back from the board.
use Rattle.std.specs.Prelude.{◌≡◌, ℕ, Bool, true, false, ◌+◌, ◌-◌, ◌*◌, ◌<◌, ◌≤◌, List, [], length, map, All, Any, slice_index_or, Contains, Option, None, Some, IsSome, vec_capacity}
use mathlib.Core.Logic.{◌⊎◌}
use Rattle.claim_board.specs.declared.board.Board.{Board}
use Rattle.claim_board.specs.declared.board.Hand.{Hand}
use Rattle.claim_board.specs.Board.{hand, times}
use Rattle.claim_board.specs.Seats.{IsSeatOf, hand_of, items_of}
use Rattle.pair_driver.specs.declared.judged.Judged.{Judged}
use Rattle.pair_driver.specs.declared.place.Answer.{Answer}
use Rattle.pair_driver.specs.declared.desks.Desk.{Desk}

-- an answer for each of n tasks, in order, each one that its task allows
pub record AreRun (allows : ℕ → Judged → Type 0) (n : ℕ) (answers : List Judged) : Type 0 where
  pub count : length answers ≡ n
  pub each : (i : ℕ) (d : Judged) → i < n → allows i (slice_index_or answers i d)

-- no answer but the last ends the run, and one does where there are fewer than n
pub record StopsAtFirst (ends : Judged → Bool) (n : ℕ) (answers : List Judged) : Type 0 where
  pub few : length answers ≤ n
  pub before : (i : ℕ) (d : Judged) → i + 1 < length answers → ends (slice_index_or answers i d) ≡ false
  pub last : length answers < n → Any (λ judged. ends judged ≡ true) answers

-- the answers for n tasks, in order, up to the first one that ends the run, each one that its task allows
pub record AreFirst (allows : ℕ → Judged → Type 0) (ends : Judged → Bool) (n : ℕ) (answers : List Judged) : Type 0 where
  pub stops : StopsAtFirst ends n answers
  pub each : (i : ℕ) (d : Judged) → i < length answers → allows i (slice_index_or answers i d)

-- the answer is allowed for the task of its number
abbrev pub IsAllowedAt : (ℕ → Judged → Type 0) → ℕ → Answer → Type 0
IsAllowedAt allows n answer = (answer.number < n) × allows answer.number answer.judged

-- an answer to the task of this number ends the run
abbrev pub IsEndedAt : (Judged → Bool) → List Answer → ℕ → Type 0
IsEndedAt ends answers k = Any (λ a. (a.number ≡ k) × (ends a.judged ≡ true)) answers

-- a worker's seat has claimed only tasks, each once, and may claim once more than there are tasks
pub record IsClaiming (n : ℕ) (v : Hand) : Type 0 where
  pub budget : length v.drawn + v.allowance ≡ n + 1
  pub inside : All (λ x. x < n) v.drawn
  pub packed : (m : ℕ) → All (λ x. x < m) v.drawn → length v.drawn ≤ m

-- a worker that has claimed nothing: its list has room for an answer to every task
pub record IsFresh (board : Board) (n : ℕ) (desk : Desk) : Type 0 where
  pub items : items_of board ≡ n
  pub seat : IsSeatOf board desk.seat
  pub hand : hand_of desk.seat ≡ hand [] [] [] (n + 1)
  pub none : desk.answers.items ≡ []
  pub room : n ≤ vec_capacity desk.answers

-- the seat has claimed until no task was left
abbrev pub HasEnded : ℕ → Hand → Type 0
HasEnded n v = Any (λ x. n ≤ x) v.drawn

-- a task is answered or passed over as often as it was claimed
abbrev pub AreCounted : ℕ → Hand → List Answer → Type 0
AreCounted n v answers = (x : ℕ) → x < n → times x (map (λ a. a.number) answers) + times x v.passed ≡ times x v.drawn

-- workers have claimed until no task was left: each task that they claimed is answered or passed over, and
-- each one that they reported as found has an answer that ends the run
pub record IsDone (allows : ℕ → Judged → Type 0) (ends : Judged → Bool) (n : ℕ) (workers : ℕ) (v : Hand) (answers : List Answer) : Type 0 where
  pub budget : length v.drawn + v.allowance ≡ workers * (n + 1)
  pub counted : AreCounted n v answers
  pub allowed : All (IsAllowedAt allows n) answers
  pub found : All (IsEndedAt ends answers) v.found
  pub ended : HasEnded n v

-- what such a group of workers brings back
pub record IsGroup (board : Board) (allows : ℕ → Judged → Type 0) (ends : Judged → Bool) (n : ℕ) (workers : ℕ) (desk : Desk) : Type 0 where
  pub seat : IsSeatOf board desk.seat
  pub done : IsDone allows ends n workers (hand_of desk.seat) desk.answers.items

-- no two answers are to one task
abbrev pub AreUnique : List Answer → Type 0
AreUnique answers = (a b : Answer) → Contains answers a → Contains answers b → a.number ≡ b.number → a ≡ b

-- the task is answered, or one before it has an answer that ends the run
abbrev pub IsReached : (Judged → Bool) → List Answer → ℕ → Type 0
IsReached ends answers x = Any (λ a. a.number ≡ x) answers ⊎ ((k : ℕ) × (k < x) × IsEndedAt ends answers k)

-- each judgement is at the index of its answer's number
abbrev pub ArePlaced : List Answer → List Judged → Type 0
ArePlaced answers placed = (i : ℕ) (d : Judged) → i < length placed → Contains answers (record { number = i; judged = slice_index_or placed i d })

-- a slot holds what some answer of its number says, and each answer's slot holds something
pub record AreFilled (answers : List Answer) (slots : List (Option Judged)) : Type 0 where
  pub right : (i : ℕ) (j : Judged) → slice_index_or slots i None ≡ Some j → Contains answers (record { number = i; judged = j })
  pub full : (i : ℕ) → i < length slots → Any (λ a. a.number ≡ i) answers → IsSome (slice_index_or slots i None)

-- whether the slot holds an answer that ends the run
abbrev pub slot_ends : (Judged → Bool) → Option Judged → Bool
slot_ends ends None = false
slot_ends ends (Some judged) = ends judged

-- m is the number of slots up to and with the first that ends the run
pub record IsFirstEnd (ends : Judged → Bool) (slots : List (Option Judged)) (m : ℕ) : Type 0 where
  pub few : m ≤ length slots
  pub before : (i : ℕ) → i + 1 < m → slot_ends ends (slice_index_or slots i None) ≡ false
  pub last : m < length slots → (0 < m) × (slot_ends ends (slice_index_or slots (m - 1) None) ≡ true)
