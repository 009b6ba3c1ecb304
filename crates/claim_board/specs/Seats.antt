-- What a caller sees of a board and its seats.
use Rattle.std.specs.Prelude.{◌≡◌, ℕ, []}
use Rattle.claim_board.specs.declared.board.Board.{Board}
use Rattle.claim_board.specs.declared.board.Hand.{Hand}
use Rattle.atomic_table.specs.declared.shared.Seat.{Seat}

-- what the seat has drawn, and may draw
abbrev pub hand_of : Seat (Unit {0}) Hand → Hand
hand_of seat = seat.me.0

-- all allowances at the start
abbrev pub total_of : Board → ℕ
total_of board = board.table.shared.key.total

-- how many items there are: numbers from here on are of none
abbrev pub items_of : Board → ℕ
items_of board = board.table.shared.key.items

-- the seat draws from this board
abbrev pub IsSeatOf : Board → Seat (Unit {0}) Hand → Type 0
IsSeatOf board seat = (seat.table_id ≡ board.table.shared.table_id) × (seat.me.1 ≡ [])
