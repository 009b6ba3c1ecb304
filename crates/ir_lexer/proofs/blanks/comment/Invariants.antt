use Rattle.ir_lexer.proofs.Common.{length, drop, take, ◌≡◌, ◌≤◌, ◌+◌, ◌-◌, ◌++◌, ℕ, List, true, behind_blanks, Place, place_behind}
use Rattle.ir_lexer.proofs.blanks.comment.Given as goal

abbrev pub invariant-loop-len : goal.invariant-loop-len
invariant-loop-len l = record {
  value : behind_blanks true (drop l.len l.text) ≡ behind_blanks true (drop l.from l.text);
  from : l.from ≤ l.len;
  within : l.len ≤ length l.text;
  column : l.column + l.from ≤ l.place.column + l.len;
  here : (before : List ℕ) → l.place ≡ place_behind (before ++ take l.from l.text) → (let here : Place = record { line = l.place.line; column = l.column } in here) ≡ place_behind (before ++ take l.len l.text);
}

abbrev pub decreases-loop-len : goal.decreases-loop-len
decreases-loop-len l = length l.text - l.len
