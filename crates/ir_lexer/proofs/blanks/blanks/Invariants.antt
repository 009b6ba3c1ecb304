use Rattle.ir_lexer.proofs.Common.{length, drop, take, ◌≡◌, ◌≤◌, ◌+◌, ◌-◌, ◌++◌, ℕ, List, false, behind_blanks, place_behind}
use Rattle.ir_lexer.proofs.blanks.blanks.Given as goal

abbrev pub invariant-loop-len : goal.invariant-loop-len
invariant-loop-len l = record {
  value : behind_blanks false (drop l.len l.text) ≡ behind_blanks false l.text;
  within : l.len ≤ length l.text;
  line : l.place.line ≤ l.fn.start.line + l.len;
  column : l.place.column ≤ l.fn.start.column + l.len;
  here : (before : List ℕ) → l.fn.start ≡ place_behind before → l.place ≡ place_behind (before ++ take l.len l.text);
}

abbrev pub decreases-loop-len : goal.decreases-loop-len
decreases-loop-len l = length l.text - l.len
