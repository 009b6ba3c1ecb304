use Rattle.ir_lexer.proofs.Common.{length, take, not, ◌≡◌, ◌≤◌, ◌+◌}
use Rattle.std.specs.List.{suffix_len}
use Rattle.text_places.specs.Place.{is_line_feed}
use Rattle.ir_lexer.proofs.cursor.column_behind.Given as goal

abbrev pub invariant-loop-start : goal.invariant-loop-start
invariant-loop-start l = record {
  within : l.start ≤ length l.bytes;
  column : l.start + suffix_len (λ b. not (is_line_feed b)) l.bytes ≡ length l.bytes + suffix_len (λ b. not (is_line_feed b)) (take l.start l.bytes);
}

abbrev pub decreases-loop-start : goal.decreases-loop-start
decreases-loop-start l = l.start
