use Rattle.ir_lexer.proofs.Common.{◌≡◌, ◌-◌, ℕ, not, get_or, take, arith, refl, ap, place_behind}
use Rattle.std.specs.List.{suffix_len}
use Rattle.std.proofs.lemmas.List.Sums.{suffix_len-take_no}
use Rattle.text_places.specs.Place.{is_line_feed}
use Rattle.ir_lexer.proofs.cursor.column_behind.Goals as goal
use Rattle.ir_lexer.proofs.cursor.column_behind.Goals.{then-loop-start-test+else-bytes-start-ne10, else-loop-start-test}

pub returns : goal.returns
unfolding place_behind
returns c =
    elim c.loop-start-test.branch [
      | then-loop-start-test+else-bytes-start-ne10 w ↦
          let feed : get_or c.args.bytes.now (c.loop-start.start - 1) 0 ≡ 10 = w.if-bytes-start-ne10.false in
          let none = suffix_len-take_no (λ b. not (is_line_feed b)) c.args.bytes.now c.loop-start.start 0 w.loop-start-test.true c.loop-start.invariant.within (rw feed refl) in
          omega (arith, none, c.loop-start.invariant.within, c.loop-start.invariant.column)
      | else-loop-start-test w ↦
          let zero : c.loop-start.start ≡ 0 = omega (arith, w.loop-start-test.false) in
          let none : suffix_len (λ b. not (is_line_feed b)) (take c.loop-start.start c.args.bytes.now) ≡ 0 = ap (λ (n : ℕ). suffix_len (λ b. not (is_line_feed b)) (take n c.args.bytes.now)) zero in
          omega (arith, none, zero, c.loop-start.invariant.within, c.loop-start.invariant.column)
    ]
