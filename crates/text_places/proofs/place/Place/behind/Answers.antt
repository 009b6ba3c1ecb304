use Rattle.std.proofs.Common.{◌≡◌, ℕ, ◌<◌, get_or, eqb, true, false, arith, refl}
use Rattle.std.proofs.lemmas.Bool.{eq-eqb, ne_eqb}
use Rattle.text_places.proofs.Moves.{one_more}
use Rattle.text_places.proofs.place.Place.behind.Goals as goal
use Rattle.text_places.proofs.place.Place.behind.Goals.{then-byte-eq10, else-byte-eq10}

pub loop-byte-preserved : goal.loop-byte-preserved
loop-byte-preserved c =
    elim c.if-byte-eq10.branch [
      | then-byte-eq10 w ↦ let feed : eqb (get_or c.args.bytes.now c.loop-byte.byte-index 0) 10 ≡ true = eq-eqb _ _ w.if-byte-eq10.true in record {
        line = omega arith;
        column = omega arith;
        behind = one_more c.args.self c.args.bytes.now c.loop-byte.byte-index (record { line = c.loop-byte.line; column = c.loop-byte.column }) _ c.loop-byte-test.true (rw (w.line-is, w.column-is, feed) refl) c.loop-byte.invariant.behind;
      }
      | else-byte-eq10 w ↦ let other : eqb (get_or c.args.bytes.now c.loop-byte.byte-index 0) 10 ≡ false = ne_eqb _ _ w.if-byte-eq10.false in record {
        line = omega arith;
        column = omega arith;
        behind = one_more c.args.self c.args.bytes.now c.loop-byte.byte-index (record { line = c.loop-byte.line; column = c.loop-byte.column }) _ c.loop-byte-test.true (rw (w.line-is, w.column-is, other) refl) c.loop-byte.invariant.behind;
      }
    ]
