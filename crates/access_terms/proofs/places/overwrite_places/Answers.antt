use Rattle.access_terms.proofs.Common.{◌%◌, ◌∙◌, eq-eqb, keeps_trans, sym_bytes-later}
use Rattle.access_terms.proofs.Putting.{put_next}
use Rattle.access_terms.proofs.places.overwrite_places.Goals as goal

pub put_bytes_at-requires-clause-bytes : goal.put_bytes_at-requires-clause-bytes
put_bytes_at-requires-clause-bytes c = sym_bytes-later c.args.terms.now c.loop-place.terms c.loop-place.invariant.kept c.args.bytes.now c.requires.bytes

pub loop-place-preserved : goal.loop-place-preserved
loop-place-preserved c =
    let k = c.loop-place.invariant.kept in
    record {
      kept = keeps_trans c.args.terms.now c.loop-place.terms c.put_bytes_at.new.terms k c.put_bytes_at.ensures.kept;
      made = c.in_ok-put_bytes_at.ensures.made;
      count = c.in_ok-put_bytes_at.ensures.count ∙ c.loop-place.invariant.count;
      stands = λ r. put_next c.args.terms.now c.loop-place.terms c.put_bytes_at.new.terms k c.args.c c.args.offset c.args.bytes.now c.args.places.now c.loop-place.places c.put_bytes_at.new.places c.loop-place.place c.args.align
          c.requires.c c.requires.offset.within c.requires.bytes (eq-eqb (c.loop-place.place % c.args.align) 0 c.if-place-align-ne0.false) r (c.loop-place.invariant.stands r) (c.in_ok-put_bytes_at.ensures.stands r);
    }
