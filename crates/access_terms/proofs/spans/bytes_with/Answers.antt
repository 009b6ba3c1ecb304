use Rattle.access_terms.proofs.Common.{[], keeps_self, keeps_trans, sym_block-later, sym_bytes-later}
use Rattle.access_terms.proofs.Finding.{reads_either, reads_never, reads_one, span_bytes-later}
use Rattle.access_terms.proofs.spans.bytes_with.Goals as goal

pub returns-then-is_never-clause-made : goal.returns-then-is_never-clause-made
returns-then-is_never-clause-made c = span_bytes-later c.args.terms.now c.is_named.new.terms c.is_named.ensures.kept c.args.span c.args.later c.requires.later

pub returns-then-is_never-clause-stands : goal.returns-then-is_never-clause-stands
returns-then-is_never-clause-stands c = λ r naming memory h.
    reads_never c.args.terms.now c.is_named.new.terms c.is_named.new.terms c.args.span c.args.b.now c.in_ok-named.named [] c.is_named.ensures.kept (keeps_self c.is_named.new.terms) c.requires.span c.requires.block r
    (c.in_ok-named.ensures.stands r naming) c.args.later c.requires.later (c.is_never.ensures c.if-is_never.true r.v) memory h

pub bytes_at-requires-clause-block : goal.bytes_at-requires-clause-block
bytes_at-requires-clause-block c = sym_block-later c.args.terms.now c.is_named.new.terms c.is_named.ensures.kept c.args.b.now c.requires.block

pub returns-in-None-clause-stands : goal.returns-in-None-clause-stands
returns-in-None-clause-stands c = λ r naming memory h.
    reads_one c.args.terms.now c.is_named.new.terms c.bytes_at.new.terms c.args.span c.args.b.now c.in_ok-named.named c.in_ok-here.here c.is_named.ensures.kept c.bytes_at.ensures.kept c.requires.span c.requires.block r
    (c.in_ok-named.ensures.stands r naming) (c.in_ok-here.ensures.stands r) memory (rw c.in-None.is at h)

pub pick_bytes-requires-clause-b : goal.pick_bytes-requires-clause-b
pick_bytes-requires-clause-b c =
    rw c.as_slice-in-Some.ensures (sym_bytes-later c.args.terms.now c.bytes_at.new.terms (keeps_trans c.args.terms.now c.is_named.new.terms c.bytes_at.new.terms c.is_named.ensures.kept c.bytes_at.ensures.kept) c.in-Some.later
    (rw c.in-Some.is at c.requires.later).0)

pub returns-in_ok-bytes-in-Some-clause-stands : goal.returns-in_ok-bytes-in-Some-clause-stands
returns-in_ok-bytes-in-Some-clause-stands c = λ r naming memory h.
    reads_either c.args.terms.now c.is_named.new.terms c.bytes_at.new.terms c.args.span c.args.b.now c.in_ok-named.named c.in_ok-here.here c.is_named.ensures.kept c.bytes_at.ensures.kept c.requires.span c.requires.block r
    (c.in_ok-named.ensures.stands r naming) (c.in_ok-here.ensures.stands r) c.pick_bytes.new.terms c.in_ok-bytes-in-Some.bytes c.in-Some.later (rw c.in-Some.is at c.requires.later).0 c.in_ok-named.ensures.made.within
    (λ r'. rw (c.as_slice.ensures, c.as_slice-in-Some.ensures) at (c.in_ok-bytes-in-Some.ensures.stands r')) memory (rw c.in-Some.is at h)
