use Rattle.access_terms.proofs.Common.{IfOk-weaker, block-later, keeps_trans, sym_block-later, sym_bytes-later}
use Rattle.access_terms.proofs.Stored.{block_changes, block_goes, block_stays, on_ok_always}
use Rattle.access_terms.proofs.writing.write_block.Goals as goal

pub returns-then-is_never-clause-block : goal.returns-then-is_never-clause-block
returns-then-is_never-clause-block c = sym_block-later c.args.terms.now c.is_named.new.terms c.is_named.ensures.kept c.args.b.now c.requires.block

pub returns-then-is_never-clause-stays : goal.returns-then-is_never-clause-stays
returns-then-is_never-clause-stays c = λ r naming f. block-later c.args.terms.now c.is_named.new.terms c.is_named.ensures.kept r c.args.b.now c.requires.block

pub overwrite-requires-clause-block : goal.overwrite-requires-clause-block
overwrite-requires-clause-block c =
    sym_block-later c.args.terms.now c.both.new.terms (keeps_trans c.args.terms.now c.is_named.new.terms c.both.new.terms c.is_named.ensures.kept c.both.ensures.kept) c.args.b.now c.requires.block

pub overwrite-requires-clause-bytes : goal.overwrite-requires-clause-bytes
overwrite-requires-clause-bytes c =
    sym_bytes-later c.args.terms.now c.both.new.terms (keeps_trans c.args.terms.now c.is_named.new.terms c.both.new.terms c.is_named.ensures.kept c.both.ensures.kept) c.args.bytes.now c.requires.bytes

pub returns-clause-block : goal.returns-clause-block
returns-clause-block c =
    let t3 = c.overwrite.new.terms in
    let t5 = c.both-2.new.terms in
    on_ok_always c.both-2.result (sym_block-later t3 t5 (keeps_trans t3 c.negation.new.terms t5 c.negation.ensures.kept c.both-2.ensures.kept) c.overwrite.new.b c.in_ok-overwrite.ensures.made)

pub returns-clause-frame : goal.returns-clause-frame
returns-clause-frame c = on_ok_always c.both-2.result c.in_ok-overwrite.ensures.frame

pub returns-clause-goes : goal.returns-clause-goes
returns-clause-goes c = IfOk-weaker c.both-2.result _ _ (λ id m r naming. block_goes c.args.terms.now c.is_named.new.terms c.overwrite.new.terms c.negation.new.terms c.both-2.new.terms c.args.span c.args.c c.in_ok-named.named c.in_ok-other.other id c.args.b.now
    c.is_named.ensures.kept (keeps_trans c.is_named.new.terms c.both.new.terms c.overwrite.new.terms c.both.ensures.kept c.overwrite.ensures.kept) c.negation.ensures.kept c.requires.c c.in_ok-named.ensures.made.within r
    (c.in_ok-named.ensures.stands r naming) (c.in_ok-other.ensures.made.says r.v) (m.says r.v)) c.both-2.ensures.made

pub returns-clause-stays : goal.returns-clause-stays
returns-clause-stays c =
    let t3 = c.overwrite.new.terms in
    let t5 = c.both-2.new.terms in
    on_ok_always c.both-2.result (λ r naming f. block_stays c.args.terms.now c.is_named.new.terms c.both.new.terms t3 t5 c.args.span c.args.c c.in_ok-named.named c.in_ok-here.here c.args.b.now c.overwrite.new.b c.args.bytes.now
    c.is_named.ensures.kept c.both.ensures.kept (keeps_trans t3 c.negation.new.terms t5 c.negation.ensures.kept c.both-2.ensures.kept) c.requires.span c.requires.c c.requires.block c.in_ok-overwrite.ensures.made c.requires.bytes r
    (c.in_ok-named.ensures.stands r naming) (c.in_ok-here.ensures.made.says r.v) (c.in_ok-overwrite.ensures.stays r) f)

pub returns-clause-stands : goal.returns-clause-stands
returns-clause-stands c =
    let t3 = c.overwrite.new.terms in
    let t5 = c.both-2.new.terms in
    on_ok_always c.both-2.result (λ r naming t admitted. block_changes c.args.terms.now c.is_named.new.terms c.both.new.terms t3 t5 c.args.span c.args.c c.in_ok-named.named c.in_ok-here.here c.args.b.now c.overwrite.new.b c.args.bytes.now
    c.is_named.ensures.kept c.both.ensures.kept (keeps_trans t3 c.negation.new.terms t5 c.negation.ensures.kept c.both-2.ensures.kept) c.requires.span c.requires.c c.requires.block c.in_ok-overwrite.ensures.made c.requires.bytes r
    (c.in_ok-named.ensures.stands r naming) (c.in_ok-here.ensures.made.says r.v) (c.in_ok-overwrite.ensures.stands r) t admitted)

pub returns-clause-kept : goal.returns-clause-kept
returns-clause-kept c =
    let t1 = c.is_named.new.terms in
    let t2 = c.both.new.terms in
    let t3 = c.overwrite.new.terms in
    let t5 = c.both-2.new.terms in
    keeps_trans c.args.terms.now t1 t5 c.is_named.ensures.kept (keeps_trans t1 t2 t5 c.both.ensures.kept (keeps_trans t2 t3 t5 c.overwrite.ensures.kept (keeps_trans t3 c.negation.new.terms t5 c.negation.ensures.kept c.both-2.ensures.kept)))
