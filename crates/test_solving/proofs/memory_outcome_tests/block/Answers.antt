use Rattle.std.proofs.Common.{arith}
use Rattle.mem_terms.proofs.Later.{is_term-later, keeps_trans, sym_bytes-later}
use Rattle.test_solving.proofs.memory_outcome_tests.block.Goals as goal

pub returns-clause-made : goal.returns-clause-made
returns-clause-made c =
    let a = c.places.new.terms in
    let b = c.number.new.terms in
    let d = c.truth.new.terms in
    record {
      numbered = omega arith;
      exists = record { within = c.in_ok-exists.ensures.made.within; wide = c.in_ok-exists.ensures.made.wide };
      size = is_term-later b d c.truth.ensures.kept 64 c.in_ok-size.size (record { within = c.in_ok-size.ensures.made.within; wide = c.in_ok-size.ensures.made.wide });
      places = sym_bytes-later a d (keeps_trans a b d c.number.ensures.kept c.truth.ensures.kept) c.in_ok-places.places c.in_ok-places.ensures.made;
    }
