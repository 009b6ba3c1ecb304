use Rattle.std.proofs.Common.{◌≡◌, [], ◌∷◌, ◌∙◌, subst, sym}
use Rattle.bv_terms.specs.Trees.{Keeps}
use Rattle.mem_terms.specs.Values.{Each}
use Rattle.mem_terms.specs.Memory.{AreSymBlocks, IsAlways}
use Rattle.mem_terms.proofs.Later.{always-later, is_term-later, keeps_trans, sym_block-later, sym_value-later}
use Rattle.test_solving.proofs.memory_outcome_tests.outcome.Goals as goal

pub returns-clause-made : goal.returns-clause-made
returns-clause-made c =
    let a = c.block.new.terms in
    let b = c.value.new.terms in
    let d = c.number.new.terms in
    let e = c.truth.new.terms in
    let f = c.truth-2.new.terms in
    let given = c.in_ok-given.given in
    let k_e = c.truth-2.ensures.kept in
    let k_d : Keeps d f = keeps_trans d e f c.truth.ensures.kept k_e in
    let k_b : Keeps b f = keeps_trans b d f c.number.ensures.kept k_d in
    let k_a : Keeps a f = keeps_trans a b f c.value.ensures.kept k_b in
    let is : c.from_vec.result ≡ given ∷ [] = c.from_vec.ensures ∙ c.in_ok-from_array.ensures.items in
    record {
      ub = record { within = c.in_ok-never.ensures.made.within; wide = c.in_ok-never.ensures.made.wide };
      beyond = record { within = c.in_ok-never.ensures.made.within; wide = c.in_ok-never.ensures.made.wide };
      value = sym_value-later b f k_b c.in_ok-returned.returned c.in_ok-returned.ensures.made;
      blocks = subst (AreSymBlocks f) (sym is) (sym_block-later a f k_a given c.in_ok-given.ensures.made, tt);
      always = subst (Each (IsAlways f)) (sym is) (always-later a f k_a given c.in_ok-given.ensures.made c.in_ok-given.ensures.always, tt);
      read = is_term-later d f k_d 64 c.in_ok-read.read (record { within = c.in_ok-read.ensures.made.within; wide = c.in_ok-read.ensures.made.wide });
      plain = is_term-later e f k_e 1 c.in_ok-plain.plain (record { within = c.in_ok-plain.ensures.made.within; wide = c.in_ok-plain.ensures.made.wide });
    }
