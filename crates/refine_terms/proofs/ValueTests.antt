-- The tests of two pointers, values and bytes.
use Rattle.refine_terms.proofs.Common.{ℕ, zero, suc, ◌≡◌, ◌<◌, ◌+◌, ◌-◌, ◌^◌, Bool, true, false, cond, not, ◌&&◌, ◌||◌, List, nat_eq, nat_lt, bit_and, refl, sym, ap, ◌∙◌, arith, both_ways, same_pointer, byte_allows, value_allows, TermId, Term, truth, width_of, tree_in, AreInRange, IsTerm, Keeps, Makes, Tests, bit_at, term_at, SymByte, IsSymValue, block_name, first_local, reading, value_at, IsSymByte, byte_at, term-below, bit-later, keeps_trans, term-later}
use Rattle.mem_terms.specs.declared.values.SymValue.{SymValue}
use Rattle.memory_access.specs.Bytes.{defined_bits}
use Rattle.refine_terms.specs.Alike.{alike_bits, alike_numbers, alike_parts, alike_pointers}
use Rattle.refine_terms.proofs.Refining.{addresses_are, bytes_are, picked_truth, values_are}

-- ---- pointers

module _ (given last : ℕ) (is_last : first_local given ≡ last + 1) (old a b c d e : List Term) (dead block offset same id : TermId) (sb so tb to : TermId)
    (hsb : IsTerm old 64 sb) (hso : IsTerm old 64 so) (htb : IsTerm old 64 tb) (hto : IsTerm old 64 to)
    (ka : Keeps old a) (kb : Keeps a b) (kc : Keeps b c) (kd : Keeps c d)
    (t1 : Tests a dead (λ v. nat_lt last (term_at v old sb) && nat_lt last (term_at v old tb)))
    (t2 : Tests b block (λ v. nat_eq (term_at v a sb) (term_at v a tb))) (t3 : Tests c offset (λ v. nat_eq (term_at v b so) (term_at v b to)))
    (t4 : Tests d same (λ v. bit_at v c block && bit_at v c offset)) (t5 : Tests e id (λ v. bit_at v d dead || bit_at v d same)) where
  pub address_tests : Tests e id (λ v. same_pointer (block_name given (term_at v old sb)) (term_at v old so) (block_name given (term_at v old tb)) (term_at v old to))
  address_tests = record {
    within = t5.within;
    wide = t5.wide;
    says = λ v.
        let k_b = keeps_trans old a b ka kb in
        let dead_is = bit-later a d (keeps_trans a c d (keeps_trans a b c kb kc) kd) v dead t1.within ∙ t1.says v in
        let block_is = bit-later b c kc v block t2.within ∙ t2.says v in
        t5.says v ∙ (rw (
          dead_is,
          t4.says v,
          block_is,
          term-later old a ka v sb hsb.within,
          term-later old a ka v tb htb.within,
          t3.says v,
          term-later old b k_b v so hso.within,
          term-later old b k_b v to hto.within,
        ) (addresses_are given last is_last (term_at v old sb) (term_at v old so) (term_at v old tb) (term_at v old to)));
  }

-- ---- values

module _ (given : ℕ) (old a b c d : List Term) (s t : SymValue) (same is_value fine id : TermId) (range : AreInRange old) (hs : IsSymValue old s) (ht : IsSymValue old t)
    (ka : Keeps old a) (kb : Keeps a b) (kc : Keeps b c)
    (t1 : Tests a same (λ v. nat_eq (term_at v old s.is_pointer) (term_at v old t.is_pointer)
    && cond (bit_at v old s.is_pointer) (same_pointer (block_name given (term_at v old s.block)) (term_at v old s.number) (block_name given (term_at v old t.block)) (term_at v old t.number)) (nat_eq (term_at v old s.number) (term_at v old t.number))))
    (t2 : Tests b is_value (λ v. not (bit_at v a t.poison))) (t3 : Tests c fine (λ v. bit_at v b is_value && bit_at v b same)) (t4 : Tests d id (λ v. bit_at v c s.poison || bit_at v c fine)) where
  pub value_tests : Tests d id (λ v. value_allows (value_at (reading given v) old s) (value_at (reading given v) old t))
  unfolding value_at
  value_tests = record {
    within = t4.within;
    wide = t4.wide;
    says = λ v.
        let poison_is = bit-later old c (keeps_trans old b c (keeps_trans old a b ka kb) kc) v s.poison hs.poison.within in
        let same_is = bit-later a b kb v same t1.within ∙ t1.says v in
        t4.says v ∙ (rw (poison_is, t3.says v, t2.says v, bit-later old a ka v t.poison ht.poison.within, same_is)
        (values_are (bit_at v old s.poison) (bit_at v old t.poison) (term_at v old s.is_pointer) (term_at v old t.is_pointer) (block_name given (term_at v old s.block)) (block_name given (term_at v old t.block)) (term_at v old s.number) (term_at v old t.number)
        (term-below old 1 s.is_pointer range hs.is_pointer v) (term-below old 1 t.is_pointer range ht.is_pointer v)));
  }

-- ---- bits

pub outside_made : (old a b : List Term) (number mask others id : TermId) → IsTerm old 8 number → IsTerm old 8 mask → Keeps old a → Makes a others (width_of (tree_in old mask)) (λ v. 2 ^ width_of (tree_in old mask) - 1 - term_at v old mask)
    → Makes b id (width_of (tree_in a number)) (λ v. bit_and (term_at v a number) (term_at v a others)) → Makes b id 8 (λ v. defined_bits (term_at v old number) (term_at v old mask))
outside_made old a b number mask others id hn hm ka m1 m2 = record {
  within = m2.within;
  wide = m2.wide ∙ (ap width_of (ka.kept number hn.within) ∙ hn.wide);
  says = λ v. m2.says v ∙ (rw (term-later old a ka v number hn.within, m1.says v, hm.wide) refl);
}

module _ (old a b c d : List Term) (s t : SymByte) (hs : IsSymByte old s) (ht : IsSymByte old t) (ka : Keeps old a) (kb : Keeps a b) (kc : Keeps b c) where
  pub numbers_tests : (from to seen id : TermId) → Makes a from 8 (λ v. defined_bits (term_at v old s.number) (term_at v old s.mask)) → Makes b to 8 (λ v. defined_bits (term_at v a t.number) (term_at v a t.mask))
      → Makes c seen 8 (λ v. defined_bits (term_at v b to) (term_at v b s.mask)) → Tests d id (λ v. nat_eq (term_at v c from) (term_at v c seen)) → Tests d id (λ v. alike_numbers v old s t)
  numbers_tests from to seen id m1 m2 m3 t4 = record {
    within = t4.within;
    wide = t4.wide;
    says = λ v.
        let from_is = term-later a c (keeps_trans a b c kb kc) v from m1.within ∙ m1.says v in
        t4.says v ∙ (rw (
          from_is,
          m3.says v,
          m2.says v,
          term-later old b (keeps_trans old a b ka kb) v s.mask hs.mask.within,
          term-later old a ka v t.number ht.number.within,
          term-later old a ka v t.mask ht.mask.within,
        ) refl);
  }

  pub bits_tests : (same more within id : TermId) → Tests a same (λ v. alike_numbers v old s t) → Makes b more 8 (λ v. defined_bits (term_at v a t.mask) (term_at v a s.mask))
      → Tests c within (λ v. nat_eq (term_at v b more) 0) → Tests d id (λ v. bit_at v c within && bit_at v c same) → Tests d id (λ v. alike_bits v old s t)
  bits_tests same more within id t1 m2 t3 t4 = record {
    within = t4.within;
    wide = t4.wide;
    says = λ v.
        let same_is = bit-later a c (keeps_trans a b c kb kc) v same t1.within ∙ t1.says v in
        t4.says v ∙ (rw (t3.says v, m2.says v, term-later old a ka v t.mask ht.mask.within, term-later old a ka v s.mask hs.mask.within, same_is) refl);
  }

-- the choice between two tests is a test
pub picked_tests : (old new : List Term) (c x y id : TermId) (n : ℕ) → Makes new id n (λ v. cond (bit_at v old c) (term_at v old x) (term_at v old y)) → n ≡ 1 → Tests new id (λ v. cond (bit_at v old c) (bit_at v old x) (bit_at v old y))
picked_tests old new c x y id n m one = record {
  within = m.within;
  wide = m.wide ∙ one;
  says = λ v. ap truth (m.says v) ∙ picked_truth (bit_at v old c) (term_at v old x) (term_at v old y);
}

-- where the source's byte is no part
abbrev pub allowed_by_bits : (ℕ → ℕ → ℕ) → List Term → SymByte → SymByte → Bool
allowed_by_bits v terms s t = cond (bit_at v terms t.is_part) (nat_eq (term_at v terms s.mask) 255) (alike_bits v terms s t)

pub by_bits_tests : (old a b c : List Term) (s t : SymByte) (bits all_poison id : TermId) → IsSymByte old s → IsSymByte old t → Keeps old a → Keeps a b
    → Tests a bits (λ v. alike_bits v old s t) → Tests b all_poison (λ v. nat_eq (term_at v a s.mask) 255)
    → Tests c id (λ v. cond (bit_at v b t.is_part) (bit_at v b all_poison) (bit_at v b bits)) → Tests c id (λ v. allowed_by_bits v old s t)
by_bits_tests old a b c s t bits all_poison id hs ht ka kb t1 t2 t3 = record {
  within = t3.within;
  wide = t3.wide;
  says = λ v.
      let bits_is = bit-later a b kb v bits t1.within ∙ t1.says v in
      t3.says v ∙ (rw (bit-later old b (keeps_trans old a b ka kb) v t.is_part ht.is_part.within, t2.says v, term-later old a ka v s.mask hs.mask.within, bits_is) refl);
}

-- ---- bytes

pub same_part_tests : (given : ℕ) (old a b c : List Term) (s t : SymByte) (pointer part id : TermId) → IsSymByte old s → IsSymByte old t → Keeps old a → Keeps a b
    → Tests a pointer (λ v. alike_pointers given v old s.block s.offset t.block t.offset) → Tests b part (λ v. nat_eq (term_at v a s.part) (term_at v a t.part))
    → Tests c id (λ v. bit_at v b pointer && bit_at v b part) → Tests c id (λ v. alike_parts given v old s t)
same_part_tests given old a b c s t pointer part id hs ht ka kb t1 t2 t3 = record {
  within = t3.within;
  wide = t3.wide;
  says = λ v.
      let pointer_is = bit-later a b kb v pointer t1.within ∙ t1.says v in
      t3.says v ∙ (rw (pointer_is, t2.says v, term-later old a ka v s.part hs.part.within, term-later old a ka v t.part ht.part.within) refl);
}

module _ (given : ℕ) (old a b c d : List Term) (s t : SymByte) (same part bits id : TermId) (hs : IsSymByte old s) (ht : IsSymByte old t) (ka : Keeps old a) (kb : Keeps a b) (kc : Keeps b c)
    (t1 : Tests a same (λ v. alike_parts given v old s t)) (t2 : Tests b part (λ v. bit_at v a t.is_part && bit_at v a same)) (t3 : Tests c bits (λ v. allowed_by_bits v b s t))
    (t4 : Tests d id (λ v. cond (bit_at v c s.is_part) (bit_at v c part) (bit_at v c bits))) where
  pub byte_tests : Tests d id (λ v. byte_allows (byte_at (reading given v) old s) (byte_at (reading given v) old t))
  unfolding byte_at
  byte_tests = record {
    within = t4.within;
    wide = t4.wide;
    says = λ v.
        let k_b = keeps_trans old a b ka kb in
        let part_is = bit-later b c kc v part t2.within ∙ t2.says v in
        t4.says v ∙ (rw (
          bit-later old c (keeps_trans old b c k_b kc) v s.is_part hs.is_part.within,
          part_is,
          t1.says v,
          bit-later old a ka v t.is_part ht.is_part.within,
          t3.says v,
          bit-later old b k_b v t.is_part ht.is_part.within,
          term-later old b k_b v s.mask hs.mask.within,
          term-later old b k_b v t.mask ht.mask.within,
          term-later old b k_b v s.number hs.number.within,
          term-later old b k_b v t.number ht.number.within,
        )
        (bytes_are (bit_at v old s.is_part) (bit_at v old t.is_part) (term_at v old s.mask) (term_at v old t.mask) (term_at v old s.number) (term_at v old t.number) (term_at v old s.part) (term_at v old t.part)
        (block_name given (term_at v old s.block)) (block_name given (term_at v old t.block)) (term_at v old s.offset) (term_at v old t.offset)));
  }

-- a byte that is no part of a pointer
pub bits_byte_tests : (given : ℕ) (old new : List Term) (s t : SymByte) (id : TermId) → ((v : ℕ → ℕ → ℕ) → bit_at v old s.is_part ≡ false) → Tests new id (λ v. allowed_by_bits v old s t)
    → Tests new id (λ v. byte_allows (byte_at (reading given v) old s) (byte_at (reading given v) old t))
unfolding byte_at
bits_byte_tests given old new s t id no_part k = record {
  within = k.within;
  wide = k.wide;
  says = λ v.
      let whole = bytes_are (bit_at v old s.is_part) (bit_at v old t.is_part) (term_at v old s.mask) (term_at v old t.mask) (term_at v old s.number) (term_at v old t.number) (term_at v old s.part) (term_at v old t.part)
      (block_name given (term_at v old s.block)) (block_name given (term_at v old t.block)) (term_at v old s.offset) (term_at v old t.offset) in
      k.says v ∙ (ap (λ p. cond p (bit_at v old t.is_part && alike_parts given v old s t) (allowed_by_bits v old s t)) (sym (no_part v)) ∙ whole);
}

not_one : (n : ℕ) → n < 2 ^ 1 → nat_eq n 1 ≡ false → truth n ≡ false
not_one zero lt h = refl
not_one (suc zero) lt h = absurd (both_ways true h refl)
not_one (suc (suc n)) lt h = absurd (omega (arith, lt))

-- a bit that may not be 1
pub never_true : (old : List Term) (a : TermId) → AreInRange old → IsTerm old 1 a → ((v : ℕ → ℕ → ℕ) → nat_eq (term_at v old a) 1 ≡ false) → (v : ℕ → ℕ → ℕ) → bit_at v old a ≡ false
never_true old a range h never v = not_one (term_at v old a) (term-below old 1 a range h v) (never v)
