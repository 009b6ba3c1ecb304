-- The tests of contents, blocks and outcomes.
use Rattle.refine_terms.proofs.Common.{ℕ, ◌≡◌, ◌↔◌, ◌<◌, ◌≤◌, ◌+◌, ◌-◌, Bool, true, false, not, ◌&&◌, ◌||◌, List, length, map, take, drop, get_or, nat_eq, nat_lt, refl, sym, ap, ◌∙◌, arith, byte_allows, block_allows, blocks_allow, pairs_pass, returned_allows, is_refined, TermId, Term, IsTerm, Keeps, Makes, Tests, bit_at, term_at, SymByte, Each, block_name, reading, value_at, AreSymBlocks, AreSymBytes, IsAlways, IsSymBlock, IsSymByte, SymFrame, block_at, byte_at, frame_of, memory_at, places_at, at-any, each-at, bit-later, block-later, byte-later, keeps_trans, memory-later, places-later, term-later, memory-always, eqb-true, eq-eqb}
use Rattle.std.specs.Option.{option_map}
use Rattle.mem_terms.specs.declared.blocks.SymBlock.{SymBlock}
use Rattle.mem_terms.specs.declared.outcome.OutcomeTerms.{OutcomeTerms}
use Rattle.mem_terms.specs.Outcomes.{IsOutcome, outcome_at}
use Rattle.refine_terms.proofs.Truths.{and_says}
use Rattle.refine_terms.proofs.Refining.{blocks_are, blocks_done, block_step, byte_allows-same, covered_is, place_step, places_begin, places_done, tests_more}

ids_say : (a b : TermId) → (nat_eq a.index b.index ≡ true) ↔ (a ≡ b)
ids_say a b = ((λ e. ap (λ (i : ℕ). record { index = i }) (eqb-true a.index b.index e)), (λ e. eq-eqb a.index b.index (ap (λ (x : TermId). x.index) e)))

abbrev byte_from : (is_part mask number block offset part : TermId) → SymByte
byte_from is_part mask number block offset part = record { is_part = is_part; mask = mask; number = number; block = block; offset = offset; part = part }

same_terms : (a b c d e f a' b' c' d' e' f' : TermId) → a ≡ a' → b ≡ b' → c ≡ c' → d ≡ d' → e ≡ e' → f ≡ f' → byte_from a b c d e f ≡ byte_from a' b' c' d' e' f'
same_terms a b c d e f a' b' c' d' e' f' ea eb ec ed ee ef = rw (ea, eb, ec, ed, ee, ef) refl

-- two bytes whose terms are equal
pub terms_same : (s t : SymByte)
    → (nat_eq s.is_part.index t.is_part.index && (nat_eq s.mask.index t.mask.index && (nat_eq s.number.index t.number.index && (nat_eq s.block.index t.block.index && (nat_eq s.offset.index t.offset.index && nat_eq s.part.index t.part.index))))) ≡ true → s ≡ t
terms_same s t h =
    let rest = and_says _ _ _ _ (ids_say s.block t.block) (and_says _ _ _ _ (ids_say s.offset t.offset) (ids_say s.part t.part)) in
    let all = (and_says _ _ _ _ (ids_say s.is_part t.is_part) (and_says _ _ _ _ (ids_say s.mask t.mask) (and_says _ _ _ _ (ids_say s.number t.number) rest))).0 h in
    same_terms s.is_part s.mask s.number s.block s.offset s.part t.is_part t.mask t.number t.block t.offset t.part all.0 all.1.0 all.1.1.0 all.1.1.1.0 all.1.1.1.1.0 all.1.1.1.1.1

pub byte_is_same : (given : ℕ) (old new : List Term) (s t : SymByte) (id : TermId) → s ≡ t → Tests new id (λ _. true) → Tests new id (λ v. byte_allows (byte_at (reading given v) old s) (byte_at (reading given v) old t))
byte_is_same given old new s t id e k = record {
  within = k.within;
  wide = k.wide;
  says = λ v. k.says v ∙ sym (ap (λ b. byte_allows (byte_at (reading given v) old s) (byte_at (reading given v) old b)) (sym e) ∙ byte_allows-same (byte_at (reading given v) old s));
}

-- ---- contents

-- the default where a list has no byte
abbrev pub no_sym_byte : SymByte
no_sym_byte = record { is_part = record { index = 0 }; mask = record { index = 0 }; number = record { index = 0 }; block = record { index = 0 }; offset = record { index = 0 }; part = record { index = 0 } }

-- the contents from an index on, before the size
abbrev pub places_pass : (given : ℕ) → (ℕ → ℕ → ℕ) → List Term → TermId → ℕ → List SymByte → List SymByte → Bool
places_pass given v old size i xs ys = pairs_pass byte_allows (take (term_at v old size - i) (places_at (reading given v) old (drop i xs))) (take (term_at v old size - i) (places_at (reading given v) old (drop i ys)))

abbrev pub all_pass : (given : ℕ) → (ℕ → ℕ → ℕ) → List Term → TermId → List SymByte → List SymByte → Bool
all_pass given v old size xs ys = pairs_pass byte_allows (take (term_at v old size) (places_at (reading given v) old xs)) (take (term_at v old size) (places_at (reading given v) old ys))

pub places_start : (given : ℕ) (old a : List Term) (size all : TermId) (xs ys : List SymByte) → Tests a all (λ _. true) → (v : ℕ → ℕ → ℕ) → (bit_at v a all && places_pass given v old size 0 xs ys) ≡ all_pass given v old size xs ys
places_start given old a size all xs ys t v = rw (t.says v) (places_begin byte_allows (term_at v old size) (places_at (reading given v) old xs) (places_at (reading given v) old ys))

module _ (given : ℕ) (old a b c d e f : List Term) (size place is_there allowed fine all next : TermId) (xs ys : List SymByte) (i : ℕ) (x y : SymByte) (hsize : IsTerm old 64 size) (hxs : AreSymBytes old xs) (hys : AreSymBytes old ys)
    (lt : i < length xs) (lt_y : i < length ys) (hall : IsTerm a 1 all) (k : Keeps old a) (kb : Keeps a b) (kc : Keeps b c) (kd : Keeps c d) (ke : Keeps d e)
    (so : (v : ℕ → ℕ → ℕ) → (bit_at v a all && places_pass given v old size i xs ys) ≡ all_pass given v old size xs ys)
    (m1 : Makes b place 64 (λ _. i)) (t2 : Tests c is_there (λ v. nat_lt (term_at v b place) (term_at v b size)))
    (t3 : Tests d allowed (λ v. byte_allows (byte_at (reading given v) c (get_or xs i x)) (byte_at (reading given v) c (get_or ys i y))))
    (t4 : Tests e fine (λ v. not (bit_at v d is_there) || bit_at v d allowed)) (t5 : Tests f next (λ v. bit_at v e all && bit_at v e fine)) where
  k_b : Keeps old b
  k_b = keeps_trans old a b k kb

  k_c : Keeps old c
  k_c = keeps_trans old b c k_b kc

  pub place_row : (v : ℕ → ℕ → ℕ) → (bit_at v f next && places_pass given v old size (i + 1) xs ys) ≡ all_pass given v old size xs ys
  place_row v =
      let all_is = bit-later a e (keeps_trans a d e (keeps_trans a c d (keeps_trans a b c kb kc) kd) ke) v all hall.within in
      let there_is = bit-later c d kd v is_there t2.within ∙ t2.says v in
      let hx = each-at (IsSymByte old) xs i (get_or xs i x) hxs lt (at-any xs i x (get_or xs i x) lt) in
      let hy = each-at (IsSymByte old) ys i (get_or ys i y) hys lt_y (at-any ys i y (get_or ys i y) lt_y) in
      rw (
        t5.says v,
        all_is,
        t4.says v,
        there_is,
        m1.says v,
        term-later old b k_b v size hsize.within,
        t3.says v,
        byte-later old c k_c (reading given v) (get_or xs i x) hx,
        byte-later old c k_c (reading given v) (get_or ys i y) hy,
      )
      (tests_more (bit_at v a all) (not (nat_lt i (term_at v old size)) || byte_allows (byte_at (reading given v) old (get_or xs i x)) (byte_at (reading given v) old (get_or ys i y)))
      (places_pass given v old size i xs ys) (places_pass given v old size (i + 1) xs ys) (all_pass given v old size xs ys) (place_step byte_allows (byte_at (reading given v) old) (term_at v old size) i xs ys x y lt lt_y) (so v))

and_true : (b : Bool) → (b && true) ≡ b
and_true true = refl
and_true false = refl

pub places_end : (given : ℕ) (old new : List Term) (size all : TermId) (xs ys : List SymByte) (i : ℕ) → IsTerm new 1 all → length xs ≤ i → length ys ≡ length xs
    → ((v : ℕ → ℕ → ℕ) → (bit_at v new all && places_pass given v old size i xs ys) ≡ all_pass given v old size xs ys) → Tests new all (λ v. all_pass given v old size xs ys)
places_end given old new size all xs ys i h le alike so = record {
  within = h.within;
  wide = h.wide;
  says = λ v.
      let done = places_done byte_allows (byte_at (reading given v) old) (term_at v old size) i xs ys le (omega (arith, le, alike)) in
      sym (and_true (bit_at v new all)) ∙ (ap (λ b. bit_at v new all && b) (sym done) ∙ so v);
}

-- ---- blocks

pub block_tests : (given : ℕ) (old a b c : List Term) (s t : SymBlock) (size places id : TermId) → IsSymBlock old s → IsSymBlock old t → frame_of t ≡ frame_of s → Keeps old a → Keeps a b
    → Tests a size (λ v. nat_eq (term_at v old s.size) (term_at v old t.size)) → Tests b places (λ v. all_pass given v a s.size s.places t.places)
    → Tests c id (λ v. bit_at v b size && bit_at v b places) → Tests c id (λ v. block_allows (block_at (reading given v) old s) (block_at (reading given v) old t))
unfolding block_at
block_tests given old a b c s t size places id hs ht frame ka kb t1 t2 t3 = record {
  within = t3.within;
  wide = t3.wide;
  says = λ v.
      let r = reading given v in
      let size_is = bit-later a b kb v size t1.within ∙ t1.says v in
      t3.says v ∙ (rw (size_is, t2.says v, term-later old a ka v s.size hs.size.within, places-later old a ka r s.places hs.places, places-later old a ka r t.places ht.places)
      (blocks_are (block_name given s.number) (block_name given t.number) (term_at v old s.size) (term_at v old t.size) s.align t.align (places_at r old s.places) (places_at r old t.places) (ap (λ (f : SymFrame). block_name given f.number) frame)));
}

-- the blocks from one on
abbrev pub blocks_pass : (given : ℕ) → (ℕ → ℕ → ℕ) → List Term → ℕ → List SymBlock → List SymBlock → Bool
blocks_pass given v old i xs ys = pairs_pass block_allows (map (block_at (reading given v) old) (drop i xs)) (map (block_at (reading given v) old) (drop i ys))

abbrev pub all_blocks_pass : (given : ℕ) → (ℕ → ℕ → ℕ) → List Term → List SymBlock → List SymBlock → Bool
all_blocks_pass given v old xs ys = pairs_pass block_allows (map (block_at (reading given v) old) xs) (map (block_at (reading given v) old) ys)

pub block_row : (given : ℕ) (old a b c : List Term) (allowed all next : TermId) (xs ys : List SymBlock) (i : ℕ) (x y : SymBlock) → AreSymBlocks old xs → AreSymBlocks old ys → i < length xs → i < length ys → x ≡ get_or xs i x → y ≡ get_or ys i y
    → IsTerm a 1 all → Keeps old a → Keeps a b → ((v : ℕ → ℕ → ℕ) → (bit_at v a all && blocks_pass given v old i xs ys) ≡ all_blocks_pass given v old xs ys)
    → Tests b allowed (λ v. block_allows (block_at (reading given v) a x) (block_at (reading given v) a y)) → Tests c next (λ v. bit_at v b all && bit_at v b allowed)
    → (v : ℕ → ℕ → ℕ) → (bit_at v c next && blocks_pass given v old (i + 1) xs ys) ≡ all_blocks_pass given v old xs ys
block_row given old a b c allowed all next xs ys i x y hxs hys lt lt_y ix iy hall k kb so t1 t2 v =
    let hx = each-at (IsSymBlock old) xs i x hxs lt ix in
    let hy = each-at (IsSymBlock old) ys i y hys lt_y iy in
    rw (t2.says v, bit-later a b kb v all hall.within, t1.says v, block-later old a k (reading given v) x hx, block-later old a k (reading given v) y hy)
    (tests_more (bit_at v a all) (block_allows (block_at (reading given v) old x) (block_at (reading given v) old y)) (blocks_pass given v old i xs ys) (blocks_pass given v old (i + 1) xs ys) (all_blocks_pass given v old xs ys)
    (block_step block_allows (block_at (reading given v) old) i xs ys x y lt lt_y ix iy) (so v))

pub blocks_end : (given : ℕ) (old new : List Term) (all : TermId) (xs ys : List SymBlock) (i : ℕ) → Each (IsAlways old) xs → Each (IsAlways old) ys → IsTerm new 1 all → length xs ≤ i → length ys ≡ length xs
    → ((v : ℕ → ℕ → ℕ) → (bit_at v new all && blocks_pass given v old i xs ys) ≡ all_blocks_pass given v old xs ys) → Tests new all (λ v. blocks_allow (memory_at (reading given v) old xs) (memory_at (reading given v) old ys))
blocks_end given old new all xs ys i ax ay h le alike so = record {
  within = h.within;
  wide = h.wide;
  says = λ v.
      let done = blocks_done block_allows (block_at (reading given v) old) i xs ys le (omega (arith, le, alike)) in
      sym (and_true (bit_at v new all))
      ∙ (ap (λ b. bit_at v new all && b) (sym done)
      ∙ (so v ∙ sym (rw (memory-always (reading given v) old xs ax, memory-always (reading given v) old ys ay) refl)));
}

-- ---- outcomes

pub covered_tests : (given : ℕ) (old a b c d e f : List Term) (s t : OutcomeTerms) (returned ends is_defined allowed is_free id : TermId) → IsOutcome old s → IsOutcome old t
    → Keeps old a → Keeps a b → Keeps b c → Keeps c d → Keeps d e
    → Tests a returned (λ v. returned_allows (option_map (value_at (reading given v) old) s.value) (option_map (value_at (reading given v) old) t.value) && blocks_allow (memory_at (reading given v) old s.blocks) (memory_at (reading given v) old t.blocks))
    → Tests b ends (λ v. bit_at v a t.beyond || bit_at v a returned) → Tests c is_defined (λ v. not (bit_at v b t.ub)) → Tests d allowed (λ v. bit_at v c is_defined && bit_at v c ends)
    → Tests e is_free (λ v. bit_at v d s.ub || bit_at v d s.beyond) → Tests f id (λ v. bit_at v e is_free || bit_at v e allowed)
    → Tests f id (λ v. is_refined (outcome_at (reading given v) old s) (outcome_at (reading given v) old t))
covered_tests given old a b c d e f s t returned ends is_defined allowed is_free id hs ht ka kb kc kd ke t1 t2 t3 t4 t5 t6 = record {
  within = t6.within;
  wide = t6.wide;
  says = λ v.
      let k_b = keeps_trans old a b ka kb in
      let k_d = keeps_trans old c d (keeps_trans old b c k_b kc) kd in
      let target_beyond = bit-later old a ka v t.beyond ht.beyond.within in
      let target_ub = bit-later old b k_b v t.ub ht.ub.within in
      let source_ub = bit-later old d k_d v s.ub hs.ub.within in
      let source_beyond = bit-later old d k_d v s.beyond hs.beyond.within in
      let ends_is = bit-later b c kc v ends t2.within ∙ t2.says v in
      let allowed_is = bit-later d e ke v allowed t4.within ∙ t4.says v in
      t6.says v ∙ (rw (t5.says v, source_ub, source_beyond, allowed_is, t3.says v, target_ub, ends_is, target_beyond, t1.says v)
      (covered_is (bit_at v old s.ub) (bit_at v old s.beyond) (bit_at v old t.ub) (bit_at v old t.beyond) (option_map (value_at (reading given v) old) s.value) (option_map (value_at (reading given v) old) t.value)
      (memory_at (reading given v) old s.blocks) (memory_at (reading given v) old t.blocks)));
}

pub return_tests : (given : ℕ) (old a b c : List Term) (s t : OutcomeTerms) (value blocks id : TermId) → IsOutcome old s → IsOutcome old t → Keeps old a → Keeps a b
    → Tests a value (λ v. returned_allows (option_map (value_at (reading given v) old) s.value) (option_map (value_at (reading given v) old) t.value))
    → Tests b blocks (λ v. blocks_allow (memory_at (reading given v) a s.blocks) (memory_at (reading given v) a t.blocks)) → Tests c id (λ v. bit_at v b value && bit_at v b blocks)
    → Tests c id (λ v. returned_allows (option_map (value_at (reading given v) old) s.value) (option_map (value_at (reading given v) old) t.value) && blocks_allow (memory_at (reading given v) old s.blocks) (memory_at (reading given v) old t.blocks))
return_tests given old a b c s t value blocks id hs ht ka kb t1 t2 t3 = record {
  within = t3.within;
  wide = t3.wide;
  says = λ v.
      let value_is = bit-later a b kb v value t1.within ∙ t1.says v in
      t3.says v ∙ (rw (value_is, t2.says v, memory-later old a ka (reading given v) s.blocks hs.blocks, memory-later old a ka (reading given v) t.blocks ht.blocks) refl);
}
