-- What is made of the terms of a byte denotes what they say.
use Rattle.std.proofs.Common.{ℕ, zero, suc, ◌≡◌, ◌+◌, ◌<◌, Bool, true, false, cond, nat_eq, List, [], Some, slice_get, slice_index_or, inl, inr, refl, ap, sym, ◌∙◌, arith}
use Rattle.std.proofs.lemmas.Bool.{cases_Bool}
use Rattle.byte_block.specs.declared.value.BlockName.{BlockName}
use Rattle.byte_block.specs.declared.value.Byte.TheVariants.{Bits}
use Rattle.memory_access.specs.Bytes.{defined_bits}
use Rattle.memory_access.proofs.Masks.{defined-none}
use Rattle.bv_terms.specs.declared.term.TermId.{TermId}
use Rattle.bv_terms.specs.declared.term.Term.{Term}
use Rattle.bv_terms.specs.declared.term.Term.TheVariants as term
use Rattle.bv_terms.specs.Tree as tree
use Rattle.bv_terms.specs.Tree.{Tree, truth, value_of, width_of}
use Rattle.bv_terms.specs.Trees.{AreFit, AreInRange, IsTerm, Keeps, Makes, Tests, bit_at, term_at, tree_in, trees_from, trees_of}
use Rattle.bv_terms.proofs.Stages.{tree-stored}
use Rattle.mem_terms.specs.declared.bytes.SymByte.{SymByte}
use Rattle.mem_terms.specs.Values.{Reading}
use Rattle.mem_terms.specs.Memory.{IsSymByte, byte_at, byte_of}
use Rattle.mem_terms.proofs.Bits.{term-below}
use Rattle.mem_terms.proofs.Later.{bit-later, keeps_self, keeps_trans, term-later, within-later}
use Rattle.mem_terms.proofs.Made.{makes-term, pick-later}

pub poison_byte-made : (old new : List Term) (b : SymByte) → Makes old b.mask 8 (λ _. 255) → Keeps old new → Tests new b.is_part (λ _. false) → (r : Reading) → byte_at r new b ≡ Bits 0 255
unfolding byte_at
poison_byte-made old new b m k t r = rw (t.says r.v, term-later old new k r.v b.mask m.within, m.says r.v, defined-none (term_at r.v new b.number)) refl

-- the fields that have no meaning may differ
byte_like : (name : ℕ → BlockName) (p : Bool) (m m' n n' x x' o o' q q' : ℕ) → (p ≡ false → m ≡ m') → (p ≡ false → defined_bits n m' ≡ defined_bits n' m') → (p ≡ true → x ≡ x') → (p ≡ true → o ≡ o') → (p ≡ true → q ≡ q')
    → byte_of p m n (record { block = name x; offset = o }) q ≡ byte_of p m' n' (record { block = name x'; offset = o' }) q'
byte_like name true m m' n n' x x' o o' q q' hm hn hx ho hq = rw (hx refl, ho refl, hq refl) refl
byte_like name false m m' n n' x x' o o' q q' hm hn hx ho hq = rw (hm refl, hn refl) refl

-- a byte that may not be bits isn't, and one that may not be a part isn't
bits_needed : (f p : Bool) → (f ≡ false → p ≡ true) → p ≡ false → f ≡ true
bits_needed true p h e = refl
bits_needed false p h e = absurd (let x : true ≡ false = sym (h refl) ∙ e in cc)

part_needed : (f p : Bool) → (f ≡ false → p ≡ false) → p ≡ true → f ≡ true
part_needed true p h e = refl
part_needed false p h e = absurd (let x : true ≡ false = sym e ∙ h refl in cc)

-- a number whose bits are all poison may be any
number_like : (f p : Bool) (n n' m : ℕ) → (f ≡ false → p ≡ false → m ≡ 255) → (f ≡ true → n ≡ n') → p ≡ false → defined_bits n m ≡ defined_bits n' m
number_like true p n n' m h same e = rw (same refl) refl
number_like false p n n' m h same e = rw (h refl e) (defined-none n ∙ sym (defined-none n'))

-- the first where it is needed and the condition is true, the second where it is needed and the condition is false
pub record PicksField (old new : List Term) (c a b : TermId) (n : ℕ) (needs_a needs_b : Bool) (id : TermId) : Type 0 where
  pub made : IsTerm new n id
  pub first : needs_a ≡ true → (v : ℕ → ℕ → ℕ) → bit_at v old c ≡ true → term_at v new id ≡ term_at v old a
  pub second : needs_b ≡ true → (v : ℕ → ℕ → ℕ) → bit_at v old c ≡ false → term_at v new id ≡ term_at v old b

-- made some terms later and said of still more
pub field-later : (old before after new : List Term) (c a b id : TermId) (n : ℕ) (needs_a needs_b : Bool) → IsTerm old 1 c → IsTerm old n a → IsTerm old n b → Keeps old before → Keeps after new
    → IsTerm after (width_of (tree_in before a)) id
    → (needs_a ≡ true → (v : ℕ → ℕ → ℕ) → bit_at v before c ≡ true → term_at v after id ≡ term_at v before a)
    → (needs_b ≡ true → (v : ℕ → ℕ → ℕ) → bit_at v before c ≡ false → term_at v after id ≡ term_at v before b)
    → PicksField old new c a b n needs_a needs_b id
field-later old before after new c a b id n needs_a needs_b hc ha hb k k' m first second = record {
  made = record { within = within-later after new k' id m.within; wide = ap width_of (k'.kept id m.within) ∙ (m.wide ∙ (ap width_of (k.kept a ha.within) ∙ ha.wide)) };
  first = λ t v h. term-later after new k' v id m.within ∙ (first t v (bit-later old before k v c hc.within ∙ h) ∙ term-later old before k v a ha.within);
  second = λ t v h. term-later after new k' v id m.within ∙ (second t v (bit-later old before k v c hc.within ∙ h) ∙ term-later old before k v b hb.within);
}

-- the fields of a byte that may have a meaning
pub record Fields : Type 0 where
  pub bits : Bool
  pub number : Bool
  pub part : Bool

-- a field that isn't needed has no meaning under any assignment
pub record IsNeeded (terms : List Term) (b : SymByte) (needs : Fields) : Type 0 where
  pub bits : needs.bits ≡ false → (v : ℕ → ℕ → ℕ) → bit_at v terms b.is_part ≡ true
  pub number : needs.number ≡ false → (v : ℕ → ℕ → ℕ) → bit_at v terms b.is_part ≡ false → term_at v terms b.mask ≡ 255
  pub part : needs.part ≡ false → (v : ℕ → ℕ → ℕ) → bit_at v terms b.is_part ≡ false

-- a byte whose fields are those of the other where they are needed
like_needed : (old new : List Term) (needs : Fields) (x s : SymByte) → IsNeeded old x needs → (r : Reading) → bit_at r.v new s.is_part ≡ bit_at r.v old x.is_part
    → (needs.bits ≡ true → term_at r.v new s.mask ≡ term_at r.v old x.mask) → (needs.number ≡ true → term_at r.v new s.number ≡ term_at r.v old x.number)
    → (needs.part ≡ true → term_at r.v new s.block ≡ term_at r.v old x.block) → (needs.part ≡ true → term_at r.v new s.offset ≡ term_at r.v old x.offset) → (needs.part ≡ true → term_at r.v new s.part ≡ term_at r.v old x.part)
    → byte_at r new s ≡ byte_at r old x
unfolding byte_at
like_needed old new needs x s h r same hm hn hb ho hp =
    let is_part = bit_at r.v old x.is_part in
    let part = part_needed needs.part is_part (λ e. h.part e r.v) in
    rw same
    (byte_like r.name is_part (term_at r.v new s.mask) (term_at r.v old x.mask) (term_at r.v new s.number) (term_at r.v old x.number) (term_at r.v new s.block) (term_at r.v old x.block) (term_at r.v new s.offset) (term_at r.v old x.offset) (term_at r.v new s.part) (term_at r.v old x.part)
    (λ e. hm (bits_needed needs.bits is_part (λ f. h.bits f r.v) e))
    (number_like needs.number is_part (term_at r.v new s.number) (term_at r.v old x.number) (term_at r.v old x.mask) (λ f. h.number f r.v) hn)
    (λ e. hb (part e)) (λ e. ho (part e)) (λ e. hp (part e)))

-- several steps in a row
pub keeps_four : (a b c d e : List Term) → Keeps a b → Keeps b c → Keeps c d → Keeps d e → Keeps a e
keeps_four a b c d e k1 k2 k3 k4 = keeps_trans a b e k1 (keeps_trans b c e k2 (keeps_trans c d e k3 k4))

pub keeps_five : (a b c d e f : List Term) → Keeps a b → Keeps b c → Keeps c d → Keeps d e → Keeps e f → Keeps a f
keeps_five a b c d e f k1 k2 k3 k4 k5 = keeps_trans a b f k1 (keeps_four b c d e f k2 k3 k4 k5)

pub keeps_six : (a b c d e f g : List Term) → Keeps a b → Keeps b c → Keeps c d → Keeps d e → Keeps e f → Keeps f g → Keeps a g
keeps_six a b c d e f g k1 k2 k3 k4 k5 k6 = keeps_trans a b g k1 (keeps_five b c d e f g k2 k3 k4 k5 k6)

-- six choices in a row
module _ (old g1 g2 g3 g4 g5 g6 : List Term) (k1 : Keeps old g1) (k2 : Keeps g1 g2) (k3 : Keeps g2 g3) (k4 : Keeps g3 g4) (k5 : Keeps g4 g5) (k6 : Keeps g5 g6) where
  to_2 : Keeps old g2
  to_2 = keeps_trans old g1 g2 k1 k2

  to_3 : Keeps old g3
  to_3 = keeps_trans old g2 g3 to_2 k3

  to_4 : Keeps old g4
  to_4 = keeps_four old g1 g2 g3 g4 k1 k2 k3 k4

  to_5 : Keeps old g5
  to_5 = keeps_five old g1 g2 g3 g4 g5 k1 k2 k3 k4 k5

  from_4 : Keeps g4 g6
  from_4 = keeps_trans g4 g5 g6 k5 k6

  from_3 : Keeps g3 g6
  from_3 = keeps_trans g3 g4 g6 k4 from_4

  from_2 : Keeps g2 g6
  from_2 = keeps_trans g2 g3 g6 k3 from_3

  module _ (c is_part mask number block offset part : TermId) (a b : SymByte) (na nb : Fields) (hc : IsTerm old 1 c) (ha : IsSymByte old a) (hb : IsSymByte old b)
      (mi : Makes g1 is_part (width_of (tree_in old a.is_part)) (λ v. cond (bit_at v old c) (term_at v old a.is_part) (term_at v old b.is_part)))
      (mm : IsTerm g2 (width_of (tree_in g1 a.mask)) mask) (ma : na.bits ≡ true → (v : ℕ → ℕ → ℕ) → bit_at v g1 c ≡ true → term_at v g2 mask ≡ term_at v g1 a.mask)
      (mb : nb.bits ≡ true → (v : ℕ → ℕ → ℕ) → bit_at v g1 c ≡ false → term_at v g2 mask ≡ term_at v g1 b.mask)
      (nm : IsTerm g3 (width_of (tree_in g2 a.number)) number) (nfa : na.number ≡ true → (v : ℕ → ℕ → ℕ) → bit_at v g2 c ≡ true → term_at v g3 number ≡ term_at v g2 a.number)
      (nfb : nb.number ≡ true → (v : ℕ → ℕ → ℕ) → bit_at v g2 c ≡ false → term_at v g3 number ≡ term_at v g2 b.number)
      (bm : IsTerm g4 (width_of (tree_in g3 a.block)) block) (ba : na.part ≡ true → (v : ℕ → ℕ → ℕ) → bit_at v g3 c ≡ true → term_at v g4 block ≡ term_at v g3 a.block)
      (bb : nb.part ≡ true → (v : ℕ → ℕ → ℕ) → bit_at v g3 c ≡ false → term_at v g4 block ≡ term_at v g3 b.block)
      (om : IsTerm g5 (width_of (tree_in g4 a.offset)) offset) (oa : na.part ≡ true → (v : ℕ → ℕ → ℕ) → bit_at v g4 c ≡ true → term_at v g5 offset ≡ term_at v g4 a.offset)
      (ob : nb.part ≡ true → (v : ℕ → ℕ → ℕ) → bit_at v g4 c ≡ false → term_at v g5 offset ≡ term_at v g4 b.offset)
      (pm : IsTerm g6 (width_of (tree_in g5 a.part)) part) (pa : na.part ≡ true → (v : ℕ → ℕ → ℕ) → bit_at v g5 c ≡ true → term_at v g6 part ≡ term_at v g5 a.part)
      (pb : nb.part ≡ true → (v : ℕ → ℕ → ℕ) → bit_at v g5 c ≡ false → term_at v g6 part ≡ term_at v g5 b.part) where
    is_part-picked : Makes g6 is_part 1 (λ v. cond (bit_at v old c) (term_at v old a.is_part) (term_at v old b.is_part))
    is_part-picked = pick-later old old g1 g6 c a.is_part b.is_part is_part 1 hc ha.is_part hb.is_part (keeps_self old) (keeps_trans g1 g2 g6 k2 from_2) mi

    mask-picked : PicksField old g6 c a.mask b.mask 8 na.bits nb.bits mask
    mask-picked = field-later old g1 g2 g6 c a.mask b.mask mask 8 na.bits nb.bits hc ha.mask hb.mask k1 from_2 mm ma mb

    number-picked : PicksField old g6 c a.number b.number 8 na.number nb.number number
    number-picked = field-later old g2 g3 g6 c a.number b.number number 8 na.number nb.number hc ha.number hb.number to_2 from_3 nm nfa nfb

    block-picked : PicksField old g6 c a.block b.block 64 na.part nb.part block
    block-picked = field-later old g3 g4 g6 c a.block b.block block 64 na.part nb.part hc ha.block hb.block to_3 from_4 bm ba bb

    offset-picked : PicksField old g6 c a.offset b.offset 64 na.part nb.part offset
    offset-picked = field-later old g4 g5 g6 c a.offset b.offset offset 64 na.part nb.part hc ha.offset hb.offset to_4 k6 om oa ob

    part-picked : PicksField old g6 c a.part b.part 3 na.part nb.part part
    part-picked = field-later old g5 g6 g6 c a.part b.part part 3 na.part nb.part hc ha.part hb.part to_5 (keeps_self g6) pm pa pb

    abbrev picked : SymByte
    picked = record { is_part = is_part; mask = mask; number = number; block = block; offset = offset; part = part }

    pub pick_byte-made : IsSymByte g6 picked
    pick_byte-made = record { is_part = makes-term g6 is_part 1 _ is_part-picked; mask = mask-picked.made; number = number-picked.made; block = block-picked.made; offset = offset-picked.made; part = part-picked.made }

    pub pick_byte-stands : IsNeeded old a na → IsNeeded old b nb → (r : Reading) → byte_at r g6 picked ≡ cond (bit_at r.v old c) (byte_at r old a) (byte_at r old b)
    pick_byte-stands ia ib r = elim (cases_Bool (bit_at r.v old c)) [
      | inl t ↦ rw t
          (like_needed old g6 na a picked ia r (rw (is_part-picked.says r.v, t) refl)
          (λ e. mask-picked.first e r.v t) (λ e. number-picked.first e r.v t) (λ e. block-picked.first e r.v t) (λ e. offset-picked.first e r.v t) (λ e. part-picked.first e r.v t))
      | inr f ↦ rw f
          (like_needed old g6 nb b picked ib r (rw (is_part-picked.says r.v, f) refl)
          (λ e. mask-picked.second e r.v f) (λ e. number-picked.second e r.v f) (λ e. block-picked.second e r.v f) (λ e. offset-picked.second e r.v f) (λ e. part-picked.second e r.v f))
    ]

-- ---- what has a meaning

below_two : (x : ℕ) → x < 2 → nat_eq x 1 ≡ false → truth x ≡ false
below_two zero lt e = refl
below_two (suc zero) lt e = absurd (let x : true ≡ false = e in cc)
below_two (suc (suc x)) lt e = absurd (omega arith)

-- a term of one bit that is never 1 is false
pub never_one : (terms : List Term) (a : TermId) → AreInRange terms → IsTerm terms 1 a → (v : ℕ → ℕ → ℕ) → nat_eq (term_at v terms a) 1 ≡ false → bit_at v terms a ≡ false
never_one terms a range h v e = below_two (term_at v terms a) (term-below terms 1 a range h v) e

-- a term that is a constant has its value
pub constant_is : (terms : List Term) (a : TermId) (value width n : ℕ) → AreFit [] terms → slice_get terms a.index ≡ Some (term.Constant value width) → value ≡ n → (v : ℕ → ℕ → ℕ) → term_at v terms a ≡ n
unfolding trees_of
constant_is terms a value width n fit is same v =
    let e : a.index ≡ 0 + a.index = omega arith in
    ap (λ (i : ℕ). value_of v (slice_index_or (trees_from [] terms) i (tree.Constant 0 1))) e
    ∙ (ap (λ (t : Tree). value_of v t) (tree-stored [] terms a.index (term.Constant value width) fit is) ∙ same)
