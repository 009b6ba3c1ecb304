-- What is made of the terms of a value of either kind denotes what they say.
use Rattle.std.proofs.Common.{ℕ, ◌≡◌, Bool, true, false, not, ◌||◌, cond, List, refl}
use Rattle.byte_block.specs.declared.value.BlockName.{BlockName}
use Rattle.byte_block.specs.declared.value.Value.TheVariants.{Poison, Ptr}
use Rattle.points.specs.Run.{address_value}
use Rattle.bv_terms.specs.declared.term.TermId.{TermId}
use Rattle.bv_terms.specs.declared.term.Term.{Term}
use Rattle.bv_terms.specs.Tree.{width_of, truth}
use Rattle.bv_terms.specs.Trees.{Keeps, Makes, Tests, IsTerm, term_at, bit_at, tree_in}
use Rattle.mem_terms.specs.declared.integers.SymNumber.{SymNumber}
use Rattle.mem_terms.specs.declared.values.SymValue.{SymValue}
use Rattle.mem_terms.specs.Values.{Reading, IsSymNumber, IsSymValue, as_integer, number_at, value_at, value_from, value_of}
use Rattle.mem_terms.proofs.Later.{bit-later, term-later, keeps_self, keeps_trans}
use Rattle.mem_terms.proofs.Made.{pick-later}

pub poison-made : (new : List Term) (s : SymValue) → Tests new s.poison (λ _. true) → (r : Reading) → value_at r new s ≡ Poison
unfolding value_at
poison-made new s t r = rw (t.says r.v) refl

pub integer_is : (p : Bool) (block : BlockName) (n : ℕ) → value_of p false block n ≡ value_from p n
integer_is true block n = refl
integer_is false block n = refl

pub integer-made : (old new : List Term) (n : SymNumber) (is_pointer block : TermId) → IsSymNumber old n → Keeps old new → Tests new is_pointer (λ _. false)
    → (r : Reading) → value_at r new (record { poison = n.poison; is_pointer = is_pointer; block = block; number = n.number }) ≡ number_at r.v old n
unfolding value_at number_at
integer-made old new n is_pointer block h k t r =
    rw (t.says r.v, bit-later old new k r.v n.poison h.poison.within, term-later old new k r.v n.number h.number.within)
    (integer_is (bit_at r.v old n.poison) (r.name (term_at r.v new block)) (term_at r.v old n.number))

pub pointer-made : (old a new : List Term) (poison is_pointer block offset : TermId) → IsTerm old 64 block → IsTerm old 64 offset → Keeps old a → Tests a poison (λ _. false) → Keeps a new → Tests new is_pointer (λ _. true)
    → (r : Reading) → value_at r new (record { poison = poison; is_pointer = is_pointer; block = block; number = offset }) ≡ Ptr (record { block = r.name (term_at r.v old block); offset = term_at r.v old offset })
unfolding value_at
pointer-made old a new poison is_pointer block offset hb ho k tp k' ti r =
    let whole = keeps_trans old a new k k' in
    rw (bit-later a new k' r.v poison tp.within, tp.says r.v, ti.says r.v, term-later old new whole r.v block hb.within, term-later old new whole r.v offset ho.within) refl

number_is : (p i : Bool) (block : BlockName) (n : ℕ) → value_from (p || i) n ≡ as_integer (value_of p i block n)
number_is true i block n = refl
number_is false true block n = refl
number_is false false block n = refl

pub as_number-stands : (old new : List Term) (s : SymValue) (poison : TermId) → IsSymValue old s → Keeps old new → Tests new poison (λ v. bit_at v old s.poison || bit_at v old s.is_pointer)
    → (r : Reading) → number_at r.v new (record { poison = poison; number = s.number }) ≡ as_integer (value_at r old s)
unfolding value_at number_at
as_number-stands old new s poison h k t r =
    rw (t.says r.v, term-later old new k r.v s.number h.number.within)
    (number_is (bit_at r.v old s.poison) (bit_at r.v old s.is_pointer) (r.name (term_at r.v old s.block)) (term_at r.v old s.number))

address_is : (p i : Bool) (block : BlockName) (n : ℕ) → value_of (p || not i) i block n ≡ address_value (value_of p i block n)
address_is true i block n = refl
address_is false true block n = refl
address_is false false block n = refl

pub as_address-stands : (old a new : List Term) (s : SymValue) (is_number poison : TermId) → IsSymValue old s → Keeps old a → Tests a is_number (λ v. not (bit_at v old s.is_pointer))
    → Keeps a new → Tests new poison (λ v. bit_at v a s.poison || bit_at v a is_number)
    → (r : Reading) → value_at r new (record { poison = poison; is_pointer = s.is_pointer; block = s.block; number = s.number }) ≡ address_value (value_at r old s)
unfolding value_at
as_address-stands old a new s is_number poison h k tn k' tp r =
    let whole = keeps_trans old a new k k' in
    rw (tp.says r.v, bit-later old a k r.v s.poison h.poison.within, tn.says r.v, bit-later old new whole r.v s.is_pointer h.is_pointer.within, term-later old new whole r.v s.block h.block.within, term-later old new whole r.v s.number h.number.within)
    (address_is (bit_at r.v old s.poison) (bit_at r.v old s.is_pointer) (r.name (term_at r.v old s.block)) (term_at r.v old s.number))

picked_value : (c : Bool) (name : ℕ → BlockName) (p q i j x y m n : ℕ)
    → value_of (truth (cond c p q)) (truth (cond c i j)) (name (cond c x y)) (cond c m n) ≡ cond c (value_of (truth p) (truth i) (name x) m) (value_of (truth q) (truth j) (name y) n)
picked_value true name p q i j x y m n = refl
picked_value false name p q i j x y m n = refl

pub pick_value-stands : (old g1 g2 g3 g4 : List Term) (c poison is_pointer block number : TermId) (a b : SymValue) → IsTerm old 1 c → IsSymValue old a → IsSymValue old b
    → Keeps old g1 → Makes g1 poison (width_of (tree_in old a.poison)) (λ v. cond (bit_at v old c) (term_at v old a.poison) (term_at v old b.poison))
    → Keeps g1 g2 → Makes g2 is_pointer (width_of (tree_in g1 a.is_pointer)) (λ v. cond (bit_at v g1 c) (term_at v g1 a.is_pointer) (term_at v g1 b.is_pointer))
    → Keeps g2 g3 → Makes g3 block (width_of (tree_in g2 a.block)) (λ v. cond (bit_at v g2 c) (term_at v g2 a.block) (term_at v g2 b.block))
    → Keeps g3 g4 → Makes g4 number (width_of (tree_in g3 a.number)) (λ v. cond (bit_at v g3 c) (term_at v g3 a.number) (term_at v g3 b.number))
    → (r : Reading) → value_at r g4 (record { poison = poison; is_pointer = is_pointer; block = block; number = number }) ≡ cond (bit_at r.v old c) (value_at r old a) (value_at r old b)
unfolding value_at
pick_value-stands old g1 g2 g3 g4 c poison is_pointer block number a b hc ha hb k1 mp k2 mi k3 mb k4 mn r =
    let k02 = keeps_trans old g1 g2 k1 k2 in
    let k03 = keeps_trans old g2 g3 k02 k3 in
    let k24 = keeps_trans g2 g3 g4 k3 k4 in
    let k14 = keeps_trans g1 g2 g4 k2 k24 in
    let p = pick-later old old g1 g4 c a.poison b.poison poison 1 hc ha.poison hb.poison (keeps_self old) k14 mp in
    let i = pick-later old g1 g2 g4 c a.is_pointer b.is_pointer is_pointer 1 hc ha.is_pointer hb.is_pointer k1 k24 mi in
    let x = pick-later old g2 g3 g4 c a.block b.block block 64 hc ha.block hb.block k02 k4 mb in
    let n = pick-later old g3 g4 g4 c a.number b.number number 64 hc ha.number hb.number k03 (keeps_self g4) mn in
    rw (p.says r.v, i.says r.v, x.says r.v, n.says r.v)
    (picked_value (bit_at r.v old c) r.name (term_at r.v old a.poison) (term_at r.v old b.poison) (term_at r.v old a.is_pointer) (term_at r.v old b.is_pointer) (term_at r.v old a.block) (term_at r.v old b.block) (term_at r.v old a.number) (term_at r.v old b.number))
