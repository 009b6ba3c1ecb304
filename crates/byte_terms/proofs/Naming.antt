-- Which block a number names, and a term that is never true.
use Rattle.byte_terms.proofs.Common.{ℕ, ◌≡◌, ◌<◌, ◌+◌, true, false, ◌&&◌, nat_eq, List, [], Some, refl, ap, ap₂, sym, ◌∙◌, arith, eqb-true, slice_get, slice_index_or, eq-eqb, BlockName, equal_names, names, TermId, Term, Tree, truth, AreFit, IsTerm, Keeps, Makes, Tests, bit_at, term_at, trees_from, trees_of, IsNaming, Reading, IsSymBlock, block_at, bit-later, keeps_trans, term-later}
use Rattle.std.proofs.lemmas.Bool.Decides.{nat_tests}
use Rattle.byte_block.specs.declared.value.BlockName.TheVariants.{Null, Given, Local}
use Rattle.byte_block.specs.declared.block.MemoryBlock.{MemoryBlock}
use Rattle.bv_terms.specs.declared.term.Term.TheVariants as term
use Rattle.bv_terms.specs.Tree as tree
use Rattle.bv_terms.specs.Tree.{value_of}
use Rattle.bv_terms.proofs.Stages.{tree-stored}
use Rattle.mem_terms.specs.declared.blocks.SymBlock.{SymBlock}
use Rattle.byte_terms.proofs.Bools.{and-left, and-right, both_ways}

-- ---- names

equal_names-same : (n : BlockName) → equal_names n n ≡ true
equal_names-same Null = refl
equal_names-same (Given i) = grind (arith, nat_tests)
equal_names-same (Local turn place) = grind (arith, nat_tests)

equal_names-true : (m n : BlockName) → equal_names m n ≡ true → m ≡ n
equal_names-true Null Null e = refl
equal_names-true Null (Given j) e = absurd (cc)
equal_names-true Null (Local t' p') e = absurd (cc)
equal_names-true (Given i) Null e = absurd (cc)
equal_names-true (Given i) (Given j) e = ap Given (eqb-true i j e)
equal_names-true (Given i) (Local t' p') e = absurd (cc)
equal_names-true (Local t p) Null e = absurd (cc)
equal_names-true (Local t p) (Given j) e = absurd (cc)
equal_names-true (Local t p) (Local t' p') e = ap₂ Local (eqb-true t t' (and-left (nat_eq t t') (nat_eq p p') e)) (eqb-true p p' (and-right (nat_eq t t') (nat_eq p p') e))

-- names of numbers are equal where the numbers are
pub equal_numbers : (name : ℕ → BlockName) → IsNaming name → (i j : ℕ) → equal_names (name i) (name j) ≡ nat_eq i j
equal_numbers name h i j =
    both_ways (equal_names (name i) (name j)) (nat_eq i j)
    (λ e. eq-eqb i j (h.apart i j (equal_names-true (name i) (name j) e)))
    (λ e. ap (λ k. equal_names (name i) (name k)) (sym (eqb-true i j e)) ∙ equal_names-same (name i))

null_alone : (n : BlockName) → (n ≡ Null → ⊥) → false ≡ equal_names Null n
null_alone Null other = absurd (other refl)
null_alone (Given i) other = refl
null_alone (Local t p) other = refl

names-equal : (n : BlockName) (b : MemoryBlock) → (b.name ≡ Null → ⊥) → names n b ≡ equal_names n b.name
names-equal Null b other = null_alone b.name other
names-equal (Given i) b other = refl
names-equal (Local t p) b other = refl

-- a number names the block that has it
pub names_number : (name : ℕ → BlockName) → IsNaming name → (i j : ℕ) (b : MemoryBlock) → b.name ≡ name j → 0 < j → names (name i) b ≡ nat_eq i j
names_number name h i j b is some =
    names-equal (name i) b (λ e. let none : j ≡ 0 = h.apart j 0 (sym is ∙ (e ∙ sym h.null)) in omega (arith, none, some))
    ∙ (ap (equal_names (name i)) is ∙ equal_numbers name h i j)

-- ---- as terms

pub named_stands : (old a b c : List Term) (block known same id : TermId) (of : SymBlock) → IsTerm old 64 block → IsSymBlock old of
    → Keeps old a → Makes a known 64 (λ _. of.number) → Keeps a b → Tests b same (λ v. nat_eq (term_at v a block) (term_at v a known)) → Tests c id (λ v. bit_at v b of.exists && bit_at v b same)
    → (r : Reading) → IsNaming r.name → bit_at r.v c id ≡ (bit_at r.v old of.exists && names (r.name (term_at r.v old block)) (block_at r old of))
unfolding block_at
named_stands old a b c block known same id of hb ho k1 m1 k2 t2 t3 r h =
    let named = names_number r.name h (term_at r.v old block) of.number (block_at r old of) refl ho.numbered in
    t3.says r.v ∙ rw (bit-later old b (keeps_trans old a b k1 k2) r.v of.exists ho.exists.within, t2.says r.v, term-later old a k1 r.v block hb.within, m1.says r.v, named) refl

pub never_true : (terms : List Term) (a : TermId) (value width : ℕ) → AreFit [] terms → slice_get terms a.index ≡ Some (term.Constant value width) → value ≡ 0 → (v : ℕ → ℕ → ℕ) → bit_at v terms a ≡ false
unfolding trees_of
never_true terms a value width fit is none v =
    let e : a.index ≡ 0 + a.index = omega arith in
    ap (λ (i : ℕ). truth (value_of v (slice_index_or (trees_from [] terms) i (tree.Constant 0 1)))) e
    ∙ (ap (λ (t : Tree). truth (value_of v t)) (tree-stored [] terms a.index (term.Constant value width) fit is) ∙ ap truth none)
