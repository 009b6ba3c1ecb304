-- Which given block a word names.
use Rattle.run_terms.proofs.Common.{ℕ, zero, suc, ◌≡◌, ◌<◌, ◌≤◌, ◌+◌, Bool, true, false, ◌&&◌, ◌||◌, cond, List, [], ◌∷◌, length, map, take, drop, nat_eq, nat_lt, nat_le, inl, inr, refl, ap, sym, subst, ◌∙◌, arith, list_any, or-false, cases_Bool, nat_tests, length-take, Given, MemoryBlock, equal_names, names, block_number, given_or_null, block_name, IsAlways, block_at, given_before, local_block, Term, bit_at, SymBlock, Each, first_local, frame_of, RunMemory, AreNumberedFrom, IsRunMemory, Scene, sight}
use Rattle.std.proofs.lemmas.List.Folds.{list_any-append}
use Rattle.mem_terms.specs.Memory.{memory_at}
use Rattle.mem_terms.proofs.Naming.{given_named as block_named}
use Rattle.run_terms.proofs.Memories.{memory-parts}

-- ---- the name of a number

given_number : (given k n : ℕ) → 0 < n → n ≤ given → equal_names (Given k) (block_name given n) ≡ nat_eq k n
given_number given k n some within = ap (equal_names (Given k)) (block_named given n some within)

own_number : (given k n : ℕ) → first_local given ≤ n → equal_names (Given k) (block_name given n) ≡ false
own_number given k n past = ap (equal_names (Given k)) (local_block given n past)

-- ---- the blocks that a given name names

not_there : (p : MemoryBlock → Bool) (e : Bool) (b : MemoryBlock) (bs : List MemoryBlock) → p b ≡ false → list_any p (cond e (b ∷ bs) bs) ≡ list_any p bs
not_there p true b bs h = rw h refl
not_there p false b bs h = refl

own_unnamed : (g : Scene) (terms : List Term) (k : ℕ) (bs : List SymBlock) → Each (λ (b : SymBlock). first_local g.given ≤ b.number) bs → list_any (names (Given k)) (memory_at (sight g) terms bs) ≡ false
unfolding memory_at block_at
own_unnamed g terms k [] h = refl
own_unnamed g terms k (b ∷ bs) h =
    not_there (names (Given k)) (bit_at g.v terms b.exists) (block_at (sight g) terms b) (memory_at (sight g) terms bs) (own_number g.given k b.number h.0) ∙ own_unnamed g terms k bs h.1

first_or_more : (k first n : ℕ) → (nat_eq k first || (nat_le (first + 1) k && nat_lt k ((first + 1) + n))) ≡ (nat_le first k && nat_lt k (first + suc n))
first_or_more k first n = grind (arith, nat_tests)

none_between : (k first : ℕ) → false ≡ (nat_le first k && nat_lt k (first + 0))
none_between k first = grind (arith, nat_tests)

given_named : (g : Scene) (terms : List Term) (k first : ℕ) (bs : List SymBlock) → Each (IsAlways terms) bs → AreNumberedFrom first (map frame_of bs) → 0 < first → first + length bs ≤ g.given + 1
    → list_any (names (Given k)) (memory_at (sight g) terms bs) ≡ (nat_le first k && nat_lt k (first + length bs))
unfolding memory_at block_at
given_named g terms k first [] always numbered some within = none_between k first
given_named g terms k first (b ∷ bs) always numbered some within =
    let is : b.number ≡ first = numbered.0 in
    let more = given_named g terms k (first + 1) bs always.1 numbered.1 (omega arith) (omega (arith, within)) in
    let here : equal_names (Given k) (block_name g.given b.number) ≡ nat_eq k first = rw is (given_number g.given k first some (omega (arith, within))) in
    rw (always.0 g.v, more) (ap (λ (x : Bool). x || (nat_le (first + 1) k && nat_lt k ((first + 1) + length bs))) here ∙ first_or_more k first (length bs))

-- a given name names a block of a run's memory where its number is that of a given block
pub names_given : (g : Scene) (terms : List Term) (m : RunMemory) (k : ℕ) → IsRunMemory terms m → m.given ≡ g.given
    → list_any (names (Given k)) (memory_at (sight g) terms m.blocks) ≡ (nat_le 1 k && nat_lt k (1 + g.given))
names_given g terms m k h same =
    let bs = m.blocks in
    let taken = length-take m.given bs in
    let many : length (take m.given bs) ≡ g.given = omega (arith, taken, h.count, same) in
    let given = given_named g terms k 1 (take m.given bs) h.given.always h.numbered (omega arith) (omega (arith, many)) in
    let own = own_unnamed g terms k (drop m.given bs) (subst (λ (n : ℕ). Each (λ (b : SymBlock). first_local n ≤ b.number) (drop m.given m.blocks)) same h.own) in
    ap (list_any (names (Given k))) (sym (memory-parts (sight g) terms m.given bs))
    ∙ (list_any-append (names (Given k)) (memory_at (sight g) terms (take m.given bs)) (memory_at (sight g) terms (drop m.given bs))
    ∙ (rw (given, own) (or-false (nat_le 1 k && nat_lt k (1 + length (take m.given bs)))) ∙ ap (λ (n : ℕ). nat_le 1 k && nat_lt k (1 + n)) many))

-- ---- the block that is chosen

same_both : (b : Bool) (n : ℕ) → cond b n n ≡ n
same_both true n = refl
same_both false n = refl

pub chosen_block : (memory : List MemoryBlock) (given low : ℕ) → list_any (names (Given low)) memory ≡ (nat_le 1 low && nat_lt low (1 + given))
    → (block_name given (cond (nat_le low given) low 0) ≡ given_or_null memory low) × (cond (nat_le low given) low 0 ≡ block_number (given_or_null memory low))
chosen_block memory given zero e = (ap (block_name given) (same_both (nat_le 0 given) 0), same_both (nat_le 0 given) 0)
chosen_block memory given (suc i) e = elim (cases_Bool (nat_le (suc i) given)) [
  | inl t ↦ (
      let is : (nat_le 1 (suc i) && nat_lt (suc i) (1 + given)) ≡ true = within i given t in
      let below : nat_lt (suc i) (first_local given) ≡ true = before i given t (given_before given) in
      rw (t, e, is, above_0 i, below) (refl, refl)
      )
  | inr f ↦ (
      let is : (nat_le 1 (suc i) && nat_lt (suc i) (1 + given)) ≡ false = beyond i given f in
      rw (f, e, is, above_0 i) (refl, refl)
      )
]
  where
    within : (i given : ℕ) → nat_le (suc i) given ≡ true → (nat_le 1 (suc i) && nat_lt (suc i) (1 + given)) ≡ true
    within i given t = grind (arith, nat_tests)

    above_0 : (i : ℕ) → nat_lt 0 (suc i) ≡ true
    above_0 i = grind (arith, nat_tests)

    before : (i given : ℕ) → nat_le (suc i) given ≡ true → given < first_local given → nat_lt (suc i) (first_local given) ≡ true
    before i given t lt = grind (arith, nat_tests)

    beyond : (i given : ℕ) → nat_le (suc i) given ≡ false → (nat_le 1 (suc i) && nat_lt (suc i) (1 + given)) ≡ false
    beyond i given f = grind (arith, nat_tests)
