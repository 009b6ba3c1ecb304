-- The test of coverage is refinement.
use Rattle.refine_terms.proofs.Common.{ℕ, zero, suc, ◌≡◌, ◌<◌, ◌≤◌, ◌+◌, ◌-◌, ◌/◌, ◌%◌, ◌^◌, Bool, true, false, cond, not, ◌&&◌, ◌||◌, List, [], ◌∷◌, length, map, take, drop, get_or, nat_eq, nat_lt, Option, refl, sym, ap, ◌∙◌, arith, eq-eqb, eqb-true, nat_tests, drop_more, drop_all, same_pointer, byte_allows, block_allows, blocks_allow, pairs_pass, value_allows, returned_allows, is_refined, truth, block_name, first_local, value_of, byte_of}
use Rattle.byte_block.specs.declared.value.Value.{Value}
use Rattle.byte_block.specs.declared.value.BlockName.{BlockName}
use Rattle.byte_block.specs.declared.value.BlockName.TheVariants.{Null, Given, Local}
use Rattle.byte_block.specs.declared.value.Byte.{Byte}
use Rattle.byte_block.specs.declared.value.Byte.TheVariants as byte
use Rattle.byte_block.specs.declared.block.MemoryBlock.{MemoryBlock}
use Rattle.points.specs.declared.outcome.Outcome.{Outcome}
use Rattle.points.specs.declared.outcome.Outcome.TheVariants.{Return, Ub, Beyond}
use Rattle.memory_access.specs.Blocks.{equal_names}
use Rattle.memory_access.specs.Bytes.{defined_bits}
use Rattle.memory_access.proofs.Masks.{defined-again, defined-own}
use Rattle.mem_terms.proofs.Naming.{block_before, local_block}

-- ---- pointers

equal_names-same : (b : BlockName) → equal_names b b ≡ true
equal_names-same Null = refl
equal_names-same (Given i) = eq-eqb i i refl
equal_names-same (Local t p) = rw (eq-eqb t t refl, eq-eqb p p refl) refl

same_pointer-same : (b : BlockName) (n : ℕ) → same_pointer b n b n ≡ true
same_pointer-same Null n = eq-eqb n n refl
same_pointer-same (Given i) n = rw (eq-eqb i i refl, eq-eqb n n refl) refl
same_pointer-same (Local t i) n = refl

-- the name of a block that is given, or null's
given_or_null : ℕ → BlockName
given_or_null zero = Null
given_or_null (suc k) = Given (suc k)

is_given : (given last k : ℕ) → first_local given ≡ last + 1 → k ≤ last → block_name given k ≡ given_or_null k
unfolding given_or_null
is_given given last zero is le = refl
is_given given last (suc k) is le = block_before given (suc k) (omega arith) (omega (arith, is, le))

-- a larger number is a local block's
is_local : (given last k : ℕ) → first_local given ≡ last + 1 → last < k → block_name given k ≡ Local ((k - first_local given) / 65536) ((k - first_local given) % 65536)
is_local given last k is lt = local_block given k (omega (arith, is, lt))

alive_same : (s i t j : ℕ) → (nat_eq s t && nat_eq i j) ≡ same_pointer (given_or_null s) i (given_or_null t) j
unfolding given_or_null
alive_same zero i zero j = refl
alive_same zero i (suc t) j = let e : nat_eq 0 (suc t) ≡ false = grind (arith, nat_tests) in rw e refl
alive_same (suc s) i zero j = let e : nat_eq (suc s) 0 ≡ false = grind (arith, nat_tests) in rw e refl
alive_same (suc s) i (suc t) j = refl

alive_dead : (s i : ℕ) (turn place j : ℕ) → same_pointer (given_or_null s) i (Local turn place) j ≡ false
unfolding given_or_null
alive_dead zero i turn place j = refl
alive_dead (suc s) i turn place j = refl

dead_alive : (turn place i : ℕ) (t j : ℕ) → same_pointer (Local turn place) i (given_or_null t) j ≡ false
unfolding given_or_null
dead_alive turn place i zero j = refl
dead_alive turn place i (suc t) j = refl

lt_says : (a b : ℕ) → nat_lt a b ≡ true → a < b
lt_says a b e = grind (arith, nat_tests)

le_instead : (a b : ℕ) → nat_lt a b ≡ false → b ≤ a
le_instead a b e = grind (arith, nat_tests)

apart : (last s t : ℕ) → s ≤ last → last < t → nat_eq s t ≡ false
apart last s t le lt = grind (arith, nat_tests)

apart_back : (last s t : ℕ) → last < s → t ≤ last → nat_eq s t ≡ false
apart_back last s t lt le = grind (arith, nat_tests)

module _ (given last : ℕ) (is : first_local given ≡ last + 1) where
  addresses_by : (s i t j : ℕ) (p q : Bool) → nat_lt last s ≡ p → nat_lt last t ≡ q → ((p && q) || (nat_eq s t && nat_eq i j)) ≡ same_pointer (block_name given s) i (block_name given t) j
  addresses_by s i t j true true es et = rw (is_local given last s is (lt_says last s es), is_local given last t is (lt_says last t et)) refl
  addresses_by s i t j true false es et =
      let le = le_instead last t et in
      let lt = lt_says last s es in
      rw (apart_back last s t lt le, is_local given last s is lt, is_given given last t is le, dead_alive ((s - first_local given) / 65536) ((s - first_local given) % 65536) i t j) refl
  addresses_by s i t j false true es et =
      let le = le_instead last s es in
      let lt = lt_says last t et in
      rw (apart last s t le lt, is_local given last t is lt, is_given given last s is le, alive_dead s i ((t - first_local given) / 65536) ((t - first_local given) % 65536) j) refl
  addresses_by s i t j false false es et = rw (is_given given last s is (le_instead last s es), is_given given last t is (le_instead last t et)) (alive_same s i t j)

  -- both dead, or alike in block and offset
  pub addresses_are : (s i t j : ℕ) → ((nat_lt last s && nat_lt last t) || (nat_eq s t && nat_eq i j)) ≡ same_pointer (block_name given s) i (block_name given t) j
  addresses_are s i t j = addresses_by s i t j (nat_lt last s) (nat_lt last t) refl refl

-- ---- values

pub picked_truth : (c : Bool) (x y : ℕ) → truth (cond c x y) ≡ cond c (truth x) (truth y)
picked_truth true x y = refl
picked_truth false x y = refl

pub values_are : (ps pt : Bool) (i j : ℕ) (bs bt : BlockName) (m n : ℕ) → i < 2 ^ 1 → j < 2 ^ 1
    → (ps || (not pt && (nat_eq i j && cond (truth i) (same_pointer bs m bt n) (nat_eq m n)))) ≡ value_allows (value_of ps (truth i) bs m) (value_of pt (truth j) bt n)
values_are true pt i j bs bt m n p q = refl
values_are false true zero j bs bt m n p q = refl
values_are false true (suc zero) j bs bt m n p q = refl
values_are false false zero zero bs bt m n p q = refl
values_are false false zero (suc zero) bs bt m n p q = refl
values_are false false (suc zero) zero bs bt m n p q = refl
values_are false false (suc zero) (suc zero) bs bt m n p q = refl
values_are false true (suc (suc i)) j bs bt m n p q = absurd (omega (arith, p))
values_are false false (suc (suc i)) j bs bt m n p q = absurd (omega (arith, p))
values_are false false zero (suc (suc j)) bs bt m n p q = absurd (omega (arith, q))
values_are false false (suc zero) (suc (suc j)) bs bt m n p q = absurd (omega (arith, q))

-- ---- bytes

pub byte_allows-same : (b : Byte) → byte_allows b b ≡ true
byte_allows-same (byte.Bits n m) = rw (defined-own m, eq-eqb (defined_bits n m) (defined_bits n m) refl) refl
byte_allows-same (byte.Part p i) = rw (same_pointer-same p.block p.offset, eq-eqb i i refl) refl

pub bytes_are : (s t : Bool) (m n a b p q : ℕ) (bs bt : BlockName) (i j : ℕ)
    → cond s (t && (same_pointer bs i bt j && nat_eq p q)) (cond t (nat_eq m 255) (nat_eq (defined_bits n m) 0 && nat_eq (defined_bits a m) (defined_bits (defined_bits b n) m)))
    ≡ byte_allows (byte_of s m a (record { block = bs; offset = i }) p) (byte_of t n b (record { block = bt; offset = j }) q)
bytes_are true true m n a b p q bs bt i j = refl
bytes_are true false m n a b p q bs bt i j = refl
bytes_are false true m n a b p q bs bt i j = refl
bytes_are false false m n a b p q bs bt i j = rw (defined-again a m) refl

-- ---- lists of pairs

and_more : (all one rest : Bool) → ((all && one) && rest) ≡ (all && (one && rest))
and_more true one rest = refl
and_more false one rest = refl

and_true : (b : Bool) → (b && true) ≡ b
and_true true = refl
and_true false = refl

-- one more of a row of tests
pub tests_more : (all one before after whole : Bool) → before ≡ (one && after) → (all && before) ≡ whole → ((all && one) && after) ≡ whole
tests_more all one before after whole e so = and_more all one after ∙ (ap (λ b. all && b) (sym e) ∙ so)

take_none : {A : Type 0} (n : ℕ) (xs : List A) → xs ≡ [] → take n xs ≡ []
take_none zero xs e = refl
take_none (suc n) xs e = rw e refl

step_by : {A : Type 0} (test : A → A → Bool) (d e n i : ℕ) (s t : A) (ss ts : List A) → d ≡ n - i → e ≡ n - (i + 1)
    → pairs_pass test (take d (s ∷ ss)) (take d (t ∷ ts)) ≡ ((not (nat_lt i n) || test s t) && pairs_pass test (take e ss) (take e ts))
unfolding pairs_pass
step_by test zero zero n i s t ss ts p q = let none : nat_lt i n ≡ false = grind (arith, nat_tests) in rw none refl
step_by test zero (suc e) n i s t ss ts p q = absurd (omega (arith, p, q))
step_by test (suc d) e n i s t ss ts p q =
    let there : nat_lt i n ≡ true = grind (arith, nat_tests) in
    let same : e ≡ d = omega (arith, p, q) in
    rw (there, same) refl

-- one more byte, which is compared where it is before the size
pub place_step : {A B : Type 0} (test : B → B → Bool) (f : A → B) (n i : ℕ) (xs ys : List A) (x y : A) → i < length xs → i < length ys
    → pairs_pass test (take (n - i) (map f (drop i xs))) (take (n - i) (map f (drop i ys)))
    ≡ ((not (nat_lt i n) || test (f (get_or xs i x)) (f (get_or ys i y))) && pairs_pass test (take (n - (i + 1)) (map f (drop (i + 1) xs))) (take (n - (i + 1)) (map f (drop (i + 1) ys))))
place_step test f n i xs ys x y lt lt_y =
    let e : drop i xs ≡ get_or xs i x ∷ drop (i + 1) xs = drop_more xs i x lt in
    let e_y : drop i ys ≡ get_or ys i y ∷ drop (i + 1) ys = drop_more ys i y lt_y in
    rw (e, e_y) (step_by test (n - i) (n - (i + 1)) n i (f (get_or xs i x)) (f (get_or ys i y)) (map f (drop (i + 1) xs)) (map f (drop (i + 1) ys)) refl refl)

pub places_done : {A B : Type 0} (test : B → B → Bool) (f : A → B) (n i : ℕ) (xs ys : List A) → length xs ≤ i → length ys ≤ i → pairs_pass test (take (n - i) (map f (drop i xs))) (take (n - i) (map f (drop i ys))) ≡ true
unfolding pairs_pass
places_done test f n i xs ys le le_y =
    let e : map f (drop i xs) ≡ [] = ap (map f) (drop_all i xs le) in
    let e_y : map f (drop i ys) ≡ [] = ap (map f) (drop_all i ys le_y) in
    rw (take_none (n - i) (map f (drop i xs)) e, take_none (n - i) (map f (drop i ys)) e_y) refl

pub places_begin : {A : Type 0} (test : A → A → Bool) (n : ℕ) (xs ys : List A) → pairs_pass test (take (n - 0) xs) (take (n - 0) ys) ≡ pairs_pass test (take n xs) (take n ys)
places_begin test n xs ys = let e : n - 0 ≡ n = omega arith in rw e refl

pub block_step : {A B : Type 0} (test : B → B → Bool) (f : A → B) (i : ℕ) (xs ys : List A) (x y : A) → i < length xs → i < length ys → x ≡ get_or xs i x → y ≡ get_or ys i y
    → pairs_pass test (map f (drop i xs)) (map f (drop i ys)) ≡ (test (f x) (f y) && pairs_pass test (map f (drop (i + 1) xs)) (map f (drop (i + 1) ys)))
unfolding pairs_pass
block_step test f i xs ys x y lt lt_y ix iy =
    let e : drop i xs ≡ x ∷ drop (i + 1) xs = drop_more xs i x lt ∙ ap (λ z. z ∷ drop (i + 1) xs) (sym ix) in
    let e_y : drop i ys ≡ y ∷ drop (i + 1) ys = drop_more ys i y lt_y ∙ ap (λ z. z ∷ drop (i + 1) ys) (sym iy) in
    rw (e, e_y) refl

pub blocks_done : {A B : Type 0} (test : B → B → Bool) (f : A → B) (i : ℕ) (xs ys : List A) → length xs ≤ i → length ys ≤ i → pairs_pass test (map f (drop i xs)) (map f (drop i ys)) ≡ true
unfolding pairs_pass
blocks_done test f i xs ys le le_y =
    let e : drop i xs ≡ [] = drop_all i xs le in
    let e_y : drop i ys ≡ [] = drop_all i ys le_y in
    rw (e, e_y) refl

-- ---- blocks

abbrev block_from : BlockName → (size align : ℕ) → List Byte → MemoryBlock
block_from name size align places = record { name = name; size = size; align = align; places = places }

same_size : (m n : ℕ) (b : Bool) (ss ts : List Byte) → nat_eq m n ≡ b → (b && pairs_pass byte_allows (take m ss) (take m ts)) ≡ (b && pairs_pass byte_allows (take m ss) (take n ts))
same_size m n true ss ts e = let same : m ≡ n = eqb-true m n e in ap (λ k. pairs_pass byte_allows (take m ss) (take k ts)) same
same_size m n false ss ts e = refl

pub blocks_are : (name name' : BlockName) (m n k l : ℕ) (ss ts : List Byte) → name' ≡ name → (nat_eq m n && pairs_pass byte_allows (take m ss) (take m ts)) ≡ block_allows (block_from name m k ss) (block_from name' n l ts)
blocks_are name name' m n k l ss ts e = rw (e, equal_names-same name) (same_size m n (nat_eq m n) ss ts refl)

-- ---- outcomes

abbrev outcome_from : Bool → Bool → Option Value → List MemoryBlock → Outcome
outcome_from ub beyond value memory = cond ub Ub (cond beyond Beyond (Return value memory))

pub covered_is : (su sb tu tb : Bool) (s t : Option Value) (ms mt : List MemoryBlock)
    → ((su || sb) || (not tu && (tb || (returned_allows s t && blocks_allow ms mt)))) ≡ is_refined (outcome_from su sb s ms) (outcome_from tu tb t mt)
covered_is true sb false true s t ms mt = refl
covered_is true sb true tb s t ms mt = refl
covered_is true sb false false s t ms mt = refl
covered_is false true false true s t ms mt = refl
covered_is false true true tb s t ms mt = refl
covered_is false true false false s t ms mt = refl
covered_is false false true tb s t ms mt = refl
covered_is false false false true s t ms mt = refl
covered_is false false false false s t ms mt = refl
