-- What is made of several terms denotes what they say.
use Rattle.std.proofs.Common.{ℕ, ◌≡◌, ◌<◌, ◌≤◌, ◌/◌, ◌%◌, ◌^◌, Bool, true, false, cond, List, length, refl, ap, sym, ◌∙◌, arith, pow_mono}
use Rattle.std.proofs.Math.Nat.{mod-eq_of_lt}
use Rattle.bv_terms.specs.declared.term.TermId.{TermId}
use Rattle.bv_terms.specs.declared.term.Term.{Term}
use Rattle.bv_terms.specs.Tree.{width_of, truth}
use Rattle.bv_terms.specs.Trees.{Keeps, Makes, Tests, IsTerm, AreInRange, term_at, bit_at, tree_in}
use Rattle.mem_terms.specs.declared.integers.SymNumber.{SymNumber}
use Rattle.mem_terms.specs.Values.{IsSymNumber, number_at, value_from}
use Rattle.mem_terms.proofs.Later.{bit-later, term-later, within-later}

-- ---- numbers of another width

pow-le : (m n : ℕ) → m ≤ n → 2 ^ m ≤ 2 ^ n
pow-le m n h = pow_mono {i = m} {j = n} h

pub small_mod : (x m : ℕ) → x < m → x % m ≡ x
small_mod x m lt = mod-eq_of_lt lt

pub below-wider : (x m n : ℕ) → x < 2 ^ m → m ≤ n → x < 2 ^ n
below-wider x m n lt le = let wide = pow-le m n le in omega (arith, lt, wide)

pub makes-widened : (old new : List Term) (a id : TermId) (n : ℕ) → AreInRange old → a.index < length old → width_of (tree_in old a) ≤ n → Makes new id n (λ v. term_at v old a) → Makes new id n (λ v. term_at v old a % 2 ^ n)
makes-widened old new a id n range within le m = record {
  within = m.within;
  wide = m.wide;
  says = λ v. m.says v ∙ sym (small_mod (term_at v old a) (2 ^ n) (below-wider (term_at v old a) (width_of (tree_in old a)) n (range v a within) le));
}

-- ---- values

-- a number made first and its poison after it
pub number-made : (a b : List Term) (poison number : TermId) (p : (ℕ → ℕ → ℕ) → Bool) (x : (ℕ → ℕ → ℕ) → ℕ) (n : ℕ) → Makes a number n x → Keeps a b → Tests b poison p
    → (v : ℕ → ℕ → ℕ) → number_at v b (record { poison = poison; number = number }) ≡ value_from (p v) (x v)
unfolding number_at
number-made a b poison number p x n m k t v = rw (t.says v, term-later a b k v number m.within, m.says v) refl

picked : (c p q : Bool) (x y z w : ℕ) → truth z ≡ p → truth w ≡ q → value_from (truth (cond c z w)) (cond c x y) ≡ cond c (value_from p x) (value_from q y)
picked true p q x y z w ep eq = rw ep refl
picked false p q x y z w ep eq = rw eq refl

pub pick_number-stands : (old a b : List Term) (c poison number : TermId) (l r : SymNumber) → IsTerm old 1 c → IsSymNumber old l → IsSymNumber old r → Keeps old a → Keeps a b
    → Makes a poison (width_of (tree_in old l.poison)) (λ v. cond (bit_at v old c) (term_at v old l.poison) (term_at v old r.poison))
    → Makes b number (width_of (tree_in a l.number)) (λ v. cond (bit_at v a c) (term_at v a l.number) (term_at v a r.number))
    → (v : ℕ → ℕ → ℕ) → number_at v b (record { poison = poison; number = number }) ≡ cond (bit_at v old c) (number_at v old l) (number_at v old r)
unfolding number_at
pick_number-stands old a b c poison number l r hc hl hr k k' mp mn v =
    rw (bit-later a b k' v poison mp.within, mp.says v, mn.says v, bit-later old a k v c hc.within, term-later old a k v l.number hl.number.within, term-later old a k v r.number hr.number.within)
    (picked (bit_at v old c) (bit_at v old l.poison) (bit_at v old r.poison) (term_at v old l.number) (term_at v old r.number) (term_at v old l.poison) (term_at v old r.poison) refl refl)

-- ---- choices

-- a choice between two terms, made some terms later and said of still more
pub pick-later : (old before after new : List Term) (c x y id : TermId) (n : ℕ) → IsTerm old 1 c → IsTerm old n x → IsTerm old n y → Keeps old before → Keeps after new
    → Makes after id (width_of (tree_in before x)) (λ v. cond (bit_at v before c) (term_at v before x) (term_at v before y))
    → Makes new id n (λ v. cond (bit_at v old c) (term_at v old x) (term_at v old y))
pick-later old before after new c x y id n hc hx hy k k' m = record {
  within = within-later after new k' id m.within;
  wide = ap width_of (k'.kept id m.within) ∙ (m.wide ∙ (ap width_of (k.kept x hx.within) ∙ hx.wide));
  says = λ v.
      term-later after new k' v id m.within
      ∙ (m.says v ∙ rw (bit-later old before k v c hc.within, term-later old before k v x hx.within, term-later old before k v y hy.within) refl);
}

pub makes-term : (new : List Term) (id : TermId) (n : ℕ) (x : (ℕ → ℕ → ℕ) → ℕ) → Makes new id n x → IsTerm new n id
makes-term new id n x m = record { within = m.within; wide = m.wide }
