-- Numbers at a width.
use Rattle.run_terms.proofs.Common.{ℕ, ◌≡◌, ◌≤◌, ◌%◌, ◌^◌, Bool, true, false, List, refl, ap, ◌∙◌, Num, cut_value, SymNumber, IsSymNumber, number_at, value_from, keeps_trans, bit-later, small_mod, below-wider, TermId, Term, Keeps, Makes, bit_at, term_at}
use Rattle.std.proofs.lemmas.Nat.{pow_pos, mod_below}

-- a number of at most 64 bits has them in 64
pub narrow : (x n : ℕ) → n ≤ 64 → x % 2 ^ n % 2 ^ 64 ≡ x % 2 ^ n
narrow x n small = small_mod (x % 2 ^ n) (2 ^ 64) (below-wider (x % 2 ^ n) n 64 (mod_below x (2 ^ n) (pow_pos n)) small)

pub cut-from : (p : Bool) (x y n : ℕ) → y ≡ x % 2 ^ n → value_from p y ≡ cut_value n (value_from p x)
cut-from true x y n e = refl
cut-from false x y n e = ap Num e

pub cut-stands : (old a b : List Term) (s : SymNumber) (low number : TermId) (n : ℕ) → n ≤ 64 → IsSymNumber old s → Keeps old a → Makes a low n (λ v. term_at v old s.number % 2 ^ n)
    → Keeps a b → Makes b number 64 (λ v. term_at v a low % 2 ^ 64) → (v : ℕ → ℕ → ℕ) → number_at v b (record { poison = s.poison; number = number }) ≡ cut_value n (number_at v old s)
unfolding number_at
cut-stands old a b s low number n small h ka ml kb mn v =
    rw (bit-later old b (keeps_trans old a b ka kb) v s.poison h.poison.within)
    (cut-from (bit_at v old s.poison) (term_at v old s.number) (term_at v b number) n (mn.says v ∙ (ap (λ x. x % 2 ^ 64) (ml.says v) ∙ narrow (term_at v old s.number) n small)))
