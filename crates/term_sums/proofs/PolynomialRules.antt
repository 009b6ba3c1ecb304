-- The values of sums of products whose lists change.
use Rattle.term_sums.proofs.Common.{ap, ℕ, zero, suc, ◌≡◌, ◌<◌, ◌+◌, ◌*◌, ◌%◌, ◌^◌, List, [], ◌∷◌, ◌++◌, length, get_or, arith, ◌∙◌, sym, TermId, Term, term_at, mod-add-mod, add-mod-mod}
use Rattle.std.proofs.lemmas.Nat.{mul-mod_first}
use Rattle.std.proofs.lemmas.List.{take-append-drop}
use Rattle.std.specs.Prelude.{take, drop}
use Rattle.term_sums.specs.Polynomials.{AddsTo, factor_value, factors_value, monomial_value, sum_value, pending_value, product_value, work_value}
use Rattle.term_sums.specs.declared.monomials.Factor.{Factor}
use Rattle.term_sums.specs.declared.monomials.Monomial.{Monomial}
use Rattle.term_sums.specs.declared.expanding.Product.{Product}

-- ---- lists

module _ (v : ℕ → ℕ → ℕ) (terms : List Term) (w : ℕ) where
  factors_append : (xs ys : List Factor) → factors_value v terms w (xs ++ ys) ≡ factors_value v terms w xs * factors_value v terms w ys
  factors_append [] ys = omega arith
  factors_append (x ∷ xs) ys = omega (arith, ap (λ k. factor_value v terms w x * k) (factors_append xs ys))

  pub factors_inserted : (xs : List Factor) (i : ℕ) (x : Factor)
      → factors_value v terms w (take i xs ++ x ∷ drop i xs) ≡ factors_value v terms w xs * factors_value v terms w (x ∷ [])
  factors_inserted xs i x =
      let F : List Factor → ℕ = factors_value v terms w in
      let f = factor_value v terms w x in
      let whole : F (take i xs) * F (drop i xs) ≡ F xs = sym (factors_append (take i xs) (drop i xs)) ∙ ap F (take-append-drop i xs) in
      factors_append (take i xs) (x ∷ drop i xs) ∙ omega (arith, ap (λ k. f * k) whole)

  sum_append : (xs ys : List Monomial) → sum_value v terms w (xs ++ ys) ≡ sum_value v terms w xs + sum_value v terms w ys
  sum_append [] ys = omega arith
  sum_append (x ∷ xs) ys = omega (arith, sum_append xs ys)

  pub sum_pushed : (xs : List Monomial) (m : Monomial) → sum_value v terms w (xs ++ m ∷ []) ≡ sum_value v terms w xs + monomial_value v terms w m
  sum_pushed xs m = omega (arith, sum_append xs (m ∷ []))

  pub sum_removed : (xs : List Monomial) (i : ℕ) (d : Monomial) → i < length xs
      → sum_value v terms w (take i xs ++ drop (suc i) xs) + monomial_value v terms w (get_or xs i d) ≡ sum_value v terms w xs
  sum_removed [] i d lt = absurd (omega (arith, lt))
  sum_removed (x ∷ xs) zero d lt = omega arith
  sum_removed (x ∷ xs) (suc i) d lt = omega (arith, sum_removed xs i d (omega (arith, lt)))

  pub pending_pushed : (is : List ℕ) (i : ℕ) → pending_value v terms w (is ++ i ∷ []) ≡ pending_value v terms w is * term_at v terms (record { index = i })
  pending_pushed [] i = omega arith
  pending_pushed (j ∷ is) i = omega (arith, ap (λ k. term_at v terms (record { index = j }) * k) (pending_pushed is i))

  pending_append : (is js : List ℕ) → pending_value v terms w (is ++ js) ≡ pending_value v terms w is * pending_value v terms w js
  pending_append [] js = omega arith
  pending_append (i ∷ is) js = omega (arith, ap (λ k. term_at v terms (record { index = i }) * k) (pending_append is js))

  pub pending_inserted : (is : List ℕ) (n i : ℕ) → pending_value v terms w (take n is ++ i ∷ drop n is) ≡ pending_value v terms w is * term_at v terms (record { index = i })
  pending_inserted is n i =
      let P : List ℕ → ℕ = pending_value v terms w in
      let t = term_at v terms (record { index = i }) in
      let whole : P (take n is) * P (drop n is) ≡ P is = sym (pending_append (take n is) (drop n is)) ∙ ap P (take-append-drop n is) in
      pending_append (take n is) (i ∷ drop n is) ∙ omega (arith, ap (λ k. t * k) whole)

  pub work_removed : (ps : List Product) (i : ℕ) (d : Product) → i < length ps
      → work_value v terms w (take i ps ++ drop (suc i) ps) + product_value v terms w (get_or ps i d) ≡ work_value v terms w ps
  work_removed [] i d lt = absurd (omega (arith, lt))
  work_removed (p ∷ ps) zero d lt = omega arith
  work_removed (p ∷ ps) (suc i) d lt = omega (arith, work_removed ps i d (omega (arith, lt)))

  pub work_pushed : (ps : List Product) (p : Product) → work_value v terms w (ps ++ p ∷ []) ≡ work_value v terms w ps + product_value v terms w p
  work_pushed [] p = omega arith
  work_pushed (q ∷ ps) p = omega (arith, work_pushed ps p)

-- ---- numbers modulo m

module _ (m : ℕ) where
  -- a number cut at its coefficient
  pub cut_times : (a x y : ℕ) → (a % m * x * y) % m ≡ (a * x * y) % m
  cut_times a x y =
      let first : (a % m * x * y) % m ≡ (a % m * (x * y)) % m = ap (λ k. k % m) (let e : a % m * x * y ≡ a % m * (x * y) = omega arith in e) in
      let last : (a * (x * y)) % m ≡ (a * x * y) % m = ap (λ k. k % m) (let e : a * (x * y) ≡ a * x * y = omega arith in e) in
      first ∙ (mul-mod_first a (x * y) m ∙ last)

  -- the same numbers times one
  pub same_times : (a b x : ℕ) → a % m ≡ b % m → (a * x) % m ≡ (b * x) % m
  same_times a b x e = sym (mul-mod_first a x m) ∙ (ap (λ k. (k * x) % m) e ∙ mul-mod_first b x m)

  -- one that is added to the same numbers
  pub same_plus : (x a b : ℕ) → a % m ≡ b % m → (x + a) % m ≡ (x + b) % m
  same_plus x a b e = sym (add-mod-mod x a m) ∙ (ap (λ k. (x + k) % m) e ∙ add-mod-mod x b m)

  pub plus_same : (a b x : ℕ) → a % m ≡ b % m → (a + x) % m ≡ (b + x) % m
  plus_same a b x e = sym (mod-add-mod a m x) ∙ (ap (λ k. (k + x) % m) e ∙ mod-add-mod b m x)

-- ---- sums modulo 2 to the power of a width

module _ (v : ℕ → ℕ → ℕ) (terms : List Term) (w : ℕ) where
  -- one product is put in the place of another with its factors
  pub sum_collected : (old new : List Monomial) (i : ℕ) (other m : Monomial) (c : ℕ) → i < length old → get_or old i other ≡ other
      → factors_value v terms w other.factors.items ≡ factors_value v terms w m.factors.items
      → c ≡ (other.coefficient + m.coefficient) % 2 ^ w
      → sum_value v terms w new ≡ sum_value v terms w (take i old ++ drop (suc i) old) + c * factors_value v terms w m.factors.items
      → sum_value v terms w new % 2 ^ w ≡ (sum_value v terms w old + monomial_value v terms w m) % 2 ^ w
  sum_collected old new i other m c lt found same number made =
      let rest = sum_value v terms w (take i old ++ drop (suc i) old) in
      let f = factors_value v terms w m.factors.items in
      let whole : rest + other.coefficient * f ≡ sum_value v terms w old =
      let taken : rest + monomial_value v terms w (get_or old i other) ≡ sum_value v terms w old = sum_removed v terms w old i other lt in
      ap (λ k. rest + other.coefficient * k) (sym same) ∙ (ap (λ (o : Monomial). rest + monomial_value v terms w o) (sym found) ∙ taken) in
      let cut : (c * f) % 2 ^ w ≡ ((other.coefficient + m.coefficient) * f) % 2 ^ w =
      ap (λ k. (k * f) % 2 ^ w) number ∙ mul-mod_first (other.coefficient + m.coefficient) f (2 ^ w) in
      let split : rest + (other.coefficient + m.coefficient) * f ≡ sum_value v terms w old + monomial_value v terms w m = omega (arith, whole) in
      ap (λ k. k % 2 ^ w) made ∙ (same_plus (2 ^ w) rest (c * f) ((other.coefficient + m.coefficient) * f) cut ∙ ap (λ k. k % 2 ^ w) split)

  -- ---- products that wait

  abbrev pub F : Product → ℕ
  F p = factors_value v terms w p.factors.items

  abbrev pub P : Product → ℕ
  P p = pending_value v terms w p.pending.items

  pub times_number : (p made : Product) (by : ℕ) → made.coefficient ≡ (p.coefficient * by) % 2 ^ w → made.factors.items ≡ p.factors.items → made.pending.items ≡ p.pending.items
      → product_value v terms w made % 2 ^ w ≡ (product_value v terms w p * by) % 2 ^ w
  times_number p made by number factors pending =
      let value : product_value v terms w made ≡ (p.coefficient * by) % 2 ^ w * F p * P p =
      ap (λ k. k * F made * P made) number
      ∙ (ap (λ k. (p.coefficient * by) % 2 ^ w * factors_value v terms w k * P made) factors
      ∙ ap (λ k. (p.coefficient * by) % 2 ^ w * F p * pending_value v terms w k) pending) in
      let turned : p.coefficient * by * F p * P p ≡ product_value v terms w p * by = omega arith in
      ap (λ k. k % 2 ^ w) value ∙ (cut_times (2 ^ w) (p.coefficient * by) (F p) (P p) ∙ ap (λ k. k % 2 ^ w) turned)

  pub times_term : (made more : Product) (a : TermId) (n at : ℕ) → more.coefficient ≡ made.coefficient → more.factors.items ≡ made.factors.items → more.pending.items ≡ take at made.pending.items ++ a.index ∷ drop at made.pending.items
      → product_value v terms w made % 2 ^ w ≡ n % 2 ^ w → product_value v terms w more % 2 ^ w ≡ (n * term_at v terms a) % 2 ^ w
  times_term made more a n at number factors pending e =
      let last : P more ≡ P made * term_at v terms a = ap (pending_value v terms w) pending ∙ pending_inserted v terms w made.pending.items at a.index in
      let value : product_value v terms w more ≡ product_value v terms w made * term_at v terms a =
      ap (λ k. k * F more * P more) number
      ∙ (ap (λ k. made.coefficient * factors_value v terms w k * P more) factors
      ∙ (ap (λ k. made.coefficient * F made * k) last ∙ (let turned : made.coefficient * F made * (P made * term_at v terms a) ≡ product_value v terms w made * term_at v terms a = omega arith in turned))) in
      ap (λ k. k % 2 ^ w) value ∙ same_times (2 ^ w) (product_value v terms w made) n (term_at v terms a) e

  pub times_factor_value : (p made : Product) (f : Factor) → made.coefficient ≡ p.coefficient → made.pending.items ≡ p.pending.items
      → F made ≡ F p * factors_value v terms w (f ∷ []) → product_value v terms w made ≡ product_value v terms w p * factor_value v terms w f
  times_factor_value p made f number pending factors =
      ap (λ k. k * F made * P made) number
      ∙ (ap (λ k. p.coefficient * k * P made) factors
      ∙ (ap (λ k. p.coefficient * (F p * factors_value v terms w (f ∷ [])) * pending_value v terms w k) pending
      ∙ (let turned : p.coefficient * (F p * (factor_value v terms w f * 1)) * P p ≡ product_value v terms w p * factor_value v terms w f = omega arith in turned)))

  -- one product is put in the place of another with its factors and terms
  pub work_joined : (old new : List Product) (i : ℕ) (other p made : Product) → i < length old → get_or old i other ≡ other
      → other.factors.items ≡ p.factors.items → other.pending.items ≡ p.pending.items
      → made.coefficient ≡ (other.coefficient + p.coefficient) % 2 ^ w → made.factors.items ≡ p.factors.items → made.pending.items ≡ p.pending.items
      → work_value v terms w new ≡ work_value v terms w (take i old ++ drop (suc i) old) + product_value v terms w made
      → AddsTo w (work_value v terms w old) (work_value v terms w new) (product_value v terms w p)
  work_joined old new i other p made lt found factors pending number same-factors same-pending put =
      let rest = work_value v terms w (take i old ++ drop (suc i) old) in
      let n = F p * P p in
      let whole : rest + other.coefficient * F other * P other ≡ work_value v terms w old =
      ap (λ (o : Product). rest + product_value v terms w o) (sym found) ∙ work_removed v terms w old i other lt in
      let like : other.coefficient * F other * P other ≡ other.coefficient * n =
      ap (λ k. other.coefficient * factors_value v terms w k * P other) factors
      ∙ (ap (λ k. other.coefficient * F p * pending_value v terms w k) pending
      ∙ (let turn : other.coefficient * F p * P p ≡ other.coefficient * (F p * P p) = omega arith in turn)) in
      let value : product_value v terms w made ≡ (other.coefficient + p.coefficient) % 2 ^ w * n =
      ap (λ k. k * F made * P made) number
      ∙ (ap (λ k. (other.coefficient + p.coefficient) % 2 ^ w * factors_value v terms w k * P made) same-factors
      ∙ (ap (λ k. (other.coefficient + p.coefficient) % 2 ^ w * F p * pending_value v terms w k) same-pending
      ∙ (let turn : (other.coefficient + p.coefficient) % 2 ^ w * F p * P p ≡ (other.coefficient + p.coefficient) % 2 ^ w * (F p * P p) = omega arith in turn))) in
      let cut : product_value v terms w made % 2 ^ w ≡ ((other.coefficient + p.coefficient) * n) % 2 ^ w =
      ap (λ k. k % 2 ^ w) value ∙ mul-mod_first (other.coefficient + p.coefficient) n (2 ^ w) in
      let split : rest + (other.coefficient + p.coefficient) * n ≡ work_value v terms w old + product_value v terms w p = omega (arith, whole, like) in
      ap (λ k. k % 2 ^ w) put ∙ (same_plus (2 ^ w) rest (product_value v terms w made) ((other.coefficient + p.coefficient) * n) cut ∙ ap (λ k. k % 2 ^ w) split)
