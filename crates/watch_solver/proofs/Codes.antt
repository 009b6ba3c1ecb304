-- A code and its literal determine each other.
use Rattle.watch_solver.proofs.Common.{ℕ, ◌≡◌, ◌<◌, ◌≤◌, ◌+◌, ◌*◌, ◌/◌, ◌%◌, ◌⊎◌, inl, inr, Bool, true, false, cond, nat_eq, eqb, arith, sym, ap, refl, ◌∙◌, cases_Bool, eqb-true, eqb-false, cases_eq, Lit, Code, index_of, lit_of}

number-index : (n : ℕ) → n ≡ 2 * (n / 2) + cond (nat_eq (n % 2) 1) 1 0
number-index n = elim (cases_Bool (eqb (n % 2) 1)) [
  | inl h ↦ let odd : n % 2 ≡ 1 = eqb-true (n % 2) 1 h in rw h (omega arith)
  | inr h ↦ let even : n % 2 ≡ 1 → ⊥ = eqb-false (n % 2) 1 h in rw h (omega arith)
]

pub number_is : (c : Code) → c.number ≡ index_of (lit_of c)
unfolding index_of lit_of
number_is c = number-index c.number

lit_from : (variable : ℕ) (positive : Bool) (n : ℕ) → n ≡ variable * 2 + cond positive 1 0 → lit_of (record { number = n }) ≡ record { variable = variable; positive = positive }
unfolding lit_of
lit_from variable true n e =
    let half : n / 2 ≡ variable = omega (arith, e) in
    let rest : n % 2 ≡ 1 = omega (arith, e) in
    rw (half, rest) refl
lit_from variable false n e =
    let half : n / 2 ≡ variable = omega (arith, e) in
    let rest : n % 2 ≡ 0 = omega (arith, e) in
    rw (half, rest) refl

pub lit_made : (l : Lit) (n : ℕ) → n ≡ l.variable * 2 + cond l.positive 1 0 → lit_of (record { number = n }) ≡ l
lit_made l n e = lit_from l.variable l.positive n e

pub index-injective : (a b : Lit) → index_of a ≡ index_of b → a ≡ b
unfolding index_of
index-injective a b e =
    sym (lit_made a (2 * a.variable + cond a.positive 1 0) (omega arith))
    ∙ (ap (λ n. lit_of (record { number = n })) e ∙ lit_made b (2 * b.variable + cond b.positive 1 0) (omega arith))

pub number-same : (a b : Code) → lit_of a ≡ lit_of b → a.number ≡ b.number
number-same a b e = number_is a ∙ (ap index_of e ∙ sym (number_is b))

pub same-number : (a b : Code) → a.number ≡ b.number → lit_of a ≡ lit_of b
same-number a b e = ap (λ n. lit_of (record { number = n })) e

pub index-below : (l : Lit) (n : ℕ) → l.variable ≤ n → index_of l < 2 * n + 2
unfolding index_of
index-below l n h = go l.positive
  where
    go : (b : Bool) → 2 * l.variable + cond b 1 0 < 2 * n + 2
    go true = omega (arith, h)
    go false = omega (arith, h)

-- two literals are the same or not
pub lit_cases : (a b : Lit) → (a ≡ b) ⊎ (a ≡ b → ⊥)
lit_cases a b = elim (cases_eq (index_of a) (index_of b)) [
  | inl e ↦ inl (index-injective a b e)
  | inr ne ↦ inr (λ e. ne (ap index_of e))
]
