-- Casts of numbers.
use Rattle.inst_terms.proofs.Common.{ℕ, ◌≡◌, ◌<◌, ◌≤◌, ◌+◌, ◌-◌, ◌*◌, ◌/◌, ◌%◌, ◌^◌, Bool, false, ◌&&◌, ◌||◌, List, pos, inl, inr, refl, ap, sym, ◌∙◌, arith, pow_pos, subst, cases_lt, lt-leb, mod_below, mod-mul-add, shr_split, shr_below, mod-eq_of_lt, Flags, TermId, Term, width_of, extended_signed, Makes, Tests, IsTerm, AreInRange, term_at, tree_in, signed_of, wrapped, is_outside_signed, is_outside_unsigned, cast_number, is_flagged, is_negative, term-below, NarrowValue, narrow_at}
use Rattle.ir_tree.specs.declared.tree.Cast.TheVariants.{Truncate, ZeroExtend, SignExtend}
use Rattle.inst_terms.proofs.Rows.{from_is-if}
use Rattle.inst_terms.proofs.Halves.{halves, signed_low, signed_high, outside-pos, outside-neg}
use Rattle.inst_terms.proofs.Additions.{outside-natural}
use Rattle.inst_terms.proofs.Cuts.{wider, powers, extended-low, extended-high}

-- ---- room at the same or a greater width

room-unsigned : (from to x : ℕ) → from ≤ to → x < 2 ^ from → is_outside_unsigned to (pos x) ≡ false
room-unsigned from to x le lt = let wide = wider from to le in outside-natural to x ∙ lt-leb (2 ^ to) x (omega (arith, lt, wide))

room-signed : (from to x : ℕ) → 1 ≤ from → from ≤ to → x < 2 ^ from → is_outside_signed to (signed_of from x) ≡ false
room-signed from to x low le lt =
    let half = halves from low in
    let wide = wider (from - 1) (to - 1) (omega (arith, le)) in
    elim (cases_lt x (2 ^ (from - 1))) as (λ _. is_outside_signed to (signed_of from x) ≡ false) [
      | inl less ↦ ap (is_outside_signed to) (signed_low from x less) ∙ (outside-pos to x ∙ lt-leb (2 ^ (to - 1)) x (omega (arith, less, wide)))
      | inr more ↦ ap (is_outside_signed to) (signed_high from x more lt) ∙ (outside-neg to (2 ^ from - x - 1) ∙ lt-leb (2 ^ (to - 1)) (2 ^ from - x - 1) (omega (arith, more, half, wide, lt)))
    ]

pub room-stands : (old new : List Term) (a id : TermId) (from to : ℕ) → from ≤ to → AreInRange old → IsTerm old from a → Tests new id (λ _. false) → Tests new id (λ v. is_outside_unsigned to (pos (term_at v old a)))
room-stands old new a id from to le range ha t = record { within = t.within; wide = t.wide; says = λ v. t.says v ∙ sym (room-unsigned from to (term_at v old a) le (term-below old from a range ha v)) }

pub signed_room-stands : (old new : List Term) (a id : TermId) (from to : ℕ) → 1 ≤ from → from ≤ to → AreInRange old → IsTerm old from a → Tests new id (λ _. false) → Tests new id (λ v. is_outside_signed to (signed_of from (term_at v old a)))
signed_room-stands old new a id from to low le range ha t = record { within = t.within; wide = t.wide; says = λ v. t.says v ∙ sym (room-signed from to (term_at v old a) low le (term-below old from a range ha v)) }

-- ---- numbers in two's complement at another width

extended-wrapped : (from to x : ℕ) → 1 ≤ from → from ≤ to → x < 2 ^ from → extended_signed from to x ≡ wrapped to (signed_of from x)
unfolding wrapped
extended-wrapped from to x low le lt =
    let wide = wider from to le in
    elim (cases_lt x (2 ^ (from - 1))) as (λ _. extended_signed from to x ≡ wrapped to (signed_of from x)) [
      | inl less ↦ rw (extended-low from to x less, signed_low from x less) (sym (mod-eq_of_lt (let small : x < 2 ^ to = omega (arith, lt, wide) in small)))
      | inr more ↦
          let small : (2 ^ from - x - 1) % 2 ^ to ≡ 2 ^ from - x - 1 = mod-eq_of_lt (omega (arith, lt, wide)) in
          rw (extended-high from to x more, signed_high from x more lt, small) (omega (arith, lt, wide))
    ]

-- the low bits of a number, from the top
top-digits : (from to x : ℕ) → to ≤ from → x < 2 ^ from → x % 2 ^ to ≡ 2 ^ to - 1 - (2 ^ from - x - 1) % 2 ^ to
top-digits from to x le lt =
    let e = powers to from le in
    let is : from ≡ (from - to) + to = omega (arith, le) in
    let split = shr_split x to in
    let rest : x % 2 ^ to < 2 ^ to = mod_below x (2 ^ to) (pow_pos to) in
    let high : x / 2 ^ to < 2 ^ (from - to) = shr_below x (from - to) to (subst (λ w. x < 2 ^ w) is lt) in
    let sum : 2 ^ from - x - 1 ≡ (2 ^ (from - to) - 1 - x / 2 ^ to) * 2 ^ to + (2 ^ to - 1 - x % 2 ^ to) = from-top (2 ^ (from - to)) (x / 2 ^ to) (2 ^ to) (x % 2 ^ to) (2 ^ from) x high e rest split in
    let turned : (2 ^ from - x - 1) % 2 ^ to ≡ 2 ^ to - 1 - x % 2 ^ to = ap (λ k. k % 2 ^ to) sum ∙ mod-mul-add (2 ^ (from - to) - 1 - x / 2 ^ to) (2 ^ to) (2 ^ to - 1 - x % 2 ^ to) (omega (arith, pow_pos to)) in
    omega (arith, turned, rest)
  where
    top-of : (d q p r t x : ℕ) → t ≡ (d + q + 1) * p → r < p → q * p + r ≡ x → t - x - 1 ≡ d * p + (p - 1 - r)
    top-of d q p r t x e rest split =
        let times : (d + q + 1) * p ≡ d * p + q * p + p = omega arith in
        omega (arith, e, times, rest, split)

    from-top : (m q p r t x : ℕ) → q < m → t ≡ m * p → r < p → q * p + r ≡ x → t - x - 1 ≡ (m - 1 - q) * p + (p - 1 - r)
    from-top m q p r t x less e rest split =
        let parts : m ≡ (m - 1 - q) + q + 1 = omega (arith, less) in
        top-of (m - 1 - q) q p r t x (e ∙ ap (λ k. k * p) parts) rest split

cut-wrapped : (from to x : ℕ) → to ≤ from → x < 2 ^ from → x % 2 ^ to ≡ wrapped to (signed_of from x)
unfolding wrapped
cut-wrapped from to x le lt = elim (cases_lt x (2 ^ (from - 1))) as (λ _. x % 2 ^ to ≡ wrapped to (signed_of from x)) [
  | inl less ↦ rw (signed_low from x less) refl
  | inr more ↦ rw (signed_high from x more lt) (top-digits from to x le lt)
]

pub extended-made : (old new : List Term) (a id : TermId) (from to : ℕ) → 1 ≤ from → from ≤ to → AreInRange old → IsTerm old from a → Makes new id to (λ v. extended_signed (width_of (tree_in old a)) to (term_at v old a))
    → Makes new id to (λ v. wrapped to (signed_of from (term_at v old a)))
extended-made old new a id from to low le range ha m = record {
  within = m.within;
  wide = m.wide;
  says = λ v. m.says v ∙ (ap (λ w. extended_signed w to (term_at v old a)) ha.wide ∙ extended-wrapped from to (term_at v old a) low le (term-below old from a range ha v));
}

pub cut-made : (old new : List Term) (a id : TermId) (from to : ℕ) → to ≤ from → AreInRange old → IsTerm old from a → Makes new id to (λ v. term_at v old a % 2 ^ to) → Makes new id to (λ v. wrapped to (signed_of from (term_at v old a)))
cut-made old new a id from to le range ha m = record { within = m.within; wide = m.wide; says = λ v. m.says v ∙ cut-wrapped from to (term_at v old a) le (term-below old from a range ha v) }

-- ---- the rows

module _ (old new : List Term) (a : TermId) (s : NarrowValue) (from to : ℕ) where
  pub truncated-row : (flags : Flags) → Tests new s.poison (λ v. (flags.nuw && is_outside_unsigned to (pos (term_at v old a))) || (flags.nsw && is_outside_signed to (signed_of from (term_at v old a))))
      → Makes new s.number to (λ v. term_at v old a % 2 ^ to) → (v : ℕ → ℕ → ℕ) → narrow_at v new s ≡ cast_number (Truncate flags) from to (term_at v old a)
  truncated-row flags t m v = rw (t.says v, m.says v) (from_is-if (is_flagged flags (is_outside_unsigned to (pos (term_at v old a))) (is_outside_signed to (signed_of from (term_at v old a)))) (term_at v old a % 2 ^ to))

  pub zeros-row : (non_negative : Bool) → Tests new s.poison (λ v. non_negative && is_negative from (term_at v old a)) → Makes new s.number to (λ v. term_at v old a % 2 ^ to)
      → (v : ℕ → ℕ → ℕ) → narrow_at v new s ≡ cast_number (ZeroExtend non_negative) from to (term_at v old a)
  zeros-row non_negative t m v = rw (t.says v, m.says v) (from_is-if (non_negative && is_negative from (term_at v old a)) (term_at v old a % 2 ^ to))

  pub signs-row : Tests new s.poison (λ _. false) → Makes new s.number to (λ v. wrapped to (signed_of from (term_at v old a)))
      → (v : ℕ → ℕ → ℕ) → narrow_at v new s ≡ cast_number SignExtend from to (term_at v old a)
  signs-row t m v = rw (t.says v, m.says v) refl
