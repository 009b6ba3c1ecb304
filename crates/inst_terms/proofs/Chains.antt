-- What terms made one after another denote.
use Rattle.inst_terms.proofs.Common.{ℕ, zero, suc, ◌≡◌, ◌<◌, ◌≤◌, ◌-◌, ◌*◌, ◌/◌, ◌%◌, ◌^◌, not, nat_eq, nat_le, nat_lt, List, pos, refl, ap, ◌∙◌, arith, int_lt, int_le, ◌*ℤ◌, TermId, Term, width_of, truth, extended_signed, is_less_signed, Keeps, Makes, Tests, IsTerm, AreInRange, term_at, bit_at, tree_in, signed_of, is_outside_signed, is_outside_unsigned, number_at, value_from, term-below, bit-later, term-later, keeps_trans, NarrowValue, IsNarrow, narrow_at}
use Rattle.points.specs.Table as table
use Rattle.inst_terms.proofs.Orders.{not-less, not-less-integer, less-signed}
use Rattle.inst_terms.proofs.Cuts.{outside-unsigned, outside-signed}
use Rattle.inst_terms.proofs.Multiplication.{product-fits, product-exact, product-low}

pub widened-stands : (old new : List Term) (value : NarrowValue) (number : TermId) (n : ℕ) → IsNarrow old n value → Keeps old new → Makes new number 64 (λ v. term_at v old value.number)
    → (v : ℕ → ℕ → ℕ) → number_at v new (record { poison = value.poison; number = number }) ≡ narrow_at v old value
unfolding number_at
widened-stands old new value number n h k m v = rw (bit-later old new k v value.poison h.poison.within, m.says v) refl

pub narrow-later : (old new : List Term) (k : Keeps old new) (s : NarrowValue) (n : ℕ) → IsNarrow old n s → (v : ℕ → ℕ → ℕ) → narrow_at v new s ≡ narrow_at v old s
narrow-later old new k s n h v = rw (bit-later old new k v s.poison h.poison.within, term-later old new k v s.number h.number.within) refl

-- ---- room

pub outside_unsigned-stands : (old g1 g2 g3 g4 : List Term) (a high nought none id : TermId) (from to : ℕ) → AreInRange old → IsTerm old from a → to ≤ from
    → Makes g1 high (from - to) (λ v. term_at v old a / 2 ^ to % 2 ^ (from - to)) → Keeps g1 g2 → Makes g2 nought (from - to) (λ _. 0)
    → Tests g3 none (λ v. nat_eq (term_at v g2 high) (term_at v g2 nought)) → Tests g4 id (λ v. not (bit_at v g3 none))
    → Tests g4 id (λ v. is_outside_unsigned to (pos (term_at v old a)))
outside_unsigned-stands old g1 g2 g3 g4 a high nought none id from to range ha le mh k mz tn ti = record {
  within = ti.within;
  wide = ti.wide;
  says = λ v. ti.says v ∙ rw (tn.says v, term-later g1 g2 k v high mh.within, mh.says v, mz.says v) (outside-unsigned to from (term_at v old a) le (term-below old from a range ha v));
}

pub outside_signed-stands : (old g1 g2 g3 g4 : List Term) (a low back same id : TermId) (from to : ℕ) → AreInRange old → IsTerm old from a → 1 ≤ to → to ≤ from
    → Keeps old g1 → Makes g1 low to (λ v. term_at v old a / 2 ^ 0 % 2 ^ to)
    → Keeps g1 g2 → Makes g2 back from (λ v. extended_signed (width_of (tree_in g1 low)) from (term_at v g1 low))
    → Tests g3 same (λ v. nat_eq (term_at v g2 back) (term_at v g2 a)) → Tests g4 id (λ v. not (bit_at v g3 same))
    → Tests g4 id (λ v. is_outside_signed to (signed_of from (term_at v old a)))
outside_signed-stands old g1 g2 g3 g4 a low back same id from to range ha least le k1 ml k2 mb ts ti = record {
  within = ti.within;
  wide = ti.wide;
  says = λ v.
      let x = term_at v old a in
      let whole : x / 2 ^ 0 % 2 ^ to ≡ x % 2 ^ to = ap (λ k. k % 2 ^ to) (let e : x / 2 ^ 0 ≡ x = omega arith in e) in
      let e_back : term_at v g2 back ≡ extended_signed to from (x % 2 ^ to) = mb.says v ∙ (ap (λ w. extended_signed w from (term_at v g1 low)) ml.wide ∙ ap (extended_signed to from) (ml.says v ∙ whole)) in
      let e_a : term_at v g2 a ≡ x = term-later old g2 (keeps_trans old g1 g2 k1 k2) v a ha.within in
      let e_same : bit_at v g3 same ≡ nat_eq (extended_signed to from (x % 2 ^ to)) x = ts.says v ∙ (ap (λ y. nat_eq y (term_at v g2 a)) e_back ∙ ap (nat_eq (extended_signed to from (x % 2 ^ to))) e_a) in
      ti.says v ∙ (ap not e_same ∙ outside-signed to from x least le (term-below old from a range ha v));
}

-- ---- products of twice the bits

times-wide : (new g : List Term) (wide_a wide_b id : TermId) (n : ℕ) (x y : (ℕ → ℕ → ℕ) → ℕ) → ((v : ℕ → ℕ → ℕ) → term_at v g wide_a ≡ x v) → ((v : ℕ → ℕ → ℕ) → term_at v g wide_b ≡ y v) → width_of (tree_in g wide_a) ≡ n
    → Makes new id (width_of (tree_in g wide_a)) (λ v. (term_at v g wide_a * term_at v g wide_b) % 2 ^ width_of (tree_in g wide_a)) → Makes new id n (λ v. (x v * y v) % 2 ^ n)
times-wide new g wide_a wide_b id n x y ex ey e m = record {
  within = m.within;
  wide = m.wide ∙ e;
  says = λ v. m.says v ∙ (ap (λ w. (term_at v g wide_a * term_at v g wide_b) % 2 ^ w) e ∙ (ap (λ k. (k * term_at v g wide_b) % 2 ^ n) (ex v) ∙ ap (λ k. (x v * k) % 2 ^ n) (ey v)));
}

pub product-made : (old g1 g2 new : List Term) (a b wide_a wide_b id : TermId) (n : ℕ) → AreInRange old → IsTerm old n a → IsTerm old n b
    → Keeps old g1 → Makes g1 wide_a (2 * n) (λ v. term_at v old a) → Keeps g1 g2 → Makes g2 wide_b (2 * n) (λ v. term_at v g1 b)
    → Makes new id (width_of (tree_in g2 wide_a)) (λ v. (term_at v g2 wide_a * term_at v g2 wide_b) % 2 ^ width_of (tree_in g2 wide_a))
    → Makes new id (2 * n) (λ v. term_at v old a * term_at v old b)
product-made old g1 g2 new a b wide_a wide_b id n range ha hb k1 ma k2 mb m =
    let whole = times-wide new g2 wide_a wide_b id (2 * n) (λ v. term_at v old a) (λ v. term_at v old b)
    (λ v. term-later g1 g2 k2 v wide_a ma.within ∙ ma.says v) (λ v. mb.says v ∙ term-later old g1 k1 v b hb.within) (ap width_of (k2.kept wide_a ma.within) ∙ ma.wide) m in
    record {
      within = whole.within;
      wide = whole.wide;
      says = λ v. whole.says v ∙ product-fits n (term_at v old a) (term_at v old b) (term-below old n a range ha v) (term-below old n b range hb v);
    }

pub signed_product-made : (old g1 g2 new : List Term) (a b wide_a wide_b id : TermId) (n : ℕ) → IsTerm old n a → IsTerm old n b
    → Keeps old g1 → Makes g1 wide_a (2 * n) (λ v. extended_signed (width_of (tree_in old a)) (2 * n) (term_at v old a))
    → Keeps g1 g2 → Makes g2 wide_b (2 * n) (λ v. extended_signed (width_of (tree_in g1 b)) (2 * n) (term_at v g1 b))
    → Makes new id (width_of (tree_in g2 wide_a)) (λ v. (term_at v g2 wide_a * term_at v g2 wide_b) % 2 ^ width_of (tree_in g2 wide_a))
    → Makes new id (2 * n) (λ v. (extended_signed n (2 * n) (term_at v old a) * extended_signed n (2 * n) (term_at v old b)) % 2 ^ (2 * n))
signed_product-made old g1 g2 new a b wide_a wide_b id n ha hb k1 ma k2 mb m =
    times-wide new g2 wide_a wide_b id (2 * n) (λ v. extended_signed n (2 * n) (term_at v old a)) (λ v. extended_signed n (2 * n) (term_at v old b))
    (λ v. term-later g1 g2 k2 v wide_a ma.within ∙ (ma.says v ∙ ap (λ w. extended_signed w (2 * n) (term_at v old a)) ha.wide))
    (λ v. mb.says v ∙ (ap (λ w. extended_signed w (2 * n) (term_at v g1 b)) (ap width_of (k1.kept b hb.within) ∙ hb.wide) ∙ ap (extended_signed n (2 * n)) (term-later old g1 k1 v b hb.within)))
    (ap width_of (k2.kept wide_a ma.within) ∙ ma.wide) m

pub signed_product-exact : (old new : List Term) (a b id : TermId) (n : ℕ) → 1 ≤ n → AreInRange old → IsTerm old n a → IsTerm old n b
    → Makes new id (2 * n) (λ v. (extended_signed n (2 * n) (term_at v old a) * extended_signed n (2 * n) (term_at v old b)) % 2 ^ (2 * n))
    → (v : ℕ → ℕ → ℕ) → signed_of (2 * n) (term_at v new id) ≡ signed_of n (term_at v old a) *ℤ signed_of n (term_at v old b)
signed_product-exact old new a b id n low range ha hb m v =
    ap (signed_of (2 * n)) (m.says v) ∙ product-exact n (term_at v old a) (term_at v old b) low (term-below old n a range ha v) (term-below old n b range hb v)

pub signed_product-low : (old new : List Term) (a b id : TermId) (n : ℕ) → 1 ≤ n → AreInRange old → IsTerm old n a → IsTerm old n b
    → Makes new id (2 * n) (λ v. (extended_signed n (2 * n) (term_at v old a) * extended_signed n (2 * n) (term_at v old b)) % 2 ^ (2 * n))
    → (v : ℕ → ℕ → ℕ) → term_at v new id % 2 ^ n ≡ (term_at v old a * term_at v old b) % 2 ^ n
signed_product-low old new a b id n low range ha hb m v =
    ap (λ k. k % 2 ^ n) (m.says v) ∙ product-low n (term_at v old a) (term_at v old b) low (term-below old n a range ha v) (term-below old n b range hb v)

-- ---- orders

pub at_most-stands : (old g1 new : List Term) (a b above id : TermId) → Tests g1 above (λ v. nat_lt (term_at v old b) (term_at v old a)) → Tests new id (λ v. not (bit_at v g1 above))
    → Tests new id (λ v. nat_le (term_at v old a) (term_at v old b))
at_most-stands old g1 new a b above id t u = record { within = u.within; wide = u.wide; says = λ v. u.says v ∙ (ap not (t.says v) ∙ not-less (term_at v old a) (term_at v old b)) }

pub past-stands : (old g0 g1 new : List Term) (a digits below id : TermId) (n : ℕ) → IsTerm old n a → Keeps old g0 → Makes g0 digits n (λ _. n)
    → Tests g1 below (λ v. nat_lt (term_at v g0 a) (term_at v g0 digits)) → Tests new id (λ v. not (bit_at v g1 below)) → Tests new id (λ v. nat_le n (term_at v old a))
past-stands old g0 g1 new a digits below id n ha k m t u = record {
  within = u.within;
  wide = u.wide;
  says = λ v.
      let e : bit_at v g1 below ≡ nat_lt (term_at v old a) n = t.says v ∙ (ap (λ x. nat_lt x (term_at v g0 digits)) (term-later old g0 k v a ha.within) ∙ ap (nat_lt (term_at v old a)) (m.says v)) in
      u.says v ∙ (ap not e ∙ not-less n (term_at v old a));
}

pub below_signed-stands : (old new : List Term) (a b id : TermId) (n : ℕ) → AreInRange old → IsTerm old n a → IsTerm old n b
    → Tests new id (λ v. is_less_signed (width_of (tree_in old a)) (term_at v old a) (term_at v old b))
    → Tests new id (λ v. int_lt (signed_of n (term_at v old a)) (signed_of n (term_at v old b)))
below_signed-stands old new a b id n range ha hb t = record {
  within = t.within;
  wide = t.wide;
  says = λ v. t.says v ∙ (ap (λ w. is_less_signed w (term_at v old a) (term_at v old b)) ha.wide ∙ less-signed n (term_at v old a) (term_at v old b) (term-below old n a range ha v) (term-below old n b range hb v));
}

pub at_most_signed-stands : (old g1 new : List Term) (a b above id : TermId) (n : ℕ) → Tests g1 above (λ v. int_lt (signed_of n (term_at v old b)) (signed_of n (term_at v old a))) → Tests new id (λ v. not (bit_at v g1 above))
    → Tests new id (λ v. int_le (signed_of n (term_at v old a)) (signed_of n (term_at v old b)))
at_most_signed-stands old g1 new a b above id n t u = record {
  within = u.within;
  wide = u.wide;
  says = λ v. u.says v ∙ (ap not (t.says v) ∙ not-less-integer (signed_of n (term_at v old a)) (signed_of n (term_at v old b)));
}

truth-number : (x : ℕ) → x < 2 ^ 1 → x ≡ table.truth (truth x)
truth-number zero lt = refl
truth-number (suc zero) lt = refl
truth-number (suc (suc x)) lt = absurd (omega (arith, lt))

pub truth-stands : (old new : List Term) (poison test number : TermId) → AreInRange old → IsTerm old 1 poison → IsTerm old 1 test → Keeps old new → Makes new number 64 (λ v. term_at v old test)
    → (v : ℕ → ℕ → ℕ) → number_at v new (record { poison = poison; number = number }) ≡ value_from (bit_at v old poison) (table.truth (bit_at v old test))
unfolding number_at
truth-stands old new poison test number range hp ht k m v =
    rw (bit-later old new k v poison hp.within, m.says v) (ap (value_from (bit_at v old poison)) (truth-number (term_at v old test) (term-below old 1 test range ht v)))
