-- Why the rules of quotients and remainders are right.
use Rattle.term_rules.proofs.Common.{ap, ℕ, ◌≡◌, ◌<◌, ◌≤◌, ◌+◌, ◌-◌, ◌*◌, ◌/◌, ◌%◌, ◌^◌, cond, List, length, arith, ◌∙◌, sym, subst, refl, inl, inr, cases_eq, ne_eqb, pow_pos, pow-add, mod-eq_of_lt, mul-pos, mul-mod_left, mul_comm, zero-mod, mod-mul-add, mod-mod_of_dvd, dvd_of_mod-eq-zero, div-div-eq-div-mul, div-le_self, mul-div_cancel, div-add-mod', TermId, Term, Tree, quotient, remainder, value_of, width_of, AreInRange, IsWidth, term_at, tree_in, weight_of, Form, Built, Divided, Known, IsDivided, IsLow, IsMultiple, IsReducedFrom, IsWhole, IsWidened, Simplifies}
use Rattle.bv_terms.specs.declared.term.BinaryOp.TheVariants as op
use Rattle.bv_terms.specs.declared.term.Term.TheVariants as term
use Rattle.bv_terms.specs.Tree as tree
use Rattle.term_rules.specs.declared.nested_divisions.Division.{Division}
use Rattle.term_rules.proofs.MultipleRules.{part-of}
use Rattle.term_sums.proofs.MultipleRules.{multiple_and_rest}
use Rattle.term_rules.proofs.Simplifying.{constant_form, same_tree}
use Rattle.term_rules.proofs.Stored.{weight_positive}

-- ---- numbers

remainder_of : (x y : ℕ) → 1 ≤ y → remainder x y ≡ x % y
remainder_of x y pos = ap (λ t. cond t x (x % y)) (ne_eqb y 0 (λ e. omega (arith, e, pos)))

quotient_of : (w x y : ℕ) → 1 ≤ y → quotient w x y ≡ x / y
quotient_of w x y pos = ap (λ t. cond t (2 ^ w - 1) (x / y)) (ne_eqb y 0 (λ e. omega (arith, e, pos)))

-- also where the divisor is 0
remainder_small : (x y : ℕ) → (1 ≤ y → x < y) → remainder x y ≡ x
remainder_small x y small = elim (cases_eq y 0) [
  | inl none ↦ rw none refl
  | inr some ↦ let pos : 1 ≤ y = omega (arith, some) in remainder_of x y pos ∙ mod-eq_of_lt (small pos)
]

quotient_in_turn : (w x first by : ℕ) → 1 ≤ first → quotient w (x / first) by ≡ quotient w x (first * by)
quotient_in_turn w x first by pos = elim (cases_eq by 0) [
  | inl none ↦ rw none (let z : 0 ≡ first * 0 = omega arith in ap (λ k. quotient w x k) z)
  | inr some ↦
      let one : 1 ≤ by = omega (arith, some) in
      quotient_of w (x / first) by one ∙ (div-div-eq-div-mul x first by ∙ sym (quotient_of w x (first * by) (mul-pos pos one)))
]

remainder_in_turn : (x first by : ℕ) → 1 ≤ by → first % by ≡ 0 → remainder x by ≡ remainder (remainder x first) by
remainder_in_turn x first by pos multiple = elim (cases_eq first 0) [
  | inl none ↦ rw none refl
  | inr some ↦
      let one : 1 ≤ first = omega (arith, some) in
      remainder_of x by pos
      ∙ (sym (mod-mod_of_dvd by x (dvd_of_mod-eq-zero by multiple))
      ∙ (ap (λ k. k % by) (sym (remainder_of x first one)) ∙ sym (remainder_of (remainder x first) by pos)))
]

-- a quotient times the divisor, also where that is 0
module _ (w x y : ℕ) (lt : x < 2 ^ w) where
  nothing : (k : ℕ) → y ≡ 0 → (k * y) % 2 ^ w ≡ 0
  nothing k none = ap (λ n. n % 2 ^ w) (let z : k * y ≡ 0 = ap (λ n. k * n) none ∙ (let f : k * 0 ≡ 0 = omega arith in f) in z) ∙ zero-mod (2 ^ w)

  taken : 1 ≤ y → (quotient w x y * y) % 2 ^ w ≡ x / y * y
  taken pos =
      let split : x / y * y + x % y ≡ x = div-add-mod' x y in
      ap (λ k. (k * y) % 2 ^ w) (quotient_of w x y pos) ∙ mod-eq_of_lt (let small : x / y * y < 2 ^ w = omega (arith, split, lt) in small)

  quotient_of_multiple : quotient w x y ≡ quotient w ((quotient w x y * y) % 2 ^ w) y
  quotient_of_multiple = elim (cases_eq y 0) [
    | inl none ↦ rw none refl
    | inr some ↦
        let pos : 1 ≤ y = omega (arith, some) in
        quotient_of w x y pos ∙ (sym (mul-div_cancel (x / y) pos)
        ∙ (ap (λ k. k / y) (sym (taken pos)) ∙ sym (quotient_of w ((quotient w x y * y) % 2 ^ w) y pos)))
  ]

  remainder_of_multiple : remainder ((quotient w x y * y) % 2 ^ w) y ≡ 0
  remainder_of_multiple = elim (cases_eq y 0) [
    | inl none ↦ remainder_small ((quotient w x y * y) % 2 ^ w) y (λ pos. absurd (let f : ⊥ = omega (arith, pos, none) in f)) ∙ nothing (quotient w x y) none
    | inr some ↦
        let pos : 1 ≤ y = omega (arith, some) in
        remainder_of ((quotient w x y * y) % 2 ^ w) y pos ∙ (ap (λ k. k % y) (taken pos) ∙ mul-mod_left (x / y) y)
  ]

-- the greatest number of a width, cut to a smaller one
ones_cut : (n w : ℕ) → n ≤ w → (2 ^ w - 1) % 2 ^ n ≡ 2 ^ n - 1
ones_cut n w le =
    let whole : n + (w - n) ≡ w = omega (arith, le) in
    let parts : 2 ^ w ≡ 2 ^ n * 2 ^ (w - n) = ap (λ k. 2 ^ k) (sym whole) ∙ pow-add 2 n (w - n) in
    let low : 1 ≤ 2 ^ n = pow_pos n in
    let high : 1 ≤ 2 ^ (w - n) = pow_pos (w - n) in
    let turned : 2 ^ n * 2 ^ (w - n) ≡ 2 ^ (w - n) * 2 ^ n = mul_comm (2 ^ n) (2 ^ (w - n)) in
    let one : (2 ^ (w - n) - 1) * 2 ^ n + 2 ^ n ≡ 2 ^ (w - n) * 2 ^ n = one_less (2 ^ (w - n)) (2 ^ n) high in
    ap (λ k. k % 2 ^ n) (let e : 2 ^ w - 1 ≡ (2 ^ (w - n) - 1) * 2 ^ n + (2 ^ n - 1) = omega (arith, parts, turned, one, low) in e)
    ∙ mod-mul-add (2 ^ (w - n) - 1) (2 ^ n) (2 ^ n - 1) (let f : 2 ^ n - 1 < 2 ^ n = omega (arith, low) in f)
  where
    one_less : (h l : ℕ) → 1 ≤ h → (h - 1) * l + l ≡ h * l
    one_less h l pos =
        let e : (h - 1) + 1 ≡ h = omega (arith, pos) in
        let split : ((h - 1) + 1) * l ≡ (h - 1) * l + l = grind arith in
        sym split ∙ ap (λ k. k * l) e

quotient_cut : (n w x y : ℕ) → n ≤ w → x < 2 ^ n → quotient n x y ≡ quotient w x y % 2 ^ n
quotient_cut n w x y le lt = elim (cases_eq y 0) [
  | inl none ↦ rw none (sym (ones_cut n w le))
  | inr some ↦
      let pos : 1 ≤ y = omega (arith, some) in
      let small : x / y < 2 ^ n = omega (arith, div-le_self x y, lt) in
      quotient_of n x y pos ∙ (sym (mod-eq_of_lt small) ∙ ap (λ k. k % 2 ^ n) (sym (quotient_of w x y pos)))
]

-- ---- one division after the other

pub quotient_at_once : (terms : List Term) (a b : TermId) (d : Division) (by product width : ℕ) → IsWidth width → width ≡ width_of (tree_in terms a) → ((v : ℕ → ℕ → ℕ) → term_at v terms b ≡ by)
    → IsDivided terms a d → product ≡ d.by * by → product < 2 ^ width
    → Simplifies terms (tree.Binary op.Udiv (tree_in terms a) (tree_in terms b) (width_of (tree_in terms a))) (Divided d.a product width)
quotient_at_once terms a b d by product width is e h q whole fits = record {
  fit = record { within = q.within; wide = q.wide ∙ sym e; range = is; fits = fits };
  wide = e;
  says = λ v.
      let x = term_at v terms d.a in
      ap (λ k. quotient width x k) whole
      ∙ (sym (quotient_in_turn width x d.by by q.nonzero)
      ∙ (ap (λ k. quotient width k by) (sym (q.says v))
      ∙ (ap (λ k. quotient width (term_at v terms a) k) (sym (h v))
      ∙ ap (λ k. quotient k (term_at v terms a) (term_at v terms b)) e)));
  least = omega (arith, q.least);
}

pub reduced_from : (terms : List Term) (r a b : TermId) (first by n : ℕ) → tree.Binary op.Urem (tree_in terms a) (tree_in terms b) n ≡ tree_in terms r → a.index < length terms → width_of (tree_in terms a) ≡ n
    → ((v : ℕ → ℕ → ℕ) → term_at v terms b ≡ first) → 1 ≤ by → first % by ≡ 0 → IsReducedFrom terms r by a
reduced_from terms r a b first by n is la wa h pos multiple = record {
  within = la;
  wide = wa ∙ ap width_of is;
  says = λ v. remainder_in_turn (term_at v terms a) first by pos multiple
      ∙ (ap (λ k. remainder (remainder (term_at v terms a) k) by) (sym (h v)) ∙ ap (λ (t : Tree). remainder (value_of v t) by) is);
  least = omega (arith, ap weight_of is);
}

-- what is less than the divisor is left
pub remainder_of_less : (terms : List Term) (a b : TermId) → a.index < length terms → ((v : ℕ → ℕ → ℕ) → 1 ≤ term_at v terms b → term_at v terms a < term_at v terms b)
    → Simplifies terms (tree.Binary op.Urem (tree_in terms a) (tree_in terms b) (width_of (tree_in terms a))) (Known a)
remainder_of_less terms a b la small = record {
  fit = la;
  wide = refl;
  says = λ v. sym (remainder_small (term_at v terms a) (term_at v terms b) (small v));
  least = omega arith;
}

-- ---- what a division takes off

pub whole_without_rest : (terms : List Term) (a b whole taken first second : TermId) (n m : ℕ) → AreInRange terms
    → tree.Binary op.Sub (tree_in terms whole) (tree_in terms taken) n ≡ tree_in terms a → tree.Binary op.Urem (tree_in terms first) (tree_in terms second) m ≡ tree_in terms taken
    → whole.index < length terms → b.index < length terms → width_of (tree_in terms whole) ≡ n → width_of (tree_in terms taken) ≡ n → width_of (tree_in terms second) ≡ m
    → first.index ≡ whole.index → second.index ≡ b.index → IsWhole terms a b whole
whole_without_rest terms a b whole taken first second n m range is left lw lb ww wt ws same by =
    let w = width_of (tree_in terms a) in
    let e : n ≡ w = ap width_of is in
    let divisor : tree_in terms second ≡ tree_in terms b = same_tree terms second b by in
    let dividend : tree_in terms first ≡ tree_in terms whole = same_tree terms first whole same in
    let multiple : IsMultiple terms whole a b = record {
      within = lb;
      left = ww ∙ e;
      right = ap width_of (sym divisor) ∙ (ws ∙ (ap width_of left ∙ (wt ∙ e)));
      says = λ v.
          let x = term_at v terms whole in
          let y = term_at v terms b in
          let q = (quotient w x y * y) % 2 ^ w in
          let small : x < 2 ^ w = subst (λ k. x < 2 ^ k) (ww ∙ e) (range v whole lw) in
          let rest : term_at v terms taken ≡ remainder x y =
          ap (value_of v) (sym left) ∙ (ap (λ (t : Tree). remainder (value_of v t) (term_at v terms second)) dividend ∙ ap (λ (t : Tree). remainder x (value_of v t)) divisor) in
          ap (value_of v) (sym is)
          ∙ (ap (λ k. (x + (2 ^ k - term_at v terms taken)) % 2 ^ k) e
          ∙ (ap (λ k. (x + (2 ^ w - k)) % 2 ^ w) rest
          ∙ sym (part-of q (remainder x y) x (2 ^ w) (multiple_and_rest w x y small) small)));
      least = omega (arith, ap weight_of is, ap weight_of left, ap weight_of divisor, weight_positive (tree_in terms first), ap weight_of dividend);
    } in
    record { within = lw; multiple = multiple }

pub whole_by_divisor : (terms : List Term) (a b whole by : TermId) → whole.index < length terms → by.index ≡ b.index → IsMultiple terms whole a by → IsWhole terms a b whole
whole_by_divisor terms a b whole by lw same h =
    let e : tree_in terms by ≡ tree_in terms b = same_tree terms by b same in
    let w = width_of (tree_in terms a) in
    let multiple : IsMultiple terms whole a b = record {
      within = subst (λ i. i < length terms) same h.within;
      left = h.left;
      right = ap width_of (sym e) ∙ h.right;
      says = λ v. h.says v ∙ ap (λ (t : Tree). (quotient w (term_at v terms whole) (value_of v t) * value_of v t) % 2 ^ w) e;
      least = omega (arith, h.least, ap weight_of e);
    } in
    record { within = lw; multiple = multiple }

module _ (terms : List Term) (a b whole : TermId) (width : ℕ) (range : AreInRange terms) (is : IsWidth width) (e : width ≡ width_of (tree_in terms a)) (h : IsWhole terms a b whole) where
  small : (v : ℕ → ℕ → ℕ) → term_at v terms whole < 2 ^ width_of (tree_in terms a)
  small v = subst (λ k. term_at v terms whole < 2 ^ k) h.multiple.left (range v whole h.within)

  pub quotient_of_whole : b.index < length terms → Simplifies terms (tree.Binary op.Udiv (tree_in terms a) (tree_in terms b) (width_of (tree_in terms a))) (Built (term.Binary op.Udiv whole b width))
  quotient_of_whole lb = record {
    fit = record { within = (is, h.within, lb); matched = (h.multiple.left ∙ sym e, h.multiple.right ∙ sym e); operation = tt };
    wide = e;
    says = λ v.
        let w = width_of (tree_in terms a) in
        let x = term_at v terms whole in
        let y = term_at v terms b in
        ap (λ k. quotient k x y) e ∙ (quotient_of_multiple w x y (small v) ∙ ap (λ k. quotient w k y) (sym (h.multiple.says v)));
    least = omega (arith, h.multiple.least);
  }

  pub remainder_of_whole : Simplifies terms (tree.Binary op.Urem (tree_in terms a) (tree_in terms b) (width_of (tree_in terms a))) (Built (term.Constant 0 width))
  remainder_of_whole = constant_form terms _ 0 width is (pow_pos width) e
      (λ v.
      let w = width_of (tree_in terms a) in
      ap (λ k. remainder k (term_at v terms b)) (h.multiple.says v) ∙ remainder_of_multiple w (term_at v terms whole) (term_at v terms b) (small v))

-- ---- quotients of widened numbers

pub low_of_quotient : (terms : List Term) (q a b first second : TermId) (n width : ℕ) (form : Form) → AreInRange terms → tree.Binary op.Udiv (tree_in terms a) (tree_in terms b) n ≡ tree_in terms q
    → width_of (tree_in terms a) ≡ n → IsWidened terms a first → IsWidened terms b second → width_of (tree_in terms first) ≡ width
    → Simplifies terms (tree.Binary op.Udiv (tree_in terms first) (tree_in terms second) (width_of (tree_in terms first))) form → IsLow terms q width form
low_of_quotient terms q a b first second n width form range is wa ha hb e s = record {
  fit = s.fit;
  wide = s.wide ∙ e;
  says = λ v.
      let x = term_at v terms a in
      let y = term_at v terms b in
      let small : x < 2 ^ width = subst (λ k. x < 2 ^ k) e (subst (λ k. k < 2 ^ width_of (tree_in terms first)) (ha.says v) (range v first ha.within)) in
      s.says v
      ∙ (ap (λ k. quotient k (term_at v terms first) (term_at v terms second)) e
      ∙ (ap (λ k. quotient width k (term_at v terms second)) (ha.says v)
      ∙ (ap (λ k. quotient width x k) (hb.says v)
      ∙ (quotient_cut width n x y (omega (arith, ha.narrow, e, wa)) small
      ∙ ap (λ (t : Tree). value_of v t % 2 ^ width) is))));
  least = omega (arith, s.least, ha.least, hb.least, ap weight_of is);
}
