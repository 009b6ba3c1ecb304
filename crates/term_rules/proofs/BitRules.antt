-- Why the rules of operations bit by bit are right.
use Rattle.term_rules.proofs.Common.{ap, ℕ, ◌≡◌, ◌<◌, ◌+◌, ◌-◌, ◌^◌, List, length, arith, ◌∙◌, sym, subst, refl, bit_and, bit_or, bit_xor, and_self, or_self, xor_self, or_add_and, xor_add_and, or_zero_r, xor_assoc, xor_zero_r, and_assoc, and_comm, and_mask, and_or_self, or_comm, pow_pos, xor_comm, mod-eq_of_lt, TermId, Term, Tree, value_of, width_of, AreInRange, IsWidth, term_at, tree_in, weight_of, Form, Built, Known, Simplifies}
use Rattle.bv_terms.specs.declared.term.BinaryOp.TheVariants as op
use Rattle.bv_terms.specs.declared.term.Term.TheVariants as term
use Rattle.bv_terms.specs.Tree as tree
use Rattle.term_rules.proofs.Simplifying.{constant_form, same_tree, simplifies_like}

-- ---- numbers

pub and_ones : (x w : ℕ) → x < 2 ^ w → bit_and x (2 ^ w - 1) ≡ x
and_ones x w lt = and_mask x w ∙ mod-eq_of_lt lt

pub or_ones : (x w : ℕ) → x < 2 ^ w → bit_or x (2 ^ w - 1) ≡ 2 ^ w - 1
or_ones x w lt = omega (arith, or_add_and x (2 ^ w - 1), and_ones x w lt)

xor_ones : (x w : ℕ) → x < 2 ^ w → bit_xor x (2 ^ w - 1) ≡ 2 ^ w - 1 - x
xor_ones x w lt = omega (arith, xor_add_and x (2 ^ w - 1), and_ones x w lt, lt)

-- what has all bits of another
or_within : (x m : ℕ) → bit_and x m ≡ m → bit_or x m ≡ x
or_within x m h = omega (arith, or_add_and x m, h)

or_above : (x m : ℕ) → bit_and x m ≡ x → bit_or x m ≡ m
or_above x m h = omega (arith, or_add_and x m, h)

and_again : (x m : ℕ) → bit_and (bit_and x m) m ≡ bit_and x m
and_again x m = and_assoc m x m ∙ ap (λ k. bit_and x k) (and_self m)

xor_again : (x m : ℕ) → bit_xor (bit_xor x m) m ≡ x
xor_again x m = xor_assoc x m m ∙ (ap (λ k. bit_xor x k) (xor_self m) ∙ xor_zero_r x)

-- ---- operands of operands

module _ (terms : List Term) (a b first second : TermId) (n : ℕ) where
  pub in_and_first : tree.Binary op.And (tree_in terms first) (tree_in terms second) n ≡ tree_in terms a → first.index ≡ b.index
      → (v : ℕ → ℕ → ℕ) → bit_and (term_at v terms a) (term_at v terms b) ≡ term_at v terms a
  in_and_first is same v =
      let value : term_at v terms a ≡ bit_and (term_at v terms second) (term_at v terms b) =
      ap (value_of v) (sym is) ∙ (and_comm (term_at v terms first) (term_at v terms second) ∙ ap (λ (t : Tree). bit_and (term_at v terms second) (value_of v t)) (same_tree terms first b same)) in
      ap (λ k. bit_and k (term_at v terms b)) value ∙ (and_again (term_at v terms second) (term_at v terms b) ∙ sym value)

  pub in_and_second : tree.Binary op.And (tree_in terms first) (tree_in terms second) n ≡ tree_in terms a → second.index ≡ b.index
      → (v : ℕ → ℕ → ℕ) → bit_and (term_at v terms a) (term_at v terms b) ≡ term_at v terms a
  in_and_second is same v =
      let value : term_at v terms a ≡ bit_and (term_at v terms first) (term_at v terms b) =
      ap (value_of v) (sym is) ∙ ap (λ (t : Tree). bit_and (term_at v terms first) (value_of v t)) (same_tree terms second b same) in
      ap (λ k. bit_and k (term_at v terms b)) value ∙ (and_again (term_at v terms first) (term_at v terms b) ∙ sym value)

  pub in_or_first : tree.Binary op.Or (tree_in terms first) (tree_in terms second) n ≡ tree_in terms a → first.index ≡ b.index
      → (v : ℕ → ℕ → ℕ) → bit_and (term_at v terms a) (term_at v terms b) ≡ term_at v terms b
  in_or_first is same v =
      let value : term_at v terms a ≡ bit_or (term_at v terms second) (term_at v terms b) =
      ap (value_of v) (sym is) ∙ (or_comm (term_at v terms first) (term_at v terms second) ∙ ap (λ (t : Tree). bit_or (term_at v terms second) (value_of v t)) (same_tree terms first b same)) in
      ap (λ k. bit_and k (term_at v terms b)) value ∙ and_or_self (term_at v terms b) (term_at v terms second)

  pub in_or_second : tree.Binary op.Or (tree_in terms first) (tree_in terms second) n ≡ tree_in terms a → second.index ≡ b.index
      → (v : ℕ → ℕ → ℕ) → bit_and (term_at v terms a) (term_at v terms b) ≡ term_at v terms b
  in_or_second is same v =
      let value : term_at v terms a ≡ bit_or (term_at v terms first) (term_at v terms b) =
      ap (value_of v) (sym is) ∙ ap (λ (t : Tree). bit_or (term_at v terms first) (value_of v t)) (same_tree terms second b same) in
      ap (λ k. bit_and k (term_at v terms b)) value ∙ and_or_self (term_at v terms b) (term_at v terms first)

  pub xor_first : tree.Binary op.Xor (tree_in terms first) (tree_in terms second) n ≡ tree_in terms a → first.index < length terms → width_of (tree_in terms first) ≡ n → second.index ≡ b.index
      → Simplifies terms (tree.Binary op.Xor (tree_in terms a) (tree_in terms b) (width_of (tree_in terms a))) (Known first)
  xor_first is lt wide same = record {
    fit = lt;
    wide = wide ∙ ap width_of is;
    says = λ v.
        let value : term_at v terms a ≡ bit_xor (term_at v terms first) (term_at v terms b) =
        ap (value_of v) (sym is) ∙ ap (λ (t : Tree). bit_xor (term_at v terms first) (value_of v t)) (same_tree terms second b same) in
        sym (ap (λ k. bit_xor k (term_at v terms b)) value ∙ xor_again (term_at v terms first) (term_at v terms b));
    least = let heavier : weight_of (tree_in terms a) ≡ 1 + weight_of (tree_in terms first) + weight_of (tree_in terms second) = ap weight_of (sym is) in omega (arith, heavier);
  }

  pub xor_second : tree.Binary op.Xor (tree_in terms first) (tree_in terms second) n ≡ tree_in terms a → second.index < length terms → width_of (tree_in terms second) ≡ n → first.index ≡ b.index
      → Simplifies terms (tree.Binary op.Xor (tree_in terms a) (tree_in terms b) (width_of (tree_in terms a))) (Known second)
  xor_second is lt wide same = record {
    fit = lt;
    wide = wide ∙ ap width_of is;
    says = λ v.
        let value : term_at v terms a ≡ bit_xor (term_at v terms second) (term_at v terms b) =
        ap (value_of v) (sym is) ∙ (xor_comm (term_at v terms first) (term_at v terms second) ∙ ap (λ (t : Tree). bit_xor (term_at v terms second) (value_of v t)) (same_tree terms first b same)) in
        sym (ap (λ k. bit_xor k (term_at v terms b)) value ∙ xor_again (term_at v terms second) (term_at v terms b));
    least = let heavier : weight_of (tree_in terms a) ≡ 1 + weight_of (tree_in terms first) + weight_of (tree_in terms second) = ap weight_of (sym is) in omega (arith, heavier);
  }

-- what contains the other
pub or_where_lesser : (terms : List Term) (a b : TermId) → ((v : ℕ → ℕ → ℕ) → bit_and (term_at v terms a) (term_at v terms b) ≡ term_at v terms a)
    → (v : ℕ → ℕ → ℕ) → bit_or (term_at v terms a) (term_at v terms b) ≡ term_at v terms b
or_where_lesser terms a b h v = or_above (term_at v terms a) (term_at v terms b) (h v)

pub or_where_greater : (terms : List Term) (a b : TermId) → ((v : ℕ → ℕ → ℕ) → bit_and (term_at v terms a) (term_at v terms b) ≡ term_at v terms b)
    → (v : ℕ → ℕ → ℕ) → bit_or (term_at v terms a) (term_at v terms b) ≡ term_at v terms a
or_where_greater terms a b h v = or_within (term_at v terms a) (term_at v terms b) (h v)

-- ---- rules, on two terms of one width

module _ (terms : List Term) (a b : TermId) (range : AreInRange terms) (la : a.index < length terms) (lb : b.index < length terms) (alike : width_of (tree_in terms a) ≡ width_of (tree_in terms b)) where
  w : ℕ
  w = width_of (tree_in terms a)

  below_b : (v : ℕ → ℕ → ℕ) → term_at v terms b < 2 ^ width_of (tree_in terms a)
  below_b v = subst (λ n. term_at v terms b < 2 ^ n) (sym alike) (range v b lb)

  pub and_of_apart : (width : ℕ) → IsWidth width → width ≡ width_of (tree_in terms a)
      → ((v : ℕ → ℕ → ℕ) → bit_and (term_at v terms a) (term_at v terms b) ≡ 0)
      → Simplifies terms (tree.Binary op.And (tree_in terms a) (tree_in terms b) (width_of (tree_in terms a))) (Built (term.Constant 0 width))
  and_of_apart width is e h = constant_form terms _ 0 width is (pow_pos width) e h

  pub and_of_ones : (n width : ℕ) → width ≡ width_of (tree_in terms a) → n ≡ 2 ^ width - 1 → ((v : ℕ → ℕ → ℕ) → term_at v terms b ≡ n)
      → Simplifies terms (tree.Binary op.And (tree_in terms a) (tree_in terms b) (width_of (tree_in terms a))) (Known a)
  and_of_ones n width e ones h = record {
    fit = la;
    wide = refl;
    says = λ v. sym (ap (λ y. bit_and (term_at v terms a) y) (h v ∙ (ones ∙ ap (λ k. 2 ^ k - 1) e)) ∙ and_ones (term_at v terms a) (width_of (tree_in terms a)) (range v a la));
    least = omega arith;
  }

  pub or_of_same : a.index ≡ b.index → Simplifies terms (tree.Binary op.Or (tree_in terms a) (tree_in terms b) (width_of (tree_in terms a))) (Known a)
  or_of_same same = record {
    fit = la;
    wide = refl;
    says = λ v. sym (ap (λ t. bit_or (term_at v terms a) (value_of v t)) (sym (same_tree terms a b same)) ∙ or_self (term_at v terms a));
    least = omega arith;
  }

  pub or_of_whole : (n width : ℕ) → IsWidth width → width ≡ width_of (tree_in terms a) → n ≡ 2 ^ width - 1
      → ((v : ℕ → ℕ → ℕ) → bit_or (term_at v terms a) (term_at v terms b) ≡ 2 ^ width_of (tree_in terms a) - 1)
      → Simplifies terms (tree.Binary op.Or (tree_in terms a) (tree_in terms b) (width_of (tree_in terms a))) (Built (term.Constant n width))
  or_of_whole n width is e ones h = constant_form terms _ n width is (omega (arith, ones, pow_pos width)) e
      (λ v. h v ∙ sym (ones ∙ ap (λ k. 2 ^ k - 1) e))

  pub or_of_zero : (n : ℕ) → n ≡ 0 → ((v : ℕ → ℕ → ℕ) → term_at v terms b ≡ n)
      → Simplifies terms (tree.Binary op.Or (tree_in terms a) (tree_in terms b) (width_of (tree_in terms a))) (Known a)
  or_of_zero n zero_n h = record {
    fit = la;
    wide = refl;
    says = λ v. sym (ap (λ y. bit_or (term_at v terms a) y) (h v ∙ zero_n) ∙ or_zero_r (term_at v terms a));
    least = omega arith;
  }

  pub or_of_ones : (n width : ℕ) → width ≡ width_of (tree_in terms a) → n ≡ 2 ^ width - 1 → ((v : ℕ → ℕ → ℕ) → term_at v terms b ≡ n)
      → Simplifies terms (tree.Binary op.Or (tree_in terms a) (tree_in terms b) (width_of (tree_in terms a))) (Known b)
  or_of_ones n width e ones h = record {
    fit = lb;
    wide = sym alike;
    says = λ v.
        let is : term_at v terms b ≡ 2 ^ width_of (tree_in terms a) - 1 = h v ∙ (ones ∙ ap (λ k. 2 ^ k - 1) e) in
        is ∙ sym (ap (λ y. bit_or (term_at v terms a) y) is ∙ or_ones (term_at v terms a) (width_of (tree_in terms a)) (range v a la));
    least = omega arith;
  }

  pub xor_of_same : (width : ℕ) → IsWidth width → width ≡ width_of (tree_in terms a) → a.index ≡ b.index
      → Simplifies terms (tree.Binary op.Xor (tree_in terms a) (tree_in terms b) (width_of (tree_in terms a))) (Built (term.Constant 0 width))
  xor_of_same width is e same = constant_form terms _ 0 width is (pow_pos width) e
      (λ v. ap (λ t. bit_xor (term_at v terms a) (value_of v t)) (sym (same_tree terms a b same)) ∙ xor_self (term_at v terms a))

  pub xor_of_ones : (n width : ℕ) → IsWidth width → width ≡ width_of (tree_in terms a) → n ≡ 2 ^ width - 1 → ((v : ℕ → ℕ → ℕ) → term_at v terms b ≡ n)
      → Simplifies terms (tree.Binary op.Xor (tree_in terms a) (tree_in terms b) (width_of (tree_in terms a))) (Built (term.Not a width))
  xor_of_ones n width is e ones h = record {
    fit = record { within = (is, la); matched = sym e; operation = tt };
    wide = e;
    says = λ v.
        ap (λ k. 2 ^ k - 1 - term_at v terms a) e
        ∙ sym (ap (λ y. bit_xor (term_at v terms a) y) (h v ∙ (ones ∙ ap (λ k. 2 ^ k - 1) e)) ∙ xor_ones (term_at v terms a) (width_of (tree_in terms a)) (range v a la));
    least = omega arith;
  }

-- ---- the smaller and the greater of two

module _ (terms : List Term) (a b : TermId) (la : a.index < length terms) (lb : b.index < length terms) (alike : width_of (tree_in terms a) ≡ width_of (tree_in terms b)) where
  pub and_is_first : ((v : ℕ → ℕ → ℕ) → bit_and (term_at v terms a) (term_at v terms b) ≡ term_at v terms a)
      → Simplifies terms (tree.Binary op.And (tree_in terms a) (tree_in terms b) (width_of (tree_in terms a))) (Known a)
  and_is_first h = record { fit = la; wide = refl; says = λ v. sym (h v); least = omega arith }

  pub and_is_second : ((v : ℕ → ℕ → ℕ) → bit_and (term_at v terms a) (term_at v terms b) ≡ term_at v terms b)
      → Simplifies terms (tree.Binary op.And (tree_in terms a) (tree_in terms b) (width_of (tree_in terms a))) (Known b)
  and_is_second h = record { fit = lb; wide = sym alike; says = λ v. sym (h v); least = omega arith }

  pub or_is_first : ((v : ℕ → ℕ → ℕ) → bit_or (term_at v terms a) (term_at v terms b) ≡ term_at v terms a)
      → Simplifies terms (tree.Binary op.Or (tree_in terms a) (tree_in terms b) (width_of (tree_in terms a))) (Known a)
  or_is_first h = record { fit = la; wide = refl; says = λ v. sym (h v); least = omega arith }

  pub or_is_second : ((v : ℕ → ℕ → ℕ) → bit_or (term_at v terms a) (term_at v terms b) ≡ term_at v terms b)
      → Simplifies terms (tree.Binary op.Or (tree_in terms a) (tree_in terms b) (width_of (tree_in terms a))) (Known b)
  or_is_second h = record { fit = lb; wide = sym alike; says = λ v. sym (h v); least = omega arith }

-- ---- operands in the other order

module _ (terms : List Term) (a b : TermId) (alike : width_of (tree_in terms a) ≡ width_of (tree_in terms b)) (form : Form) where
  pub and_swapped : Simplifies terms (tree.Binary op.And (tree_in terms b) (tree_in terms a) (width_of (tree_in terms b))) form
      → Simplifies terms (tree.Binary op.And (tree_in terms a) (tree_in terms b) (width_of (tree_in terms a))) form
  and_swapped s = simplifies_like terms _ _ form s (sym alike) (λ v. and_comm (term_at v terms b) (term_at v terms a)) (omega arith)

  pub or_swapped : Simplifies terms (tree.Binary op.Or (tree_in terms b) (tree_in terms a) (width_of (tree_in terms b))) form
      → Simplifies terms (tree.Binary op.Or (tree_in terms a) (tree_in terms b) (width_of (tree_in terms a))) form
  or_swapped s = simplifies_like terms _ _ form s (sym alike) (λ v. or_comm (term_at v terms b) (term_at v terms a)) (omega arith)

  pub xor_swapped : Simplifies terms (tree.Binary op.Xor (tree_in terms b) (tree_in terms a) (width_of (tree_in terms b))) form
      → Simplifies terms (tree.Binary op.Xor (tree_in terms a) (tree_in terms b) (width_of (tree_in terms a))) form
  xor_swapped s = simplifies_like terms _ _ form s (sym alike) (λ v. xor_comm (term_at v terms b) (term_at v terms a)) (omega arith)

module _ (terms : List Term) (a b : TermId) (width : ℕ) (range : IsWidth width) (la : a.index < length terms) (wa : width_of (tree_in terms a) ≡ width)
    (lb : b.index < length terms) (wb : width_of (tree_in terms b) ≡ width) where
  pub and_turned_round : Simplifies terms (tree.Binary op.And (tree_in terms a) (tree_in terms b) width) (Built (term.Binary op.And b a width))
  and_turned_round = record {
    fit = record { within = (range, lb, la); matched = (wb, wa); operation = tt };
    wide = refl;
    says = λ v. and_comm (term_at v terms b) (term_at v terms a);
    least = omega arith;
  }

  pub or_turned_round : Simplifies terms (tree.Binary op.Or (tree_in terms a) (tree_in terms b) width) (Built (term.Binary op.Or b a width))
  or_turned_round = record {
    fit = record { within = (range, lb, la); matched = (wb, wa); operation = tt };
    wide = refl;
    says = λ v. or_comm (term_at v terms b) (term_at v terms a);
    least = omega arith;
  }
