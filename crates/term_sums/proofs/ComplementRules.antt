-- What terms beside their inverses have in common.
use Rattle.term_sums.proofs.Common.{ap, ℕ, ◌≡◌, ◌<◌, ◌+◌, ◌-◌, ◌^◌, List, length, arith, ◌∙◌, sym, subst, bit_and, bit_or, and_zero_l, and_zero_r, or_add_and, and_assoc, and_comm, and-not, and_or_self, or_comm, or_lt, TermId, Term, Tree, value_of, width_of, AreInRange, term_at, tree_in, weight_of, IsAndPart, IsOrPart, and_self}
use Rattle.bv_terms.specs.declared.term.BinaryOp.TheVariants as op
use Rattle.bv_terms.specs.Tree as tree

-- ---- numbers: the inverse of p is 2 ^ w - 1 - p

and_turned : (x w : ℕ) → x < 2 ^ w → bit_and x (2 ^ w - 1 - x) ≡ 0
and_turned x w lt = and_comm x (2 ^ w - 1 - x) ∙ omega (arith, and-not w x x lt lt, and_self x)

or_turned : (x w : ℕ) → x < 2 ^ w → bit_or x (2 ^ w - 1 - x) ≡ 2 ^ w - 1
or_turned x w lt = omega (arith, or_add_and x (2 ^ w - 1 - x), and_turned x w lt, lt)

and_excluded : (p q w : ℕ) → p < 2 ^ w → bit_and (bit_and q p) (2 ^ w - 1 - p) ≡ 0
and_excluded p q w lp = and_assoc (2 ^ w - 1 - p) q p ∙ (ap (λ k. bit_and q k) (and_turned p w lp) ∙ and_zero_r q)

or_completed : (p q w : ℕ) → p < 2 ^ w → q < 2 ^ w → bit_or (bit_or q p) (2 ^ w - 1 - p) ≡ 2 ^ w - 1
or_completed p q w lp lq =
    let a : ℕ = bit_or q p in
    let la : bit_or q p < 2 ^ w = or_lt w q p lq lp in
    let sum = or_add_and (bit_or q p) (2 ^ w - 1 - p) in
    let below : 2 ^ w - 1 - p < 2 ^ w = omega (arith, lp) in
    let below' : 2 ^ w - 1 - bit_or q p < 2 ^ w = omega (arith, la) in
    let rest = and-not w (bit_or q p) (2 ^ w - 1 - p) la below in
    let inner = and-not w p (2 ^ w - 1 - bit_or q p) lp below' in
    let own = and-not w (bit_or q p) p la lp in
    let within = and_or_self p q in
    let turn = and_comm p (2 ^ w - 1 - bit_or q p) in
    let turn' = and_comm (2 ^ w - 1 - bit_or q p) (2 ^ w - 1 - p) in
    omega (arith, sum, rest, inner, own, within, turn, turn', la, lp)

or_left : (p q w : ℕ) → p < 2 ^ w → q < 2 ^ w → bit_or p (bit_and (2 ^ w - 1 - p) q) ≡ bit_or p q
or_left p q w lp lq =
    let none : bit_and p (bit_and (2 ^ w - 1 - p) q) ≡ 0 = sym (and_assoc q p (2 ^ w - 1 - p)) ∙ (ap (λ k. bit_and k q) (and_turned p w lp) ∙ and_zero_l q) in
    omega (arith, or_add_and p (bit_and (2 ^ w - 1 - p) q), none, or_add_and p q, and-not w p q lp lq)

and_left : (p q w : ℕ) → p < 2 ^ w → q < 2 ^ w → bit_and p (bit_or (2 ^ w - 1 - p) q) ≡ bit_and p q
and_left p q w lp lq =
    let n : ℕ = 2 ^ w - 1 - p in
    let ln : 2 ^ w - 1 - p < 2 ^ w = omega (arith, lp) in
    let back : 2 ^ w - 1 - (2 ^ w - 1 - p) ≡ p = omega (arith, lp) in
    let whole : bit_or (bit_or (2 ^ w - 1 - p) q) p ≡ 2 ^ w - 1 =
    ap (λ k. bit_or k p) (or_comm (2 ^ w - 1 - p) q) ∙ (ap (λ k. bit_or (bit_or q (2 ^ w - 1 - p)) k) (sym back) ∙ or_completed (2 ^ w - 1 - p) q w ln lq) in
    omega (arith, or_add_and p (bit_or (2 ^ w - 1 - p) q), or_comm p (bit_or (2 ^ w - 1 - p) q), whole, or_add_and (2 ^ w - 1 - p) q, and-not w p q lp lq, lp)

-- ---- terms

module _ (terms : List Term) (range : AreInRange terms) (a b : TermId) (la : a.index < length terms) (alike : width_of (tree_in terms a) ≡ width_of (tree_in terms b)) where
  pub apart_inverse : ((v : ℕ → ℕ → ℕ) → term_at v terms b ≡ 2 ^ width_of (tree_in terms a) - 1 - term_at v terms a)
      → (v : ℕ → ℕ → ℕ) → bit_and (term_at v terms a) (term_at v terms b) ≡ 0
  apart_inverse h v = ap (λ k. bit_and (term_at v terms a) k) (h v) ∙ and_turned (term_at v terms a) (width_of (tree_in terms a)) (range v a la)

  pub whole_inverse : ((v : ℕ → ℕ → ℕ) → term_at v terms b ≡ 2 ^ width_of (tree_in terms a) - 1 - term_at v terms a)
      → (v : ℕ → ℕ → ℕ) → bit_or (term_at v terms a) (term_at v terms b) ≡ 2 ^ width_of (tree_in terms a) - 1
  whole_inverse h v = ap (λ k. bit_or (term_at v terms a) k) (h v) ∙ or_turned (term_at v terms a) (width_of (tree_in terms a)) (range v a la)

-- the operands of the first, and one that is the inverse of the second
module _ (terms : List Term) (range : AreInRange terms) (a b first second : TermId) (n : ℕ) (lf : first.index < length terms) (ls : second.index < length terms)
    (wf : width_of (tree_in terms first) ≡ n) (ws : width_of (tree_in terms second) ≡ n) where
  below : (x : TermId) → x.index < length terms → width_of (tree_in terms x) ≡ n → (v : ℕ → ℕ → ℕ) → term_at v terms x < 2 ^ n
  below x lt e v = subst (λ k. term_at v terms x < 2 ^ k) e (range v x lt)

  pub excludes_first : tree.Binary op.And (tree_in terms first) (tree_in terms second) n ≡ tree_in terms a
      → ((v : ℕ → ℕ → ℕ) → term_at v terms b ≡ 2 ^ width_of (tree_in terms first) - 1 - term_at v terms first)
      → (v : ℕ → ℕ → ℕ) → bit_and (term_at v terms a) (term_at v terms b) ≡ 0
  excludes_first is h v =
      ap (λ (t : Tree). bit_and (value_of v t) (term_at v terms b)) (sym is)
      ∙ (ap (λ k. bit_and k (term_at v terms b)) (and_comm (term_at v terms first) (term_at v terms second))
      ∙ (ap (λ k. bit_and (bit_and (term_at v terms second) (term_at v terms first)) k) (h v ∙ ap (λ k. 2 ^ k - 1 - term_at v terms first) wf)
      ∙ and_excluded (term_at v terms first) (term_at v terms second) n (below first lf wf v)))

  pub excludes_second : tree.Binary op.And (tree_in terms first) (tree_in terms second) n ≡ tree_in terms a
      → ((v : ℕ → ℕ → ℕ) → term_at v terms b ≡ 2 ^ width_of (tree_in terms second) - 1 - term_at v terms second)
      → (v : ℕ → ℕ → ℕ) → bit_and (term_at v terms a) (term_at v terms b) ≡ 0
  excludes_second is h v =
      ap (λ (t : Tree). bit_and (value_of v t) (term_at v terms b)) (sym is)
      ∙ (ap (λ k. bit_and (bit_and (term_at v terms first) (term_at v terms second)) k) (h v ∙ ap (λ k. 2 ^ k - 1 - term_at v terms second) ws)
      ∙ and_excluded (term_at v terms second) (term_at v terms first) n (below second ls ws v))

  pub completes_first : tree.Binary op.Or (tree_in terms first) (tree_in terms second) n ≡ tree_in terms a
      → ((v : ℕ → ℕ → ℕ) → term_at v terms b ≡ 2 ^ width_of (tree_in terms first) - 1 - term_at v terms first)
      → (v : ℕ → ℕ → ℕ) → bit_or (term_at v terms a) (term_at v terms b) ≡ 2 ^ width_of (tree_in terms a) - 1
  completes_first is h v =
      ap (λ (t : Tree). bit_or (value_of v t) (term_at v terms b)) (sym is)
      ∙ (ap (λ k. bit_or k (term_at v terms b)) (or_comm (term_at v terms first) (term_at v terms second))
      ∙ (ap (λ k. bit_or (bit_or (term_at v terms second) (term_at v terms first)) k) (h v ∙ ap (λ k. 2 ^ k - 1 - term_at v terms first) wf)
      ∙ (or_completed (term_at v terms first) (term_at v terms second) n (below first lf wf v) (below second ls ws v)
      ∙ ap (λ (t : Tree). 2 ^ width_of t - 1) is)))

  pub completes_second : tree.Binary op.Or (tree_in terms first) (tree_in terms second) n ≡ tree_in terms a
      → ((v : ℕ → ℕ → ℕ) → term_at v terms b ≡ 2 ^ width_of (tree_in terms second) - 1 - term_at v terms second)
      → (v : ℕ → ℕ → ℕ) → bit_or (term_at v terms a) (term_at v terms b) ≡ 2 ^ width_of (tree_in terms a) - 1
  completes_second is h v =
      ap (λ (t : Tree). bit_or (value_of v t) (term_at v terms b)) (sym is)
      ∙ (ap (λ k. bit_or (bit_or (term_at v terms first) (term_at v terms second)) k) (h v ∙ ap (λ k. 2 ^ k - 1 - term_at v terms second) ws)
      ∙ (or_completed (term_at v terms second) (term_at v terms first) n (below second ls ws v) (below first lf wf v)
      ∙ ap (λ (t : Tree). 2 ^ width_of t - 1) is))

-- the operands of the second, and one that is the inverse of the first
module _ (terms : List Term) (range : AreInRange terms) (a b first second : TermId) (n : ℕ) (la : a.index < length terms)
    (alike : width_of (tree_in terms a) ≡ width_of (tree_in terms b)) (lf : first.index < length terms) (ls : second.index < length terms)
    (wf : width_of (tree_in terms first) ≡ n) (ws : width_of (tree_in terms second) ≡ n) where
  near : (x : TermId) → x.index < length terms → width_of (tree_in terms x) ≡ n → width_of (tree_in terms b) ≡ n → (v : ℕ → ℕ → ℕ) → term_at v terms x < 2 ^ width_of (tree_in terms a)
  near x lt e eb v = subst (λ k. term_at v terms x < 2 ^ k) (e ∙ (sym eb ∙ sym alike)) (range v x lt)

  pub and_part_second : tree.Binary op.Or (tree_in terms first) (tree_in terms second) n ≡ tree_in terms b
      → ((v : ℕ → ℕ → ℕ) → term_at v terms first ≡ 2 ^ width_of (tree_in terms a) - 1 - term_at v terms a) → IsAndPart terms a b second
  and_part_second is h = record {
    within = ls;
    wide = ws ∙ ap width_of is;
    says = λ v. sym (ap (λ (t : Tree). bit_and (term_at v terms a) (value_of v t)) (sym is)
        ∙ (ap (λ k. bit_and (term_at v terms a) (bit_or k (term_at v terms second))) (h v)
        ∙ and_left (term_at v terms a) (term_at v terms second) (width_of (tree_in terms a)) (range v a la) (near second ls ws (ap width_of (sym is)) v)));
    least = let heavy : weight_of (tree_in terms b) ≡ 1 + weight_of (tree_in terms first) + weight_of (tree_in terms second) = ap weight_of (sym is) in omega (arith, heavy);
  }

  pub and_part_first : tree.Binary op.Or (tree_in terms first) (tree_in terms second) n ≡ tree_in terms b
      → ((v : ℕ → ℕ → ℕ) → term_at v terms second ≡ 2 ^ width_of (tree_in terms a) - 1 - term_at v terms a) → IsAndPart terms a b first
  and_part_first is h = record {
    within = lf;
    wide = wf ∙ ap width_of is;
    says = λ v. sym (ap (λ (t : Tree). bit_and (term_at v terms a) (value_of v t)) (sym is)
        ∙ (ap (λ k. bit_and (term_at v terms a) k) (or_comm (term_at v terms first) (term_at v terms second))
        ∙ (ap (λ k. bit_and (term_at v terms a) (bit_or k (term_at v terms first))) (h v)
        ∙ and_left (term_at v terms a) (term_at v terms first) (width_of (tree_in terms a)) (range v a la) (near first lf wf (ap width_of (sym is)) v))));
    least = let heavy : weight_of (tree_in terms b) ≡ 1 + weight_of (tree_in terms first) + weight_of (tree_in terms second) = ap weight_of (sym is) in omega (arith, heavy);
  }

  pub or_part_second : tree.Binary op.And (tree_in terms first) (tree_in terms second) n ≡ tree_in terms b
      → ((v : ℕ → ℕ → ℕ) → term_at v terms first ≡ 2 ^ width_of (tree_in terms a) - 1 - term_at v terms a) → IsOrPart terms a b second
  or_part_second is h = record {
    within = ls;
    wide = ws ∙ ap width_of is;
    says = λ v. sym (ap (λ (t : Tree). bit_or (term_at v terms a) (value_of v t)) (sym is)
        ∙ (ap (λ k. bit_or (term_at v terms a) (bit_and k (term_at v terms second))) (h v)
        ∙ or_left (term_at v terms a) (term_at v terms second) (width_of (tree_in terms a)) (range v a la) (near second ls ws (ap width_of (sym is)) v)));
    least = let heavy : weight_of (tree_in terms b) ≡ 1 + weight_of (tree_in terms first) + weight_of (tree_in terms second) = ap weight_of (sym is) in omega (arith, heavy);
  }

  pub or_part_first : tree.Binary op.And (tree_in terms first) (tree_in terms second) n ≡ tree_in terms b
      → ((v : ℕ → ℕ → ℕ) → term_at v terms second ≡ 2 ^ width_of (tree_in terms a) - 1 - term_at v terms a) → IsOrPart terms a b first
  or_part_first is h = record {
    within = lf;
    wide = wf ∙ ap width_of is;
    says = λ v. sym (ap (λ (t : Tree). bit_or (term_at v terms a) (value_of v t)) (sym is)
        ∙ (ap (λ k. bit_or (term_at v terms a) k) (and_comm (term_at v terms first) (term_at v terms second))
        ∙ (ap (λ k. bit_or (term_at v terms a) (bit_and k (term_at v terms first))) (h v)
        ∙ or_left (term_at v terms a) (term_at v terms first) (width_of (tree_in terms a)) (range v a la) (near first lf wf (ap width_of (sym is)) v))));
    least = let heavy : weight_of (tree_in terms b) ≡ 1 + weight_of (tree_in terms first) + weight_of (tree_in terms second) = ap weight_of (sym is) in omega (arith, heavy);
  }
