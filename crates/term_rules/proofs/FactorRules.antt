-- Why a common factor is multiplied once.
use Rattle.term_rules.proofs.Common.{ap, ℕ, ◌≡◌, ◌<◌, ◌+◌, ◌*◌, ◌%◌, ◌^◌, List, length, arith, ◌∙◌, sym, mul-mod_second, add-mod-mod, mod-add-mod, mul_comm, TermId, Term, Tree, value_of, width_of, Makes, term_at, tree_in, weight_of, IsCofactor, IsFactored}
use Rattle.bv_terms.specs.declared.term.BinaryOp.TheVariants as op
use Rattle.bv_terms.specs.Tree as tree
use Rattle.term_rules.specs.declared.factors.Factors.{Factors}
use Rattle.term_rules.proofs.Simplifying.{same_tree}

pub distributed_number : (c x y m : ℕ) → (c * ((x + y) % m)) % m ≡ ((c * x) % m + (c * y) % m) % m
distributed_number c x y m =
    mul-mod_second c (x + y) m
    ∙ (ap (λ k. k % m) (let e : c * (x + y) ≡ c * x + c * y = grind arith in e)
    ∙ (sym (mod-add-mod (c * x) m (c * y)) ∙ sym (add-mod-mod ((c * x) % m) (c * y) m)))

module _ (terms : List Term) (a common first second : TermId) (n : ℕ) (is : tree.Binary op.Mul (tree_in terms first) (tree_in terms second) n ≡ tree_in terms a)
    (lf : first.index < length terms) (wf : width_of (tree_in terms first) ≡ n) (ws : width_of (tree_in terms second) ≡ n) where
  value-at : (v : ℕ → ℕ → ℕ) → term_at v terms a ≡ (term_at v terms first * term_at v terms second) % 2 ^ width_of (tree_in terms a)
  value-at v = ap (value_of v) (sym is) ∙ ap (λ k. (term_at v terms first * term_at v terms second) % 2 ^ k) (ap width_of is)

  heavier : weight_of (tree_in terms a) ≡ 1 + weight_of (tree_in terms first) + weight_of (tree_in terms second)
  heavier = ap weight_of (sym is)

  pub cofactor_first : second.index ≡ common.index → IsCofactor terms a common first
  cofactor_first same =
      let e : tree_in terms second ≡ tree_in terms common = same_tree terms second common same in
      record {
        within = lf;
        wide = wf ∙ ap width_of is;
        alike = ap width_of (sym e) ∙ (ws ∙ ap width_of is);
        says = λ v. value-at v
            ∙ (ap (λ k. k % 2 ^ width_of (tree_in terms a)) (mul_comm (term_at v terms first) (term_at v terms second))
            ∙ ap (λ (t : Tree). (value_of v t * term_at v terms first) % 2 ^ width_of (tree_in terms a)) e);
        least = omega (arith, heavier, ap weight_of e);
      }

pub factored_sum : (old new : List Term) (a b id : TermId) (f : Factors) → width_of (tree_in old a) ≡ width_of (tree_in old b) → IsFactored old a b f
    → Makes new id (width_of (tree_in old f.common)) (λ v. (term_at v old f.common * ((term_at v old f.first + term_at v old f.second) % 2 ^ width_of (tree_in old f.common))) % 2 ^ width_of (tree_in old f.common))
    → Makes new id (width_of (tree_in old a)) (λ v. (term_at v old a + term_at v old b) % 2 ^ width_of (tree_in old a))
factored_sum old new a b id f alike h m =
    let w = width_of (tree_in old a) in
    record {
      within = m.within;
      wide = m.wide ∙ h.first.alike;
      says = λ v.
          let common = term_at v old f.common in
          let first = term_at v old f.first in
          let second = term_at v old f.second in
          let left : term_at v old a ≡ (common * first) % 2 ^ w = h.first.says v in
          let right : term_at v old b ≡ (common * second) % 2 ^ w = h.second.says v ∙ ap (λ n. (common * second) % 2 ^ n) (sym alike) in
          m.says v
          ∙ (ap (λ n. (common * ((first + second) % 2 ^ n)) % 2 ^ n) h.first.alike
          ∙ (distributed_number common first second (2 ^ w)
          ∙ (ap (λ k. (k + (common * second) % 2 ^ w) % 2 ^ w) (sym left)
          ∙ ap (λ k. (term_at v old a + k) % 2 ^ w) (sym right))));
    }
