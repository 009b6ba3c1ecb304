-- Why the rules of multiples are right.
use Rattle.term_rules.proofs.Common.{ap, ℕ, ◌≡◌, ◌<◌, ◌+◌, ◌-◌, ◌*◌, ◌%◌, ◌^◌, List, length, arith, ◌∙◌, sym, subst, add-mod_right, mod-eq_of_lt, TermId, Term, Tree, quotient, remainder, value_of, width_of, AreInRange, Makes, term_at, tree_in, IsMultiple, IsPart}
use Rattle.bv_terms.specs.declared.term.BinaryOp.TheVariants as op
use Rattle.bv_terms.specs.Tree as tree
use Rattle.term_rules.proofs.Simplifying.{same_tree}
use Rattle.term_sums.proofs.MultipleRules.{multiple_and_rest}

-- ---- numbers

-- one of two parts is the whole without the other
pub part-of : (p r x m : ℕ) → p + r ≡ x → x < m → p ≡ (x + (m - r)) % m
part-of p r x m e lt =
    let small : p < m = omega (arith, e, lt) in
    sym (ap (λ n. n % m) (let f : x + (m - r) ≡ p + m = omega (arith, e, lt) in f) ∙ (add-mod_right p m ∙ mod-eq_of_lt small))

-- ---- terms

pub dividend_part : (terms : List Term) (a b whole first second : TermId) (n : ℕ) → AreInRange terms → tree.Binary op.Urem (tree_in terms whole) (tree_in terms second) n ≡ tree_in terms b
    → whole.index < length terms → first.index ≡ second.index → IsMultiple terms whole a first → IsPart terms a b whole
dividend_part terms a b whole first second n range is lt same h =
    let w = width_of (tree_in terms a) in
    record {
      within = lt;
      wide = h.left;
      says = λ v.
          let x = term_at v terms whole in
          let y = term_at v terms first in
          let rest : term_at v terms b ≡ remainder x y = ap (value_of v) (sym is) ∙ ap (λ (t : Tree). remainder x (value_of v t)) (sym (same_tree terms first second same)) in
          let small : x < 2 ^ w = subst (λ k. x < 2 ^ k) h.left (range v whole lt) in
          let parts : term_at v terms a + term_at v terms b ≡ x =
          ap (λ k. k + term_at v terms b) (h.says v) ∙ (ap (λ k. (quotient w x y * y) % 2 ^ w + k) rest ∙ multiple_and_rest w x y small) in
          part-of (term_at v terms a) (term_at v terms b) x (2 ^ w) parts small;
      least = omega (arith, h.least);
    }

pub remainder_makes : (old new : List Term) (a b by id : TermId) → AreInRange old → a.index < length old → IsMultiple old a b by
    → Makes new id (width_of (tree_in old a)) (λ v. remainder (term_at v old a) (term_at v old by))
    → Makes new id (width_of (tree_in old a)) (λ v. (term_at v old a + (2 ^ width_of (tree_in old a) - term_at v old b)) % 2 ^ width_of (tree_in old a))
remainder_makes old new a b by id range la h m =
    let w = width_of (tree_in old a) in
    record {
      within = m.within;
      wide = m.wide;
      says = λ v.
          let x = term_at v old a in
          let y = term_at v old by in
          let product : term_at v old b ≡ (quotient w x y * y) % 2 ^ w = h.says v ∙ ap (λ k. (quotient k x y * y) % 2 ^ k) (sym h.left) in
          let parts : remainder x y + term_at v old b ≡ x =
          ap (λ k. remainder x y + k) product ∙ (let turned : remainder x y + (quotient w x y * y) % 2 ^ w ≡ (quotient w x y * y) % 2 ^ w + remainder x y = omega arith in turned ∙ multiple_and_rest w x y (range v a la)) in
          m.says v ∙ part-of (remainder x y) (term_at v old b) x (2 ^ w) parts (range v a la);
    }
