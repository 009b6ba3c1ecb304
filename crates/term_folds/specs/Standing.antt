-- A term that denotes a tree denotes it among more terms.
use Rattle.std.proofs.Common.{ℕ, ◌≡◌, List, arith, ap, sym, refl, ◌∙◌}
use Rattle.std.proofs.Math.Path.{fun_ext}
use Rattle.bv_terms.specs.declared.term.TermId.{TermId}
use Rattle.bv_terms.specs.declared.term.Term.{Term}
use Rattle.bv_terms.specs.Tree.{Tree, value_of, width_of}
use Rattle.bv_terms.specs.Trees.{Extends}
use Rattle.bv_terms.proofs.Keeping.{extends_self}
use Rattle.term_folds.specs.Substitution.{Follows, IsSubstituted, Substituting, substituted}

extends_trans : (a b c : List Term) → Extends a b → Extends b c → Extends a c
extends_trans a b c p q = record {
  longer = omega (arith, p.longer, q.longer);
  terms = λ i lt. q.terms i (omega (arith, lt, p.longer)) ∙ p.terms i lt;
  kept = λ x lt. q.kept x (omega (arith, lt, p.longer)) ∙ p.kept x lt;
}

pub follows_self : (a : Substituting) → Follows a a
follows_self a = record { terms = extends_self a.terms; replacements = refl; assigns = λ v number width. refl }

pub follows_trans : (a b c : Substituting) → Follows a b → Follows b c → Follows a c
follows_trans a b c p q = record {
  terms = extends_trans a.terms b.terms c.terms p.terms q.terms;
  replacements = q.replacements ∙ p.replacements;
  assigns = λ v number width. q.assigns v number width ∙ p.assigns v number width;
}

-- the assignments are the same
pub same_assignment : (a b : Substituting) (v : ℕ → ℕ → ℕ) → ((number width : ℕ) → substituted a v number width ≡ substituted b v number width) → substituted a v ≡ substituted b v
same_assignment a b v h = fun_ext (λ number. fun_ext (λ width. h number width))

pub stands_later : (a b : Substituting) (tree : Tree) (id : TermId) → Follows a b → IsSubstituted a tree id → IsSubstituted b tree id
stands_later a b tree id f h =
    let same = f.terms.kept id h.within in
    record {
      within = omega (arith, h.within, f.terms.longer);
      wide = ap width_of same ∙ h.wide;
      says = λ v. ap (value_of v) same ∙ (h.says v ∙ ap (λ w. value_of w tree) (same_assignment a b v (λ number width. sym (f.assigns v number width))));
    }
