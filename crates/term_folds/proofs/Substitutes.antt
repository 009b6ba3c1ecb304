-- The term over the answers for what a term names denotes the tree.
use Rattle.std.proofs.Common.{ℕ, ◌≡◌, ◌<◌, ◌+◌, ◌-◌, ◌*◌, ◌/◌, ◌%◌, ◌^◌, Bool, true, false, cond, List, length, Option, Some, None, arith, sym, subst, ap, refl, ◌∙◌}
use Rattle.std.proofs.Math.Nat.{mod-eq_of_lt}
use Rattle.std.specs.Option.{option_map_or}
use Rattle.std.specs.List.{AllZip}
use Rattle.bv_terms.specs.declared.term.TermId.{TermId}
use Rattle.bv_terms.specs.declared.term.Term.{Term}
use Rattle.bv_terms.specs.declared.term.Term.TheVariants as term
use Rattle.bv_terms.specs.declared.variable.Variable.{Variable}
use Rattle.bv_terms.specs.Tree as tree
use Rattle.bv_terms.specs.Tree.{Tree, binary_value, value_of, width_of, truth, extended_signed}
use Rattle.bv_terms.specs.Trees.{AreInRange, AreMatched, IsFit, IsTerm, IsWithin, Extends, Makes, term_at, term_width, tree_at, tree_of, trees_of}
use Rattle.bv_terms.specs.Variables.{is_variable}
use Rattle.bv_terms.proofs.Variables.{same_variable}
use Rattle.bv_terms.proofs.Zips.{AllZip-at}
use Rattle.term_folds.specs.Over.{id_at, replacement_in, term_over}
use Rattle.term_folds.specs.Standing.{same_assignment}
use Rattle.term_folds.specs.Substitution.{AreReplacements, Follows, IsSubstituted, Replaces, Substituting, replacement_of, substituted}

two : (f : ℕ → ℕ → ℕ) {x x' y y' : ℕ} → x ≡ x' → y ≡ y' → f x y ≡ f x' y'
two f e g = cc

-- replacements are terms of more terms too
pub replacements_later : (old new : List Term) (replacements : List (Variable × TermId)) → Extends old new → AreReplacements old replacements → AreReplacements new replacements
replacements_later old new replacements k h x by found =
    let is = h x by found in
    record { within = omega (arith, is.within, k.longer); wide = ap width_of (k.kept by is.within) ∙ is.wide }

-- and have the same values
pub follows_keeps : (old new : List Term) (replacements : List (Variable × TermId)) → Extends old new → AreReplacements old replacements
    → Follows (record { terms = old; replacements = replacements }) (record { terms = new; replacements = replacements })
follows_keeps old new replacements k h = record {
  terms = k;
  replacements = refl;
  assigns = λ v number width. go v (v number width) (record { number = number; width = width }) (replacement_of replacements (record { number = number; width = width })) refl;
}
  where
    go : (v : ℕ → ℕ → ℕ) (own : ℕ) (x : Variable) (o : Option TermId) → replacement_of replacements x ≡ o → option_map_or (term_at v new) o own ≡ option_map_or (term_at v old) o own
    go v own x None e = refl
    go v own x (Some by) e = ap (value_of v) (k.kept by (h x by e).within)

-- a replacement put in keeps the others
pub replacements_put : (terms : List Term) (old new : List (Variable × TermId)) (x : Variable) (by : TermId) → Replaces old new x by → IsTerm terms x.width by → AreReplacements terms old → AreReplacements terms new
replacements_put terms old new x by put is h y other found = go (is_variable x y) refl (sym (put y) ∙ found)
  where
    go : (b : Bool) → is_variable x y ≡ b → cond (is_variable x y) (Some by) (replacement_of old y) ≡ Some other → IsTerm terms y.width other
    go true e f =
        let f' = rw e at f in
        let same : by ≡ other = cc in
        subst (λ (a : TermId). IsTerm terms y.width a) same (subst (λ (z : Variable). IsTerm terms z.width by) (same_variable x y e) is)
    go false e f = h y other (rw e at f)

module _ (s : Substituting) (trees : List Tree) (done : List TermId) (stood : AllZip (IsSubstituted s) trees done) where
  at : (a : TermId) → a.index < length trees → IsSubstituted s (tree_at trees a) (id_at done a)
  at a lt = AllZip-at (IsSubstituted s) trees done a.index (tree.Constant 0 1) (record { index = 0 }) stood lt

  pub over-within : (t : Term) → IsFit trees t → IsWithin (length s.terms) (term_over done t)
  over-within (term.Constant value width) fit = fit.within
  over-within (term.Variable number width) fit = fit.within
  over-within (term.Not a width) fit = (fit.within.0, (at a fit.within.1).within)
  over-within (term.Binary op a b width) fit = (fit.within.0, (at a fit.within.1).within, (at b fit.within.2).within)
  over-within (term.Ite c a b width) fit = (fit.within.0, (at a fit.within.1).within, (at b fit.within.2).within, (at c fit.within.3).within)
  over-within (term.Extract a from width) fit = (fit.within.0, (at a fit.within.1).within)
  over-within (term.Concat high low below width) fit = (fit.within.0, (at high fit.within.1).within, (at low fit.within.2).within)
  over-within (term.Zext a width) fit = (fit.within.0, (at a fit.within.1).within)
  over-within (term.Sext a from width) fit = (fit.within.0, (at a fit.within.1).within)

  pub over-matched : (t : Term) → IsFit trees t → AreMatched (trees_of s.terms) (term_over done t)
  over-matched (term.Constant value width) fit = tt
  over-matched (term.Variable number width) fit = tt
  over-matched (term.Not a width) fit = (at a fit.within.1).wide ∙ fit.matched
  over-matched (term.Binary op a b width) fit = ((at a fit.within.1).wide ∙ fit.matched.0, (at b fit.within.2).wide ∙ fit.matched.1)
  over-matched (term.Ite c a b width) fit = ((at a fit.within.1).wide ∙ fit.matched.0, (at b fit.within.2).wide ∙ fit.matched.1, (at c fit.within.3).wide ∙ fit.matched.2)
  over-matched (term.Extract a from width) fit = omega (arith, (at a fit.within.1).wide, fit.matched)
  over-matched (term.Concat high low below width) fit = ((at low fit.within.2).wide ∙ fit.matched.0, ap (λ n. n + below) (at high fit.within.1).wide ∙ fit.matched.1)
  over-matched (term.Zext a width) fit = omega (arith, (at a fit.within.1).wide, fit.matched)
  over-matched (term.Sext a from width) fit = ((at a fit.within.1).wide ∙ fit.matched.0, fit.matched.1, fit.matched.2)

  over-width : (t : Term) → term_width (term_over done t) ≡ width_of (tree_of trees t)
  over-width (term.Constant value width) = refl
  over-width (term.Variable number width) = refl
  over-width (term.Not a width) = refl
  over-width (term.Binary op a b width) = refl
  over-width (term.Ite c a b width) = refl
  over-width (term.Extract a from width) = refl
  over-width (term.Concat high low below width) = refl
  over-width (term.Zext a width) = refl
  over-width (term.Sext a from width) = refl

  over-value : (v : ℕ → ℕ → ℕ) (t : Term) → replacement_in s.replacements t ≡ None → IsFit trees t → value_of v (tree_of (trees_of s.terms) (term_over done t)) ≡ value_of (substituted s v) (tree_of trees t)
  over-value v (term.Constant value width) none fit = refl
  over-value v (term.Variable number width) none fit = ap (λ o. option_map_or (term_at v s.terms) o (v number width) % 2 ^ width) (sym none)
  over-value v (term.Not a width) none fit = ap (λ x. 2 ^ width - 1 - x) ((at a fit.within.1).says v)
  over-value v (term.Binary op a b width) none fit = two (λ x y. binary_value op width x y) ((at a fit.within.1).says v) ((at b fit.within.2).says v)
  over-value v (term.Ite c a b width) none fit =
      ap (λ z. cond (truth z) (term_at v s.terms (id_at done a)) (term_at v s.terms (id_at done b))) ((at c fit.within.3).says v)
      ∙ two (λ x y. cond (truth (value_of (substituted s v) (tree_at trees c))) x y) ((at a fit.within.1).says v) ((at b fit.within.2).says v)
  over-value v (term.Extract a from width) none fit = ap (λ x. x / 2 ^ from % 2 ^ width) ((at a fit.within.1).says v)
  over-value v (term.Concat high low below width) none fit = two (λ x y. x * 2 ^ below + y) ((at high fit.within.1).says v) ((at low fit.within.2).says v)
  over-value v (term.Zext a width) none fit = (at a fit.within.1).says v
  over-value v (term.Sext a from width) none fit = ap (λ x. extended_signed from width x) ((at a fit.within.1).says v)

  -- what is stored denotes the tree
  pub stored_stands : (new : Substituting) (t : Term) (id : TermId) → replacement_in s.replacements t ≡ None → IsFit trees t → Follows s new
      → Makes new.terms id (term_width (term_over done t)) (λ v. value_of v (tree_of (trees_of s.terms) (term_over done t))) → IsSubstituted new (tree_of trees t) id
  stored_stands new t id none fit f m = record {
    within = m.within;
    wide = m.wide ∙ over-width t;
    says = λ v. m.says v ∙ (over-value v t none fit ∙ ap (λ w. value_of w (tree_of trees t)) (same_assignment s new v (λ number width. sym (f.assigns v number width))));
  }

  -- what replaces a variable denotes it
  pub replacement_stands : (t : Term) (by : TermId) → replacement_in s.replacements t ≡ Some by → AreReplacements s.terms s.replacements → AreInRange s.terms → IsSubstituted s (tree_of trees t) by
  replacement_stands (term.Variable number width) by found h range =
      let is = h (record { number = number; width = width }) by found in
      record {
        within = is.within;
        wide = is.wide;
        says = λ v. sym (ap (λ o. option_map_or (term_at v s.terms) o (v number width) % 2 ^ width) found ∙ mod-eq_of_lt (subst (λ n. term_at v s.terms by < 2 ^ n) is.wide (range v by is.within)));
      }
  replacement_stands (term.Constant value width) by found h range = absurd (let z : ⊥ = cc in z)
  replacement_stands (term.Not a width) by found h range = absurd (let z : ⊥ = cc in z)
  replacement_stands (term.Binary op a b width) by found h range = absurd (let z : ⊥ = cc in z)
  replacement_stands (term.Ite c a b width) by found h range = absurd (let z : ⊥ = cc in z)
  replacement_stands (term.Extract a from width) by found h range = absurd (let z : ⊥ = cc in z)
  replacement_stands (term.Concat high low below width) by found h range = absurd (let z : ⊥ = cc in z)
  replacement_stands (term.Zext a width) by found h range = absurd (let z : ⊥ = cc in z)
  replacement_stands (term.Sext a from width) by found h range = absurd (let z : ⊥ = cc in z)
