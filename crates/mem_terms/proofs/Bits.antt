-- Bits as truths.
use Rattle.std.proofs.Common.{ℕ, zero, suc, ◌≡◌, ◌<◌, ◌-◌, ◌^◌, Bool, true, false, not, ◌&&◌, ◌||◌, List, refl, ap, subst, ◌∙◌, arith, bit_and, bit_or}
use Rattle.std.proofs.Math.Dec.{eqb-suc-zero}
use Rattle.bv_terms.specs.declared.term.TermId.{TermId}
use Rattle.bv_terms.specs.declared.term.Term.{Term}
use Rattle.bv_terms.specs.Tree.{width_of, truth, digit}
use Rattle.bv_terms.specs.Trees.{Makes, Tests, IsTerm, AreInRange, term_at, bit_at, tree_in}

pub truth-digit : (b : Bool) → truth (digit b) ≡ b
truth-digit true = refl
truth-digit false = refl

truth-not : (x : ℕ) → truth (2 ^ 1 - 1 - x) ≡ not (truth x)
truth-not zero = refl
truth-not (suc zero) = refl
truth-not (suc (suc x)) = let e : 2 ^ 1 - 1 - suc (suc x) ≡ 0 = omega arith in rw (e, eqb-suc-zero (suc x)) refl

truth-and : (x y : ℕ) → x < 2 → y < 2 → truth (bit_and x y) ≡ (truth x && truth y)
truth-and zero zero p q = refl
truth-and zero (suc zero) p q = refl
truth-and (suc zero) zero p q = refl
truth-and (suc zero) (suc zero) p q = refl
truth-and (suc (suc x)) y p q = absurd (omega arith)
truth-and zero (suc (suc y)) p q = absurd (omega arith)
truth-and (suc zero) (suc (suc y)) p q = absurd (omega arith)

truth-or : (x y : ℕ) → x < 2 → y < 2 → truth (bit_or x y) ≡ (truth x || truth y)
truth-or zero zero p q = refl
truth-or zero (suc zero) p q = refl
truth-or (suc zero) zero p q = refl
truth-or (suc zero) (suc zero) p q = refl
truth-or (suc (suc x)) y p q = absurd (omega arith)
truth-or zero (suc (suc y)) p q = absurd (omega arith)
truth-or (suc zero) (suc (suc y)) p q = absurd (omega arith)

-- a term's value is below the power of its width
pub term-below : (old : List Term) (n : ℕ) (a : TermId) → AreInRange old → IsTerm old n a → (v : ℕ → ℕ → ℕ) → term_at v old a < 2 ^ n
term-below old n a range h v = subst (λ k. term_at v old a < 2 ^ k) h.wide (range v a h.within)

pub tests-digit : (new : List Term) (id : TermId) (test : (ℕ → ℕ → ℕ) → Bool) → Makes new id 1 (λ v. digit (test v)) → Tests new id test
tests-digit new id test m = record { within = m.within; wide = m.wide; says = λ v. ap truth (m.says v) ∙ truth-digit (test v) }

pub tests-not : (old new : List Term) (a id : TermId) → IsTerm old 1 a → Makes new id (width_of (tree_in old a)) (λ v. 2 ^ width_of (tree_in old a) - 1 - term_at v old a)
    → Tests new id (λ v. not (bit_at v old a))
tests-not old new a id h m = record {
  within = m.within;
  wide = m.wide ∙ h.wide;
  says = λ v. ap truth (m.says v) ∙ (ap (λ k. truth (2 ^ k - 1 - term_at v old a)) h.wide ∙ truth-not (term_at v old a));
}

pub tests-and : (old new : List Term) (a b id : TermId) → AreInRange old → IsTerm old 1 a → IsTerm old 1 b → Makes new id (width_of (tree_in old a)) (λ v. bit_and (term_at v old a) (term_at v old b))
    → Tests new id (λ v. bit_at v old a && bit_at v old b)
tests-and old new a b id range ha hb m = record {
  within = m.within;
  wide = m.wide ∙ ha.wide;
  says = λ v. ap truth (m.says v) ∙ truth-and (term_at v old a) (term_at v old b) (term-below old 1 a range ha v) (term-below old 1 b range hb v);
}

pub tests-or : (old new : List Term) (a b id : TermId) → AreInRange old → IsTerm old 1 a → IsTerm old 1 b → Makes new id (width_of (tree_in old a)) (λ v. bit_or (term_at v old a) (term_at v old b))
    → Tests new id (λ v. bit_at v old a || bit_at v old b)
tests-or old new a b id range ha hb m = record {
  within = m.within;
  wide = m.wide ∙ ha.wide;
  says = λ v. ap truth (m.says v) ∙ truth-or (term_at v old a) (term_at v old b) (term-below old 1 a range ha v) (term-below old 1 b range hb v);
}
