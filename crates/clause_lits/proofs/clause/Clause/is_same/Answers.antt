-- Literals are compared field by field.
use Rattle.std.proofs.Common.{ℕ, ◌≡◌, Bool, true, false, ap, sym, ◌∙◌, refl}
use mathlib.Core.Bool.{beq}
use Rattle.std.specs.Bool.{Decides}
use Rattle.std.proofs.lemmas.Slice.Eq.{slice_eq-Decides}
use Rattle.std.proofs.lemmas.Bool.Decides.{Decides-eqb, Decides-and, Decides-like}
use Rattle.clause_lits.specs.declared.lit.Lit.{Lit}
use Rattle.clause_lits.specs.contracts.lit.LitPartialEq.TheImpl.{eq-value}
use Rattle.clause_lits.proofs.clause.Clause.is_same.Goals as goal

bool_decides : (a b : Bool) → Decides (beq a b) (a ≡ b)
bool_decides true true = (λ _. refl, λ _. refl)
bool_decides true false = (λ e. cc, λ e. cc)
bool_decides false true = (λ e. cc, λ e. cc)
bool_decides false false = (λ _. refl, λ _. refl)

same_lit : (a b : Lit) → a.variable ≡ b.variable → a.positive ≡ b.positive → a ≡ b
same_lit a b v s =
    let F : ℕ → Lit = λ x. record { variable = x; positive = a.positive } in
    let G : Bool → Lit = λ x. record { variable = b.variable; positive = x } in
    ap F v ∙ ap G s

lit_decides : (a b : Lit) → Decides (eq-value.it a b) (a ≡ b)
lit_decides a b =
    Decides-like (eq-value.it a b) (λ h. same_lit a b h.0 h.1) (λ e. (ap (λ (l : Lit). l.variable) e, ap (λ (l : Lit). l.positive) e))
    (Decides-and _ _ (Decides-eqb a.variable b.variable) (bool_decides a.positive b.positive))

pub returns : goal.returns
returns c =
    let same = slice_eq-Decides lit_decides c.literals.result.now c.literals-2.result.now c.eq.result c.eq.ensures in
    let left = c.literals.ensures.value in
    let right = c.literals-2.ensures.value in
    (λ t. sym left ∙ (same.0 t ∙ right), λ e. same.1 (left ∙ (e ∙ sym right)))
