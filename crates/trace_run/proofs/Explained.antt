-- An incorrect row can be explained: its pair may be run, and no run of the source allows what the target does.
use Rattle.std.proofs.Common.{◌≡◌, ◌⊎◌, List, [], ◌∷◌, Bool, true, false, true≢false, Option, Some, None, Result, Ok, Err, refl, sym, ap, subst, ◌∙◌, inl, inr, if◌then◌else◌}
use Rattle.std.specs.List.{AllByRecursion}
use Rattle.ir_tree.specs.declared.tree.Function.{Function}
use Rattle.ir_tree.specs.declared.module.Refused.{Refused}
use Rattle.ir_tree.specs.declared.module.Entry.{Entry}
use Rattle.ir_reader.specs.Judgeable.{IsJudgeable, IsJudgeableEntry}
use Rattle.points.specs.declared.point.Bounds.{Bounds}
use Rattle.points.specs.declared.point.Budget.{Budget}
use Rattle.points.specs.declared.point.Point.{Point}
use Rattle.points.specs.Refines.{is_refined}
use Rattle.points.specs.Run.{run_of}
use Rattle.verdicts.specs.declared.verdict.Verdict.{Verdict}
use Rattle.verdicts.specs.declared.verdict.Verdict.TheVariants as verdict
use Rattle.verdicts.specs.Pair.{Functions, run_pair, same_signature}
use Rattle.verdicts.specs.Laws.{AreAccepted, IsAccepted, IncorrectFails}
use Rattle.verdicts.specs.Trail.{IsVerdict}
use Rattle.verdicts.proofs.Sampled.{same_allows}
use Rattle.pair_judge.specs.Laws.{IsSpentAnswer, MayBeTold}
use Rattle.report.specs.declared.row.Finding.{Finding}
use Rattle.report.specs.declared.row.Finding.TheVariants as finding
use Rattle.report.specs.Rows.{IsCompared, IsFinding, function_named}
use Rattle.module_rows.specs.Judging.{listed, may_answer, pairs_in}
use Rattle.module_rows.proofs.Pairs.{named_judgeable, judgeable_lowered}
use Rattle.trace_run.specs.Explanations.{CanBeExplained, CanExplain}

abbrev Judgeable : Result Function Refused → Type 0
Judgeable r = (f : Function) → r ≡ Ok f → IsJudgeable f

abbrev NamedJudgeable : Option (Result Function Refused) → Type 0
NamedJudgeable o = (f : Function) → o ≡ Some (Ok f) → IsJudgeable f

-- the limit on conflicts makes no row incorrect
verdict_of : (pair : Functions) (bounds : Bounds) (budget : Budget) (p : Point) → MayBeTold pair bounds budget (verdict.Incorrect p) → IsVerdict pair bounds budget (verdict.Incorrect p)
verdict_of pair bounds budget p (inl is) = is
verdict_of pair bounds budget p (inr spent) = absurd (let e = spent.is in cc e)

accepted : (f : Function) → IsJudgeable f → IsAccepted f
accepted f known = record { numbered = known.numbered; well_formed = known.well_formed; undefs = known.undefs }

fails_at : IncorrectFails → (pair : Functions) (bounds : Bounds) (budget : Budget) (p : Point) → AreAccepted pair → IsVerdict pair bounds budget (verdict.Incorrect p)
    → is_refined (run_of (run_pair pair).source bounds p.input []).outcome (run_of (run_pair pair).target bounds p.input p.tape).outcome ≡ false
fails_at law pair bounds budget p are is = same_allows pair are bounds p.input [] p.tape ∙ (law pair bounds budget p are is).none []

one_listed : (a : Functions) (pair : Option Functions) (P : Option Functions → Type 0) → a ∷ [] ≡ listed pair → P (Some a) → P pair
one_listed a None P e h = absurd (cc e)
one_listed a (Some b) P e h = let same : a ≡ b = cc in subst (λ (q : Functions). P (Some q)) same h

module _ (law : IncorrectFails) (bounds : Bounds) (budget : Budget) where
  pair_explained : (f g : Function) (p : Point) → IsJudgeable f → IsJudgeable g → MayBeTold (record { source = f; target = g }) bounds budget (verdict.Incorrect p)
      → CanBeExplained (record { source = f; target = g }) bounds p
  pair_explained f g p source target told = record {
    source_runs = judgeable_lowered f source;
    target_runs = judgeable_lowered g target;
    fails = fails_at law (record { source = f; target = g }) bounds budget p (record { source = accepted f source; target = accepted g target }) (verdict_of (record { source = f; target = g }) bounds budget p told);
  }

  compared_explained : (f g : Function) (same : Bool) (found : Finding) (pair : Option Functions) → IsJudgeable f → IsJudgeable g
      → IsCompared (may_answer bounds budget) bounds (record { source = f; target = g }) same found
      → (let ps : List Functions = if same then record { source = f; target = g } ∷ [] else [] in ps) ≡ listed pair → CanExplain bounds found pair
  compared_explained f g true (finding.Incorrect p shown) pair source target is one =
      one_listed (record { source = f; target = g }) pair (λ q. CanExplain bounds (finding.Incorrect p shown) q) one (pair_explained f g p source target is.0)
  compared_explained f g true finding.Correct pair source target is one = tt
  compared_explained f g true (finding.Unknown cause) pair source target is one = tt
  compared_explained f g true (finding.Refused side refused) pair source target is one = tt
  compared_explained f g true finding.Signature pair source target is one = tt
  compared_explained f g true finding.Missing pair source target is one = tt
  compared_explained f g true finding.Extra pair source target is one = tt
  compared_explained f g false found pair source target is one = subst (λ (x : Finding). CanExplain bounds x pair) (sym is) tt

  finding_explained : (s : Result Function Refused) (t : Option (Result Function Refused)) (found : Finding) (pair : Option Functions) → Judgeable s → NamedJudgeable t
      → IsFinding (may_answer bounds budget) bounds s t found → pairs_in s t ≡ listed pair → CanExplain bounds found pair
  finding_explained s None found pair source target is one = subst (λ (x : Finding). CanExplain bounds x pair) (sym is) tt
  finding_explained (Err r) (Some t) found pair source target is one = subst (λ (x : Finding). CanExplain bounds x pair) (sym is) tt
  finding_explained (Ok f) (Some (Err r)) found pair source target is one = subst (λ (x : Finding). CanExplain bounds x pair) (sym is) tt
  finding_explained (Ok f) (Some (Ok g)) found pair source target is one = compared_explained f g (same_signature f g) found pair (source f refl) (target g refl) is one

  pub row_explained : (targets : List Entry) (source : Entry) (found : Finding) (pair : Option Functions) → AllByRecursion IsJudgeableEntry targets → IsJudgeableEntry source
      → IsFinding (may_answer bounds budget) bounds source.function (function_named targets source.name) found
      → pairs_in source.function (function_named targets source.name) ≡ listed pair → CanExplain bounds found pair
  row_explained targets source found pair all judgeable is one =
      finding_explained source.function (function_named targets source.name) found pair judgeable (named_judgeable targets source.name all) is one
