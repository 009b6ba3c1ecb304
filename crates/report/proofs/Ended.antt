-- Rows up to one that ends the report.
use Rattle.std.proofs.Common.{◌≡◌, refl, sym, ap, subst, ◌∙◌, List, [], ◌∷◌, ◌++◌, Bool, true, false, ◌||◌, cond}
use Rattle.std.specs.List.{list_any}
use Rattle.std.proofs.lemmas.List.Folds.{list_any-append}
use Rattle.ir_tree.specs.declared.module.Entry.{Entry}
use Rattle.ir_tree.specs.declared.module.Module.{Module}
use Rattle.points.specs.declared.point.Bounds.{Bounds}
use Rattle.verdicts.specs.declared.verdict.Verdict.{Verdict}
use Rattle.verdicts.specs.Pair.{Functions}
use Rattle.report.specs.declared.row.Row.{Row}
use Rattle.report.specs.Rows.{ends, GoesOn, AreSourceRows, AreRows, extra_rows}

-- what holds of nothing, and of what is left where it goes on, holds of what is left
pub after_row : {X : Type 0} (P : List X → Type 0) (ended : Bool) (left : List X) (Rest : Type 0) → P [] → (Rest → P left) → GoesOn ended left Rest → P left
after_row P true left Rest none more goes = subst P (sym goes) none
after_row P false left Rest none more goes = more goes

pub goes_weaker : {X : Type 0} (ended : Bool) (left : List X) (Rest Other : Type 0) → (Rest → Other) → GoesOn ended left Rest → GoesOn ended left Other
goes_weaker true left Rest Other more goes = goes
goes_weaker false left Rest Other more goes = more goes

-- a report of all rows ends at none
pub never-any : (rows : List Row) → list_any (ends false) rows ≡ false
never-any [] = refl
never-any (row ∷ rows) = never-any rows

pub whole_is : (tells : Functions → Verdict → Type 0) (bounds : Bounds) (source target : Module) (rows : List Row) (are : AreRows false tells bounds source target rows) → rows ≡ are.judged ++ extra_rows source.entries target.entries
whole_is tells bounds source target rows are = are.all ∙ ap (λ b. are.judged ++ cond b [] (extra_rows source.entries target.entries)) (never-any are.judged)

-- ---- where no row ends the report it has all rows

neither : (a b : Bool) → (a || b) ≡ false → (a ≡ false) × (b ≡ false)
neither true b e = absurd (cc e)
neither false b e = (refl, e)

source_rows_whole : (first : Bool) (tells : Functions → Verdict → Type 0) (bounds : Bounds) (targets sources : List Entry) (rows : List Row) → AreSourceRows first tells bounds targets sources rows → list_any (ends first) rows ≡ false → AreSourceRows false tells bounds targets sources rows
source_rows_whole first tells bounds targets [] [] are none = tt
source_rows_whole first tells bounds targets [] (row ∷ rows) are none = absurd are
source_rows_whole first tells bounds targets (source ∷ sources) [] are none = absurd are
source_rows_whole first tells bounds targets (source ∷ sources) (row ∷ rows) are none =
    let parts = neither (ends first row) (list_any (ends first) rows) none in
    let rest : AreSourceRows first tells bounds targets sources rows = subst (λ b. GoesOn b rows (AreSourceRows first tells bounds targets sources rows)) parts.0 are.1 in
    (are.0, source_rows_whole first tells bounds targets sources rows rest parts.1)

pub rows_whole : (first : Bool) (tells : Functions → Verdict → Type 0) (bounds : Bounds) (source target : Module) (rows : List Row) → AreRows first tells bounds source target rows → list_any (ends first) rows ≡ false → AreRows false tells bounds source target rows
rows_whole first tells bounds source target rows are none =
    let extra = extra_rows source.entries target.entries in
    let judged = are.judged in
    let more = cond (list_any (ends first) judged) [] extra in
    let parts = neither (list_any (ends first) judged) (list_any (ends first) more) (sym (list_any-append (ends first) judged more) ∙ ap (list_any (ends first)) (sym are.all) ∙ none) in
    record {
      judged = judged;
      each = source_rows_whole first tells bounds target.entries source.entries judged are.each parts.0;
      all = are.all ∙ ap (λ b. judged ++ cond b [] extra) (parts.0 ∙ sym (never-any judged));
    }
