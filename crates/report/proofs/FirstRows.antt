-- A report that ends at its first incorrect row has the first rows of the report of all rows.
use Rattle.std.proofs.Common.{◌≡◌, refl, sym, ap, ◌∙◌, List, [], ◌∷◌, ◌++◌, Bool, true, false, ◌||◌, cond, is_some}
use Rattle.std.specs.List.{list_any}
use Rattle.ir_tree.specs.declared.module.Entry.{Entry}
use Rattle.ir_tree.specs.declared.module.Module.{Module}
use Rattle.points.specs.declared.point.Bounds.{Bounds}
use Rattle.verdicts.specs.declared.verdict.Verdict.{Verdict}
use Rattle.verdicts.specs.Pair.{Functions}
use Rattle.verdicts.specs.Laws.{VerdictsAreOne}
use Rattle.verdicts.specs.Trail.{IsVerdict}
use Rattle.report.specs.declared.row.Row.{Row}
use Rattle.report.specs.Rows.{ends, GoesOn, AreSourceRows, AreRows, extra_row, extra_rows, function_named, first_rows, FirstRowsAreTheFirst}
use Rattle.report.proofs.Ended.{whole_is}
use Rattle.report.proofs.OneList.{TellsOne, row_one}

-- a row, and then these rows where it is not incorrect
abbrev then_rows : Bool → Row → List Row → List Row
then_rows ended row rows = row ∷ cond ended [] rows

one_first : (row : Row) (all rows : List Row) (ended : Bool) (Rest : Type 0) → (Rest → rows ≡ first_rows all) → GoesOn ended rows Rest → row ∷ rows ≡ then_rows ended row (first_rows all)
one_first row all rows true Rest more x = ap (λ (rs : List Row). row ∷ rs) x
one_first row all rows false Rest more x = ap (λ (rs : List Row). row ∷ rs) (more x)

source_rows_first : (tells : Functions → Verdict → Type 0) → TellsOne tells → (bounds : Bounds) → (targets sources : List Entry) (rows all : List Row) → AreSourceRows true tells bounds targets sources rows → AreSourceRows false tells bounds targets sources all → rows ≡ first_rows all
source_rows_first tells one bounds targets [] [] [] x y = refl
source_rows_first tells one bounds targets [] [] (other ∷ all) x y = absurd y
source_rows_first tells one bounds targets [] (row ∷ rows) all x y = absurd x
source_rows_first tells one bounds targets (source ∷ sources) [] all x y = absurd x
source_rows_first tells one bounds targets (source ∷ sources) (row ∷ rows) [] x y = absurd y
source_rows_first tells one bounds targets (source ∷ sources) (row ∷ rows) (other ∷ all) x y =
    let e : row ≡ other = row_one tells one bounds targets source row other x.0 y.0 in
    one_first row all rows (ends true row) (AreSourceRows true tells bounds targets sources rows)
    (λ u. source_rows_first tells one bounds targets sources rows all u y.1) x.1
    ∙ ap (λ (r : Row). then_rows (ends true r) r (first_rows all)) e

-- rows after one that ends the report are not among the first ones
then-any : (ended : Bool) (row : Row) (rows : List Row) → (list_any (ends true) (first_rows rows) ≡ list_any (ends true) rows) → ended ≡ ends true row → list_any (ends true) (then_rows ended row (first_rows rows)) ≡ (ended || list_any (ends true) rows)
then-any true row rows same e = ap (λ b. b || false) (sym e)
then-any false row rows same e = ap (λ b. b || list_any (ends true) (first_rows rows)) (sym e) ∙ same

first_rows-any : (rows : List Row) → list_any (ends true) (first_rows rows) ≡ list_any (ends true) rows
first_rows-any [] = refl
first_rows-any (row ∷ rows) = then-any (ends true row) row rows (first_rows-any rows) refl

-- the first rows of some rows and further ones
then-append : (ended : Bool) (row : Row) (rows more : List Row) → first_rows (rows ++ more) ≡ first_rows rows ++ cond (list_any (ends true) rows) [] (first_rows more)
    → then_rows ended row (first_rows (rows ++ more)) ≡ then_rows ended row (first_rows rows) ++ cond (ended || list_any (ends true) rows) [] (first_rows more)
then-append true row rows more same = refl
then-append false row rows more same = ap (λ (rs : List Row). row ∷ rs) same

first_rows-append : (rows more : List Row) → first_rows (rows ++ more) ≡ first_rows rows ++ cond (list_any (ends true) rows) [] (first_rows more)
first_rows-append [] more = refl
first_rows-append (row ∷ rows) more = then-append (ends true row) row rows more (first_rows-append rows more)

some-extra : (named : Bool) (target : Entry) (more : List Row) → first_rows more ≡ more → first_rows (cond named more (extra_row target ∷ more)) ≡ cond named more (extra_row target ∷ more)
some-extra true target more same = same
some-extra false target more same = ap (λ (rs : List Row). extra_row target ∷ rs) same

first_rows-extra : (sources targets : List Entry) → first_rows (extra_rows sources targets) ≡ extra_rows sources targets
first_rows-extra sources [] = refl
first_rows-extra sources (target ∷ targets) = some-extra (is_some (function_named sources target.name)) target (extra_rows sources targets) (first_rows-extra sources targets)

rows_first : (tells : Functions → Verdict → Type 0) → TellsOne tells → (bounds : Bounds) (source target : Module) (rows all : List Row) → AreRows true tells bounds source target rows → AreRows false tells bounds source target all → rows ≡ first_rows all
rows_first tells one bounds source target rows all x y =
    let more = extra_rows source.entries target.entries in
    let e : x.judged ≡ first_rows y.judged = source_rows_first tells one bounds target.entries source.entries x.judged y.judged x.each y.each in
    let any : list_any (ends true) x.judged ≡ list_any (ends true) y.judged = ap (list_any (ends true)) e ∙ first_rows-any y.judged in
    let whole : all ≡ y.judged ++ more = whole_is tells bounds source target all y in
    x.all ∙ ap (λ (js : List Row). js ++ cond (list_any (ends true) x.judged) [] more) e
    ∙ ap (λ b. first_rows y.judged ++ cond b [] more) any
    ∙ ap (λ (ms : List Row). first_rows y.judged ++ cond (list_any (ends true) y.judged) [] ms) (sym (first_rows-extra source.entries target.entries))
    ∙ sym (first_rows-append y.judged more)
    ∙ ap first_rows (sym whole)

pub first_rows_are_the_first : VerdictsAreOne → FirstRowsAreTheFirst
first_rows_are_the_first one bounds budget source target rows all fits x y =
    rows_first (λ pair v. IsVerdict pair bounds budget v) (λ pair v w. one pair bounds budget v w fits) bounds source target rows all x y
