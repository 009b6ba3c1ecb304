-- What a call from C answers.
use Rattle.std.specs.Prelude.{◌≡◌, ◌<◌, ◌≤◌, ℕ, List, ◌++◌, drop, length, min, take}
use Rattle.points.specs.declared.point.Bounds.{Bounds}
use Rattle.points.specs.declared.point.Budget.{Budget}
use Rattle.tv_run.specs.Reports.{IsTheDefinedReport}
use Rattle.tv_run.specs.Sound.{SaysRefinement}
use Rattle.tv_run.specs.Texts.{AreModuleTexts, OfTexts, RefusesTexts}
use Rattle.tv_c.specs.declared.options.TvOptions.{TvOptions}

abbrev pub bounds_in : TvOptions → Bounds
bounds_in o = record { turns = o.turns; blocks = o.blocks; bytes = o.bytes }

abbrev pub budget_in : TvOptions → Budget
budget_in o = record { rounds = o.rounds; conflicts = o.conflicts; weight = o.weight }

-- a buffer after as much of the text as fits was copied into it
abbrev pub copied : (text room : List ℕ) → List ℕ
copied text room =
    let count : ℕ = min (length text) (length room) in
    take count text ++ drop count room

-- what is written of two texts, within these bounds and this budget, has this length, and the buffer has
-- as much of it as fits; the clauses are those of `tv_run::check_texts`
pub record IsAnswer (source target : List ℕ) (options : TvOptions) (status : ℕ)
    (room_old room_new : List ℕ) (text_length : ℕ) : Type 0 where
  pub text : List ℕ
  pub length_is : text_length ≡ length text
  pub room_is : room_new ≡ copied text room_old
  pub sound : status ≤ 3 → OfTexts source target (bounds_in options) (budget_in options)
      (λ files c. SaysRefinement files c text status)
  pub defined : status ≤ 3 → options.conflicts ≡ 0
      → OfTexts source target (bounds_in options) (budget_in options)
      (λ files c. IsTheDefinedReport files c text status)
  pub complete : AreModuleTexts source target → status ≤ 3
  pub refused : 3 < status → RefusesTexts source target status text
