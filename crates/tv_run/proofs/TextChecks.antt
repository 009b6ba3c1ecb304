-- The check of two texts.
use Rattle.tv_run.proofs.Common.{◌≡◌, ◌≢◌, ◌⊎◌, ◌≤◌, ◌<◌, ℕ, arith, Bool, false, List, [], length, Some, Result, Ok, Err, refl, sym, ap, subst, ◌∙◌, inl, inr, codes, Rose, Files, SinkState, AreInRange, Bounds, Budget, Module, ModuleOrFault, IsModule, Judged, Check, HasModule, IsReport, Reports, Stop, stop_status, WritesLine}
use Rattle.std.specs.Prelude.{IfOk}
use Rattle.support.specs.declared.no_memory.NoMemory.{NoMemory}
use Rattle.module_files.specs.Files.{text_limit}
use Rattle.module_files.specs.Reading.{AreWithin, StopsAtTexts}
use Rattle.module_files.specs.Stops.{SaysStop, trouble_line}
use Rattle.module_files.specs.declared.stop.Trouble.TheVariants as trouble
use Rattle.module_files.specs.declared.stop.Stop.TheVariants as stop
use Rattle.tv_run.specs.declared.texts.CheckedTexts.{CheckedTexts}
use Rattle.tv_run.specs.Texts.{AreModuleTexts, ChecksTexts, RefusesTexts, stop_line}
use Rattle.tv_run.proofs.Files.{same_text}
use Rattle.tv_run.proofs.InMemory.{written_is}
use Rattle.tv_run.proofs.ReadAgain.{no_fault}

-- ---- the report of two texts is that of each check of files that hold them

module _ (source target : List ℕ) (bounds : Bounds) (budget : Budget) (files : Files) (c : Check) (checks : ChecksTexts source target bounds budget files c) where
  pub texts_report : (m n : Module) (answers : List Judged) (text : List ℕ) (status : ℕ) → AreWithin source target → IsModule source m → IsModule target n
      → IsReport false bounds budget m n answers text status → Reports files c answers text status
  texts_report m n answers text status within source_is target_is report = record {
    source = m;
    target = n;
    source_is = record { text = source; there = checks.source_is; holds = (within.source_within, source_is) };
    target_is = record { text = target; there = checks.target_is; holds = (within.target_within, target_is) };
    report =
        subst (λ (b : Bool). IsReport b c.bounds c.budget m n answers text status) (sym checks.first_is)
        (subst (λ (b : Bounds). IsReport false b c.budget m n answers text status) (sym checks.bounds_are)
        (subst (λ (b : Budget). IsReport false bounds b m n answers text status) (sym checks.budget_is) report));
  }

  pub texts_in_range : AreInRange bounds budget → AreInRange c.bounds c.budget
  texts_in_range ranges =
      subst (λ (b : Bounds). AreInRange b c.budget) (sym checks.bounds_are) (subst (λ (b : Budget). AreInRange bounds b) (sym checks.budget_is) ranges)

  pub texts_unlimited : budget.conflicts ≡ 0 → c.budget.conflicts ≡ 0
  texts_unlimited none = ap (λ (b : Budget). b.conflicts) checks.budget_is ∙ none

-- ---- two texts that are not judged

above_reports : (why : Stop) → 3 < stop_status why
above_reports (stop.Source trouble.CannotRead) = omega arith
above_reports (stop.Source trouble.TooLong) = omega arith
above_reports (stop.Source (trouble.NoToken place)) = omega arith
above_reports (stop.Source (trouble.Item w place)) = omega arith
above_reports (stop.Target trouble.CannotRead) = omega arith
above_reports (stop.Target trouble.TooLong) = omega arith
above_reports (stop.Target (trouble.NoToken place)) = omega arith
above_reports (stop.Target (trouble.Item w place)) = omega arith
above_reports stop.NoMemory = omega arith

pub unreported : (r : Result CheckedTexts NoMemory) (why : Stop) (P : CheckedTexts → Type 0) → IfOk r (λ checked. checked.status ≡ stop_status why) → IfOk r (λ checked. checked.status ≤ 3 → P checked)
unreported (Ok checked) why P is = λ within. absurd (omega (arith, is, within, above_reports why))
unreported (Err e) why P is = tt

status_known : (source target : List ℕ) (why : Stop) → StopsAtTexts source target why → stop_status why ≢ 8 → (stop_status why ≡ 6) ⊎ (stop_status why ≡ 9)
status_known source target (stop.Source trouble.CannotRead) cause other = absurd cause.1
status_known source target (stop.Source trouble.TooLong) cause other = inl refl
status_known source target (stop.Source (trouble.NoToken place)) cause other = inr refl
status_known source target (stop.Source (trouble.Item w place)) cause other = inr refl
status_known source target (stop.Target trouble.CannotRead) cause other = absurd cause.1.0
status_known source target (stop.Target trouble.TooLong) cause other = inl refl
status_known source target (stop.Target (trouble.NoToken place)) cause other = inr refl
status_known source target (stop.Target (trouble.Item w place)) cause other = inr refl
status_known source target stop.NoMemory cause other = absurd (other refl)

pub refuses : (r : Result CheckedTexts NoMemory) (source target : List ℕ) (why : Stop) → StopsAtTexts source target why → IfOk r (λ checked. checked.status ≡ stop_status why)
    → IfOk r (λ checked. checked.written.items ≡ stop_line (codes "source") (codes "target") why) → IfOk r (λ checked. 3 < checked.status → RefusesTexts source target checked.status checked.written.items)
refuses (Ok checked) source target why cause is line = λ above. record {
  why = why;
  cause = cause;
  status_is = is;
  text_is = line;
}
refuses (Err e) source target why cause is line = tt

pub stop_known : (r : Result CheckedTexts NoMemory) (source target : List ℕ) (why : Stop) → StopsAtTexts source target why → IfOk r (λ checked. checked.status ≡ stop_status why) → IfOk r (λ checked. checked.status ≢ 8)
    → IfOk r (λ checked. (checked.status ≤ 3) ⊎ (checked.status ≡ 6) ⊎ (checked.status ≡ 9))
stop_known (Ok checked) source target why cause is other = inr (subst (λ (n : ℕ). (n ≡ 6) ⊎ (n ≡ 9)) (sym is) (status_known source target why cause (λ e. other (is ∙ e))))
stop_known (Err e) source target why cause is other = tt

-- ---- two texts that are modules

module_within : (text : List ℕ) (m : Module) → HasModule (Some text) m → (length text ≤ text_limit) × IsModule text m
module_within text m has = subst (λ (t : List ℕ). (length t ≤ text_limit) × IsModule t m) (same_text (Some text) has.text text has.there refl) has.holds

only_memory : ModuleOrFault → (source target : List ℕ) (why : Stop) → StopsAtTexts source target why → AreModuleTexts source target → stop_status why ≡ 8
only_memory law source target (stop.Source trouble.CannotRead) cause both = absurd cause.1
only_memory law source target (stop.Source trouble.TooLong) cause both = absurd (let is = module_within source both.source_module both.source_is in omega (arith, is.0, cause))
only_memory law source target (stop.Source (trouble.NoToken place)) cause both =
    absurd (no_fault law source both.source_module (trouble.NoToken place) (module_within source both.source_module both.source_is).1 cause.1)
only_memory law source target (stop.Source (trouble.Item w place)) cause both =
    absurd (no_fault law source both.source_module (trouble.Item w place) (module_within source both.source_module both.source_is).1 cause.1)
only_memory law source target (stop.Target trouble.CannotRead) cause both = absurd cause.1.0
only_memory law source target (stop.Target trouble.TooLong) cause both = absurd (let is = module_within target both.target_module both.target_is in omega (arith, is.0, cause.1))
only_memory law source target (stop.Target (trouble.NoToken place)) cause both =
    absurd (no_fault law target both.target_module (trouble.NoToken place) (module_within target both.target_module both.target_is).1 cause.1.0)
only_memory law source target (stop.Target (trouble.Item w place)) cause both =
    absurd (no_fault law target both.target_module (trouble.Item w place) (module_within target both.target_module both.target_is).1 cause.1.0)
only_memory law source target stop.NoMemory cause both = refl

pub judged_texts : ModuleOrFault → (r : Result CheckedTexts NoMemory) (source target : List ℕ) (why : Stop) → StopsAtTexts source target why → IfOk r (λ checked. checked.status ≡ stop_status why) → IfOk r (λ checked. checked.status ≢ 8)
    → IfOk r (λ checked. AreModuleTexts source target → checked.status ≤ 3)
judged_texts law (Ok checked) source target why cause is other = λ both. absurd (other (is ∙ only_memory law source target why cause both))
judged_texts law (Err e) source target why cause is other = tt

-- ---- the line of a text that is not judged

not_risen : (old new : ℕ) → old ≡ 0 → new ≡ 0 → Rose old new → ⊥
not_risen old new e d rose = absurd (let here : Rose 0 0 = subst (λ (n : ℕ). Rose 0 n) d (subst (λ (n : ℕ). Rose n new) e rose) in omega (arith, here))

module _ (old new : SinkState) (bytes : List ℕ) (empty : old.taken ≡ Some []) (quiet : old.faults ≡ 0) (holds : new.taken ≡ Some bytes) (still : new.faults ≡ 0) where
  line_written : (line : List ℕ) → WritesLine line old new → bytes ≡ line
  line_written line (inl written) = sym (written_is line bytes old new empty holds written)
  line_written line (inr cut) = absurd (not_risen old.faults new.faults quiet still cut.faults)

  pub stop_written : (source target : List ℕ) (why : Stop) → stop_status why ≢ 8 → SaysStop source target why old new → bytes ≡ stop_line source target why
  stop_written source target (stop.Source t) other says = line_written (trouble_line source t) says
  stop_written source target (stop.Target t) other says = line_written (trouble_line target t) says
  stop_written source target stop.NoMemory other says = absurd (other refl)
