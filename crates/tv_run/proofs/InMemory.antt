-- A run over files in memory.
use Rattle.tv_run.proofs.Common.{◌≡◌, ◌≢◌, ◌⊎◌, ◌≤◌, ◌<◌, ℕ, arith, true, List, [], Option, Some, None, is_none, sym, ap, subst, ◌∙◌, inl, inr, Files, fails_absent, ShelfState, SinkState, IsWritten, then_taken, Module, Judged, Stop, Check, Job, AreModules, FitsIn, HasModule, WhereChecked, IsTheDefinedReport, IsUnfinished, PartlyWritten, WritesDefinedReport, MeansRefinement, SaysRefinement, HasCause, IsNotPut, Refuses, RefusesJob, stop_status}
use Rattle.module_files.specs.declared.stop.Trouble.TheVariants as trouble
use Rattle.module_files.specs.declared.stop.Stop.TheVariants as stop

-- a file that is a module is not absent
not_absent : (files : Files) (name : List ℕ) (m : Module) → HasModule (files name) m → fails_absent files name ≡ true → ⊥
not_absent files name m has absent = absurd (let there = has.there in let none : is_none (files name) ≡ true = absent in let some = rw there at none in cc some)

-- a fetch of it does not fail
no_failed_fetch : (files : Files) (old new : ShelfState) (c : Check) (source target : Module) (why : Stop) → old.may_fail ≡ fails_absent files → HasModule (files c.source) source → HasModule (files c.target) target → HasCause old new c why → stop_status why ≢ 5
no_failed_fetch files old new c m n (stop.Source trouble.CannotRead) fails source target cause five = not_absent files c.source m source (ap (λ (f : List ℕ → _). f c.source) (sym fails) ∙ cause.0.0)
no_failed_fetch files old new c m n (stop.Target trouble.CannotRead) fails source target cause five = not_absent files c.target n target (ap (λ (f : List ℕ → _). f c.target) (sym fails) ∙ cause.0.0)
no_failed_fetch files old new c m n (stop.Source trouble.TooLong) fails source target cause five = absurd (cc five)
no_failed_fetch files old new c m n (stop.Source (trouble.NoToken place)) fails source target cause five = absurd (cc five)
no_failed_fetch files old new c m n (stop.Source (trouble.Item w place)) fails source target cause five = absurd (cc five)
no_failed_fetch files old new c m n (stop.Target trouble.TooLong) fails source target cause five = absurd (cc five)
no_failed_fetch files old new c m n (stop.Target (trouble.NoToken place)) fails source target cause five = absurd (cc five)
no_failed_fetch files old new c m n (stop.Target (trouble.Item w place)) fails source target cause five = absurd (cc five)
no_failed_fetch files old new c m n stop.NoMemory fails source target cause five = absurd (cc five)

-- the files of a shelf in memory
pub record IsMemory (files : Files) (old : ShelfState) : Type 0 where
  pub known : old.files ≡ Some files
  pub fails : old.may_fail ≡ fails_absent files

refuses_none : (files : Files) (command : Option Job) (old new : ShelfState) (out out_new : SinkState) (status : ℕ) → IsMemory files old → AreModules (Some files) command → RefusesJob command old new out out_new status → status ≢ 5
refuses_none files command old new out out_new status memory both refuses five =
    let same : files ≡ both.files = some_files files both.files both.files_are in
    let r : Refuses both.c old new out out_new status = subst (λ (j : Option Job). RefusesJob j old new out out_new status) both.job_is refuses in
    let source = subst (λ (f : Files). HasModule (f both.c.source) both.source) (sym same) both.source_is in
    let target = subst (λ (f : Files). HasModule (f both.c.target) both.target) (sym same) both.target_is in
    no_failed_fetch files old new both.c both.source both.target r.why memory.fails source target r.cause (sym r.status_is ∙ five)
  where
    some_files : (a b : Files) → Some a ≡ Some b → a ≡ b
    some_files a b e = cc e

cut_none : (room : ℕ) (files : Files) (command : Option Job) (answers : List Judged) (after : Option Files) (old new : SinkState) (fits : FitsIn room files command) → old.room ≡ room → PartlyWritten files fits.both.c answers after old new → ⊥
cut_none room files command answers after old new fits is part =
    let within = fits.fits answers part.text part.status part.reports in
    let less = part.cut_off.room in
    absurd (omega (arith, within, less, is))

-- two modules are judged
pub complete : (room : ℕ) (files : Files) (command : Option Job) (shelf shelf_new : ShelfState) (out out_new : SinkState) (answers : List Judged) (status : ℕ)
    → IsMemory files shelf → out.room ≡ room → status ≢ 8
    → (AreModules shelf.files command → (status ≤ 3) ⊎ (status ≡ 5) ⊎ (status ≡ 7) ⊎ (status ≡ 8))
    → (4 < status → status ≢ 7 → status ≢ 8 → RefusesJob command shelf shelf_new out out_new status)
    → (status ≡ 7 → WhereChecked shelf.files command (λ fs c. IsUnfinished fs c answers shelf shelf_new out out_new))
    → FitsIn room files command → status ≤ 3
complete room files command shelf shelf_new out out_new answers status memory is other judged refuses part fits = go (judged (subst (λ (known : Option Files). AreModules known command) (sym memory.known) fits.both))
  where
    unwritten : PartlyWritten files fits.both.c answers shelf_new.files out out_new ⊎ IsNotPut fits.both.c.proof shelf shelf_new out out_new → ⊥
    unwritten (inl p) = cut_none room files command answers shelf_new.files out out_new fits is p
    unwritten (inr p) = absurd (let none : None ≡ Some p.name = sym fits.unput ∙ p.asked_is in cc none)

    go : (status ≤ 3) ⊎ (status ≡ 5) ⊎ (status ≡ 7) ⊎ (status ≡ 8) → status ≤ 3
    go (inl below) = below
    go (inr (inl five)) = absurd (refuses_none files command shelf shelf_new out out_new status memory fits.both (refuses (omega (arith, five)) (λ e. omega (arith, five, e)) other) five)
    go (inr (inr (inl seven))) = absurd (unwritten (part seven files fits.both.c memory.known fits.both.job_is).stopped)
    go (inr (inr (inr eight))) = absurd (other eight)

-- ---- what was written is the report

some_bytes : (a b : List ℕ) → Some a ≡ Some b → a ≡ b
some_bytes a b e = cc e

module _ (text bytes : List ℕ) (old new : SinkState) (empty : old.taken ≡ Some []) (holds : new.taken ≡ Some bytes) where
  pub written_is : IsWritten text old new → text ≡ bytes
  written_is written = some_bytes text bytes (sym (written.taken ∙ ap (λ taken. then_taken taken text) empty) ∙ holds)

pub sound : (files : Files) (c : Check) (status : ℕ) (old new : SinkState) (bytes : List ℕ) → old.taken ≡ Some [] → new.taken ≡ Some bytes → MeansRefinement files c status old new → SaysRefinement files c bytes status
sound files c status old new bytes empty holds means =
    subst (λ (text : List ℕ). SaysRefinement files c text status) (written_is means.text bytes old new empty holds means.written) means.says

pub defined : (files : Files) (c : Check) (status : ℕ) (old new : SinkState) (bytes : List ℕ) → old.taken ≡ Some [] → new.taken ≡ Some bytes → WritesDefinedReport files c status old new → IsTheDefinedReport files c bytes status
defined files c status old new bytes empty holds writes =
    subst (λ (text : List ℕ). IsTheDefinedReport files c text status) (written_is writes.text bytes old new empty holds writes.written) writes.report
