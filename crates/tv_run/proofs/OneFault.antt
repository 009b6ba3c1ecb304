-- Two files have one fault, or are modules.
use Rattle.tv_run.proofs.Common.{◌≡◌, ◌≢◌, ◌⊎◌, ℕ, List, Some, refl, sym, ap, ◌∙◌, inl, inr, Files, ShelfState, Module, ModuleFault, ModuleOrFault, OneFault, Trouble, Check, HasModule, HasFault, HasTrouble, IsBeforeTarget, trouble_status, FaultsAreOne, ModulesHaveNoFault}
use Rattle.ir_reader.specs.declared.fault.ModuleFault.TheVariants as fault
use Rattle.module_files.specs.declared.stop.Trouble.TheVariants as trouble
use Rattle.module_files.specs.declared.stop.Stop.TheVariants as stop
use Rattle.tv_run.proofs.Files.{module_or_fault, fault_one}

-- the trouble that reports a fault; none reports out of memory, for which any other is taken here
abbrev trouble_of : ModuleFault → Trouble
trouble_of (fault.NoToken place) = trouble.NoToken place
trouble_of (fault.Item w place) = trouble.Item w place
trouble_of fault.NoMemory = trouble.CannotRead

-- a trouble that reports a fault, and the fault
record ReportsFault (files : Files) (name : List ℕ) (t : Trouble) : Type 0 where
  pub of : ModuleFault
  pub is : t ≡ trouble_of of
  pub fits : of ≢ fault.NoMemory
  pub has : HasFault (files name) of

fault_reported : (files : Files) (name : List ℕ) (old new : ShelfState) (t : Trouble) → old.files ≡ Some files → HasTrouble old new name t → trouble_status t ≡ 9 → ReportsFault files name t
fault_reported files name old new trouble.CannotRead known has nine = absurd (cc nine)
fault_reported files name old new trouble.TooLong known has nine = absurd (cc nine)
fault_reported files name old new (trouble.NoToken place) known has nine = record { of = fault.NoToken place; is = refl; fits = λ e. cc e; has = has files known }
fault_reported files name old new (trouble.Item w place) known has nine = record { of = fault.Item w place; is = refl; fits = λ e. cc e; has = has files known }

-- where the target has a fault the source is a module
source_of : (files : Files) (of_check : Check) (t : Trouble) → IsBeforeTarget (files of_check.source) t → trouble_status t ≡ 9 → (m : Module) × HasModule (files of_check.source) m
source_of files of_check trouble.CannotRead is nine = absurd (cc nine)
source_of files of_check trouble.TooLong is nine = absurd (cc nine)
source_of files of_check (trouble.NoToken place) is nine = is
source_of files of_check (trouble.Item w place) is nine = is

trouble_one : OneFault → (files : Files) (name : List ℕ) (t u : Trouble) → ReportsFault files name t → ReportsFault files name u → t ≡ u
trouble_one one files name t u x y = go (fault_one one (files name) x.of y.of x.has y.has)
  where
    go : (x.of ≡ y.of) ⊎ (x.of ≡ fault.NoMemory) ⊎ (y.of ≡ fault.NoMemory) → t ≡ u
    go (inl e) = x.is ∙ ap trouble_of e ∙ sym y.is
    go (inr (inl e)) = absurd (x.fits e)
    go (inr (inr e)) = absurd (y.fits e)

no_fault : ModuleOrFault → (files : Files) (name : List ℕ) (t : Trouble) (m : Module) → HasModule (files name) m → ReportsFault files name t → ⊥
no_fault apart files name t m has x = x.fits (module_or_fault apart (files name) m x.of has x.has)

pub faults_are_one : ModuleOrFault → OneFault → FaultsAreOne
faults_are_one apart one files of_check b n c o (stop.Source t) (stop.Source u) k l x y nine other_nine =
    ap stop.Source (trouble_one one files of_check.source t u (fault_reported files of_check.source b n t k x.0 nine) (fault_reported files of_check.source c o u l y.0 other_nine))
faults_are_one apart one files of_check b n c o (stop.Source t) (stop.Target u) k l x y nine other_nine =
    let m = source_of files of_check u (y.1 files l) other_nine in
    absurd (no_fault apart files of_check.source t m.0 m.1 (fault_reported files of_check.source b n t k x.0 nine))
faults_are_one apart one files of_check b n c o (stop.Target t) (stop.Source u) k l x y nine other_nine =
    let m = source_of files of_check t (x.1 files k) nine in
    absurd (no_fault apart files of_check.source u m.0 m.1 (fault_reported files of_check.source c o u l y.0 other_nine))
faults_are_one apart one files of_check b n c o (stop.Target t) (stop.Target u) k l x y nine other_nine =
    ap stop.Target (trouble_one one files of_check.target t u (fault_reported files of_check.target b n t k x.0 nine) (fault_reported files of_check.target c o u l y.0 other_nine))
faults_are_one apart one files of_check b n c o stop.NoMemory other k l x y nine other_nine = absurd (cc nine)
faults_are_one apart one files of_check b n c o (stop.Source t) stop.NoMemory k l x y nine other_nine = absurd (cc other_nine)
faults_are_one apart one files of_check b n c o (stop.Target t) stop.NoMemory k l x y nine other_nine = absurd (cc other_nine)

pub modules_have_no_fault : ModuleOrFault → ModulesHaveNoFault
modules_have_no_fault apart files of_check old new (stop.Source t) m n known source target cause nine = no_fault apart files of_check.source t m source (fault_reported files of_check.source old new t known cause.0 nine)
modules_have_no_fault apart files of_check old new (stop.Target t) m n known source target cause nine = no_fault apart files of_check.target t n target (fault_reported files of_check.target old new t known cause.0 nine)
modules_have_no_fault apart files of_check old new stop.NoMemory m n known source target cause nine = absurd (cc nine)
