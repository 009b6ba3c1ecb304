-- Two modules are judged.
use Rattle.tv_run.proofs.Common.{◌≡◌, ◌≢◌, ◌⊎◌, ◌≤◌, ℕ, arith, List, length, Option, Some, Result, Ok, Err, refl, ap, subst, ◌∙◌, inl, inr, ShelfState, Module, Stop, Files, Check, check, IsLonger, HasModule, HasCause, stop_status, AreModules, CountsStop, ModulesHaveNoFault}
use Rattle.module_files.specs.declared.stop.Trouble.TheVariants as trouble
use Rattle.module_files.specs.declared.stop.Stop.TheVariants as stop
use Rattle.tv_run.proofs.OneJob.{check_is}
use Rattle.tv_run.proofs.Files.{same_text}

-- ---- two modules

too_long : (file : Option (List ℕ)) (m : Module) → IsLonger file → HasModule file m → ⊥
too_long file m long h =
    let e : long.text ≡ h.text = same_text file long.text h.text long.there h.there in
    absurd (omega (arith, long.holds, h.holds.0, ap (λ (t : List ℕ). length t) e))

module _ (none : ModulesHaveNoFault) (c : Check) (old new : ShelfState) (why : Stop) (files : Files) (source target : Module) (known : old.files ≡ Some files) (source_is : HasModule (files c.source) source) (target_is : HasModule (files c.target) target) where
  judged_at : HasCause old new c why → (stop_status why ≡ 5) ⊎ (stop_status why ≡ 8)
  judged_at cause = go why cause (none files c old new why source target known source_is target_is cause)
    where
      go : (s : Stop) → HasCause old new c s → stop_status s ≢ 9 → (stop_status s ≡ 5) ⊎ (stop_status s ≡ 8)
      go (stop.Source trouble.CannotRead) h fault = inl refl
      go (stop.Source trouble.TooLong) h fault = absurd (too_long (files c.source) source (h.0.1 files known) source_is)
      go (stop.Source (trouble.NoToken place)) h fault = absurd (fault refl)
      go (stop.Source (trouble.Item w place)) h fault = absurd (fault refl)
      go (stop.Target trouble.CannotRead) h fault = inl refl
      go (stop.Target trouble.TooLong) h fault = absurd (too_long (files c.target) target (h.0.1 files known) target_is)
      go (stop.Target (trouble.NoToken place)) h fault = absurd (fault refl)
      go (stop.Target (trouble.Item w place)) h fault = absurd (fault refl)
      go stop.NoMemory h fault = inr refl

-- a check of two modules stops at a failed read or out of memory
pub complete : ModulesHaveNoFault → (c : Check) (old new : ShelfState) (why : Stop) (result : ℕ) → HasCause old new c why → result ≡ stop_status why → AreModules old.files (Some (check c)) → (result ≤ 3) ⊎ (result ≡ 5) ⊎ (result ≡ 7) ⊎ (result ≡ 8)
complete none c old new why result cause status both = go (judged_at none both.c old new why both.files both.source both.target both.files_are both.source_is both.target_is (subst (λ (d : Check). HasCause old new d why) (check_is c both.c both.job_is) cause))
  where
    go : (stop_status why ≡ 5) ⊎ (stop_status why ≡ 8) → (result ≤ 3) ⊎ (result ≡ 5) ⊎ (result ≡ 7) ⊎ (result ≡ 8)
    go (inl five) = inr (inl (status ∙ five))
    go (inr eight) = inr (inr (inr (status ∙ eight)))

-- ---- counts

quiet_at : (old new : ShelfState) (why : Stop) → CountsStop why old new → stop_status why ≢ 5 → new.fetch_faults ≡ old.fetch_faults
quiet_at old new (stop.Source trouble.CannotRead) counts other = absurd (other refl)
quiet_at old new (stop.Source trouble.TooLong) counts other = counts
quiet_at old new (stop.Source (trouble.NoToken place)) counts other = counts
quiet_at old new (stop.Source (trouble.Item w place)) counts other = counts
quiet_at old new (stop.Target trouble.CannotRead) counts other = absurd (other refl)
quiet_at old new (stop.Target trouble.TooLong) counts other = counts
quiet_at old new (stop.Target (trouble.NoToken place)) counts other = counts
quiet_at old new (stop.Target (trouble.Item w place)) counts other = counts
quiet_at old new stop.NoMemory counts other = counts

pub quiet : (old new : ShelfState) (why : Stop) (result : ℕ) → result ≡ stop_status why → CountsStop why old new → result ≢ 5 → new.fetch_faults ≡ old.fetch_faults
quiet old new why result status counts other = quiet_at old new why counts (λ five. other (status ∙ five))
