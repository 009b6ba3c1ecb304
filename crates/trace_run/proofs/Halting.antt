-- What keeps the modules from being judged after the report was read does so from before that.
use Rattle.std.proofs.Common.{◌≡◌, ◌≤◌, ℕ, true, arith, List, Option, Result, Ok, Err, sym, subst}
use Rattle.std.specs.Prelude.{IfErr, IsErrAnd}
use Rattle.tv_io.specs.Count.{Rose}
use Rattle.tv_io.specs.Files.{Files}
use Rattle.tv_io.specs.State.{ShelfState}
use Rattle.ir_reader.specs.declared.fault.ModuleFault.TheVariants as fault
use Rattle.module_files.specs.declared.stop.Trouble.{Trouble}
use Rattle.module_files.specs.declared.stop.Trouble.TheVariants as trouble
use Rattle.module_files.specs.declared.stop.Stop.{Stop}
use Rattle.module_files.specs.declared.stop.Stop.TheVariants as stop
use Rattle.module_files.specs.Files.{HasFault, IsLonger, WhereKnown}
use Rattle.module_files.specs.Stops.{HasTrouble, IsBeforeSource, IsBeforeTarget, StopsAt}
use Rattle.trace_run.specs.declared.halt.Halt.{Halt}
use Rattle.trace_run.specs.declared.halt.Halt.TheVariants as halt

-- the shelf after a fetch that did not fail
module _ (old mid new : ShelfState) (same : mid.files ≡ old.files) (fails : mid.may_fail ≡ old.may_fail) (faults : mid.fetch_faults ≡ old.fetch_faults) (taken : old.bytes_taken ≤ mid.bytes_taken) where
  known_from : (P : Files → Type 0) → WhereKnown mid.files P → WhereKnown old.files P
  known_from P h = subst (λ (known : Option Files). WhereKnown known P) same h

  rose_from : Rose mid.fetch_faults new.fetch_faults → Rose old.fetch_faults new.fetch_faults
  rose_from h = subst (λ (n : ℕ). Rose n new.fetch_faults) faults h

  trouble_from : (name : List ℕ) (t : Trouble) → HasTrouble mid new name t → HasTrouble old new name t
  trouble_from name trouble.CannotRead h = (subst (λ f. f name ≡ true) fails h.0, rose_from h.1)
  trouble_from name trouble.TooLong h = (omega (arith, taken, h.0), known_from (λ files. IsLonger (files name)) h.1)
  trouble_from name (trouble.NoToken place) h = known_from (λ files. HasFault (files name) (fault.NoToken place)) h
  trouble_from name (trouble.Item w place) h = known_from (λ files. HasFault (files name) (fault.Item w place)) h

  pub stops_from : (source target : List ℕ) (why : Stop) → StopsAt mid new source target why → StopsAt old new source target why
  stops_from source target (stop.Source t) h = (trouble_from source t h.0, known_from (λ files. IsBeforeSource (files target) t) h.1)
  stops_from source target (stop.Target t) h = (trouble_from target t h.0, known_from (λ files. IsBeforeTarget (files source) t) h.1)
  stops_from source target stop.NoMemory h = tt

pub halted : {X : Type 0} (r : Result X Halt) (why : Stop) (P : Halt → Type 0) → IsErrAnd r (λ h. h ≡ halt.Modules why) → P (halt.Modules why) → IfErr r P
halted (Ok x) why P is p = tt
halted (Err h) why P is p = subst P (sym is) p
