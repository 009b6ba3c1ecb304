-- What is read of a module that was printed.
use Rattle.tv_run.proofs.Common.{◌≡◌, ◌≤◌, ◌⊎◌, ℕ, List, arith, inl, inr, subst, sym, Rose, SinkState, Judged, Make, Module, ModuleOrFault, OneModule, IsModule, module_text, Trouble, IsFaultOf, IsSent, IsReadBack, MadePartlyWritten, MadeWritten, SaysMade}
use Rattle.ir_reader.specs.declared.fault.ModuleFault.TheVariants as fault
use Rattle.read_back.specs.SameModule.{IsSameModule}
use Rattle.read_back.specs.ReadBack.{IsPrintable, PrintedModulesReadBack}
use Rattle.module_files.specs.declared.stop.Trouble.TheVariants as trouble

-- a text that is a module has no fault
pub no_fault : ModuleOrFault → (text : List ℕ) (m : Module) (t : Trouble) → IsModule text m → IsFaultOf text t → ⊥
no_fault law text m trouble.CannotRead is h = h
no_fault law text m trouble.TooLong is h = h
no_fault law text m (trouble.NoToken place) is h = let e = law text m (fault.NoToken place) is h in cc
no_fault law text m (trouble.Item why place) is h = let e = law text m (fault.Item why place) is h in cc

-- the module that the text of a printed one is, is the same
pub read_is_same : PrintedModulesReadBack → OneModule → (m read : Module) → IsPrintable m → IsModule (module_text m) read → IsReadBack m read
read_is_same law one m read may is =
    let back = law m may in
    record { is_module = is; same = subst (IsSameModule m) (one (module_text m) back.read read back.is_module is) back.same }

-- ---- writing what is made

module _ (m : Make) (status result : ℕ) (answers : List Judged) (text : List ℕ) (old new : SinkState) where
  pub sent_made : SaysMade m answers text status → IsSent status result text old new → result ≤ 3 → MadeWritten m result answers old new
  sent_made says (inl e) le = record { text = text; says = subst (λ s. SaysMade m answers text s) (sym e.0) says; written = e.1 }
  sent_made says (inr e) le = absurd (omega (arith, e.0, le))

  pub cut_made : SaysMade m answers text status → IsSent status result text old new → status ≤ 3 → result ≡ 7 → MadePartlyWritten m answers old new
  cut_made says (inl e) within seven = absurd (omega (arith, e.0, within, seven))
  cut_made says (inr e) within seven = record { text = text; status = status; says = says; cut_off = e.1 }

  pub made_rose : IsSent status result text old new → status ≤ 3 → result ≡ 7 → Rose old.faults new.faults
  made_rose (inl e) within seven = absurd (omega (arith, e.0, within, seven))
  made_rose (inr e) within seven = e.1.faults

  pub made_known : IsSent status result text old new → status ≤ 3 → (result ≤ 3) ⊎ (result ≡ 7) ⊎ (result ≡ 8)
  made_known (inl e) within = inl (omega (arith, e.0, within))
  made_known (inr e) within = inr (inl e.0)

  pub made_quiet : IsSent status result text old new → result ≤ 3 → new.faults ≡ old.faults
  made_quiet (inl e) le = e.1.faults
  made_quiet (inr e) le = absurd (omega (arith, e.0, le))
