-- The modules and the faults of files, and which files change.
use Rattle.tv_run.proofs.Common.{◌≡◌, ◌⊎◌, ℕ, List, Option, Some, None, refl, sym, subst, ◌∙◌, Files, SameElsewhere, SameFiles, Job, Text, check, log, make, FileChanges, ProofChanges, Module, ModuleFault, OneModule, ModuleOrFault, OneFault, IsModule, IsFault, HasModule, HasFault}
use Rattle.ir_reader.specs.declared.fault.ModuleFault.TheVariants.{NoMemory}

some_text : (a b : List ℕ) → Some a ≡ Some b → a ≡ b
some_text a b e = cc e

pub same_text : (file : Option (List ℕ)) (a b : List ℕ) → file ≡ Some a → file ≡ Some b → a ≡ b
same_text file a b p q = some_text a b (sym p ∙ q)

-- the reader's laws of texts, of files
pub module_one : OneModule → (file : Option (List ℕ)) (m n : Module) → HasModule file m → HasModule file n → m ≡ n
module_one one file m n x y = one y.text m n (subst (λ (t : List ℕ). IsModule t m) (same_text file x.text y.text x.there y.there) x.holds.1) y.holds.1

pub module_or_fault : ModuleOrFault → (file : Option (List ℕ)) (m : Module) (f : ModuleFault) → HasModule file m → HasFault file f → f ≡ NoMemory
module_or_fault apart file m f x y = apart y.text m f (subst (λ (t : List ℕ). IsModule t m) (same_text file x.text y.text x.there y.there) x.holds.1) y.holds.1

pub fault_one : OneFault → (file : Option (List ℕ)) (f g : ModuleFault) → HasFault file f → HasFault file g → (f ≡ g) ⊎ (f ≡ NoMemory) ⊎ (g ≡ NoMemory)
fault_one one file f g x y = one y.text f g (subst (λ (t : List ℕ). IsFault t f) (same_text file x.text y.text x.there y.there) x.holds.1) y.holds.1

-- ---- which files change

same_elsewhere : (name : List ℕ) (o : Option Files) → SameElsewhere name o o
same_elsewhere name None = tt
same_elsewhere name (Some files) = λ other apart. refl

same_files : (o : Option Files) → SameFiles o o
same_files None = tt
same_files (Some files) = λ name. refl

pub unchanged : (old new : Option Files) → new ≡ old → SameFiles old new
unchanged old new e = subst (λ (o : Option Files). SameFiles old o) (sym e) (same_files old)

-- a proof file that is asked for is not put
pub unput : (asked : Option Text) (old new : Option Files) → new ≡ old → ProofChanges asked old new
unput None old new e = e
unput (Some name) old new e = subst (λ (o : Option Files). SameElsewhere name old o) (sym e) (same_elsewhere name old)

pub job_unchanged : (command : Option Job) (o : Option Files) → FileChanges command o o
job_unchanged None o = refl
job_unchanged (Some (log name)) o = refl
job_unchanged (Some (make m)) o = refl
job_unchanged (Some (check c)) o = unput c.proof o o refl
