-- What the check of a proof file writes, and that a proof file is checked.
use Rattle.tv_run.proofs.Common.{Vec, ◌≡◌, ◌≤◌, ◌⊎◌, ℕ, arith, List, length, Option, Some, refl, sym, ap, subst, ◌∙◌, inl, inr, Rose, Files, ShelfState, SinkState, Proof, IsProof, Text, log, IsKnownProof, IsLogStop, IsNoProof, IsSent, LoadsProof, HasProof, WhereKnown, HasLogTrouble, log_trouble_status}
use Rattle.tv_run.specs.declared.stop.LogTrouble.{LogTrouble}
use Rattle.tv_run.specs.declared.stop.LogTrouble.TheVariants as log_trouble
use Rattle.tv_run.specs.declared.stop.LogStop.{LogStop}
use Rattle.tv_run.specs.declared.stop.LogStop.TheVariants as log_stop
use Rattle.tv_run.specs.Logs.{LogPartlyWritten, LogWritten, SaysVerified}
use Rattle.tv_run.proofs.Files.{same_text}
use Rattle.tv_run.proofs.OneJob.{log_is}

-- ---- reading it

pub no_proof : (old new : ShelfState) (name : Text) (loaded : Vec ℕ) (text : List ℕ) (why : LogStop) → LoadsProof old name loaded → text ≡ loaded.items → IsNoProof text why → IsLogStop old new name why
no_proof old new name loaded text log_stop.NoMemory loads is wrong = tt
no_proof old new name loaded text (log_stop.Trouble log_trouble.CannotRead) loads is wrong = absurd wrong
no_proof old new name loaded text (log_stop.Trouble log_trouble.TooLong) loads is wrong = absurd wrong
no_proof old new name loaded text (log_stop.Trouble (log_trouble.Line line)) loads is wrong = λ files known.
    let at = loads files known in
    record { text = loaded.items; there = at.0; holds = (at.1, subst (λ (t : List ℕ). IsNoProof t (log_stop.Trouble (log_trouble.Line line))) is wrong) }

-- ---- writing what is found

module _ (known : Option Files) (name : Text) (status result : ℕ) (text : List ℕ) (old new : SinkState) where
  abbrev Said : Type 0
  Said = WhereKnown known (λ files. SaysVerified files name text status)

  pub sent_lines : Said → IsSent status result text old new → status ≤ 1 → result ≤ 3 → WhereKnown known (λ files. LogWritten files name result old new)
  sent_lines says (inl e) within le = λ files f. record { text = text; says = subst (λ s. SaysVerified files name text s) (sym e.0) (says files f); written = e.1 }
  sent_lines says (inr e) within le = absurd (omega (arith, e.0, le))

  pub cut_lines : Said → IsSent status result text old new → status ≤ 1 → result ≡ 7 → WhereKnown known (λ files. LogPartlyWritten files name old new)
  cut_lines says (inl e) within seven = absurd (omega (arith, e.0, within, seven))
  cut_lines says (inr e) within seven = λ files f. record { text = text; status = status; says = says files f; cut_off = e.1 }

  pub sent_rose : IsSent status result text old new → status ≤ 1 → result ≡ 7 → Rose old.faults new.faults
  sent_rose (inl e) within seven = absurd (omega (arith, e.0, within, seven))
  sent_rose (inr e) within seven = e.1.faults

  pub sent_known : IsSent status result text old new → status ≤ 1 → (result ≤ 1) ⊎ (result ≡ 7)
  sent_known (inl e) within = inl (omega (arith, e.0, within))
  sent_known (inr e) within = inr e.0

  pub sent_quiet : IsSent status result text old new → result ≤ 3 → new.faults ≡ old.faults
  sent_quiet (inl e) le = e.1.faults
  sent_quiet (inr e) le = absurd (omega (arith, e.0, le))

-- ---- a proof file is checked

stops_at : (files : Files) (name : Text) (proof : Proof) (old new : ShelfState) (t : LogTrouble) → old.files ≡ Some files → HasProof (files name) proof → HasLogTrouble old new name t → log_trouble_status t ≡ 5
stops_at files name proof old new log_trouble.CannotRead known has cause = refl
stops_at files name proof old new log_trouble.TooLong known has cause =
    let long = cause.1 files known in
    let e : long.text ≡ has.text = same_text (files name) long.text has.text long.there has.there in
    absurd (omega (arith, long.holds, has.holds.0, ap (λ (t : List ℕ). length t) e))
stops_at files name proof old new (log_trouble.Line line) known has cause =
    let wrong = cause files known in
    let e : has.text ≡ wrong.text = same_text (files name) has.text wrong.text has.there wrong.there in
    absurd (wrong.holds.1.1 proof (subst (λ (t : List ℕ). IsProof t proof) e has.holds.1))

pub complete_log : (name : Text) (old new : ShelfState) (t : LogTrouble) (result : ℕ) → HasLogTrouble old new name t → result ≡ log_trouble_status t → IsKnownProof old.files (Some (log name)) → (result ≤ 1) ⊎ (result ≡ 5) ⊎ (result ≡ 7) ⊎ (result ≡ 8)
complete_log name old new t result cause status are =
    inr (inl (status ∙ stops_at are.files are.name are.proof old new t are.files_are are.proof_is (subst (λ (n : Text). HasLogTrouble old new n t) (log_is name are.name are.job_is) cause)))
