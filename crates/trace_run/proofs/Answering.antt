-- What is written of a request.
use Rattle.std.proofs.Common.{◌≡◌, ◌≤◌, ◌⊎◌, ℕ, arith, List, Option, Some, None, sym, subst, inl, inr, ◌∙◌}
use Rattle.tv_io.specs.Count.{Rose}
use Rattle.tv_io.specs.Files.{Files}
use Rattle.tv_io.specs.State.{SinkState}
use Rattle.module_files.specs.declared.both.Modules.{Modules}
use Rattle.module_files.specs.Files.{HasModule, WhereKnown}
use Rattle.trace_cli.specs.Words.{Request}
use Rattle.trace_run.specs.declared.explaining.Explanation.{Explanation}
use Rattle.trace_run.specs.Halts.{report_in}
use Rattle.trace_run.specs.Requests.{Explains, ExplainsIn, IsFound, IsFoundIn, IsSent, WhereAsked, WritesExplanation, WritesPart}

request_is : (a b : Request) → Some a ≡ Some b → a ≡ b
request_is a b e = cc e

-- a fact of the request that was read is one of the request that the command line is
pub where_asked : (known : Option Files) (asked : Option Request) (r : Request) (P : Files → Request → Type 0) → Some r ≡ asked → WhereKnown known (λ files. P files r) → WhereAsked known asked P
where_asked known asked r P read holds files s is_known is = subst (P files) (request_is r s (read ∙ is)) (holds files is_known)

-- what is found in the modules of two files, with the report that is named, is found of the files
pub found_of : (files : Files) (r : Request) (report : Option (List ℕ)) (both : Modules) (found : Option Explanation) → HasModule (files r.source) both.source → HasModule (files r.target) both.target
    → report ≡ report_in files r.report → IsFoundIn r report both found → IsFound files r found
found_of files r report both None source target named is = record { both = both; source_is = source; target_is = target; none = is }
found_of files r report both (Some e) source target named is = record {
  both = both;
  source_is = source;
  target_is = target;
  explains = subst (λ (x : Option (List ℕ)). ExplainsIn r x both e.text.items e.status) named is;
}

-- ---- a text that was sent

module _ (status result : ℕ) (text : List ℕ) (old new : SinkState) (known : status ≤ 3) where
  pub sent_whole : (files : Files) (r : Request) → Explains files r text status → IsSent status result text old new → result ≤ 3 → WritesExplanation files r result old new
  sent_whole files r explains (inl e) le = record { text = text; explains = subst (λ s. Explains files r text s) (sym e.0) explains; written = e.1 }
  sent_whole files r explains (inr e) le = absurd (omega (arith, e.0, le))

  pub sent_part : (files : Files) (r : Request) → Explains files r text status → IsSent status result text old new → result ≡ 7 → WritesPart files r old new
  sent_part files r explains (inl e) seven = absurd (omega (arith, e.0, known, seven))
  sent_part files r explains (inr e) seven = record { text = text; status = status; explains = explains; cut_off = e.1 }

  pub sent_rose : IsSent status result text old new → result ≡ 7 → Rose old.faults new.faults
  sent_rose (inl e) seven = absurd (omega (arith, e.0, known, seven))
  sent_rose (inr e) seven = e.1.faults

  pub sent_status : IsSent status result text old new → (result ≤ 3) ⊎ (result ≡ 7)
  sent_status (inl e) = inl (omega (arith, e.0, known))
  sent_status (inr e) = inr e.0

  pub sent_quiet : IsSent status result text old new → result ≤ 3 → new.faults ≡ old.faults
  sent_quiet (inl e) le = e.1.faults
  sent_quiet (inr e) le = absurd (omega (arith, e.0, le))
