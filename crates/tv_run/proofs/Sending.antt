-- What the delivery of a report says of the check of the command line.
use Rattle.tv_run.proofs.Common.{Vec, ◌≡◌, ◌≤◌, ◌⊎◌, ℕ, arith, List, Option, Some, None, sym, subst, inl, inr, ◌∙◌, Rose, Files, ShelfState, SinkState, AreInRange, Judged, Row, Text, Bounds, Budget, Check, HasReport, HoldsText, IsDelivered, IsProofAsked, IsSent, WhereKnown, FileReportsAreDefined, FileReportsAreSound, HoldsProof, IsUnfinished, PartlyWritten, WritesDefinedReport, Written, FilesRefine, PartlyMeansRefinement, WritesSound, IsNotPut}

-- the text that was put is that of the rows' proof file
proof_held : (asked : Option Text) (bounds : Bounds) (budget : Budget) (rows : List Row) (answers : List Judged) (proof : Option (Vec ℕ)) (after : Option Files) → IsProofAsked asked bounds budget rows answers proof → HoldsText asked proof after → HoldsProof asked bounds budget rows answers after
proof_held None bounds budget rows answers proof after is holds = tt
proof_held (Some name) bounds budget rows answers None after is holds = absurd is
proof_held (Some name) bounds budget rows answers (Some text) after is holds = (text.items, holds, is)

-- a delivery after calls that count no failed put
pub delivered_from : (asked : Option Text) (proof : Option (Vec ℕ)) (text : List ℕ) (status result : ℕ) (old mid new : ShelfState) (out out_new : SinkState) → mid.put_faults ≡ old.put_faults
    → IsDelivered asked proof text status result mid new out out_new → IsDelivered asked proof text status result old new out out_new
delivered_from asked proof text status result old mid new out out_new e (inl d) = inl (record { put = d.put; counted = d.counted ∙ e; sent = d.sent })
delivered_from asked proof text status result old mid new out out_new e (inr d) =
    inr (d.0, record { name = d.1.name; asked_is = d.1.asked_is; counted = subst (λ n. Rose n new.put_faults) e d.1.counted; says = d.1.says })

module _ (known : Option Files) (c : Check) (result status : ℕ) (answers : List Judged) (text : List ℕ) (proof : Option (Vec ℕ)) (shelf shelf_new : ShelfState) (out out_new : SinkState) where
  abbrev Reported : Type 0
  Reported = WhereKnown known (λ files. HasReport files c answers text status proof)

  abbrev Delivered : Type 0
  Delivered = IsDelivered c.proof proof text status result shelf shelf_new out out_new

  pub delivered_whole : Reported → Delivered → result ≤ 3 → WhereKnown known (λ files. Written files c result answers shelf_new.files out out_new)
  delivered_whole reports (inl d) le = go d.sent
    where
      go : IsSent status result text out out_new → WhereKnown known (λ files. Written files c result answers shelf_new.files out out_new)
      go (inl e) = λ files f.
          subst (λ s. Written files c s answers shelf_new.files out out_new) (sym e.0)
          (let r = reports files f in record { text = text; reports = r.reports; put = proof_held c.proof c.bounds c.budget r.reports.report.rows answers proof shelf_new.files r.asked d.put; written = e.1 })
      go (inr e) = absurd (omega (arith, e.0, le))
  delivered_whole reports (inr e) le = absurd (omega (arith, e.0, le))

  pub delivered_part : Reported → Delivered → status ≤ 3 → result ≡ 7
      → WhereKnown known (λ files. PartlyWritten files c answers shelf_new.files out out_new ⊎ IsNotPut c.proof shelf shelf_new out out_new)
  delivered_part reports (inl d) within seven = go d.sent
    where
      go : IsSent status result text out out_new → WhereKnown known (λ files. PartlyWritten files c answers shelf_new.files out out_new ⊎ IsNotPut c.proof shelf shelf_new out out_new)
      go (inl e) = absurd (omega (arith, e.0, within, seven))
      go (inr e) = λ files f. let r = reports files f in inl (record { text = text; status = status; reports = r.reports; put = proof_held c.proof c.bounds c.budget r.reports.report.rows answers proof shelf_new.files r.asked d.put; cut_off = e.1 })
  delivered_part reports (inr e) within seven = λ files f. inr e.1

  pub delivered_unfinished : Reported → Delivered → status ≤ 3 → result ≡ 7 → WhereKnown known (λ files. IsUnfinished files c answers shelf shelf_new out out_new)
  delivered_unfinished reports d within seven = λ files f.
      record { judged = (text, status, (reports files f).reports); stopped = delivered_part reports d within seven files f }

  -- what it says is sound

  part_sound : FileReportsAreSound → (files : Files) → PartlyWritten files c answers shelf_new.files out out_new ⊎ IsNotPut c.proof shelf shelf_new out out_new
      → PartlyMeansRefinement files c out out_new ⊎ IsNotPut c.proof shelf shelf_new out out_new
  part_sound sound files (inl p) = inl (record { text = p.text; status = p.status; says = sound files c answers p.text p.status p.reports; cut_off = p.cut_off })
  part_sound sound files (inr unput) = inr unput

  pub delivered_sound : FileReportsAreSound → Reported → Delivered → status ≤ 3 → WhereKnown known (λ files. WritesSound files c result shelf shelf_new out out_new)
  delivered_sound sound reports d within = λ files f.
      record {
        whole = λ le. let w = delivered_whole reports d le files f in record { text = w.text; says = sound files c answers w.text result w.reports; written = w.written };
        part = λ seven. part_sound sound files (delivered_part reports d within seven files f);
      }

  pub delivered_zero : FileReportsAreSound → Reported → Delivered → result ≡ 0 → WhereKnown known (λ files. FilesRefine files c)
  delivered_zero sound reports d none = λ files f.
      let w = delivered_whole reports d (omega (arith, none)) files f in
      let says = sound files c answers w.text result w.reports in
      record { source = says.source; target = says.target; source_is = says.source_is; target_is = says.target_is; holds = says.sound.throughout (sym says.status_is ∙ none) }

  -- and without a limit on conflicts it is the defined report

  pub delivered_defined : FileReportsAreDefined → AreInRange c.bounds c.budget → Reported → Delivered → result ≤ 3 → WhereKnown known (λ files. c.budget.conflicts ≡ 0 → WritesDefinedReport files c result out out_new)
  delivered_defined defined ranges reports d le = λ files f none.
      let w = delivered_whole reports d le files f in
      record { text = w.text; report = defined files c answers w.text result ranges none w.reports; written = w.written }
