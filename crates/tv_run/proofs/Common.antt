-- What proofs of this crate cite of std, of other crates and of its definitions, passed on from one place. Declares nothing.
pub use Rattle.std.proofs.Common.{◌≡◌, ◌≤◌, ◌⊎◌, ◌+◌, ◌||◌, ℕ, zero, suc, arith, Bool, true, false, true≢false, cond, List, [], ◌∷◌, Option, Some, None, Result, Ok, Err, refl, sym, ap, subst, ◌∙◌, inl, inr, is_some, if◌then◌else◌, ◌++◌, ◌&&◌, ◌-◌, eqb, ltb, All, length, drop, take, slice_get, ◌≢◌, ◌<◌, ◌/◌, ◌%◌, not, codes, map, append_assoc, append-nil, nat_eq, nat_lt, ◌==◌, Contains, ap₂, ⊎_elim, ◌^◌, ◌*◌, get_or, eq-eqb, is_none, option_map, vec_len, rules}
pub use Rattle.std.proofs.lemmas.Bool.{ltb-false, cases_Bool, eqb-false, and_parts}
pub use Rattle.std.proofs.lemmas.Bool.Decides.{nat_tests}
pub use Rattle.std.proofs.lemmas.Grind.{flat_map-append, common_steps}
pub use Rattle.std.proofs.lemmas.List.Elements.{All-contains_itself, All-weaker, Contains-append_cases, Contains-append_left, Contains-append_right, All-cons, All-nil, All-contains, All-head, All-tail, All-append, filter-append}
pub use Rattle.std.specs.Fmt.{decimal, digit_glyph, digits_onto}
unfoldable pub use Rattle.std.specs.Fmt.{digits}
pub use Rattle.std.specs.Global.{Vec}
pub use Rattle.std.specs.List.{IsDistinct, AllByRecursion, list_all, flat_map, list_any, cons_option, filter_map, AllZip}
pub use Rattle.std.specs.Prelude.{count_by, OnErr, filter, OnOk}
pub use Rattle.ir_naming.specs.Naming.{escaped, hex_byte, hex_digit, is_bare, is_digit, is_name_byte, is_plain, name_text, quoted}
pub use Rattle.ir_printer.specs.ModuleText.{module_text}
pub use Rattle.ir_reader.specs.Laws.{ModuleOrFault, OneModule, OneFault}
pub use Rattle.ir_reader.specs.Module.{IsModule, AreEntries, IsFault}
pub use Rattle.ir_reader.specs.declared.fault.ModuleFault.{ModuleFault}
pub use Rattle.ir_tree.specs.declared.module.Entry.{Entry}
pub use Rattle.ir_tree.specs.declared.module.Module.{Module}
pub use Rattle.ir_tree.specs.declared.module.Reason.{Reason}
pub use Rattle.ir_tree.specs.declared.module.Refused.{Refused}
pub use Rattle.ir_tree.specs.declared.name.Name.{Name}
pub use Rattle.ir_tree.specs.declared.name.Name.TheVariants.{Number, Word}
pub use Rattle.ir_tree.specs.declared.tree.Function.{Function}
pub use Rattle.module_rows.proofs.Answered.{all_are_first, verdicts_with_extra}
pub use Rattle.module_rows.proofs.OwnAnswers.{rows_have_answers}
pub use Rattle.module_rows.specs.Judging.{may_answer, judged_pairs, AreAnswers, ReportOwnAnswers, verdicts_answered, verdicts_in, verdicts_of}
pub use Rattle.module_rows.specs.Searching.{entry_names}
pub use Rattle.pair_driver.specs.declared.judged.Judged.{Judged}
pub use Rattle.points.specs.Range.{AreInRange}
pub use Rattle.points.specs.declared.point.Bounds.{Bounds}
pub use Rattle.points.specs.declared.point.Budget.{Budget}
pub use Rattle.points.specs.declared.point.Point.{Point}
pub use Rattle.proof_files.specs.Parts.{IsReadName, IsCertified, certified, decided, left_after, parts_of, row_parts}
pub use Rattle.proof_text.proofs.Splits.{first_or_later, parted}
pub use Rattle.proof_text.proofs.Top.{Free, same_lines, AreFree}
pub use Rattle.proof_text.specs.Format.{IsPrintedNumber, IsProof, ended, part_of, proof_with}
pub use Rattle.proof_text.specs.declared.part.Part.{Part}
pub use Rattle.proof_text.specs.declared.part.Proof.{Proof}
pub use Rattle.report.specs.Rows.{function_named, IsJudged, IsCompared, IsFinding, IsRow, ends, GoesOn, AreSourceRows, AreRows, extra_row, extra_rows, RowsAreOne, first_rows, FirstRowsAreTheFirst}
pub use Rattle.report.proofs.Ended.{after_row, goes_weaker, rows_whole, whole_is}
pub use Rattle.report.specs.Status.{has_some, is_of_class, status_of, count}
pub use Rattle.report.specs.Text.{bounds_text, budget_text, cause_text, counted, finding_text, first_line, first_word, judged_counts, last_line, newline, other_counts, reason_text, refused_text, report_text, row_text, shown_lines, side_text, address_text, arg_lines, bits_text, block_line, block_lines, byte_text, bytes_line, choice_lines, contents_line, numbered_line, outcome_lines, point_lines, pointer_text, returned_text, sentence, spaced_byte, value_text, summary_text}
pub use Rattle.report.specs.declared.row.Finding.{Finding}
pub use Rattle.report.specs.declared.row.Row.{Row}
pub use Rattle.report.specs.declared.row.Side.{Side}
pub use Rattle.tv_cli.specs.Seen.{seen_check, seen, seen_make}
pub use Rattle.tv_cli.specs.Words.{Make, Check, Job, Text}
pub use Rattle.tv_cli.specs.Words.Job.{check, log, make}
pub use Rattle.tv_io.proofs.TakenLemmas.{IsCutOff-second_write, IsWritten-append, IsCutOff-first, IsCutOff-second}
pub use Rattle.tv_io.specs.Count.{Rose}
pub use Rattle.tv_io.specs.Files.{Files, SameElsewhere, SameFiles}
pub use Rattle.tv_io.specs.MemoryShelf.{fails_absent, files_of, memory_state}
pub use Rattle.tv_io.specs.State.{SinkState, ShelfState}
pub use Rattle.tv_io.specs.Taken.{IsWritten, IsCutOff, then_taken}
pub use Rattle.tv_io.specs.declared.sink.Failed.{Failed}
pub use Rattle.verdicts.specs.Pair.{Functions, same_signature}
pub use Rattle.verdicts.specs.declared.verdict.Cause.{Cause}
pub use Rattle.verdicts.specs.declared.verdict.Cause.TheVariants.{Weight, Rounds, Conflicts}
pub use Rattle.verdicts.specs.declared.verdict.Shown.{Shown}
pub use Rattle.verdicts.specs.declared.verdict.Verdict.{Verdict}
pub use Rattle.tv_run.specs.Answers.{IsFaultOf, IsSent, IsKnownProof, IsLogStop, IsNoProof, LoadsProof, AreModules, FitsIn, HasReport, HoldsText, IsDelivered, IsProofAsked, IsReportOf, IsReportOn, CountsStop, IsParsed}
pub use Rattle.tv_run.specs.Files.{HasModule, HasFault, WhereKnown, HasProof, IsLonger}
pub use Rattle.tv_run.specs.Jobs.{WhereChecked, FileChanges, ProofChanges, job_in}
pub use Rattle.tv_run.specs.Laws.{FileReportsAreSound, ReportsAreSound, FaultsAreOne, ModulesHaveNoFault, FileReportsAreDefined, FirstReportsHaveTheFirstRows, PutProofsAreVerified, ReportsAreDefined, ReportsAreOne}
pub use Rattle.tv_run.specs.Makes.{IsReadBack, MadePartlyWritten, MadeWritten, SaysMade, make_line}
pub use Rattle.tv_run.specs.OneReading.{IsReadRow, HasPosition, IsSameFinding, SaysTheSame, TextsHaveOneListOfRows}
pub use Rattle.tv_run.specs.Reports.{head_of, part_heading, row_heading, IsTheDefinedReport, IsUnfinished, PartlyWritten, WritesDefinedReport, HoldsProof, Written, IsDefinedReport, IsReport, Reports}
pub use Rattle.tv_run.specs.Sound.{HasFunction, HoldsThroughout, IsPairNamed, IsRefined, HasVerdict, IsSound, MeansRefinement, SaysRefinement, FilesRefine, PartlyMeansRefinement, WritesSound}
pub use Rattle.tv_run.specs.Stops.{HasTrouble, IsBeforeTarget, trouble_status, HasLogTrouble, log_trouble_status, HasCause, IsNotPut, Refuses, RefusesJob, stop_status, WritesLine}
pub use Rattle.module_files.specs.declared.stop.Stop.{Stop}
pub use Rattle.module_files.specs.declared.stop.Trouble.{Trouble}
