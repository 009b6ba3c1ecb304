-- What proofs of this crate cite of std, of other crates and of its definitions, passed on from one place. Declares nothing.
pub use Rattle.std.proofs.Common.{◌≡◌, ℕ, suc, ◌+◌, ◌-◌, ◌*◌, ◌^◌, ◌<◌, ◌≤◌, arith, refl, List, [], ◌∷◌, ◌++◌, length, length-append, Option, Some, None, Result, Ok, Err, Bool, true, false, true≢false, sym, ap, is_some, if◌then◌else◌, zero, drop, take, get_or, subst, ◌∙◌, cond, ◌||◌, ◌&&◌, add-one}
pub use Rattle.std.proofs.lemmas.Bool.{or_from}
pub use Rattle.std.proofs.lemmas.Option.{same_Some}
pub use Rattle.std.proofs.lemmas.List.{append-nil, append_assoc, drop_all, drop_more, length-map, get_or-map}
pub use Rattle.std.specs.List.{AllByRecursion, AllZip, IsDistinct, list_any, position, position_from}
pub use Rattle.ir_reader.specs.Judgeable.{IsJudgeable, IsJudgeableEntry}
pub use Rattle.ir_tree.specs.Names.{same_name, with_name}
pub use Rattle.ir_tree.specs.declared.module.Entry.{Entry}
pub use Rattle.ir_tree.specs.declared.module.Refused.{Refused}
pub use Rattle.ir_tree.specs.declared.name.Name.{Name}
pub use Rattle.ir_tree.specs.declared.tree.Function.{Function}
pub use Rattle.pair_driver.specs.declared.judged.Judged.{Judged}
pub use Rattle.pair_driver.specs.Draws.{StopsAtFirst}
pub use Rattle.pair_driver.specs.Incorrect.{is_incorrect, refutes}
pub use Rattle.pair_judge.specs.Answers.{CanBeJudged, IsAnswer}
pub use Rattle.points.specs.declared.point.Bounds.{Bounds}
pub use Rattle.points.specs.declared.point.Budget.{Budget}
pub use Rattle.report.specs.Rows.{function_named, IsJudged, IsCompared, IsFinding, IsRow, ends, GoesOn, AreSourceRows, extra_row, extra_rows}
pub use Rattle.report.specs.Status.{is_of_class}
pub use Rattle.report.proofs.Ended.{after_row}
pub use Rattle.report.specs.declared.row.Finding.{Finding}
pub use Rattle.report.specs.declared.row.Row.{Row}
pub use Rattle.verdicts.specs.Pair.{Functions, same_signature}
pub use Rattle.verdicts.specs.declared.verdict.Verdict.{Verdict}
pub use Rattle.module_rows.specs.Judging.{pairs_in, judged_pairs, AreAnswers, AreAnswersUpTo, verdicts_in, verdicts_of, verdicts_answered, HasNext, IsTaken, may_answer, ReportsNext, ReportOwnAnswers}
pub use Rattle.module_rows.specs.Searching.{function_found, entry_names}
