-- What proofs of this crate cite of std, of other crates and of its definitions, passed on from one place. Declares nothing.
pub use Rattle.std.proofs.Common.{ℕ, zero, suc, ◌≡◌, ◌<◌, ◌≤◌, ◌+◌, ◌⊎◌, inl, inr, min, List, [], ◌∷◌, ◌++◌, length, map, drop, take, get_or, Bool, true, false, ◌||◌, Some, slice_get, refl, sym, ap, ◌∙◌, subst, arith, add-one, zero-add, append-nil, append_assoc}
pub use Rattle.std.proofs.Math.ListN.{set, length-set}
pub use Rattle.std.proofs.lemmas.List.{drop_more, drop_all, take_more, take_all}
pub use Rattle.std.proofs.lemmas.Bool.{cases_lt}
pub use Rattle.std.specs.List.{flat_map}
pub use Rattle.std.specs.Prelude.{slice_index}
pub use Rattle.byte_block.specs.declared.block.MemoryBlock.{MemoryBlock}
pub use Rattle.byte_block.specs.declared.value.Value.{Value}
pub use Rattle.ir_tree.specs.declared.tree.IrType.{IrType}
pub use Rattle.ir_tree.specs.declared.tree.Parameter.{Parameter}
pub use Rattle.points.specs.Refines.{is_refined}
pub use Rattle.points.specs.Run.{run_of, Run}
pub use Rattle.points.specs.Tapes.{need_of}
pub use Rattle.points.specs.declared.outcome.Outcome.{Outcome}
pub use Rattle.points.specs.declared.point.Bounds.{Bounds}
pub use Rattle.points.specs.declared.point.Point.{Point}
pub use Rattle.verdicts.specs.Covers.{candidates, integer, templates, tried, words_of}
unfoldable pub use Rattle.verdicts.specs.Covers.{covers, some_covers, integers}
pub use Rattle.verdicts.specs.Pair.{RunPair}
pub use Rattle.candidate_runs.specs.Candidates.{AreTemplates, DoesEnd, NoneCovers, CoversAt, counted, function_of, tape_of, tapes_of}
unfoldable pub use Rattle.candidate_runs.specs.Candidates.{integer_count}
pub use Rattle.candidate_runs.specs.declared.candidate.Candidate.{Candidate}
pub use Rattle.candidate_runs.specs.declared.candidate.Candidate.TheVariants.{Later, Earlier, Plus, Minus, Xor}
pub use Rattle.candidate_runs.specs.declared.candidate.TheConstants.{SHIFTS}
