-- What proofs of this crate cite of std, of other crates and of its definitions, passed on from one place. Declares nothing.
pub use Rattle.std.proofs.Common.{ℕ, zero, suc, ◌<◌, List, [], ◌∷◌, length, get_or, arith, ◌≡◌, inl, inr, true, false, sym, ◌+◌, ◌≤◌, ◌++◌, length-append, append-nil, Option, Some, None, slice_get, refl, ap, ◌∙◌, subst, drop, take, add-one, zero-add, Bool, ◌||◌, ◌^◌, replicate, ◌-◌, ◌*◌, map, append_assoc}
pub use Rattle.std.proofs.Math.ListN.{set, length-set}
pub use Rattle.std.proofs.lemmas.Bool.{cases_eq, cases_Bool}
pub use Rattle.std.proofs.lemmas.List.{drop_more, length-replicate}
pub use Rattle.std.specs.List.{filter, flat_map}
pub use Rattle.std.specs.Prelude.{All, IsTrue, MatchOption, slice_index, not, ◌↔◌}
pub use Rattle.byte_block.specs.declared.block.MemoryBlock.{MemoryBlock}
pub use Rattle.ir_tree.specs.Pointers.{IsInteger, AreIntegers}
pub use Rattle.ir_tree.specs.declared.tree.Parameter.{Parameter}
pub use Rattle.pair_costs.specs.Small.{AreSmall}
pub use Rattle.points.proofs.Args.{IsArgsCode, args_digits, digits_of, Digits-append, any_blocks, any_code}
pub use Rattle.points.proofs.Order.{number_of-append, length_of_Digits, number_of-same, number_of-below, Digits, IsNextIn, IsLastIn, HaveDigits, next_in_back, next_in_front, last_in_both, at_most_by_back}
pub use Rattle.points.proofs.Same.{blocks_digits, Fits, code_length, code_digits, same_point}
pub use Rattle.points.proofs.Widest.{widest_small, widen}
pub use Rattle.points.proofs.Words.{WordsFit-length, WordsFit-digits, number_of-zeros}
pub use Rattle.points.specs.Code.{args_code, blocks_code, BlocksFit, WordsFit, no_blocks, ValueFits, ArgsFit, BytesFit, value_code, byte_code, places_code, code_of, IsOfShape}
unfoldable pub use Rattle.points.specs.Code.{number_of}
pub use Rattle.points.specs.Next.{IsNextWords, IsLastWords, IsNextArgs, IsLastArgs, least_value, IsNextPoint, IsLastPoint, place_in_shape}
pub use Rattle.points.specs.Refines.{is_refined}
pub use Rattle.points.specs.Run.{run_of, IsPlain, Run, is_given}
pub use Rattle.points.specs.Tapes.{need_of, widest_choice, plain_form}
pub use Rattle.points.specs.declared.outcome.Outcome.{Outcome}
pub use Rattle.points.specs.declared.point.Bounds.{Bounds}
pub use Rattle.points.specs.declared.point.Point.{Point}
pub use Rattle.candidate_runs.proofs.Tried.{some_append, tried_split}
pub use Rattle.candidate_runs.specs.Candidates.{AreTemplates, NoneCovers, CoversAt, integer_count, tapes_of, tape_of}
pub use Rattle.candidate_runs.specs.declared.candidate.TheConstants.{SHIFTS}
pub use Rattle.candidate_runs.specs.declared.candidate.Candidate.{Candidate}
pub use Rattle.verdicts.proofs.Meaning.{cons_after, plain_covers}
pub use Rattle.verdicts.specs.Covers.{is_covered, IsLeastCover, HasNoCover, tried}
unfoldable pub use Rattle.verdicts.specs.Covers.{covers, some_covers}
pub use Rattle.verdicts.specs.Pair.{RunPair, Functions, layout_of}
pub use Rattle.verdicts.specs.Trail.{place_in, TrailFrom, IsLeastUncovered, AreAllCovered, Ends, IsVerdict, IsPoint}
pub use Rattle.slow_judge.specs.Search.{IsNextAmong, IsLastAmong, IsUncovered, IsLeastAmong, AreCoveredAmong, HasTrail, HaveNoPointers, empty_blocks, IsCell, empty_block, least_args, IsNextCell, IsLastCell, IsShapeOf, IsReady}
unfoldable pub use Rattle.slow_judge.specs.Search.{first_empty}
