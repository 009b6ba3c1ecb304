-- What proofs of this crate cite of std, of other crates and of its definitions, passed on from one place. Declares nothing.
pub use Rattle.std.proofs.Common.{ℕ, zero, suc, ◌≡◌, ◌<◌, ◌≤◌, ◌+◌, Bool, true, false, not, ◌&&◌, ◌||◌, if◌then◌else◌, List, [], ◌∷◌, ◌++◌, length, drop, replicate, get_or, nat_eq, nat_lt, Option, Some, None, IfSome, inl, inr, refl, ap, sym, subst, ◌∙◌, arith, rules, ◌-◌, take, map}
pub use Rattle.std.proofs.lemmas.Bool.{or_right}
pub use Rattle.std.proofs.lemmas.List.{drop_more, drop_all, length-set, length-replicate}
pub use Rattle.std.proofs.lemmas.Option.{slice_get_read, slice_get_within}
pub use Rattle.bv_terms.specs.Trees.{Keeps, Tests, IsTerm, bit_at, term_at}
pub use Rattle.ir_tree.specs.Flow.{targets}
pub use Rattle.mem_terms.proofs.Eaches.{each-at, map-at, map-length, each-weaker, at-any, each-set}
pub use Rattle.mem_terms.proofs.Later.{keeps_trans, bit-later, term-later, words-later, keeps_self, is_term-later, args-later, args_at-later, sym_values-later, sizes-later, block_terms_each-later, given_blocks_at-later, given_blocks-later}
pub use Rattle.mem_terms.specs.Inputs.{AreWords, args_at, input_at, words_at, IsBlockTerms, IsByteTerms, AreArgs}
pub use Rattle.mem_terms.specs.Memory.{frames_of, frame_of}
pub use Rattle.mem_terms.specs.Values.{Each, IsNaming, Reading, reading, AreSymValues, values_at, IsSymValue}
pub use Rattle.points.specs.Run.{Run, breaks_noundef, ended, first_machine, run_of, Exit, with_args}
unfoldable pub use Rattle.points.specs.Run.{exit_insts}
pub use Rattle.points.specs.declared.machine.Machine.{Machine}
pub use Rattle.run_terms.proofs.Arguments.{each-replicate, non_null_stands, first_matches, only_frames, only_given, poison_made, poison_stands, front_is, args_front, broken_more, given_more}
pub use Rattle.run_terms.proofs.Lasting.{sees-later, matches_state-later, ending_at-later, ending-later, frontier-later, state-later, tally-later, tested, run_memory-later, some-later}
pub use Rattle.run_terms.proofs.Moving.{ended_frontier, ended_shape, ends_simulates}
pub use Rattle.run_terms.proofs.Through.{placed_end, walk_over, walk_more, walk_end, taken_frontier, taken_shape, entry_state, entry_shape, pass_unknown, pass_known, simulates_copy, fits_at, labels_at, numbers_at, objects_at, copies_in}
pub use Rattle.run_terms.specs.Frontier.{IsEnding, EndedSo, AreStates, HaveShape, IsUnreached, MatchesFrontier, Simulates, first_place, placed, IsFrontier, HasShape, IsCopyIn, shape_in, EndingShape}
pub use Rattle.run_terms.specs.Runs.{Scene, Sees, IsState, MatchesState, StateShape, fits_from, shape_of, sight, zeros_past}
pub use Rattle.run_terms.specs.declared.state.RunState.{RunState}
pub use Rattle.unroll.specs.Layers.{Where, At, Done, along, copies_of, run_at_end, run_layers, pass_copy, left_by}
unfoldable pub use Rattle.unroll.specs.Layers.{walk}
