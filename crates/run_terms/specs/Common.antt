-- The definitions that contracts and proofs of this crate and of `encoder` cite most, passed on from one place. Declares nothing.
pub use Rattle.byte_block.specs.declared.value.Value.{Value}
pub use Rattle.points.specs.declared.machine.Machine.{Machine}
pub use Rattle.points.specs.Run.{Run, ended, operand_value, typed_operand_value}
pub use Rattle.unroll.specs.Layers.{Where, At, Done, along}
pub use Rattle.bv_terms.specs.declared.term.TermId.{TermId}
pub use Rattle.bv_terms.specs.declared.term.Term.{Term}
pub use Rattle.bv_terms.specs.Trees.{Keeps, IsTerm, Makes, Tests, bit_at, term_at}
pub use Rattle.mem_terms.specs.declared.values.SymValue.{SymValue}
pub use Rattle.mem_terms.specs.declared.blocks.SymBlock.{SymBlock}
pub use Rattle.mem_terms.specs.Values.{Each, AreSymValues, IsNaming, IsSymValue, Reading, as_integer, first_local, number_at, value_at, values_at}
pub use Rattle.mem_terms.specs.Memory.{AreGivenBlocks, AreSymBlocks, frame_of, memory_at}
pub use Rattle.mem_terms.specs.Inputs.{AreWords, words_at}
pub use Rattle.run_terms.specs.declared.paths.Test.{Test}
pub use Rattle.run_terms.specs.declared.state.Tally.{Tally}
pub use Rattle.run_terms.specs.declared.state.RunMemory.{RunMemory}
pub use Rattle.run_terms.specs.declared.state.RunState.{RunState}
pub use Rattle.run_terms.specs.declared.ending.Ending.{Ending}
pub use Rattle.run_terms.specs.declared.frontier.Frontier.{Frontier}
pub use Rattle.run_terms.specs.declared.frontier.Leaving.{Leaving}
pub use Rattle.run_terms.specs.declared.setting.Setting.{Setting}
pub use Rattle.run_terms.specs.Runs.{AreNumberedFrom, AreTests, Always, Counts, HoldAll, IsRunMemory, IsState, IsTally, LeadsBy, MatchesCourse, MatchesState, Scene, Sees, Separates, StateShape, Steps, Visit, frames_in, shape_of, sight, stepped, visit_of}
pub use Rattle.run_terms.specs.Frontier.{AreByLabel, AreStates, EndedSo, Ends, Everywhere, HasShape, HaveShape, IsCopyIn, IsEnding, IsFrontier, IsLeaving, IsUnreached, Leaves, MatchesAhead, MatchesEnding, MatchesEntry, MatchesFrontier, NotEnded, Simulates, branched, ending_at, ending_shape, placed, shape_in, switched_on}
