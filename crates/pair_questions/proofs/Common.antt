-- What proofs of this crate cite of std, of other crates and of its definitions, passed on from one place. Declares nothing.
pub use Rattle.std.proofs.Common.{ℕ, zero, suc, ◌≡◌, ◌<◌, ◌≤◌, inl, inr, Bool, true, false, not, ◌&&◌, List, [], ◌∷◌, ◌++◌, length, map, drop, get_or, All, Contains, refl, ap, sym, subst, ◌∙◌, arith, ◌+◌, ◌⊎◌, Some, slice_get, length-append, ◌↔◌, ◌||◌, append_assoc, ◌^◌, replicate, take, append-nil, ◌%◌, Option, cond}
pub use Rattle.std.proofs.lemmas.Bool.{cases_eq, eqb-true, cases_Bool, eq-eqb, ne_eqb, false≢true, or_from, and_from, not-true, not_from_false}
pub use Rattle.std.proofs.lemmas.List.{drop_all, get_or-map, get_or_push, get_or_append_left, take_more, map-append, length-drop, length-take-le, take_all}
pub use Rattle.std.proofs.lemmas.List.Elements.{All-contains, Contains-append_left, Contains-get_or, Contains-push, Contains-push_cases}
pub use Rattle.std.proofs.lemmas.Option.{get_or_from_slice_get, slice_get_within}
pub use Rattle.std.specs.List.{flat_map}
pub use Rattle.std.specs.Prelude.{slice_index, None, IfSome, nat_eq, if◌then◌else◌}
pub use Rattle.answer_order.proofs.Binary.{fits-numbers}
pub use Rattle.answer_order.specs.Fronts.{AreWidths, Fits, IsLeast, NonePass, numbers_of, total}
pub use Rattle.bv_terms.specs.Tree.{Tree, width_of, truth}
pub use Rattle.bv_terms.specs.Trees.{IsTerm, Keeps, Tests, bit_at, AreFit, IsFit, tree_at, tree_of, trees_from, tree_in, variable_in, Extends, Makes, term_at, AreInRange, Gains}
unfoldable pub use Rattle.bv_terms.specs.Trees.{trees_of, variables_among}
pub use Rattle.bv_terms.specs.declared.term.Term.{Term}
pub use Rattle.bv_terms.specs.declared.term.TermId.{TermId}
pub use Rattle.bv_terms.specs.declared.variable.Variable.{Variable}
pub use Rattle.byte_block.specs.declared.block.MemoryBlock.{MemoryBlock}
pub use Rattle.byte_block.specs.declared.value.BlockName.{BlockName}
pub use Rattle.byte_block.specs.declared.value.BlockName.TheVariants.{Null, Given, Local}
pub use Rattle.byte_block.specs.declared.value.Byte.{Byte}
pub use Rattle.byte_block.specs.declared.value.Ptr.{Ptr}
pub use Rattle.byte_block.specs.declared.value.Value.{Value}
pub use Rattle.clause_lits.specs.declared.cnf.Cnf.{Cnf}
pub use Rattle.ir_tree.specs.declared.tree.Function.{Function}
pub use Rattle.ir_tree.specs.declared.tree.IrType.{IrType}
pub use Rattle.ir_tree.specs.declared.tree.IrType.TheVariants.{Int}
pub use Rattle.ir_tree.specs.declared.tree.Parameter.{Parameter}
pub use Rattle.mem_terms.proofs.Eaches.{each-weaker, map-at, map-length, map-same, at-any, map-push, map-take, each-push, each-at}
pub use Rattle.mem_terms.proofs.Later.{bit-later, input_at-later, outcome-later, words-later, words_at-later, is_input-later, is_outcome-later, shows-later, args-later, args_at-later, keeps_trans, sizes-later, term-later, keeps_self, byte_terms_each-later, given_bytes_at-later, byte_lists-later, block_terms_each-later}
pub use Rattle.mem_terms.proofs.Naming.{given_named}
pub use Rattle.mem_terms.specs.Inputs.{AreWords, IsInput, words_at, IsArg, AreArgs, IsByteTerms, IsBlockTerms, arg_at, args_at, given_block_at, given_blocks_at, input_at}
unfoldable pub use Rattle.mem_terms.specs.Inputs.{given_byte_at}
pub use Rattle.mem_terms.specs.Memory.{frames_of, byte_of, frame_of, given_frames}
pub use Rattle.mem_terms.specs.Outcomes.{IsOutcome, LeavesGiven, Shows, outcome_at}
pub use Rattle.mem_terms.specs.Values.{reading, Each, Reading, block_name, value_of, value_from}
pub use Rattle.mem_terms.specs.declared.inputs.ArgTerms.{ArgTerms}
pub use Rattle.mem_terms.specs.declared.inputs.ByteTerms.{ByteTerms}
pub use Rattle.mem_terms.specs.declared.inputs.InputTerms.{InputTerms}
pub use Rattle.mem_terms.specs.declared.inputs.TapeTerms.{TapeTerms}
pub use Rattle.mem_terms.specs.declared.outcome.OutcomeTerms.{OutcomeTerms}
pub use Rattle.memory_access.proofs.Masks.{defined-apart}
pub use Rattle.memory_access.specs.Bytes.{defined_bits}
pub use Rattle.pair_costs.specs.Small.{AreSmall}
pub use Rattle.points.proofs.Decoded.{codes_tell_points}
pub use Rattle.points.proofs.Same.{blocks_count, sizes_of}
pub use Rattle.points.specs.Code.{ArgsFit, BlocksFit, ByteFits, BytesFit, IsOfShape, ValueFits, WordsFit, args_code, byte_code, code_of, places_code, value_code, BlockFits, PointerFits, name_digit, blocks_code}
unfoldable pub use Rattle.points.specs.Code.{number_of}
pub use Rattle.points.specs.Codes.{IsCode}
pub use Rattle.points.specs.Refines.{is_refined}
pub use Rattle.points.specs.Run.{run_of, block_number, IsPlain, Run}
pub use Rattle.points.specs.Tapes.{need_of, widest_choice}
pub use Rattle.points.specs.declared.outcome.Outcome.{Outcome}
pub use Rattle.points.specs.declared.point.Bounds.{Bounds}
pub use Rattle.points.specs.declared.point.Input.{Input}
pub use Rattle.points.specs.declared.point.Layout.{Layout}
pub use Rattle.points.specs.declared.point.Point.{Point}
pub use Rattle.points.specs.declared.point.Shape.{Shape}
pub use Rattle.refine_terms.specs.Deciding.{Decides}
pub use Rattle.refine_terms.specs.Numbers.{IsInputOf, IsTapeOf, numbers_at, arg_numbers, byte_numbers, block_numbers}
pub use Rattle.sat_ask.proofs.Marking.{tree_placed}
pub use Rattle.sat_ask.specs.Questions.{HasAll, Mentions, variable_of, assigned_by, digit_count, goal_test, variables_of, AreDifferent, IsVariable}
pub use Rattle.candidate_runs.proofs.Tried.{tried_split}
pub use Rattle.candidate_runs.specs.Candidates.{AreTemplates, function_of, integer_count, NoneCovers, CoversAt, tape_of, tapes_of}
pub use Rattle.candidate_runs.specs.declared.candidate.Candidate.{Candidate}
pub use Rattle.candidate_runs.specs.declared.candidate.TheConstants.{SHIFTS}
pub use Rattle.verdicts.specs.Covers.{integer, tried, is_covered, words_of}
unfoldable pub use Rattle.verdicts.specs.Covers.{covers, some_covers, integers}
pub use Rattle.verdicts.specs.Pair.{RunPair, layout_of, same_types, same_return, same_signature}
pub use Rattle.verdicts.specs.Trail.{IsPoint, AreAllCovered, IsLeastUncovered}
pub use Rattle.pair_questions.specs.Candidates.{AreSameTapes, AreTapes, input_in, outcome_in, tapes_at, IsTrial, words_of_each}
unfoldable pub use Rattle.pair_questions.specs.Candidates.{none_allows}
pub use Rattle.pair_questions.specs.Encodables.{IsEncodable, encoded_of}
pub use Rattle.pair_questions.specs.Numbers.{AsksNumbers, looked_up, number_test, IsFoundNumbers, IsRefutedTest, IsSpentTest}
pub use Rattle.pair_questions.specs.Orders.{AreNumbered, IsNumbered, IsOrder}
pub use Rattle.pair_questions.specs.Questions.{IsUncovered, args_widths, blocks_widths, places_widths, point_widths, tape_widths, value_widths, IsCovering, AsksFor, IsFoundCode, IsFoundTape, IsLeastCode, IsRefuted, IsSpentOn, IsMissed, IsLeastMissed, IsFoundMissed, IsFoundPoint}
pub use Rattle.pair_questions.specs.PointQuestions.{AreAllCandidates, IsPointQuestion, IsQuestionOf}
pub use Rattle.pair_questions.specs.PointTermsOf.{ArePointTerms}
pub use Rattle.pair_questions.specs.Shapes.{IsShapeOf, arg_ids, byte_ids, input_ids, nameable}
pub use Rattle.pair_questions.specs.Subjects.{IsOfTarget, IsSubject}
pub use Rattle.pair_questions.specs.Tapes.{integer_at, integers_at}
