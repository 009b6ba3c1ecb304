-- What proofs of this crate cite of std, of other crates and of its definitions, passed on from one place. Declares nothing.
pub use Rattle.std.proofs.Common.{◌≡◌, ◌⊎◌, inl, inr, true, false, List, [], ◌∷◌, ◌++◌, refl, sym, ap, subst, ◌∙◌, append_assoc, ℕ, zero, suc, ◌+◌, ◌-◌, ◌<◌, ◌≤◌, Bool, ltb, cond, length, Option, Some, None, arith, get_or, drop, map, codes}
pub use Rattle.std.proofs.lemmas.Bool.{ltb-true, lt-leb, cases_lt, leb-true, or_parts}
pub use Rattle.std.proofs.lemmas.List.{append-nil, append_cancel_right, length-append, drop-drop, take_all}
pub use Rattle.std.proofs.lemmas.List.Elements.{All-nil, All-cons, Contains-append_left, Contains-append_right}
pub use Rattle.std.proofs.lemmas.Result.{err_from_is_err_and}
pub use Rattle.std.specs.List.{All, AllByRecursion, sum_by, Contains, list_any}
unfoldable pub use Rattle.std.specs.List.{IsDistinct}
pub use Rattle.std.specs.Prelude.{◌&&◌, ◌||◌, not, Result, Ok, nat_le, nat_eq, Err, slice_get, IsOkAnd, min, ◌==◌, if◌then◌else◌, nat_lt, is_some}
pub use Rattle.std.specs.Str.{bytes_eq}
pub use Rattle.std.specs.Vec.Iter.{into_iter_items}
pub use Rattle.ir_grammar.specs.Classes.{any, token, start, bit_fits, int_type, counted_type, element_type, pointer_type, bit_type, return_type, operand_class, literal_class, line_word, flag_word}
pub use Rattle.ir_grammar.specs.Grammar.{follows_parameter, parameter_begins, with_part, is_comma, is_local_kind, starts_line, line_begins, line_within, next_number, started, line_comma, with_comma, with_phi, with_inst, with_line, is_type, case_begins, case_within, terminator_by, body_of, begins_block, block_begins, with_header, returned_by, most_parameters}
unfoldable pub use Rattle.ir_grammar.specs.Grammar.{define, parameter_parts, first_parameter, parameters, whole_line, next_line, lines, with_case, cases, branch, branch_to, cond_branch, switch, return_of, block, entry_block, next_block, blocks, prefixes, comdat_rest, debug_rest, header_parts, attachment, record_rest, returned, target, attachments}
pub use Rattle.ir_grammar.specs.Instructions.{default_align, line_by, is_square, array_begins, array_within, inst_by, closers}
unfoldable pub use Rattle.ir_grammar.specs.Instructions.{inst_line, phi, alloca, load, store, gep, line_named, entry_or_attachment, next_entry, attached, align_or_attachment, aligned, index_or_attachment, next_index, with_length, arrays, alloca_object, gep_arrays, gep_object, binary, cast_by, wrapping, exact, plain, disjunction, icmp, truncate, zero_extend, sign_extend, select, freeze, wraps, flagged_type, comparison, typed, arm, entry, gep_flags, pointer}
pub use Rattle.ir_words.specs.Reasons.{reason, type_reason}
pub use Rattle.ir_words.specs.Spelling.{named_at, label_line, is_record, line_start, type_in, fits_object, is_small_object, number_of_kind, is_alignment, width_reason, width_in, width_reason_of, int_typed_at, typed_at, int_type_in, is_pointer, is_void, returned_at, truth_value, operand_at, literal_at}
pub use Rattle.ir_words.specs.declared.word.LineStart.{LineStart}
pub use Rattle.ir_words.specs.declared.word.LineWord.{LineWord}
pub use Rattle.ir_words.specs.declared.word.Opcode.{Opcode}
pub use Rattle.ir_words.specs.declared.word.ParameterPart.{ParameterPart}
pub use Rattle.ir_words.specs.declared.word.TerminatorWord.{TerminatorWord}
pub use Rattle.ir_words.specs.declared.written.WrittenAccess.{WrittenAccess}
pub use Rattle.ir_words.specs.declared.written.WrittenArrays.{WrittenArrays}
pub use Rattle.ir_words.specs.declared.written.WrittenBody.{WrittenBody}
pub use Rattle.ir_words.specs.declared.written.WrittenCase.{WrittenCase}
pub use Rattle.ir_grammar.specs.declared.written.WrittenFunction.{WrittenFunction}
pub use Rattle.ir_words.specs.declared.written.WrittenGep.{WrittenGep}
pub use Rattle.ir_words.specs.declared.written.WrittenInst.{WrittenInst}
pub use Rattle.ir_words.specs.declared.written.WrittenIntType.{WrittenIntType}
pub use Rattle.ir_words.specs.declared.written.WrittenLine.{WrittenLine}
pub use Rattle.ir_words.specs.declared.written.WrittenLines.{WrittenLines}
pub use Rattle.ir_words.specs.declared.written.WrittenName.{WrittenName}
pub use Rattle.ir_words.specs.declared.written.WrittenParameters.{WrittenParameters}
pub use Rattle.ir_words.specs.declared.written.WrittenPhi.{WrittenPhi}
pub use Rattle.ir_words.specs.declared.written.WrittenType.{WrittenType}
pub use Rattle.ir_items.specs.Items.{IsCut, nothing, other, IsDefine}
pub use Rattle.ir_items.specs.Stops.{IsStop}
pub use Rattle.ir_items.specs.declared.item.Define.{Define}
pub use Rattle.ir_lexer.specs.Lexeme.{Lexeme}
pub use Rattle.ir_lexer.specs.Tokens.{Spot, with_front, lexed}
pub use Rattle.ir_lexer.specs.declared.token.Kind.{Kind}
pub use Rattle.ir_numbering.proofs.NumberedSites.{then-so, named-count, block_with, whole}
pub use Rattle.ir_numbering.specs.Numbering.{Numbered, so, each_in, inst_in, value_in, terminator_in, labelled_in, function_of, named_behind, entry_name}
unfoldable pub use Rattle.ir_numbering.specs.Numbering.{parameter_in, typed_in, entry_in, phi_in, case_in, branch_in, cond_branch_in, switch_in, block_in, blocks_in, parts_in, returned_in, numbered, binary_in, icmp_in, cast_in, select_in, freeze_in, alloca_in, load_in, store_in, index_in, gep_in}
pub use Rattle.ir_tree.specs.Limits.{instructions_of, cases_in, HasFewCases, HasFewEntries, IsAlignment, HasSmallArrays, HasSmallTypes, HasSmallObjects, HasSmallNumber, alignments}
pub use Rattle.ir_tree.specs.Names.{with_name, number_of, same_name}
pub use Rattle.ir_tree.specs.Sites.{operand_site, index_sites, indices_sites, inst_sites, no_place, AreNumbered}
unfoldable pub use Rattle.ir_tree.specs.Sites.{steps}
pub use Rattle.ir_tree.specs.Types.{object_size, nested_size, one_bit}
pub use Rattle.ir_tree.specs.WellFormed.{IsWellFormed, ComesFromPredecessors, IsUnfitPhi, JumpsToEntry, HasWrongEdge, IsMissed, IsMissedBehind, IsMissedAt, UsesUnassigned, Passes, IsRefusedAt, PassesNames, IfRefused}
pub use Rattle.ir_tree.specs.declared.module.Entry.{Entry}
pub use Rattle.ir_tree.specs.declared.module.Reason.{Reason}
pub use Rattle.ir_tree.specs.declared.module.Reason.TheVariants.{TypeClash, Limit, Syntax, NameTwice, NameUnknown, PhiEdges, Unassigned, UndefUse}
pub use Rattle.ir_tree.specs.declared.module.Refused.{Refused}
pub use Rattle.ir_tree.specs.declared.name.Name.{Name}
pub use Rattle.ir_tree.specs.declared.tree.Block.{Block}
pub use Rattle.ir_tree.specs.declared.tree.Cast.{Cast}
pub use Rattle.ir_tree.specs.declared.tree.Function.{Function}
pub use Rattle.ir_tree.specs.declared.tree.Inst.{Inst}
pub use Rattle.ir_tree.specs.declared.tree.IrType.{IrType}
pub use Rattle.ir_tree.specs.declared.tree.IrType.TheVariants.{Int, Ptr}
pub use Rattle.ir_tree.specs.declared.tree.Op.{Op}
pub use Rattle.ir_tree.specs.declared.tree.Phi.{Phi}
pub use Rattle.text_places.specs.declared.place.Place.{Place}
pub use Rattle.token_forms.proofs.Exact.{read-found, read-again, then-found}
pub use Rattle.token_forms.proofs.Lawful.{read_lawful}
pub use Rattle.token_forms.proofs.Laws.{free-never, SameHead, Follows, Whole, Lawful}
pub use Rattle.token_forms.proofs.Stops.{passes-limit, stops-unfit, stops-behind, limit-again, then-stops}
pub use Rattle.token_forms.specs.Form.{limit, reads, stops, read, Reading, Class, never, Form, give, one, seq, upto, peek, tail, balanced, mapped, and_then, Judged, none, found, judged, taken, one_of, first_of, peeked, begun, fitting, open_behind}
unfoldable pub use Rattle.token_forms.specs.Form.{parts, until_closed}
pub use Rattle.token_forms.specs.Refusals.{Begins, StopsUnfit, LeavesOpen, StopsPast}
pub use Rattle.token_forms.specs.Spelling.{Spells, SpellParts, part_value, part_begins, IsNone}
pub use Rattle.tv_num.specs.declared.Width.{Width}
pub use Rattle.ir_reader.specs.Answer.{Ascend, Writes, Tests, fault_at, AreDefines}
pub use Rattle.ir_reader.specs.Functions.{IsUnfit, IsFunction, well_formed, tested, unfit, past, without_places, refused_at, stop_place, Answers, last_place}
pub use Rattle.ir_reader.specs.Module.{AreEntries, tokens_of, IsModule, IsFault, place_or_end, IsEntry}
pub use Rattle.ir_reader.specs.StopReason.{TypeMayStand, IsStopReason, SomeType}
