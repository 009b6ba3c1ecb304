-- What proofs of this crate cite of std, of other crates and of its definitions, passed on from one place. Declares nothing.
pub use Rattle.std.proofs.Common.{ℕ, List, [], ◌∷◌, Option, Some, None, map, ◌≡◌, suc, ◌+◌, ◌<◌, ◌≤◌, ◌^◌, Bool, true, false, ◌++◌, length, refl, sym, ap, subst, ◌∙◌, codes, arith, append_assoc, append-nil, ◌-◌, ◌*◌, cond, take, drop, zero, inl, inr, ◌⊎◌, Ok, Result, slice_range, ◌/◌, ◌%◌, eqb, get_or, ltb, min, sum_by}
pub use Rattle.std.proofs.Math.Nat.{pow-le-pow_right}
pub use Rattle.std.proofs.lemmas.Bool.{lt-ltb, ltb-true, or_left, cases_Bool, and_parts, false_from_ne_true, or_parts, cases_lt, eq-eqb, eqb-true, and_left, ne_eqb, not-true, and_from, and_right, eqb-false, le-ltb, false≢true, le-leb, leb-true, or_right, or_from}
pub use Rattle.std.proofs.lemmas.Bool.Decides.{nat_tests}
pub use Rattle.std.proofs.lemmas.Fmt.{decimal_by_steps, IsAscii-decimal, decimal_injective}
pub use Rattle.std.proofs.lemmas.List.{length-append, length-map, take_at, drop_at, take-append-le, take-map, drop-map, map-append, get_or_at, length-take-le}
pub use Rattle.std.proofs.lemmas.List.Elements.{All-nil, All-cons, All-head, All-tail, All-take, All-drop, All-contains, All-from_recursion, Contains-append_left, Contains-append_right, recursion_from_All, All-push, All-from_get_or}
pub use Rattle.std.proofs.lemmas.Nat.{pow_pos, pow_below, mod_below}
pub use Rattle.std.proofs.lemmas.Option.{slice_get-map, get_or_from_slice_get, same_Some}
pub use Rattle.std.proofs.lemmas.Slice.Eq.{bytes_eq-Decides}
pub use Rattle.std.specs.Fmt.{decimal}
pub use Rattle.std.specs.List.{list_all, AllByRecursion, Contains, flat_map, AllZip, slice_get, list_any, find}
unfoldable pub use Rattle.std.specs.List.{IsDistinct}
pub use Rattle.std.specs.Prelude.{All, ◌&&◌, ◌==◌, nat_lt, ◌||◌, not, option_map, fold, nat_eq, is_some}
pub use Rattle.std.specs.Str.{bytes_eq}
pub use Rattle.ir_grammar.specs.Classes.{any, line_word, operand_class, literal_class, pointer_type, element_type, array_length, alignment, int_type, counted_type, bit_type, return_type, predicate_class, terminator_word, passed, flag_fits}
pub use Rattle.ir_grammar.specs.Grammar.{is_comma, is_local_kind, starts_line, line_begins, line_within, may_have_phi, next_number, started, line_comma, with_comma, returned_by, is_type, case_begins, case_within, terminator_by, follows_parameter, parameter_begins, with_part, commas, with_inst, with_line, is_prefix, follows_header, with_phi, opened, begins_block, block_begins, with_block, body_of, new_parameter}
unfoldable pub use Rattle.ir_grammar.specs.Grammar.{whole_line, returned, target, cond_branch, branch_to, branch, with_case, cases, switch, return_of, parameter_parts, first_parameter, parameters, next_line, prefixes, header_parts, define, lines, attachments, block, entry_block, next_block, blocks}
pub use Rattle.ir_grammar.specs.Instructions.{is_square, array_begins, array_within, no_gep_flags, behind_flags, closers, is_gep_flag, line_by, with_index, inst_by, next_gep_flag, default_align, with_entry, is_wrap}
unfoldable pub use Rattle.ir_grammar.specs.Instructions.{with_length, arrays, alloca_object, gep_flags, gep_arrays, gep_object, alloca, load, store, gep, line_named, phi, next_entry, entry_or_attachment, attached, aligned, align_or_attachment, next_index, index_or_attachment, typed, arm, pointer, binary, cast_by, wrapping, exact, plain, disjunction, icmp, truncate, zero_extend, sign_extend, select, freeze, entry, comparison, wraps, flagged_type}
pub use Rattle.ir_words.specs.Numbers.{is_negative, magnitude, in_range, wrapped, value_of, value_after}
unfoldable pub use Rattle.ir_words.specs.Numbers.{width_of}
pub use Rattle.ir_words.specs.Spelling.{local_of, global_of, label_of, named_at, label_line, is_record, line_start, is_pointer_type, is_small_object, width_in, is_width, truth_value, literal_value, literal_of, word_of_type, word_value, number_value, literal_at, operand_at, fits_bits, fits_type, type_in, type_at, is_pointer, pointer_in, fits_object, number_of_kind, gep_flag_named, gep_flag_of, bits_behind, spelled_width, int_typed_at, int_type_in, typed_at, returned_at, attribute_named, parameter_part, inst_line}
pub use Rattle.ir_words.specs.Words.{is_word_of, opcode_of, inst_word, memory_word_of, or_word, line_word_of, memory_word, opcode_named, wrapping_op, exact_op, is_mark_of, flag_text}
pub use Rattle.ir_words.specs.declared.word.LineStart.{LineStart}
pub use Rattle.ir_words.specs.declared.word.LineWord.{LineWord}
pub use Rattle.ir_words.specs.declared.word.Opcode.{Opcode}
pub use Rattle.ir_words.specs.declared.word.TerminatorWord.{TerminatorWord}
pub use Rattle.ir_words.specs.declared.written.GepFlags.{GepFlags}
pub use Rattle.ir_words.specs.declared.written.WrittenAccess.{WrittenAccess}
pub use Rattle.ir_words.specs.declared.written.WrittenArrays.{WrittenArrays}
pub use Rattle.ir_words.specs.declared.written.WrittenBlock.{WrittenBlock}
pub use Rattle.ir_words.specs.declared.written.WrittenBlocks.{WrittenBlocks}
pub use Rattle.ir_words.specs.declared.written.WrittenBody.{WrittenBody}
pub use Rattle.ir_words.specs.declared.written.WrittenCase.{WrittenCase}
pub use Rattle.ir_words.specs.declared.written.WrittenEntry.{WrittenEntry}
pub use Rattle.ir_grammar.specs.declared.written.WrittenFunction.{WrittenFunction}
pub use Rattle.ir_words.specs.declared.written.WrittenGep.{WrittenGep}
pub use Rattle.ir_words.specs.declared.written.WrittenIndex.{WrittenIndex}
pub use Rattle.ir_words.specs.declared.written.WrittenInst.{WrittenInst}
pub use Rattle.ir_words.specs.declared.written.WrittenIntType.{WrittenIntType}
pub use Rattle.ir_words.specs.declared.written.WrittenLine.{WrittenLine}
pub use Rattle.ir_words.specs.declared.written.WrittenLines.{WrittenLines}
pub use Rattle.ir_words.specs.declared.written.WrittenLiteral.{WrittenLiteral}
pub use Rattle.ir_words.specs.declared.written.WrittenName.{WrittenName}
pub use Rattle.ir_words.specs.declared.written.WrittenObject.{WrittenObject}
pub use Rattle.ir_words.specs.declared.written.WrittenOperand.{WrittenOperand}
pub use Rattle.ir_words.specs.declared.written.WrittenParameter.{WrittenParameter}
pub use Rattle.ir_words.specs.declared.written.WrittenParameters.{WrittenParameters}
pub use Rattle.ir_words.specs.declared.written.WrittenPhi.{WrittenPhi}
pub use Rattle.ir_words.specs.declared.written.WrittenReturn.{WrittenReturn}
pub use Rattle.ir_words.specs.declared.written.WrittenReturn.TheVariants.{Void, Value}
pub use Rattle.ir_words.specs.declared.written.WrittenReturnType.{WrittenReturnType}
pub use Rattle.ir_words.specs.declared.written.WrittenTerminator.{WrittenTerminator}
pub use Rattle.ir_words.specs.declared.written.WrittenType.{WrittenType}
pub use Rattle.ir_words.specs.declared.written.WrittenTyped.{WrittenTyped}
pub use Rattle.ir_words.specs.declared.written.WrittenValue.{WrittenValue}
pub use Rattle.ir_items.specs.Items.{has_name, IsCut, is_head_word, IsNamed, IsDefine}
unfoldable pub use Rattle.ir_items.specs.Items.{name_at, is_head, is_define, begins_item, is_called, is_brace}
pub use Rattle.ir_items.specs.Marks.{mark_of, IsBalanced, has_open, IsPiece, mark_in, opens, closes, closing, shut, marks_after, marks_behind}
unfoldable pub use Rattle.ir_items.specs.Marks.{marks}
pub use Rattle.ir_items.specs.Names.{without_zeros, hexadecimal_value, is_backslash, unescaped, name_of, name_in}
pub use Rattle.ir_items.specs.declared.item.Define.{Define}
pub use Rattle.ir_lexer.specs.Bytes.{is_digit, is_hexadecimal_digit, is_blank, begins_word, is_name_byte, begins_name, is_inside_quotes, is_mark_byte}
pub use Rattle.ir_lexer.specs.Lexeme.{Lexeme}
pub use Rattle.ir_lexer.specs.Parts.{nothing, byte, behind, many, maybe}
pub use Rattle.ir_lexer.specs.Spelling.{is_digits, class_of, is_number, is_word, is_quoted, is_plain_name, is_name, is_word_or_number, is_label, is_mark}
pub use Rattle.ir_lexer.specs.declared.token.Kind.{Kind}
pub use Rattle.ir_naming.specs.Naming.{escaped, hex_digit, is_bare, is_plain, name_text, hex_byte, quoted}
pub use Rattle.ir_numbering.proofs.NextValue.{next-name}
pub use Rattle.ir_numbering.specs.EntryName.{next_name}
pub use Rattle.ir_numbering.specs.NextNumber.{AreDigits, IsDecimal, AreDecimal}
pub use Rattle.ir_numbering.specs.Numbering.{named_behind, entry_name, Numbered, so, ◌>>=◌, number_in, value_in, each_in, access_in, inst_in, terminator_in, labelled_in, others_in, function_of, name_or, named, names_of}
unfoldable pub use Rattle.ir_numbering.specs.Numbering.{parameter_in, typed_in, select_in, alloca_in, load_in, store_in, index_in, gep_in, returned_in, entry_in, phi_in, case_in, switch_in, block_in, blocks_in, parts_in, numbered, binary_in, icmp_in, cast_in, freeze_in, branch_in, cond_branch_in}
unfoldable pub use Rattle.ir_numbering.specs.Places.{places_of}
pub use Rattle.ir_numbering.specs.declared.numbering.NamedParameter.{NamedParameter}
pub use Rattle.ir_printer.specs.Instructions.{word_if, op_pieces, predicate_text, cast_pieces, align_pieces, flag_pieces}
pub use Rattle.ir_printer.specs.Made.{state_behind, eight, value, byte_parameter, made_insts, function_name, made_function, made_entries, value_name, result_names, made_names, drawn, made_op, made_binary}
pub use Rattle.ir_printer.specs.ModuleText.{return_text, accepted, accepted_first, function_pieces, functions_pieces, parameter_pieces, parameters_pieces, block_pieces, has_any, last_end, module_text}
pub use Rattle.ir_printer.specs.Pieces.{none, space, comma, type_text, array_pieces, closing_pieces, object_pieces, line, indented, word, mark, number, local, global, label, width_text}
pub use Rattle.ir_reader.proofs.Placed.{placed, well_formed-placed}
pub use Rattle.ir_reader.specs.Functions.{IsFunction, well_formed, without_places}
pub use Rattle.ir_tree.specs.Carrying.{UsesUndef, carried_from, carrying_operands, insts_of, leaves_by, makes}
unfoldable pub use Rattle.ir_tree.specs.Carrying.{leaf_count}
pub use Rattle.ir_tree.specs.Flow.{assigned_with, results_of}
pub use Rattle.ir_tree.specs.Limits.{alignments}
pub use Rattle.ir_tree.specs.Names.{same_name, with_name, number_of}
pub use Rattle.ir_tree.specs.Sites.{no_place, Step, sites, parts, sites_in, inst_sites, inst_steps, is_same_type, header_sites, parameter_sites, terminator_sites}
unfoldable pub use Rattle.ir_tree.specs.Sites.{steps}
pub use Rattle.ir_tree.specs.Types.{one_bit}
pub use Rattle.ir_tree.specs.WellFormed.{IsWellFormed, DefinesAgain, UsesUnknown, ClashesType, HasWrongEdge, IsMissed, IsMissedAt, UsesUnassigned}
pub use Rattle.ir_tree.specs.declared.module.Entry.{Entry}
pub use Rattle.ir_tree.specs.declared.module.Refused.{Refused}
pub use Rattle.ir_tree.specs.declared.name.Name.{Name}
pub use Rattle.ir_tree.specs.declared.name.Name.TheVariants.{Word}
pub use Rattle.ir_tree.specs.declared.sites.Part.{Part}
pub use Rattle.ir_tree.specs.declared.sites.Site.{Site}
pub use Rattle.ir_tree.specs.declared.sites.Site.TheVariants.{Defines, Uses, Enters, Written}
pub use Rattle.ir_tree.specs.declared.tree.Block.{Block}
pub use Rattle.ir_tree.specs.declared.tree.Cast.{Cast}
pub use Rattle.ir_tree.specs.declared.tree.Flags.{Flags}
pub use Rattle.ir_tree.specs.declared.tree.Function.{Function}
pub use Rattle.ir_tree.specs.declared.tree.Inst.{Inst}
pub use Rattle.ir_tree.specs.declared.tree.Inst.TheVariants.{Binary}
pub use Rattle.ir_tree.specs.declared.tree.IrType.{IrType}
pub use Rattle.ir_tree.specs.declared.tree.IrType.TheVariants.{Int, Ptr}
pub use Rattle.ir_tree.specs.declared.tree.MemoryType.{MemoryType}
pub use Rattle.ir_tree.specs.declared.tree.Op.{Op}
pub use Rattle.ir_tree.specs.declared.tree.Operand.{Operand}
pub use Rattle.ir_tree.specs.declared.tree.Operand.TheVariants.{Local, Number, Null, Poison, Undef}
pub use Rattle.ir_tree.specs.declared.tree.Parameter.{Parameter}
pub use Rattle.ir_tree.specs.declared.tree.Phi.{Phi}
pub use Rattle.ir_tree.specs.declared.tree.Predicate.{Predicate}
pub use Rattle.ir_tree.specs.declared.tree.Terminator.TheVariants.{Switch, Return}
pub use Rattle.text_places.specs.declared.place.Place.{Place}
pub use Rattle.token_forms.specs.Form.{never, either, Form, give, one, seq, upto, peek, tail, balanced, mapped, Class}
pub use Rattle.token_forms.specs.Plain.{SpellsPlainly, PlainParts}
pub use Rattle.token_forms.specs.Spelling.{part_begins, Token, SpellParts, Spells, part_value}
pub use Rattle.token_text.specs.Laws.{spelled, LexesTo}
pub use Rattle.token_text.specs.Pieces.{Piece, text_of, ends_token, AreApart, piece_text, is_separator, is_separator_alone, is_ended}
pub use Rattle.tv_num.specs.declared.Width.{Width}
pub use Rattle.read_back.specs.ReadBack.{IsOfBytes, IsPrintableEntry, IsSpelled, MadeModulesArePrintable, ReadsBack, PrintedModulesReadBack}
pub use Rattle.read_back.specs.SameModule.{IsSameFunction, AreSameFound, AreSameEntries}
