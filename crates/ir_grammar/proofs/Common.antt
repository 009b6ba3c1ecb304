-- What proofs of this crate cite of std, of other crates and of its definitions, passed on from one place. Declares nothing.
pub use Rattle.std.proofs.Common.{◌≡◌, ℕ, ◌+◌, ◌-◌, ◌*◌, ◌<◌, ◌≤◌, ◌^◌, List, [], ◌∷◌, length, get_or, drop, Some, None, refl, sym, ap, ◌∙◌, add-one, arith, drop-cons, zero, suc, true, codes, Bool, false, leb, Option, cond, subst, ltb, min}
pub use Rattle.std.proofs.lemmas.Bool.{le-ltb, lt-ltb, le-leb, leb-true}
pub use Rattle.std.proofs.lemmas.Result.{err_from_is_err_and}
pub use Rattle.std.specs.Prelude.{◌&&◌, ◌||◌, is_some, nat_lt}
pub use Rattle.ir_lexer.specs.Lexeme.{Lexeme}
pub use Rattle.ir_tree.specs.Limits.{HasSmallArrays, IsAlignment}
pub use Rattle.ir_tree.specs.Types.{nested_size, one_bit, store_size, type_align}
pub use Rattle.ir_tree.specs.declared.tree.IrType.{IrType}
pub use Rattle.token_forms.proofs.Exact.{shorter}
pub use Rattle.token_forms.proofs.Loops.{Left, at_start, one_more, no_more, begins-shorter, step-more, step-done, step-fails, step-shorter}
pub use Rattle.token_forms.specs.Form.{Why, reads, stops, token_of, read, never, either, give, Reading}
pub use Rattle.ir_grammar.specs.Classes.{any, as_mark, passed, passed_at, as_word, int_type, element_type, return_type, terminator_word, attachment_or_type, brace}
pub use Rattle.ir_grammar.specs.Grammar.{is_comma, is_prefix, follows_parameter, with_part, follows_header, with_header, starts_line, started, commas, with_comma, returned_by, is_type, terminator_by, begins_block, next_prefix, case_begins, case_within, line_comma, line_begins, line_within, opened, header_begins, parameter_begins, new_parameter, comma_begins, block_begins}
unfoldable pub use Rattle.ir_grammar.specs.Grammar.{prefixes, parameter_parts, first_parameter, parameters, comdat_rest, debug_rest, header_parts, attachment, record_rest, whole_line, next_line, lines, returned, target, cond_branch, branch_to, branch, with_case, cases, switch, return_of, attachments, block, entry_block, next_block, blocks, define, behind_commas, other_blocks}
pub use Rattle.ir_grammar.specs.Instructions.{closers, is_wrap, inst_by, is_square, is_gep_flag, line_by, next_gep_flag, no_gep_flags, array_begins, array_within, next_wrap, default_align}
unfoldable pub use Rattle.ir_grammar.specs.Instructions.{wraps, flagged_type, comparison, typed, arm, binary, wrapping, exact, plain, disjunction, icmp, cast_by, truncate, zero_extend, sign_extend, select, freeze, entry, phi, next_entry, attached, entry_or_attachment, with_length, arrays, alloca_object, gep_flags, gep_arrays, gep_object, pointer, alloca, load, store, gep, aligned, align_or_attachment, next_index, index_or_attachment, inst_line, line_named}
pub use Rattle.ir_words.specs.Spelling.{are_small_arrays, bits_of, spelled_width, int_typed_at}
pub use Rattle.ir_words.specs.Words.{is_word_of, is_mark_of, terminator_of, flag_text, prefix_of, prefix_named, is_linkage, is_visibility, no_flags}
pub use Rattle.ir_words.specs.declared.word.HeaderPart.{HeaderPart}
pub use Rattle.ir_words.specs.declared.word.LineStart.{LineStart}
pub use Rattle.ir_words.specs.declared.word.ParameterPart.{ParameterPart}
pub use Rattle.ir_words.specs.declared.written.WrittenAccess.{WrittenAccess}
pub use Rattle.ir_words.specs.declared.written.WrittenArrays.{WrittenArrays}
pub use Rattle.ir_words.specs.declared.written.WrittenIntType.{WrittenIntType}
pub use Rattle.ir_words.specs.declared.written.WrittenLine.{WrittenLine}
pub use Rattle.ir_words.specs.declared.written.WrittenLines.{WrittenLines}
pub use Rattle.ir_words.specs.declared.written.WrittenName.{WrittenName}
pub use Rattle.ir_words.specs.declared.written.WrittenParameters.{WrittenParameters}
