-- What proofs of this crate cite of std, of other crates and of its definitions, passed on from one place. Declares nothing.
pub use Rattle.std.proofs.Common.{◌≡◌, ◌<◌, ◌+◌, ◌-◌, ◌*◌, ℕ, suc, Bool, List, [], ◌∷◌, ◌++◌, refl, ap, ◌∙◌, sym, append_assoc, arith, ◌≤◌, length, drop, get_or, append-nil, true, subst}
pub use Rattle.std.proofs.lemmas.Grind.{flat_map-append, common_steps}
pub use Rattle.std.proofs.lemmas.List.{at_drop_all, drop_more}
pub use Rattle.std.specs.Fmt.{decimal}
pub use Rattle.std.specs.List.{flat_map}
pub use Rattle.std.specs.Prelude.{codes, fold, ◌&&◌, ◌==◌, Result, Ok, Err, false, unwrap_or}
pub use Rattle.ir_tree.specs.Names.{with_name}
pub use Rattle.ir_tree.specs.declared.module.Entry.{Entry}
pub use Rattle.ir_tree.specs.declared.name.Name.{Name}
pub use Rattle.ir_tree.specs.declared.name.Name.TheVariants.{Word}
pub use Rattle.ir_tree.specs.declared.tree.Inst.{Inst}
pub use Rattle.token_text.specs.Pieces.{Piece, piece_text, text_of}
pub use Rattle.ir_printer.specs.Instructions.{index_pieces, result_pieces, inst_pieces, word_if, entry_pieces, case_pieces, phi_pieces}
pub use Rattle.ir_printer.specs.Made.{drawn, made_binary, made_entries, made_entry, made_inst, made_insts, result_names, state_behind, made_names}
pub use Rattle.ir_printer.specs.ModuleText.{accepted, accepted_first, function_pieces, functions_pieces, gap_behind, has_any, block_pieces, parameter_pieces}
pub use Rattle.ir_printer.specs.Pieces.{space, word, array_pieces, closing_pieces, name_in, comma, operand_piece, typed_pieces, object_pieces, pointer_pieces}
