-- What proofs of this crate cite of std, of other crates and of its definitions, passed on from one place. Declares nothing.
pub use Rattle.std.proofs.Common.{◌≡◌, ℕ, suc, ◌+◌, ◌<◌, List, [], ◌∷◌, ◌++◌, length, drop, get_or, refl, sym, ap, ◌∙◌, append_assoc, add-one, drop-cons, map, arith, ◌≤◌, Bool, true, false, cond, Option, Some, ◌*◌, None, subst, zero, ◌-◌, ◌^◌, ◌⊎◌, inl, inr, eqb, ltb}
pub use Rattle.std.proofs.lemmas.Bool.{or_left}
pub use Rattle.std.proofs.lemmas.List.{map-append, length-append, append-nil, length-map, reverse-append, reverse-reverse, length-reverse}
pub use Rattle.std.proofs.lemmas.List.Elements.{All-nil, All-cons, All-append, All-weaker, Contains-append_left, Contains-append_right, Contains-push, Contains-push_cases, Contains-append_cases}
pub use Rattle.std.specs.List.{flat_map, list_any, slice_get, All, Contains}
pub use Rattle.std.specs.Prelude.{not, ◌||◌, nat_le, ◌&&◌, reverse}
pub use Rattle.std.specs.Vec.Iter.{into_iter_items}
pub use Rattle.ir_words.specs.declared.written.WrittenBlock.{WrittenBlock}
pub use Rattle.ir_words.specs.declared.written.WrittenBody.{WrittenBody}
pub use Rattle.ir_grammar.specs.declared.written.WrittenFunction.{WrittenFunction}
pub use Rattle.ir_words.specs.declared.written.WrittenInst.{WrittenInst}
pub use Rattle.ir_words.specs.declared.written.WrittenParameter.{WrittenParameter}
pub use Rattle.ir_words.specs.declared.written.WrittenPhi.{WrittenPhi}
pub use Rattle.ir_words.specs.declared.written.WrittenReturn.{WrittenReturn}
pub use Rattle.ir_words.specs.declared.written.WrittenReturn.TheVariants.{Void, Value}
pub use Rattle.ir_words.specs.declared.written.WrittenTerminator.{WrittenTerminator}
pub use Rattle.ir_tree.specs.Names.{same_name, with_name, number_of}
pub use Rattle.ir_tree.specs.declared.name.Name.{Name}
pub use Rattle.ir_tree.specs.declared.name.Name.TheVariants.{Number, Word}
pub use Rattle.text_places.specs.declared.place.Place.{Place}
pub use Rattle.ir_numbering.specs.EntryName.{is_greater, is_above, greatest, carried, one_more, next_name}
pub use Rattle.ir_numbering.specs.Mentions.{Mention, mention_at, index_mentions, inst_mentions, returned_mentions, entry_mentions, phi_mentions, case_mentions, terminator_mentions, block_mentions, parameter_mentions, nameless, mention, local_name, operand_mention, typed_mentions}
unfoldable pub use Rattle.ir_numbering.specs.Mentions.{body_mentions, names_written}
pub use Rattle.ir_numbering.specs.Numbering.{Numbered, so, each_in, ◌>>=◌, named_behind, entry_name, value_in, inst_in, terminator_in, labelled_in, function_of, named, others_in, names_of}
unfoldable pub use Rattle.ir_numbering.specs.Numbering.{typed_in, binary_in, icmp_in, cast_in, select_in, freeze_in, alloca_in, load_in, store_in, index_in, gep_in, returned_in, parameter_in, entry_in, phi_in, case_in, branch_in, cond_branch_in, switch_in, block_in, blocks_in, parts_in, numbered}
pub use Rattle.ir_numbering.specs.Places.{place_or, index_places, inst_places, parameter_places, returned_places, entry_places, phi_places, case_places, terminator_places, block_places}
unfoldable pub use Rattle.ir_numbering.specs.Places.{places_of, body_places}
pub use Rattle.ir_numbering.specs.declared.numbering.NamedParameter.{NamedParameter}
