-- What proofs of this crate cite of std, of other crates and of its definitions, passed on from one place. Declares nothing.
pub use Rattle.std.proofs.Common.{◌≡◌, ℕ, ◌+◌, ◌-◌, ◌<◌, ◌≤◌, true, false, List, [], ◌∷◌, ◌++◌, length, slice_range, take, drop, Option, Some, None, refl, sym, ap, ◌∙◌, inl, inr, arith, Bool, ◌||◌, eqb, get_or, subst, ◌⊎◌, cond, suc, ◌&&◌, take_while, map}
pub use Rattle.std.proofs.lemmas.Bool.{cases_lt, cases_order, cases_Bool, eq-eqb, ne_eqb, and_parts, eqb-true, cases_eq, lt-ltb, le-ltb, or_left}
pub use Rattle.std.proofs.lemmas.Grind.{common_steps}
pub use Rattle.std.proofs.lemmas.List.{append_assoc, append-nil, map-append, take-append-le, drop-append-le, drop_at, length-drop, length-append, take-append-drop, take-take, drop-take, drop-drop, drop_more, drop_all, length-take, nil_from_length}
pub use Rattle.std.proofs.lemmas.List.Edits.{between_more, between_none}
pub use Rattle.std.proofs.lemmas.List.Sums.{fold_push, fold-append, prefix_len-le-length}
pub use Rattle.std.proofs.lemmas.Option.{slice_get_within, get_or_from_slice_get, slice_get_past}
pub use Rattle.std.proofs.lemmas.Result.{err_from_is_err_and, IfOk-weaker, IfErr-weaker}
pub use Rattle.std.specs.List.{list_any, position_or_len, prefix_len}
pub use Rattle.std.specs.Prelude.{fold, is_some, slice_get, IsSomeAnd, codes, position, nat_lt}
pub use Rattle.ir_lexer.specs.Lexeme.{Lexeme}
pub use Rattle.ir_lexer.specs.declared.token.Kind.{Kind}
pub use Rattle.ir_tree.specs.declared.name.Name.{Name}
pub use Rattle.ir_items.specs.Items.{last_line, has_bad_part, NoHeadBetween, OtherGoesOn, BeforeName, IsNamed, BeforeBody, HasBody, IsOther, IsDefine, has_name, passes, token_passes, is_word_of, is_word, is_head_word, is_name, is_global_kind, is_global, is_mark, is_plain_string, has_bad_layout, name_from, IsCut}
unfoldable pub use Rattle.ir_items.specs.Items.{is_bad_part, is_define, begins_item, is_called, is_brace, is_wrong_layout, is_head, name_at, is_first_on_line}
pub use Rattle.ir_items.specs.Marks.{mark_of, marks_after, marks_behind, IsBalanced, has_open, IsInside, IsPiece, mark_in}
unfoldable pub use Rattle.ir_items.specs.Marks.{marks}
pub use Rattle.ir_items.specs.Names.{name_of, name_in, without_zeros, unescaped}
pub use Rattle.ir_items.specs.Pieces.{PieceStopsAt, PieceStops, ItemStops, bracket, text_ends, IsAdded}
pub use Rattle.ir_items.specs.Stops.{IsNew, GoesOn, StopsAt, IsStop}
pub use Rattle.ir_items.specs.declared.fault.Why.{Why}
pub use Rattle.ir_items.specs.declared.item.Define.{Define}
pub use Rattle.ir_items.specs.declared.edges.Edges.{Edges}
pub use Rattle.ir_items.specs.Joined.{AreItems, later, Meets, HasEdges, AreEdges}
