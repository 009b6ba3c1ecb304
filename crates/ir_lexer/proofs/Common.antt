-- What proofs of this crate cite of std, of other crates and of its definitions, passed on from one place. Declares nothing.
pub use Rattle.std.proofs.Common.{◌≡◌, get_or, ℕ, List, [], ◌∷◌, ◌++◌, map, Result, Ok, Err, refl, sym, ap, subst, ◌∙◌, append_assoc, zero, suc, ◌-◌, ◌<◌, ◌≤◌, true, false, eqb, drop, inl, inr, arith, length, take, Option, Some, None, ◌+◌, Bool, cond, not, take_while, ◌||◌, nat_lt, ◌^◌, ◌&&◌}
pub use Rattle.std.proofs.lemmas.Bool.{cases_Bool, cases_lt, lt-ltb, le-ltb, or_left, or_right, or_from}
pub use Rattle.std.proofs.lemmas.List.{append-nil, map-append, length-drop, length-take, length-append, take-append-drop, take_at, drop_at}
pub use Rattle.std.specs.List.{All, list_all}
pub use Rattle.std.specs.Prelude.{IfSome, option_and_then, IsOkAnd, unwrap_or}
pub use Rattle.text_places.proofs.Moves.{line-within, column-within}
pub use Rattle.text_places.specs.Place.{place_at}
unfoldable pub use Rattle.text_places.specs.Place.{place_behind}
pub use Rattle.text_places.specs.declared.place.Place.{Place}
pub use Rattle.ir_lexer.specs.Answer.{Fails, Stops, IsNext}
pub use Rattle.ir_lexer.specs.Bytes.{is_name_byte, is_blank, is_digit, begins_word, begins_name, is_hexadecimal_digit, is_float_kind, is_sign, is_inside_quotes, is_mark_byte, is_lone_mark, begins_plain_word, begins_number}
pub use Rattle.ir_lexer.specs.Lexeme.{Lexeme}
pub use Rattle.ir_lexer.specs.Marks.{IsMark, lexeme_of, mark_of}
pub use Rattle.ir_lexer.specs.Parts.{behind, nothing, one, byte, many, some, behind_one, maybe}
pub use Rattle.ir_lexer.specs.Position.{Position, tokens_left, start_of, IsWithin, IsToken, Reads, bytes_before, Here}
pub use Rattle.ir_lexer.specs.Scan.{name_run, word_or_label, ◌>>=◌, after_one, after_byte, after_some, shorter}
unfoldable pub use Rattle.ir_lexer.specs.Scan.{after_digits, after_number, after_word, after_quoted, after_plain_name, after_name, after_named, after_tagged, after_caret, after_plain_label, after_quoted_label, after_label, after_exponent, after_float, after_hexadecimal, after_string, after_dots, after_mark, longer, front_token, number_token}
pub use Rattle.ir_lexer.specs.Tokens.{Spot, with_front, lexed, behind_blanks, longest_token, with_token}
unfoldable pub use Rattle.ir_lexer.specs.Tokens.{tokens_of, longest}
pub use Rattle.ir_lexer.specs.declared.lexing.LexFault.{LexFault}
pub use Rattle.ir_lexer.specs.declared.lexing.LexFault.TheVariants.{NoToken, NoMemory}
pub use Rattle.ir_lexer.specs.declared.mark.Mark.{Mark}
pub use Rattle.ir_lexer.specs.declared.token.Kind.{Kind}
