-- What proofs of this crate cite of std, of other crates and of its definitions, passed on from one place. Declares nothing.
pub use Rattle.std.proofs.Common.{◌≡◌, ℕ, refl, List, [], Option, Some, None, codes, ◌++◌, ◌&&◌, Bool, true, false, true≢false, cond, sym, ap, subst, ◌∙◌, ◌∷◌, append_assoc, ◌≢◌, option_map, ap₂, inl, inr, ◌||◌, ◌+◌, min, ◌==◌, arith, length, take, slice_get, IsUtf8, encode_utf8_all, not, ◌≤◌, nat_lt, nat_le, lt-ltb, ltb-true, is_some, map, fold, ◌⊎◌, String, string_bytes, if◌then◌else◌, append-nil}
pub use Rattle.std.proofs.lemmas.Option.{same_Some}
pub use Rattle.std.proofs.Math.Bool.{and-false}
pub use Rattle.std.proofs.lemmas.Bool.{eqb-true, leb-true, le-leb, and_parts, or_parts}
pub use Rattle.std.proofs.lemmas.Slice.Eq.{bytes_eq-Decides, slice_eq-Decides}
pub use Rattle.std.proofs.lemmas.Str.{encodes-chars, IsUtf8-string_bytes}
pub use Rattle.std.specs.Char.{digit_value}
unfoldable pub use Rattle.std.specs.Char.{encode_utf8}
pub use Rattle.std.specs.List.{list_any, position_or_len, before_first, list_all}
pub use Rattle.std.specs.Prelude.{Box, option_and_then}
pub use Rattle.std.specs.Str.{bytes_eq, chars_after, continuation_len, lead_bits}
unfoldable pub use Rattle.std.specs.Str.{chars}
pub use Rattle.std.specs.Str.Parse.{AllDigits, IsNumeral, digits_value, without_leading_plus}
unfoldable pub use Rattle.clap.proofs.OnLiterals.{clap_on_literals}
pub use Rattle.clap.proofs.WalkLemmas.{walk_stopped, first_value-rows, one_text-rows}
pub use Rattle.clap.specs.Faults.{check_fault, repeat_fault, use_fault, default_fault, entered_fault, level_fault, settle_fault, turn_fault}
unfoldable pub use Rattle.clap.specs.Faults.{defaults_fault, flags_fault, walk_fault}
pub use Rattle.clap.specs.Kinds.{or_else, check_kinds}
pub use Rattle.clap.specs.Lexer.{usize_max, long_of, short_of}
pub use Rattle.clap.specs.Simple.{Shape, subcommand_rows, built, built_leaf, filled, inherited, marked_built, on_top, with_index, with_leaf_noted, App, entered, app_of_fields}
pub use Rattle.clap.specs.Walk.{arg_by_id, arg_by_index, arg_by_long, arg_by_short, is_append, action_of, most_values, takes_several, takes_values, used, with_values, without, Held, Names, Walk, finished, has_row, nothing_held, rows_after, settled, walk, walk_from, with_default, Waiting, idle, is_pending, at_row, more_values}
unfoldable pub use Rattle.clap.specs.Walk.{walked}
pub use Rattle.clap.specs.Words.{Row, HasKind, Kinds, fault_of, one_of, is_simple, is_simple_and_free, subcommand_of, Rule, first_of, found_of, rows_of, app_of, subcommand_rows_of, with_rule, new_app, with_subcommand}
pub use Rattle.clap.specs.declared.builder.value_parser.Reading.TheVariants.{AsWritten}
pub use Rattle.clap.specs.declared.parser.matches.ValueSource.TheVariants.{CommandLine, DefaultValue}
pub use Rattle.points.specs.declared.point.Bounds.{Bounds}
pub use Rattle.points.specs.declared.point.Budget.{Budget}
pub use Rattle.tv_cli.specs.Walked.{bounds_in_rows, budget_in_rows, unless_fault, job_in_rows, job_walked, tv_app, check_app, log_app, make_app, flag_rule, name_rule, option_rule, is_set, check_in_rows, check_of_names, make_in_rows, number_or_usual}
pub use Rattle.tv_cli.specs.Words.{Text, bounds_with, budget_with, number_once, turns_range, blocks_range, bytes_range, rounds_range, conflicts_range, weight_range, Part, are_known, flag_once, flags, is_flag, is_option, names_in, values_in, check_options, make_options, Kind, kind_of, kind_behind, is_equals, Check, check_in_parts, check_named, check_with, text_once, workers_range, number_within, Make, Job, file_in_parts, job_of, make_in_parts, parts_of, make_named, make_with, seed_range, functions_range, insts_range, parts_from, value_from, with_part}
pub use Rattle.tv_cli.specs.Words.Job.{check, log, make}
pub use Rattle.tv_cli.specs.Words.Kind.{end, attached, separate, dashed, plain}
pub use Rattle.tv_cli.specs.Words.Part.{option, flag, name}
pub use Rattle.tv_cli.specs.declared.number.Range.{Range}
