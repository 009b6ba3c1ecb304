-- What proofs of this crate cite of std, of other crates and of its definitions, passed on from one place. Declares nothing.
pub use Rattle.std.proofs.Common.{ℕ, ◌≡◌, ◌<◌, List, [], ◌∷◌, ◌++◌, length, map, Contains, append_assoc, append-nil, subst, sym, ap, ◌∙◌, refl, inl, inr, ⊎_elim, arith, ◌≢◌, ◌⊎◌, ◌≤◌, ◌+◌, ◌-◌, ◌==◌, ◌/◌, ◌%◌, ◌&&◌, ◌||◌, Bool, true, false, cond, not, eqb, take, codes, All, count_by, ne_eqb, sum_by, length-append, take_at, ap₂, replicate, ◌^◌, get_or, slice_get, Some, None, Ok, Err, Result, MatchResult, eq-zero-or-pos, drop, true≢false, Option, Bor, IfSome, MatchOption, zero, suc, slice_index_or, rules}
pub use Rattle.std.proofs.lemmas.Bool.{and_parts}
pub use Rattle.std.proofs.lemmas.Bool.Decides.{nat_tests, Decides-eqb}
pub use Rattle.std.proofs.lemmas.Fmt.{decimal_injective, IsAscii-from_digits, decimal-digits_value, decimal_digit, decimal_is_IsNumeral, decimal_nonempty, first_decimal, parse-decimal}
pub use Rattle.std.proofs.lemmas.Grind.{flat_map-append}
pub use Rattle.std.proofs.lemmas.List.{map-append, append_cancel_left, append_cancel_right, length-replicate, same_from_push, length_push, take_rest}
pub use Rattle.std.proofs.lemmas.List.Elements.{All-append, All-cons, All-contains, All-head, All-map, All-nil, All-tail, All-weaker, Contains-append_cases, Contains-append_right, All-replicate, All-push, All-from_get_or}
pub use Rattle.std.proofs.lemmas.Result.{err_from_is_err_and}
pub use Rattle.std.proofs.lemmas.Slice.Eq.{slice_eq-Decides, strip_prefix_is, strip_suffix_is}
pub use Rattle.std.specs.Fmt.{decimal}
pub use Rattle.std.specs.List.{flat_map, list_all, list_any}
pub use Rattle.clause_lits.specs.declared.lit.Lit.{Lit}
pub use Rattle.clause_log.specs.declared.step.Step.{Step}
pub use Rattle.ir_naming.specs.Naming.{escaped, hex_byte, hex_digit, is_bare, is_digit, is_name_byte, is_plain, quoted, name_text}
pub use Rattle.ir_tree.specs.declared.name.Name.TheVariants.{Word}
pub use Rattle.proof_text.specs.Following.{IsStopped, IsStuck, IsWrong, Leads, Lines, Moves, File, Clauses, Counts, Limits, Log, Rest, Rows, Steps, first_line}
pub use Rattle.proof_text.specs.Format.{ended, IsClauseOver, IsHead, IsPart, IsPrintedName, IsProof, IsSmall, IsSpellable, IsStepOver, clause_line, counts_line, head_line, head_lines, literal_text, log_line, part_lines, proof_lines, row_line, spaced, status_text, step_line, cert_lines, part_of, proof_with, with_parts, IsPrintedNumber}
pub use Rattle.proof_text.specs.Words.{Parts, IsChain, IsNamed, chain_text}
pub use Rattle.proof_text.specs.declared.part.Part.{Part}
pub use Rattle.proof_text.specs.declared.part.Head.{Head}
pub use Rattle.proof_text.specs.declared.part.Proof.{Proof}
