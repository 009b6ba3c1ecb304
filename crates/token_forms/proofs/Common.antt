-- What proofs of this crate cite of std, of other crates and of its definitions, passed on from one place. Declares nothing.
pub use Rattle.std.proofs.Common.{◌≡◌, ℕ, ◌⊎◌, inl, inr, Bool, true, false, List, [], ◌∷◌, ◌++◌, refl, sym, ap, subst, ◌∙◌, append_assoc, zero, suc, ◌≤◌, length, Option, Some, None, arith, cond, ◌≢◌, ◌-◌, take, drop, get_or, ◌<◌}
pub use Rattle.std.proofs.lemmas.List.{append-nil, length-append}
pub use Rattle.std.specs.Prelude.{◌||◌, not, ◌↔◌, Result, Ok, Err, is_some}
pub use Rattle.ir_lexer.specs.Lexeme.{Lexeme}
pub use Rattle.ir_tree.specs.declared.module.Reason.{Reason}
pub use Rattle.ir_tree.specs.declared.module.Reason.TheVariants.{Syntax}
pub use Rattle.token_forms.specs.Answer.{Fails, Reads}
pub use Rattle.token_forms.specs.Brackets.{nesting_of, is_same, IsBalanced, nothing, plain, nested, IsClosed, IsInnermost, same, deeper}
pub use Rattle.token_forms.specs.Form.{Why, unfit, Reading, reads, stops, never, Form, give, one, seq, upto, peek, tail, mapped, limit, and_then, Judged, none, past, found, judged, taken, token_of, first_of, peeked, begun, read, balanced, Class, one_of, beginning, begin_of, step_from, step_of, open_behind, either}
unfoldable pub use Rattle.token_forms.specs.Form.{until_closed, parts}
pub use Rattle.token_forms.specs.Refusals.{LeavesOpen, StaysOpen, Begins, Exceeds, ExceedParts, PassesLimit, StopsUnfit, StopsPast, RefusedAs, Misses, MissParts}
pub use Rattle.token_forms.specs.Spelling.{Token, part_value, part_begins, Spells, IsNone, SpellParts, Keeps}
pub use Rattle.token_forms.specs.declared.bracket.Bracket.{Bracket}
pub use Rattle.token_forms.specs.declared.fault.ReadFault.{ReadFault}
pub use Rattle.token_forms.specs.declared.fault.ReadFault.TheVariants.{Unfit, PastLimit, NoMemory}
