-- What proofs of this crate cite of std and of its definitions, passed on from one place. Declares nothing.
pub use Rattle.std.proofs.Common.{◌≡◌, ℕ, ◌+◌, ◌-◌, ◌*◌, ◌<◌, ◌≤◌, ◌^◌, List, [], ◌∷◌, length, get_or, drop, Some, None, refl, sym, ap, ◌∙◌, add-one, arith, drop-cons, true, Bool, false, leb, cond, subst, ltb}
pub use Rattle.std.proofs.lemmas.Bool.{le-ltb, lt-ltb, le-leb, leb-true}
pub use Rattle.ir_words.specs.Numbers.{value_after, value_of, some_below, width_when}
unfoldable pub use Rattle.ir_words.specs.Numbers.{width_of}
