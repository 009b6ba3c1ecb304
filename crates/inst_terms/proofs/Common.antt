-- What proofs of this crate cite of std, of other crates and of its definitions, passed on from one place. Declares nothing.
pub use Rattle.std.proofs.Common.{ℕ, zero, suc, ◌≡◌, ◌<◌, ◌≤◌, ◌+◌, ◌-◌, ◌*◌, ◌/◌, ◌%◌, ◌^◌, Bool, not, cond, ◌&&◌, ◌||◌, nat_eq, nat_le, pos, negsuc, neg_ℤ, inl, inr, refl, ap, sym, ◌∙◌, arith, pow-add, pow_pos, subst, false, List, nat_lt, bit_and, bit_or, bit_xor, true, ◌≢◌, pow_mono, ℤ, Some}
pub use Rattle.std.proofs.Math.Nat.{mod-eq_of_lt, mul-mod_left, div-le_self, div-eq_of_lt, div-eq_of_lt-le, add-mod_right, mod_self, mod-le, zero-mod, mod-mod}
pub use Rattle.std.proofs.lemmas.Bool.{cases_lt, cases_eq, lt-ltb, le-leb, lt-leb, eq-eqb, ne_eqb, le-ltb, cases_Bool}
pub use Rattle.std.proofs.lemmas.Int.{ints}
pub use Rattle.std.proofs.lemmas.Nat.{mod_below, mod-pow-add, shl-shr, shr_split, div-mul-add, mod-mul-add, mul-le, shr_below, mul-lt, mul-mod}
pub use Rattle.std.specs.Prelude.{◌*ℤ◌, if◌then◌else◌, int_lt, int_le, ◌+ℤ◌, ◌-ℤ◌, int_div, int_rem}
pub use Rattle.bv_terms.specs.Tree.{extended_signed, shifted_left, shifted_right, shifted_signed, width_of, quotient, remainder, truth, is_less_signed}
pub use Rattle.bv_terms.specs.Trees.{Makes, Tests, IsTerm, AreInRange, term_at, tree_in, Keeps, bit_at}
pub use Rattle.bv_terms.specs.declared.term.Term.{Term}
pub use Rattle.bv_terms.specs.declared.term.TermId.{TermId}
pub use Rattle.byte_block.specs.declared.value.Value.{Value}
pub use Rattle.byte_block.specs.declared.value.Value.TheVariants.{Num}
pub use Rattle.ir_tree.specs.declared.tree.Flags.{Flags}
pub use Rattle.ir_tree.specs.declared.tree.Op.{Op}
pub use Rattle.ir_tree.specs.declared.tree.Op.TheVariants.{ShiftLeft, LogicalShiftRight, ArithmeticShiftRight, Add, Sub, Mul, UnsignedDiv, UnsignedRem, SignedDiv, SignedRem, And, Or, Xor}
pub use Rattle.mem_terms.proofs.Bits.{term-below}
pub use Rattle.mem_terms.proofs.Later.{bit-later, term-later, value-later, keeps_self, keeps_trans}
pub use Rattle.mem_terms.specs.Values.{value_from, IsSymNumber, IsSymValue, Reading, value_of, option_from}
unfoldable pub use Rattle.mem_terms.specs.Values.{number_at, value_at}
pub use Rattle.points.specs.Table.{is_negative, cast_number, is_flagged, have_two_signs, is_undefined, value_result, are_unlike, holds_of, compared, cast_value, selected, poison_if, has_no_quotient, is_least_or_poison, is_zero_or_poison, is_minus_1, defined_result}
unfoldable pub use Rattle.tv_num.specs.Width.{signed_of, wrapped, is_outside_signed, is_outside_unsigned}
pub use Rattle.inst_terms.specs.Narrow.{narrow_at, IsNarrow}
pub use Rattle.inst_terms.specs.Rows.{row_of, IsRow, is_sign_alone, magnitude, negated_if}
pub use Rattle.inst_terms.specs.declared.narrow.NarrowValue.{NarrowValue}
