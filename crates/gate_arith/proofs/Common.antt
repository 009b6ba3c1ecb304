-- What proofs of this crate cite of std, of other crates and of its definitions, passed on from one place. Declares nothing.
pub use Rattle.std.proofs.Common.{ℕ, zero, suc, ◌≡◌, ◌<◌, ◌≤◌, ◌+◌, ◌-◌, ◌*◌, ◌/◌, ◌%◌, ◌^◌, ◌++◌, Bool, true, false, cond, List, [], ◌∷◌, get_or, take, drop, map, min, replicate, length, arith, sym, ap, subst, refl, ◌∙◌, length-append, inl, inr, not, ◌||◌, ◌&&◌, reverse, Some, All}
pub use Rattle.std.proofs.Math.Nat.{pow-suc, div-eq_of_lt, mod-eq_of_lt, mul-mod_left, add-mul-mod_self_right, mod-le, zero-mod, mod-add-mod, add-mod-mod}
pub use Rattle.std.proofs.Math.Pow.{pow_mono}
pub use Rattle.std.proofs.lemmas.Bool.{le-leb, lt-leb, cases_eq, eq-eqb, ne_eqb, cases_lt, le-ltb, lt-ltb}
pub use Rattle.std.proofs.lemmas.List.{length-map, length-take, length-drop, length-replicate, map-append, take-append-drop, map_push, take_more, take_all, drop_more, drop_all, length-take-le, length-reverse, reverse-append, append_assoc, append-nil, get_or_push, get_or_append_left, take-append-le, take_rest}
pub use Rattle.std.proofs.lemmas.Nat.{pow-add, pow_pos, shr_high, mod_low, field_of, and_le_l, and_le_r, shl-shr, shr-shr, mod-pow-add, mul-mod_first, and_block, or_block, xor_block, div-add-mod', div-mul-add, mod-mul-add, mod_below}
pub use Rattle.std.specs.Prelude.{nat_le, nat_eq, nat_lt, bit_xor, bit_and}
pub use Rattle.bv_terms.specs.Tree.{digit, extended_signed, is_negative, is_less_signed, truth, shifted_right, shifted_signed, quotient, remainder}
pub use Rattle.gates.proofs.Stages.{IfOk-then}
pub use Rattle.gates.specs.Values.{Keeps, Makes, Grows, exclusive, inputs_of, IsInput}
unfoldable pub use Rattle.gates.specs.Values.{gate_at}
pub use Rattle.gates.specs.declared.circuit.Gate.{Gate}
pub use Rattle.gates.specs.declared.circuit.GateId.{GateId}
pub use Rattle.gate_arith.specs.Adder.{IsDifference, IsFullSum}
pub use Rattle.gate_arith.specs.Numbers.{AreGates, Writes, number_at, number_of, IsSum, AreFresh}
pub use Rattle.gate_arith.specs.declared.bitwise.BitOp.TheVariants.{And, Or, Xor, Choose}
