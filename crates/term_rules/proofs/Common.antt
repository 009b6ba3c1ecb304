-- What proofs of this crate cite of std, of other crates and of its definitions, passed on from one place. Declares nothing.
pub use Rattle.std.proofs.Common.{ap, ℕ, ◌≡◌, ◌<◌, ◌+◌, ◌-◌, ◌^◌, List, length, arith, ◌∙◌, sym, subst, ◌*◌, ◌%◌, zero, suc, ◌≤◌, [], get_or, slice_get, Some, cond, refl, ◌/◌, false, Bool, true, eqb, not, inl, inr, lit<}
pub use Rattle.std.proofs.Math.Nat.{add-mod-mod, mod-add-mod, mul_comm, add-mod_right, mod-eq_of_lt, pow-suc, div-eq_of_lt, div-one, zero-mod, mod_self, mod-le, mul-le-mul_right, mul-pos, mul-mod_left, mul-mod_right, mod-mod_of_dvd, div-div-eq-div-mul, div-le_self, div-eq_of_lt-le, mul-div_cancel, add-mul, add-mul-mod_self_right, lt_of_mul-lt-mul_right, mod-lt}
pub use Rattle.std.proofs.Math.Pow.{mod-mod-pow}
pub use Rattle.std.proofs.lemmas.Bool.{lt-ltb, lt-leb, leb-true, eqb-true, ne_eqb, cases_eq, cases_lt, le-leb, le-ltb, ltb-true}
pub use Rattle.std.proofs.lemmas.Nat.Gcd.{dvd_of_mod-eq-zero}
pub use Rattle.std.proofs.lemmas.Nat.{le-div, mod-mul-add, and_assoc, and_comm, and_or_self, or_comm, mul-mod_second, field_of, mod_low, mod-pow-add, pow_pos, shr-shr, shr_high, div-add-mod', pow-add, mul-add-lt, and_mod, mul-mod, or_mod, xor_mod, and_mask, xor_comm}
pub use Rattle.std.specs.Int.Bits.{and_zero_l, or_add_and, or_zero_l, and_self, or_self, xor_self, xor_add_and, or_zero_r, xor_assoc, xor_zero_r}
pub use Rattle.std.specs.Prelude.{bit_and, bit_or, nat_eq, nat_lt, bit_xor}
pub use Rattle.bv_terms.proofs.Stages.{length-trees, tree-same, width-tree, width-within}
pub use Rattle.bv_terms.specs.Tree.{Tree, value_of, width_of, shifted_left, extended_signed, is_negative, quotient, remainder, digit, is_less_signed, truth}
pub use Rattle.bv_terms.specs.Trees.{AreInRange, term_at, tree_in, Makes, AreFit, AreMatched, Extends, IsWithin, tree_of, term_width, trees_from, IsWidth, bit_at}
unfoldable pub use Rattle.bv_terms.specs.Trees.{trees_of}
pub use Rattle.bv_terms.specs.declared.term.Term.{Term}
pub use Rattle.bv_terms.specs.declared.term.TermId.{TermId}
pub use Rattle.known_values.proofs.Cuts.{pow-le}
pub use Rattle.known_values.specs.Weight.{weight_of}
pub use Rattle.term_rules.specs.Forms.{Simplifies, IsCofactor, IsFactored, IsPart, IsRest, IsMultiple, IsWhole, IsDivided, IsReduced, IsReducedFrom, IsTakenFrom, IsSign, IsSigned, IsMagnitude, IsSizes, IsSignedQuotient, IsSignedMultiple, signed_multiple, IsOpposite, IsTurned, IsWidened, IsShrunk, IsTaken, form_tree, IsLow, IsNarrowing, IsOperation, operated, IsSamePart, IsArm}
pub use Rattle.term_rules.specs.declared.widths.BitRange.{BitRange}
pub use Rattle.term_rules.specs.declared.form.Form.{Form}
pub use Rattle.term_rules.specs.declared.form.Form.TheVariants.{Known, Shifted, Built, Divided, Nonzero}
pub use Rattle.term_sums.specs.Findings.{IsAndPart, IsOrPart}
