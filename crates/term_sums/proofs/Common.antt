-- What proofs of this crate cite of std, of other crates and of its definitions, passed on from one place. Declares nothing.
pub use Rattle.std.proofs.Common.{ap, ℕ, ◌≡◌, ◌<◌, ◌+◌, ◌-◌, ◌^◌, List, length, arith, ◌∙◌, sym, subst, ◌*◌, ◌%◌, zero, suc, ◌≤◌, [], ◌∷◌, ◌++◌, get_or, slice_get, Some, cond, refl, ◌/◌, false, Bool, true, eqb}
pub use Rattle.std.proofs.Math.Nat.{add-mod-mod, mod-add-mod, add-mod_right, mod-eq_of_lt, zero-mod, add-mul-mod_self_right, mod-lt}
pub use Rattle.std.proofs.lemmas.Bool.{eqb-true}
pub use Rattle.std.proofs.lemmas.Nat.{and_assoc, and_comm, and-not, and_or_self, or_comm, or_lt, mul-mod_second, div-add-mod'}
pub use Rattle.std.specs.Int.Bits.{and_zero_l, and_zero_r, or_add_and, and_self}
pub use Rattle.std.specs.Prelude.{bit_and, bit_or}
pub use Rattle.bv_terms.proofs.Keeping.{term_place}
pub use Rattle.bv_terms.proofs.Stages.{length-trees, tree-stored, trees-front, within-more}
pub use Rattle.bv_terms.specs.Tree.{Tree, value_of, width_of, shifted_left, quotient, remainder}
pub use Rattle.bv_terms.specs.Trees.{AreInRange, term_at, tree_in, AreFit, AreMatched, IsFit, IsWithin, tree_at, tree_of, trees_from, bit_at}
unfoldable pub use Rattle.bv_terms.specs.Trees.{trees_of}
pub use Rattle.bv_terms.specs.declared.term.Term.{Term}
pub use Rattle.bv_terms.specs.declared.term.TermId.{TermId}
pub use Rattle.known_values.specs.Weight.{weight_of}
pub use Rattle.term_sums.specs.Findings.{IsAndPart, IsOrPart}
