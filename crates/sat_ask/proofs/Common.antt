-- What proofs of this crate cite of std, of other crates and of its definitions, passed on from one place. Declares nothing.
pub use Rattle.std.proofs.Common.{ℕ, suc, ◌≡◌, ◌<◌, ◌≤◌, ◌+◌, ◌-◌, Bool, true, false, ◌&&◌, ◌||◌, List, [], ◌∷◌, ◌++◌, length, map, take, drop, get_or, slice_get, Option, Some, refl, ap, sym, subst, ◌∙◌, arith, ◌*◌, ◌^◌, inl, inr, All, length-append, zero, ◌%◌, cond, ◌≢◌}
pub use Rattle.std.proofs.Math.Seq.{take-append_seam, drop-append_seam}
pub use Rattle.std.proofs.lemmas.Bool.{cases_eq, cases_Bool, eq-eqb, cases_lt, and_from}
pub use Rattle.std.proofs.lemmas.List.{length-take-le, get_or-take, drop_more, drop_all, get_or_push, get_or_append_left, length-map, map-append, map_push, take_more, get_or-set_same, get_or-set_other, get_or-replicate, get_or_past, length-replicate, length-set}
pub use Rattle.std.proofs.lemmas.Option.{slice_get-get_or, get_or_from_slice_get, slice_get_within}
pub use Rattle.bit_blast.proofs.Standing.{operands-within}
pub use Rattle.bit_blast.specs.Table.{Blasted, Follows, Adds, Agrees, AreDigits, IsTable, all_digits, digits_of}
pub use Rattle.bit_blast.specs.Written.{operands, HasVariable}
pub use Rattle.bv_terms.proofs.Stages.{tree-stored, within-more}
pub use Rattle.bv_terms.specs.Tree.{Tree, digit, truth, width_of}
pub use Rattle.bv_terms.specs.Trees.{AreFit, IsFit, tree_in, tree_of, trees_from, AreDistinct, bit_at, IsWithin, tree_at}
unfoldable pub use Rattle.bv_terms.specs.Trees.{trees_of}
pub use Rattle.bv_terms.specs.declared.term.Term.{Term}
pub use Rattle.bv_terms.specs.declared.term.TermId.{TermId}
pub use Rattle.bv_terms.specs.declared.variable.Variable.{Variable}
pub use Rattle.clause_lits.specs.declared.cnf.Cnf.{Cnf}
pub use Rattle.clause_search.specs.Outcome.{IsAnswer, IsLeast, IsLess}
pub use Rattle.clause_search.specs.declared.answer.Answer.{Answer}
pub use Rattle.gate_arith.specs.Numbers.{number_at, number_of}
pub use Rattle.gates.specs.Encoding.{AreAllNamed, Encodes, HasOneModelAFront}
unfoldable pub use Rattle.gates.specs.Values.{gate_at}
pub use Rattle.gates.specs.declared.circuit.Gate.{Gate}
pub use Rattle.gates.specs.declared.circuit.GateId.{GateId}
pub use Rattle.sat_ask.specs.Asks.{Asks, IsLeastOf, NonePass, UsesEachStepOf}
pub use Rattle.sat_ask.specs.Cones.{AreKnown, IsCone, IsGoal, IsMarked, marked}
pub use Rattle.sat_ask.specs.Questions.{Mentions, AreDifferent, HasAll, IsVariable, assigned_by, digit_count, goal_test, variable_of, variables_of}
