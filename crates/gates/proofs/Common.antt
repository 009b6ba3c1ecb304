-- What proofs of this crate cite of std, of other crates and of its definitions, passed on from one place. Declares nothing.
pub use Rattle.std.proofs.Common.{All, ℕ, zero, suc, ◌≡◌, ◌≢◌, ◌<◌, ◌≤◌, ◌+◌, ◌-◌, ◌++◌, inl, inr, Bool, false, List, [], ◌∷◌, get_or, slice_get, Some, length, arith, sym, ap, subst, refl, ◌∙◌, length-append, ◌↔◌, true, drop, take, map, ◌⊎◌, not, ◌&&◌, cond, append-nil, ◌||◌}
pub use Rattle.std.proofs.lemmas.Bool.{cases_eq, cases_lt, eqb-true}
pub use Rattle.std.proofs.lemmas.List.{get_or_push, get_or_append_left, get_or-set_same, get_or-set_other, get_or-replicate, get_or_past, length-replicate, length-set, length-map, get_or-map, get_or-take, drop_more, take_all}
pub use Rattle.std.proofs.lemmas.Option.{slice_get_within, slice_get-get_or}
pub use Rattle.std.specs.Prelude.{Contains, slice_set, replicate, Result, Ok, Err, IfOk, OnOk}
pub use Rattle.clause_lits.specs.Meaning.{IsModel, clauses_true, lit_true, AreWithin, clause_true, opposite_of}
pub use Rattle.clause_lits.specs.declared.lit.Lit.{Lit}
pub use mathlib.Core.Bool.{beq}
pub use Rattle.gates.specs.Cone.{IsCone, IsMarked, operands, IsNeeded, marked}
pub use Rattle.gates.specs.Cone.IsNeeded.{output, operand}
pub use Rattle.gates.specs.Encoding.{AreInputs, AreAllNamed, Encodes, Extends}
pub use Rattle.gates.specs.Facts.{AreFacts, IsFact, gate_fact}
pub use Rattle.gates.specs.Numbering.{AreApart, AreNumbered, HasNumber, IsNumbering, IsNumberingOf, IsPartNumbering}
pub use Rattle.gates.specs.Values.{AreFit, IsFit, inputs_of, gate_value, values_from, exclusive, value_at, IsInput, Keeps, Grows, Makes}
unfoldable pub use Rattle.gates.specs.Values.{values_of, gate_at}
pub use Rattle.gates.specs.declared.circuit.Gate.{Gate}
pub use Rattle.gates.specs.declared.circuit.Gate.TheVariants.{Input, Zero, And, Xor, Choose}
pub use Rattle.gates.specs.declared.circuit.GateId.{GateId}
