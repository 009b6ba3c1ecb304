-- What values at a width denote under an assignment of the variables.
use Rattle.std.specs.Prelude.{ℕ, List}
use Rattle.byte_block.specs.declared.value.Value.{Value}
use Rattle.bv_terms.specs.declared.term.Term.{Term}
use Rattle.bv_terms.specs.Trees.{IsTerm, bit_at, term_at}
use Rattle.mem_terms.specs.Values.{value_from}
use Rattle.inst_terms.specs.declared.narrow.NarrowValue.{NarrowValue}

abbrev pub narrow_at : (ℕ → ℕ → ℕ) → List Term → NarrowValue → Value
narrow_at v terms s = value_from (bit_at v terms s.poison) (term_at v terms s.number)

pub record IsNarrow (terms : List Term) (width : ℕ) (s : NarrowValue) : Type 0 where
  pub poison : IsTerm terms 1 s.poison
  pub number : IsTerm terms width s.number
