-- What the terms of a getelementptr denote under an assignment of the variables.
use Rattle.std.specs.Prelude.{◌≡◌, ℕ, ◌<◌, ◌+◌, ◌*◌, ◌%◌, ◌^◌, Bool, true, List, map}
use Rattle.std.specs.List.{list_all}
use Rattle.memory_access.specs.declared.offsets.Index.{Index}
use Rattle.memory_access.specs.Offsets.{is_index, is_negative, is_nonzero}
use Rattle.bv_terms.specs.Tree.{extended_signed}
use Rattle.bv_terms.specs.declared.term.Term.{Term}
use Rattle.bv_terms.specs.Trees.{IsTerm, bit_at, term_at}
use Rattle.mem_terms.specs.Values.{Each, value_from}
use Rattle.access_terms.specs.declared.offsets.IndexTest.{IndexTest}
use Rattle.access_terms.specs.declared.offsets.IndexTest.TheVariants as test
use Rattle.access_terms.specs.declared.offsets.SymIndex.{SymIndex}

unfoldable pub index_at : (ℕ → ℕ → ℕ) → List Term → SymIndex → Index
index_at v terms i = record { value = value_from (bit_at v terms i.poison) (term_at v terms i.number); width = i.width; scale = i.scale }

abbrev pub indices_at : (ℕ → ℕ → ℕ) → List Term → List SymIndex → List Index
indices_at v terms indices = map (index_at v terms) indices

pub record IsSymIndex (terms : List Term) (i : SymIndex) : Type 0 where
  pub poison : IsTerm terms 1 i.poison
  pub number : IsTerm terms i.width.bits i.number
  pub scale : i.scale < 2 ^ 32

abbrev pub AreSymIndices : List Term → List SymIndex → Type 0
AreSymIndices terms indices = Each (IsSymIndex terms) indices

-- no index is poison
abbrev pub AreNumbers : (ℕ → ℕ → ℕ) → List Term → List SymIndex → Type 0
AreNumbers v terms indices = list_all is_index (indices_at v terms indices) ≡ true

abbrev pub passes : IndexTest → Index → Bool
passes test.IsNonzero = is_nonzero
passes test.IsNegative = is_negative

-- the sum of an offset and a number of n bits times the scale, in a width
unfoldable pub walked_sum : (width n offset number scale : ℕ) → ℕ
walked_sum width n offset number scale =
    (offset + (extended_signed n width number * scale) % 2 ^ width) % 2 ^ width
