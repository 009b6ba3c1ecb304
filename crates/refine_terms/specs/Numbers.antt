-- The numbers that the terms of a point denote, in the order of its code.
use Rattle.std.specs.Prelude.{ℕ, ◌≡◌, List, [], ◌∷◌, ◌++◌, length, map}
use Rattle.std.specs.List.{flat_map}
use Rattle.points.specs.declared.point.Shape.{Shape}
use Rattle.bv_terms.specs.declared.term.Term.{Term}
use Rattle.bv_terms.specs.Trees.{IsTerm, term_at}
use Rattle.mem_terms.specs.declared.inputs.ArgTerms.{ArgTerms}
use Rattle.mem_terms.specs.declared.inputs.ArgTerms.TheVariants as arg
use Rattle.mem_terms.specs.declared.inputs.ByteTerms.{ByteTerms}
use Rattle.mem_terms.specs.declared.inputs.InputTerms.{InputTerms}
use Rattle.mem_terms.specs.declared.inputs.TapeTerms.{TapeTerms}
use Rattle.mem_terms.specs.Values.{Each}
use Rattle.mem_terms.specs.Inputs.{IsInput, words_at}

-- ---- the numbers

abbrev pub arg_numbers : (ℕ → ℕ → ℕ) → List Term → ArgTerms → List ℕ
arg_numbers v terms (arg.Int flag number) = term_at v terms flag ∷ term_at v terms number ∷ []
arg_numbers v terms (arg.Ptr flag block offset) = term_at v terms flag ∷ term_at v terms block ∷ term_at v terms offset ∷ []

abbrev pub byte_numbers : (ℕ → ℕ → ℕ) → List Term → ByteTerms → List ℕ
byte_numbers v terms b = term_at v terms b.kind ∷ term_at v terms b.mask ∷ term_at v terms b.number ∷ term_at v terms b.block ∷ term_at v terms b.offset ∷ term_at v terms b.part ∷ []

-- a block's contents, one byte after the other
abbrev pub block_numbers : (ℕ → ℕ → ℕ) → List Term → List ByteTerms → List ℕ
block_numbers v terms places = flat_map (byte_numbers v terms) places

-- the arguments, the sizes of the given blocks, their contents, and the tape
abbrev pub numbers_at : (ℕ → ℕ → ℕ) → List Term → InputTerms → TapeTerms → List ℕ
numbers_at v terms input tape =
    flat_map (arg_numbers v terms) input.args
    ++ (map (term_at v terms) input.sizes ++ (flat_map (block_numbers v terms) input.places ++ words_at v terms tape.words))

-- ---- the terms of a shape

abbrev pub IsInputOf : Shape → List Term → InputTerms → Type 0
IsInputOf s terms input = IsInput s.parameters s.layout terms input

pub record IsTapeOf (s : Shape) (terms : List Term) (tape : TapeTerms) : Type 0 where
  pub count : length tape.words ≡ s.words
  pub words : Each (IsTerm terms 64) tape.words
