-- The numbers of the integer arguments, as terms.
use Rattle.std.specs.Prelude.{ℕ, List, [], ◌∷◌}
use Rattle.std.specs.List.{flat_map}
use Rattle.bv_terms.specs.declared.term.Term.{Term}
use Rattle.bv_terms.specs.Trees.{term_at}
use Rattle.mem_terms.specs.declared.inputs.ArgTerms.{ArgTerms}
use Rattle.mem_terms.specs.declared.inputs.ArgTerms.TheVariants as arg

abbrev pub integer_at : (ℕ → ℕ → ℕ) → List Term → ArgTerms → List ℕ
integer_at v terms (arg.Int flag number) = term_at v terms number ∷ []
integer_at v terms (arg.Ptr flag block offset) = []

-- in a code the number at a poison flag is 0
abbrev pub integers_at : (ℕ → ℕ → ℕ) → List Term → List ArgTerms → List ℕ
integers_at v terms args = flat_map (integer_at v terms) args
