-- What it means that a term of another store denotes a tree whose variables are replaced.
use Rattle.std.specs.Prelude.{ℕ, ◌≡◌, ◌<◌, cond, List, length, Option, Some}
use Rattle.std.specs.Map.{lookup}
use Rattle.std.specs.Option.{option_map_or}
use Rattle.bv_terms.specs.declared.term.TermId.{TermId}
use Rattle.bv_terms.specs.declared.term.Term.{Term}
use Rattle.bv_terms.specs.declared.variable.Variable.{Variable}
use Rattle.bv_terms.specs.Tree.{Tree, value_of, width_of}
use Rattle.bv_terms.specs.Trees.{IsTerm, Extends, term_at, tree_in}
use Rattle.bv_terms.specs.Variables.{is_variable}

-- the terms of a store, and for some variables the term of it that replaces each
pub record Substituting : Type 0 where
  pub terms : List Term
  pub replacements : List (Variable × TermId)

-- the term that replaces a variable
abbrev pub replacement_of : List (Variable × TermId) → Variable → Option TermId
replacement_of replacements x = lookup (is_variable x) replacements

-- the assignment that gives each variable the value of its replacement, and what it had where it has none
abbrev pub substituted : Substituting → (ℕ → ℕ → ℕ) → ℕ → ℕ → ℕ
substituted s v number width = option_map_or (term_at v s.terms) (replacement_of s.replacements (record { number = number; width = width })) (v number width)

-- a term of the store, as wide as the tree, whose value under each assignment is that of the tree under the substituted assignment
pub record IsSubstituted (s : Substituting) (tree : Tree) (id : TermId) : Type 0 where
  pub within : id.index < length s.terms
  pub wide : width_of (tree_in s.terms id) ≡ width_of tree
  pub says : (v : ℕ → ℕ → ℕ) → term_at v s.terms id ≡ value_of (substituted s v) tree

-- each replacement is a term of the store, as wide as its variable
abbrev pub AreReplacements : List Term → List (Variable × TermId) → Type 0
AreReplacements terms replacements = (x : Variable) (by : TermId) → replacement_of replacements x ≡ Some by → IsTerm terms x.width by

-- the one variable has this replacement, and each other what it had
abbrev pub Replaces : List (Variable × TermId) → List (Variable × TermId) → Variable → TermId → Type 0
Replaces old new x by = (y : Variable) → replacement_of new y ≡ cond (is_variable x y) (Some by) (replacement_of old y)

-- the store only grew, and each variable is given what it was
pub record Follows (old new : Substituting) : Type 0 where
  pub terms : Extends old.terms new.terms
  pub replacements : new.replacements ≡ old.replacements
  pub assigns : (v : ℕ → ℕ → ℕ) (number width : ℕ) → substituted new v number width ≡ substituted old v number width
