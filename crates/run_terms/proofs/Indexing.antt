-- The indices of a getelementptr, one after another.
use Rattle.run_terms.proofs.Common.{ℕ, ◌≡◌, ◌<◌, ◌≤◌, ◌+◌, ◌++◌, ◌∷◌, [], ◌∙◌, List, length, drop, get_or, refl, ap, sym, append_assoc, append-nil, MemoryType, GepIndex, index_value, index_values, each-push, each-weaker, map-push, map-same, bit-later, term-later, is_term-later, SymIndex, AreSymIndices, IsSymIndex, index_at, indices_at, Value, Term, Keeps}
use Rattle.memory_access.specs.declared.offsets.Index.{Index}
use Rattle.run_terms.proofs.Accessing.{indices_end, indices_more}

module _ (old new : List Term) (k : Keeps old new) where
  sym_index-later : (i : SymIndex) → IsSymIndex old i → IsSymIndex new i
  sym_index-later i h = record { poison = is_term-later old new k 1 i.poison h.poison; number = is_term-later old new k i.width.bits i.number h.number; scale = h.scale }

  pub sym_indices-later : (is : List SymIndex) → AreSymIndices old is → AreSymIndices new is
  sym_indices-later is h = each-weaker (IsSymIndex old) (IsSymIndex new) is sym_index-later h

  index-later : (v : ℕ → ℕ → ℕ) (i : SymIndex) → IsSymIndex old i → index_at v new i ≡ index_at v old i
  unfolding index_at
  index-later v i h = rw (bit-later old new k v i.poison h.poison.within, term-later old new k v i.number h.number.within) refl

  pub indices-later : (v : ℕ → ℕ → ℕ) (is : List SymIndex) → AreSymIndices old is → indices_at v new is ≡ indices_at v old is
  indices-later v is h = map-same (IsSymIndex old) (index_at v new) (index_at v old) is (index-later v) h

-- one index more
pub pushed_made : (old new : List Term) (k : Keeps old new) (is : List SymIndex) (i : SymIndex) → AreSymIndices old is → IsSymIndex new i → AreSymIndices new (is ++ i ∷ [])
pushed_made old new k is i h hi = each-push (IsSymIndex new) is i (sym_indices-later old new k is h) hi

pub pushed_stands : (old new : List Term) (k : Keeps old new) (v : ℕ → ℕ → ℕ) (is : List SymIndex) (i : SymIndex) (registers : List Value) (type : MemoryType) (indices : List GepIndex) (n : ℕ) (index : GepIndex) (whole : List Index) → AreSymIndices old is
    → n < length indices → index ≡ get_or indices n index → index_at v new i ≡ index_value registers type n index
    → indices_at v old is ++ index_values registers type n (drop n indices) ≡ whole → indices_at v new (is ++ i ∷ []) ++ index_values registers type (n + 1) (drop (n + 1) indices) ≡ whole
pushed_stands old new k v is i registers type indices n index whole h lt at one so =
    let rest = index_values registers type (n + 1) (drop (n + 1) indices) in
    ap (λ (xs : List Index). xs ++ rest) (map-push (index_at v new) is i ∙ rw (indices-later old new k v is h, one) refl)
    ∙ (append_assoc (indices_at v old is) (index_value registers type n index ∷ []) rest
    ∙ (ap (λ (xs : List Index). indices_at v old is ++ xs) (sym (indices_more registers type indices n index lt at)) ∙ so))

pub all_stand : (v : ℕ → ℕ → ℕ) (terms : List Term) (is : List SymIndex) (registers : List Value) (type : MemoryType) (indices : List GepIndex) (n : ℕ) (whole : List Index) → length indices ≤ n
    → indices_at v terms is ++ index_values registers type n (drop n indices) ≡ whole → indices_at v terms is ≡ whole
all_stand v terms is registers type indices n whole past so =
    sym (append-nil (indices_at v terms is)) ∙ (ap (λ (xs : List Index). indices_at v terms is ++ xs) (sym (indices_end registers type indices n past)) ∙ so)
