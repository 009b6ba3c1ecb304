-- The test of nested arrays for their bytes.
use Rattle.ir_grammar.proofs.Common.{◌≡◌, ℕ, Bool, true, false, leb, List, [], ◌∷◌, refl, ◌&&◌, le-leb, leb-true, IrType, nested_size, HasSmallArrays, are_small_arrays}

pub small-arrays : (lengths : List ℕ) (element : IrType) → HasSmallArrays lengths element → are_small_arrays lengths element ≡ true
small-arrays [] element small = refl
small-arrays (n ∷ lengths) element (first, others) = rw (le-leb (nested_size (n ∷ lengths) element) 1048576 first, small-arrays lengths element others) refl

pub are-small : (lengths : List ℕ) (element : IrType) → are_small_arrays lengths element ≡ true → HasSmallArrays lengths element
are-small [] element e = tt
are-small (n ∷ lengths) element e = go (leb (nested_size (n ∷ lengths) element) 1048576) (are_small_arrays lengths element) refl (λ others. are-small lengths element others) e
  where
    go : (a b : Bool) → leb (nested_size (n ∷ lengths) element) 1048576 ≡ a → (b ≡ true → HasSmallArrays lengths element) → (a && b) ≡ true → HasSmallArrays (n ∷ lengths) element
    go true true first others e' = (leb-true (nested_size (n ∷ lengths) element) 1048576 first, others refl)
    go true false first others e' = absurd (cc e')
    go false b first others e' = absurd (cc e')

pub not-small-arrays : (lengths : List ℕ) (element : IrType) → (HasSmallArrays lengths element → ⊥) → are_small_arrays lengths element ≡ false
not-small-arrays lengths element not_small = go (are_small_arrays lengths element) refl
  where
    go : (b : Bool) → are_small_arrays lengths element ≡ b → b ≡ false
    go true e = absurd (not_small (are-small lengths element e))
    go false e = refl
