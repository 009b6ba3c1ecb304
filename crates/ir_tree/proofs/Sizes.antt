-- Sizes of nested arrays, from the innermost length outwards.
use Rattle.ir_tree.proofs.Common.{◌≡◌, ℕ, zero, suc, ◌+◌, ◌*◌, ◌%◌, ◌-◌, ◌<◌, ◌≤◌, List, [], ◌∷◌, length, drop, get_or, min, sym, ap, subst, ◌∙◌, arith, drop_more, IrType, nested_size, HasSmallArrays}
use Rattle.std.proofs.lemmas.Nat.{mul-mod_first}
use Rattle.std.proofs.Math.Nat.{mul_comm}

-- arrays within small ones are small
pub small_from : (lengths : List ℕ) (element : IrType) (i : ℕ) → HasSmallArrays lengths element → HasSmallArrays (drop i lengths) element
small_from lengths element zero small = small
small_from [] element (suc i) small = small
small_from (n ∷ lengths) element (suc i) small = small_from lengths element i small.1

-- the next size outwards
nested_more : (lengths : List ℕ) (element : IrType) (i : ℕ) → 0 < i → i ≤ length lengths → nested_size (drop (i - 1) lengths) element ≡ get_or lengths (i - 1) 0 * nested_size (drop i lengths) element
nested_more lengths element i some within =
    ap (λ (ns : List ℕ). nested_size ns element) (drop_more lengths (i - 1) 0 (omega (arith, some, within)))
    ∙ ap (λ (j : ℕ). get_or lengths (i - 1) 0 * nested_size (drop j lengths) element) (let e : i - 1 + 1 ≡ i = omega (arith, some) in e)

-- and what is left of it
pub cut_more : (lengths : List ℕ) (element : IrType) (i size m : ℕ) → 0 < i → i ≤ length lengths → size ≡ nested_size (drop i lengths) element % m
    → (size * get_or lengths (i - 1) 0) % m ≡ nested_size (drop (i - 1) lengths) element % m
cut_more lengths element i size m some within is =
    let n : ℕ = get_or lengths (i - 1) 0 in
    let inner : ℕ = nested_size (drop i lengths) element in
    ap (λ (k : ℕ). (k * n) % m) is ∙ (mul-mod_first inner n m ∙ (ap (λ (k : ℕ). k % m) (mul_comm inner n) ∙ ap (λ (k : ℕ). k % m) (sym (nested_more lengths element i some within))))

-- a product that was small was not cut off
pub small_more : (lengths : List ℕ) (element : IrType) (i size next : ℕ) → 0 < i → i ≤ length lengths → size ≡ nested_size (drop i lengths) element → next ≡ min (size * get_or lengths (i - 1) 0) 18446744073709551615 → next ≤ 1048576
    → next ≡ nested_size (drop (i - 1) lengths) element
small_more lengths element i size next some within is capped small =
    let n : ℕ = get_or lengths (i - 1) 0 in
    let e : size * n ≡ nested_size (drop (i - 1) lengths) element = ap (λ (k : ℕ). k * n) is ∙ (mul_comm (nested_size (drop i lengths) element) n ∙ sym (nested_more lengths element i some within)) in
    let product : ℕ = size * n in
    (let kept : next ≡ size * n = omega (arith, capped, small) in kept) ∙ e

-- arrays within small ones are small, so one that is not refutes all
pub large_at : (lengths : List ℕ) (element : IrType) (i size next : ℕ) → 0 < i → i ≤ length lengths → size ≡ nested_size (drop i lengths) element → next ≡ min (size * get_or lengths (i - 1) 0) 18446744073709551615 → 1048576 < next
    → HasSmallArrays lengths element → ⊥
large_at lengths element i size next some within is capped large small =
    let n : ℕ = get_or lengths (i - 1) 0 in
    let e : size * n ≡ nested_size (drop (i - 1) lengths) element = ap (λ (k : ℕ). k * n) is ∙ (mul_comm (nested_size (drop i lengths) element) n ∙ sym (nested_more lengths element i some within)) in
    let here = subst (λ (ns : List ℕ). HasSmallArrays ns element) (drop_more lengths (i - 1) 0 (omega (arith, some, within))) (small_from lengths element (i - 1) small) in
    let most : nested_size (drop (i - 1) lengths) element ≤ 1048576 = rw (drop_more lengths (i - 1) 0 (omega (arith, some, within))) here.0 in
    omega (arith, e, capped, large, most)

pub small_at : (lengths : List ℕ) (element : IrType) (i : ℕ) → 0 < i → i ≤ length lengths → nested_size (drop (i - 1) lengths) element ≤ 1048576 → HasSmallArrays (drop i lengths) element → HasSmallArrays (drop (i - 1) lengths) element
small_at lengths element i some within most inner =
    rw (drop_more lengths (i - 1) 0 (omega (arith, some, within)))
    (rw (drop_more lengths (i - 1) 0 (omega (arith, some, within))) at most, subst (λ (j : ℕ). HasSmallArrays (drop j lengths) element) (let e : i ≡ i - 1 + 1 = omega (arith, some) in e) inner)
