-- Where a test of numbers first fails.
use Rattle.ir_tree.proofs.Common.{ℕ, ◌<◌, Some, None, arith, IsFirstFailure}

-- it fails here, and not before
pub failure : (Fails : ℕ → Type 0) (n : ℕ) → Fails n → ((k : ℕ) → k < n → Fails k → ⊥) → IsFirstFailure Fails (Some n)
failure Fails n here before = (here, λ k there. let late : k < n → ⊥ = λ below. before k below there in omega (arith, late))

-- it fails nowhere before an end, and nowhere else
pub no_failure : (Fails : ℕ → Type 0) (end : ℕ) → ((k : ℕ) → Fails k → k < end) → ((k : ℕ) → k < end → Fails k → ⊥) → IsFirstFailure Fails None
no_failure Fails end within before n there = before n (within n there) there
