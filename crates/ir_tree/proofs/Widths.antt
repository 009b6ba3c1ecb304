-- A width is its number of bits.
use Rattle.ir_tree.proofs.Common.{◌≡◌, ℕ, ◌≤◌, ap, subst, ◌∙◌, Width}
use Rattle.std.proofs.Math.Bridge.{le_prop}

abbrev made : (n : ℕ) → 1 ≤ n → n ≤ 64 → Width
made n low high = record { bits = n; at_least_1 = low; at_most_64 = high }

made-same : (n : ℕ) (a b : 1 ≤ n) (c d : n ≤ 64) → made n a c ≡ made n b d
made-same n a b c d = ap (λ (x : 1 ≤ n). made n x c) (le_prop a b) ∙ ap (λ (y : n ≤ 64). made n b y) (le_prop c d)

pub same_width : (v w : Width) → v.bits ≡ w.bits → v ≡ w
same_width v w e = subst (λ (m : ℕ). (b : 1 ≤ m) (d : m ≤ 64) → v ≡ made m b d) e (λ b d. made-same v.bits v.at_least_1 b v.at_most_64 d) w.at_least_1 w.at_most_64
