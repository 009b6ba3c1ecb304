-- A width is its number of bits.
use Rattle.ir_words.proofs.Common.{◌≡◌, ℕ, ◌≤◌, ◌^◌, Bool, true, false, leb, ltb, cond, Some, None, refl, sym, ap, subst, ◌∙◌, arith, le-leb, leb-true, lt-ltb, width_when, width_of, some_below}
use Rattle.std.proofs.Math.Bridge.{le_prop}
use Rattle.tv_num.specs.declared.Width.{Width}

abbrev made : (n : ℕ) → 1 ≤ n → n ≤ 64 → Width
made n low high = record { bits = n; at_least_1 = low; at_most_64 = high }

made-same : (n : ℕ) (a b : 1 ≤ n) (c d : n ≤ 64) → made n a c ≡ made n b d
made-same n a b c d = ap (λ (x : 1 ≤ n). made n x c) (le_prop a b) ∙ ap (λ (y : n ≤ 64). made n b y) (le_prop c d)

made-of : (n : ℕ) (a : 1 ≤ n) (c : n ≤ 64) (w : Width) → w.bits ≡ n → made n a c ≡ w
made-of n a c w e = sym (subst (λ (m : ℕ). (b : 1 ≤ m) (d : m ≤ 64) → w ≡ made m b d) e (λ b d. made-same w.bits w.at_least_1 b w.at_most_64 d) a c)

pub width_of-bits : (n : ℕ) (w : Width) → w.bits ≡ n → width_of n ≡ Some w
unfolding width_of
width_of-bits n w e = go (leb 1 n) (leb n 64) refl refl
  where
    go : (low high : Bool) (l : leb 1 n ≡ low) (h : leb n 64 ≡ high) → width_when n low high l h ≡ Some w
    go true true l h = ap (λ (v : Width). Some v) (made-of n (leb-true 1 n l) (leb-true n 64 h) w e)
    go false high l h = let low : 1 ≤ n = subst (λ (m : ℕ). 1 ≤ m) e w.at_least_1 in let t = le-leb 1 n low in absurd (cc (t, l))
    go true false l h = let high : n ≤ 64 = subst (λ (m : ℕ). m ≤ 64) e w.at_most_64 in let t = le-leb n 64 high in absurd (cc (t, h))

pub width_of-none : (n : ℕ) → (1 ≤ n → n ≤ 64 → ⊥) → width_of n ≡ None
unfolding width_of
width_of-none n out = go (leb 1 n) (leb n 64) refl refl
  where
    go : (low high : Bool) (l : leb 1 n ≡ low) (h : leb n 64 ≡ high) → width_when n low high l h ≡ None
    go true true l h = absurd (out (leb-true 1 n l) (leb-true n 64 h))
    go false high l h = refl
    go true false l h = refl

pub some_below-is : (limit n v : ℕ) → Some v ≡ some_below limit n → v ≡ n
some_below-is limit n v e = go (ltb n limit) e
  where
    go : (b : Bool) → Some v ≡ cond b (Some n) None → v ≡ n
    go true e' = cc e'
    go false e' = absurd (cc e')

pub width_of-past : (n : ℕ) → None ≡ some_below (2 ^ 64) n → None ≡ width_of n
width_of-past n e = sym (width_of-none n (λ low high. go (ltb n (2 ^ 64)) (lt-ltb n (2 ^ 64) (omega arith)) e))
  where
    go : (b : Bool) → b ≡ true → None ≡ cond b (Some n) None → ⊥
    go true t e' = cc e'
    go false t e' = cc t

pub width_of-out : (n v : ℕ) → Some v ≡ some_below (2 ^ 64) n → (1 ≤ v → v ≤ 64 → ⊥) → None ≡ width_of n
width_of-out n v e out = let same : v ≡ n = some_below-is (2 ^ 64) n v e in sym (width_of-none n (λ low high. out (rw same low) (rw same high)))

pub same_width : (v w : Width) → v.bits ≡ w.bits → v ≡ w
same_width v w e = let a : width_of v.bits ≡ Some v = width_of-bits v.bits v refl in let b : width_of v.bits ≡ Some w = width_of-bits v.bits w (sym e) in let both : Some v ≡ Some w = sym a ∙ b in cc both
