-- What gates are where signs and equal operands decide it.
use Rattle.gates.proofs.Common.{ℕ, ◌≡◌, ◌<◌, ◌+◌, ◌⊎◌, inl, inr, Bool, true, false, not, ◌&&◌, cond, List, [], Some, get_or, slice_get, length, arith, sym, ap, refl, ◌∙◌, beq, eqb-true, GateId, Gate, And, Xor, Choose, exclusive, gate_at, gate_value, values_from, values_of, AreFit, Keeps, Makes}
use lib.Dec.{eqb}
use Rattle.gates.proofs.Stages.{value-stored}

pub negated_if-sign : (n o : Bool) → not (beq n o) ≡ exclusive o n
negated_if-sign true true = refl
negated_if-sign true false = refl
negated_if-sign false true = refl
negated_if-sign false false = refl

pub negated_if-value : (v : ℕ → Bool) (gs : List Gate) (a : GateId) (o : Bool)
    → gate_at v gs (record { index = a.index; negated = not (beq a.negated o) }) ≡ exclusive o (gate_at v gs a)
unfolding gate_at
negated_if-value v gs a o = go a.negated o (get_or (values_of v gs) a.index false)
  where
    go : (n o x : Bool) → exclusive (not (beq n o)) x ≡ exclusive o (exclusive n x)
    go true true true = refl
    go true true false = refl
    go true false x = refl
    go false true x = refl
    go false false x = refl

-- an and gate is 0 where an operand is
pub over-value : (v : ℕ → Bool) (gs : List Gate) (a b first second : GateId) → AreFit 0 gs → slice_get gs b.index ≡ Some (And first second)
    → (first ≡ a) ⊎ (second ≡ a) → gate_at v gs a ≡ false → gate_at v gs b ≡ b.negated
unfolding gate_at values_of
over-value v gs a b first second fit at is off =
    let zero_more : b.index ≡ 0 + b.index = omega arith in
    let stored = ap (λ k. get_or (values_from v [] gs) k false) zero_more ∙ value-stored v [] gs b.index (And first second) fit at in
    let one = λ (x : GateId). exclusive x.negated (get_or (values_from v [] gs) x.index false) in
    ap (λ x. exclusive b.negated x) (stored ∙ elim is [
      | inl e ↦ ap (λ x. x && one second) (ap one e ∙ off)
      | inr e ↦ ap (λ x. one first && x) (ap one e ∙ off) ∙ none (one first)
    ])
    ∙ plain b.negated
  where
    none : (x : Bool) → (x && false) ≡ false
    none true = refl
    none false = refl

    plain : (n : Bool) → exclusive n false ≡ n
    plain true = refl
    plain false = refl

-- what the test of two gates says
pub same_gate : (x y : GateId) → (eqb x.index y.index && beq x.negated y.negated) ≡ true → x ≡ y
same_gate x y h =
    let index : x.index ≡ y.index = eqb-true x.index y.index (left (eqb x.index y.index) (beq x.negated y.negated) h) in
    let negated : x.negated ≡ y.negated = same x.negated y.negated (right (eqb x.index y.index) (beq x.negated y.negated) h) in
    ap (λ (i : ℕ). record { index = i; negated = x.negated }) index ∙ ap (λ (n : Bool). record { index = y.index; negated = n }) negated
  where
    left : (a b : Bool) → (a && b) ≡ true → a ≡ true
    left true b e = refl
    left false b e = absurd (let w : ⊥ = cc in w)

    right : (a b : Bool) → (a && b) ≡ true → b ≡ true
    right true b e = e
    right false b e = absurd (let w : ⊥ = cc in w)

    same : (a b : Bool) → beq a b ≡ true → a ≡ b
    same true true e = refl
    same true false e = absurd (let w : ⊥ = cc in w)
    same false true e = absurd (let w : ⊥ = cc in w)
    same false false e = refl

-- gates at one index are equal or opposite
pub same-place : (v : ℕ → Bool) (gs : List Gate) (c a : GateId) → c.index ≡ a.index → gate_at v gs c ≡ true → gate_at v gs a ≡ beq c.negated a.negated
unfolding gate_at
same-place v gs c a same on =
    go c.negated a.negated (get_or (values_of v gs) a.index false) (ap (λ k. exclusive c.negated (get_or (values_of v gs) k false)) (sym same) ∙ on)
  where
    go : (x y z : Bool) → exclusive x z ≡ true → exclusive y z ≡ beq x y
    go true true true h = absurd (let w : ⊥ = cc in w)
    go true true false h = refl
    go true false true h = absurd (let w : ⊥ = cc in w)
    go true false false h = refl
    go false true true h = refl
    go false true false h = absurd (let w : ⊥ = cc in w)
    go false false true h = refl
    go false false false h = absurd (let w : ⊥ = cc in w)

pub opposite-place : (v : ℕ → Bool) (gs : List Gate) (a b : GateId) → a.index ≡ b.index → beq a.negated b.negated ≡ false → gate_at v gs a ≡ not (gate_at v gs b)
unfolding gate_at
opposite-place v gs a b same apart =
    ap (λ k. exclusive a.negated (get_or (values_of v gs) k false)) same ∙ go a.negated b.negated (get_or (values_of v gs) b.index false) apart
  where
    go : (x y z : Bool) → beq x y ≡ false → exclusive x z ≡ not (exclusive y z)
    go true true z h = absurd (let w : ⊥ = cc in w)
    go true false z h = refl
    go false true true h = refl
    go false true false h = refl
    go false false z h = absurd (let w : ⊥ = cc in w)

-- the exclusive or of gates at one index is known
pub exclusive-place : (v : ℕ → Bool) (gs : List Gate) (a b : GateId) → a.index ≡ b.index → not (beq a.negated b.negated) ≡ exclusive (gate_at v gs a) (gate_at v gs b)
unfolding gate_at
exclusive-place v gs a b same =
    go a.negated b.negated (get_or (values_of v gs) b.index false)
    ∙ ap (λ k. exclusive (exclusive a.negated (get_or (values_of v gs) k false)) (exclusive b.negated (get_or (values_of v gs) b.index false))) (sym same)
  where
    go : (x y z : Bool) → not (beq x y) ≡ exclusive (exclusive x z) (exclusive y z)
    go true true true = refl
    go true true false = refl
    go true false true = refl
    go true false false = refl
    go false true true = refl
    go false true false = refl
    go false false true = refl
    go false false false = refl

-- both signs of an exclusive or go to the result
pub xor-made : (old new : List Gate) (a b plain r : GateId) → Makes new plain (λ v. gate_value v (values_of v old) (Xor a.index b.index)) → r.index ≡ plain.index
    → ((v : ℕ → Bool) (gs : List Gate) → gate_at v gs r ≡ exclusive (not (beq a.negated b.negated)) (gate_at v gs plain))
    → Makes new r (λ v. exclusive (gate_at v old a) (gate_at v old b))
unfolding gate_at
xor-made old new a b plain r made index says = record {
  within = omega (arith, made.within);
  says = λ v.
      says v new ∙ (ap (exclusive (not (beq a.negated b.negated))) (made.says v)
      ∙ go a.negated b.negated (get_or (values_of v old) a.index false) (get_or (values_of v old) b.index false));
}
  where
    go : (m n x y : Bool) → exclusive (not (beq m n)) (exclusive x y) ≡ exclusive (exclusive m x) (exclusive n y)
    go true true true y = refl
    go true true false true = refl
    go true true false false = refl
    go true false true true = refl
    go true false true false = refl
    go true false false y = refl
    go false true true true = refl
    go false true true false = refl
    go false true false y = refl
    go false false x y = refl

-- the sign of a choice's first arm goes to the second and to the result
pub choose-made : (old new : List Gate) (c a b plain s r : GateId) → Makes new plain (λ v. gate_value v (values_of v old) (Choose c.index a.index s)) → c.negated ≡ false
    → ((v : ℕ → Bool) (gs : List Gate) → gate_at v gs s ≡ exclusive a.negated (gate_at v gs b)) → r.index ≡ plain.index
    → ((v : ℕ → Bool) (gs : List Gate) → gate_at v gs r ≡ exclusive a.negated (gate_at v gs plain))
    → Makes new r (λ v. cond (gate_at v old c) (gate_at v old a) (gate_at v old b))
unfolding gate_at
choose-made old new c a b plain s r made even second index says = record {
  within = omega (arith, made.within);
  says = λ v.
      let test = get_or (values_of v old) c.index false in
      let first = get_or (values_of v old) a.index false in
      says v new ∙ (ap (exclusive a.negated) (made.says v)
      ∙ (ap (λ x. exclusive a.negated (cond test first x)) (second v old)
      ∙ (go a.negated test first (gate_at v old b)
      ∙ ap (λ n. cond (exclusive n test) (exclusive a.negated first) (gate_at v old b)) (sym even))));
}
  where
    twice : (x : Bool) → not (not x) ≡ x
    twice true = refl
    twice false = refl

    go : (n t x y : Bool) → exclusive n (cond t x (exclusive n y)) ≡ cond t (exclusive n x) y
    go true true x y = refl
    go true false x y = twice y
    go false true x y = refl
    go false false x y = refl

-- values stay as gates are added twice
pub kept-twice : (v : ℕ → Bool) (old mid new : List Gate) (a : GateId) → Keeps old mid → Keeps mid new → a.index < length old → gate_at v new a ≡ gate_at v old a
kept-twice v old mid new a first second lt = second.kept v a (omega (arith, lt, first.longer)) ∙ first.kept v a lt
