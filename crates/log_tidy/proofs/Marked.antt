-- Which steps are marked, from the last one down.
use Rattle.log_tidy.proofs.Common.{ℕ, ◌≡◌, ◌+◌, ◌-◌, ◌++◌, ◌⊎◌, inl, inr, Bool, true, false, List, [], ◌∷◌, Some, length, get_or, slice_get, arith, sym, ap, subst, ◌∙◌, replicate, cases_eq, cases_lt, get_or-replicate, get_or_past, length-replicate, slice_get_within, Step, Has, AreMarked, IsBelow, IsMarked, IsMarking}

pub has-last : (xs : List ℕ) (x y : ℕ) → Has (xs ++ x ∷ []) y → Has xs y ⊎ Has (x ∷ []) y
has-last [] x y h = inr h
has-last (z ∷ zs) x y h = elim h [
  | inl e ↦ inl (inl e)
  | inr g ↦ elim (has-last zs x y g) [ inl k ↦ inl (inr k) | inr k ↦ inr k ]
]

pub has-left : (xs : List ℕ) (x y : ℕ) → Has xs y → Has (xs ++ x ∷ []) y
has-left [] x y h = absurd h
has-left (z ∷ zs) x y h = elim h [ inl e ↦ inl e | inr g ↦ inr (has-left zs x y g) ]

pub has-right : (xs : List ℕ) (x y : ℕ) → Has (x ∷ []) y → Has (xs ++ x ∷ []) y
has-right [] x y h = h
has-right (z ∷ zs) x y h = inr (has-right zs x y h)

-- the marks of one more number of the chain
pub marking-more : (count : ℕ) (chain : List ℕ) (number : ℕ) (old between new : List Bool) → IsMarking count chain old between → IsMarking count (number ∷ []) between new
    → IsMarking count (chain ++ number ∷ []) old new
marking-more count chain number old between new a b = record {
  long = b.long ∙ a.long;
  kept = λ k h. b.kept k (a.kept k h);
  own = λ k lt h. elim (has-last chain number (count + k + 1) h) [
    | inl g ↦ b.kept k (a.own k lt g)
    | inr g ↦ b.own k (omega (arith, lt, a.long)) g
  ];
  only = λ k h. elim (b.only k h) [
    | inl g ↦ elim (a.only k g) [ inl i ↦ inl i | inr i ↦ inr (has-left chain number (count + k + 1) i) ]
    | inr g ↦ inr (has-right chain number (count + k + 1) g)
  ];
}

clear : (n k : ℕ) → IsMarked (replicate n false) k → ⊥
clear n k e = elim (cases_lt k n) [
  | inl less ↦ (let z : true ≡ false = sym e ∙ get_or-replicate n k false false less in let w : ⊥ = cc in w)
  | inr more ↦ (let z : true ≡ false = sym e ∙ get_or_past (replicate n false) k false (omega (arith, more, length-replicate n false)) in let w : ⊥ = cc in w)
]

-- a step that isn't marked needs none
pub marks-skip : (count : ℕ) (log : List Step) (start : ℕ) (used : List Bool) → get_or used start false ≡ false → AreMarked count log (start + 1) used → AreMarked count log start used
marks-skip count log start used off m = record {
  long = m.long;
  last = m.last;
  closed = λ i k s le marked at has. elim (cases_eq i start) [
    | inl e ↦ absurd (let z : true ≡ false = sym marked ∙ (ap (λ n. get_or used n false) e ∙ off) in let w : ⊥ = cc in w)
    | inr ne ↦ m.closed i k s (omega (arith, le, ne)) marked at has
  ];
  needed = λ k h. elim (m.needed k h) [
    | inl e ↦ inl e
    | inr g ↦ inr (record { later = g.later; step = g.step; from = omega (arith, g.from); marked = g.marked; at = g.at; has = g.has })
  ];
}

-- and one that is marked needs those of its chain
pub marks-step : (count : ℕ) (log : List Step) (start : ℕ) (used marks : List Bool) (step : Step) → slice_get log start ≡ Some step → IsBelow count log start → IsMarked used start
    → IsMarking count step.chain used marks → AreMarked count log (start + 1) used → AreMarked count log start marks
marks-step count log start used marks step here below own marking m = record {
  long = marking.long ∙ m.long;
  last = marking.kept (length log - 1) m.last;
  closed = λ i k s le marked at has. elim (cases_eq i start) [
    | inl e ↦
        let same : s ≡ step = (let both : Some s ≡ Some step = sym at ∙ (ap (slice_get log) e ∙ here) in let z : s ≡ step = cc in z) in
        let its : Has step.chain (count + k + 1) = subst (λ (t : Step). Has t.chain (count + k + 1)) same has in
        marking.own k (omega (arith, m.long, below step (count + k + 1) here its, slice_get_within log start step here)) its
    | inr ne ↦ elim (marking.only i marked) [
      | inl was ↦ marking.kept k (m.closed i k s (omega (arith, le, ne)) was at has)
      | inr its ↦ absurd (omega (arith, le, ne, below step (count + i + 1) here its))
    ]
  ];
  needed = λ k h. elim (marking.only k h) [
    | inl was ↦ elim (m.needed k was) [
      | inl e ↦ inl e
      | inr g ↦ inr (record { later = g.later; step = g.step; from = omega (arith, g.from); marked = marking.kept g.later g.marked; at = g.at; has = g.has })
    ]
    | inr its ↦ inr (record { later = start; step = step; from = omega arith; marked = marking.kept start own; at = here; has = its })
  ];
}
