-- Which terms are marked, from the goal down.
use Rattle.sat_ask.proofs.Common.{ℕ, zero, suc, ◌≡◌, ◌≢◌, ◌<◌, ◌≤◌, ◌+◌, inl, inr, Bool, true, false, All, List, [], ◌∷◌, ◌++◌, ◌-◌, drop, take, get_or, slice_get, Some, length, length-append, arith, sym, ap, subst, refl, ◌∙◌, cases_eq, cases_lt, get_or-set_same, get_or-set_other, get_or-replicate, get_or_past, length-replicate, length-set, slice_get-get_or, slice_get_within, take-append_seam, TermId, Term, Tree, AreFit, IsWithin, tree_at, tree_in, tree_of, trees_of, tree-stored, Variable, operands, operands-within, IsCone, IsMarked, marked, Mentions}
use Rattle.std.specs.Prelude.{slice_set, replicate}
use Rattle.bv_terms.specs.declared.term.Term.TheVariants as term
use Rattle.bv_terms.specs.Tree as tree

-- the tree of a term by its index
pub tree_placed : (terms : List Term) (i : ℕ) (t : Term) → AreFit [] terms → slice_get terms i ≡ Some t → tree_in terms (record { index = i }) ≡ tree_of (trees_of terms) t
unfolding trees_of
tree_placed terms i t fit at =
    let zero_more : i ≡ 0 + i = omega arith in
    ap (λ k. get_or (trees_of terms) k (tree.Constant 0 1)) zero_more ∙ tree-stored [] terms i t fit at

-- a term names what is among the earlier ones
pub within-at : (earlier : List Tree) (terms : List Term) (i : ℕ) (d : Term) → AreFit earlier terms → i < length terms → IsWithin (length earlier + i) (get_or terms i d)
within-at earlier [] i d fit lt = absurd (omega arith)
within-at earlier (t ∷ ts) zero d fit lt = subst (λ n. IsWithin n t) (let e : length earlier ≡ length earlier + 0 = omega arith in e) fit.0.within
within-at earlier (t ∷ ts) (suc i) d fit lt =
    let e : length (earlier ++ tree_of earlier t ∷ []) + i ≡ length earlier + suc i = omega (arith, length-append earlier (tree_of earlier t ∷ [])) in
    subst (λ n. IsWithin n (get_or ts i d)) e (within-at (earlier ++ tree_of earlier t ∷ []) ts i d fit.1 (omega arith))

-- what a term names has no variable that the term does not have
AreWithin : Variable → List Tree → Tree → List TermId → Type 0
AreWithin x trees whole gs = All (λ a. Mentions x (tree_at trees a) → Mentions x whole) gs

none : (x : Variable) (trees : List Tree) (whole : Tree) → AreWithin x trees whole []
unfolding AreWithin
none x trees whole i d lt = absurd (omega arith)

with_one : (x : Variable) (trees : List Tree) (whole : Tree) (a : TermId) (gs : List TermId) → (Mentions x (tree_at trees a) → Mentions x whole) → AreWithin x trees whole gs → AreWithin x trees whole (a ∷ gs)
unfolding AreWithin
with_one x trees whole a gs h hs zero d lt = h
with_one x trees whole a gs h hs (suc i) d lt = hs i d (omega arith)

operands-mention : (x : Variable) (trees : List Tree) (t : Term) → AreWithin x trees (tree_of trees t) (operands t)
operands-mention x trees (term.Constant value width) = none x trees (tree_of trees (term.Constant value width))
operands-mention x trees (term.Variable number width) = none x trees (tree_of trees (term.Variable number width))
operands-mention x trees (term.Not a width) =
    let whole = tree_of trees (term.Not a width) in
    with_one x trees whole a [] (λ h. h) (none x trees whole)
operands-mention x trees (term.Binary op a b width) =
    let whole = tree_of trees (term.Binary op a b width) in
    with_one x trees whole a (b ∷ []) (λ h. inl h) (with_one x trees whole b [] (λ h. inr h) (none x trees whole))
operands-mention x trees (term.Ite c a b width) =
    let whole = tree_of trees (term.Ite c a b width) in
    with_one x trees whole c (a ∷ b ∷ []) (λ h. inl h) (with_one x trees whole a (b ∷ []) (λ h. inr (inl h)) (with_one x trees whole b [] (λ h. inr (inr h)) (none x trees whole)))
operands-mention x trees (term.Extract a from width) =
    let whole = tree_of trees (term.Extract a from width) in
    with_one x trees whole a [] (λ h. h) (none x trees whole)
operands-mention x trees (term.Concat high low below width) =
    let whole = tree_of trees (term.Concat high low below width) in
    with_one x trees whole high (low ∷ []) (λ h. inl h) (with_one x trees whole low [] (λ h. inr h) (none x trees whole))
operands-mention x trees (term.Zext a width) =
    let whole = tree_of trees (term.Zext a width) in
    with_one x trees whole a [] (λ h. h) (none x trees whole)
operands-mention x trees (term.Sext a from width) =
    let whole = tree_of trees (term.Sext a from width) in
    with_one x trees whole a [] (λ h. h) (none x trees whole)

pub length-marked : (used : List Bool) (gs : List TermId) → length (marked used gs) ≡ length used
length-marked used [] = refl
length-marked used (a ∷ gs) = length-marked (slice_set used a.index true) gs ∙ length-set used a.index true

set-marked : (used : List Bool) (i j : ℕ) → IsMarked used j → IsMarked (slice_set used i true) j
set-marked used i j h = elim (cases_eq j i) [
  | inl e ↦ set_at used i j h e
  | inr ne ↦ get_or-set_other used i j true false ne ∙ h
]
  where
    inside : (xs : List Bool) (k : ℕ) → get_or xs k false ≡ true → k < length xs
    inside [] k m = absurd (let z : ⊥ = cc in z)
    inside (x ∷ xs) zero m = omega arith
    inside (x ∷ xs) (suc k) m = omega (arith, inside xs k m)

    set_at : (xs : List Bool) (k l : ℕ) → get_or xs l false ≡ true → l ≡ k → get_or (slice_set xs k true) l false ≡ true
    set_at xs k l m e = ap (λ n. get_or (slice_set xs k true) n false) e ∙ get_or-set_same xs k true false (subst (λ n. n < length xs) e (inside xs l m))

-- what was marked stays marked
marked-stays : (used : List Bool) (gs : List TermId) (j : ℕ) → IsMarked used j → IsMarked (marked used gs) j
marked-stays used [] j h = h
marked-stays used (a ∷ gs) j h = marked-stays (slice_set used a.index true) gs j (set-marked used a.index j h)

-- and the terms of the list are marked
marked-own : (used : List Bool) (gs : List TermId) → All (λ a. a.index < length used) gs → All (λ a. IsMarked (marked used gs) a.index) gs
marked-own used [] h i d lt = absurd (omega arith)
marked-own used (a ∷ gs) h zero d lt = marked-stays (slice_set used a.index true) gs a.index (get_or-set_same used a.index true false (h 0 a (omega arith)))
marked-own used (a ∷ gs) h (suc i) d lt =
    let len : length (slice_set used a.index true) ≡ length used = length-set used a.index true in
    marked-own (slice_set used a.index true) gs (λ j e l. subst (λ n. (get_or gs j e).index < n) (sym len) (h (suc j) e (omega arith))) i d (omega arith)

-- what is marked was so, or is of the list
marked-from : (P : ℕ → Type 0) (used : List Bool) (gs : List TermId) → ((j : ℕ) → IsMarked used j → P j) → All (λ a. P a.index) gs → (j : ℕ) → IsMarked (marked used gs) j → P j
marked-from P used [] was own j h = was j h
marked-from P used (a ∷ gs) was own j h =
    marked-from P (slice_set used a.index true) gs
    (λ k m. elim (cases_eq k a.index) [
      | inl e ↦ subst P (sym e) (own 0 a (omega arith))
      | inr ne ↦ was k (sym (get_or-set_other used a.index k true false ne) ∙ m)
    ])
    (λ i d lt. own (suc i) d (omega arith)) j h

-- an index past those of the list is marked only if it was
marked-past : (used : List Bool) (gs : List TermId) (n : ℕ) → All (λ a. a.index < n) gs → (j : ℕ) → n ≤ j → IsMarked (marked used gs) j → IsMarked used j
marked-past used gs n below j le h =
    marked-from (λ k. n ≤ k → IsMarked used k) used gs (λ k m le'. m) (λ i d lt le'. absurd (omega (arith, below i d lt))) j h le

pub cone-skip : (terms : List Term) (goal : TermId) (j : ℕ) (used : List Bool) → get_or used j false ≡ false → IsCone terms goal (j + 1) used → IsCone terms goal j used
cone-skip terms goal j used off c = record {
  long = c.long;
  root = c.root;
  closed = λ i t le at m. elim (cases_eq i j) [
    | inl e ↦ absurd (let z : get_or used j false ≡ true = ap (λ k. get_or used k false) (sym e) ∙ m in let w : ⊥ = cc in w)
    | inr ne ↦ c.closed i t (omega arith) at m
  ];
  sound = c.sound;
}

pub cone-mark : (terms : List Term) (goal : TermId) (j : ℕ) (used : List Bool) (t : Term) → AreFit [] terms → slice_get terms j ≡ Some t → All (λ a. a.index < j) (operands t) → IsMarked used j
    → IsCone terms goal (j + 1) used → IsCone terms goal j (marked used (operands t))
unfolding AreWithin
cone-mark terms goal j used t fit at below own c =
    let room : j < length used = omega (arith, c.long, slice_get_within terms j t at) in
    record {
      long = length-marked used (operands t) ∙ c.long;
      root = marked-stays used (operands t) goal.index c.root;
      closed = λ i s le here m. elim (cases_eq i j) [
        | inl e ↦
            let same : t ≡ s = (let both : Some t ≡ Some s = sym at ∙ (ap (slice_get terms) (sym e) ∙ here) in let z : t ≡ s = cc in z) in
            subst (λ (r : Term). All (λ a. IsMarked (marked used (operands t)) a.index) (operands r)) same (marked-own used (operands t) (λ k d lt. omega (arith, below k d lt)))
        | inr ne ↦
            let before = c.closed i s (omega arith) here (marked-past used (operands t) j below i le m) in
            λ k d lt. marked-stays used (operands t) (get_or (operands s) k d).index (before k d lt)
      ];
      sound = λ i m x h.
          marked-from (λ k. Mentions x (tree_in terms (record { index = k })) → Mentions x (tree_in terms goal)) used (operands t)
          (λ k was h'. c.sound k was x h')
          (λ k d lt h'. c.sound j own x (subst (λ (z : Tree). Mentions x z) (sym (tree_placed terms j t fit at)) (operands-mention x (trees_of terms) t k d lt h')))
          i m h;
    }

pub cone-start : (terms : List Term) (goal : TermId) (used : List Bool) → goal.index < length terms → used ≡ slice_set (replicate (length terms) false) goal.index true → IsCone terms goal (length terms) used
cone-start terms goal used lt is = rw is (record {
  long = length-set (replicate (length terms) false) goal.index true ∙ length-replicate (length terms) false;
  root = get_or-set_same (replicate (length terms) false) goal.index true false (subst (λ n. goal.index < n) (sym (length-replicate (length terms) false)) lt);
  closed = λ i t le at m. absurd (omega (arith, slice_get_within terms i t at));
  sound = λ i m x h. elim (cases_eq i goal.index) [
    | inl e ↦ subst (λ k. Mentions x (tree_in terms (record { index = k }))) e h
    | inr ne ↦ absurd (off i ne m)
  ];
})
  where
    off : (i : ℕ) → i ≢ goal.index → get_or (slice_set (replicate (length terms) false) goal.index true) i false ≡ true → ⊥
    off i ne m = clear (length terms) i (sym (get_or-set_other (replicate (length terms) false) goal.index i true false ne) ∙ m)
      where
        clear : (n k : ℕ) → get_or (replicate n false) k false ≡ true → ⊥
        clear n k e = elim (cases_lt k n) [
          | inl less ↦ (let z : true ≡ false = sym e ∙ get_or-replicate n k false false less in let w : ⊥ = cc in w)
          | inr more ↦ (let z : true ≡ false = sym e ∙ get_or_past (replicate n false) k false (omega (arith, more, length-replicate n false)) in let w : ⊥ = cc in w)
        ]

-- one step from the goal down, where the marks are written back into their list
pub mark-step : (terms : List Term) (goal : TermId) (place : ℕ) (used slice marks : List Bool) (stored : List Term) (d : Term) → AreFit [] terms → stored ≡ terms → 0 < place → place ≤ length terms
    → slice ≡ used → IsMarked used (place - 1) → marks ≡ marked slice (operands (get_or stored (place - 1) d)) → IsCone terms goal place used → IsCone terms goal (place - 1) marks
mark-step terms goal place used slice marks stored d fit same pos most is own e c =
    let j = place - 1 in
    let step : place ≡ j + 1 = omega (arith, pos) in
    let lt : j < length terms = omega (arith, pos, most) in
    let t = get_or terms j d in
    let within = within-at [] terms j d fit lt in
    let below = operands-within (λ a. a.index < j) j (λ a less. less) t (subst (λ n. IsWithin n t) (let z : 0 + j ≡ j = omega arith in z) within) in
    let all : marks ≡ marked used (operands t) = e ∙ (ap (λ us. marked us (operands (get_or stored j d))) is ∙ ap (λ ts. marked used (operands (get_or ts j d))) same) in
    subst (λ (us : List Bool). IsCone terms goal j us) (sym all)
    (cone-mark terms goal j used t fit (slice_get-get_or terms j d lt) below own (subst (λ n. IsCone terms goal n used) step c))

-- a slice that was written back is the list
pub written-back : (n : ℕ) (marks used : List Bool) → n ≡ length marks → take n (marks ++ drop (length marks) used) ≡ marks
written-back n marks used e = ap (λ k. take k (marks ++ drop (length marks) used)) e ∙ take-append_seam marks (drop (length marks) used)

-- what an index reads
pub got-at : {A : Type 0} (xs : List A) (i : ℕ) (r d : A) → r ≡ get_or xs i r → i < length xs → get_or xs i d ≡ r
got-at [] i r d e lt = absurd (omega arith)
got-at (x ∷ xs) zero r d e lt = sym e
got-at (x ∷ xs) (suc i) r d e lt = got-at xs i r d e (omega arith)
