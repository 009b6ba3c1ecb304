-- The bits of the goal's terms, one term after the other.
use Rattle.sat_ask.proofs.Common.{ℕ, ◌≡◌, ◌<◌, ◌+◌, ◌*◌, ◌^◌, ◌++◌, inl, inr, Bool, true, false, List, [], ◌∷◌, Some, get_or, slice_get, drop, length, arith, sym, ap, subst, refl, ◌∙◌, length-append, cases_eq, drop_all, get_or_push, get_or_append_left, slice_get-get_or, get_or_from_slice_get, TermId, Term, Tree, digit, truth, width_of, AreFit, IsFit, tree_in, tree_of, trees_from, trees_of, GateId, Gate, gate_at, number_at, Variable, Blasted, Follows, operands, HasVariable, operands-within, AreKnown, IsCone, IsGoal, IsMarked, Mentions}
use Rattle.bv_terms.specs.declared.term.Term.TheVariants as term
use Rattle.bv_terms.specs.Tree as tree
use Rattle.bv_terms.proofs.Zips.{IsStage, IsStage-fit, IsStage-more, stage_start}
use Rattle.bit_blast.specs.Bits.{AreBits, AreStanding}
use Rattle.bit_blast.specs.Following.{bits_kept}
use Rattle.sat_ask.proofs.Marking.{got-at, tree_placed}

-- the marked terms among the first ones have their bits
pub record IsBuilt (terms : List Term) (used : List Bool) (blast : Blasted) (bits : List (List GateId)) (i : ℕ) : Type 0 where
  pub trees : List Tree
  pub stage : IsStage terms (trees_of terms) trees i
  pub size : length trees ≡ i
  pub long : length bits ≡ i
  pub stands : (k : ℕ) → k < i → IsMarked used k → AreBits blast.gates blast.table (get_or trees k (tree.Constant 0 1)) (get_or bits k [])

pub built_none : (terms : List Term) (used : List Bool) (blast : Blasted) (bits : List (List GateId)) → bits ≡ [] → AreFit [] terms → IsBuilt terms used blast bits 0
built_none terms used blast bits e fit = rw e (record {
  trees = [];
  stage = stage_start terms fit;
  size = refl;
  long = refl;
  stands = λ k lt m. absurd (omega arith);
})

pub built-fit : (terms : List Term) (used : List Bool) (blast : Blasted) (bits : List (List GateId)) (i : ℕ) (b : IsBuilt terms used blast bits i) (d : Term) → i < length terms → IsFit b.trees (get_or terms i d)
built-fit terms used blast bits i b d lt = IsStage-fit terms (trees_of terms) b.trees i d lt b.stage

pub built-standing : (terms : List Term) (goal : TermId) (used : List Bool) (blast : Blasted) (bits : List (List GateId)) (i : ℕ) (b : IsBuilt terms used blast bits i) (d : Term) → i < length terms
    → IsCone terms goal 0 used → IsMarked used i → AreStanding blast.gates blast.table b.trees bits (get_or terms i d)
built-standing terms goal used blast bits i b d lt cone m k e l =
    let t = get_or terms i d in
    let fit = built-fit terms used blast bits i b d lt in
    let marked = cone.closed i t (omega arith) (slice_get-get_or terms i d lt) m in
    let below = operands-within (λ a. a.index < length b.trees) (length b.trees) (λ a less. less) t fit.within in
    b.stands (get_or (operands t) k e).index (omega (arith, below k e l, b.size)) (marked k e l)

pub built-known : (terms : List Term) (goal : TermId) (used : List Bool) (table : List (Variable × List GateId)) (i : ℕ) (d : Term) → AreFit [] terms → i < length terms
    → IsCone terms goal 0 used → IsMarked used i → AreKnown table terms goal → HasVariable table (get_or terms i d)
built-known terms goal used table i d fit lt cone m known = go (get_or terms i d) (slice_get-get_or terms i d lt)
  where
    go : (t : Term) → slice_get terms i ≡ Some t → HasVariable table t
    go (term.Constant value width) at = tt
    go (term.Variable number width) at =
        let x : Variable = record { number = number; width = width } in
        let own : Mentions x (tree_in terms (record { index = i })) = subst (λ (z : Tree). Mentions x z) (sym (tree_placed terms i (term.Variable number width) fit at)) refl in
        known x (cone.sound i m x own)
    go (term.Not a width) at = tt
    go (term.Binary op a b width) at = tt
    go (term.Ite c a b width) at = tt
    go (term.Extract a from width) at = tt
    go (term.Concat high low below width) at = tt
    go (term.Zext a width) at = tt
    go (term.Sext a from width) at = tt

pub built-more : (terms : List Term) (used : List Bool) (old new : Blasted) (bits bits' : List (List GateId)) (digits : List GateId) (i : ℕ) (d : Term) (b : IsBuilt terms used old bits i) → i < length terms → Follows old new
    → (IsMarked used i → AreBits new.gates new.table (tree_of b.trees (get_or terms i d)) digits) → bits' ≡ bits ++ digits ∷ [] → IsBuilt terms used new bits' (i + 1)
built-more terms used old new bits bits' digits i d b lt follows made is = rw is (record {
  trees = b.trees ++ tree_of b.trees (get_or terms i d) ∷ [];
  stage = IsStage-more terms (trees_of terms) b.trees i d lt b.stage;
  size = omega (arith, length-append b.trees (tree_of b.trees (get_or terms i d) ∷ []), b.size);
  long = omega (arith, length-append bits (digits ∷ []), b.long);
  stands = λ k less m. elim (cases_eq k i) [
    | inl e ↦
        let tree_is : get_or (b.trees ++ tree_of b.trees (get_or terms i d) ∷ []) k (tree.Constant 0 1) ≡ tree_of b.trees (get_or terms i d) = get_or_push b.trees (tree_of b.trees (get_or terms i d)) (tree.Constant 0 1) k (b.size ∙ sym e) in
        let bits_is : get_or (bits ++ digits ∷ []) k [] ≡ digits = get_or_push bits digits [] k (b.long ∙ sym e) in
        subst (λ (z : Tree). AreBits new.gates new.table z (get_or (bits ++ digits ∷ []) k [])) (sym tree_is)
        (subst (λ (ds : List GateId). AreBits new.gates new.table (tree_of b.trees (get_or terms i d)) ds) (sym bits_is) (made (subst (λ n. IsMarked used n) e m)))
    | inr ne ↦
        let early : k < i = omega arith in
        let tree_is : get_or (b.trees ++ tree_of b.trees (get_or terms i d) ∷ []) k (tree.Constant 0 1) ≡ get_or b.trees k (tree.Constant 0 1) = get_or_append_left b.trees (tree_of b.trees (get_or terms i d) ∷ []) (tree.Constant 0 1) k (let l : k < length b.trees = omega (arith, b.size) in l) in
        let bits_is : get_or (bits ++ digits ∷ []) k [] ≡ get_or bits k [] = get_or_append_left bits (digits ∷ []) [] k (let l : k < length bits = omega (arith, b.long) in l) in
        subst (λ (z : Tree). AreBits new.gates new.table z (get_or (bits ++ digits ∷ []) k [])) (sym tree_is)
        (subst (λ (ds : List GateId). AreBits new.gates new.table (get_or b.trees k (tree.Constant 0 1)) ds) (sym bits_is)
        (bits_kept old new (get_or b.trees k (tree.Constant 0 1)) (get_or bits k []) follows (b.stands k early m)))
  ];
})

-- the same of the lists that the loop reads
module _ (terms : List Term) (goal : TermId) (used : List Bool) (blast : Blasted) (bits : List (List GateId)) (i : ℕ) (b : IsBuilt terms used blast bits i) (d : Term)
    (stored : List Term) (done : List (List GateId)) (same : stored ≡ terms) (read : done ≡ bits) (lt : i < length terms) (cone : IsCone terms goal 0 used) where
  fit_at : IsFit b.trees (get_or stored i d)
  fit_at = subst (λ (ts : List Term). IsFit b.trees (get_or ts i d)) (sym same) (built-fit terms used blast bits i b d lt)

  standing-at : IsMarked used i → AreStanding blast.gates blast.table b.trees done (get_or stored i d)
  standing-at m =
      subst (λ (ts : List Term). AreStanding blast.gates blast.table b.trees done (get_or ts i d)) (sym same)
      (subst (λ (ds : List (List GateId)). AreStanding blast.gates blast.table b.trees ds (get_or terms i d)) (sym read) (built-standing terms goal used blast bits i b d lt cone m))

  marked-at : (r : Bool) → r ≡ get_or used i r → r ≡ true → IsMarked used i
  marked-at r e on = got-at used i r false e (omega (arith, lt, cone.long)) ∙ on

  pub stood-at : (r : Bool) → r ≡ get_or used i r → r ≡ true → (trees : List Tree) × AreStanding blast.gates blast.table trees done (get_or stored i d) × IsFit trees (get_or stored i d)
  stood-at r e on = (b.trees, standing-at (marked-at r e on), fit_at)

  pub known-at : (table : List (Variable × List GateId)) (r : Bool) → AreFit [] terms → blast.table ≡ table → AreKnown table terms goal → r ≡ get_or used i r → r ≡ true → HasVariable blast.table (get_or stored i d)
  known-at table r fit kept known e on =
      subst (λ (ts : List Term). HasVariable blast.table (get_or ts i d)) (sym same)
      (subst (λ (es : List (Variable × List GateId)). HasVariable es (get_or terms i d)) (sym kept) (built-known terms goal used table i d fit lt cone (marked-at r e on) known))

  pub built-next : (new : Blasted) (bits' : List (List GateId)) (digits : List GateId) (r : Bool) → r ≡ get_or used i r → Follows blast new
      → ((trees : List Tree) → r ≡ true → AreStanding blast.gates blast.table trees done (get_or stored i d) → IsFit trees (get_or stored i d) → AreBits new.gates new.table (tree_of trees (get_or stored i d)) digits)
      → bits' ≡ bits ++ digits ∷ [] → IsBuilt terms used new bits' (i + 1)
  built-next new bits' digits r e follows made grown =
      built-more terms used blast new bits bits' digits i d b lt follows
      (λ m. subst (λ (ts : List Term). AreBits new.gates new.table (tree_of b.trees (get_or ts i d)) digits) same
      (made b.trees (sym (got-at used i r false e (omega (arith, lt, cone.long))) ∙ m) (standing-at m) fit_at))
      grown

first-truth : (inputs : ℕ → Bool) (gates : List Gate) (digits : List GateId) (d : GateId) → length digits ≡ 1 → gate_at inputs gates (get_or digits 0 d) ≡ truth (number_at inputs gates digits)
first-truth inputs gates [] d e = absurd (omega arith)
first-truth inputs gates (x ∷ []) d e = bit (gate_at inputs gates x)
  where
    bit : (b : Bool) → b ≡ truth (digit b * 2 ^ 0 + 0)
    bit true = refl
    bit false = refl
first-truth inputs gates (x ∷ y ∷ ys) d e = absurd (omega arith)

-- the bits of the goal are one gate
pub built-goal : (terms : List Term) (goal : TermId) (used : List Bool) (blast : Blasted) (bits : List (List GateId)) (i : ℕ) (digits : List GateId) (out : GateId) → i ≡ length terms → IsBuilt terms used blast bits i
    → IsCone terms goal 0 used → goal.index < length terms → width_of (tree_in terms goal) ≡ 1 → get_or bits goal.index [] ≡ digits → slice_get digits 0 ≡ Some out → IsGoal blast.gates blast.table terms goal out
built-goal terms goal used blast bits i digits out e b cone lt wide is at =
    let rest : drop i terms ≡ [] = drop_all i terms (omega (arith, e)) in
    let whole : b.trees ≡ trees_of terms = subst (λ (ts : List Term). trees_from b.trees ts ≡ trees_of terms) rest b.stage.whole in
    let own : AreBits blast.gates blast.table (tree_in terms goal) digits =
    subst (λ (ds : List GateId). AreBits blast.gates blast.table (tree_in terms goal) ds) is
    (subst (λ (ts : List Tree). AreBits blast.gates blast.table (get_or ts goal.index (tree.Constant 0 1)) (get_or bits goal.index [])) whole (b.stands goal.index (omega (arith, lt, e)) cone.root)) in
    let one : length digits ≡ 1 = own.long ∙ wide in
    let first : get_or digits 0 out ≡ out = get_or_from_slice_get digits 0 out out at in
    record {
      within = subst (λ (g : GateId). g.index < length blast.gates) first (own.within 0 out (omega (arith, one)));
      says = λ inputs v agrees. ap (gate_at inputs blast.gates) (sym first) ∙ (first-truth inputs blast.gates digits out one ∙ ap truth (own.says inputs v agrees));
    }
