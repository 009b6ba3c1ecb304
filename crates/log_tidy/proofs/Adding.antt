-- Steps within those of a log, each with no earlier clause within it.
use Rattle.log_tidy.proofs.Common.{ℕ, ◌≡◌, ◌≤◌, ◌+◌, ◌-◌, ◌++◌, ◌⊎◌, inl, inr, List, [], ◌∷◌, Some, None, length, slice_get, take, arith, sym, ap, subst, refl, ◌∙◌, append_assoc, cases_lt, length_push, slice_get_within, Lit, Step, Has, chain_resolvent, clause_numbered, EndsEmpty, IsSoundAt, Refutes, standing_before, ContainsClause, IsCareful, standing, get-kept, get-last, Index, IsEntered, IsFound, IsIndexed, IsListed, AreTidied, IsAdded, RefutesCarefully}
use Rattle.clause_search.proofs.Findings.{length-standing}
use Rattle.log_tidy.proofs.Numbered.{clauses_of, left-numbered, numbered-from, numbered-left, numbered-within}
use Rattle.log_tidy.proofs.Links.{alone-derived}
use Rattle.log_tidy.proofs.Pushed.{careful-pushed, ends-pushed, sound-pushed}

clauses-pushed : (steps : List Step) (t : Step) → clauses_of (steps ++ t ∷ []) ≡ clauses_of steps ++ t.clause ∷ []
clauses-pushed [] t = refl
clauses-pushed (s ∷ ss) t = ap (λ (cs : List (List Lit)). s.clause ∷ cs) (clauses-pushed ss t)

pub standing-pushed : (clauses : List (List Lit)) (steps : List Step) (t : Step) → standing clauses (steps ++ t ∷ []) ≡ standing clauses steps ++ t.clause ∷ []
standing-pushed clauses steps t = ap (λ (cs : List (List Lit)). clauses ++ cs) (clauses-pushed steps t) ∙ sym (append_assoc clauses (clauses_of steps) (t.clause ∷ []))

-- one more clause has the next number
pub numbered-pushed : (cs : List (List Lit)) (c d : List Lit) (n : ℕ) → clause_numbered (cs ++ c ∷ []) n ≡ Some d → (clause_numbered cs n ≡ Some d) ⊎ ((n ≡ length cs + 1) × (c ≡ d))
numbered-pushed cs c d n at = elim (cases_lt (length cs) n) [
  | inr le ↦ inl (left-numbered cs (c ∷ []) n d le at)
  | inl lt ↦
      let e : n ≡ length cs + 1 = omega (arith, lt, numbered-within (cs ++ c ∷ []) n d at, length_push cs c) in
      let there : Some c ≡ Some d = sym (get-last cs c) ∙ (sym (numbered-from (cs ++ c ∷ []) n (length cs) e) ∙ at) in
      inr (e, let same : c ≡ d = cc in same)
]

pub pushed-numbered : (cs : List (List Lit)) (c : List Lit) (n : ℕ) → n ≡ length cs + 1 → clause_numbered (cs ++ c ∷ []) n ≡ Some c
pushed-numbered cs c n e = numbered-from (cs ++ c ∷ []) n (length cs) e ∙ get-last cs c

-- an index with the entry of one more clause
pub indexed-more : (cs : List (List Lit)) (c : List Lit) (old new : Index) (number : ℕ) → IsIndexed cs old → number ≡ length cs + 1 → IsEntered old new number c → IsIndexed (cs ++ c ∷ []) new
indexed-more cs c old new number indexed its entered = record {
  sized = entered.sized;
  each = λ n d at. elim (numbered-pushed cs c d n at) [
    | inl old_at ↦ entered.kept n d (indexed.each n d old_at)
    | inr new_at ↦
        let same : number ≡ n = its ∙ sym new_at.0 in
        subst (λ (m : ℕ). IsListed new.half new.lists.items m d) same
        (subst (λ (x : List Lit). IsListed new.half new.lists.items number x) new_at.1 entered.own)
  ];
}

module _ (clauses : List (List Lit)) (kept : List Step) (step : Step) where
  -- a step that no earlier clause lies within is added
  pub added-one : (old new : Index) (number : ℕ) → IsCareful clauses kept → IsIndexed (standing clauses kept) old → IsFound (standing clauses kept) step.clause None
      → chain_resolvent (standing clauses kept) step.chain ≡ Some step.clause → number ≡ length clauses + length kept + 1 → IsEntered old new number step.clause
      → IsAdded clauses kept (kept ++ step ∷ []) new step.clause number
  added-one old new number careful indexed none sound e entered =
      let cs = standing clauses kept in
      let whole = standing-pushed clauses kept step in
      let its : number ≡ length cs + 1 = omega (arith, e, length-standing clauses kept) in
      record {
        stands = record {
          careful = careful-pushed clauses kept step careful sound (λ d among contains. absurd (none d among contains));
          indexed = subst (λ (x : List (List Lit)). IsIndexed x new) (sym whole) (indexed-more cs step.clause old new number indexed its entered);
        };
        grown = λ n d at. subst (λ (x : List (List Lit)). clause_numbered x n ≡ Some d) (sym whole) (numbered-left cs (step.clause ∷ []) n d at);
        within = (
          step.clause,
          subst (λ (x : List (List Lit)). clause_numbered x number ≡ Some step.clause) (sym whole) (pushed-numbered cs step.clause number its),
          λ l h. h,
        );
      }

-- an empty step ends a careful log
pub ends-carefully : (clauses : List (List Lit)) (kept : List Step) (step : Step) → IsCareful clauses kept → chain_resolvent (standing clauses kept) step.chain ≡ Some step.clause → step.clause ≡ []
    → RefutesCarefully clauses (kept ++ step ∷ [])
ends-carefully clauses kept step careful sound none = (
  record { sound = sound-pushed clauses kept step careful.sound sound; empty = ends-pushed clauses kept step none },
  careful-pushed clauses kept step careful sound (λ d among contains. none),
)

pub careful-none : (clauses : List (List Lit)) → IsCareful clauses []
careful-none clauses = record {
  sound = λ i lt. absurd (omega (arith, lt));
  new = λ i s d at has contains. absurd (let x : ⊥ = cc in x);
}

module _ (clauses : List (List Lit)) (log : List Step) where
  pub tidied-none : (index : Index) → IsIndexed clauses index → AreTidied clauses log 0 [] [] index
  tidied-none index h = record {
    long = refl;
    stands = record { careful = careful-none clauses; indexed = subst (λ (cs : List (List Lit)). IsIndexed cs index) (sym (no-steps clauses)) h };
    shorter = λ k s lt. absurd (omega (arith, lt));
  }
    where
      no-steps : (cs : List (List Lit)) → standing cs [] ≡ cs
      no-steps [] = refl
      no-steps (c ∷ cs) = ap (λ (ds : List (List Lit)). c ∷ ds) (no-steps cs)

  -- a step is sound by the steps before it
  pub sound-step : (place : ℕ) (step : Step) → Refutes clauses log → slice_get log place ≡ Some step → chain_resolvent (standing clauses (take place log)) step.chain ≡ Some step.clause
  sound-step place step refutes here = go (refutes.sound place (slice_get_within log place step here))
    where
      go : IsSoundAt clauses log place → chain_resolvent (standing_before clauses log place) step.chain ≡ Some step.clause
      go (u, at, is) = let same : u ≡ step = cc in subst (λ (v : Step). chain_resolvent (standing_before clauses log place) v.chain ≡ Some v.clause) same is

  pub tidied-more : (place : ℕ) (numbers : List ℕ) (kept more : List Step) (old new : Index) (step derived : Step) (number : ℕ) → slice_get log place ≡ Some step → AreTidied clauses log place numbers kept old
      → ContainsClause step.clause derived.clause → IsAdded clauses kept more new derived.clause number → AreTidied clauses log (place + 1) (numbers ++ number ∷ []) more new
  tidied-more place numbers kept more old new step derived number here h contains added = record {
    long = length_push numbers number ∙ ap (λ n. n + 1) h.long;
    stands = added.stands;
    shorter = λ k s lt at. elim (cases_lt k place) [
      | inl early ↦
          let w = h.shorter k s early at in
          (w.0, get-kept numbers number w.0 k w.1, (w.2.0, added.grown w.0 w.2.0 w.2.1, w.2.2))
      | inr late ↦
          let e : k ≡ place = omega (arith, late, lt) in
          let same : step ≡ s = (let both : Some step ≡ Some s = sym here ∙ (ap (slice_get log) (sym e) ∙ at) in let z : step ≡ s = cc in z) in
          let w = added.within in (
            number,
            ap (slice_get (numbers ++ number ∷ [])) (let it : k ≡ length numbers = omega (arith, e, h.long) in it) ∙ get-last numbers number,
            (w.0, w.1, subst (λ (t : Step). ContainsClause t.clause w.0) same (λ l g. contains l (w.2 l g))),
          )
    ];
  }

  -- the last step is empty, and no earlier clause is
  pub tidied-all : (place : ℕ) (numbers : List ℕ) (kept : List Step) (index : Index) → Refutes clauses log → length log ≤ place → AreTidied clauses log place numbers kept index → ⊥
  tidied-all place numbers kept index refutes le h = go refutes.empty
    where
      go : EndsEmpty log → ⊥
      go (s, at, none) =
          let w = h.shorter (length log - 1) s (omega (arith, le, slice_get_within log (length log - 1) s at)) at in
          let listed = h.stands.indexed.each w.0 w.2.0 w.2.1 in
          subst (λ (c : List Lit). Has c listed.literal) none (w.2.2 listed.literal listed.has)

-- an empty clause is a refutation, by a step of it alone
pub alone-carefully : (clauses : List (List Lit)) (index : ℕ) (c : List Lit) (s : Step) → slice_get clauses index ≡ Some c → c ≡ [] → s ≡ record { chain = (index + 1) ∷ []; clause = c }
    → RefutesCarefully clauses ([] ++ s ∷ [])
alone-carefully clauses index c s at none is =
    let there : clause_numbered (standing clauses []) (index + 1) ≡ Some c = numbered-left clauses [] (index + 1) c (numbered-from clauses (index + 1) index refl ∙ at) in
    let derived = alone-derived (standing clauses []) c (index + 1) c s there (λ l h. h) is in
    ends-carefully clauses [] s (careful-none clauses) derived.0 (ap (λ (t : Step). t.clause) is ∙ none)
