-- A log with one more step.
use Rattle.log_tidy.proofs.Common.{ℕ, ◌≡◌, ◌<◌, ◌≤◌, ◌-◌, ◌++◌, ◌⊎◌, inl, inr, List, [], ◌∷◌, Some, length, slice_get, map, arith, sym, ap, subst, ◌∙◌, cases_lt, length_push, take-append-le, slice_get_within, Lit, Step, Has, chain_resolvent, EndsEmpty, IsSoundAt, standing_before, ContainsClause, IsCareful, standing, get-early, get-kept, get-last, get-late}
use Rattle.std.proofs.Math.Seq.{take-length}

pub has-either : (cs ds : List (List Lit)) (c : List Lit) → Has (cs ++ ds) c → Has cs c ⊎ Has ds c
has-either [] ds c h = inr h
has-either (x ∷ xs) ds c h = elim h [
  | inl e ↦ inl (inl e)
  | inr g ↦ elim (has-either xs ds c g) [ inl k ↦ inl (inr k) | inr k ↦ inr k ]
]

pub has-first : (cs ds : List (List Lit)) (c : List Lit) → Has cs c → Has (cs ++ ds) c
has-first [] ds c h = absurd h
has-first (x ∷ xs) ds c h = elim h [ inl e ↦ inl e | inr g ↦ inr (has-first xs ds c g) ]

pub has-second : (cs ds : List (List Lit)) (c : List Lit) → Has ds c → Has (cs ++ ds) c
has-second [] ds c h = h
has-second (x ∷ xs) ds c h = inr (has-second xs ds c h)

module _ (clauses : List (List Lit)) (log : List Step) (t : Step) where
  before-old : (i : ℕ) → i ≤ length log → standing_before clauses (log ++ t ∷ []) i ≡ standing_before clauses log i
  before-old i le = ap (λ (ss : List Step). clauses ++ map (λ (s : Step). s.clause) ss) (take-append-le i log (t ∷ []) le)

  before-new : standing_before clauses (log ++ t ∷ []) (length log) ≡ standing clauses log
  before-new = before-old (length log) (omega arith) ∙ ap (λ (ss : List Step). clauses ++ map (λ (s : Step). s.clause) ss) (take-length log)

  pub sound-pushed : ((i : ℕ) → i < length log → IsSoundAt clauses log i) → chain_resolvent (standing clauses log) t.chain ≡ Some t.clause
      → (i : ℕ) → i < length (log ++ t ∷ []) → IsSoundAt clauses (log ++ t ∷ []) i
  sound-pushed sound chain i lt = elim (cases_lt i (length log)) [
    | inl early ↦ old early (sound i early)
    | inr late ↦ newest (let e : i ≡ length log = omega (arith, late, lt, length_push log t) in e)
  ]
    where
      old : i < length log → IsSoundAt clauses log i → IsSoundAt clauses (log ++ t ∷ []) i
      old early (s, at, is) = (
        s,
        get-kept log t s i at,
        subst (λ (cs : List (List Lit)). chain_resolvent cs s.chain ≡ Some s.clause) (sym (before-old i (omega (arith, early)))) is,
      )

      newest : i ≡ length log → IsSoundAt clauses (log ++ t ∷ []) i
      newest e = subst (λ n. IsSoundAt clauses (log ++ t ∷ []) n) (sym e) (
        t,
        get-last log t,
        subst (λ (cs : List (List Lit)). chain_resolvent cs t.chain ≡ Some t.clause) (sym before-new) chain,
      )

  pub careful-pushed : IsCareful clauses log → chain_resolvent (standing clauses log) t.chain ≡ Some t.clause
      → ((d : List Lit) → Has (standing clauses log) d → ContainsClause t.clause d → t.clause ≡ []) → IsCareful clauses (log ++ t ∷ [])
  careful-pushed careful chain alone = record {
    sound = sound-pushed careful.sound chain;
    new = λ i s d at has contains. elim (cases_lt i (length log)) [
      | inl early ↦
          careful.new i s d (get-early log t s i early at)
          (subst (λ (cs : List (List Lit)). Has cs d) (before-old i (omega (arith, early))) has) contains
      | inr late ↦
          let e : i ≡ length log = omega (arith, late, slice_get_within (log ++ t ∷ []) i s at, length_push log t) in
          let same : t ≡ s = get-late log t s i e at in
          let among : Has (standing clauses log) d = subst (λ (cs : List (List Lit)). Has cs d) (ap (standing_before clauses (log ++ t ∷ [])) e ∙ before-new) has in
          subst (λ (u : Step). u.clause ≡ []) same (alone d among (subst (λ (u : Step). ContainsClause u.clause d) (sym same) contains))
    ];
  }

  pub ends-pushed : t.clause ≡ [] → EndsEmpty (log ++ t ∷ [])
  ends-pushed none =
      let last : length (log ++ t ∷ []) - 1 ≡ length log = omega (arith, length_push log t) in
      (t, ap (slice_get (log ++ t ∷ [])) last ∙ get-last log t, none)
