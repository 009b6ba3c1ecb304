-- A refutation's steps can be spelled: their chains name earlier clauses, and they have no other variables.
use Rattle.std.proofs.Common.{option_and_then, eqb, ℕ, zero, suc, ◌≡◌, ◌<◌, ◌≤◌, ◌+◌, ◌-◌, ◌^◌, ◌++◌, ◌⊎◌, inl, inr, arith, Bool, List, [], ◌∷◌, All, Some, length, length-append, get_or, slice_get, take, map, sym, subst, refl, ◌∙◌}
use Rattle.std.proofs.lemmas.List.Elements.{All-head, All-tail}
use Rattle.std.proofs.lemmas.Bool.{cases_Bool, eqb-false}
use Rattle.std.proofs.lemmas.Option.{cond_some, option_and_then_some, same_Some, slice_get_within, slice_get-get_or}
use Rattle.clause_lits.specs.declared.lit.Lit.{Lit}
use Rattle.clause_lits.specs.Meaning.{AreWithin, IsClause}
use Rattle.clause_log.specs.declared.step.Step.{Step}
use Rattle.clause_log.specs.Members.{Has}
use Rattle.clause_log.specs.Resolution.{joined, resolvent}
use Rattle.clause_log.specs.Chain.{chain_resolvent, clause_numbered, resolved_along}
use Rattle.clause_log.specs.Refutation.{IsSoundAt, Refutes, standing_before}
use Rattle.clause_log.proofs.Joining.{rises-joined}
use Rattle.clause_log.proofs.Membership.{from_joined}
use Rattle.clause_log.specs.declared.step.Cert.{Cert}
use Rattle.proof_text.specs.Format.{IsClauseOver, IsPart, IsPrintedName, IsStepOver, part_of}

-- ---- members of lists

has-at : {X : Type 0} (xs : List X) (i : ℕ) (d : X) → i < length xs → Has xs (get_or xs i d)
has-at [] i d lt = absurd (omega (arith, lt))
has-at (x ∷ xs) zero d lt = inl refl
has-at (x ∷ xs) (suc i) d lt = inr (has-at xs i d (omega (arith, lt)))

has-get : {X : Type 0} (xs : List X) (i : ℕ) (x : X) → slice_get xs i ≡ Some x → Has xs x
has-get [] i x e = absurd (cc e)
has-get (y ∷ ys) zero x e = inl (same_Some y x e)
has-get (y ∷ ys) (suc i) x e = inr (has-get ys i x e)

all-has : {X : Type 0} (P : X → Type 0) (xs : List X) (x : X) → All P xs → Has xs x → P x
all-has P [] x all h = absurd h
all-has P (y ∷ ys) x all (inl e) = subst P e (All-head P y ys all)
all-has P (y ∷ ys) x all (inr h) = all-has P ys x (All-tail P y ys all) h

append-has : {X : Type 0} (xs ys : List X) (x : X) → Has (xs ++ ys) x → Has xs x ⊎ Has ys x
append-has [] ys x h = inr h
append-has (y ∷ xs) ys x (inl e) = inl (inl e)
append-has (y ∷ xs) ys x (inr h) = elim (append-has xs ys x h) [ inl g ↦ inl (inr g) | inr g ↦ inr g ]

right-has : {X : Type 0} (xs ys : List X) (x : X) → Has ys x → Has (xs ++ ys) x
right-has [] ys x h = h
right-has (y ∷ xs) ys x h = inr (right-has xs ys x h)

abbrev clauses_of : List Step → List (List Lit)
clauses_of steps = map (λ s. s.clause) steps

length-clauses_of : (steps : List Step) → length (clauses_of steps) ≡ length steps
length-clauses_of [] = refl
length-clauses_of (s ∷ ss) = let n = length-clauses_of ss in omega (arith, n)

has-take : (log : List Step) (i : ℕ) (c : List Lit) → Has (clauses_of (take (suc i) log)) c → Has (clauses_of (take i log)) c ⊎ ((s : Step) × (slice_get log i ≡ Some s) × (s.clause ≡ c))
has-take [] i c h = absurd h
has-take (s ∷ ss) zero c h = elim h [ inl e ↦ inr (s, refl, e) | inr g ↦ absurd g ]
has-take (s ∷ ss) (suc i) c h = elim h [
  | inl e ↦ inl (inl e)
  | inr g ↦ elim (has-take ss i c g) [ inl k ↦ inl (inr k) | inr k ↦ inr k ]
]

few-taken : (log : List Step) (i : ℕ) → length (take i log) ≤ length log
few-taken [] zero = omega arith
few-taken [] (suc i) = omega arith
few-taken (s ∷ ss) zero = omega arith
few-taken (s ∷ ss) (suc i) = let n = few-taken ss i in omega (arith, n)

-- ---- clauses over variables

abbrev IsOver : ℕ → List Lit → Type 0
IsOver n c = IsClause c × ((l : Lit) → Has c l → l.variable ≤ n)

abbrev AreOver : ℕ → List (List Lit) → Type 0
AreOver n cs = (c : List Lit) → Has cs c → IsOver n c

pub over_from : (n : ℕ) (c : List Lit) → IsClauseOver n c → IsOver n c
over_from n c over = (over.0, λ l h. all-has (λ (k : Lit). k.variable ≤ n) c l over.1 h)

over_to : (n : ℕ) (c : List Lit) → IsOver n c → IsClauseOver n c
over_to n c over = (over.0, λ k d lt. over.1 (get_or c k d) (has-at c k d lt))

record IsNumbered (cs : List (List Lit)) (n : ℕ) (c : List Lit) : Type 0 where
  pub positive : 0 < n
  pub within : n ≤ length cs
  pub among : Has cs c

numbered : (cs : List (List Lit)) (n : ℕ) (c : List Lit) → clause_numbered cs n ≡ Some c → IsNumbered cs n c
numbered cs n c e = elim (cases_Bool (eqb n 0)) [
  | inl h ↦ let f = rw h at e in absurd (cc f)
  | inr h ↦
      let at : slice_get cs (n - 1) ≡ Some c = rw h at e in
      let within = slice_get_within cs (n - 1) c at in
      let some = eqb-false n 0 h in
      record { positive = omega (arith, some); within = omega (arith, within); among = has-get cs (n - 1) c at }
]

module _ (n : ℕ) where
  resolvent-over : (c d r : List Lit) → resolvent c d ≡ Some r → IsOver n c → IsOver n d → IsOver n r
  resolvent-over c d r e oc od =
      let is : joined c d ≡ r = (cond_some _ (joined c d) r e).1 in (
        subst IsClause is (rises-joined 0 c d oc.0 od.0),
        λ l has. elim (from_joined c d l (subst (λ (x : List Lit). Has x l) (sym is) has)) [ inl g ↦ oc.1 l g | inr g ↦ od.1 l g ],
      )

  -- the numbers of a chain are those of clauses, and what it comes to has their variables
  record IsChained (cs : List (List Lit)) (chain : List ℕ) (r : List Lit) : Type 0 where
    pub numbers : (k : ℕ) → Has chain k → (0 < k) × (k ≤ length cs)
    pub over : IsOver n r

  along-over : (cs : List (List Lit)) (ns : List ℕ) (c r : List Lit) → AreOver n cs → IsOver n c → resolved_along cs c ns ≡ Some r → IsChained cs ns r
  along-over cs [] c r all over e = record { numbers = λ k h. absurd h; over = subst (IsOver n) (same_Some c r e) over }
  along-over cs (k ∷ ks) c r all over e =
      option_and_then_some (λ d. option_and_then (λ x. resolved_along cs x ks) (resolvent c d)) (clause_numbered cs k) r e
      (λ d at e'. option_and_then_some (λ x. resolved_along cs x ks) (resolvent c d) r e'
      (λ x is e''.
      let here = numbered cs k d at in
      let rest = along-over cs ks x r all (resolvent-over c d x is over (all d here.among)) e'' in
      record {
        numbers = λ m h. elim h [ inl same ↦ subst (λ j. (0 < j) × (j ≤ length cs)) same (here.positive, here.within) | inr g ↦ rest.numbers m g ];
        over = rest.over;
      }))

  chain-over : (cs : List (List Lit)) (chain : List ℕ) (r : List Lit) → AreOver n cs → chain_resolvent cs chain ≡ Some r → IsChained cs chain r
  chain-over cs [] r all e = absurd (cc e)
  chain-over cs (k ∷ ks) r all e =
      option_and_then_some (λ c. resolved_along cs c ks) (clause_numbered cs k) r e
      (λ c at e'.
      let here = numbered cs k c at in
      let rest = along-over cs ks c r all (all c here.among) e' in
      record {
        numbers = λ m h. elim h [ inl same ↦ subst (λ j. (0 < j) × (j ≤ length cs)) same (here.positive, here.within) | inr g ↦ rest.numbers m g ];
        over = rest.over;
      })

  module _ (clauses : List (List Lit)) (log : List Step) (all : AreOver n clauses) (sound : (index : ℕ) → index < length log → IsSoundAt clauses log index) where
    step-over : (i : ℕ) (s : Step) → slice_get log i ≡ Some s → AreOver n (standing_before clauses log i) → IsChained (standing_before clauses log i) s.chain s.clause
    step-over i s at before =
        let it = sound i (slice_get_within log i s at) in
        let same : it.0 ≡ s = same_Some it.0 s (let e : Some it.0 ≡ Some s = sym it.1 ∙ at in e) in
        subst (λ (t : Step). IsChained (standing_before clauses log i) t.chain t.clause) same (chain-over (standing_before clauses log i) it.0.chain it.0.clause before it.2)

    before-over : (i : ℕ) → AreOver n (standing_before clauses log i)
    before-over zero c h = elim (append-has clauses (clauses_of (take zero log)) c h) [ inl g ↦ all c g | inr g ↦ absurd g ]
    before-over (suc i) c h = elim (append-has clauses (clauses_of (take (suc i) log)) c h) [
      | inl g ↦ all c g
      | inr g ↦ elim (has-take log i c g) [
        | inl k ↦ before-over i c (right-has clauses (clauses_of (take i log)) c k)
        | inr k ↦ subst (IsOver n) k.2 (step-over i k.0 k.1 (before-over i)).over
      ]
    ]

few-before : (clauses : List (List Lit)) (log : List Step) (i : ℕ) → length (standing_before clauses log i) ≤ length clauses + length log
few-before clauses log i =
    let few = few-taken log i in
    omega (arith, length-append clauses (clauses_of (take i log)), length-clauses_of (take i log), few)

-- the steps of a refutation
pub steps_over : (n : ℕ) (clauses : List (List Lit)) (log : List Step) → All (IsClauseOver n) clauses → Refutes clauses log → length clauses + length log < 2 ^ 62 → All (IsStepOver n) log
steps_over n clauses log all refutes small i d lt =
    let s : Step = get_or log i d in
    let every : AreOver n clauses = λ c h. over_from n c (all-has (IsClauseOver n) clauses c all h) in
    let it = step-over n clauses log every refutes.sound i s (slice_get-get_or log i d lt) (before-over n clauses log every refutes.sound i) in
    let few = few-before clauses log i in
    record {
      chain = λ k e less. let numbers = it.numbers (get_or s.chain k e) (has-at s.chain k e less) in (numbers.0, omega (arith, numbers.1, few, small));
      clause = over_to n s.clause it.over;
    }

-- a certificate that refutes, with small numbers, under a name as it is printed
pub spelled : (name : List ℕ) (is_correct : Bool) (cert : Cert) → IsPrintedName name → All IsClause cert.cnf.clauses → AreWithin cert.cnf.variables cert.cnf.clauses
    → Refutes cert.cnf.clauses cert.log → cert.cnf.variables < 2 ^ 62 → length cert.cnf.clauses + length cert.log < 2 ^ 62 → IsPart (part_of name is_correct cert)
spelled name is_correct cert printed clauses within refutes variables small =
    let over : All (IsClauseOver cert.cnf.variables) cert.cnf.clauses = λ k d lt. (clauses k d lt, λ j e less. (within k d lt j e less).1) in
    record {
      name = printed;
      variables = variables;
      clause_count = omega (arith, small);
      step_count = omega (arith, small);
      clauses = over;
      steps = steps_over cert.cnf.variables cert.cnf.clauses cert.log over refutes small;
    }
