-- What looks at the clauses one after another show.
use Rattle.clause_search.proofs.Common.{ℕ, zero, suc, ◌≡◌, ◌<◌, ◌+◌, ◌-◌, ◌++◌, inl, inr, List, [], ◌∷◌, Some, None, false, nat_eq, eqb, ltb, slice_get, length, map, arith, ap, subst, cases_Bool, cases_eq, ne_eqb, ltb-true, ltb-false, length-append, length-map, Has, Lit, Step, clause_numbered, Entry, IsSettled, FalseBut, Stands, IsOpen, AreOpen, IsFound, IsFoundBetween}
use Rattle.clause_search.specs.declared.looking.Found.{Found}
use Rattle.clause_search.specs.declared.looking.Found.TheVariants.{Nothing, Unit, Conflict}

pub open_start : (clauses : List (List Lit)) (trail : List Entry) (from : ℕ) → AreOpen clauses trail from from
open_start clauses trail from n c above lt e = absurd (omega (arith, above, lt))

pub open_more : (clauses : List (List Lit)) (trail : List Entry) (from place : ℕ) → AreOpen clauses trail from place
    → ((c : List Lit) → clause_numbered clauses (place + 1) ≡ Some c → IsOpen trail c) → AreOpen clauses trail from (place + 1)
open_more clauses trail from place before here n c above lt e = elim (cases_eq n (place + 1)) [
  | inl is ↦ here c (rw (← is) e)
  | inr other ↦ before n c above (omega (arith, other)) e
]

-- those from an index on, and those before it
pub open_both : (clauses : List (List Lit)) (trail : List Entry) (place : ℕ) → AreOpen clauses trail place (length clauses) → AreOpen clauses trail 0 place
    → AreOpen clauses trail 0 (length clauses)
open_both clauses trail place late early n c above lt e = elim (cases_Bool (ltb place n)) [
  | inl more ↦ late n c (ltb-true _ _ more) lt e
  | inr less ↦ early n c above (omega (arith, ltb-false _ _ less)) e
]

-- the look at one of them
pub open_at : (clauses : List (List Lit)) (trail : List Entry) (number : ℕ) (found : List Lit) → Some found ≡ clause_numbered clauses number → IsOpen trail found
    → (c : List Lit) → clause_numbered clauses number ≡ Some c → IsOpen trail c
open_at clauses trail number found is opens c e = let same : found ≡ c = cc in subst (λ (x : List Lit). IsOpen trail x) same opens

pub open_none : (clauses : List (List Lit)) (trail : List Entry) (number : ℕ) → None ≡ clause_numbered clauses number
    → (c : List Lit) → clause_numbered clauses number ≡ Some c → IsOpen trail c
open_none clauses trail number is c e = cc

get-among : (cs : List (List Lit)) (c : List Lit) → Has cs c → (i : ℕ) × (i < length cs) × (slice_get cs i ≡ Some c)
get-among [] c h = absurd h
get-among (d ∷ ds) c (inl e) = (0, omega arith, ap Some e)
get-among (d ∷ ds) c (inr h) = go (get-among ds c h)
  where
    go : ((i : ℕ) × (i < length ds) × (slice_get ds i ≡ Some c)) → (i : ℕ) × (i < suc (length ds)) × (slice_get (d ∷ ds) i ≡ Some c)
    go (i, lt, e) = (suc i, omega arith, e)

among-get : (cs : List (List Lit)) (i : ℕ) (c : List Lit) → slice_get cs i ≡ Some c → Has cs c
among-get [] i c e = cc
among-get (d ∷ ds) zero c e = inl (let same : d ≡ c = cc in same)
among-get (d ∷ ds) (suc i) c e = inr (among-get ds i c e)

pub among-numbered : (clauses : List (List Lit)) (n : ℕ) (c : List Lit) → clause_numbered clauses n ≡ Some c → Has clauses c
among-numbered clauses n c e = elim (cases_Bool (eqb n 0)) [
  | inl h ↦ let f = rw h at e in cc
  | inr h ↦ among-get clauses (n - 1) c (rw h at e)
]

pub settled-from : (clauses : List (List Lit)) (trail : List Entry) → AreOpen clauses trail 0 (length clauses) → IsSettled clauses trail
settled-from clauses trail opens c among = go (get-among clauses c among)
  where
    go : ((i : ℕ) × (i < length clauses) × (slice_get clauses i ≡ Some c)) → (k : Lit) → FalseBut trail c k → Stands trail k
    go (i, lt, e) =
        let back : suc i - 1 ≡ i = omega arith in
        let f : nat_eq (suc i) 0 ≡ false = ne_eqb (suc i) 0 (λ z. omega (arith, z)) in
        opens (suc i) c (omega arith) (omega arith) (rw (f, back) e)

pub length-standing : (clauses : List (List Lit)) (log : List Step) → length (clauses ++ map (λ s. s.clause) log) ≡ length clauses + length log
length-standing clauses log = simp (length-append, length-map)

-- what a look that goes round finds
pub found-round : (clauses : List (List Lit)) (trail : List Entry) (place : ℕ) (found : Found) → AreOpen clauses trail place (length clauses)
    → IsFoundBetween clauses trail 0 place found → IsFound clauses trail found
found-round clauses trail place Nothing late early = settled-from clauses trail (open_both clauses trail place late early)
found-round clauses trail place (Unit number k) late found = found
found-round clauses trail place (Conflict number) late found = found
