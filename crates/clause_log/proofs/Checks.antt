-- What the verdicts on the steps of a log show.
use Rattle.clause_log.proofs.Common.{◌-◌, ℕ, zero, suc, ◌≡◌, ◌<◌, ◌+◌, ◌↔◌, List, [], ◌∷◌, Some, Result, IfOk, Bool, IsTrue, length, slice_get, get_or, arith, ap, subst, refl, ◌∙◌, AllZip, range_with_len, below_more, Lit, Step, IsSoundAt, EndsEmpty, Refutes}
use Rattle.support.specs.declared.no_memory.NoMemory.{NoMemory}
use Rattle.clause_log.specs.Verdicts.{AreVerdicts}

-- the steps below the next index are sound
pub sound_below_more : (clauses : List (List Lit)) (log : List Step) (index : ℕ) → ((i : ℕ) → i < index → IsSoundAt clauses log i)
    → IsSoundAt clauses log index → (i : ℕ) → i < index + 1 → IsSoundAt clauses log i
sound_below_more clauses log index below here i h = below_more (λ k. IsSoundAt clauses log k) index below here i h

module _ {Y : Type 0} (R : ℕ → Y → Type 0) where
  -- a list that goes with the numbers from a on
  pub length-ranged : (a n : ℕ) (ys : List Y) → AllZip R (range_with_len a n) ys → length ys ≡ n
  length-ranged a zero [] h = refl
  length-ranged a zero (y ∷ ys) h = absurd h
  length-ranged a (suc n) [] h = absurd h
  length-ranged a (suc n) (y ∷ ys) h = ap suc (length-ranged (a + 1) n ys h.1)

  pub ranged-at : (a n : ℕ) (ys : List Y) (i : ℕ) (d : Y) → AllZip R (range_with_len a n) ys → i < n → R (a + i) (get_or ys i d)
  ranged-at a zero ys i d h lt = absurd (omega arith)
  ranged-at a (suc n) [] i d h lt = absurd h
  ranged-at a (suc n) (y ∷ ys) zero d h lt = let e : a ≡ a + 0 = omega arith in subst (λ (k : ℕ). R k y) e h.0
  ranged-at a (suc n) (y ∷ ys) (suc i) d h lt =
      let e : (a + 1) + i ≡ a + suc i = omega arith in
      subst (λ (k : ℕ). R k (get_or ys i d)) e (ranged-at (a + 1) n ys i d h.1 (omega arith))

-- verdicts made for each index are the verdicts
pub AreVerdicts-ranged : (clauses : List (List Lit)) (log : List Step) (verdicts : List (Result Bool NoMemory))
    → AllZip (λ i r. IfOk r (λ b. IsTrue b ↔ IsSoundAt clauses log i)) (range_with_len 0 (length log)) verdicts
    → AreVerdicts clauses log verdicts
AreVerdicts-ranged clauses log verdicts h = record {
  len = length-ranged (λ i r. IfOk r (λ b. IsTrue b ↔ IsSoundAt clauses log i)) 0 (length log) verdicts h;
  each = λ i d lt.
      let e : 0 + i ≡ i = omega arith in
      subst (λ (k : ℕ). IfOk (get_or verdicts i d) (λ b. IsTrue b ↔ IsSoundAt clauses log k)) e
      (ranged-at (λ i r. IfOk r (λ b. IsTrue b ↔ IsSoundAt clauses log i)) 0 (length log) verdicts i d h lt);
}

pub AreVerdicts-told : (clauses : List (List Lit)) (log : List Step) (places : List ℕ) (told verdicts : List (Result Bool NoMemory))
    → places ≡ range_with_len 0 (length log) → verdicts ≡ told
    → AllZip (λ i r. IfOk r (λ b. IsTrue b ↔ IsSoundAt clauses log i)) places told → AreVerdicts clauses log verdicts
AreVerdicts-told clauses log places told verdicts p v h =
    let F : List ℕ → Type 0 = λ is. AllZip (λ i r. IfOk r (λ b. IsTrue b ↔ IsSoundAt clauses log i)) is told in
    rw v (AreVerdicts-ranged clauses log told (subst F p h))

-- a last step ends the log well where its clause is empty
pub ends-some : (log : List Step) (s : Step) (b : Bool) → slice_get log (length log - 1) ≡ Some s → (IsTrue b ↔ (s.clause ≡ []))
    → IsTrue b ↔ EndsEmpty log
ends-some log s b last empty = (λ t. (s, last, empty.0 t), λ p. empty.1 (agrees p))
  where
    agrees : EndsEmpty log → s.clause ≡ []
    agrees (t, last', e) = let it : t ≡ s = cc in cc

-- all steps are sound, and the last one's clause is empty
pub Refutes-from : (clauses : List (List Lit)) (log : List Step) → ((i : ℕ) → i < length log → IsSoundAt clauses log i)
    → EndsEmpty log → Refutes clauses log
Refutes-from clauses log sound ends = record { sound = sound; empty = ends }
