-- Reading one after another.
use Rattle.proof_text.proofs.Common.{ℕ, ◌≡◌, ◌<◌, List, [], ◌∷◌, ◌++◌, length, map, Contains, append_assoc, append-nil, subst, sym, ap, ◌∙◌, refl, inl, inr, ⊎_elim, arith, flat_map-append, map-append, ended, IsStopped, IsStuck, IsWrong, Leads, Lines, Moves, Parts}
use Rattle.proof_text.specs.declared.part.Stop.{Stop}
use Rattle.proof_text.specs.declared.part.Stop.TheVariants.{NoMemory, At}
use Rattle.proof_text.proofs.Languages.{Some_lines}

pub leads_then : (A B C : Lines → Type 0) (s t : Lines) → Leads A s B → Leads B t C → Leads A (s ++ t) C
leads_then A B C s t ab bc more = (
  λ a. (bc more).0 ((ab (t ++ more)).0 (subst A (append_assoc s t more) a)),
  λ c. subst A (sym (append_assoc s t more)) ((ab (t ++ more)).1 ((bc more).1 c)),
)

ended-append : (s t : Lines) → ended (s ++ t) ≡ ended s ++ ended t
ended-append s t = flat_map-append (λ (line : List ℕ). line ++ 10 ∷ []) s t

pub moves_then : (A B C : Lines → Type 0) (old mid new : List ℕ) (s t : Lines) → Moves A old s B mid → Moves B mid t C new → Moves A old (s ++ t) C new
moves_then A B C old mid new s t m n = record {
  is = m.is ∙ ap (λ x. ended s ++ x) n.is ∙ sym (append_assoc (ended s) (ended t) new) ∙ ap (λ x. x ++ new) (sym (ended-append s t));
  leads = leads_then A B C s t m.leads n.leads;
}

pub moves_line : (A B : Lines → Type 0) (old line new : List ℕ) → Parts 10 old line new → Leads A (line ∷ []) B → Moves A old (line ∷ []) B new
moves_line A B old line new p l = record { is = p.is ∙ simp (append_assoc, append-nil); leads = l }

wrong_after : (A B : Lines → Type 0) (s taken : Lines) (rest : List ℕ) → Leads A s B → IsWrong B taken rest → IsWrong A (s ++ taken) rest
wrong_after A B s taken rest l w = ⊎_elim
    (λ h. inl (h.0, h.1, h.2, λ more a. h.3 more ((l (taken ++ h.0 ∷ more)).0 (subst A (append_assoc s taken (h.0 ∷ more)) a))))
    (λ h. inr (h.0, ⊎_elim inl (λ none. inr (λ a. none (subst B (append-nil taken) ((l (taken ++ [])).0 (subst A (append_assoc s taken [] ∙ refl) (subst A (sym (append-nil (s ++ taken))) a)))))) h.1))
    w

pub stuck_after : (A B : Lines → Type 0) (old mid : List ℕ) (s : Lines) (rest : List ℕ) → Moves A old s B mid → IsStuck B mid rest → IsStuck A old rest
stuck_after A B old mid s rest m k = record {
  taken = s ++ k.taken;
  is = m.is ∙ ap (λ x. ended s ++ x) k.is ∙ sym (append_assoc (ended s) (ended k.taken) rest) ∙ ap (λ x. x ++ rest) (sym (ended-append s k.taken));
  begin = (k.begin.0, subst A (sym (append_assoc s k.taken k.begin.0)) ((m.leads (k.taken ++ k.begin.0)).1 k.begin.1));
  wrong = wrong_after A B s k.taken rest m.leads k.wrong;
}

pub stopped_after : (A B : Lines → Type 0) (old mid : List ℕ) (s : Lines) (stop : Stop) → Moves A old s B mid → IsStopped B mid stop → IsStopped A old stop
stopped_after A B old mid s NoMemory m k = tt
stopped_after A B old mid s (At left) m k = (k.0, k.1, stuck_after A B old mid s k.0 m k.2)

-- the line that is there can't follow
pub stuck_at_line : (A : Lines → Type 0) (old line new : List ℕ) → Some_lines A → Parts 10 old line new → ((more : Lines) → A (line ∷ more) → ⊥) → IsStopped A old (At (length old))
stuck_at_line A old line new some p none = (old, refl, record { taken = []; is = refl; begin = some; wrong = inl (line, new, p, none) })

-- there is no line where one has to be
pub stuck_at_end : (A : Lines → Type 0) (old : List ℕ) → Some_lines A → (Contains old 10 → ⊥) → (A [] → ⊥) → IsStopped A old (At (length old))
stuck_at_end A old some free none = (old, refl, record { taken = []; is = refl; begin = some; wrong = inr (free, inr none) })

-- a line is begun and not ended
pub stuck_within : (A : Lines → Type 0) (old : List ℕ) → Some_lines A → (Contains old 10 → ⊥) → 0 < length old → IsStopped A old (At (length old))
stuck_within A old some free h = (old, refl, record { taken = []; is = refl; begin = some; wrong = inr (free, inl (λ e. let z = ap length e in absurd (omega arith))) })

-- where one position is another
pub moves_on : (A B C : Lines → Type 0) (old new : List ℕ) (s : Lines) → Moves A old s B new → Leads B [] C → Moves A old s C new
moves_on A B C old new s m l = record {
  is = m.is;
  leads = λ more. (λ a. (l more).0 ((m.leads more).0 a), λ c. (m.leads more).1 ((l more).1 c));
}

-- one more line of a kind
pub moves_push : {X : Type 0} (text : X → List ℕ) (A B C : Lines → Type 0) (old mid new : List ℕ) (xs : List X) (x : X) → Moves A old (map text xs) B mid → Moves B mid (text x ∷ []) C new → Moves A old (map text (xs ++ x ∷ [])) C new
moves_push text A B C old mid new xs x m n = subst (λ t. Moves A old t C new) (sym (map-append text xs (x ∷ []))) (moves_then A B C old mid new (map text xs) (text x ∷ []) m n)
