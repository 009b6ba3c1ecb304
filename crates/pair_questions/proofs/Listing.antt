-- The tapes so far are those of the candidates so far.
use Rattle.pair_questions.proofs.Common.{ℕ, zero, suc, ◌≡◌, ◌<◌, ◌+◌, List, [], ◌∷◌, ◌++◌, length, map, take, get_or, Contains, refl, ap, sym, subst, ◌∙◌, words_of, TermId, Term, Keeps, TapeTerms, AreWords, words_at, arith, map-push, map-take, words_at-later, Candidate, function_of, AreSameTapes, AreTapes, tapes_at, words_of_each}
use Rattle.pair_questions.proofs.SameTapes.{same_more, same_seen, tapes_at-later, words_among}

-- the candidate at an index, whatever stands for one outside the list
pub candidate_at : (cs : List Candidate) (i : ℕ) (other : Candidate) → i < length cs → get_or cs i other ≡ get_or cs i (get_or cs i other)
candidate_at [] i other lt = absurd (omega (arith, lt))
candidate_at (x ∷ xs) zero other lt = refl
candidate_at (x ∷ xs) (suc i) other lt = candidate_at xs i other (omega (arith, lt))

module _ (old before mid : List Term) (need i : ℕ) (numbers words : List TermId) (cs : List Candidate) (c : Candidate) (tapes more : List TapeTerms) (tape : TapeTerms) (first : Keeps old before) (k : Keeps before mid)
    (are_numbers : AreWords old numbers) (are : AreWords old words) (so : AreTapes before tapes) (lt : i < length cs) (is : c ≡ get_or cs i c)
    (stands : (v : ℕ → ℕ → ℕ) → words_at v mid tape.words ≡ words_of need (function_of (words_at v before numbers) (words_at v before words) c)) where
  abbrev tape_by : (ℕ → ℕ → ℕ) → Candidate → List ℕ
  tape_by v c = words_of need (function_of (words_at v old numbers) (words_at v old words) c)

  stands_for : (v : ℕ → ℕ → ℕ) → words_at v mid tape.words ≡ tape_by v c
  stands_for v =
      stands v ∙ ap (λ (ns : List ℕ). words_of need (function_of ns (words_at v before words) c)) (words_at-later old before first v numbers are_numbers)
      ∙ ap (λ (ws : List ℕ). words_of need (function_of (words_at v old numbers) ws c)) (words_at-later old before first v words are)

  one_more : (v : ℕ → ℕ → ℕ) → map (tape_by v) (take (i + 1) cs) ≡ map (tape_by v) (take i cs) ++ tape_by v c ∷ []
  one_more v = map-take (tape_by v) cs i c lt is

  still : (v : ℕ → ℕ → ℕ) → AreSameTapes (tapes_at v before tapes) (map (tape_by v) (take i cs)) → AreSameTapes (tapes_at v mid tapes) (map (tape_by v) (take i cs))
  still v h = subst (λ (xs : List (List ℕ)). AreSameTapes xs (map (tape_by v) (take i cs))) (sym (tapes_at-later before mid k v tapes so)) h

  pub tape_seen : more ≡ tapes → Contains (map (λ (t : TapeTerms). t.words) tapes) tape.words → (v : ℕ → ℕ → ℕ) → AreSameTapes (tapes_at v before tapes) (map (tape_by v) (take i cs))
      → AreSameTapes (tapes_at v mid more) (map (tape_by v) (take (i + 1) cs))
  tape_seen e seen v h =
      let among : Contains (tapes_at v mid tapes) (tape_by v c) = subst (λ (ws : List ℕ). Contains (tapes_at v mid tapes) ws) (stands_for v) (words_among v mid tapes tape.words seen) in
      subst (λ (ts : List TapeTerms). AreSameTapes (tapes_at v mid ts) (map (tape_by v) (take (i + 1) cs))) (sym e)
      (same_seen (tapes_at v mid tapes) (map (tape_by v) (take i cs)) (map (tape_by v) (take (i + 1) cs)) (tape_by v c) (one_more v) (still v h) among)

  pub tape_new : more ≡ tapes ++ tape ∷ [] → (v : ℕ → ℕ → ℕ) → AreSameTapes (tapes_at v before tapes) (map (tape_by v) (take i cs))
      → AreSameTapes (tapes_at v mid more) (map (tape_by v) (take (i + 1) cs))
  tape_new e v h =
      let pushed : tapes_at v mid more ≡ tapes_at v mid tapes ++ tape_by v c ∷ [] =
      ap (tapes_at v mid) e ∙ (map-push (λ (t : TapeTerms). words_at v mid t.words) tapes tape ∙ ap (λ (ws : List ℕ). tapes_at v mid tapes ++ ws ∷ []) (stands_for v)) in
      same_more (tapes_at v mid tapes) (map (tape_by v) (take i cs)) (tapes_at v mid more) (map (tape_by v) (take (i + 1) cs)) (tape_by v c) pushed (one_more v) (still v h)
