-- Tapes that cover a point, one after another.
use Rattle.candidate_runs.proofs.Common.{ℕ, ◌≡◌, ◌<◌, ◌≤◌, ◌+◌, List, [], ◌∷◌, ◌++◌, length, map, drop, get_or, Bool, true, false, ◌||◌, refl, sym, ap, ◌∙◌, drop_more, drop_all, MemoryBlock, Outcome, Bounds, Point, RunPair, is_refined, run_of, covers, some_covers, DoesEnd, NoneCovers, Candidate, tape_of, tapes_of}
use Rattle.choice_interp.specs.declared.ending.Ending.{Ending}
use Rattle.choice_interp.specs.Ran.{outcome_of}

pub covers_at : (pair : RunPair) (bounds : Bounds) (p : Point) (tape : List ℕ) (source target : Ending) (holds : Bool) (left memory : List MemoryBlock) → (run_of pair.source bounds p.input tape).outcome ≡ outcome_of source left → DoesEnd pair bounds p target memory → holds ≡ is_refined (outcome_of source left) (outcome_of target memory) → holds ≡ covers pair bounds p tape
unfolding covers
covers_at pair bounds p tape source target holds left memory e f h = h ∙ sym (both _ _ _ _ e f)
  where
    both : (x x' y y' : Outcome) → x ≡ x' → y ≡ y' → is_refined x y ≡ is_refined x' y'
    both x x' y y' e f = rw (e, f) refl

-- the candidates so far cover nothing
none_more : (pair : RunPair) (bounds : Bounds) (p : Point) (cs : List Candidate) (i : ℕ) (d : Candidate) → i < length cs → covers pair bounds p (tape_of pair bounds p (get_or cs i d)) ≡ false
    → some_covers pair bounds p (tapes_of pair bounds p (drop i cs)) ≡ some_covers pair bounds p (tapes_of pair bounds p (drop (i + 1) cs))
unfolding some_covers
none_more pair bounds p cs i d below fails = rw (drop_more cs i d below, fails) refl

pub none_after : (pair : RunPair) (bounds : Bounds) (p : Point) (cs : List Candidate) (i : ℕ) (d : Candidate) → i < length cs → covers pair bounds p (tape_of pair bounds p (get_or cs i d)) ≡ false
    → some_covers pair bounds p (tapes_of pair bounds p cs) ≡ some_covers pair bounds p (tapes_of pair bounds p (drop i cs)) → some_covers pair bounds p (tapes_of pair bounds p cs) ≡ some_covers pair bounds p (tapes_of pair bounds p (drop (i + 1) cs))
none_after pair bounds p cs i d below fails h = h ∙ none_more pair bounds p cs i d below fails

pub none_at_end : (pair : RunPair) (bounds : Bounds) (p : Point) (cs : List Candidate) (i : ℕ) → length cs ≤ i
    → some_covers pair bounds p (tapes_of pair bounds p cs) ≡ some_covers pair bounds p (tapes_of pair bounds p (drop i cs)) → NoneCovers pair bounds p cs
unfolding some_covers
none_at_end pair bounds p cs i le h = h ∙ ap (λ (cs : List Candidate). some_covers pair bounds p (tapes_of pair bounds p cs)) (drop_all i cs le)
