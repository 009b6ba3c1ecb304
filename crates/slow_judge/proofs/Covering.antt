-- Tapes that cover a point, one after another.
use Rattle.std.specs.Prelude.{is_some}
use Rattle.slow_judge.proofs.Common.{◌≡◌, ℕ, zero, suc, ◌+◌, ◌<◌, List, [], ◌∷◌, ◌++◌, length, drop, take, get_or, Option, Some, None, slice_get, Bool, true, false, ◌||◌, refl, sym, ap, ◌∙◌, IsTrue, MatchOption, not, ◌↔◌, drop_more, Bounds, Point, RunPair, run_of, IsPlain, covers, some_covers, tried, is_covered, some_append, tried_split, AreTemplates, NoneCovers, CoversAt, Candidate, SHIFTS, integer_count, tape_of, tapes_of, IsUncovered}
use Rattle.std.proofs.Math.Seq.{drop-length}

pub some_covers_yes : (pair : RunPair) (bounds : Bounds) (p : Point) (tapes : List (List ℕ)) (i : ℕ) (tape : List ℕ) → i < length tapes → tape ≡ get_or tapes i tape → covers pair bounds p tape ≡ true → some_covers pair bounds p (drop i tapes) ≡ true
unfolding some_covers
some_covers_yes pair bounds p tapes i tape below is holds = rw (drop_more tapes i tape below, ← is, holds) refl

pub some_covers_no : (pair : RunPair) (bounds : Bounds) (p : Point) (tapes : List (List ℕ)) (i : ℕ) (tape : List ℕ) → i < length tapes → tape ≡ get_or tapes i tape → covers pair bounds p tape ≡ false → some_covers pair bounds p (drop i tapes) ≡ some_covers pair bounds p (drop (i + 1) tapes)
unfolding some_covers
some_covers_no pair bounds p tapes i tape below is fails = rw (drop_more tapes i tape below, ← is, fails) refl

pub some_covers_end : (pair : RunPair) (bounds : Bounds) (p : Point) (tapes : List (List ℕ)) (i : ℕ) → i ≡ length tapes → some_covers pair bounds p (drop i tapes) ≡ false
unfolding some_covers
some_covers_end pair bounds p tapes i e = rw (e, drop-length tapes) refl

-- a candidate covers
pub covered_by_candidate : (pair : RunPair) (bounds : Bounds) (tapes : List (List ℕ)) (p : Point) → some_covers pair bounds p (tried pair bounds p) ≡ true → is_covered pair bounds tapes p ≡ true
covered_by_candidate pair bounds tapes p holds = some_append pair bounds p (tried pair bounds p) tapes ∙ ap (λ b. b || some_covers pair bounds p tapes) holds

-- no candidate does, and the tapes decide
covered_by_tapes : (pair : RunPair) (bounds : Bounds) (tapes : List (List ℕ)) (p : Point) → some_covers pair bounds p (tried pair bounds p) ≡ false → is_covered pair bounds tapes p ≡ some_covers pair bounds p tapes
covered_by_tapes pair bounds tapes p fails = some_append pair bounds p (tried pair bounds p) tapes ∙ ap (λ b. b || some_covers pair bounds p tapes) fails

false_not_true : IsTrue false → ⊥
false_not_true h = cc

pub not_uncovered : (pair : RunPair) (bounds : Bounds) (tapes : List (List ℕ)) (p : Point) → is_covered pair bounds tapes p ≡ true → IsTrue false ↔ IsUncovered pair bounds tapes p
not_uncovered pair bounds tapes p holds = ((λ h. absurd (false_not_true h)), (λ u. let f : true ≡ false = sym holds ∙ u.uncovered in absurd (cc)))

pub uncovered_when : (pair : RunPair) (bounds : Bounds) (tapes : List (List ℕ)) (p : Point) (b : Bool) → IsPlain p.tape (run_of pair.target bounds p.input p.tape) → some_covers pair bounds p (tried pair bounds p) ≡ false → b ≡ some_covers pair bounds p tapes → IsTrue (not b) ↔ IsUncovered pair bounds tapes p
uncovered_when pair bounds tapes p b plain fails is =
    let e : is_covered pair bounds tapes p ≡ b = covered_by_tapes pair bounds tapes p fails ∙ sym is in
    elim b as (λ b. is_covered pair bounds tapes p ≡ b → IsTrue (not b) ↔ IsUncovered pair bounds tapes p) [
      | true ↦ λ f. not_uncovered pair bounds tapes p f
      | false ↦ λ f. ((λ h. record { plain = plain; uncovered = f }), (λ u. refl))
    ] e

-- ---- the candidates

covers_there : (pair : RunPair) (bounds : Bounds) (p : Point) (cs : List Candidate) (i : ℕ) (c : Candidate) → slice_get cs i ≡ Some c → covers pair bounds p (tape_of pair bounds p c) ≡ true → some_covers pair bounds p (tapes_of pair bounds p cs) ≡ true
unfolding some_covers
covers_there pair bounds p [] i c there cover = absurd (let z : ⊥ = cc in z)
covers_there pair bounds p (x ∷ xs) zero c there cover = let same : x ≡ c = cc in rw (same, cover) refl
covers_there pair bounds p (x ∷ xs) (suc i) c there cover =
    elim (covers pair bounds p (tape_of pair bounds p x)) as (λ b. (b || some_covers pair bounds p (tapes_of pair bounds p xs)) ≡ true) [ true ↦ refl | false ↦ covers_there pair bounds p xs i c there cover ]

-- what is found of a list
pub some_found : (pair : RunPair) (bounds : Bounds) (p : Point) (cs : List Candidate) (found : Option ℕ) → MatchOption found (NoneCovers pair bounds p cs) (CoversAt pair bounds p cs) → is_some found ≡ some_covers pair bounds p (tapes_of pair bounds p cs)
some_found pair bounds p cs None h = sym h
some_found pair bounds p cs (Some i) h = sym (covers_there pair bounds p cs i h.candidate h.there h.cover)

-- the shifts, and then the templates
pub tried_first : (pair : RunPair) (bounds : Bounds) (p : Point) (templates : List Candidate) → AreTemplates (integer_count pair.target.parameters) templates → length p.input.args ≡ length pair.target.parameters
    → some_covers pair bounds p (tapes_of pair bounds p SHIFTS) ≡ true → some_covers pair bounds p (tried pair bounds p) ≡ true
tried_first pair bounds p templates are long h = tried_split pair bounds p templates are long ∙ ap (λ b. b || some_covers pair bounds p (tapes_of pair bounds p templates)) h

pub tried_later : (pair : RunPair) (bounds : Bounds) (p : Point) (templates : List Candidate) → AreTemplates (integer_count pair.target.parameters) templates → length p.input.args ≡ length pair.target.parameters
    → some_covers pair bounds p (tapes_of pair bounds p SHIFTS) ≡ false → some_covers pair bounds p (tried pair bounds p) ≡ some_covers pair bounds p (tapes_of pair bounds p templates)
tried_later pair bounds p templates are long h = tried_split pair bounds p templates are long ∙ ap (λ b. b || some_covers pair bounds p (tapes_of pair bounds p templates)) h
