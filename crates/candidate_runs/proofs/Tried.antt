-- All candidates are the shifts and the templates.
use Rattle.candidate_runs.proofs.Common.{ℕ, zero, suc, ◌≡◌, ◌<◌, ◌+◌, List, [], ◌∷◌, ◌++◌, length, map, take, drop, get_or, Bool, true, false, ◌||◌, refl, sym, ap, ◌∙◌, arith, flat_map, Value, Parameter, Bounds, Point, RunPair, need_of, covers, some_covers, integers, templates, tried, words_of, AreTemplates, Candidate, SHIFTS, function_of, integer_count, tape_of, tapes_of}
use Rattle.std.proofs.lemmas.List.{map-append}
use Rattle.std.proofs.lemmas.Simd.{map-map}
use Rattle.candidate_runs.proofs.Listed.{integers-length}

or_assoc : (a b c : Bool) → ((a || b) || c) ≡ (a || (b || c))
or_assoc true b c = refl
or_assoc false b c = refl

pub some_append : (pair : RunPair) (bounds : Bounds) (p : Point) (xs ys : List (List ℕ)) → some_covers pair bounds p (xs ++ ys) ≡ (some_covers pair bounds p xs || some_covers pair bounds p ys)
unfolding some_covers
some_append pair bounds p [] ys = refl
some_append pair bounds p (x ∷ xs) ys =
    ap (λ b. covers pair bounds p x || b) (some_append pair bounds p xs ys) ∙ sym (or_assoc (covers pair bounds p x) (some_covers pair bounds p xs) (some_covers pair bounds p ys))

pub tapes_append : (pair : RunPair) (bounds : Bounds) (p : Point) (xs ys : List Candidate)
    → some_covers pair bounds p (tapes_of pair bounds p (xs ++ ys)) ≡ (some_covers pair bounds p (tapes_of pair bounds p xs) || some_covers pair bounds p (tapes_of pair bounds p ys))
tapes_append pair bounds p xs ys = ap (some_covers pair bounds p) (map-append (tape_of pair bounds p) xs ys) ∙ some_append pair bounds p (tapes_of pair bounds p xs) (tapes_of pair bounds p ys)

pub tried_split : (pair : RunPair) (bounds : Bounds) (p : Point) (cs : List Candidate) → AreTemplates (integer_count pair.target.parameters) cs → length p.input.args ≡ length pair.target.parameters
    → some_covers pair bounds p (tried pair bounds p) ≡ (some_covers pair bounds p (tapes_of pair bounds p SHIFTS) || some_covers pair bounds p (tapes_of pair bounds p cs))
tried_split pair bounds p cs are long =
    let numbers = integers pair.target.parameters p.input.args in
    let words = words_of (need_of bounds.turns pair.source) in
    let same : map words (flat_map (templates p.tape) numbers) ≡ tapes_of pair bounds p cs =
    sym (ap (map words) (are numbers p.tape (integers-length pair.target.parameters p.input.args long))) ∙ map-map words (function_of numbers p.tape) cs in
    some_append pair bounds p (tapes_of pair bounds p SHIFTS) (map words (flat_map (templates p.tape) numbers)) ∙ ap (λ ts. some_covers pair bounds p (tapes_of pair bounds p SHIFTS) || some_covers pair bounds p ts) same

-- one of a list, and the others
pub taken_out : (pair : RunPair) (bounds : Bounds) (p : Point) (cs : List Candidate) (i : ℕ) (c : Candidate) → i < length cs → c ≡ get_or cs i c
    → some_covers pair bounds p (tapes_of pair bounds p cs) ≡ (covers pair bounds p (tape_of pair bounds p c) || some_covers pair bounds p (tapes_of pair bounds p (take i cs ++ drop (suc i) cs)))
unfolding some_covers
taken_out pair bounds p [] i c lt e = absurd (omega (arith, lt))
taken_out pair bounds p (x ∷ xs) zero c lt e = rw e refl
taken_out pair bounds p (x ∷ xs) (suc i) c lt e =
    ap (λ b. covers pair bounds p (tape_of pair bounds p x) || b) (taken_out pair bounds p xs i c (omega (arith, lt)) e)
    ∙ swapped (covers pair bounds p (tape_of pair bounds p x)) (covers pair bounds p (tape_of pair bounds p c)) (some_covers pair bounds p (tapes_of pair bounds p (take i xs ++ drop (suc i) xs)))
  where
    swapped : (a b c : Bool) → (a || (b || c)) ≡ (b || (a || c))
    swapped true true c = refl
    swapped true false c = refl
    swapped false b c = refl
