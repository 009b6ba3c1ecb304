-- Candidates that leave the list of those that are not in the goal, and join the goal.
use Rattle.pair_questions.proofs.Common.{ℕ, ◌≡◌, ◌<◌, ◌+◌, Bool, true, false, ◌||◌, List, [], ◌∷◌, ◌++◌, length, take, drop, get_or, append-nil, refl, ap, sym, subst, ◌∙◌, arith, suc, length-append, length-drop, length-take-le, Bounds, Point, RunPair, IsPoint, covers, some_covers, tried, Candidate, SHIFTS, AreTemplates, NoneCovers, CoversAt, integer_count, tape_of, tapes_of, tried_split, AreAllCandidates, IsQuestionOf, IfSome, Option, Some, None, IsPointQuestion, IsFoundMissed, IsFoundPoint, IsLeastMissed, IsLeastUncovered}
use Rattle.std.specs.Prelude.{Err, IfOk, IsTrue, MatchOption, Ok, OnOk, Result, is_some, remove}
use Rattle.std.specs.Global.{Global, Vec}
use Rattle.std.proofs.lemmas.Option.{slice_get_within}
use Rattle.std.specs.Result.{result_and}
use Rattle.support.specs.declared.no_memory.NoMemory.{NoMemory}
use Rattle.points.proofs.Args.{ArgsFit-length}
use Rattle.clause_log.specs.declared.step.Cert.{Cert}
use Rattle.candidate_runs.proofs.Tried.{tapes_append, taken_out}
use Rattle.pair_questions.proofs.Findings.{least_of_all}
use Rattle.pair_questions.specs.declared.found.Found.{Found}
use Rattle.pair_questions.specs.declared.found.Found.TheVariants as found
use Rattle.pair_questions.specs.declared.point_question.PointQuestion.{PointQuestion}
use Rattle.pair_questions.specs.declared.subject.Subject.{Subject}

or_assoc : (a b c : Bool) → (a || (b || c)) ≡ ((a || b) || c)
or_assoc true b c = refl
or_assoc false b c = refl

or_none : (a : Bool) → (a || false) ≡ a
or_none true = refl
or_none false = refl

-- the candidate was one of a list, and the others are left
record IsTaken (pair : RunPair) (bounds : Bounds) (old new : List Candidate) (c : Candidate) : Type 0 where
  pub count : length new + 1 ≡ length old
  pub same : (p : Point) → some_covers pair bounds p (tapes_of pair bounds p old) ≡ (covers pair bounds p (tape_of pair bounds p c) || some_covers pair bounds p (tapes_of pair bounds p new))

module _ (pair : RunPair) (bounds : Bounds) where
  -- the shifts and the templates
  pub all_at_first : (left : List Candidate) → AreTemplates (integer_count pair.target.parameters) left → AreAllCandidates pair bounds SHIFTS left
  all_at_first left are p h = tried_split pair bounds p left are (ArgsFit-length _ pair.target.parameters p.input.args h.args)

  -- the goal has all of them
  pub all_joined : (front left none : List Candidate) → none ≡ [] → AreAllCandidates pair bounds front left → AreAllCandidates pair bounds (front ++ left) none
  unfolding some_covers
  all_joined front left none e all p h =
      all p h ∙ sym (tapes_append pair bounds p front left) ∙ sym (or_none (some_covers pair bounds p (tapes_of pair bounds p (front ++ left))))
      ∙ ap (λ (cs : List Candidate). some_covers pair bounds p (tapes_of pair bounds p (front ++ left)) || some_covers pair bounds p (tapes_of pair bounds p cs)) (sym e)

  one_of : (p : Point) (c : Candidate) → some_covers pair bounds p (tapes_of pair bounds p (c ∷ [])) ≡ covers pair bounds p (tape_of pair bounds p c)
  unfolding some_covers
  one_of p c = or_none (covers pair bounds p (tape_of pair bounds p c))

  -- or one more of them
  one_joined : (front old new : List Candidate) (c : Candidate) → IsTaken pair bounds old new c → AreAllCandidates pair bounds front old → AreAllCandidates pair bounds (front ++ c ∷ []) new
  one_joined front old new c taken all p h =
      let F = some_covers pair bounds p (tapes_of pair bounds p front) in
      let N = some_covers pair bounds p (tapes_of pair bounds p new) in
      let C = covers pair bounds p (tape_of pair bounds p c) in
      all p h ∙ ap (λ b. F || b) (taken.same p) ∙ or_assoc F C N
      ∙ ap (λ b. b || N) (ap (λ b. F || b) (sym (one_of p c)) ∙ sym (tapes_append pair bounds p front (c ∷ [])))

  is_taken : (old new : List Candidate) (i : ℕ) (c : Candidate) → i < length old → c ≡ get_or old i c → new ≡ remove old i → length new + 1 ≡ length old → IsTaken pair bounds old new c
  is_taken old new i c lt is e count = record { count = count; same = λ p. rw e (taken_out pair bounds p old i c lt is) }

  pub none_left : (p : Point) (cs : List Candidate) → cs ≡ [] → NoneCovers pair bounds p cs
  unfolding some_covers
  none_left p cs e = rw e refl

  pub taken_joined : (front old new : List Candidate) (i : ℕ) (c : Candidate) → i < length old → c ≡ get_or old i c → new ≡ remove old i → length new + 1 ≡ length old → AreAllCandidates pair bounds front old → AreAllCandidates pair bounds (front ++ c ∷ []) new
  taken_joined front old new i c lt is e count all = one_joined front old new c (is_taken old new i c lt is e count) all

-- ---- under a limit none is left

pub whole_of : (limit : Option ℕ) (left : List Candidate) → IfSome limit (λ n. 0 < n) → left ≡ [] → IfSome limit (λ n. (0 < n) × (left ≡ []))
whole_of None left h e = tt
whole_of (Some n) left h e = (h, e)

pub whole_none : (limit : Option ℕ) (left : List Candidate) → limit ≡ None → IfSome limit (λ n. (0 < n) × (left ≡ []))
whole_none limit left e = rw e tt

pub whole_less : (limit : Option ℕ) (old new : List Candidate) → IfSome limit (λ n. (0 < n) × (old ≡ [])) → length new + 1 ≡ length old → IfSome limit (λ n. (0 < n) × (new ≡ []))
whole_less None old new h count = tt
whole_less (Some n) old new h count = let none : length old ≡ 0 = ap length h.1 in absurd (omega (arith, none, count))

pub not_some : (limit : Option ℕ) → is_some limit ≡ false → limit ≡ None
not_some None e = refl
not_some (Some n) e = absurd (let z : ⊥ = cc in z)

-- ---- the goal knows nothing of the others

pub question_left : (s : Subject) (front : List Candidate) (q r : PointQuestion) → r ≡ record q { left = r.left } → IsQuestionOf s front q → IsQuestionOf s front r
question_left s front q r e h = rw e (record { of = h.of; ids = h.ids; order = h.order; widths = h.widths; goal = h.goal })

-- ---- one that covers the point joins

pub found_within : (pair : RunPair) (bounds : Bounds) (p : Point) (seen left : List Candidate) (f : Option ℕ) (i : ℕ) → seen ≡ left → f ≡ Some i
    → MatchOption f (NoneCovers pair bounds p seen) (CoversAt pair bounds p seen) → i < length left
found_within pair bounds p seen left f i same is found =
    let there : CoversAt pair bounds p left i = rw (same, is) at found in
    slice_get_within left i there.candidate there.there

pub widened : (s : Subject) (q new : PointQuestion) (left : Vec Candidate) (i : ℕ) (c : Candidate) → IsPointQuestion s q → i < length q.left.items → c ≡ get_or q.left.items i c
    → left.items ≡ remove q.left.items i → length left.items + 1 ≡ length q.left.items → new.left ≡ left → new.limit ≡ q.limit
    → ((front : List Candidate) → IsQuestionOf s front (record q { left = left }) → IsQuestionOf s (front ++ c ∷ []) new) → IsPointQuestion s new × (length new.left.items < length q.left.items)
widened s q new left i c h lt is gone count same limit joined =
    let taken : new.left.items ≡ remove q.left.items i = ap (λ (l : Vec Candidate). l.items) same ∙ gone in
    let fewer : length new.left.items + 1 ≡ length q.left.items = ap (λ (l : Vec Candidate). length l.items + 1) same ∙ count in (
      (record {
        front = h.front ++ c ∷ [];
        question = joined h.front (question_left s h.front q (record q { left = left }) refl h.question);
        all = taken_joined s.pair.now s.bounds.now h.front q.left.items new.left.items i c lt is taken fewer h.all;
        whole = subst (λ (l : Option ℕ). IfSome l (λ n. (0 < n) × (new.left.items ≡ []))) (sym limit) (whole_less q.limit q.left.items new.left.items h.whole fewer);
      }),
      (omega (arith, fewer)),
    )

-- what holds where the join is Ok holds where the answer is
pub where_joined : (join : Result (Unit {0}) NoMemory) (both : Result Bool NoMemory) (Q P : Type 0) → both ≡ result_and join (Ok true) → OnOk join Q → (Q → P) → IfOk both (λ b. IsTrue b → P)
where_joined (Ok u) both Q P e q h = rw e (λ _. h q)
where_joined (Err x) both Q P e q h = rw e tt

-- ---- what is found of the goal, where no candidate outside it covers the point

module _ (s : Subject) (q : PointQuestion) where
  pub least_found : (r : PointQuestion) (h : IsPointQuestion s q) (f : Found Point) (p : Point) → f ≡ found.Least p → IsFoundMissed s.pair.now s.bounds.now h.front q.tapes q.limit f
      → NoneCovers s.pair.now s.bounds.now p q.left.items × (r ≡ q) → IsLeastUncovered s.pair.now s.bounds.now r.tapes p
  least_found r h f p e there none =
      let missed : IsLeastMissed s.pair.now s.bounds.now h.front q.tapes p = rw e at there in
      subst (λ (t : PointQuestion). IsLeastUncovered s.pair.now s.bounds.now t.tapes p) (sym none.1) (least_of_all s.pair.now s.bounds.now h.front q.left.items q.tapes h.all p none.0 missed)

  pub none_found : (h : IsPointQuestion s q) (f : Found Point) (cert : Cert) → f ≡ found.None cert → IsFoundMissed s.pair.now s.bounds.now h.front q.tapes q.limit f
      → IsFoundPoint s.pair.now s.bounds.now q.tapes q.limit (found.None cert)
  none_found h f cert e there = rw e at there

  pub spent_found : (h : IsPointQuestion s q) (f : Found Point) (cert : Cert) → f ≡ found.Spent cert → IsFoundMissed s.pair.now s.bounds.now h.front q.tapes q.limit f
      → IsFoundPoint s.pair.now s.bounds.now q.tapes q.limit (found.Spent cert)
  spent_found h f cert e there = rw e at there
