-- What is found of numbers is found of points and of tapes.
use Rattle.pair_questions.proofs.Common.{◌≡◌, ◌↔◌, ℕ, ◌+◌, ◌<◌, inl, inr, Bool, true, false, List, [], ◌++◌, map, Option, Some, refl, sym, ap, subst, ◌∙◌, arith, cases_Bool, Layout, TermId, Term, AreFit, term_at, Cnf, Bounds, Point, Shape, RunPair, layout_of, IsOfShape, code_of, number_of, IsCode, covers, is_covered, need_of, AreAllCovered, IsLeastUncovered, IsPoint, codes_tell_points, Fits, IsLeast, NonePass, numbers_of, fits-numbers, InputTerms, TapeTerms, words_at, Decides, numbers_at, AreSmall, AsksNumbers, IsFoundNumbers, IsRefutedTest, IsSpentTest, looked_up, number_test, AreNumbered, AsksFor, IsCovering, IsFoundCode, IsFoundTape, IsLeastCode, IsRefuted, IsSpentOn, IsUncovered, point_widths, tape_widths, IsShapeOf, input_ids, ◌||◌, some_covers, tried, tapes_of, NoneCovers, Candidate, AreAllCandidates, IsMissed, IsLeastMissed, IfSome}
use Rattle.std.proofs.lemmas.Bool.{true≢false}
use Rattle.candidate_runs.proofs.Tried.{some_append}
use Rattle.std.proofs.Common.{slice_index}
use Rattle.clause_log.specs.declared.step.Cert.{Cert}
use Rattle.pair_questions.specs.declared.found.Found.{Found}
use Rattle.pair_questions.specs.declared.found.Found.TheVariants as found
use Rattle.pair_questions.proofs.Decoded.{numbers_in_order}
use Rattle.pair_questions.proofs.Fitting.{fit_words, of_shape, point_fits, words_fit}
use Rattle.pair_questions.proofs.Numbered.{numbers-looked}

-- ---- answers, whatever they are

-- of numbers of these widths exactly the answers pass the test
abbrev pub Passes : (List ℕ → Bool) → List ℕ → (List ℕ → Type 0) → Type 0
Passes test widths Answer = (numbers : List ℕ) → Fits widths numbers → (test numbers ≡ true) ↔ Answer numbers

module _ (test : List ℕ → Bool) (widths : List ℕ) (Answer : List ℕ → Type 0) (passes : Passes test widths Answer) where
  asks_for : (cnf : Cnf) → AsksNumbers test widths cnf → AsksFor Answer widths cnf
  asks_for cnf h = record {
    test = h.of_digits;
    asks = h.asks;
    means = λ digits long.
        let same = h.means digits long in
        let both = passes (numbers_of widths digits) (fits-numbers widths digits long) in
        ((λ p. both.0 (sym same ∙ p)), (λ a. same ∙ both.1 a));
  }

  pub refuted_for : (cert : Cert) → IsRefutedTest test widths cert → IsRefuted Answer widths cert
  refuted_for cert h = record { asks = asks_for cert.cnf h.asks; refutes = h.refutes; careful = h.careful; small = h.small }

  pub spent_for : (limit : Option ℕ) (cert : Cert) → (n : ℕ) × (limit ≡ Some n) × IsSpentTest test widths n cert → (n : ℕ) × (limit ≡ Some n) × IsSpentOn Answer widths n cert
  spent_for limit cert h = (h.0, h.1, record { asks = asks_for cert.cnf h.2.asks; spent = h.2.spent; small = h.2.small })

-- ---- points

both_false : (a b c : Bool) → a ≡ false → b ≡ false → c ≡ false → ((a || b) || c) ≡ false
both_false a b c e f g = rw (e, f, g) refl

-- either of these, or not
by_first : (a b c : Bool) → a ≡ true → ((a || b) || c) ≡ true
by_first a b c e = rw e refl

by_last : (a b c : Bool) → c ≡ true → ((a || b) || c) ≡ true
by_last true b c e = refl
by_last false true c e = refl
by_last false false c e = e

not_first : (a b c : Bool) → ((a || b) || c) ≡ false → a ≡ false
not_first true b c e = e
not_first false b c e = refl

not_last : (a b c : Bool) → ((a || b) || c) ≡ false → c ≡ false
not_last true b c e = absurd (let z : ⊥ = cc in z)
not_last false true c e = absurd (let z : ⊥ = cc in z)
not_last false false c e = e

module _ (pair : RunPair) (bounds : Bounds) (front left : List Candidate) (tapes : List (List ℕ)) (all : AreAllCandidates pair bounds front left) where
  abbrev In : Point → Bool
  In p = some_covers pair bounds p (tapes_of pair bounds p front)

  abbrev Out : Point → Bool
  Out p = some_covers pair bounds p (tapes_of pair bounds p left)

  abbrev By : Point → Bool
  By p = some_covers pair bounds p tapes

  pub covered_is : (p : Point) → IsPoint pair bounds p → is_covered pair bounds tapes p ≡ ((In p || Out p) || By p)
  covered_is p h = some_append pair bounds p (tried pair bounds p) tapes ∙ ap (λ b. b || By p) (all p h)

  -- a point that no candidate covers, in the goal or left
  pub least_of_all : (p : Point) → NoneCovers pair bounds p left → IsLeastMissed pair bounds front tapes p → IsLeastUncovered pair bounds tapes p
  least_of_all p none h = record { point = h.point; uncovered = covered_is p h.point ∙ both_false (In p) (Out p) (By p) h.by_candidate none h.by_tape; least = h.least }

  pub missed_uncovered : ((p : Point) → NoneCovers pair bounds p left) → (numbers : List ℕ) → IsMissed pair bounds front tapes numbers → IsUncovered pair bounds tapes numbers
  missed_uncovered none numbers u = record { of = u.of; point = u.point; code = u.code; uncovered = covered_is u.of u.point ∙ both_false (In u.of) (Out u.of) (By u.of) u.by_candidate (none u.of) u.by_tape }

  pub uncovered_missed : (numbers : List ℕ) → IsUncovered pair bounds tapes numbers → IsMissed pair bounds front tapes numbers
  uncovered_missed numbers u =
      let apart = sym (covered_is u.of u.point) ∙ u.uncovered in
      record { of = u.of; point = u.point; code = u.code; by_candidate = not_first (In u.of) (Out u.of) (By u.of) apart; by_tape = not_last (In u.of) (Out u.of) (By u.of) apart }

module _ (pair : RunPair) (bounds : Bounds) (s : Shape) (is : IsShapeOf pair bounds s) (small : AreSmall bounds) (front left : List Candidate) (tapes : List (List ℕ)) (all : AreAllCandidates pair bounds front left) (test : List ℕ → Bool)
    (passes : Passes test (point_widths pair bounds) (IsMissed pair bounds front tapes)) where
  abbrev code : Point → List ℕ
  code p = code_of (layout_of pair bounds) pair.target.parameters p

  fits : (q : Point) → IsPoint pair bounds q → Fits (point_widths pair bounds) (code q)
  fits q h = point_fits pair bounds s is small q h

  -- a point whose code the test refuses is covered
  refused : (q : Point) → IsPoint pair bounds q → test (code q) ≡ false → is_covered pair bounds tapes q ≡ true
  refused q h fails = elim (cases_Bool (is_covered pair bounds tapes q)) [
    | inl covered ↦ covered
    | inr uncovered ↦
        let passed : test (code q) ≡ true = (passes (code q) (fits q h)).1 (uncovered_missed pair bounds front left tapes all (code q) (record { of = q; point = h; code = refl; uncovered = uncovered })) in
        absurd (let z : ⊥ = cc in z)
  ]

  all_covered : NonePass test (point_widths pair bounds) → AreAllCovered pair bounds tapes
  all_covered none q h = refused q h (none (code q) (fits q h))

  -- where no numbers pass, the clauses ask for the uncovered points too: there are none either way
  asks_for_none : NonePass test (point_widths pair bounds) → (cnf : Cnf) → AsksNumbers test (point_widths pair bounds) cnf → AsksFor (IsUncovered pair bounds tapes) (point_widths pair bounds) cnf
  asks_for_none none cnf h = record {
    test = h.of_digits;
    asks = h.asks;
    means = λ digits long.
        let fails : h.of_digits digits ≡ false = h.means digits long ∙ none (numbers_of (point_widths pair bounds) digits) (fits-numbers (point_widths pair bounds) digits long) in (
          (λ p. let z : true ≡ false = sym p ∙ fails in absurd (true≢false z)),
          (λ u. let z : true ≡ false = sym (all_covered none u.of u.point) ∙ u.uncovered in absurd (true≢false z)),
        );
  }

  -- a code of the shape is the code of one point
  one_point : (digits : List ℕ) (p q : Point) → IsOfShape s p → IsOfShape s q → code_of s.layout s.parameters p ≡ digits → code_of s.layout s.parameters q ≡ digits → p ≡ q
  one_point digits p q of_p of_q e f =
      let tells = codes_tell_points s in
      let one = tells.points digits (subst (λ (ds : List ℕ). IsCode s ds) e (tells.codes p of_p)) in
      one.1.only p of_p e ∙ sym (one.1.only q of_q f)

  shape_code : (p : Point) → code_of s.layout s.parameters p ≡ code p
  shape_code p = ap (λ (y : Layout). code_of y s.parameters p) is.layout ∙ ap (λ ps. code_of (layout_of pair bounds) ps p) is.parameters

  least_point : (digits : List ℕ) → IsLeast test (point_widths pair bounds) digits → IsLeastCode pair bounds s front tapes digits
  least_point digits least =
      let u = (passes digits least.fits).0 least.passes in
      let shaped = of_shape pair bounds s is u.of u.point in
      let coded : code_of s.layout s.parameters u.of ≡ digits = shape_code u.of ∙ u.code in
      record {
        of_shape = subst (λ (ds : List ℕ). IsCode s ds) coded ((codes_tell_points s).codes u.of shaped);
        least = λ p of_p e. subst (λ (q : Point). IsLeastMissed pair bounds front tapes q) (one_point digits u.of p shaped of_p coded e) (record {
          point = u.point;
          by_candidate = u.by_candidate;
          by_tape = u.by_tape;
          least = λ q h lt. refused q h (least.least (code q) (fits q h) (subst (λ ds. number_of (code q) < number_of ds) u.code lt));
        });
      }

  -- under a limit no candidate is left
  whole_passes : left ≡ [] → Passes test (point_widths pair bounds) (IsUncovered pair bounds tapes)
  unfolding some_covers
  whole_passes e numbers within =
      let none : (p : Point) → NoneCovers pair bounds p left = λ p. rw e refl in
      let both = passes numbers within in
      ((λ p. missed_uncovered pair bounds front left tapes all none numbers (both.0 p)), (λ u. both.1 (uncovered_missed pair bounds front left tapes all numbers u)))

  pub found_code : (limit : Option ℕ) → IfSome limit (λ n. (0 < n) × (left ≡ [])) → (found : Found (List ℕ)) → IsFoundNumbers test (point_widths pair bounds) limit found → IsFoundCode pair bounds s front tapes limit found
  found_code limit whole (found.Least digits) h = least_point digits h
  found_code limit whole (found.None cert) h = (all_covered h.0, record { asks = asks_for_none h.0 cert.cnf h.1.asks; refutes = h.1.refutes; careful = h.1.careful; small = h.1.small })
  found_code limit whole (found.Spent cert) h =
      let none : (0 < h.0) × (left ≡ []) = rw h.1 at whole in
      spent_for test (point_widths pair bounds) (IsUncovered pair bounds tapes) (whole_passes none.1) limit cert h

-- ---- tapes

module _ (pair : RunPair) (bounds : Bounds) (p : Point) (test : List ℕ → Bool) (passes : Passes test (tape_widths pair bounds) (IsCovering pair bounds p)) where
  abbrev need : ℕ
  need = need_of bounds.turns pair.source

  -- a tape that the test refuses doesn't cover the point
  no_cover : (tape : List ℕ) → Fits (tape_widths pair bounds) tape → test tape ≡ false → covers pair bounds p tape ≡ false
  no_cover tape within fails = elim (cases_Bool (covers pair bounds p tape)) [
    | inl cover ↦
        let passed : test tape ≡ true = (passes tape within).1 (record { fits = fit_words need tape within; cover = cover }) in
        absurd (let z : ⊥ = cc in z)
    | inr none ↦ none
  ]

  pub found_tape : (limit : Option ℕ) (found : Found (List ℕ)) → IsFoundNumbers test (tape_widths pair bounds) limit found → IsFoundTape pair bounds p limit found
  found_tape limit (found.Least tape) h =
      let c = (passes tape h.fits).0 h.passes in
      record { fits = c.fits; cover = c.cover; least = λ other w lt. let within = words_fit 64 need other (omega arith) w in no_cover other within (h.least other within lt) }
  found_tape limit (found.None cert) h =
      ((λ tape w. let within = words_fit 64 need tape (omega arith) w in no_cover tape within (h.0 tape within)), refuted_for test (tape_widths pair bounds) (IsCovering pair bounds p) passes cert h.1)
  found_tape limit (found.Spent cert) h = spent_for test (tape_widths pair bounds) (IsCovering pair bounds p) passes limit cert h

-- ---- tests

-- the numbers of an order under the numbers that are looked up are these
looked_at : (terms : List Term) (order : List TermId) (widths numbers : List ℕ) → AreFit [] terms → AreNumbered terms 0 order widths → Fits widths numbers → map (term_at (looked_up numbers) terms) order ≡ numbers
looked_at terms order widths numbers fit numbered fits =
    numbers-looked terms 0 order widths (looked_up numbers) numbers fit numbered (λ i width. let e : 0 + i ≡ i = omega arith in ap (slice_index numbers) e) fits

module _ (old new : List Term) (goal : TermId) (order : List TermId) (widths : List ℕ) (fit : AreFit [] old) (numbered : AreNumbered old 0 order widths) where
  pub point_passes : (input : InputTerms) (tape : TapeTerms) (Answer : List ℕ → Type 0) → order ≡ input_ids input ++ tape.words → Decides new goal (λ v. Answer (numbers_at v old input tape))
      → Passes (number_test new goal) widths Answer
  point_passes input tape Answer ids decides numbers fits =
      let v = looked_up numbers in
      let same : numbers_at v old input tape ≡ numbers = sym (numbers_in_order v old input tape) ∙ (sym (ap (map (term_at v old)) ids) ∙ looked_at old order widths numbers fit numbered fits) in
      subst (λ (ns : List ℕ). (number_test new goal numbers ≡ true) ↔ Answer ns) same (decides.1 v)

  pub tape_passes : (tape : TapeTerms) (Answer : List ℕ → Type 0) → order ≡ tape.words → Decides new goal (λ v. Answer (words_at v old tape.words)) → Passes (number_test new goal) widths Answer
  tape_passes tape Answer ids decides numbers fits =
      let v = looked_up numbers in
      let same : words_at v old tape.words ≡ numbers = sym (ap (map (term_at v old)) ids) ∙ looked_at old order widths numbers fit numbered fits in
      subst (λ (ns : List ℕ). (number_test new goal numbers ≡ true) ↔ Answer ns) same (decides.1 v)

-- ---- what is answered

pub ids_are : (first second third inputs words : List TermId) → first ≡ [] → second ≡ first ++ inputs → third ≡ second ++ words → third ≡ inputs ++ words
ids_are first second third inputs words e f g = g ∙ ap (λ xs. xs ++ words) (f ∙ ap (λ xs. xs ++ inputs) e)

pub words_are : (first second words : List TermId) → first ≡ [] → second ≡ first ++ words → second ≡ words
words_are first second words e f = f ∙ ap (λ xs. xs ++ words) e
