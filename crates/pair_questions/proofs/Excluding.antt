-- The goal with one tape more, and with more candidates.
use Rattle.pair_questions.proofs.Common.{ℕ, ◌≡◌, ◌↔◌, Bool, true, false, not, ◌&&◌, ◌||◌, List, [], ◌∷◌, ◌++◌, refl, ap, sym, subst, ◌∙◌, IrType, Int, Parameter, Bounds, Input, Point, Shape, Outcome, some_covers, integers, RunPair, layout_of, run_of, code_of, IsPoint, TermId, Term, Keeps, Tests, bit_at, ArgTerms, InputTerms, TapeTerms, OutcomeTerms, reading, AreWords, AreArgs, IsArg, words_at, IsOutcome, LeavesGiven, Shows, input_at-later, is_input-later, is_outcome-later, shows-later, term-later, words-later, words_at-later, Decides, IsInputOf, IsTapeOf, numbers_at, input_in, none_allows, outcome_in, IsMissed, IsShapeOf, IsOfTarget, IsSubject, frames_of, or_from, and_from, not-true, not_from_false, Candidate, tapes_of, words_of_each, integer_at, integers_at, ArePointTerms, IsQuestionOf}
use Rattle.ir_tree.specs.declared.tree.IrType.TheVariants as type
use Rattle.mem_terms.specs.declared.inputs.ArgTerms.TheVariants as arg
use Rattle.candidate_runs.proofs.Tried.{some_append, tapes_append}
use Rattle.pair_questions.specs.declared.point_question.PointQuestion.{PointQuestion}
use Rattle.pair_questions.specs.declared.point_terms.PointTerms.{PointTerms}
use Rattle.pair_questions.specs.declared.subject.Subject.{Subject}
use Rattle.pair_questions.proofs.Fitting.{of_shape}
use Rattle.pair_questions.proofs.Numbered.{order_kept}
use Rattle.pair_questions.proofs.Uncovering.{and_left, and_right, none_is, numbers-later, point_at, the_integers, the_point}

-- ---- terms that grow

both_parts : {a b c d : List ℕ} → a ≡ b → c ≡ d → a ++ c ≡ b ++ d
both_parts e f = rw (e, f) refl

three : {A B C D : Type 0} (f : A → B → C → D) {x x' : A} {y y' : B} {z z' : C} → x ≡ x' → y ≡ y' → z ≡ z' → f x y z ≡ f x' y' z'
three f e g h = cc

two : {A B : Type 0} (F : A → B → Type 0) {x x' : A} {y y' : B} → x ≡ x' → y ≡ y' → F x y → F x' y'
two F {x} {x'} {y} {y'} e f h = subst (λ b. F x' b) f (subst (λ a. F a y) e h)

module _ (old new : List Term) (k : Keeps old new) (pair : RunPair) (bounds : Bounds) (s : Shape) (input : InputTerms) (choices : TapeTerms) (are : IsInputOf s old input) (words : AreWords old choices.words) where
  -- the run that is shown on the earlier terms
  pub of_target-made : (o : OutcomeTerms) → IsOutcome new o → LeavesGiven (frames_of (layout_of pair bounds)) o
      → ((v : ℕ → ℕ → ℕ) → Shows (reading bounds.blocks v) new (words_at v old choices.words) (run_of pair.target bounds (input_in (layout_of pair bounds) v old input) (words_at v old choices.words)) o) → IsOfTarget pair bounds new input choices o
  of_target-made o made given shows = record {
    made = made;
    given = given;
    shows = λ v.
        let r = reading bounds.blocks v in
        let same_words : words_at v new choices.words ≡ words_at v old choices.words = words_at-later old new k v choices.words words in
        let same_input : input_in (layout_of pair bounds) v new input ≡ input_in (layout_of pair bounds) v old input = input_at-later old new k r s.parameters s.layout input are in
        two (λ (i : Input) (ws : List ℕ). Shows r new ws (run_of pair.target bounds i ws) o) (sym same_input) (sym same_words) (shows v);
  }

  pub of_target-later : (o : OutcomeTerms) → IsOfTarget pair bounds old input choices o → IsOfTarget pair bounds new input choices o
  of_target-later o h = of_target-made o (is_outcome-later old new k o h.made) h.given
      (λ v. shows-later old new k (reading bounds.blocks v) (words_at v old choices.words) (run_of pair.target bounds (input_in (layout_of pair bounds) v old input) (words_at v old choices.words)) o h.made (h.shows v))

  pub decides-later : IsTapeOf s old choices → (id : TermId) (terms : List Term) (Answer : List ℕ → Type 0) → Decides terms id (λ v. Answer (numbers_at v old input choices)) → Decides terms id (λ v. Answer (numbers_at v new input choices))
  decides-later is_tape id terms Answer h = (h.0, λ v. subst (λ (ns : List ℕ). (bit_at v terms id ≡ true) ↔ Answer ns) (sym (numbers-later old new k s input choices are is_tape v)) (h.1 v))

  integer-later : (t : IrType) (a : ArgTerms) → IsArg old t a → (v : ℕ → ℕ → ℕ) → integer_at v new a ≡ integer_at v old a
  integer-later (Int w) (arg.Int flag number) h v = ap (λ n. n ∷ []) (term-later old new k v number h.1.within)
  integer-later type.Ptr (arg.Ptr flag block offset) h v = refl
  integer-later (Int w) (arg.Ptr flag block offset) h v = absurd h
  integer-later type.Ptr (arg.Int flag number) h v = absurd h

  pub integers-later : (ps : List Parameter) (args : List ArgTerms) → AreArgs old ps args → (v : ℕ → ℕ → ℕ) → integers_at v new args ≡ integers_at v old args
  integers-later [] [] h v = refl
  integers-later (p ∷ ps) (a ∷ rest) h v = both_parts (integer-later p.of_type a h.0 v) (integers-later ps rest h.1 v)
  integers-later [] (a ∷ rest) h v = absurd h
  integers-later (p ∷ ps) [] h v = absurd h

pub point_terms-later : (s : Subject) (old new : List Term) (of : PointTerms) → Keeps old new → ArePointTerms s old of → ArePointTerms s new of
point_terms-later s old new of k h = record {
  input = is_input-later old new k s.shape.parameters s.shape.layout of.input h.input;
  tape = record { count = h.tape.count; words = words-later old new k of.tape.words h.tape.words };
  numbers = words-later old new k of.numbers h.numbers;
  integers = λ v. words_at-later old new k v of.numbers h.numbers ∙ h.integers v
      ∙ sym (integers-later old new k s.pair.now s.bounds.now s.shape of.input of.tape h.input h.tape.words s.shape.parameters of.input.args h.input.args v);
  target = of_target-later old new k s.pair.now s.bounds.now s.shape of.input of.tape h.input h.tape.words of.target h.target;
}

-- ---- the goal with more tapes, which may depend on the point

or_left : (a b : Bool) → (a || b) ≡ false → a ≡ false
or_left true b h = h
or_left false b h = refl

or_right : (a b : Bool) → (a || b) ≡ false → b ≡ false
or_right true b h = absurd (let z : ⊥ = cc in z)
or_right false b h = h

module _ (old new : List Term) (pair : RunPair) (bounds : Bounds) (s : Shape) (input : InputTerms) (choices : TapeTerms) (target : OutcomeTerms) (goal id : TermId) (more : (ℕ → ℕ → ℕ) → List (List ℕ))
    (shape : IsShapeOf pair bounds s) (are : IsInputOf s old input) (run : IsOfTarget pair bounds old input choices target)
    (tests : Tests new id (λ v. bit_at v old goal && none_allows pair.source bounds (input_in (layout_of pair bounds) v old input) (outcome_in (layout_of pair bounds) v old target) (more v))) where
  -- the point of the code
  pub record IsAt (v : ℕ → ℕ → ℕ) (p : Point) : Type 0 where
    pub point : IsPoint pair bounds p
    pub code : code_of (layout_of pair bounds) pair.target.parameters p ≡ numbers_at v old input choices

  abbrev here : (ℕ → ℕ → ℕ) → Point
  here v = point_at (layout_of pair bounds) v old input choices

  shaped_code : (v : ℕ → ℕ → ℕ) (p : Point) → IsAt v p → code_of s.layout s.parameters p ≡ numbers_at v old input choices
  shaped_code v p h = rw (shape.parameters, shape.layout) h.code

  pub is_here : (v : ℕ → ℕ → ℕ) (p : Point) → IsAt v p → here v ≡ p
  is_here v p h = the_point pair bounds s old input choices shape are v p (of_shape pair bounds s shape p h.point) (shaped_code v p h)

  pub integers_here : (v : ℕ → ℕ → ℕ) (p : Point) → IsAt v p → integers_at v old input.args ≡ integers pair.target.parameters p.input.args
  integers_here v p h = the_integers pair bounds s old input choices shape are v p (of_shape pair bounds s shape p h.point) (shaped_code v p h)

  abbrev left : (ℕ → ℕ → ℕ) → Bool
  left v = none_allows pair.source bounds (input_in (layout_of pair bounds) v old input) (outcome_in (layout_of pair bounds) v old target) (more v)

  none_here : (v : ℕ → ℕ → ℕ) (p : Point) → IsAt v p → left v ≡ not (some_covers pair bounds p (more v))
  none_here v p h =
      ap (λ (z : Outcome). none_allows pair.source bounds (input_in (layout_of pair bounds) v old input) z (more v)) (run.shows v).outcome ∙ none_is pair bounds (here v) (more v)
      ∙ ap (λ (q : Point). not (some_covers pair bounds q (more v))) (is_here v p h)

  pub goal_before : (v : ℕ → ℕ → ℕ) → bit_at v new id ≡ true → bit_at v old goal ≡ true
  goal_before v e = and_left (bit_at v old goal) (left v) (sym (tests.says v) ∙ e)

  pub more_fail : (v : ℕ → ℕ → ℕ) (p : Point) → IsAt v p → bit_at v new id ≡ true → some_covers pair bounds p (more v) ≡ false
  more_fail v p h e = not-true (some_covers pair bounds p (more v)) (sym (none_here v p h) ∙ and_right (bit_at v old goal) (left v) (sym (tests.says v) ∙ e))

  pub goal_after : (v : ℕ → ℕ → ℕ) (p : Point) → IsAt v p → bit_at v old goal ≡ true → some_covers pair bounds p (more v) ≡ false → bit_at v new id ≡ true
  goal_after v p h e fail = tests.says v ∙ and_from (bit_at v old goal) (left v) e (none_here v p h ∙ not_from_false (some_covers pair bounds p (more v)) fail)

-- ---- one tape more, and more candidates

module _ (s : Subject) (q : PointQuestion) (front : List Candidate) (terms : List Term) (id : TermId) (is : IsSubject s) (h : IsQuestionOf s front q) (k : Keeps q.terms terms) where
  abbrev pair : RunPair
  pair = s.pair.now

  abbrev bounds : Bounds
  bounds = s.bounds.now

  abbrev numbers : (ℕ → ℕ → ℕ) → List ℕ
  numbers v = numbers_at v q.terms q.of.input q.of.tape

  abbrev Narrowed : ((ℕ → ℕ → ℕ) → List (List ℕ)) → Type 0
  Narrowed more = Tests terms id (λ v. bit_at v q.terms q.goal && none_allows pair.source bounds (input_in (layout_of pair bounds) v q.terms q.of.input) (outcome_in (layout_of pair bounds) v q.terms q.of.target) (more v))

  question_with : (cs : List Candidate) (tapes : List (List ℕ)) → Decides terms id (λ v. IsMissed pair bounds cs tapes (numbers v)) → IsQuestionOf s cs (record q { tapes = tapes; terms = terms; goal = id })
  question_with cs tapes goal = record {
    of = point_terms-later s q.terms terms q.of k h.of;
    ids = h.ids;
    order = order_kept q.terms terms q.order q.widths k h.order;
    widths = h.widths;
    goal = decides-later q.terms terms k pair bounds s.shape q.of.input q.of.tape h.of.input h.of.tape.words h.of.tape id terms (IsMissed pair bounds cs tapes) goal;
  }

  module _ (tapes : List (List ℕ)) (tape : List ℕ) (tests : Narrowed (λ v. tape ∷ [])) where
    to_more : (v : ℕ → ℕ → ℕ) → bit_at v terms id ≡ true → IsMissed pair bounds front (q.tapes ++ tape ∷ []) (numbers v)
    to_more v e =
        let u = (h.goal.1 v).0 (goal_before q.terms terms pair bounds s.shape q.of.input q.of.tape q.of.target q.goal id (λ v. tape ∷ []) is.shape h.of.input h.of.target tests v e) in
        let fail = more_fail q.terms terms pair bounds s.shape q.of.input q.of.tape q.of.target q.goal id (λ v. tape ∷ []) is.shape h.of.input h.of.target tests v u.of (record { point = u.point; code = u.code }) e in
        record {
          of = u.of;
          point = u.point;
          code = u.code;
          by_candidate = u.by_candidate;
          by_tape = some_append pair bounds u.of q.tapes (tape ∷ []) ∙ or_from (some_covers pair bounds u.of q.tapes) (some_covers pair bounds u.of (tape ∷ [])) u.by_tape fail;
        }

    from_more : (v : ℕ → ℕ → ℕ) → IsMissed pair bounds front (q.tapes ++ tape ∷ []) (numbers v) → bit_at v terms id ≡ true
    from_more v u =
        let apart = sym (some_append pair bounds u.of q.tapes (tape ∷ [])) ∙ u.by_tape in
        let before : IsMissed pair bounds front q.tapes (numbers v) =
        record { of = u.of; point = u.point; code = u.code; by_candidate = u.by_candidate; by_tape = or_left (some_covers pair bounds u.of q.tapes) (some_covers pair bounds u.of (tape ∷ [])) apart } in
        goal_after q.terms terms pair bounds s.shape q.of.input q.of.tape q.of.target q.goal id (λ v. tape ∷ []) is.shape h.of.input h.of.target tests v u.of (record { point = u.point; code = u.code }) ((h.goal.1 v).1 before)
        (or_right (some_covers pair bounds u.of q.tapes) (some_covers pair bounds u.of (tape ∷ [])) apart)

    pub question_more : tapes ≡ q.tapes ++ tape ∷ [] → IsQuestionOf s front (record q { tapes = tapes; terms = terms; goal = id })
    question_more e = question_with front tapes
        (subst (λ (ts : List (List ℕ)). Decides terms id (λ v. IsMissed pair bounds front ts (numbers v))) (sym e) (record { within = tests.within; wide = tests.wide }, λ v. (to_more v, from_more v)))

  abbrev tapes_in : List Candidate → (ℕ → ℕ → ℕ) → List (List ℕ)
  tapes_in cs v = words_of_each s.need (words_at v q.terms q.of.numbers) (words_at v q.terms q.of.tape.words) cs

  module _ (cs : List Candidate) (tests : Narrowed (tapes_in cs)) where
    tapes_here : (v : ℕ → ℕ → ℕ) (p : Point) → here q.terms terms pair bounds s.shape q.of.input q.of.tape q.of.target q.goal id (tapes_in cs) is.shape h.of.input h.of.target tests v ≡ p
        → integers_at v q.terms q.of.input.args ≡ integers pair.target.parameters p.input.args → tapes_in cs v ≡ tapes_of pair bounds p cs
    tapes_here v p e f =
        three (λ (n : ℕ) (ns ws : List ℕ). words_of_each n ns ws cs) is.need (h.of.integers v ∙ f) (ap (λ (p : Point). p.tape) e)

    at_point : (v : ℕ → ℕ → ℕ) (p : Point) → IsPoint pair bounds p → code_of (layout_of pair bounds) pair.target.parameters p ≡ numbers v → tapes_in cs v ≡ tapes_of pair bounds p cs
    at_point v p point code =
        tapes_here v p (is_here q.terms terms pair bounds s.shape q.of.input q.of.tape q.of.target q.goal id (tapes_in cs) is.shape h.of.input h.of.target tests v p (record { point = point; code = code }))
        (integers_here q.terms terms pair bounds s.shape q.of.input q.of.tape q.of.target q.goal id (tapes_in cs) is.shape h.of.input h.of.target tests v p (record { point = point; code = code }))

    to_joined : (v : ℕ → ℕ → ℕ) → bit_at v terms id ≡ true → IsMissed pair bounds (front ++ cs) q.tapes (numbers v)
    to_joined v e =
        let u = (h.goal.1 v).0 (goal_before q.terms terms pair bounds s.shape q.of.input q.of.tape q.of.target q.goal id (tapes_in cs) is.shape h.of.input h.of.target tests v e) in
        let fail = more_fail q.terms terms pair bounds s.shape q.of.input q.of.tape q.of.target q.goal id (tapes_in cs) is.shape h.of.input h.of.target tests v u.of (record { point = u.point; code = u.code }) e in
        let there : some_covers pair bounds u.of (tapes_of pair bounds u.of cs) ≡ false = sym (ap (some_covers pair bounds u.of) (at_point v u.of u.point u.code)) ∙ fail in
        record {
          of = u.of;
          point = u.point;
          code = u.code;
          by_candidate = tapes_append pair bounds u.of front cs ∙ or_from (some_covers pair bounds u.of (tapes_of pair bounds u.of front)) (some_covers pair bounds u.of (tapes_of pair bounds u.of cs)) u.by_candidate there;
          by_tape = u.by_tape;
        }

    from_joined : (v : ℕ → ℕ → ℕ) → IsMissed pair bounds (front ++ cs) q.tapes (numbers v) → bit_at v terms id ≡ true
    from_joined v u =
        let apart = sym (tapes_append pair bounds u.of front cs) ∙ u.by_candidate in
        let before : IsMissed pair bounds front q.tapes (numbers v) =
        record { of = u.of; point = u.point; code = u.code; by_candidate = or_left (some_covers pair bounds u.of (tapes_of pair bounds u.of front)) (some_covers pair bounds u.of (tapes_of pair bounds u.of cs)) apart; by_tape = u.by_tape } in
        goal_after q.terms terms pair bounds s.shape q.of.input q.of.tape q.of.target q.goal id (tapes_in cs) is.shape h.of.input h.of.target tests v u.of (record { point = u.point; code = u.code }) ((h.goal.1 v).1 before)
        (ap (some_covers pair bounds u.of) (at_point v u.of u.point u.code) ∙ or_right (some_covers pair bounds u.of (tapes_of pair bounds u.of front)) (some_covers pair bounds u.of (tapes_of pair bounds u.of cs)) apart)

    pub question_joined : IsQuestionOf s (front ++ cs) (record q { terms = terms; goal = id })
    question_joined = question_with (front ++ cs) q.tapes (record { within = tests.within; wide = tests.wide }, λ v. (to_joined v, from_joined v))
