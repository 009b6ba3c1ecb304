-- A worker that draws: what it has at each turn, and at its end.
use Rattle.std.proofs.Common.{◌≡◌, ℕ, Bool, true, false, zero, suc, ◌+◌, ◌-◌, ◌*◌, ◌<◌, ◌≤◌, List, [], ◌∷◌, ◌++◌, length, refl, sym, ap, ◌∙◌, subst, arith, ne_eqb, length-append, add-mul}
use Rattle.std.specs.Prelude.{map, All, Any, Contains, if◌then◌else◌}
use Rattle.std.proofs.lemmas.List.{map-append}
use Rattle.std.proofs.lemmas.List.Elements.{All-append, All-nil, All-push, All-weaker, Contains-append_left, Contains-push}
use Rattle.claim_board.specs.declared.board.Hand.{Hand}
use Rattle.claim_board.specs.Board.{hand, times, with_found, with_passed}
use Rattle.claim_board.proofs.Runs.{times-append}
use Rattle.pair_driver.specs.declared.judged.Judged.{Judged}
use Rattle.pair_driver.specs.declared.place.Answer.{Answer}
use Rattle.pair_driver.specs.Draws.{AreCounted, IsAllowedAt, IsClaiming, IsDone, IsEndedAt, HasEnded}

-- a worker that claims has answered or passed over each task that it claimed
pub record IsDrawing (allows : ℕ → Judged → Type 0) (ends : Judged → Bool) (n : ℕ) (v : Hand) (answers : List Answer) : Type 0 where
  pub claims : IsClaiming n v
  pub counted : AreCounted n v answers
  pub allowed : All (IsAllowedAt allows n) answers
  pub found : All (IsEndedAt ends answers) v.found
  pub reported : All (Contains v.drawn) v.found
  pub few : length answers ≤ length v.drawn

All-one : {X : Type 0} (P : X → Type 0) (x : X) → P x → All P (x ∷ [])
All-one P x p zero d h = p
All-one P x p (suc k) d h = absurd (omega arith)

All-last : {X : Type 0} (P : X → Type 0) (xs : List X) (x : X) → All P (xs ++ x ∷ []) → P x
All-last P [] x a = a 0 x (omega arith)
All-last P (y ∷ ys) x a = All-last P ys x (λ j e l. a (suc j) e (omega arith))

Any-last : {X : Type 0} (P : X → Type 0) (xs : List X) (x : X) → P x → Any P (xs ++ x ∷ [])
Any-last P [] x p = (0, x, omega arith, refl, p)
Any-last P (y ∷ ys) x p = let r = Any-last P ys x p in let l = r.2 in (suc r.0, r.1, omega arith, r.3, r.4)

Any-append_left : {X : Type 0} (P : X → Type 0) (xs ys : List X) → Any P xs → Any P (xs ++ ys)
Any-append_left P [] ys (k, x, l, e, p) = absurd (omega arith)
Any-append_left P (x ∷ xs) ys (zero, y, l, e, p) = (0, y, omega arith, e, p)
Any-append_left P (x ∷ xs) ys (suc k, y, l, e, p) = let r = Any-append_left P xs ys (k, y, omega arith, e, p) in let m = r.2 in (suc r.0, r.1, omega arith, r.3, r.4)

Any-append_right : {X : Type 0} (P : X → Type 0) (xs ys : List X) → Any P ys → Any P (xs ++ ys)
Any-append_right P [] ys a = a
Any-append_right P (x ∷ xs) ys a = let r = Any-append_right P xs ys a in let l = r.2 in (suc r.0, r.1, omega arith, r.3, r.4)

-- ---- claims

pub claiming-begins : (n : ℕ) (v : Hand) → v ≡ hand [] [] [] (n + 1) → IsClaiming n v
claiming-begins n v e = subst (λ u. IsClaiming n u) (sym e) (record {
  budget = omega arith;
  inside = All-nil _;
  packed = λ m a. omega arith;
})

-- there is allowance for one more
pub claiming-has_room : (n : ℕ) (v : Hand) → IsClaiming n v → 0 < v.allowance
claiming-has_room n v d = let few = d.packed n d.inside in let budget = d.budget in omega arith

pub claiming-more : (n x : ℕ) (v : Hand) → IsClaiming n v → All (λ y. y < x) v.drawn → x < n → IsClaiming n (hand (v.drawn ++ x ∷ []) v.found v.passed (v.allowance - 1))
claiming-more n x v d above below =
    let room = claiming-has_room n v d in
    let budget = d.budget in record {
      budget = omega (arith, length-append v.drawn (x ∷ []));
      inside = All-append (λ y. y < n) v.drawn (x ∷ []) d.inside (All-one (λ y. y < n) x below);
      packed = λ m b.
          let last : x < m = All-last (λ y. y < m) v.drawn x b in
          let few : length v.drawn ≤ x = d.packed x above in
          omega (arith, length-append v.drawn (x ∷ []));
    }

pub claiming-ends : (n x : ℕ) (v : Hand) → n ≤ x → HasEnded n (hand (v.drawn ++ x ∷ []) v.found v.passed (v.allowance - 1))
claiming-ends n x v past = Any-last (λ y. n ≤ y) v.drawn x past

-- ---- claims with answers

times_numbers : (x : ℕ) (xs ys : List Answer) → times x (map (λ a. a.number) (xs ++ ys)) ≡ times x (map (λ a. a.number) xs) + times x (map (λ a. a.number) ys)
times_numbers x xs ys = ap (times x) (map-append (λ (a : Answer). a.number) xs ys) ∙ times-append x (map (λ a. a.number) xs) (map (λ a. a.number) ys)

-- a number that was not drawn before was not reported
pub not_found : (x : ℕ) (v : Hand) → All (Contains v.drawn) v.found → All (λ y. y < x) v.drawn → ¬ Contains v.found x
not_found x v reported above (i, inside, is) =
    let drawn : Contains v.drawn x = subst (Contains v.drawn) is (reported i x inside) in
    let low : x < x = subst (λ y. y < x) drawn.2 (above drawn.0 x drawn.1) in
    omega arith

module _ (allows : ℕ → Judged → Type 0) (ends : Judged → Bool) (n : ℕ) where
  pub drawing-begins : (v : Hand) → v ≡ hand [] [] [] (n + 1) → IsDrawing allows ends n v []
  drawing-begins v e = subst (λ u. IsDrawing allows ends n u []) (sym e) (record {
    claims = claiming-begins n (hand [] [] [] (n + 1)) refl;
    counted = λ x inside. refl;
    allowed = All-nil _;
    found = All-nil _;
    reported = All-nil _;
    few = omega arith;
  })

  -- the task is passed over
  pub drawing-passed : (v : Hand) (answers : List Answer) (x : ℕ) → IsDrawing allows ends n v answers → All (λ y. y < x) v.drawn → x < n
      → IsDrawing allows ends n (with_passed true x (hand (v.drawn ++ x ∷ []) v.found v.passed (v.allowance - 1))) answers
  drawing-passed v answers x d above below =
      let more = claiming-more n x v d.claims above below in
      let few = d.few in record {
        claims = record { budget = more.budget; inside = more.inside; packed = more.packed };
        counted = λ y inside. let k = d.counted y inside in omega (arith, times-append y v.drawn (x ∷ []), times-append y v.passed (x ∷ []));
        allowed = d.allowed;
        found = d.found;
        reported = All-weaker (Contains v.drawn) (Contains (v.drawn ++ x ∷ [])) (Contains-append_left v.drawn (x ∷ [])) v.found d.reported;
        few = omega (arith, length-append v.drawn (x ∷ []));
      }

  found_more : (v : Hand) (answers : List Answer) (a : Answer) → IsDrawing allows ends n v answers → All (IsEndedAt ends (answers ++ a ∷ [])) v.found
  found_more v answers a d = All-weaker (IsEndedAt ends answers) (IsEndedAt ends (answers ++ a ∷ []))
      (λ k. Any-append_left (λ b. (b.number ≡ k) × (ends b.judged ≡ true)) answers (a ∷ [])) v.found d.found

  -- the task is answered
  pub drawing-more : (v : Hand) (answers : List Answer) (a : Answer) (e : Bool) → IsDrawing allows ends n v answers → All (λ x. x < a.number) v.drawn → IsAllowedAt allows n a → e ≡ ends a.judged
      → IsDrawing allows ends n
      (if e then with_found a.number (hand (v.drawn ++ a.number ∷ []) v.found v.passed (v.allowance - 1)) else hand (v.drawn ++ a.number ∷ []) v.found v.passed (v.allowance - 1))
      (answers ++ a ∷ [])
  drawing-more v answers a false d above allowed is =
      let more = claiming-more n a.number v d.claims above allowed.0 in
      let few = d.few in record {
        claims = more;
        counted = λ y inside. let k = d.counted y inside in omega (arith, times-append y v.drawn (a.number ∷ []), times_numbers y answers (a ∷ []));
        allowed = All-push (IsAllowedAt allows n) answers a d.allowed allowed;
        found = found_more v answers a d;
        reported = All-weaker (Contains v.drawn) (Contains (v.drawn ++ a.number ∷ [])) (Contains-append_left v.drawn (a.number ∷ [])) v.found d.reported;
        few = omega (arith, length-append v.drawn (a.number ∷ []), length-append answers (a ∷ []));
      }
  drawing-more v answers a true d above allowed is =
      let more = claiming-more n a.number v d.claims above allowed.0 in
      let few = d.few in
      let kept = All-weaker (Contains v.drawn) (Contains (v.drawn ++ a.number ∷ [])) (Contains-append_left v.drawn (a.number ∷ [])) v.found d.reported in record {
        claims = record { budget = more.budget; inside = more.inside; packed = more.packed };
        counted = λ y inside. let k = d.counted y inside in omega (arith, times-append y v.drawn (a.number ∷ []), times_numbers y answers (a ∷ []));
        allowed = All-push (IsAllowedAt allows n) answers a d.allowed allowed;
        found = All-push (IsEndedAt ends (answers ++ a ∷ [])) v.found a.number (found_more v answers a d)
            (Any-last (λ b. (b.number ≡ a.number) × (ends b.judged ≡ true)) answers a (refl, sym is));
        reported = All-push (Contains (v.drawn ++ a.number ∷ [])) v.found a.number kept (Contains-push v.drawn a.number);
        few = omega (arith, length-append v.drawn (a.number ∷ []), length-append answers (a ∷ []));
      }

  -- there are fewer answers than the number that is claimed next
  pub few_answers : (x : ℕ) (v : Hand) (answers : List Answer) → IsDrawing allows ends n v answers → All (λ y. y < x) v.drawn → length answers ≤ x
  few_answers x v answers d above = let packed = d.claims.packed x above in let few = d.few in omega arith

  -- the number drawn last is of no task
  pub drawing-ends : (v : Hand) (answers : List Answer) (c : ℕ) → IsDrawing allows ends n v answers → n ≤ c
      → IsDone allows ends n 1 (hand (v.drawn ++ c ∷ []) v.found v.passed (v.allowance - 1)) answers
  drawing-ends v answers c d past =
      let room = claiming-has_room n v d.claims in
      let budget = d.claims.budget in record {
        budget = omega (arith, length-append v.drawn (c ∷ []));
        counted = λ y inside.
            let k = d.counted y inside in
            let other : times y (c ∷ []) ≡ 0 = let differ = ne_eqb c y (λ e. omega arith) in grind arith in
            omega (arith, times-append y v.drawn (c ∷ []));
        allowed = d.allowed;
        found = d.found;
        ended = Any-last (λ x. n ≤ x) v.drawn c past;
      }

  -- the tasks of both
  pub done-both : (a b m : ℕ) (v w : Hand) (xs ys : List Answer) → a + b ≡ m → IsDone allows ends n a v xs → IsDone allows ends n b w ys
      → IsDone allows ends n m (hand (v.drawn ++ w.drawn) (v.found ++ w.found) (v.passed ++ w.passed) (v.allowance + w.allowance)) (xs ++ ys)
  done-both a b m v w xs ys all d e =
      let p = d.budget in
      let q = e.budget in record {
        budget =
            let whole : (a + b) * (n + 1) ≡ m * (n + 1) = ap (λ k. k * (n + 1)) all in
            omega (arith, length-append v.drawn w.drawn, add-mul a b (n + 1));
        counted = λ y inside.
            let k = d.counted y inside in
            let l = e.counted y inside in
            omega (arith, times-append y v.drawn w.drawn, times-append y v.passed w.passed, times_numbers y xs ys);
        allowed = All-append (IsAllowedAt allows n) xs ys d.allowed e.allowed;
        found = All-append (IsEndedAt ends (xs ++ ys)) v.found w.found
            (All-weaker (IsEndedAt ends xs) (IsEndedAt ends (xs ++ ys)) (λ k. Any-append_left (λ x. (x.number ≡ k) × (ends x.judged ≡ true)) xs ys) v.found d.found)
            (All-weaker (IsEndedAt ends ys) (IsEndedAt ends (xs ++ ys)) (λ k. Any-append_right (λ x. (x.number ≡ k) × (ends x.judged ≡ true)) xs ys) w.found e.found);
        ended = Any-append_left (λ x. n ≤ x) v.drawn w.drawn d.ended;
      }
