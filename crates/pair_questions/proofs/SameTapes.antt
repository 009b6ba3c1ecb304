-- A tape that occurs more than once need be tried only once.
use Rattle.pair_questions.proofs.Common.{ℕ, zero, suc, ◌≡◌, ◌<◌, ◌≤◌, inl, inr, Bool, true, false, not, ◌&&◌, List, [], ◌∷◌, ◌++◌, length, map, drop, get_or, All, Contains, refl, ap, sym, subst, ◌∙◌, arith, drop_all, All-contains, Contains-append_left, Contains-get_or, Contains-push, Contains-push_cases, Function, Layout, Bounds, Input, Outcome, is_refined, run_of, TermId, Term, IsTerm, Keeps, Tests, bit_at, InputTerms, TapeTerms, OutcomeTerms, reading, AreWords, IsInput, words_at, IsOutcome, each-weaker, map-at, map-length, map-same, bit-later, input_at-later, outcome-later, words-later, words_at-later, AreSameTapes, AreTapes, input_in, none_allows, outcome_in, tapes_at, and_from}
use Rattle.std.proofs.lemmas.Simd.{map-map}

-- ---- terms that grow

module _ (old new : List Term) (k : Keeps old new) where
  pub tapes-later : (tapes : List TapeTerms) → AreTapes old tapes → AreTapes new tapes
  tapes-later tapes h = each-weaker (λ (t : TapeTerms). AreWords old t.words) (λ (t : TapeTerms). AreWords new t.words) tapes (λ t. words-later old new k t.words) h

  pub tapes_at-later : (v : ℕ → ℕ → ℕ) (tapes : List TapeTerms) → AreTapes old tapes → tapes_at v new tapes ≡ tapes_at v old tapes
  tapes_at-later v tapes h =
      map-same (λ (t : TapeTerms). AreWords old t.words) (λ (t : TapeTerms). words_at v new t.words) (λ (t : TapeTerms). words_at v old t.words) tapes (λ t. words_at-later old new k v t.words) h

-- after the last there is none
pub tapes_behind : (v : ℕ → ℕ → ℕ) (terms : List Term) (tapes : List TapeTerms) (i : ℕ) → length tapes ≤ i → drop i (tapes_at v terms tapes) ≡ []
tapes_behind v terms tapes i le =
    let n = map-length (λ (t : TapeTerms). words_at v terms t.words) tapes in
    drop_all i (tapes_at v terms tapes) (omega arith)

-- ---- one tape more

contains_map : {A B : Type 0} (f : A → B) (xs : List A) (x : A) → Contains xs x → Contains (map f xs) (f x)
contains_map f xs x c =
    let n = map-length f xs in
    let lt : c.0 < length xs = c.1 in
    (c.0, omega arith, map-at f xs c.0 x (f x) lt (sym c.2))

-- equal words are equal tapes
pub words_among : (v : ℕ → ℕ → ℕ) (terms : List Term) (tapes : List TapeTerms) (words : List TermId) → Contains (map (λ (t : TapeTerms). t.words) tapes) words → Contains (tapes_at v terms tapes) (words_at v terms words)
words_among v terms tapes words c =
    subst (λ (xs : List (List ℕ)). Contains xs (words_at v terms words)) (map-map (words_at v terms) (λ (t : TapeTerms). t.words) tapes)
    (contains_map (words_at v terms) (map (λ (t : TapeTerms). t.words) tapes) words c)

pub same_as : (xs ys : List (List ℕ)) → xs ≡ ys → AreSameTapes xs ys
same_as xs ys e = rw e (record { here = λ t c. c; there = λ t c. c })

pub same_seen : (xs ys more : List (List ℕ)) (tape : List ℕ) → more ≡ ys ++ tape ∷ [] → AreSameTapes xs ys → Contains xs tape → AreSameTapes xs more
same_seen xs ys more tape e h seen = rw e (record {
  here = λ t c. Contains-append_left ys (tape ∷ []) t (h.here t c);
  there = λ t c. elim (Contains-push_cases ys tape t c) [
    | inl before ↦ h.there t before
    | inr is ↦ subst (λ (t : List ℕ). Contains xs t) is seen
  ];
})

push_either : (xs ys : List (List ℕ)) (tape t : List ℕ) → (Contains xs t → Contains ys t) → Contains (xs ++ tape ∷ []) t → Contains (ys ++ tape ∷ []) t
push_either xs ys tape t h c = elim (Contains-push_cases xs tape t c) [
  | inl before ↦ Contains-append_left ys (tape ∷ []) t (h before)
  | inr is ↦ subst (λ (t : List ℕ). Contains (ys ++ tape ∷ []) t) is (Contains-push ys tape)
]

pub same_more : (xs ys more others : List (List ℕ)) (tape : List ℕ) → more ≡ xs ++ tape ∷ [] → others ≡ ys ++ tape ∷ [] → AreSameTapes xs ys → AreSameTapes more others
same_more xs ys more others tape e f h = rw (e, f) (record { here = λ t. push_either xs ys tape t (h.here t); there = λ t. push_either ys xs tape t (h.there t) })

-- ---- the same tapes allow the same

and_left : (a b : Bool) → (a && b) ≡ true → a ≡ true
and_left true b h = refl
and_left false b h = h

and_right : (a b : Bool) → (a && b) ≡ true → b ≡ true
and_right true b h = h
and_right false b h = absurd (let x : ⊥ = cc in x)

same_truth : (a b : Bool) → (a ≡ true → b ≡ true) → (b ≡ true → a ≡ true) → a ≡ b
same_truth true b f g = sym (f refl)
same_truth false true f g = g refl
same_truth false false f g = refl

module _ (f : Function) (bounds : Bounds) (input : Input) (target : Outcome) where
  abbrev refused : List ℕ → Bool
  refused tape = not (is_refined (run_of f bounds input tape).outcome target)

  all_refused : (tapes : List (List ℕ)) → none_allows f bounds input target tapes ≡ true → All (λ tape. refused tape ≡ true) tapes
  unfolding none_allows
  all_refused [] h k d lt = absurd (omega arith)
  all_refused (tape ∷ tapes) h zero d lt = and_left (refused tape) (none_allows f bounds input target tapes) h
  all_refused (tape ∷ tapes) h (suc k) d lt = all_refused tapes (and_right (refused tape) (none_allows f bounds input target tapes) h) k d (omega arith)

  none_in : (tapes : List (List ℕ)) → All (λ tape. refused tape ≡ true) tapes → none_allows f bounds input target tapes ≡ true
  unfolding none_allows
  none_in [] h = refl
  none_in (tape ∷ tapes) h = and_from (refused tape) (none_allows f bounds input target tapes) (h zero tape (omega arith)) (none_in tapes (λ k d lt. h (suc k) d (omega arith)))

  none_within : (xs ys : List (List ℕ)) → ((tape : List ℕ) → Contains ys tape → Contains xs tape) → none_allows f bounds input target xs ≡ true → none_allows f bounds input target ys ≡ true
  none_within xs ys sub h = none_in ys (λ k d lt. All-contains (λ tape. refused tape ≡ true) xs (get_or ys k d) (all_refused xs h) (sub (get_or ys k d) (Contains-get_or ys k d lt)))

  pub none_same : (xs ys : List (List ℕ)) → AreSameTapes xs ys → none_allows f bounds input target xs ≡ none_allows f bounds input target ys
  none_same xs ys h = same_truth (none_allows f bounds input target xs) (none_allows f bounds input target ys) (none_within xs ys h.there) (none_within ys xs h.here)

three : {A B C D : Type 0} (f : A → B → C → D) {x x' : A} {y y' : B} {z z' : C} → x ≡ x' → y ≡ y' → z ≡ z' → f x y z ≡ f x' y' z'
three f e g h = cc

-- a goal that no candidate of the later terms allows is one that none of the same tapes allows
pub narrowed_same : (old mid new : List Term) (f : Function) (bounds : Bounds) (layout : Layout) (input : InputTerms) (target : OutcomeTerms) (goal id : TermId) (candidates : List TapeTerms) (tapes : (ℕ → ℕ → ℕ) → List (List ℕ))
    → Keeps old mid → IsInput f.parameters layout old input → IsOutcome old target → IsTerm old 1 goal → ((v : ℕ → ℕ → ℕ) → AreSameTapes (tapes_at v mid candidates) (tapes v))
    → Tests new id (λ v. bit_at v mid goal && none_allows f bounds (input_in layout v mid input) (outcome_in layout v mid target) (tapes_at v mid candidates))
    → Tests new id (λ v. bit_at v old goal && none_allows f bounds (input_in layout v old input) (outcome_in layout v old target) (tapes v))
narrowed_same old mid new f bounds layout input target goal id candidates tapes k are is_target is same narrows = record {
  within = narrows.within;
  wide = narrows.wide;
  says = λ v.
      let same_goal : bit_at v mid goal ≡ bit_at v old goal = bit-later old mid k v goal is.within in
      let same_input : input_in layout v mid input ≡ input_in layout v old input = input_at-later old mid k (reading layout.blocks v) f.parameters layout input are in
      let same_target : outcome_in layout v mid target ≡ outcome_in layout v old target = outcome-later old mid k (reading layout.blocks v) target is_target in
      narrows.says v ∙ three (λ (b : Bool) (i : Input) (o : Outcome). b && none_allows f bounds i o (tapes_at v mid candidates)) same_goal same_input same_target
      ∙ ap (λ b. bit_at v old goal && b) (none_same f bounds (input_in layout v old input) (outcome_in layout v old target) (tapes_at v mid candidates) (tapes v) (same v));
}
