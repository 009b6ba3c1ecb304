-- Tapes of the source tried one after another.
use Rattle.pair_questions.proofs.Common.{ℕ, zero, suc, ◌≡◌, ◌<◌, ◌+◌, Bool, true, false, not, ◌&&◌, List, [], ◌∷◌, length, map, drop, get_or, refl, ap, sym, subst, ◌∙◌, arith, Function, Layout, Bounds, Input, Outcome, is_refined, run_of, TermId, Term, IsTerm, Keeps, Tests, bit_at, InputTerms, OutcomeTerms, reading, frame_of, frames_of, given_frames, IsInput, words_at, IsOutcome, LeavesGiven, Shows, outcome_at, map-length, keeps_trans, bit-later, input_at-later, is_input-later, is_outcome-later, outcome-later, IsTrial, input_in, none_allows, outcome_in, IsEncodable}
use Rattle.pair_questions.specs.declared.goals.Trial.{Trial}
use Rattle.ir_tree.specs.Limits.{CanRun}

-- ---- what tapes are tried for

pub trial_later : (old new : List Term) (k : Keeps old new) (t : Trial) → IsTrial old t → IsTrial new t
trial_later old new k t h = record {
  source = h.source;
  run = h.run;
  input = is_input-later old new k t.source.now.of.now.parameters t.layout.now t.input.now h.input;
  target = is_outcome-later old new k t.target.now h.target;
  given = h.given;
}

pub a_trial : (terms : List Term) (t : Trial) (f : Function) → t.source.now.of.now ≡ f → IsEncodable t.bounds.now.turns t.source.now → CanRun f → IsInput f.parameters t.layout.now terms t.input.now
    → IsOutcome terms t.target.now → LeavesGiven (frames_of t.layout.now) t.target.now → IsTrial terms t
a_trial terms t f is source run input target given = record {
  source = source;
  run = subst CanRun (sym is) run;
  input = subst (λ (g : Function). IsInput g.parameters t.layout.now terms t.input.now) (sym is) input;
  target = target;
  given = given;
}

-- ---- outcomes that leave the given blocks

frames_count : (first blocks bytes : ℕ) → length (given_frames first blocks bytes) ≡ blocks
frames_count first zero bytes = refl
frames_count first (suc n) bytes = ap suc (frames_count (first + 1) n bytes)

pub given_count : (layout : Layout) (o : OutcomeTerms) → LeavesGiven (frames_of layout) o → length o.blocks ≡ layout.blocks
given_count layout o h = sym (map-length frame_of o.blocks) ∙ (ap length h ∙ frames_count 1 layout.blocks layout.bytes)

-- the test of two outcomes that leave this number of blocks
pub covered_in : (t new : List Term) (layout : Layout) (source target : OutcomeTerms) (id : TermId) → LeavesGiven (frames_of layout) source
    → Tests new id (λ v. is_refined (outcome_at (reading (length source.blocks) v) t source) (outcome_at (reading (length source.blocks) v) t target))
    → Tests new id (λ v. is_refined (outcome_in layout v t source) (outcome_in layout v t target))
covered_in t new layout source target id given h =
    subst (λ n. Tests new id (λ v. is_refined (outcome_at (reading n v) t source) (outcome_at (reading n v) t target))) (given_count layout source given) h

-- ---- one tape

and_true : (b : Bool) → b ≡ (b && true)
and_true true = refl
and_true false = refl

allowed_not : (c d g g' n : Bool) (s s' t t' : Outcome) → s ≡ s' → t ≡ t' → g ≡ g' → c ≡ is_refined s t → n ≡ not c → d ≡ (g && n) → d ≡ (g' && (not (is_refined s' t') && true))
allowed_not c d g g' n s s' t t' es et eg ec en ed = ed ∙ (rw (eg, en, ec, es, et) (ap (λ b. g' && b) (and_true (not (is_refined s' t')))))

pub tried : (t0 t1 t2 t3 t4 : List Term) (f : Function) (bounds : Bounds) (layout : Layout) (input : InputTerms) (words : List TermId) (source target : OutcomeTerms) (goal c n id : TermId)
    → Keeps t0 t1 → Keeps t1 t2 → Keeps t2 t3 → IsOutcome t0 target → IsTerm t0 1 goal
    → ((v : ℕ → ℕ → ℕ) → Shows (reading layout.blocks v) t1 (words_at v t0 words) (run_of f bounds (input_in layout v t0 input) (words_at v t0 words)) source)
    → Tests t2 c (λ v. is_refined (outcome_in layout v t1 source) (outcome_in layout v t1 target)) → Tests t3 n (λ v. not (bit_at v t2 c)) → Tests t4 id (λ v. bit_at v t3 goal && bit_at v t3 n)
    → Tests t4 id (λ v. bit_at v t0 goal && none_allows f bounds (input_in layout v t0 input) (outcome_in layout v t0 target) (words_at v t0 words ∷ []))
unfolding none_allows
tried t0 t1 t2 t3 t4 f bounds layout input words source target goal c n id k1 k2 k3 is_target is_goal shows tc tn tid = record {
  within = tid.within;
  wide = tid.wide;
  says = λ v.
      let k = keeps_trans t0 t1 t3 k1 (keeps_trans t1 t2 t3 k2 k3) in
      allowed_not (bit_at v t2 c) (bit_at v t4 id) (bit_at v t3 goal) (bit_at v t0 goal) (bit_at v t3 n) (outcome_in layout v t1 source) (run_of f bounds (input_in layout v t0 input) (words_at v t0 words)).outcome
      (outcome_in layout v t1 target) (outcome_in layout v t0 target) (shows v).outcome (outcome-later t0 t1 k1 (reading layout.blocks v) target is_target) (bit-later t0 t3 k v goal is_goal.within) (tc.says v) (tn.says v) (tid.says v);
}

-- ---- one tape more

three : {A B C D : Type 0} (f : A → B → C → D) {x x' : A} {y y' : B} {z z' : C} → x ≡ x' → y ≡ y' → z ≡ z' → f x y z ≡ f x' y' z'
three f e g h = cc

and_more : (g x n r w : Bool) → n ≡ (g && (x && true)) → (g && (x && r)) ≡ w → (n && r) ≡ w
and_more true true n r w e h = rw e h
and_more true false n r w e h = rw e h
and_more false x n r w e h = rw e h

pub tried_more : (old a b c : List Term) (f : Function) (bounds : Bounds) (layout : Layout) (input : InputTerms) (target : OutcomeTerms) (goal next : TermId) (tape : (ℕ → ℕ → ℕ) → List ℕ) (words : List TermId) (rest : (ℕ → ℕ → ℕ) → List (List ℕ)) (whole : (ℕ → ℕ → ℕ) → Bool)
    → IsInput f.parameters layout old input → IsOutcome old target → Keeps old b → Keeps a b → IsTerm a 1 goal → ((v : ℕ → ℕ → ℕ) → words_at v b words ≡ tape v)
    → Tests c next (λ v. bit_at v b goal && none_allows f bounds (input_in layout v b input) (outcome_in layout v b target) (words_at v b words ∷ []))
    → ((v : ℕ → ℕ → ℕ) → (bit_at v a goal && none_allows f bounds (input_in layout v old input) (outcome_in layout v old target) (tape v ∷ rest v)) ≡ whole v)
    → (v : ℕ → ℕ → ℕ) → (bit_at v c next && none_allows f bounds (input_in layout v old input) (outcome_in layout v old target) (rest v)) ≡ whole v
unfolding none_allows
tried_more old a b c f bounds layout input target goal next tape words rest whole are is_target kob kab is_goal stands t so v =
    let same_goal : bit_at v b goal ≡ bit_at v a goal = bit-later a b kab v goal is_goal.within in
    let same_input : input_in layout v b input ≡ input_in layout v old input = input_at-later old b kob (reading layout.blocks v) f.parameters layout input are in
    let same_target : outcome_in layout v b target ≡ outcome_in layout v old target = outcome-later old b kob (reading layout.blocks v) target is_target in
    and_more (bit_at v a goal) (not (is_refined (run_of f bounds (input_in layout v old input) (tape v)).outcome (outcome_in layout v old target))) (bit_at v c next)
    (none_allows f bounds (input_in layout v old input) (outcome_in layout v old target) (rest v)) (whole v)
    (t.says v ∙ (rw same_goal (ap (λ b. bit_at v a goal && b)
    (three (λ (i : Input) (o : Outcome) (ws : List ℕ). not (is_refined (run_of f bounds i ws).outcome o) && true) same_input same_target (stands v))))) (so v)

pub tried_all : (b w : Bool) (f : Function) (bounds : Bounds) (input : Input) (target : Outcome) (rest : List (List ℕ)) → rest ≡ [] → (b && none_allows f bounds input target rest) ≡ w → b ≡ w
unfolding none_allows
tried_all b w f bounds input target rest e h = and_true b ∙ (rw e at h)

pub mapped_more : {A B : Type 0} (g : A → B) (xs : List A) (ys : List B) (i : ℕ) (d : A) → ys ≡ map g xs → i < length xs → drop i ys ≡ g (get_or xs i d) ∷ drop (i + 1) ys
mapped_more g [] ys i d e lt = absurd (omega arith)
mapped_more g (x ∷ xs) ys zero d e lt = rw e refl
mapped_more g (x ∷ xs) ys (suc i) d e lt =
    let n : suc i + 1 ≡ suc (i + 1) = omega arith in
    rw (e, n) (mapped_more g xs (map g xs) i d refl (omega arith))
