-- A run from its beginning to its end.
use Rattle.encoder.proofs.Common.{ℕ, zero, suc, ◌≡◌, ◌<◌, ◌≤◌, ◌+◌, Bool, true, false, not, ◌&&◌, ◌||◌, if◌then◌else◌, List, [], ◌∷◌, ◌++◌, length, drop, replicate, get_or, nat_eq, nat_lt, Option, Some, None, IfSome, inl, inr, refl, ap, sym, subst, ◌∙◌, arith, drop_more, drop_all, Machine, Run, breaks_noundef, ended, first_machine, run_of, Where, At, Done, along, copies_of, run_at_end, run_layers, walk, Keeps, Tests, IsTerm, bit_at, term_at, Each, IsNaming, Reading, reading, AreWords, args_at, input_at, words_at, each-at, map-at, map-length, keeps_trans, bit-later, term-later, RunState, Scene, Sees, IsState, MatchesState, StateShape, fits_from, shape_of, sight, zeros_past, IsEnding, EndedSo, AreStates, HaveShape, IsUnreached, MatchesFrontier, Simulates, first_place, placed, each-replicate, sees-later, matches_state-later, ending_at-later, placed_end, walk_over, or_right}
use Rattle.std.specs.Prelude.{slice_index}
use Rattle.std.proofs.Math.Bool.{and-true, and_assoc}
use Rattle.std.proofs.lemmas.Bool.{cases_Bool, cases_lt, eqb-true, eq-eqb}
use Rattle.std.proofs.lemmas.Bool.Decides.{nat_tests}
use Rattle.ir_tree.specs.declared.tree.Function.{Function}
use Rattle.points.specs.declared.outcome.Outcome.TheVariants.{Ub}
use Rattle.points.specs.declared.point.Bounds.{Bounds}
use Rattle.points.specs.declared.point.Input.{Input}
use Rattle.points.specs.declared.point.Layout.{Layout}
use Rattle.unroll.specs.declared.layered.Edge.TheVariants as edge
use Rattle.unroll.specs.declared.layered.BlockCopy.{BlockCopy}
use Rattle.unroll.specs.declared.layered.Layered.{Layered}
use Rattle.unroll.proofs.Walking.{layers_have_runs}
use Rattle.bv_terms.specs.declared.term.TermId.{TermId}
use Rattle.bv_terms.specs.declared.term.Term.{Term}
use Rattle.mem_terms.specs.declared.inputs.InputTerms.{InputTerms}
use Rattle.mem_terms.specs.declared.outcome.OutcomeTerms.{OutcomeTerms}
use Rattle.mem_terms.specs.Outcomes.{Shows}
use Rattle.mem_terms.proofs.Naming.{naming}
use Rattle.run_terms.specs.declared.ending.Ending.{Ending}
use Rattle.run_terms.specs.declared.frontier.Frontier.{Frontier}

-- ---- plain

and_left : (a b : Bool) → (a && b) ≡ true → a ≡ true
and_left true b h = refl
and_left false b h = h

and_right : (a b : Bool) → (a && b) ≡ true → b ≡ true
and_right true b h = h
and_right false b h = absurd (let x : ⊥ = cc in x)

fits-at : (tape : List ℕ) (j : ℕ) (cs : List ℕ) → fits_from tape j cs ≡ true → (k : ℕ) → k < length cs → slice_index tape (j + k) ≡ slice_index cs k
fits-at tape j [] h k lt = absurd (omega arith)
fits-at tape j (c ∷ cs) h zero lt =
    let e : j + 0 ≡ j = omega arith in
    ap (slice_index tape) e ∙ eqb-true (slice_index tape j) c (and_left (nat_eq (slice_index tape j) c) (fits_from tape (j + 1) cs) h)
fits-at tape j (c ∷ cs) h (suc k) lt =
    let e : j + suc k ≡ (j + 1) + k = omega arith in
    ap (slice_index tape) e ∙ fits-at tape (j + 1) cs (and_right (nat_eq (slice_index tape j) c) (fits_from tape (j + 1) cs) h) k (omega arith)

at-fits : (tape : List ℕ) (j : ℕ) (cs : List ℕ) → ((k : ℕ) → k < length cs → slice_index tape (j + k) ≡ slice_index cs k) → fits_from tape j cs ≡ true
at-fits tape j [] h = refl
at-fits tape j (c ∷ cs) h =
    let e : j + 0 ≡ j = omega arith in
    let here : slice_index tape j ≡ c = ap (slice_index tape) (sym e) ∙ h 0 (omega arith) in
    rw (eq-eqb (slice_index tape j) c here) (at-fits tape (j + 1) cs (λ k lt. let f : (j + 1) + k ≡ j + suc k = omega arith in ap (slice_index tape) f ∙ h (suc k) (omega arith)))

zeros-at : (read j : ℕ) (ws : List ℕ) → zeros_past read j ws ≡ true → (k : ℕ) → read ≤ j + k → slice_index ws k ≡ 0
zeros-at read j [] h k far = refl
zeros-at read j (w ∷ ws) h zero far =
    let t = and_left (nat_lt j read || nat_eq w 0) (zeros_past read (j + 1) ws) h in
    grind (arith, nat_tests)
zeros-at read j (w ∷ ws) h (suc k) far = zeros-at read (j + 1) ws (and_right (nat_lt j read || nat_eq w 0) (zeros_past read (j + 1) ws) h) k (omega arith)

at-zeros : (read j : ℕ) (ws : List ℕ) → ((k : ℕ) → read ≤ j + k → slice_index ws k ≡ 0) → zeros_past read j ws ≡ true
at-zeros read j [] h = refl
at-zeros read j (w ∷ ws) h = rw (head, at-zeros read (j + 1) ws (λ k far. h (suc k) (omega arith))) refl
  where
    head : (nat_lt j read || nat_eq w 0) ≡ true
    head = elim (cases_Bool (nat_lt j read)) [
      | inl t ↦ rw t refl
      | inr f ↦ or_right (nat_lt j read) (nat_eq w 0) (eq-eqb w 0 (h 0 (let past : read ≤ j + 0 = grind (arith, nat_tests) in past)))
    ]

past-end : (cs : List ℕ) (k : ℕ) → length cs ≤ k → slice_index cs k ≡ 0
past-end [] k h = refl
past-end (c ∷ cs) zero h = absurd (omega arith)
past-end (c ∷ cs) (suc k) h = past-end cs k (omega arith)

plain_to : (tape taken : List ℕ) → (fits_from tape 0 taken && zeros_past (length taken) 0 tape) ≡ true → (k : ℕ) → slice_index tape k ≡ slice_index taken k
plain_to tape taken h k =
    let fits = and_left (fits_from tape 0 taken) (zeros_past (length taken) 0 tape) h in
    let zeros = and_right (fits_from tape 0 taken) (zeros_past (length taken) 0 tape) h in
    let e : 0 + k ≡ k = omega arith in
    elim (cases_lt k (length taken)) [
      | inl lt ↦ ap (slice_index tape) (sym e) ∙ fits-at tape 0 taken fits k lt
      | inr far ↦ zeros-at (length taken) 0 tape zeros k (omega (arith, far)) ∙ sym (past-end taken k far)
    ]

plain_from : (tape taken : List ℕ) → ((k : ℕ) → slice_index tape k ≡ slice_index taken k) → (fits_from tape 0 taken && zeros_past (length taken) 0 tape) ≡ true
plain_from tape taken h =
    rw (
      at-fits tape 0 taken (λ k lt. let e : 0 + k ≡ k = omega arith in ap (slice_index tape) e ∙ h k),
      at-zeros (length taken) 0 tape (λ k far. h k ∙ past-end taken k (omega (arith, far))),
    ) refl

-- ---- the words that weren't read

zeros-more : (read i : ℕ) (ws : List ℕ) (w : ℕ) → i < length ws → get_or ws i 0 ≡ w → zeros_past read i (drop i ws) ≡ ((nat_lt i read || nat_eq w 0) && zeros_past read (i + 1) (drop (i + 1) ws))
zeros-more read i ws w lt is = rw (drop_more ws i 0 lt, is) refl

pub zeros_step : (old a b : List Term) (tape : List TermId) (i : ℕ) (read all word all' : TermId) (whole : (ℕ → ℕ → ℕ) → Bool)
    → AreWords old tape → IsTerm old 64 read → i < length tape → word ≡ get_or tape i word → Keeps old a
    → ((v : ℕ → ℕ → ℕ) → (bit_at v a all && zeros_past (term_at v old read) i (drop i (words_at v old tape))) ≡ whole v)
    → Tests b all' (λ v. bit_at v a all && (nat_lt i (term_at v a read) || nat_eq (term_at v a word) 0))
    → (v : ℕ → ℕ → ℕ) → (bit_at v b all' && zeros_past (term_at v old read) (i + 1) (drop (i + 1) (words_at v old tape))) ≡ whole v
zeros_step old a b tape i read all word all' whole words hr lt is k so t v =
    let item = each-at (IsTerm old 64) tape i word words lt is in
    let more = zeros-more (term_at v old read) i (words_at v old tape) (term_at v old word) (omega (arith, map-length (term_at v old) tape)) (map-at (term_at v old) tape i word 0 lt is) in
    rw (t.says v, term-later old a k v read hr.within, term-later old a k v word item.within)
    (and_assoc (bit_at v a all) _ _ ∙ (ap (λ z. bit_at v a all && z) (sym more) ∙ so v))

pub zeros_end : (old a : List Term) (tape : List TermId) (i : ℕ) (read all : TermId) → length tape ≤ i
    → ((v : ℕ → ℕ → ℕ) → (bit_at v a all && zeros_past (term_at v old read) i (drop i (words_at v old tape))) ≡ zeros_past (term_at v old read) 0 (words_at v old tape))
    → (v : ℕ → ℕ → ℕ) → bit_at v a all ≡ zeros_past (term_at v old read) 0 (words_at v old tape)
zeros_end old a tape i read all past so v =
    let none = drop_all i (words_at v old tape) (omega (arith, map-length (term_at v old) tape)) in
    sym (and-true (bit_at v a all)) ∙ (ap (λ ws. bit_at v a all && zeros_past (term_at v old read) i ws) (sym none) ∙ so v)

-- ---- the end

pub finish_stands : (old a b : List Term) (ka : Keeps old a) (kb : Keeps a b) (e : Ending) (he : IsEnding old e) (tape : List TermId) (rest plain : TermId)
    → Tests a rest (λ v. zeros_past (term_at v old e.tally.read) 0 (words_at v old tape)) → Tests b plain (λ v. bit_at v a e.tally.fits && bit_at v a rest)
    → (g : Scene) (run : Run) → Sees g old tape → EndedSo g old e run → Shows (sight g) b g.tape run (record { ub = e.ub; beyond = e.beyond; value = e.value; blocks = e.blocks; read = e.tally.read; plain = plain })
finish_stands old a b ka kb e he tape rest plain tr tp g run sees h =
    let k = keeps_trans old a b ka kb in
    let same : bit_at g.v b plain ≡ (fits_from g.tape 0 run.taken && zeros_past (length run.taken) 0 g.tape) =
    tp.says g.v ∙ rw (bit-later old a ka g.v e.tally.fits he.tally.fits.within, h.tally.fits, tr.says g.v, h.tally.read, sees) refl in
    record {
      outcome = ending_at-later old b k (sight g) e he ∙ h.outcome;
      read = term-later old b k g.v e.tally.read he.tally.read.within ∙ h.tally.read;
      plain = (λ x. plain_to g.tape run.taken (sym same ∙ x), λ p. same ∙ plain_from g.tape run.taken p);
    }

-- ---- the beginning

pub enter_stands : (old a b d e : List Term) (f : Function) (copies : List BlockCopy) (input : InputTerms) (unknown between entered : Frontier) (undefined : TermId) (s : RunState)
    (kb : Keeps a b) (kd : Keeps b d) (hs : IsState a s) (hu : IsTerm a 1 undefined)
    → ((r : Reading) → IsNaming r.name → bit_at r.v a undefined ≡ breaks_noundef f.parameters (args_at r old input.args)) → ((r : Reading) → bit_at r.v a s.alive ≡ not (bit_at r.v a undefined))
    → (g : Scene) → MatchesState g a (record { label = 0; turn = 0 }) s (first_machine f (input_at (sight g) old input))
    → MatchesFrontier g b unknown None
    → Simulates g b d unknown between (bit_at g.v b undefined) (record { label = 0; turn = 0 }) s (λ (m : Machine). Done (ended Ub m))
    → Simulates g d e between entered (bit_at g.v d s.alive) (record { label = 0; turn = 0 }) s (λ (m : Machine). placed f copies 0 (along (edge.Copy 0) m))
    → MatchesFrontier g e entered (Some (placed f copies 0 (first_place f (input_at (sight g) old input))))
enter_stands old a b d e f copies input unknown between entered undefined s kb kd hs hu breaks alive g matches none ends enters =
    by (breaks_noundef f.parameters (args_at (sight g) old input.args)) refl
  where
    kad : Keeps a d
    kad = keeps_trans a b d kb kd

    first : Machine
    first = first_machine f (input_at (sight g) old input)

    broken_is : (broken : Bool) → breaks_noundef f.parameters (args_at (sight g) old input.args) ≡ broken → bit_at g.v b undefined ≡ broken
    broken_is broken is = bit-later a b kb g.v undefined hu.within ∙ (breaks (sight g) (naming g.given) ∙ is)

    lives : (broken : Bool) → breaks_noundef f.parameters (args_at (sight g) old input.args) ≡ broken → bit_at g.v d s.alive ≡ not broken
    lives broken is = bit-later a d kad g.v s.alive hs.alive.within ∙ (alive (sight g) ∙ ap not (breaks (sight g) (naming g.given) ∙ is))

    by : (broken : Bool) → breaks_noundef f.parameters (args_at (sight g) old input.args) ≡ broken
        → MatchesFrontier g e entered (Some (placed f copies 0 (if broken then Done (ended Ub (first_machine f (input_at (sight g) old input))) else At 0 (first_machine f (input_at (sight g) old input)))))
    by true is = enters.stays (Some (Done (ended Ub first))) (lives true is) (ends.goes first (broken_is true is) (matches_state-later a b kb g (record { label = 0; turn = 0 }) s first hs matches) none)
    by false is = enters.goes first (lives false is) (matches_state-later a d kad g (record { label = 0; turn = 0 }) s first hs matches) (ends.stays None (broken_is false is) none)

-- ---- all of it

run_is : (f : Function) (layered : Layered) (input : Input) (tape : List ℕ) → run_at_end (walk f 0 layered.copies tape (first_place f input)) ≡ run_layers f layered input tape
run_is f layered input tape = by (breaks_noundef f.parameters input.args)
  where
    by : (broken : Bool) → run_at_end (walk f 0 layered.copies tape (if broken then Done (ended Ub (first_machine f input)) else At 0 (first_machine f input)))
        ≡ (if broken then ended Ub (first_machine f input) else run_at_end (walk f 0 layered.copies tape (At 0 (first_machine f input))))
    by true = ap run_at_end (walk_over f layered.copies 0 tape (ended Ub (first_machine f input)))
    by false = refl

pub encode_stands : (old a b d : List Term) (f : Function) (layered : Layered) (layout : Layout) (input : InputTerms) (tape : List TermId) (entered passed : Frontier) (o : OutcomeTerms)
    → AreWords old tape → layered.copies ≡ copies_of layered.turns f → (ka : Keeps old a) (kb : Keeps a b)
    → ((g : Scene) → g.given ≡ layout.blocks → MatchesFrontier g a entered (Some (placed f layered.copies 0 (first_place f (input_at (sight g) old input)))))
    → ((g : Scene) (w : Where) → Sees g a tape → MatchesFrontier g a entered (Some (placed f layered.copies 0 w)) → MatchesFrontier g b passed (Some (placed f layered.copies (length layered.copies) (walk f 0 layered.copies g.tape w))))
    → ((g : Scene) (run : Run) → Sees g b tape → EndedSo g b passed.ending run → Shows (sight g) d g.tape run o)
    → (bounds : Bounds) (v : ℕ → ℕ → ℕ) → bounds.turns ≡ layered.turns → Shows (reading layout.blocks v) d (words_at v old tape) (run_of f bounds (input_at (reading layout.blocks v) old input) (words_at v old tape)) o
encode_stands old a b d f layered layout input tape entered passed o words copies ka kb es ps fs bounds v within =
    let g : Scene = record { v = v; tape = words_at v old tape; given = layout.blocks } in
    let first : Input = input_at (reading layout.blocks v) old input in
    let w = first_place f first in
    let sees_a = sees-later old a ka g tape words refl in
    let sees_b = sees-later old b (keeps_trans old a b ka kb) g tape words refl in
    let t = ps g w sees_a (es g refl) in
    let t' = subst (λ (x : Where). MatchesFrontier g b passed (Some x)) (placed_end f layered.copies (walk f 0 layered.copies (words_at v old tape) w)) t in
    let shows = fs g (run_at_end (walk f 0 layered.copies (words_at v old tape) w)) sees_b t'.ending in
    subst (λ (r : Run). Shows (reading layout.blocks v) d (words_at v old tape) r o) (run_is f layered first (words_at v old tape) ∙ layers_have_runs f layered layered.turns copies bounds first (words_at v old tape) within) shows

-- ---- nothing is known at first

pub snoc : {A : Type 0} (n : ℕ) (x : A) → replicate (suc n) x ≡ replicate n x ++ x ∷ []
snoc zero x = refl
snoc (suc n) x = ap (λ xs. x ∷ xs) (snoc n x)

pub unknown_states : (terms : List Term) (ahead : List (Option RunState)) (n : ℕ) → ahead ≡ replicate n None → AreStates terms ahead
unknown_states terms ahead n is = subst (λ (xs : List (Option RunState)). AreStates terms xs) (sym is) (each-replicate (λ (o : Option RunState). IfSome o (IsState terms)) n None tt)

pub unknown_shape : (shape : StateShape) (ahead : List (Option RunState)) (n : ℕ) → ahead ≡ replicate n None → HaveShape shape ahead
unknown_shape shape ahead n is = subst (λ (xs : List (Option RunState)). HaveShape shape xs) (sym is) (each-replicate (λ (o : Option RunState). IfSome o (λ (s : RunState). shape_of s ≡ shape)) n None tt)

pub unknown_unreached : (g : Scene) (terms : List Term) (ahead : List (Option RunState)) (n : ℕ) → ahead ≡ replicate n None → Each (IsUnreached g terms) ahead
unknown_unreached g terms ahead n is = subst (λ (xs : List (Option RunState)). Each (IsUnreached g terms) xs) (sym is) (each-replicate (IsUnreached g terms) n None tt)
