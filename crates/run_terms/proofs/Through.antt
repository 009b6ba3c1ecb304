-- A run through one copy, and through all.
use Rattle.run_terms.proofs.Common.{ℕ, zero, suc, ◌≡◌, ◌<◌, ◌≤◌, ◌+◌, Bool, true, false, not, ◌&&◌, nat_eq, nat_le, if◌then◌else◌, List, [], ◌∷◌, ◌++◌, length, map, drop, get_or, Option, Some, None, IfSome, ◌⊎◌, inl, inr, refl, ap, sym, subst, ◌∙◌, arith, slice_get, cases_Bool, cases_lt, lt-leb, le-leb, eqb-true, eqb-false, slice_get_past, slice_get_within, drop_more, drop_all, length-set, Inst, Phi, Block, Function, HasSmallObjects, CanRun, HasSmallNumbers, FitsReturn, ReturnsFit, Ub, Exit, Over, act, assigned, phi_value, with_phis, entered, exit_after, exit_by, exit_insts, Edge, BlockCopy, edge_to, layer_of, layers_of, copies_of, left_by, pass_copy, walk, run_at_end, each-set, keeps_self, keeps_trans, bit-later, Machine, Run, ended, Where, At, Done, TermId, Term, Keeps, Tests, bit_at, Each, RunState, Ending, Frontier, Setting, IsState, MatchesCourse, MatchesState, Scene, Steps, Visit, shape_of, visit_of, AreByLabel, AreStates, Ends, HasShape, HaveShape, IsCopyIn, IsFrontier, IsUnreached, MatchesAhead, MatchesFrontier, Simulates, placed, shape_in, Course, Idle, Dead, Live, advanced, steps, entering, arrived}
use Rattle.std.specs.Prelude.{slice_set}
use Rattle.ir_tree.specs.declared.tree.Terminator.{Terminator}
use Rattle.ir_tree.specs.Flow.{targets, block_of, successors}
use Rattle.ir_tree.proofs.Definers.{all_at}
use Rattle.ir_tree.proofs.Indexing.{places_of}
use Rattle.run_terms.proofs.Lasting.{each-get, counts-later, states-later, matches_ahead-later, matches_state-later, matches_frontier-later}
use Rattle.run_terms.proofs.Reached.{set_other, changed_ahead, passes_taken}

-- ---- the instructions of a block and its end

steps_dead : (insts : List Inst) (tape : List ℕ) (m : Machine) → steps insts tape (Dead m) ≡ Dead m
unfolding steps
steps_dead [] tape m = refl
steps_dead (i ∷ is) tape m = steps_dead is tape m

steps_idle : (insts : List Inst) (tape : List ℕ) → steps insts tape Idle ≡ Idle
unfolding steps
steps_idle [] tape = refl
steps_idle (i ∷ is) tape = steps_idle is tape

-- they end in undefined behaviour, or the block's end is come to
abbrev Comes : Bool → List Inst → Terminator → List ℕ → Machine → Type 0
Comes no_undef insts end tape m =
    ((n : Machine) × (steps insts tape (Live m) ≡ Dead n) × (exit_insts no_undef insts end tape m ≡ Over (ended Ub n)))
    ⊎ ((n : Machine) × (steps insts tape (Live m) ≡ Live n) × (exit_insts no_undef insts end tape m ≡ exit_by no_undef end tape n))

comes_by : (no_undef : Bool) (i : Inst) (is : List Inst) (end : Terminator) (tape : List ℕ) (m : Machine) (o : Option Machine) → act i tape m ≡ o → ((n : Machine) → Comes no_undef is end tape n) → Comes no_undef (i ∷ is) end tape m
unfolding steps exit_insts
comes_by no_undef i is end tape m None e further =
    inl (m, ap (λ (x : Option Machine). steps is tape (advanced m x)) e ∙ steps_dead is tape m, ap (λ (x : Option Machine). exit_after x m (exit_insts no_undef is end tape)) e)
comes_by no_undef i is end tape m (Some n) e further =
    let here : steps is tape (advanced m (act i tape m)) ≡ steps is tape (Live n) = ap (λ (x : Option Machine). steps is tape (advanced m x)) e in
    let there : exit_after (act i tape m) m (exit_insts no_undef is end tape) ≡ exit_insts no_undef is end tape n = ap (λ (x : Option Machine). exit_after x m (exit_insts no_undef is end tape)) e in
    elim (further n) [
      | inl d ↦ inl (d.0, here ∙ d.1, there ∙ d.2)
      | inr l ↦ inr (l.0, here ∙ l.1, there ∙ l.2)
    ]

comes : (no_undef : Bool) (insts : List Inst) (end : Terminator) (tape : List ℕ) (m : Machine) → Comes no_undef insts end tape m
unfolding steps exit_insts
comes no_undef [] end tape m = inr (m, refl, refl)
comes no_undef (i ∷ is) end tape m = comes_by no_undef i is end tape m (act i tape m) refl (comes no_undef is end tape)

module _ {old a b d : List Term} {on : Scene → Visit → Type 0} {before : Frontier} {ending : Ending} {undefined : TermId} (ka : Keeps old a) (kb : Keeps a b) (kd : Keeps b d) (hb : IsFrontier old before) (entry s : RunState) (he : IsState old entry) (block : Block) (no_undef : Bool) (place : Exit → Where)
    (run : Steps on old a entry s (steps block.insts)) (t : Tests b undefined (λ v. bit_at v a entry.alive && not (bit_at v a s.alive))) (ends : Ends b d before.ending ending undefined s.tally (λ g. Ub)) where
  kab : Keeps old b
  kab = keeps_trans old a b ka kb

  kad : Keeps a d
  kad = keeps_trans a b d kb kd

  -- a copy is run from its entry: an instruction is undefined, or its terminator is come to
  pub simulates_copy : {new : List Term} {after : Frontier} (g : Scene) (visit : Visit) → on g visit → ((r : Run) → place (Over r) ≡ Done r)
      → Simulates g d new (record before { ending = ending }) after (bit_at g.v d s.alive) visit s (λ (m : Machine). place (exit_by no_undef block.terminator g.tape m))
      → Simulates g old new before after (bit_at g.v old entry.alive) visit entry (λ (m : Machine). place (exit_insts no_undef block.insts block.terminator g.tape m))
  simulates_copy {new = new} {after = after} g visit here over last = record {
    stays = λ at none there.
        let off = subst (λ (c : Course). MatchesCourse g a visit s c) (steps_idle block.insts g.tape) (run.matches g visit Idle here none) in
        last.stays at (alive_is ∙ off) (left_out at (und_is false false none off) there);
    goes = λ m held at none.
        let follows = run.matches g visit (Live m) here (held, at) in
        elim (comes no_undef block.insts block.terminator g.tape m) [
          | inl e ↦ dies m held none e.0 e.1 e.2 follows
          | inr e ↦ lives m held none e.0 e.1 e.2 follows
        ];
  }
    where
      alive_is : bit_at g.v d s.alive ≡ bit_at g.v a s.alive
      alive_is = bit-later a d kad g.v s.alive run.state.alive.within

      und_is : (x y : Bool) → bit_at g.v old entry.alive ≡ x → bit_at g.v a s.alive ≡ y → bit_at g.v b undefined ≡ (x && not y)
      und_is x y ex ey = t.says g.v ∙ rw (bit-later old a ka g.v entry.alive he.alive.within, ex, ey) refl

      left_out : (at : Option Where) → bit_at g.v b undefined ≡ false → MatchesFrontier g old before at → MatchesFrontier g d (record before { ending = ending }) at
      left_out at none there =
          let later = matches_frontier-later old b kab g before at hb there in
          record { ahead = matches_ahead-later b d kd g before.ahead at (states-later old b kab before.ahead hb.ahead) later.ahead; ending = ends.stays g at none later.ending }

      dies : (m : Machine) → bit_at g.v old entry.alive ≡ true → MatchesFrontier g old before None → (n : Machine) → steps block.insts g.tape (Live m) ≡ Dead n
          → exit_insts no_undef block.insts block.terminator g.tape m ≡ Over (ended Ub n) → MatchesCourse g a visit s (steps block.insts g.tape (Live m))
          → MatchesFrontier g new after (Some (place (exit_insts no_undef block.insts block.terminator g.tape m)))
      dies m held none n is exit follows =
          let dead = subst (λ (c : Course). MatchesCourse g a visit s c) is follows in
          let later = matches_frontier-later old b kab g before None hb none in
          subst (λ (w : Where). MatchesFrontier g new after (Some w)) (sym (ap place exit ∙ over (ended Ub n)))
          (last.stays (Some (Done (ended Ub n))) (alive_is ∙ dead.0) (record {
            ahead = matches_ahead-later b d kd g before.ahead None (states-later old b kab before.ahead hb.ahead) later.ahead;
            ending = ends.goes g n.taken (und_is true false held dead.0) (counts-later a b kb g s.tally n.taken run.state.tally dead.1) later.ending;
          }))

      lives : (m : Machine) → bit_at g.v old entry.alive ≡ true → MatchesFrontier g old before None → (n : Machine) → steps block.insts g.tape (Live m) ≡ Live n
          → exit_insts no_undef block.insts block.terminator g.tape m ≡ exit_by no_undef block.terminator g.tape n → MatchesCourse g a visit s (steps block.insts g.tape (Live m))
          → MatchesFrontier g new after (Some (place (exit_insts no_undef block.insts block.terminator g.tape m)))
      lives m held none n is exit follows =
          let live = subst (λ (c : Course). MatchesCourse g a visit s c) is follows in
          subst (λ (w : Where). MatchesFrontier g new after (Some w)) (sym (ap place exit))
          (last.goes n (alive_is ∙ live.0) (matches_state-later a d kad g visit s n run.state live.1) (left_out None (und_is true true held live.0) none))

-- ---- the copy of a number

le_next : (k n : ℕ) → (k ≡ n → ⊥) → nat_le k n ≡ nat_le (k + 1) n
le_next k n apart = elim (cases_lt n k) [
  | inl lt ↦ rw (lt-leb k n lt, lt-leb (k + 1) n (omega (arith, lt))) refl
  | inr ge ↦ rw (le-leb k n ge, le-leb (k + 1) n (omega (arith, ge, apart))) refl
]

placed_further : (f : Function) (copies : List BlockCopy) (k n : ℕ) (m : Machine) → (k ≡ n → ⊥) → placed f copies k (At n m) ≡ placed f copies (k + 1) (At n m)
placed_further f copies k n m apart = rw (le_next k n apart) refl

placed_here : (f : Function) (copies : List BlockCopy) (k : ℕ) (copy : BlockCopy) (block : Block) (m : Machine) → slice_get copies k ≡ Some copy → slice_get f.blocks copy.block ≡ Some block
    → placed f copies k (At k m) ≡ At k (entered block (record m { turn = copy.turn }))
placed_here f copies k copy block m is found = rw (le-leb k k (omega arith), is, found) refl

-- the phis of a block take no turn
phis_turn : (before : Machine) (phis : List Phi) (m : Machine) → (with_phis before phis m).turn ≡ m.turn
phis_turn before [] m = refl
phis_turn before (phi ∷ phis) m = phis_turn before phis (assigned m phi.into (phi_value before phi))

entered_visit : (b : Block) (m : Machine) → visit_of (entered b m) ≡ record { label = b.label; turn = m.turn }
entered_visit b m = rw (phis_turn m b.phis m) refl

-- the run is nowhere ahead, or at a copy of another number
abbrev IsElsewhere : ℕ → Where → Type 0
IsElsewhere k (At n m) = k ≡ n → ⊥
IsElsewhere k (Done run) = Unit {0}

placed_elsewhere : (f : Function) (copies : List BlockCopy) (k n : ℕ) (m : Machine) → (k ≡ n → ⊥) → IsElsewhere k (placed f copies k (At n m))
placed_elsewhere f copies k n m apart = by (nat_le k n) (entering f (slice_get copies n) m)
  where
    by : (b : Bool) (o : Option Machine) → IsElsewhere k (if b then arrived n m o else Done (ended Ub m))
    by true None = tt
    by true (Some e) = apart
    by false o = tt

unreached_here : (g : Scene) (terms : List Term) (ahead : List (Option RunState)) (k : ℕ) (known : Option RunState) (w : Where) → slice_get ahead k ≡ Some known → IsElsewhere k w → MatchesAhead g terms ahead (Some w) → IsUnreached g terms known
unreached_here g terms ahead k known (At n m) is apart s =
    each-get (IsUnreached g terms) (slice_set ahead n None) k known s.others (set_other ahead n k None (λ e. apart (sym e)) ∙ is)
unreached_here g terms ahead k known (Done run) is apart s = each-get (IsUnreached g terms) ahead k known s is

-- what is known of the others, where the entry is taken out
taken_out : (g : Scene) (old : List Term) (w : Frontier) (hw : IsFrontier old w) (k : ℕ) (known : Option RunState) (at : Where) → slice_get w.ahead k ≡ Some known → IsElsewhere k at → MatchesFrontier g old w (Some at)
    → MatchesFrontier g old (record { ahead = slice_set w.ahead k None; ending = w.ending }) (Some at)
taken_out g old w hw k known at is apart s = record {
  ahead = changed_ahead old old (keeps_self old) w.ahead hw.ahead g k known None (Some at) (slice_get_within w.ahead k known is) is (passes_taken old g known (unreached_here g old w.ahead k known at is apart s.ahead)) s.ahead;
  ending = s.ending;
}

-- a copy of which nothing is known is passed
pub pass_unknown : (g : Scene) (old : List Term) (f : Function) (copies : List BlockCopy) (w : Frontier) (hw : IsFrontier old w) (k : ℕ) (copy : BlockCopy) (block : Block) (x : Where)
    → slice_get w.ahead k ≡ Some None → slice_get copies k ≡ Some copy → slice_get f.blocks copy.block ≡ Some block
    → MatchesFrontier g old w (Some (placed f copies k x)) → MatchesFrontier g old (record { ahead = slice_set w.ahead k None; ending = w.ending }) (Some (placed f copies (k + 1) (pass_copy f k copy g.tape x)))
pass_unknown g old f copies w hw k copy block (Done run) none is found s = taken_out g old w hw k None (Done run) none tt s
pass_unknown g old f copies w hw k copy block (At n m) none is found s = elim (cases_Bool (nat_eq k n)) [
  | inl t ↦ absurd (never (eqb-true k n t))
  | inr f' ↦ there f' (eqb-false k n f')
]
  where
    there : nat_eq k n ≡ false → (k ≡ n → ⊥) → MatchesFrontier g old (record { ahead = slice_set w.ahead k None; ending = w.ending }) (Some (placed f copies (k + 1) (pass_copy f k copy g.tape (At n m))))
    there off apart =
        let stays : At n m ≡ pass_copy f k copy g.tape (At n m) = rw off refl in
        subst (λ (y : Where). MatchesFrontier g old (record { ahead = slice_set w.ahead k None; ending = w.ending }) (Some (placed f copies (k + 1) y))) stays
        (subst (λ (y : Where). MatchesFrontier g old (record { ahead = slice_set w.ahead k None; ending = w.ending }) (Some y)) (placed_further f copies k n m apart)
        (taken_out g old w hw k None (placed f copies k (At n m)) none (placed_elsewhere f copies k n m apart) s))

    never : k ≡ n → ⊥
    never same =
        let at : placed f copies k (At n m) ≡ At k (entered block (record m { turn = copy.turn })) = ap (λ (i : ℕ). placed f copies k (At i m)) (sym same) ∙ placed_here f copies k copy block m is found in
        let s' = subst (λ (y : Where). MatchesFrontier g old w (Some y)) at s in
        let there = s'.ahead.is in
        let c : ⊥ = cc in c

-- and one whose block is run from its entry
pub pass_known : (g : Scene) (old new : List Term) (f : Function) (copies : List BlockCopy) (w after : Frontier) (hw : IsFrontier old w) (k : ℕ) (copy : BlockCopy) (block : Block) (entry : RunState) (x : Where)
    → slice_get w.ahead k ≡ Some (Some entry) → slice_get copies k ≡ Some copy → slice_get f.blocks copy.block ≡ Some block
    → Simulates g old new (record { ahead = slice_set w.ahead k None; ending = w.ending }) after (bit_at g.v old entry.alive) (record { label = block.label; turn = copy.turn }) entry (λ (m : Machine). placed f copies (k + 1) (left_by (targets block.terminator) copy.edges (exit_insts f.returns_no_undef block.insts block.terminator g.tape m)))
    → MatchesFrontier g old w (Some (placed f copies k x)) → MatchesFrontier g new after (Some (placed f copies (k + 1) (pass_copy f k copy g.tape x)))
pass_known g old new f copies w after hw k copy block entry (Done run) known is found move s =
    move.stays (Some (Done run)) (unreached_here g old w.ahead k (Some entry) (Done run) known tt s.ahead) (taken_out g old w hw k (Some entry) (Done run) known tt s)
pass_known g old new f copies w after hw k copy block entry (At n m) known is found move s = elim (cases_Bool (nat_eq k n)) [
  | inl t ↦ subst (λ (y : Where). MatchesFrontier g new after (Some (placed f copies (k + 1) y))) (runs t) (here (eqb-true k n t))
  | inr f' ↦ subst (λ (y : Where). MatchesFrontier g new after (Some (placed f copies (k + 1) y))) (rests f')
      (subst (λ (y : Where). MatchesFrontier g new after (Some y)) (placed_further f copies k n m (eqb-false k n f')) (there (eqb-false k n f')))
]
  where
    runs : nat_eq k n ≡ true → left_by (targets block.terminator) copy.edges (exit_insts f.returns_no_undef block.insts block.terminator g.tape (entered block (record m { turn = copy.turn }))) ≡ pass_copy f k copy g.tape (At n m)
    runs t = rw (t, found) refl

    rests : nat_eq k n ≡ false → At n m ≡ pass_copy f k copy g.tape (At n m)
    rests off = rw off refl

    here : k ≡ n → MatchesFrontier g new after (Some (placed f copies (k + 1) (left_by (targets block.terminator) copy.edges (exit_insts f.returns_no_undef block.insts block.terminator g.tape (entered block (record m { turn = copy.turn }))))))
    here same =
        let at : placed f copies k (At n m) ≡ At k (entered block (record m { turn = copy.turn })) = ap (λ (i : ℕ). placed f copies k (At i m)) (sym same) ∙ placed_here f copies k copy block m is found in
        let s' = subst (λ (y : Where). MatchesFrontier g old w (Some y)) at s in
        let stands = s'.ahead in
        let there = stands.is in
        let one : stands.entry ≡ entry = cc in
        move.goes (entered block (record m { turn = copy.turn })) (ap (λ (e : RunState). bit_at g.v old e.alive) (sym one) ∙ stands.alive)
        (subst (λ (e : RunState). MatchesState g old (record { label = block.label; turn = copy.turn }) e (entered block (record m { turn = copy.turn }))) one
        (subst (λ (v : Visit). MatchesState g old v stands.entry (entered block (record m { turn = copy.turn }))) (entered_visit block (record m { turn = copy.turn })) stands.matches))
        (record { ahead = stands.others; ending = s'.ending })

    there : (k ≡ n → ⊥) → MatchesFrontier g new after (Some (placed f copies k (At n m)))
    there apart =
        let other = placed_elsewhere f copies k n m apart in
        move.stays (Some (placed f copies k (At n m))) (unreached_here g old w.ahead k (Some entry) (placed f copies k (At n m)) known other s.ahead) (taken_out g old w hw k (Some entry) (placed f copies k (At n m)) known other s)

-- ---- all copies

pub walk_more : (f : Function) (copies : List BlockCopy) (k : ℕ) (copy : BlockCopy) (tape : List ℕ) (w : Where) → k < length copies → copy ≡ get_or copies k copy
    → walk f k (drop k copies) tape w ≡ walk f (k + 1) (drop (k + 1) copies) tape (pass_copy f k copy tape w)
unfolding walk
walk_more f copies k copy tape w lt is =
    let next : suc k ≡ k + 1 = omega arith in
    rw (drop_more copies k copy lt, ← is) (ap (λ (i : ℕ). walk f i (drop (k + 1) copies) tape (pass_copy f k copy tape w)) next)

pub walk_end : (f : Function) (copies : List BlockCopy) (k : ℕ) (tape : List ℕ) (w : Where) → length copies ≤ k → walk f k (drop k copies) tape w ≡ w
unfolding walk
walk_end f copies k tape w past = rw (drop_all k copies past) refl

pub walk_over : (f : Function) (copies : List BlockCopy) (k : ℕ) (tape : List ℕ) (run : Run) → walk f k copies tape (Done run) ≡ Done run
unfolding walk
walk_over f [] k tape run = refl
walk_over f (c ∷ cs) k tape run = walk_over f cs (suc k) tape run

pub placed_end : (f : Function) (copies : List BlockCopy) (w : Where) → placed f copies (length copies) w ≡ Done (run_at_end w)
placed_end f copies (Done run) = refl
placed_end f copies (At n m) = elim (cases_lt n (length copies)) [
  | inl lt ↦ rw (lt-leb (length copies) n lt) refl
  | inr ge ↦ (let none : slice_get copies n ≡ None = slice_get_past copies n ge in rw (le-leb (length copies) n ge, none) refl)
]

-- ---- the copies of a function

each-append : {A : Type 0} (P : A → Type 0) (xs ys : List A) → Each P xs → Each P ys → Each P (xs ++ ys)
each-append P [] ys h k = k
each-append P (x ∷ xs) ys h k = (h.0, each-append P xs ys h.1 k)

map_map : (e : ℕ → Edge) (p : ℕ → ℕ) (ls : List ℕ) → map e (map p ls) ≡ map (λ l. e (p l)) ls
map_map e p [] = refl
map_map e p (l ∷ ls) = ap (λ es. e (p l) ∷ es) (map_map e p ls)

layer_in : (f : Function) (turns n turn at : ℕ) (bs : List Block) → ((i : ℕ) → slice_get f.blocks (at + i) ≡ slice_get bs i) → Each (IsCopyIn f) (layer_of turns n turn at (map (places_of f) bs))
unfolding layer_of
layer_in f turns n turn at [] from = tt
layer_in f turns n turn at (b ∷ bs) from =
    let here : at ≡ at + 0 = omega arith in (
      record {
        block = b;
        is = ap (λ (i : ℕ). slice_get f.blocks i) here ∙ from 0;
        edges = (λ (l : ℕ). edge_to turns n turn at (block_of f l), map_map (edge_to turns n turn at) (block_of f) (targets b.terminator));
      },
      layer_in f turns n turn (suc at) bs (λ i. ap (λ (j : ℕ). slice_get f.blocks j) (let e : suc at + i ≡ at + suc i = omega arith in e) ∙ from (suc i)),
    )

layers_in : (f : Function) (turns n turn count : ℕ) → Each (IsCopyIn f) (layers_of turns n (successors f) turn count)
unfolding layers_of
layers_in f turns n turn zero = tt
layers_in f turns n turn (suc count) =
    each-append (IsCopyIn f) (layer_of turns n turn 0 (successors f)) (layers_of turns n (successors f) (suc turn) count)
    (layer_in f turns n turn 0 f.blocks (λ i. ap (λ (j : ℕ). slice_get f.blocks j) (let e : 0 + i ≡ i = omega arith in e))) (layers_in f turns n (suc turn) count)

pub copies_in : (f : Function) (turns : ℕ) → Each (IsCopyIn f) (copies_of turns f)
copies_in f turns = layers_in f turns (length f.blocks) 0 (turns + 1)

-- ---- the entry is taken out of the list

pub taken_frontier : (old : List Term) (w : Frontier) (ahead : List (Option RunState)) (k : ℕ) → ahead ≡ slice_set w.ahead k None → IsFrontier old w → IsFrontier old (record { ahead = ahead; ending = w.ending })
taken_frontier old w ahead k is h = record {
  ahead = subst (λ (xs : List (Option RunState)). AreStates old xs) (sym is) (each-set (λ (o : Option RunState). IfSome o (IsState old)) w.ahead k None h.ahead tt);
  ending = h.ending;
}

pub taken_shape : (setting : Setting) (w : Frontier) (ahead : List (Option RunState)) (k : ℕ) → ahead ≡ slice_set w.ahead k None → HasShape setting w → HasShape setting (record { ahead = ahead; ending = w.ending })
taken_shape setting w ahead k is h = record {
  ahead = subst (λ (xs : List (Option RunState)). HaveShape (shape_in setting) xs) (sym is) (each-set (λ (o : Option RunState). IfSome o (λ (s : RunState). shape_of s ≡ shape_in setting)) w.ahead k None h.ahead tt);
  count = ap length is ∙ (length-set w.ahead k None ∙ h.count);
  ending = h.ending;
}

pub entry_state : (old : List Term) (w : Frontier) (k : ℕ) (entry : RunState) → slice_get w.ahead k ≡ Some (Some entry) → IsFrontier old w → IsState old entry
entry_state old w k entry is h = each-get (λ (o : Option RunState). IfSome o (IsState old)) w.ahead k (Some entry) h.ahead is

pub entry_shape : (setting : Setting) (w : Frontier) (k : ℕ) (entry : RunState) → slice_get w.ahead k ≡ Some (Some entry) → HasShape setting w → shape_of entry ≡ shape_in setting
entry_shape setting w k entry is h = each-get (λ (o : Option RunState). IfSome o (λ (s : RunState). shape_of s ≡ shape_in setting)) w.ahead k (Some entry) h.ahead is

-- ---- what a copy has of its function

pub fits_at : (f : Function) (at : ℕ) (block : Block) → ReturnsFit f → slice_get f.blocks at ≡ Some block → FitsReturn f.returns block.terminator
fits_at f at block h is = all_at (λ (b : Block). FitsReturn f.returns b.terminator) f.blocks at block h is

-- types and numbers of its instructions
pub objects_at : (f : Function) (at : ℕ) (block : Block) → CanRun f → slice_get f.blocks at ≡ Some block → HasSmallObjects block
objects_at f at block h is = all_at HasSmallObjects f.blocks at block h.objects is

pub numbers_at : (f : Function) (at : ℕ) (block : Block) → CanRun f → slice_get f.blocks at ≡ Some block → HasSmallNumbers block
numbers_at f at block h is = all_at HasSmallNumbers f.blocks at block h.numbers is

pub labels_at : (f : Function) (copy : BlockCopy) (block : Block) → IsCopyIn f copy → slice_get f.blocks copy.block ≡ Some block → AreByLabel (targets block.terminator) copy.edges
labels_at f copy block h is =
    let there = h.is in
    let same : h.block ≡ block = cc in
    subst (λ (b : Block). AreByLabel (targets b.terminator) copy.edges) same h.edges
