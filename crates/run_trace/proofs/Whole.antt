-- The small steps lead to the end of the run that is defined.
use Rattle.run_trace.proofs.Common.{◌≡◌, ℕ, zero, suc, ◌+◌, ◌≤◌, List, [], ◌∷◌, length, drop, Bool, true, false, ◌&&◌, ◌||◌, nat_lt, if◌then◌else◌, Option, Some, None, inl, inr, refl, sym, ap, subst, ◌∙◌, arith, slice_get, ltb-true, drop_all, drop_more, slice_get_cases, slice_get_within, get_or_from_slice_get, Parameter, Phi, Inst, Block, Function, block_of, Value, Machine, Ub, Bounds, Input, Run, Exit, To, Over, ended, act, entered, exit_by, exit_insts, forward, run_turns, breaks_noundef, argument_value, is_poison, first_machine, run_of, Step, Position, Phase, Call, Phis, Insts, State, At, Done, first_state, item_at, parameter_item, phi_item, inst_item, phi_item_in, inst_item_in, after, after_inst, after_exit, after_jump, again, at_block, Leads, stays, shown, silent}
use Rattle.points.proofs.Runs.{exit_goes, exit_stops}
use Rattle.choice_interp.proofs.Ways.{again_of, IsOnTheWay, IsLeftSo, way_start, way_outside}

-- ---- from here the run goes on as the whole one does

-- the rest of a block, from an instruction on
rest_exit : Bool → Option Block → ℕ → List ℕ → Machine → Exit
rest_exit no_undef None k tape m = Over (ended Ub m)
rest_exit no_undef (Some b) k tape m = exit_insts no_undef (drop k b.insts) b.terminator tape m

call_run : Function → List ℕ → Bool → ℕ → Machine → Run
call_run f tape true jumps m = ended Ub m
call_run f tape false jumps m = run_turns f tape jumps 0 m

record IsCalled (f : Function) (tape : List ℕ) (whole : Run) (args : List Value) (p : Position) : Type 0 where
  entry : p.block ≡ 0
  rest : call_run f tape (breaks_noundef (drop p.index f.parameters) args) p.jumps p.machine ≡ whole

IsOn : Function → List ℕ → Run → State → Type 0
IsOn f tape whole (Done run) = run ≡ whole
IsOn f tape whole (At (Call args) p) = IsCalled f tape whole args p
IsOn f tape whole (At Phis p) = IsOnTheWay f tape p.jumps p.block p.machine whole
IsOn f tape whole (At Insts p) = IsLeftSo f tape p.jumps p.block (rest_exit f.returns_no_undef (slice_get f.blocks p.block) p.index tape p.machine) whole

-- ---- the call

breaks_none : (ps : List Parameter) → breaks_noundef ps [] ≡ false
breaks_none [] = refl
breaks_none (p ∷ ps) = refl

begun : (f : Function) (tape : List ℕ) (whole : Run) (at jumps : ℕ) (m : Machine) → at ≡ 0 → run_turns f tape jumps 0 m ≡ whole → IsOnTheWay f tape jumps at m whole
begun f tape whole at jumps m entry rest = rw entry (subst (λ (r : Run). IsOnTheWay f tape jumps 0 m r) rest (way_start f tape jumps m))

after_call : (f : Function) (tape : List ℕ) (whole : Run) (v : Value) (vs : List Value) (p : Position) (o : Option Parameter) → slice_get f.parameters p.index ≡ o
    → IsCalled f tape whole (v ∷ vs) p → IsOn f tape whole (after f tape (parameter_item o v vs) p)
unfolding IsOn call_run
after_call f tape whole v vs p None is called =
    let past : length f.parameters ≤ p.index = past_of f.parameters p.index is in
    let none : drop p.index f.parameters ≡ [] = drop_all p.index f.parameters past in
    begun f tape whole p.block p.jumps p.machine called.entry (rw none at called.rest)
  where
    past_of : (ps : List Parameter) (i : ℕ) → slice_get ps i ≡ None → length ps ≤ i
    past_of ps i none = elim (slice_get_cases ps i).1 [
      | inl found ↦ let some = found.2 in absurd (cc (some, none))
      | inr past ↦ past.0
    ]
after_call f tape whole v vs p (Some q) is called =
    let below = slice_get_within f.parameters p.index q is in
    let more : drop p.index f.parameters ≡ q ∷ drop (p.index + 1) f.parameters = drop_more f.parameters p.index q below ∙ ap (λ (x : Parameter). x ∷ drop (p.index + 1) f.parameters) (get_or_from_slice_get f.parameters p.index q q is) in
    go (q.no_undef && is_poison (argument_value q v)) (rw more at called.rest)
  where
    go : (b : Bool) → call_run f tape (b || breaks_noundef (drop (p.index + 1) f.parameters) vs) p.jumps p.machine ≡ whole
        → IsOn f tape whole (if b then Done (ended Ub p.machine) else At (Call vs) (record p { index = p.index + 1 }))
    go true rest = rest
    go false rest = record { entry = called.entry; rest = rest }

-- ---- phis

way_left : (f : Function) (tape : List ℕ) (jumps at : ℕ) (m : Machine) (b : Block) (whole : Run) → IsOnTheWay f tape jumps at m whole → slice_get f.blocks at ≡ Some b
    → IsLeftSo f tape jumps at (exit_insts f.returns_no_undef b.insts b.terminator tape (entered b m)) whole
unfolding forward
way_left f tape jumps at m b whole way is = by_spare way.spare way.enough way.rest
  where
    by_spare : (spare : ℕ) → length f.blocks ≤ spare + at → forward f tape (again_of f tape jumps) spare at m ≡ whole
        → IsLeftSo f tape jumps at (exit_insts f.returns_no_undef b.insts b.terminator tape (entered b m)) whole
    by_spare zero enough rest = let below = slice_get_within f.blocks at b is in absurd (omega (arith, below, enough))
    by_spare (suc spare) enough rest = record { spare = spare; enough = enough; goes = rw is at rest }

after_phis : (f : Function) (tape : List ℕ) (whole : Run) (p : Position) (o : Option Block) → slice_get f.blocks p.block ≡ o
    → IsOnTheWay f tape p.jumps p.block p.machine whole → IsOn f tape whole (after f tape (phi_item_in o p.index) p)
unfolding IsOn rest_exit
after_phis f tape whole p None is way = sym (way_outside f tape p.jumps p.block p.machine whole way (past_of f.blocks p.block is))
  where
    past_of : (bs : List Block) (i : ℕ) → slice_get bs i ≡ None → length bs ≤ i
    past_of bs i none = elim (slice_get_cases bs i).1 [
      | inl found ↦ let some = found.2 in absurd (cc (some, none))
      | inr past ↦ past.0
    ]
after_phis f tape whole p (Some b) is way = go (slice_get b.phis p.index)
  where
    go : (o : Option Phi) → IsOn f tape whole (after f tape (phi_item b o) p)
    go None = rw is (way_left f tape p.jumps p.block p.machine b whole way is)
    go (Some phi) = way

-- ---- instructions and terminators

run_turns_is : (f : Function) (tape : List ℕ) (turns at : ℕ) (m : Machine) → run_turns f tape turns at m ≡ forward f tape (again_of f tape turns) (length f.blocks) at m
unfolding run_turns
run_turns_is f tape zero at m = refl
run_turns_is f tape (suc turns) at m = refl

jumped : (f : Function) (tape : List ℕ) (whole : Run) (at jumps spare to : ℕ) (m : Machine) → length f.blocks ≤ suc spare + at
    → (if nat_lt at to then forward f tape (again_of f tape jumps) spare to m else again_of f tape jumps to (record m { turn = m.turn + 1 })) ≡ whole
    → IsOn f tape whole (after_jump at to jumps m)
unfolding IsOn
jumped f tape whole at jumps spare to m enough goes = go (nat_lt at to) refl goes
  where
    again_goes : (j : ℕ) → again_of f tape j to (record m { turn = m.turn + 1 }) ≡ whole → IsOn f tape whole (again to j m)
    again_goes zero e = e
    again_goes (suc j) e = record {
      spare = length f.blocks;
      enough = omega arith;
      rest = sym (run_turns_is f tape j to (record m { turn = m.turn + 1 })) ∙ e;
    }

    go : (b : Bool) → nat_lt at to ≡ b → (if b then forward f tape (again_of f tape jumps) spare to m else again_of f tape jumps to (record m { turn = m.turn + 1 })) ≡ whole
        → IsOn f tape whole (if b then at_block to jumps m else again to jumps m)
    go true less e = record { spare = spare; enough = (let later = ltb-true at to less in omega (arith, later, enough)); rest = e }
    go false more e = again_goes jumps e

left_goes : (f : Function) (tape : List ℕ) (whole : Run) (p : Position) (x : Exit) → IsLeftSo f tape p.jumps p.block x whole → IsOn f tape whole (after_exit f p x)
unfolding IsOn
left_goes f tape whole p (Over run) so = so.goes
left_goes f tape whole p (To label m) so = jumped f tape whole p.block p.jumps so.spare (block_of f label) m so.enough so.goes

exit_empty : (no_undef : Bool) (b : Block) (k : ℕ) (tape : List ℕ) (m : Machine) → length b.insts ≤ k
    → exit_insts no_undef (drop k b.insts) b.terminator tape m ≡ exit_by no_undef b.terminator tape m
unfolding exit_insts
exit_empty no_undef b k tape m past = rw (drop_all k b.insts past) refl

after_insts : (f : Function) (tape : List ℕ) (whole : Run) (p : Position) (o : Option Block) → slice_get f.blocks p.block ≡ o
    → IsLeftSo f tape p.jumps p.block (rest_exit f.returns_no_undef o p.index tape p.machine) whole → IsOn f tape whole (after f tape (inst_item_in o p.index) p)
unfolding IsOn rest_exit
after_insts f tape whole p None is so = so.goes
after_insts f tape whole p (Some b) is so = go (slice_get b.insts p.index) refl
  where
    past_of : (is : List Inst) (i : ℕ) → slice_get is i ≡ None → length is ≤ i
    past_of is i none = elim (slice_get_cases is i).1 [
      | inl found ↦ let some = found.2 in absurd (cc (some, none))
      | inr past ↦ past.0
    ]

    acted : (inst : Inst) → slice_get b.insts p.index ≡ Some inst → (o : Option Machine) → act inst tape p.machine ≡ o → IsOn f tape whole (after_inst p o)
    acted inst e None stops =
        let x = exit_stops f.returns_no_undef b.insts b.terminator tape p.machine p.index inst (slice_get_within b.insts p.index inst e) (sym (get_or_from_slice_get b.insts p.index inst inst e)) stops in
        let so' = rw x at so in so'.goes
    acted inst e (Some m) goes =
        let x = exit_goes f.returns_no_undef b.insts b.terminator tape p.machine m p.index inst (slice_get_within b.insts p.index inst e) (sym (get_or_from_slice_get b.insts p.index inst inst e)) goes in
        rw is (rw x at so)

    go : (o : Option Inst) → slice_get b.insts p.index ≡ o → IsOn f tape whole (after f tape (inst_item b o) p)
    go None e = left_goes f tape whole p (exit_by f.returns_no_undef b.terminator tape p.machine) (rw (exit_empty f.returns_no_undef b p.index tape p.machine (past_of b.insts p.index e)) at so)
    go (Some inst) e = acted inst e (act inst tape p.machine) refl

-- ---- the chain

is_on_after : (f : Function) (tape : List ℕ) (whole : Run) (phase : Phase) (p : Position) → IsOn f tape whole (At phase p) → IsOn f tape whole (after f tape (item_at f phase p) p)
unfolding IsOn call_run
is_on_after f tape whole (Call []) p called = begun f tape whole p.block p.jumps p.machine called.entry (rw (breaks_none (drop p.index f.parameters)) at called.rest)
is_on_after f tape whole (Call (v ∷ vs)) p called = after_call f tape whole v vs p (slice_get f.parameters p.index) refl called
is_on_after f tape whole Phis p way = after_phis f tape whole p (slice_get f.blocks p.block) refl way
is_on_after f tape whole Insts p so = after_insts f tape whole p (slice_get f.blocks p.block) refl so

is_on_along : (f : Function) (tape : List ℕ) (whole : Run) (first : State) (steps : List Step) (s : State) → Leads f tape first steps s → IsOn f tape whole first → IsOn f tape whole s
is_on_along f tape whole first steps s stays on = on
is_on_along f tape whole first steps s (shown {steps = before} {phase = phase} {p = p} step leads shows) on = is_on_after f tape whole phase p (is_on_along f tape whole first before (At phase p) leads on)
is_on_along f tape whole first steps s (silent {steps = before} {phase = phase} {p = p} leads none) on = is_on_after f tape whole phase p (is_on_along f tape whole first before (At phase p) leads on)

-- where the steps lead from a call is the run that is defined
pub leads_to_run : (f : Function) (bounds : Bounds) (input : Input) (tape : List ℕ) (steps : List Step) (run : Run)
    → Leads f tape (first_state f bounds input) steps (Done run) → run ≡ run_of f bounds input tape
unfolding IsOn call_run
leads_to_run f bounds input tape steps run leads = is_on_along f tape (run_of f bounds input tape) (first_state f bounds input) steps (Done run) leads (record { entry = refl; rest = is (breaks_noundef f.parameters input.args) })
  where
    is : (b : Bool) → call_run f tape b bounds.turns (first_machine f input)
        ≡ (if b then ended Ub (first_machine f input) else run_turns f tape bounds.turns 0 (first_machine f input))
    is true = refl
    is false = refl
