-- A run, one instruction and one block at a time.
use Rattle.points.proofs.Common.{◌≡◌, ℕ, ◌+◌, ◌<◌, List, [], ◌∷◌, length, drop, get_or, Bool, true, false, if◌then◌else◌, Some, None, refl, ap, ◌∙◌, drop_more, drop-length, Inst, Terminator, Block, Function, Machine, Ub, Bounds, Input, Run, Exit, Over, To, ended, act, assigned, phi_value, with_phis, entered, exit_insts, exit_by, breaks_noundef, first_machine, run_turns, run_of}
use Rattle.ir_tree.specs.declared.tree.Phi.{Phi}

-- ---- what a block has taken

-- when a block is left
abbrev pub exit_taken : Exit → List ℕ
exit_taken (To label m) = m.taken
exit_taken (Over run) = run.taken

phis_taken : (before : Machine) (phis : List Phi) (m : Machine) → (with_phis before phis m).taken ≡ m.taken
phis_taken before [] m = refl
phis_taken before (phi ∷ phis) m = phis_taken before phis (assigned m phi.into (phi_value before phi))

-- phis take no choice
pub entered_taken : (b : Block) (m : Machine) → (entered b m).taken ≡ m.taken
entered_taken b m = phis_taken m b.phis m

-- ---- the whole run, after the test of its arguments

abbrev pub run_entered_by : Bool → Function → Bounds → List ℕ → Machine → Run
run_entered_by true f bounds tape m = ended Ub m
run_entered_by false f bounds tape m = run_turns f tape bounds.turns 0 m

pub run_of_is : (f : Function) (bounds : Bounds) (input : Input) (tape : List ℕ) → run_of f bounds input tape ≡ run_entered_by (breaks_noundef f.parameters input.args) f bounds tape (first_machine f input)
run_of_is f bounds input tape = go (breaks_noundef f.parameters input.args)
  where
    go : (broken : Bool) → (if broken then ended Ub (first_machine f input) else run_turns f tape bounds.turns 0 (first_machine f input)) ≡ run_entered_by broken f bounds tape (first_machine f input)
    go true = refl
    go false = refl

pub run_broken : (f : Function) (bounds : Bounds) (input : Input) (tape : List ℕ) → breaks_noundef f.parameters input.args ≡ true → run_of f bounds input tape ≡ ended Ub (first_machine f input)
run_broken f bounds input tape broken = run_of_is f bounds input tape ∙ ap (λ b. run_entered_by b f bounds tape (first_machine f input)) broken

pub run_unbroken : (f : Function) (bounds : Bounds) (input : Input) (tape : List ℕ) → breaks_noundef f.parameters input.args ≡ false → run_of f bounds input tape ≡ run_turns f tape bounds.turns 0 (first_machine f input)
run_unbroken f bounds input tape sound = run_of_is f bounds input tape ∙ ap (λ b. run_entered_by b f bounds tape (first_machine f input)) sound

-- ---- steps of a loop over the instructions, as exits

pub exit_goes : (no_undef : Bool) (insts : List Inst) (end : Terminator) (tape : List ℕ) (m m' : Machine) (i : ℕ) (inst : Inst) → i < length insts → inst ≡ get_or insts i inst → act inst tape m ≡ Some m' → exit_insts no_undef (drop i insts) end tape m ≡ exit_insts no_undef (drop (i + 1) insts) end tape m'
unfolding exit_insts
exit_goes no_undef insts end tape m m' i inst below is goes = rw (drop_more insts i inst below, ← is, goes) refl

pub exit_stops : (no_undef : Bool) (insts : List Inst) (end : Terminator) (tape : List ℕ) (m : Machine) (i : ℕ) (inst : Inst) → i < length insts → inst ≡ get_or insts i inst → act inst tape m ≡ None → exit_insts no_undef (drop i insts) end tape m ≡ Over (ended Ub m)
unfolding exit_insts
exit_stops no_undef insts end tape m i inst below is stops = rw (drop_more insts i inst below, ← is, stops) refl

pub exit_ends : (no_undef : Bool) (insts : List Inst) (end : Terminator) (tape : List ℕ) (m : Machine) (i : ℕ) → i ≡ length insts → exit_insts no_undef (drop i insts) end tape m ≡ exit_by no_undef end tape m
unfolding exit_insts
exit_ends no_undef insts end tape m i e = rw (e, drop-length insts) refl
