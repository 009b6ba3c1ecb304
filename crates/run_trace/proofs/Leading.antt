-- How the steps that are shown go on.
use Rattle.run_trace.proofs.Common.{◌≡◌, ℕ, ◌+◌, ◌<◌, ◌≤◌, List, [], ◌∷◌, ◌++◌, length, drop, get_or, true, false, ◌&&◌, Option, Some, None, refl, sym, ap, subst, ◌∙◌, arith, slice_get, slice_get_past, drop_more, Parameter, Phi, Inst, Block, Function, Value, Machine, Ub, Bounds, Input, act, ended, entered, argument_value, is_poison, first_machine, Step, Position, Phase, Call, Phis, Insts, State, At, Done, first_state, Item, Gets, Begins, Reads, Enters, Acts, Missing, item_at, parameter_item, after_inst, after, site_of, Shows, Leads, stays, shown, silent, position, ShowsAt, GoesOn}

pub leads_shown : (f : Function) (tape : List ℕ) (first : State) (steps : List Step) (phase : Phase) (p : Position) (item : Item) (step : Step)
    → item_at f phase p ≡ item → Leads f tape first steps (At phase p) → Shows f tape item p step
    → Leads f tape first (steps ++ step ∷ []) (after f tape item p)
leads_shown f tape first steps phase p item step is leads shows =
    subst (λ (i : Item). Leads f tape first (steps ++ step ∷ []) (after f tape i p)) is
    (shown step leads (subst (λ (i : Item). Shows f tape i p step) (sym is) shows))

pub leads_silent : (f : Function) (tape : List ℕ) (first : State) (steps : List Step) (phase : Phase) (p : Position) (item : Item)
    → item_at f phase p ≡ item → site_of item p.index ≡ None → Leads f tape first steps (At phase p)
    → Leads f tape first steps (after f tape item p)
leads_silent f tape first steps phase p item is none leads =
    subst (λ (i : Item). Leads f tape first steps (after f tape i p)) is
    (silent leads (ap (λ (i : Item). site_of i p.index) is ∙ none))

-- ---- phis

pub phi_goes : (b : Block) (at k : ℕ) (m : Machine) (old middle new : List Step) (phi : Phi) (step : Step) (tape : List ℕ)
    → GoesOn b at Phis 0 m old tape middle (λ jumps. At Phis (position at k jumps m))
    → slice_get b.phis k ≡ Some phi → ShowsAt (Reads phi) at k tape m step → new ≡ middle ++ step ∷ []
    → GoesOn b at Phis 0 m old tape new (λ jumps. At Phis (position at (k + 1) jumps m))
phi_goes b at k m old middle new phi step tape goes is shows e = λ f first jumps block leads.
    let p = position at k jumps m in
    let there : item_at f Phis p ≡ Reads phi = rw (block, is) refl in
    rw e (leads_shown f tape first middle Phis p (Reads phi) step there (goes f first jumps block leads) (shows f jumps))

-- all phis are read: the block is entered
pub phis_enter : (b : Block) (at : ℕ) (m : Machine) (old new : List Step) (tape : List ℕ)
    → GoesOn b at Phis 0 m old tape new (λ jumps. At Phis (position at (length b.phis) jumps m))
    → GoesOn b at Phis 0 m old tape new (λ jumps. At Insts (position at 0 jumps (entered b m)))
phis_enter b at m old new tape goes = λ f first jumps block leads.
    let p = position at (length b.phis) jumps m in
    let there : item_at f Phis p ≡ Enters b = rw (block, slice_get_past b.phis (length b.phis) omega_le) refl in
    leads_silent f tape first new Phis p (Enters b) there refl (goes f first jumps block leads)
  where
    omega_le : length b.phis ≤ length b.phis
    omega_le = omega arith

-- the block is entered, and its first instruction is next
pub block_leads : (f : Function) (tape : List ℕ) (first : State) (b : Block) (at jumps : ℕ) (m n : Machine) (old new : List Step)
    → slice_get f.blocks at ≡ Some b → GoesOn b at Phis 0 m old tape new (λ jumps. At Phis (position at (length b.phis) jumps m)) → n ≡ entered b m
    → Leads f tape first old (At Phis (position at 0 jumps m)) → Leads f tape first new (At Insts (position at 0 jumps n))
block_leads f tape first b at jumps m n old new block goes is leads = rw is (phis_enter b at m old new tape goes f first jumps block leads)

-- the function has no such block
pub missing_leads : (f : Function) (tape : List ℕ) (first : State) (steps new : List Step) (at jumps : ℕ) (m : Machine) (step : Step)
    → length f.blocks ≤ at → Leads f tape first steps (At Phis (position at 0 jumps m)) → ShowsAt Missing at 0 tape m step → new ≡ steps ++ step ∷ []
    → Leads f tape first new (Done (ended Ub m))
missing_leads f tape first steps new at jumps m step past leads shows e =
    let p = position at 0 jumps m in
    let there : item_at f Phis p ≡ Missing = rw (slice_get_past f.blocks at past) refl in
    rw e (leads_shown f tape first steps Phis p Missing step there leads (shows f jumps))

-- ---- instructions

acts_at : (f : Function) (b : Block) (at k jumps : ℕ) (m : Machine) (inst : Inst) → slice_get f.blocks at ≡ Some b → slice_get b.insts k ≡ Some inst
    → item_at f Insts (position at k jumps m) ≡ Acts inst
acts_at f b at k jumps m inst block is = rw (block, is) refl

pub inst_goes : (b : Block) (at k : ℕ) (m0 m m' : Machine) (old middle new : List Step) (inst : Inst) (step : Step) (tape : List ℕ)
    → GoesOn b at Insts 0 m0 old tape middle (λ jumps. At Insts (position at k jumps m))
    → slice_get b.insts k ≡ Some inst → ShowsAt (Acts inst) at k tape m step → act inst tape m ≡ Some m' → new ≡ middle ++ step ∷ []
    → GoesOn b at Insts 0 m0 old tape new (λ jumps. At Insts (position at (k + 1) jumps m'))
inst_goes b at k m0 m m' old middle new inst step tape goes is shows acts e = λ f first jumps block leads.
    let p = position at k jumps m in
    let after_it = leads_shown f tape first middle Insts p (Acts inst) step (acts_at f b at k jumps m inst block is) (goes f first jumps block leads) (shows f jumps) in
    rw e (subst (λ (o : Option Machine). Leads f tape first (middle ++ step ∷ []) (after_inst p o)) acts after_it)

pub inst_stops : (b : Block) (at k : ℕ) (m0 m : Machine) (old middle new : List Step) (inst : Inst) (step : Step) (tape : List ℕ)
    → GoesOn b at Insts 0 m0 old tape middle (λ jumps. At Insts (position at k jumps m))
    → slice_get b.insts k ≡ Some inst → ShowsAt (Acts inst) at k tape m step → act inst tape m ≡ None → new ≡ middle ++ step ∷ []
    → GoesOn b at Insts 0 m0 old tape new (λ jumps. Done (ended Ub m))
inst_stops b at k m0 m old middle new inst step tape goes is shows acts e = λ f first jumps block leads.
    let p = position at k jumps m in
    let after_it = leads_shown f tape first middle Insts p (Acts inst) step (acts_at f b at k jumps m inst block is) (goes f first jumps block leads) (shows f jumps) in
    rw e (subst (λ (o : Option Machine). Leads f tape first (middle ++ step ∷ []) (after_inst p o)) acts after_it)

-- ---- arguments

pub unrolled : {A : Type 0} (xs : List A) (i : ℕ) (x : A) → i < length xs → x ≡ get_or xs i x → drop i xs ≡ x ∷ drop (i + 1) xs
unrolled xs i x below is = rw (drop_more xs i x below, ← is) refl

pub argument_goes : (f : Function) (tape : List ℕ) (first : State) (steps new : List Step) (k jumps : ℕ) (m : Machine) (parameter : Parameter) (v : Value) (vs : List Value) (step : Step)
    → slice_get f.parameters k ≡ Some parameter → (parameter.no_undef && is_poison (argument_value parameter v)) ≡ false
    → Leads f tape first steps (At (Call (v ∷ vs)) (position 0 k jumps m)) → ShowsAt (Gets parameter v vs) 0 k tape m step → new ≡ steps ++ step ∷ []
    → Leads f tape first new (At (Call vs) (position 0 (k + 1) jumps m))
argument_goes f tape first steps new k jumps m parameter v vs step is sound leads shows e =
    let p = position 0 k jumps m in
    let there : item_at f (Call (v ∷ vs)) p ≡ Gets parameter v vs = rw is refl in
    let after_it = leads_shown f tape first steps (Call (v ∷ vs)) p (Gets parameter v vs) step there leads (shows f jumps) in
    rw e (rw sound at after_it)

pub argument_stops : (f : Function) (tape : List ℕ) (first : State) (steps new : List Step) (k jumps : ℕ) (m : Machine) (parameter : Parameter) (v : Value) (vs : List Value) (step : Step)
    → slice_get f.parameters k ≡ Some parameter → (parameter.no_undef && is_poison (argument_value parameter v)) ≡ true
    → Leads f tape first steps (At (Call (v ∷ vs)) (position 0 k jumps m)) → ShowsAt (Gets parameter v vs) 0 k tape m step → new ≡ steps ++ step ∷ []
    → Leads f tape first new (Done (ended Ub m))
argument_stops f tape first steps new k jumps m parameter v vs step is broken leads shows e =
    let p = position 0 k jumps m in
    let there : item_at f (Call (v ∷ vs)) p ≡ Gets parameter v vs = rw is refl in
    let after_it = leads_shown f tape first steps (Call (v ∷ vs)) p (Gets parameter v vs) step there leads (shows f jumps) in
    rw e (rw broken at after_it)

-- there are no more arguments, or no more parameters
pub arguments_end : (f : Function) (tape : List ℕ) (first : State) (steps : List Step) (args : List Value) (k jumps : ℕ) (m : Machine)
    → item_at f (Call args) (position 0 k jumps m) ≡ Begins
    → Leads f tape first steps (At (Call args) (position 0 k jumps m))
    → Leads f tape first steps (At Phis (position 0 0 jumps m))
arguments_end f tape first steps args k jumps m is leads = leads_silent f tape first steps (Call args) (position 0 k jumps m) Begins is refl leads

pub begins_empty : (f : Function) (args : List Value) (k jumps : ℕ) (m : Machine) → args ≡ [] → item_at f (Call args) (position 0 k jumps m) ≡ Begins
begins_empty f args k jumps m none = rw none refl

pub begins_past : (f : Function) (args : List Value) (k jumps : ℕ) (m : Machine) → slice_get f.parameters k ≡ None → item_at f (Call args) (position 0 k jumps m) ≡ Begins
begins_past f [] k jumps m none = refl
begins_past f (v ∷ vs) k jumps m none = ap (λ (o : Option Parameter). parameter_item o v vs) none

-- the call is the first state
pub call_leads : (f : Function) (bounds : Bounds) (input : Input) (tape : List ℕ) (steps : List Step) (args : List Value) (m : Machine)
    → steps ≡ [] → m ≡ first_machine f input → args ≡ input.args
    → Leads f tape (first_state f bounds input) steps (At (Call args) (position 0 0 bounds.turns m))
call_leads f bounds input tape steps args m none is same = rw (none, is, same) stays
