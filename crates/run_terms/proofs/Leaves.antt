-- A block is left.
use Rattle.run_terms.proofs.Common.{ℕ, zero, suc, ◌≡◌, ◌<◌, ◌+◌, ◌%◌, ◌^◌, Bool, true, false, cond, not, ◌&&◌, nat_eq, if◌then◌else◌, List, [], ◌∷◌, length, map, get_or, Option, Some, None, inl, inr, refl, ap, sym, subst, ◌∙◌, arith, add-one, slice_get, slice_index_or, option_map_or, find, cases_Bool, Case, Function, Num, Poison, Ub, branch_on, switch_on, Edge, BlockCopy, edge_of, left_by, truth, SymNumber, number_at, value_from, bit-later, keeps_trans, term-later, Value, Machine, ended, Where, Done, along, TermId, Term, Keeps, IsTerm, Tests, bit_at, term_at, as_integer, Bor, Test, Frontier, Leaving, Setting, MatchesState, Scene, Visit, AreByLabel, Everywhere, IsLeaving, Leaves, Simulates, branched, placed, switched_on}
use Rattle.ir_tree.specs.Sites.{same_number}
use Rattle.byte_block.specs.declared.value.Value.TheVariants as value
use Rattle.unroll.specs.declared.layered.Edge.TheVariants.{Nowhere}
use Rattle.run_terms.proofs.Lasting.{state-later}
use Rattle.run_terms.proofs.Moving.{simulates_to, simulates_when, simulates_later, simulates_choice, edge_of_label}
use Rattle.run_terms.proofs.Reading.{branched_integer, switched_integer}

-- ---- by a bit

choice_along : (f : Function) (copies : List BlockCopy) (ahead : ℕ) (b : Bool) (if_true if_false : Edge) (m : Machine)
    → cond b (placed f copies ahead (along if_true m)) (placed f copies ahead (along if_false m)) ≡ placed f copies ahead (along (if b then if_true else if_false) m)
choice_along f copies ahead true if_true if_false m = refl
choice_along f copies ahead false if_true if_false m = refl

-- by one edge or the other
pub bit_leaves : {setting : Setting} {l : Leaving} {on off : TermId} {taken not_taken : Bor (List Test)} {old a b new : List Term} {before between after : Frontier} (bit : TermId) (if_true if_false : Edge) → Keeps old a → Keeps a b → IsLeaving setting old before l
    → Tests a on (λ v. bit_at v old l.c && bit_at v old bit) → Tests a off (λ v. bit_at v old l.c && not (bit_at v old bit))
    → Leaves Everywhere setting (record l { c = on; path = taken }) a b before between (λ g m. along if_true m) → Leaves Everywhere setting (record l { c = off; path = not_taken }) b new between after (λ g m. along if_false m)
    → Leaves Everywhere setting l old new before after (λ g m. along (if bit_at g.v old bit then if_true else if_false) m)
bit_leaves {setting = setting} {l = l} {off = off} {old = old} {a = a} {b = b} bit if_true if_false ka kb h t_on t_off h1 h2 = record {
  frontier = h2.frontier;
  shape = h2.shape;
  simulates = λ g turn here.
      let first = simulates_later (simulates_when (h1.simulates g turn tt) (sym (t_on.says g.v))) ka h.frontier h.state in
      let second = simulates_when (h2.simulates g turn tt) (sym (bit-later a b kb g.v off t_off.within ∙ t_off.says g.v)) in
      simulates_to (simulates_choice (bit_at g.v old l.c) (bit_at g.v old bit) (keeps_trans old a b ka kb) h.state first second)
      (λ m matches. choice_along setting.f.now setting.copies.now l.ahead (bit_at g.v old bit) if_true if_false m);
}

-- ---- by a value that may be poison

-- where it is the run ends, and otherwise it goes on
pub poison_leaves : {on on' : Scene → Type 0} {setting : Setting} {l : Leaving} {c : TermId} {old a b new : List Term} {before between after : Frontier} {to to' : Scene → Machine → Where} (poison : TermId) → Keeps old a → Keeps a b → IsLeaving setting old before l
    → ((v : ℕ → ℕ → ℕ) → bit_at v b c ≡ (bit_at v a l.c && not (bit_at v a poison)))
    → ((g : Scene) (at : Visit) → Simulates g a b before between (bit_at g.v a l.c && bit_at g.v a poison) at l.state.now (λ m. Done (ended Ub m)))
    → Leaves on setting (record l { c = c }) b new between after to → ((g : Scene) → on' g → on g)
    → ((g : Scene) (at : Visit) (m : Machine) → MatchesState g old at l.state.now m → cond (bit_at g.v a poison) (Done (ended Ub m)) (placed setting.f.now setting.copies.now l.ahead (to g m)) ≡ placed setting.f.now setting.copies.now l.ahead (to' g m))
    → Leaves on' setting l old new before after to'
poison_leaves {l = l} {old = old} {a = a} poison ka kb h rest ends goes here same = record {
  frontier = goes.frontier;
  shape = goes.shape;
  simulates = λ g turn there.
      let at : Visit = record { label = l.label; turn = turn } in
      let second = simulates_when (goes.simulates g turn (here g there)) (sym (rest g.v)) in
      let both = simulates_choice (bit_at g.v a l.c) (bit_at g.v a poison) kb (state-later old a ka l.state.now h.state) (ends g at) second in
      simulates_to (simulates_when (simulates_later both ka h.frontier h.state) (sym (bit-later old a ka g.v l.c h.c.within))) (same g at);
}

-- ---- branches

pub lowest_is : (x : ℕ) → truth (x % 2 ^ 1) ≡ nat_eq (x % 2) 1
lowest_is x = by (x % 2) (omega arith)
  where
    by : (n : ℕ) → n < 2 → truth n ≡ nat_eq n 1
    by zero lt = refl
    by (suc zero) lt = refl
    by (suc (suc n)) lt = absurd (omega arith)

branch_at : (f : Function) (copies : List BlockCopy) (ahead : ℕ) (p t : Bool) (n : ℕ) (x : Value) (e1 e2 : Edge) (m : Machine) → value_from p n ≡ as_integer x → t ≡ nat_eq (n % 2) 1
    → cond p (Done (ended Ub m)) (placed f copies ahead (along (if t then e1 else e2) m)) ≡ placed f copies ahead (branched (as_integer x) e1 e2 m)
branch_at f copies ahead true t n x e1 e2 m is e = subst (λ (y : Value). Done (ended Ub m) ≡ placed f copies ahead (branched y e1 e2 m)) is refl
branch_at f copies ahead false t n x e1 e2 m is e = rw e (subst (λ (y : Value). placed f copies ahead (along (if nat_eq (n % 2) 1 then e1 else e2) m) ≡ placed f copies ahead (branched y e1 e2 m)) is refl)

pub branch_is : (v : ℕ → ℕ → ℕ) (terms : List Term) (s : SymNumber) (f : Function) (copies : List BlockCopy) (ahead : ℕ) (p t : Bool) (x : Value) (e1 e2 : Edge) (m : Machine)
    → number_at v terms s ≡ as_integer x → p ≡ bit_at v terms s.poison → t ≡ nat_eq (term_at v terms s.number % 2) 1
    → cond p (Done (ended Ub m)) (placed f copies ahead (along (if t then e1 else e2) m)) ≡ placed f copies ahead (branched x e1 e2 m)
unfolding number_at
branch_is v terms s f copies ahead p t x e1 e2 m is ep et =
    rw ep (branch_at f copies ahead (bit_at v terms s.poison) t (term_at v terms s.number) x e1 e2 m is et) ∙ ap (placed f copies ahead) (branched_integer x e1 e2 m)

-- ---- switches

switch_at : (f : Function) (copies : List BlockCopy) (ahead width : ℕ) (p : Bool) (number n : ℕ) (x : Value) (edge : Case → Edge) (default : Edge) (cases : List Case) (m : Machine) → value_from p n ≡ as_integer x → number ≡ n % 2 ^ width
    → cond p (Done (ended Ub m)) (placed f copies ahead (along (option_map_or edge (find (λ (c : Case). nat_eq (c.value % 2 ^ width) number) cases) default) m)) ≡ placed f copies ahead (switched_on width (as_integer x) edge default cases m)
switch_at f copies ahead width true number n x edge default cases m is e = subst (λ (y : Value). Done (ended Ub m) ≡ placed f copies ahead (switched_on width y edge default cases m)) is refl
switch_at f copies ahead width false number n x edge default cases m is e =
    rw e (subst (λ (y : Value). placed f copies ahead (along (option_map_or edge (find (λ (c : Case). nat_eq (c.value % 2 ^ width) (n % 2 ^ width)) cases) default) m) ≡ placed f copies ahead (switched_on width y edge default cases m)) is refl)

pub switch_is : (v : ℕ → ℕ → ℕ) (terms : List Term) (s : SymNumber) (f : Function) (copies : List BlockCopy) (ahead width : ℕ) (p : Bool) (number : ℕ) (x : Value) (edge : Case → Edge) (default : Edge) (cases : List Case) (m : Machine)
    → number_at v terms s ≡ as_integer x → p ≡ bit_at v terms s.poison → number ≡ term_at v terms s.number % 2 ^ width
    → cond p (Done (ended Ub m)) (placed f copies ahead (along (option_map_or edge (find (λ (c : Case). nat_eq (c.value % 2 ^ width) number) cases) default) m)) ≡ placed f copies ahead (switched_on width x edge default cases m)
unfolding number_at
switch_is v terms s f copies ahead width p number x edge default cases m is ep en =
    rw ep (switch_at f copies ahead width (bit_at v terms s.poison) number (term_at v terms s.number) x edge default cases m is en) ∙ ap (placed f copies ahead) (switched_integer width x edge default cases m)

pub case_edge : (edges : List Edge) (default : Edge) (edge : Case → Edge) (cases : List Case) (i : ℕ) (case : Case) → edges ≡ default ∷ map edge cases → i < length cases → case ≡ get_or cases i case → slice_index_or edges (i + 1) Nowhere ≡ edge case
case_edge edges default edge cases i case is lt at = rw (is, add-one) (item cases i lt at)
  where
    item : (cs : List Case) (j : ℕ) → j < length cs → case ≡ get_or cs j case → slice_index_or (map edge cs) j Nowhere ≡ edge case
    item [] j h e = absurd (omega arith)
    item (c ∷ cs) zero h e = ap edge (sym e)
    item (c ∷ cs) (suc j) h e = item cs j (omega arith) e

pub default_edge : (edges : List Edge) (default : Edge) (rest : List Edge) → edges ≡ default ∷ rest → slice_index_or edges 0 Nowhere ≡ default
default_edge edges default rest is = rw is refl

pub hit_is : (v : ℕ → ℕ → ℕ) (old l : List Term) (k : Keeps old l) (number : TermId) (n value : ℕ) → IsTerm old n number → nat_eq (value % 2 ^ n) (term_at v l number) ≡ nat_eq (value % 2 ^ n) (term_at v old number)
hit_is v old l k number n value h = ap (λ x. nat_eq (value % 2 ^ n) x) (term-later old l k v number h.within)

-- ---- edges by their labels

label_place : (edge : ℕ → Edge) (labels : List ℕ) (i label : ℕ) → slice_get labels i ≡ Some label → slice_index_or (map edge labels) i Nowhere ≡ edge label
label_place edge [] i label is = absurd (let c : ⊥ = cc in c)
label_place edge (l ∷ ls) zero label is = (let e : l ≡ label = cc in ap edge e)
label_place edge (l ∷ ls) (suc i) label is = label_place edge ls i label is

-- the edge of a label is the one at its index
pub label_edge : (labels : List ℕ) (edges : List Edge) → AreByLabel labels edges → (i label : ℕ) → slice_get labels i ≡ Some label → slice_index_or edges i Nowhere ≡ edge_of label labels edges
label_edge labels edges h i label is = rw h.1 (label_place h.0 labels i label is ∙ sym (edge_of_label h.0 labels i label is))

pub branch_left : (x : Value) (if_true if_false : ℕ) (edges : List Edge) (m : Machine) → AreByLabel (if_true ∷ if_false ∷ []) edges
    → branched x (slice_index_or edges 0 Nowhere) (slice_index_or edges 1 Nowhere) m ≡ left_by (if_true ∷ if_false ∷ []) edges (branch_on x if_true if_false m)
branch_left (Num n) if_true if_false edges m h = by (nat_eq (n % 2) 1)
  where
    by : (b : Bool) → along (if b then slice_index_or edges 0 Nowhere else slice_index_or edges 1 Nowhere) m ≡ along (edge_of (if b then if_true else if_false) (if_true ∷ if_false ∷ []) edges) m
    by true = ap (λ (e : Edge). along e m) (label_edge (if_true ∷ if_false ∷ []) edges h 0 if_true refl)
    by false = ap (λ (e : Edge). along e m) (label_edge (if_true ∷ if_false ∷ []) edges h 1 if_false refl)
branch_left Poison if_true if_false edges m h = refl
branch_left (value.Ptr p) if_true if_false edges m h = refl

-- the label that a switch goes on to is the default's or a case's
later_place : (c : Case) (cs : List Case) (default label i : ℕ) → slice_get (default ∷ map (λ (x : Case). x.to) cs) i ≡ Some label → (j : ℕ) × (slice_get (default ∷ map (λ (x : Case). x.to) (c ∷ cs)) j ≡ Some label)
later_place c cs default label zero is = (0, is)
later_place c cs default label (suc i) is = (suc (suc i), is)

label_found : (hit : Case → Bool) (default : ℕ) (cases : List Case) → (i : ℕ) × (slice_get (default ∷ map (λ (c : Case). c.to) cases) i ≡ Some (option_map_or (λ (c : Case). c.to) (find hit cases) default))
label_found hit default [] = (0, refl)
label_found hit default (c ∷ cs) = elim (cases_Bool (hit c)) [
  | inl t ↦ (1, rw t refl)
  | inr f ↦
      let rest = label_found hit default cs in
      rw f (later_place c cs default (option_map_or (λ (x : Case). x.to) (find hit cs) default) rest.0 rest.1)
]

-- the edges of the cases
edges_of_cases : (edge : ℕ → Edge) (cases : List Case) → map edge (map (λ (c : Case). c.to) cases) ≡ map (λ (c : Case). edge c.to) cases
edges_of_cases edge [] = refl
edges_of_cases edge (c ∷ cs) = ap (λ (es : List Edge). edge c.to ∷ es) (edges_of_cases edge cs)

pub switch_edges : (default : ℕ) (cases : List Case) (edges : List Edge) → (h : AreByLabel (default ∷ map (λ (c : Case). c.to) cases) edges) → edges ≡ h.0 default ∷ map (λ (c : Case). h.0 c.to) cases
switch_edges default cases edges h = h.1 ∙ ap (λ (es : List Edge). h.0 default ∷ es) (edges_of_cases h.0 cases)

edge_found : (edge : ℕ → Edge) (default : ℕ) (o : Option Case) → option_map_or (λ (c : Case). edge c.to) o (edge default) ≡ edge (option_map_or (λ (c : Case). c.to) o default)
edge_found edge default None = refl
edge_found edge default (Some c) = refl

pub switch_left : (width : ℕ) (x : Value) (default : ℕ) (cases : List Case) (edges : List Edge) (m : Machine) → (h : AreByLabel (default ∷ map (λ (c : Case). c.to) cases) edges)
    → switched_on width x (λ (c : Case). h.0 c.to) (h.0 default) cases m ≡ left_by (default ∷ map (λ (c : Case). c.to) cases) edges (switch_on width x default cases m)
switch_left width (Num n) default cases edges m h =
    let hit : Case → Bool = λ (c : Case). same_number width c.value n in
    let at = label_found hit default cases in
    ap (λ (e : Edge). along e m) (edge_found h.0 default (find hit cases) ∙ (sym (edge_of_label h.0 (default ∷ map (λ (c : Case). c.to) cases) at.0 (option_map_or (λ (c : Case). c.to) (find hit cases) default) at.1)
    ∙ ap (λ (es : List Edge). edge_of (option_map_or (λ (c : Case). c.to) (find hit cases) default) (default ∷ map (λ (c : Case). c.to) cases) es) (sym h.1)))
switch_left width Poison default cases edges m h = refl
switch_left width (value.Ptr p) default cases edges m h = refl
