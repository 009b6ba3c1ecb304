-- A run goes on from where it is.
use Rattle.run_terms.proofs.Common.{ℕ, zero, suc, ◌≡◌, ◌<◌, ◌≤◌, ◌+◌, Bool, true, false, cond, not, ◌&&◌, nat_eq, nat_le, List, [], ◌∷◌, ◌++◌, length, map, take, get_or, Option, Some, None, inl, inr, refl, ap, sym, subst, ◌∙◌, slice_get, option_map_or, find, cases_Bool, le-leb, eqb-true, eqb-false, take_all, Case, Block, Function, Outcome, Ub, entered, Edge, BlockCopy, edge_of, take-push, keeps_self, keeps_trans, bit-later, Machine, Run, ended, Where, At, Done, TermId, Term, Keeps, IsTerm, bit_at, Tally, RunState, Ending, Frontier, Leaving, Setting, Counts, IsState, MatchesState, Scene, Visit, visit_of, EndedSo, Ends, Everywhere, HasShape, IsFrontier, IsLeaving, Leaves, MatchesAhead, MatchesFrontier, Simulates, placed}
use Rattle.run_terms.proofs.Lasting.{states-later, matches_state-later, matches_there, matches_frontier-later, matches_ahead-later, matches_ending-later}

-- ---- one after another

-- where it goes may be said otherwise
pub simulates_to : {g : Scene} {old new : List Term} {before after : Frontier} {holds : Bool} {visit : Visit} {s : RunState} {to to' : Machine → Where}
    → Simulates g old new before after holds visit s to → ((m : Machine) → MatchesState g old visit s m → to m ≡ to' m) → Simulates g old new before after holds visit s to'
simulates_to {g = g} {new = new} {after = after} h same = record {
  stays = h.stays;
  goes = λ m held at none. subst (λ (w : Where). MatchesFrontier g new after (Some w)) (same m at) (h.goes m held at none);
}

-- and when
pub simulates_when : {g : Scene} {old new : List Term} {before after : Frontier} {holds holds' : Bool} {visit : Visit} {s : RunState} {to : Machine → Where}
    → Simulates g old new before after holds visit s to → holds' ≡ holds → Simulates g old new before after holds' visit s to
simulates_when h same = record { stays = λ at none. h.stays at (sym same ∙ none); goes = λ m held. h.goes m (sym same ∙ held) }

-- terms may be made before
pub simulates_later : {g : Scene} {old mid new : List Term} {before after : Frontier} {holds : Bool} {visit : Visit} {s : RunState} {to : Machine → Where}
    → Simulates g mid new before after holds visit s to → Keeps old mid → IsFrontier old before → IsState old s → Simulates g old new before after holds visit s to
simulates_later {g = g} {old = old} {mid = mid} {before = before} {visit = visit} {s = s} h k hb hs = record {
  stays = λ at none there. h.stays at none (matches_frontier-later old mid k g before at hb there);
  goes = λ m held at none. h.goes m held (matches_state-later old mid k g visit s m hs at) (matches_frontier-later old mid k g before None hb none);
}

-- one way or the other, by a test
pub simulates_choice : {g : Scene} {old mid new : List Term} {before between after : Frontier} {visit : Visit} {s : RunState} {to1 to2 : Machine → Where} (holds test : Bool) → Keeps old mid → IsState old s
    → Simulates g old mid before between (holds && test) visit s to1 → Simulates g mid new between after (holds && not test) visit s to2
    → Simulates g old new before after holds visit s (λ (m : Machine). cond test (to1 m) (to2 m))
simulates_choice false test k hs h1 h2 = record {
  stays = λ at none there. h2.stays at refl (h1.stays at refl there);
  goes = λ m held. absurd (let c : ⊥ = cc in c);
}
simulates_choice {to1 = to1} true true k hs h1 h2 = record {
  stays = λ at none. absurd (let c : ⊥ = cc in c);
  goes = λ m held at none. h2.stays (Some (to1 m)) refl (h1.goes m refl at none);
}
simulates_choice {g = g} {old = old} {mid = mid} {visit = visit} {s = s} true false k hs h1 h2 = record {
  stays = λ at none. absurd (let c : ⊥ = cc in c);
  goes = λ m held at none. h2.goes m refl (matches_state-later old mid k g visit s m hs at) (h1.stays None refl none);
}

-- where it goes may be said otherwise, in fewer scenes
pub leaves_to : {on on' : Scene → Type 0} {setting : Setting} {l : Leaving} {old new : List Term} {before after : Frontier} {to to' : Scene → Machine → Where}
    → Leaves on setting l old new before after to → ((g : Scene) → on' g → on g) → ((g : Scene) (m : Machine) → to g m ≡ to' g m) → Leaves on' setting l old new before after to'
leaves_to {setting = setting} {l = l} h here same = record {
  frontier = h.frontier;
  shape = h.shape;
  simulates = λ g turn there. simulates_to (h.simulates g turn (here g there)) (λ m at. ap (placed setting.f.now setting.copies.now l.ahead) (same g m));
}

-- ---- ends

module _ {old a new : List Term} {before : Frontier} {e : Ending} {c : TermId} {t : Tally} {outcome : Scene → Outcome} (ka : Keeps old a) (kn : Keeps a new) (hb : IsFrontier old before) (hc : IsTerm old 1 c) (ends : Ends a new before.ending e c t outcome) where
  pub ended_frontier : IsFrontier new (record before { ending = e })
  ended_frontier = record { ahead = states-later old new (keeps_trans old a new ka kn) before.ahead hb.ahead; ending = ends.made }

  pub ended_shape : {setting : Setting} → HasShape setting before → HasShape setting (record before { ending = e })
  ended_shape h = record { ahead = h.ahead; count = h.count; ending = ends.shape ∙ h.ending }

  pub ends_simulates : {g : Scene} {visit : Visit} {s : RunState} {run : Machine → Run}
      → ((m : Machine) → bit_at g.v old c ≡ true → MatchesState g old visit s m → Counts g a t (run m).taken × (outcome g ≡ (run m).outcome))
      → Simulates g old new before (record before { ending = e }) (bit_at g.v old c) visit s (λ (m : Machine). Done (run m))
  ends_simulates {g = g} {run = run} so =
      let k = keeps_trans old a new ka kn in
      let same = bit-later old a ka g.v c hc.within in
      record {
        stays = λ at none there. record {
          ahead = matches_ahead-later old new k g before.ahead at hb.ahead there.ahead;
          ending = ends.stays g at (same ∙ none) (matches_ending-later old a ka g before.ending at hb.ending there.ending);
        };
        goes = λ m held at none.
            let it = so m held at in
            record {
              ahead = matches_ahead-later old new k g before.ahead None hb.ahead none.ahead;
              ending = subst (λ (o : Outcome). EndedSo g new e (record { outcome = o; taken = (run m).taken })) it.1
                  (ends.goes g (run m).taken (same ∙ held) it.0 (matches_ending-later old a ka g before.ending None hb.ending none.ending));
            };
      }

-- the run ends where it leaves the block
pub ends_leaves : {on : Scene → Type 0} {setting : Setting} {l : Leaving} {old a new : List Term} {before : Frontier} {e : Ending} {t : Tally} {outcome : Scene → Outcome} {run : Scene → Machine → Run}
    → Keeps old a → Keeps a new → IsLeaving setting old before l → Ends a new before.ending e l.c t outcome
    → ((g : Scene) (at : Visit) (m : Machine) → on g → bit_at g.v old l.c ≡ true → MatchesState g old at l.state.now m → Counts g a t (run g m).taken × (outcome g ≡ (run g m).outcome))
    → Leaves on setting l old new before (record before { ending = e }) (λ g m. Done (run g m))
ends_leaves ka kn h ends so = record {
  frontier = ended_frontier ka kn h.frontier h.c ends;
  shape = ended_shape ka kn h.frontier h.c ends h.shape;
  simulates = λ g turn here. ends_simulates ka kn h.frontier h.c ends (λ m held at. so g _ m here held at);
}

-- in this way, with the choices so far
pub ends_here : {setting : Setting} {l : Leaving} {old new : List Term} {before : Frontier} {e : Ending} (o : Outcome) → Keeps old new → IsLeaving setting old before l → Ends old new before.ending e l.c l.state.now.tally (λ g. o)
    → Leaves Everywhere setting l old new before (record before { ending = e }) (λ g m. Done (ended o m))
ends_here {old = old} o k h ends = ends_leaves (keeps_self old) k h ends (λ g at m here held matches. (matches.tally, refl))

-- ---- arrivals

pub simulates_arrive : (old mid new : List Term) (ka : Keeps old mid) (kb : Keeps mid new) (before : Frontier) (hb : IsFrontier old before) (ahead : List (Option RunState)) (c : TermId) (hc : IsTerm old 1 c) (label : ℕ) (s : RunState) (edge : RunState) (n : ℕ) (block : Block)
    → edge.alive ≡ c
    → ((g : Scene) (m : Machine) (from to : ℕ) → MatchesState g old (record { label = label; turn = from }) s m → MatchesState g mid (record { label = block.label; turn = to }) edge (entered block (record m { turn = to })))
    → ((g : Scene) (at : Option Where) → bit_at g.v mid edge.alive ≡ false → MatchesAhead g mid before.ahead at → MatchesAhead g new ahead at)
    → ((g : Scene) (m : Machine) → bit_at g.v mid edge.alive ≡ true → MatchesState g mid (visit_of m) edge m → MatchesAhead g mid before.ahead None → MatchesAhead g new ahead (Some (At n m)))
    → (g : Scene) (from to : ℕ) → Simulates g old new before (record { ahead = ahead; ending = before.ending }) (bit_at g.v old c) (record { label = label; turn = from }) s (λ (m : Machine). At n (entered block (record m { turn = to })))
simulates_arrive old mid new ka kb before hb ahead c hc label s edge n block is carries st go g from to =
    let k = keeps_trans old mid new ka kb in
    let bit : bit_at g.v mid edge.alive ≡ bit_at g.v old c = ap (bit_at g.v mid) is ∙ bit-later old mid ka g.v c hc.within in
    record {
      stays = λ at none sh. record {
        ahead = st g at (bit ∙ none) (matches_ahead-later old mid ka g before.ahead at hb.ahead sh.ahead);
        ending = matches_ending-later old new k g before.ending at hb.ending sh.ending;
      };
      goes = λ m held h sh. record {
        ahead = go g (entered block (record m { turn = to })) (bit ∙ held) (matches_there g mid (record { label = block.label; turn = to }) edge (entered block (record m { turn = to })) (carries g m from to h)) (matches_ahead-later old mid ka g before.ahead None hb.ahead sh.ahead);
        ending = matches_ending-later old new k g before.ending None hb.ending sh.ending;
      };
    }

-- ---- edges by their labels

label_later : (edge : ℕ → Edge) (l : ℕ) (ls : List ℕ) (i label : ℕ) → slice_get (l ∷ ls) i ≡ Some label → (label ≡ l → ⊥) → ((k : ℕ) → slice_get ls k ≡ Some label → edge_of label ls (map edge ls) ≡ edge label) → edge_of label ls (map edge ls) ≡ edge label
label_later edge l ls zero label e apart next = absurd (apart (let x : label ≡ l = cc in x))
label_later edge l ls (suc k) label e apart next = next k e

pub edge_of_label : (edge : ℕ → Edge) (labels : List ℕ) (i label : ℕ) → slice_get labels i ≡ Some label → edge_of label labels (map edge labels) ≡ edge label
edge_of_label edge [] i label is = absurd (let c : ⊥ = cc in c)
edge_of_label edge (l ∷ ls) i label is = elim (cases_Bool (nat_eq label l)) [
  | inl t ↦ rw t (ap edge (sym (eqb-true label l t)))
  | inr f ↦ rw f (label_later edge l ls i label is (eqb-false label l f) (λ k e. edge_of_label edge ls k label e))
]

-- ---- cases of a switch

find_push : {A : Type 0} (hit : Case → Bool) (f : Case → A) (rest : A) (cs : List Case) (c : Case) → option_map_or f (find hit cs) (cond (hit c) (f c) rest) ≡ option_map_or f (find hit (cs ++ c ∷ [])) rest
find_push hit f rest [] c = elim (cases_Bool (hit c)) [
  | inl t ↦ rw t refl
  | inr e ↦ rw e refl
]
find_push hit f rest (d ∷ ds) c = elim (cases_Bool (hit d)) [
  | inl t ↦ rw t refl
  | inr e ↦ rw e (find_push hit f rest ds c)
]

-- a case more
pub cases_step : {g : Scene} {visit : Visit} {s : RunState} {old l b new : List Term} {start w between after : Frontier} {holds left : Bool} (hit : Case → Bool) (go : Case → Machine → Where) (to : Machine → Where) (cases : List Case) (i : ℕ) (case : Case)
    → Keeps l b → IsState l s → i < length cases → case ≡ get_or cases i case
    → Simulates g l b w between (left && hit case) visit s (go case) → Simulates g b new between after (left && not (hit case)) visit s to
    → ((to' : Machine → Where) → Simulates g l new w after left visit s to' → Simulates g old new start after holds visit s (λ (m : Machine). option_map_or (λ (c : Case). go c m) (find hit (take i cases)) (to' m)))
    → Simulates g old new start after holds visit s (λ (m : Machine). option_map_or (λ (c : Case). go c m) (find hit (take (i + 1) cases)) (to m))
cases_step {left = left} hit go to cases i case k hs lt is h1 h2 so =
    simulates_to (so (λ (m : Machine). cond (hit case) (go case m) (to m)) (simulates_choice left (hit case) k hs h1 h2))
    (λ m h. find_push hit (λ (c : Case). go c m) (to m) (take i cases) case ∙ ap (λ (cs : List Case). option_map_or (λ (c : Case). go c m) (find hit cs) (to m)) (sym (take-push cases i case lt is)))

-- no case is left
pub cases_end : {A B : Type 0} (f : A → B) (edge : Case → A) (hit : Case → Bool) (default : A) (cases : List Case) (i : ℕ) → length cases ≤ i
    → option_map_or (λ (c : Case). f (edge c)) (find hit (take i cases)) (f default) ≡ f (option_map_or edge (find hit cases) default)
cases_end f edge hit default cases i past = rw (take_all i cases past) (by (find hit cases))
  where
    by : (o : Option Case) → option_map_or (λ (c : Case). f (edge c)) o (f default) ≡ f (option_map_or edge o default)
    by None = refl
    by (Some c) = refl

-- ---- where an edge leads

pub placed_blockless : (f : Function) (copies : List BlockCopy) (from n : ℕ) (copy : BlockCopy) (m : Machine) → slice_get copies n ≡ Some copy → slice_get f.blocks copy.block ≡ None → placed f copies from (At n m) ≡ Done (ended Ub m)
placed_blockless f copies from n copy m is none = elim (cases_Bool (nat_le from n)) [
  | inl t ↦ rw (t, is, none) refl
  | inr f' ↦ rw f' refl
]

pub placed_at : (f : Function) (copies : List BlockCopy) (from n : ℕ) (copy : BlockCopy) (block : Block) → from ≤ n → slice_get copies n ≡ Some copy → slice_get f.blocks copy.block ≡ Some block
    → (turn : ℕ) × ((m : Machine) → placed f copies from (At n m) ≡ At n (entered block (record m { turn = turn })))
placed_at f copies from n copy block le is found = (copy.turn, λ m. rw (le-leb from n le, is, found) refl)
