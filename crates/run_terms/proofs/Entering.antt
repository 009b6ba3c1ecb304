-- The phis of a block, one after another.
use Rattle.run_terms.proofs.Common.{ℕ, ◌≡◌, ◌<◌, ◌≤◌, ◌+◌, List, ◌∷◌, length, drop, get_or, slice_set, refl, ap, sym, subst, ◌∙◌, drop_more, drop_all, Phi, Block, phi_value, with_phis, entered, map-set, values-later, naming, Value, Machine, Term, Keeps, SymValue, AreSymValues, IsNaming, Reading, value_at, values_at, RunState, Counts, IsState, MatchesState, Scene, Visit, sight}
use Rattle.run_terms.proofs.Lasting.{counts-later, blocks_at-later}

pub phis_more : (old a b : List Term) (registers behind : List SymValue) (label : ℕ) (phis : List Phi) (i : ℕ) (phi : Phi) (value : SymValue) → AreSymValues old registers → Keeps old a → AreSymValues a behind
    → i < length phis → phi ≡ get_or phis i phi → Keeps a b
    → ((r : Reading) (m : Machine) → IsNaming r.name → values_at r a registers ≡ m.registers → m.block ≡ label → value_at r b value ≡ phi_value m phi)
    → ((r : Reading) (m : Machine) → IsNaming r.name → values_at r old registers ≡ m.registers → m.block ≡ label → with_phis m (drop i phis) (record m { registers = values_at r a behind }) ≡ with_phis m phis m)
    → (r : Reading) (m : Machine) → IsNaming r.name → values_at r old registers ≡ m.registers → m.block ≡ label → with_phis m (drop (i + 1) phis) (record m { registers = values_at r b (slice_set behind phi.into value) }) ≡ with_phis m phis m
phis_more old a b registers behind label phis i phi value hr ka hb lt is kb one so r m naming e at =
    let item : value_at r b value ≡ phi_value m phi = one r m naming (values-later old a ka r registers hr ∙ e) at in
    let set : values_at r b (slice_set behind phi.into value) ≡ slice_set (values_at r a behind) phi.into (phi_value m phi) =
    map-set (value_at r b) behind phi.into value ∙ rw (item, values-later a b kb r behind hb) refl in
    let more : drop i phis ≡ phi ∷ drop (i + 1) phis = drop_more phis i phi lt ∙ ap (λ (p : Phi). p ∷ drop (i + 1) phis) (sym is) in
    ap (λ (rs : List Value). with_phis m (drop (i + 1) phis) (record m { registers = rs })) set
    ∙ (ap (λ (ps : List Phi). with_phis m ps (record m { registers = values_at r a behind })) (sym more) ∙ so r m naming e at)

pub phis_end : (new : List Term) (behind : List SymValue) (phis : List Phi) (i : ℕ) (r : Reading) (m : Machine) → length phis ≤ i
    → with_phis m (drop i phis) (record m { registers = values_at r new behind }) ≡ with_phis m phis m → record m { registers = values_at r new behind } ≡ with_phis m phis m
phis_end new behind phis i r m past so =
    ap (λ (ps : List Phi). with_phis m ps (record m { registers = values_at r new behind })) (sym (drop_all i phis past)) ∙ so

-- the state on an edge, after the phis of the block that it leads to
pub edge_matches : (old new : List Term) (s t : RunState) (label : ℕ) (block : Block) → IsState old s → Keeps old new → t.memory ≡ s.memory → t.tally ≡ s.tally → t.words_bound ≡ s.words_bound
    → ((r : Reading) (m : Machine) → IsNaming r.name → values_at r old s.registers ≡ m.registers → m.block ≡ label → record m { registers = values_at r new t.registers } ≡ with_phis m block.phis m)
    → (g : Scene) (m : Machine) (from to : ℕ) → MatchesState g old (record { label = label; turn = from }) s m → MatchesState g new (record { label = block.label; turn = to }) t (entered block (record m { turn = to }))
edge_matches old new s t label block hs k memory tally words_bound so g m from to h =
    let n : Machine = record m { turn = to } in
    let e : record n { registers = values_at (sight g) new t.registers } ≡ with_phis n block.phis n = so (sight g) n (naming g.given) h.registers (ap (λ (v : Visit). v.label) h.visit) in
    let same : m.taken ≡ (with_phis n block.phis n).taken = ap (λ (x : Machine). x.taken) e in
    record {
      registers = ap (λ (x : Machine). x.registers) e;
      given = rw memory h.given;
      memory = rw memory (blocks_at-later old new k (sight g) s.memory hs.memory ∙ (h.memory ∙ ap (λ (x : Machine). x.memory) e));
      tally = rw tally (subst (λ (ts : List ℕ). Counts g new s.tally ts) same (counts-later old new k g s.tally m.taken hs.tally h.tally));
      words_bound = rw words_bound (subst (λ (ts : List ℕ). length ts ≤ s.words_bound) same h.words_bound);
      visit = ap (λ (turn : ℕ). record { label = block.label; turn = turn }) (sym (ap (λ (x : Machine). x.turn) e));
    }
