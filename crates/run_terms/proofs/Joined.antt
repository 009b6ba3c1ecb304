-- One of two states of a run.
use Rattle.run_terms.proofs.Common.{ℕ, ◌≡◌, ◌<◌, ◌≤◌, ◌+◌, max, Bool, true, false, cond, List, [], ◌∷◌, ◌++◌, length, take, get_or, refl, ap, sym, subst, ◌∙◌, arith, length-append, truth, each-at, each-push, map-at, map-length, map-push, take-push, keeps_trans, bit-later, term-later, sym_values-later, value-later, values-later, Value, Machine, TermId, Term, Keeps, IsTerm, Makes, bit_at, term_at, SymValue, AreSymValues, IsSymValue, Reading, value_at, values_at, memory_at, Tally, RunMemory, RunState, Counts, IsState, IsTally, MatchesState, Scene, StateShape, Test, HoldAll, Visit, shape_of, sight}
use Rattle.run_terms.proofs.Lasting.{counts-later, blocks_at-later, hold-later}
use Rattle.run_terms.proofs.Memories.{same_given}

choice-push : (e : Bool) (xs ys : List Value) (x y : Value) → cond e xs ys ++ cond e x y ∷ [] ≡ cond e (xs ++ x ∷ []) (ys ++ y ∷ [])
choice-push true xs ys x y = refl
choice-push false xs ys x y = refl

pub registers_more : (old a b : List Term) (c : TermId) (xs ys picked new : List SymValue) (i : ℕ) (x y r : SymValue) → IsTerm old 1 c
    → AreSymValues old xs → AreSymValues old ys → length ys ≡ length xs → i < length xs → x ≡ get_or xs i x → y ≡ get_or ys i y
    → Keeps old a → AreSymValues a picked → length picked ≡ i
    → ((s : Reading) → values_at s a picked ≡ cond (bit_at s.v old c) (take i (values_at s old xs)) (take i (values_at s old ys)))
    → Keeps a b → IsSymValue b r → ((s : Reading) → value_at s b r ≡ cond (bit_at s.v a c) (value_at s a x) (value_at s a y)) → new ≡ picked ++ r ∷ []
    → Keeps old b × AreSymValues b new × (length new ≡ i + 1) × (i + 1 ≤ length xs) × ((s : Reading) → values_at s b new ≡ cond (bit_at s.v old c) (take (i + 1) (values_at s old xs)) (take (i + 1) (values_at s old ys)))
registers_more old a b c xs ys picked new i x y r hc hxs hys len lt ix iy ka hp count so kb hr sr is =
    let hx = each-at (IsSymValue old) xs i x hxs lt ix in
    let hy = each-at (IsSymValue old) ys i y hys (omega arith) iy in (
      keeps_trans old a b ka kb,
      subst (AreSymValues b) (sym is) (each-push (IsSymValue b) picked r (sym_values-later a b kb picked hp) hr),
      ap length is ∙ omega (arith, count, length-append picked (r ∷ [])),
      omega (arith, lt),
      λ s.
          let e_r : value_at s b r ≡ cond (bit_at s.v old c) (value_at s old x) (value_at s old y) =
          sr s ∙ rw (bit-later old a ka s.v c hc.within, value-later old a ka s x hx, value-later old a ka s y hy) refl in
          ap (values_at s b) is ∙ (map-push (value_at s b) picked r
          ∙ (ap (λ zs. zs ++ value_at s b r ∷ []) (values-later a b kb s picked hp ∙ so s)
          ∙ (ap (λ z. cond (bit_at s.v old c) (take i (values_at s old xs)) (take i (values_at s old ys)) ++ z ∷ []) e_r
          ∙ (choice-push (bit_at s.v old c) (take i (values_at s old xs)) (take i (values_at s old ys)) (value_at s old x) (value_at s old y)
          ∙ rw (
            take-push (values_at s old xs) i (value_at s old x) (omega (arith, map-length (value_at s old) xs)) (sym (map-at (value_at s old) xs i x (value_at s old x) lt ix)),
            take-push (values_at s old ys) i (value_at s old y) (omega (arith, map-length (value_at s old) ys)) (sym (map-at (value_at s old) ys i y (value_at s old y) (omega arith) iy)),
          ) refl)))),
    )

module _ (old a b : List Term) (c read fits : TermId) (s t : Tally) (m n : ℕ) (hc : IsTerm old 1 c) (hs : IsTally old s) (ht : IsTally old t) (ka : Keeps old a) (kb : Keeps a b)
    (mr : Makes a read m (λ v. cond (bit_at v old c) (term_at v old s.read) (term_at v old t.read))) (mf : Makes b fits n (λ v. cond (bit_at v a c) (term_at v a s.fits) (term_at v a t.fits))) where
  pub tally_goes : (g : Scene) (made : List ℕ) → bit_at g.v old c ≡ true → Counts g old s made → Counts g b (record { read = read; fits = fits }) made
  tally_goes g made held k = record {
    read = term-later a b kb g.v read mr.within ∙ (mr.says g.v ∙ rw held k.read);
    fits = ap truth (mf.says g.v) ∙ rw (bit-later old a ka g.v c hc.within, held) (bit-later old a ka g.v s.fits hs.fits.within ∙ k.fits);
  }

  pub tally_stays : (g : Scene) (made : List ℕ) → bit_at g.v old c ≡ false → Counts g old t made → Counts g b (record { read = read; fits = fits }) made
  tally_stays g made none k = record {
    read = term-later a b kb g.v read mr.within ∙ (mr.says g.v ∙ rw none k.read);
    fits = ap truth (mf.says g.v) ∙ rw (bit-later old a ka g.v c hc.within, none) (bit-later old a ka g.v t.fits ht.fits.within ∙ k.fits);
  }

module _ (old x a b d e : List Term) (edge into : RunState) (alive c : TermId) (path : List Test) (tally : Tally) (registers : List SymValue) (memory : RunMemory) (words_bound : ℕ) (he : IsState old edge) (hi : IsState old into) (shape : shape_of into ≡ shape_of edge)
    (kx : Keeps old x) (ky : Keeps x a) (kb : Keeps a b) (kd : Keeps b d) (ke : Keeps d e) (greatest : words_bound ≡ max edge.words_bound into.words_bound) (hc : IsTerm a 1 c) (ht : IsTally b tally) (hr : AreSymValues d registers) (given : memory.given ≡ edge.memory.given)
    (sd : (s : Reading) → values_at s d registers ≡ cond (bit_at s.v b c) (values_at s b edge.registers) (values_at s b into.registers))
    (se : (r : Reading) → memory_at r e memory.blocks ≡ cond (bit_at r.v d c) (memory_at r d edge.memory.blocks) (memory_at r d into.memory.blocks)) where
  abbrev joined : RunState
  joined = record { alive = alive; path = path; registers = registers; memory = memory; tally = tally; words_bound = words_bound }

  ka : Keeps old a
  ka = keeps_trans old x a kx ky

  kab : Keeps old b
  kab = keeps_trans old a b ka kb

  kad : Keeps old d
  kad = keeps_trans old b d kab kd

  kbe : Keeps b e
  kbe = keeps_trans b d e kd ke

  on_b : (v : ℕ → ℕ → ℕ) (t : Bool) → bit_at v a c ≡ t → bit_at v b c ≡ t
  on_b v t is = bit-later a b kb v c hc.within ∙ is

  on_d : (v : ℕ → ℕ → ℕ) (t : Bool) → bit_at v a c ≡ t → bit_at v d c ≡ t
  on_d v t is = bit-later a d (keeps_trans a b d kb kd) v c hc.within ∙ is

  pub join_goes : ((g : Scene) (made : List ℕ) → bit_at g.v a c ≡ true → Counts g a edge.tally made → Counts g b tally made) → ((v : ℕ → ℕ → ℕ) → bit_at v x edge.alive ≡ true → bit_at v a c ≡ true)
      → (g : Scene) (at : Visit) (m : Machine) → bit_at g.v old edge.alive ≡ true → MatchesState g old at edge m → MatchesState g e at joined m
  join_goes st chosen g at m held h =
      let on : bit_at g.v a c ≡ true = chosen g.v (bit-later old x kx g.v edge.alive he.alive.within ∙ held) in
      record {
        registers = values-later d e ke (sight g) registers hr ∙ (sd (sight g) ∙ rw (on_b g.v true on) (values-later old b kab (sight g) edge.registers he.registers ∙ h.registers));
        given = given ∙ h.given;
        memory = se (sight g) ∙ rw (on_d g.v true on) (blocks_at-later old d kad (sight g) edge.memory he.memory ∙ h.memory);
        tally = counts-later b e kbe g tally m.taken ht (st g m.taken on (counts-later old a ka g edge.tally m.taken he.tally h.tally));
        words_bound = rw greatest (omega (arith, h.words_bound));
        visit = h.visit;
      }

  pub join_stays : ((g : Scene) (made : List ℕ) → bit_at g.v a c ≡ false → Counts g a into.tally made → Counts g b tally made) → ((v : ℕ → ℕ → ℕ) → bit_at v x edge.alive ≡ false → HoldAll v x into.path → bit_at v a c ≡ false)
      → (g : Scene) (at : Visit) (m : Machine) → bit_at g.v old edge.alive ≡ false → bit_at g.v old into.alive ≡ true → MatchesState g old at into m → MatchesState g e at joined m
  join_stays st chosen g at m none there h =
      let off : bit_at g.v a c ≡ false = chosen g.v (bit-later old x kx g.v edge.alive he.alive.within ∙ none) (hold-later old x kx g.v into.path hi.path.tests (hi.path.hold g.v there)) in
      record {
        registers = values-later d e ke (sight g) registers hr ∙ (sd (sight g) ∙ rw (on_b g.v false off) (values-later old b kab (sight g) into.registers hi.registers ∙ h.registers));
        given = given ∙ (sym (same_given old edge.memory into.memory he.memory hi.memory (ap (λ (x : StateShape). x.frames) shape)) ∙ h.given);
        memory = se (sight g) ∙ rw (on_d g.v false off) (blocks_at-later old d kad (sight g) into.memory hi.memory ∙ h.memory);
        tally = counts-later b e kbe g tally m.taken ht (st g m.taken off (counts-later old a ka g into.tally m.taken hi.tally h.tally));
        words_bound = rw greatest (omega (arith, h.words_bound));
        visit = h.visit;
      }
