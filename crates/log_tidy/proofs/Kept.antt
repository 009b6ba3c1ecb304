-- The marked steps, by their new numbers, are a log of their own.
use Rattle.log_tidy.proofs.Common.{ℕ, zero, suc, ◌≡◌, ◌<◌, ◌+◌, ◌-◌, ◌++◌, inl, inr, Bool, true, false, List, [], ◌∷◌, Some, length, slice_get, get_or, take, map, arith, sym, ap, subst, refl, ◌∙◌, cases_lt, length_push, slice_get_within, Lit, Step, Has, chain_resolvent, clause_numbered, EndsEmpty, IsSoundAt, Refutes, standing_before, standing, get-kept, get-last, get-taken, AreMarked, IsBelow, IsMarked, new_number, renumbered_step, AreKept, IsFrom, IsMoved, IsTrimmed}
use Rattle.log_tidy.specs.Used.{IsUsed}
use Rattle.log_tidy.proofs.Numbered.{chain-same, clauses_of, left-numbered, map-same, new_number-first, new_number-more, new_number-step, numbered-left, numbered-step, sound-below, step-numbered}
use Rattle.log_tidy.proofs.Pushed.{careful-pushed, has-either, has-first, has-second, sound-pushed}

-- the clauses of the first steps, with one more
has-taken-suc : (log : List Step) (i : ℕ) (c : List Lit) → Has (clauses_of (take i log)) c → Has (clauses_of (take (suc i) log)) c
has-taken-suc [] zero c h = absurd h
has-taken-suc [] (suc i) c h = absurd h
has-taken-suc (s ∷ ss) zero c h = absurd h
has-taken-suc (s ∷ ss) (suc i) c h = elim h [ inl e ↦ inl e | inr g ↦ inr (has-taken-suc ss i c g) ]

taken-has-suc : (log : List Step) (i : ℕ) (s : Step) → slice_get log i ≡ Some s → Has (clauses_of (take (suc i) log)) s.clause
taken-has-suc [] i s e = absurd (let x : ⊥ = cc in x)
taken-has-suc (t ∷ ts) zero s e = inl (let it : t ≡ s = cc in ap (λ (u : Step). u.clause) it)
taken-has-suc (t ∷ ts) (suc i) s e = inr (taken-has-suc ts i s e)

pub has-taken : (log : List Step) (i : ℕ) (c : List Lit) → Has (clauses_of (take i log)) c → Has (clauses_of (take (i + 1) log)) c
has-taken log i c h = subst (λ n. Has (clauses_of (take n log)) c) (let e : suc i ≡ i + 1 = omega arith in e) (has-taken-suc log i c h)

pub taken-has : (log : List Step) (i : ℕ) (s : Step) → slice_get log i ≡ Some s → Has (clauses_of (take (i + 1) log)) s.clause
taken-has log i s at = subst (λ n. Has (clauses_of (take n log)) s.clause) (let e : suc i ≡ i + 1 = omega arith in e) (taken-has-suc log i s at)

module _ (count : ℕ) (numbers : List ℕ) (x : ℕ) (kept more : List Step) (grows : (j : ℕ) (t : Step) → slice_get kept j ≡ Some t → slice_get more j ≡ Some t) where
  -- a step that moved stays where it is
  moved-more : (log : List Step) (k : ℕ) (s : Step) → k < length numbers → slice_get log k ≡ Some s → IsBelow count log k → IsMoved count numbers kept k s → IsMoved count (numbers ++ x ∷ []) more k s
  moved-more log k s lt at below m = record {
    place = m.place;
    number = get-kept numbers x (count + m.place + 1) k m.number;
    at =
        grows m.place (renumbered_step count numbers s) m.at
        ∙ ap (λ (ns : List ℕ). Some (with-chain ns))
        (map-same (new_number count numbers) (new_number count (numbers ++ x ∷ [])) s.chain
        (λ n has. sym (new_number-more count numbers x n (omega (arith, lt, below s n at has)))));
  }
    where
      with-chain : List ℕ → Step
      with-chain ns = record { chain = ns; clause = s.clause }

  from-more : (used : List Bool) (j k : ℕ) → IsFrom count used numbers j k → IsFrom count used (numbers ++ x ∷ []) j k
  from-more used j k f = (omega (arith, f.0, length_push numbers x), f.1, get-kept numbers x (count + j + 1) k f.2)

module _ (clauses : List (List Lit)) (log : List Step) (used : List Bool) (refutes : Refutes clauses log) (marked : AreMarked (length clauses) log 0 used) where
  -- nothing is kept at first
  pub kept-none : AreKept clauses log used 0 [] []
  kept-none = record {
    long = refl;
    newest = λ k e. absurd (omega (arith, e));
    shorter = omega arith;
    sound = λ j lt. absurd (omega (arith, lt));
    part = λ c h. absurd h;
    careful = λ h. record { sound = λ j lt. absurd (omega (arith, lt)); new = λ j s d at has contains. absurd (let x : ⊥ = cc in x) };
    moved = λ k s lt. absurd (omega (arith, lt));
    from = λ j lt. absurd (omega (arith, lt));
  }

  module _ (index : ℕ) (numbers : List ℕ) (kept : List Step) (step : Step) (here : slice_get log index ≡ Some step) (h : AreKept clauses log used index numbers kept) where
    newest-more : (x k : ℕ) → k + 1 ≡ index + 1 → slice_get (numbers ++ x ∷ []) k ≡ Some x
    newest-more x k e = ap (slice_get (numbers ++ x ∷ [])) (let it : k ≡ length numbers = omega (arith, e, h.long) in it) ∙ get-last numbers x

    below : (k : ℕ) (s : Step) → slice_get log k ≡ Some s → IsBelow (length clauses) log k
    below k s at = sound-below clauses log k (refutes.sound k (slice_get_within log k s at))

    -- a step that isn't marked is left out
    pub kept-skip : get_or used index false ≡ false → AreKept clauses log used (index + 1) (numbers ++ (length clauses + length kept) ∷ []) kept
    kept-skip off =
        let x = length clauses + length kept in
        let stays = λ (j : ℕ) (t : Step) (at : slice_get kept j ≡ Some t). at in
        record {
          long = length_push numbers x ∙ ap (λ n. n + 1) h.long;
          newest = newest-more x;
          shorter = omega (arith, h.shorter);
          sound = h.sound;
          part = λ c has. has-taken log index c (h.part c has);
          careful = h.careful;
          moved = λ k s lt m at. elim (cases_lt k index) [
            | inl early ↦ moved-more (length clauses) numbers x kept kept stays log k s (omega (arith, early, h.long)) at (below k s at) (h.moved k s early m at)
            | inr late ↦
                let e : k ≡ index = omega (arith, late, lt) in
                absurd (let z : true ≡ false = sym m ∙ (ap (λ n. get_or used n false) e ∙ off) in let w : ⊥ = cc in w)
          ];
          from = λ j lt. let f = h.from j lt in (f.0, from-more (length clauses) numbers x kept kept stays used j f.0 f.1);
        }

    -- a clause of the chain is among the kept ones, by its new number
    clause-moved : (own : IsMarked used index) (n : ℕ) (d : List Lit) → Has step.chain n → clause_numbered (standing_before clauses log index) n ≡ Some d
        → clause_numbered (standing clauses kept) (new_number (length clauses) numbers n) ≡ Some d
    clause-moved own n d has at = elim (cases_lt (length clauses) n) [
      | inr le ↦
          subst (λ m. clause_numbered (standing clauses kept) m ≡ Some d) (sym (new_number-first (length clauses) numbers n le))
          (numbered-left clauses (clauses_of kept) n d (left-numbered clauses (clauses_of (take index log)) n d le at))
      | inl lt ↦ late (n - length clauses - 1) (omega (arith, lt))
    ]
      where
        late : (k : ℕ) → n ≡ length clauses + k + 1 → clause_numbered (standing clauses kept) (new_number (length clauses) numbers n) ≡ Some d
        late k e =
            let found = step-numbered clauses (take index log) n k d e at in
            let old = get-taken log index k found.0 found.1 in
            let its : Has step.chain (length clauses + k + 1) = subst (λ m. Has step.chain m) e has in
            let m = h.moved k found.0 old.0 (marked.closed index k step (omega arith) own here its) old.1 in
            subst (λ p. clause_numbered (standing clauses kept) p ≡ Some d) (sym (new_number-step (length clauses) numbers n k (length clauses + m.place + 1) e m.number))
            (numbered-step clauses kept (length clauses + m.place + 1) m.place (renumbered_step (length clauses) numbers found.0) refl m.at ∙ ap (λ (c : List Lit). Some c) found.2)

    -- a marked one is kept
    pub kept-push : IsMarked used index
        → AreKept clauses log used (index + 1) (numbers ++ (length clauses + length (kept ++ renumbered_step (length clauses) numbers step ∷ [])) ∷ []) (kept ++ renumbered_step (length clauses) numbers step ∷ [])
    kept-push own =
        let t = renumbered_step (length clauses) numbers step in
        let x = length clauses + length (kept ++ t ∷ []) in
        let place : x ≡ length clauses + length kept + 1 = omega (arith, length_push kept t) in
        let grows = λ (j : ℕ) (u : Step) (at : slice_get kept j ≡ Some u). get-kept kept t u j at in
        let chain : chain_resolvent (standing clauses kept) t.chain ≡ Some t.clause = sound in
        record {
          long = length_push numbers x ∙ ap (λ n. n + 1) h.long;
          newest = newest-more x;
          shorter = omega (arith, h.shorter, length_push kept t);
          sound = sound-pushed clauses kept t h.sound chain;
          part = λ c has. elim (has-either (clauses_of kept) (step.clause ∷ []) c (subst (λ (cs : List (List Lit)). Has cs c) (clauses-pushed kept t) has)) [
            | inl old ↦ has-taken log index c (h.part c old)
            | inr new ↦ elim new [
              | inl e ↦ subst (λ (b : List Lit). Has (clauses_of (take (index + 1) log)) b) e (taken-has log index step here)
              | inr none ↦ absurd none
            ]
          ];
          careful = λ careful. careful-pushed clauses kept t (h.careful careful) chain (λ d among contains. careful.new index step d here (standing-part d among) contains);
          moved = λ k s lt m at. elim (cases_lt k index) [
            | inl early ↦ moved-more (length clauses) numbers x kept (kept ++ t ∷ []) grows log k s (omega (arith, early, h.long)) at (below k s at) (h.moved k s early m at)
            | inr late ↦ newest-moved x place k s (omega (arith, late, lt)) at
          ];
          from = λ j lt. elim (cases_lt j (length kept)) [
            | inl early ↦ let f = h.from j early in (f.0, from-more (length clauses) numbers x kept (kept ++ t ∷ []) grows used j f.0 f.1)
            | inr late ↦
                let e : x ≡ length clauses + j + 1 = omega (arith, place, late, lt, length_push kept t) in
                let it : IsFrom (length clauses) used (numbers ++ x ∷ []) j index = (omega (arith, length_push numbers x, h.long), own, newest-more x index refl ∙ ap (λ n. Some n) e) in
                (index, it)
          ];
        }
      where
        sound : chain_resolvent (standing clauses kept) (map (new_number (length clauses) numbers) step.chain) ≡ Some step.clause
        sound = go (refutes.sound index (slice_get_within log index step here))
          where
            go : IsSoundAt clauses log index → chain_resolvent (standing clauses kept) (map (new_number (length clauses) numbers) step.chain) ≡ Some step.clause
            go (u, at, is) =
                let same : u ≡ step = cc in
                chain-same (new_number (length clauses) numbers) (standing_before clauses log index) (standing clauses kept) step.chain step.clause
                (λ n d has found. clause-moved own n d has found) (subst (λ (v : Step). chain_resolvent (standing_before clauses log index) v.chain ≡ Some v.clause) same is)

        clauses-pushed : (steps : List Step) (t : Step) → clauses_of (steps ++ t ∷ []) ≡ clauses_of steps ++ t.clause ∷ []
        clauses-pushed [] t = refl
        clauses-pushed (s ∷ ss) t = ap (λ (cs : List (List Lit)). s.clause ∷ cs) (clauses-pushed ss t)

        standing-part : (d : List Lit) → Has (standing clauses kept) d → Has (standing_before clauses log index) d
        standing-part d among = elim (has-either clauses (clauses_of kept) d among) [
          | inl a ↦ has-first clauses (clauses_of (take index log)) d a
          | inr a ↦ has-second clauses (clauses_of (take index log)) d (h.part d a)
        ]

        newest-moved : (x : ℕ) → x ≡ length clauses + length kept + 1 → (k : ℕ) (s : Step) → k ≡ index → slice_get log k ≡ Some s
            → IsMoved (length clauses) (numbers ++ x ∷ []) (kept ++ renumbered_step (length clauses) numbers step ∷ []) k s
        newest-moved x place k s e at =
            let same : step ≡ s = (let both : Some step ≡ Some s = sym here ∙ (ap (slice_get log) (sym e) ∙ at) in let z : step ≡ s = cc in z) in
            subst (λ (v : Step). IsMoved (length clauses) (numbers ++ x ∷ []) (kept ++ renumbered_step (length clauses) numbers step ∷ []) k v) same
            (record {
              place = length kept;
              number = newest-more x k (omega (arith, e)) ∙ ap (λ n. Some n) place;
              at =
                  get-last kept (renumbered_step (length clauses) numbers step)
                  ∙ ap (λ (ns : List ℕ). Some (with-chain ns))
                  (map-same (new_number (length clauses) numbers) (new_number (length clauses) (numbers ++ x ∷ [])) step.chain
                  (λ n has. sym (new_number-more (length clauses) numbers x n (omega (arith, h.long, below index step here step n here has)))));
            })
          where
            with-chain : List ℕ → Step
            with-chain ns = record { chain = ns; clause = step.clause }

  -- at the end they are the trimmed log
  pub kept-all : (numbers : List ℕ) (kept : List Step) → AreKept clauses log used (length log) numbers kept → IsTrimmed clauses log kept
  kept-all numbers kept h = record {
    refutes = record { sound = h.sound; empty = ends refutes.empty };
    careful = h.careful;
    used = λ j lt. used-later j lt (h.from j (omega (arith, lt)));
    shorter = h.shorter;
  }
    where
      newest-place : (j k : ℕ) → k + 1 ≡ length log → slice_get numbers k ≡ Some (length clauses + j + 1) → j + 1 ≡ length kept
      newest-place j k e at =
          let both : Some (length clauses + j + 1) ≡ Some (length clauses + length kept) = sym at ∙ h.newest k e in
          let same : length clauses + j + 1 ≡ length clauses + length kept = cc in
          omega (arith, same)

      ends : EndsEmpty log → EndsEmpty kept
      ends (s, at, none) =
          let some = slice_get_within log (length log - 1) s at in
          let m = h.moved (length log - 1) s (omega (arith, some)) marked.last at in
          let place = newest-place m.place (length log - 1) (omega (arith, some)) m.number in (
            renumbered_step (length clauses) numbers s,
            ap (slice_get kept) (let e : length kept - 1 ≡ m.place = omega (arith, place) in e) ∙ m.at,
            none,
          )

      has-mapped : (f : ℕ → ℕ) (ns : List ℕ) (n : ℕ) → Has ns n → Has (map f ns) (f n)
      has-mapped f [] n has = absurd has
      has-mapped f (m ∷ ms) n has = elim has [ inl e ↦ inl (ap f e) | inr g ↦ inr (has-mapped f ms n g) ]

      used-later : (j : ℕ) → j + 1 < length kept → (k : ℕ) × IsFrom (length clauses) used numbers j k → IsUsed clauses kept j
      used-later j lt (k, f) = elim (marked.needed k f.1) [
        | inl last ↦ absurd (omega (arith, lt, newest-place j k last f.2))
        | inr need ↦
            let t = renumbered_step (length clauses) numbers need.step in
            let m = h.moved need.later need.step (slice_get_within log need.later need.step need.at) need.marked need.at in
            let its : Has t.chain (length clauses + j + 1) =
            subst (λ n. Has t.chain n) (new_number-step (length clauses) numbers (length clauses + k + 1) k (length clauses + j + 1) refl f.2)
            (has-mapped (new_number (length clauses) numbers) need.step.chain (length clauses + k + 1) need.has) in
            let le = sound-below clauses kept m.place (h.sound m.place (slice_get_within kept m.place t m.at)) t (length clauses + j + 1) m.at its in
            record { later = m.place; step = t; after = omega (arith, le); at = m.at; has = its }
      ]

-- the same under other names
pub kept-as : (clauses : List (List Lit)) (log : List Step) (used : List Bool) (index : ℕ) (numbers others : List ℕ) (kept steps : List Step) (len : ℕ)
    → steps ≡ kept → len ≡ length steps → others ≡ numbers ++ (length clauses + len) ∷ []
    → AreKept clauses log used index (numbers ++ (length clauses + length kept) ∷ []) kept → AreKept clauses log used index others steps
kept-as clauses log used index numbers others kept steps len e1 e2 e3 h =
    subst (λ (ns : List ℕ). AreKept clauses log used index ns steps) (sym e3)
    (subst (λ (n : ℕ). AreKept clauses log used index (numbers ++ (length clauses + n) ∷ []) steps) (sym e2)
    (subst (λ (ks : List Step). AreKept clauses log used index (numbers ++ (length clauses + length ks) ∷ []) ks) (sym e1) h))
