-- The marked way back from a conflict.
use Rattle.clause_search.proofs.Common.{append_assoc, ℕ, zero, suc, ◌≡◌, ◌<◌, ◌≤◌, ◌+◌, ◌-◌, ◌++◌, ◌⊎◌, inl, inr, Bool, true, false, ltb, List, [], ◌∷◌, Some, None, get_or, set, take, slice_get, length, map, arith, sym, ap, subst, refl, ◌∙◌, cases_Bool, cases_eq, false≢true, ltb-true, ltb-false, get_or-set_same, get_or-set_other, get_or_past, length-set, take_more, get_or_from_slice_get, slice_get_within, Has, Lit, IsClause, opposite_of, Resolves, joined, resolvent, clause_numbered, rises-joined, opposite-opposite, Entry, Marks, Learned, Stands, IsFalse, IsAssigned, FalseBut, IsImplied, IsTrail, IsPlaceOf, IsBack, IsLastDecision, IsLearned, HasVariable, AreMarked, IsCounted, IsSingle, IsSpread, IsMarkedBack, marked_from, opposites_at}
use Rattle.clause_log.proofs.Resolving.{resolves-from}
use Rattle.clause_search.proofs.ByPlace.{grounded-at}
use Rattle.clause_search.proofs.Back.{back-skip, back-learned, back-implied, next-reason, next-resolvent, next-back}
use Rattle.clause_search.proofs.Placing.{stands-at, at-stands, somewhere-stands}
use Rattle.clause_search.proofs.Marking.{has-push, has-kept, has-last, count-one, count-alone, read-mark}

variable_of : (l m : Lit) → l ≡ m → l.variable ≡ m.variable
variable_of l m e = ap (λ (x : Lit). x.variable) e

turned : (l m : Lit) → l ≡ opposite_of m → m ≡ opposite_of l
turned l m e = sym (opposite-opposite m) ∙ ap opposite_of (sym e)

one-entry : (trail : List Entry) (i j : ℕ) (e d : Entry) → slice_get trail i ≡ Some e → slice_get trail j ≡ Some d → i ≡ j → e ≡ d
one-entry trail i j e d at there same = let moved : slice_get trail j ≡ Some e = subst (λ (k : ℕ). slice_get trail k ≡ Some e) same at in cc

pub entry-inside : (trail : List Entry) (i : ℕ) → i < length trail → (e : Entry) × (slice_get trail i ≡ Some e)
entry-inside [] i lt = absurd (omega arith)
entry-inside (x ∷ xs) zero lt = (x, refl)
entry-inside (x ∷ xs) (suc i) lt = entry-inside xs i (omega arith)

pub single-trail : (n : ℕ) (clauses : List (List Lit)) (trail : List Entry) → IsTrail n clauses [] trail → IsSingle trail
single-trail n clauses trail h i j e d at there v = elim (cases_Bool (ltb i j)) [
  | inl lt ↦ absurd (later i j e d at there v (ltb-true i j lt))
  | inr ge ↦ elim (cases_Bool (ltb j i)) [
    | inl lt ↦ absurd (later j i d e there at (sym v) (ltb-true j i lt))
    | inr le ↦ omega (arith, ltb-false i j ge, ltb-false j i le)
  ]
]
  where
    later : (i j : ℕ) (e d : Entry) → slice_get trail i ≡ Some e → slice_get trail j ≡ Some d → e.literal.variable ≡ d.literal.variable → i < j → ⊥
    later i j e d at there v lt =
        let fresh = (grounded-at n clauses trail j d (slice_get_within trail j d there) h).fresh in
        let is = get_or_from_slice_get trail j d d there in
        fresh e.literal (at-stands trail j i e lt at) (v ∙ sym (ap (λ (z : Entry). z.literal.variable) is))

pub stands-whole : (trail : List Entry) (n : ℕ) (l : Lit) → Stands (take n trail) l → Stands trail l
stands-whole trail n l s = go (stands-at trail n l s)
  where
    go : ((i : ℕ) × (e : Entry) × (i < n) × (slice_get trail i ≡ Some e) × (e.literal ≡ l)) → Stands trail l
    go (i, e, lt, at, is) = subst (λ (x : Lit). Stands trail x) is (somewhere-stands trail i e at)

-- ---- what is marked

pub marked-none : (trail : List Entry) (bs : List Bool) → ((i : ℕ) → get_or bs i false ≡ false) → AreMarked trail [] bs
marked-none trail bs none i e at = ((λ h. absurd (false≢true (sym (none i) ∙ h))), (λ h. absurd h.1))

pub marked-more : (trail : List Entry) (ls : List Lit) (bs : List Bool) (l : Lit) (p : ℕ) → IsPlaceOf trail l.variable (Some p) → p < length bs
    → AreMarked trail ls bs → AreMarked trail (ls ++ l ∷ []) (set bs p true)
marked-more trail ls bs l p there lt marked i e at = elim (cases_eq i p) [
  | inl same ↦ (
    (λ h. (l, has-last ls l, here there.0 same)),
    (λ h. subst (λ (k : ℕ). get_or (set bs p true) k false ≡ true) (sym same) (get_or-set_same bs p true false lt)),
  )
  | inr other ↦
      let is = get_or-set_other bs p i true false other in (
        (λ h. kept ((marked i e at).0 (sym is ∙ h))),
        (λ h. is ∙ (marked i e at).1 (old other h)),
      )
]
  where
    here : ((d : Entry) × (slice_get trail p ≡ Some d) × (d.literal.variable ≡ l.variable)) → i ≡ p → l.variable ≡ e.literal.variable
    here (d, at', v) same = sym v ∙ ap (λ (z : Entry). z.literal.variable) (sym (one-entry trail i p e d at at' same))

    kept : HasVariable ls e.literal.variable → HasVariable (ls ++ l ∷ []) e.literal.variable
    kept (k, h, v) = (k, has-kept ls l k h, v)

    old : (i ≡ p → ⊥) → HasVariable (ls ++ l ∷ []) e.literal.variable → HasVariable ls e.literal.variable
    old other (k, h, v) = elim (has-push ls l k h) [
      | inl g ↦ (k, g, v)
      | inr same ↦ absurd (other (there.1 i e at (sym v ∙ sym (variable_of l k same))))
    ]

pub has-index : {X : Type 0} (xs : List X) (i : ℕ) (d : X) → i < length xs → Has xs (get_or xs i d)
has-index [] i d lt = absurd (omega arith)
has-index (x ∷ xs) zero d lt = inl refl
has-index (x ∷ xs) (suc i) d lt = inr (has-index xs i d (omega arith))

-- one more literal of a clause
pub marked-step : (trail : List Entry) (ls items : List Lit) (i : ℕ) (d : Lit) (bs bs' : List Bool) (p : ℕ) → i < length items
    → IsPlaceOf trail (get_or items i d).variable (Some p) → p < length bs → bs' ≡ set bs p true → AreMarked trail (ls ++ take i items) bs
    → AreMarked trail (ls ++ take (i + 1) items) bs'
marked-step trail ls items i d bs bs' p lt there within is are =
    let x = get_or items i d in
    let more : (ls ++ take i items) ++ x ∷ [] ≡ ls ++ take (i + 1) items =
    append_assoc ls (take i items) (x ∷ []) ∙ ap (λ zs. ls ++ zs) (sym (take_more items i d lt)) in
    rw is (subst (λ (zs : List Lit). AreMarked trail zs (set bs p true)) more (marked-more trail (ls ++ take i items) bs x p there within are))

has-left : (xs ys : List Lit) (l : Lit) → Has xs l → Has (xs ++ ys) l
has-left [] ys l h = absurd h
has-left (x ∷ xs) ys l (inl e) = inl e
has-left (x ∷ xs) ys l (inr h) = inr (has-left xs ys l h)

has-right : (xs ys : List Lit) (l : Lit) → Has ys l → Has (xs ++ ys) l
has-right [] ys l h = h
has-right (x ∷ xs) ys l h = inr (has-right xs ys l h)

has-either : (xs ys : List Lit) (l : Lit) → Has (xs ++ ys) l → Has xs l ⊎ Has ys l
has-either [] ys l h = inr h
has-either (x ∷ xs) ys l (inl e) = inl (inl e)
has-either (x ∷ xs) ys l (inr h) = elim (has-either xs ys l h) [ inl g ↦ inl (inr g) | inr g ↦ inr g ]

-- the clause and its reason resolved at the entry's variable
pub marked-resolved : (trail : List Entry) → IsSingle trail → (c r q : List Lit) (bs : List Bool) (place : ℕ) (d : Entry) → slice_get trail place ≡ Some d → place < length bs
    → Has c (opposite_of d.literal) → Has r d.literal → Resolves c r q → AreMarked trail (c ++ r) bs → AreMarked trail q (set bs place false)
marked-resolved trail single c r q bs place d it lt has head joins marked i e at = elim (cases_eq i place) [
  | inl same ↦ (
    (λ h. absurd (false≢true (sym (get_or-set_same bs place false false lt) ∙ subst (λ (k : ℕ). get_or (set bs place false) k false ≡ true) same h))),
    (λ h. absurd (gone same h)),
  )
  | inr other ↦
      let is = get_or-set_other bs place i false false other in (
        (λ h. forth other ((marked i e at).0 (sym is ∙ h))),
        (λ h. is ∙ (marked i e at).1 (back h)),
      )
]
  where
    twice : Has r (opposite_of (opposite_of d.literal))
    twice = subst (λ (x : Lit). Has r x) (sym (opposite-opposite d.literal)) head

    pivot : d.literal.variable ≡ joins.pivot.variable
    pivot = variable_of (opposite_of d.literal) joins.pivot (joins.only (opposite_of d.literal) has twice)

    gone : i ≡ place → HasVariable q e.literal.variable → ⊥
    gone same (l, h, v) =
        let alike = ap (λ (z : Entry). z.literal.variable) (one-entry trail i place e d at it same) in
        ((joins.literals l).0 h).1 (v ∙ (alike ∙ pivot))

    forth : (i ≡ place → ⊥) → HasVariable (c ++ r) e.literal.variable → HasVariable q e.literal.variable
    forth other (l, h, v) = (l, (joins.literals l).1 (has-either c r l h, λ w. other (single i place e d at it (sym v ∙ (w ∙ sym pivot)))), v)

    back : HasVariable q e.literal.variable → HasVariable (c ++ r) e.literal.variable
    back (l, h, v) = (l, elim ((joins.literals l).0 h).0 [ inl g ↦ has-left c r l g | inr g ↦ has-right c r l g ], v)

-- ---- one step

module _ (clauses : List (List Lit)) (trail : List Entry) (single : IsSingle trail) (low : ℕ) (chain : List ℕ) (current : List Lit) (place : ℕ)
    (back : IsBack clauses trail low chain current place) (bs : List Bool) (long : length bs ≡ length trail) (marked : AreMarked trail current bs)
    (d : Entry) (it : slice_get trail (place - 1) ≡ Some d) where
  -- where an entry has a literal's variable, and the literal is false, the entry's is its opposite
  opposite-here : (n : ℕ) (l : Lit) (i : ℕ) (e : Entry) → Stands (take n trail) (opposite_of l) → slice_get trail i ≡ Some e → l.variable ≡ e.literal.variable
      → (l ≡ opposite_of e.literal) × (i < n)
  opposite-here n l i e s at v = go (stands-at trail n (opposite_of l) s)
    where
      go : ((j : ℕ) × (f : Entry) × (j < n) × (slice_get trail j ≡ Some f) × (f.literal ≡ opposite_of l)) → (l ≡ opposite_of e.literal) × (i < n)
      go (j, f, lt, there, is) =
          let same : j ≡ i = single j i f e there at (variable_of f.literal (opposite_of l) is ∙ v) in
          let alike = one-entry trail j i f e there at same in
          (turned e.literal l (sym (ap (λ (z : Entry). z.literal) alike) ∙ is), subst (λ (k : ℕ). k < n) same lt)

  pub has-marked : get_or bs (place - 1) false ≡ true → Has current (opposite_of d.literal)
  has-marked some = go ((marked (place - 1) d it).0 some)
    where
      go : HasVariable current d.literal.variable → Has current (opposite_of d.literal)
      go (l, h, v) = subst (λ (x : Lit). Has current x) (opposite-here place l (place - 1) d (back.all l h) it v).0 h

  pub absent-unmarked : get_or bs (place - 1) false ≡ false → Has current (opposite_of d.literal) → ⊥
  absent-unmarked none h = false≢true (sym none ∙ (marked (place - 1) d it).1 (opposite_of d.literal, h, refl))

  module _ (marks : Marks) (are : marks.marked.items ≡ bs) (counted : IsCounted low marks) (some : get_or bs (place - 1) false ≡ true) where
    late : low ≤ place - 1
    late = omega (arith, back.above)

    counts : marks.late ≡ marked_from low bs
    counts = subst (λ (xs : List Bool). marks.late ≡ marked_from low xs) are counted.late

    pub but-one : marks.late ≡ 1 → FalseBut (take low trail) current (opposite_of d.literal)
    but-one one l h = go (stands-at trail place (opposite_of l) (back.all l h))
      where
        go : ((i : ℕ) × (e : Entry) × (i < place) × (slice_get trail i ≡ Some e) × (e.literal ≡ opposite_of l)) → (l ≡ opposite_of d.literal) ⊎ IsFalse (take low trail) l
        go (i, e, lt, at, is) = elim (cases_Bool (ltb i low)) [
          | inl less ↦ inr (subst (λ (x : Lit). Stands (take low trail) x) is (at-stands trail low i e (ltb-true i low less) at))
          | inr more ↦
              let here = (marked i e at).1 (l, h, sym (variable_of e.literal (opposite_of l) is)) in
              let same = count-one low i (place - 1) bs (ltb-false i low more) late here some (sym counts ∙ one) in
              let alike = one-entry trail i (place - 1) e d at it same in
              inl (turned d.literal l (sym (ap (λ (z : Entry). z.literal) alike) ∙ is))
        ]

    pub one-but : FalseBut (take low trail) current (opposite_of d.literal) → marks.late ≡ 1
    one-but but = counts ∙ count-alone low (place - 1) bs late some alone
      where
        alone : (j : ℕ) → low ≤ j → get_or bs j false ≡ true → j ≡ place - 1
        alone j le here = elim (cases_Bool (ltb j (length bs))) [
          | inr past ↦ absurd (false≢true (sym (get_or_past bs j false (ltb-false j (length bs) past)) ∙ here))
          | inl lt ↦ go (entry-inside trail j (omega (arith, ltb-true j (length bs) lt, long)))
        ]
          where
            go : ((e : Entry) × (slice_get trail j ≡ Some e)) → j ≡ place - 1
            go (e, at) = then ((marked j e at).0 here)
              where
                then : HasVariable current e.literal.variable → j ≡ place - 1
                then (l, h, v) = elim (but l h) [
                  | inl same ↦ single j (place - 1) e d at it (sym v ∙ variable_of l (opposite_of d.literal) same)
                  | inr s ↦ let lt = (opposite-here low l j e s at v).1 in absurd (omega (arith, lt, le))
                ]

    -- where it is the only one, what is listed and its literal are the clause
    pub spread-from : IsClause current → marks.late ≡ 1 → IsSpread trail (opposite_of d.literal) marks.early.items current
    spread-from clause one = record {
      clause = clause;
      single = single;
      apart = counted.apart;
      within = λ p h. let lt = ((counted.early p).0 h).0 in omega (arith, lt, back.above, back.within);
      other = λ p e h at v.
          let lt = ((counted.early p).0 h).0 in
          let same = single p (place - 1) e d at it v in
          omega (arith, lt, late, same);
      literals = λ l. (forth l, from l);
    }
      where
        k : Lit
        k = opposite_of d.literal

        none : Entry
        none = record { literal = k; reason = 0 }

        at_place : ℕ → Lit
        at_place p = opposite_of (get_or trail p none).literal

        has-map : (ps : List ℕ) (p : ℕ) → Has ps p → Has (map at_place ps) (at_place p)
        has-map [] p h = absurd h
        has-map (x ∷ xs) p (inl e) = inl (ap at_place e)
        has-map (x ∷ xs) p (inr h) = inr (has-map xs p h)

        map-has : (ps : List ℕ) (l : Lit) → Has (map at_place ps) l → (p : ℕ) × Has ps p × (at_place p ≡ l)
        map-has [] l h = absurd h
        map-has (x ∷ xs) l (inl e) = (x, inl refl, e)
        map-has (x ∷ xs) l (inr h) = next (map-has xs l h)
          where
            next : ((p : ℕ) × Has xs p × (at_place p ≡ l)) → (p : ℕ) × Has (x ∷ xs) p × (at_place p ≡ l)
            next (p, g, e) = (p, inr g, e)

        is-marked : (p : ℕ) → Has marks.early.items p → (p < low) × (get_or bs p false ≡ true)
        is-marked p h = let told = (counted.early p).0 h in (told.0, subst (λ (xs : List Bool). get_or xs p false ≡ true) are told.1)

        to-early : (p : ℕ) → p < low → get_or bs p false ≡ true → Has marks.early.items p
        to-early p lt h = (counted.early p).1 (lt, subst (λ (xs : List Bool). get_or xs p false ≡ true) (sym are) h)

        forth : (l : Lit) → Has current l → Has (opposites_at trail k marks.early.items) l
        forth l h = elim (but-one one l h) [
          | inl e ↦ inl (sym e)
          | inr s ↦ inr (go (stands-at trail low (opposite_of l) s))
        ]
          where
            go : ((i : ℕ) × (e : Entry) × (i < low) × (slice_get trail i ≡ Some e) × (e.literal ≡ opposite_of l)) → Has (map at_place marks.early.items) l
            go (i, e, lt, at, is) =
                let here = to-early i lt ((marked i e at).1 (l, h, sym (variable_of e.literal (opposite_of l) is))) in
                let read = get_or_from_slice_get trail i e none at in
                let same : at_place i ≡ l = ap (λ (z : Entry). opposite_of z.literal) read ∙ sym (turned e.literal l is) in
                subst (λ (x : Lit). Has (map at_place marks.early.items) x) same (has-map marks.early.items i here)

        from : (l : Lit) → Has (opposites_at trail k marks.early.items) l → Has current l
        from l (inl e) = subst (λ (x : Lit). Has current x) e (has-marked some)
        from l (inr h) = go (map-has marks.early.items l h)
          where
            go : ((p : ℕ) × Has marks.early.items p × (at_place p ≡ l)) → Has current l
            go (p, g, is) = there (is-marked p g) (entry-inside trail p (let lt = (is-marked p g).0 in omega (arith, lt, back.above, back.within)))
              where
                there : (p < low) × (get_or bs p false ≡ true) → ((e : Entry) × (slice_get trail p ≡ Some e)) → Has current l
                there (lt, here) (e, at) = then ((marked p e at).0 here)
                  where
                    then : HasVariable current e.literal.variable → Has current l
                    then (m, h', v) =
                        let read = get_or_from_slice_get trail p e none at in
                        let same : opposite_of e.literal ≡ l = sym (ap (λ (z : Entry). opposite_of z.literal) read) ∙ is in
                        subst (λ (x : Lit). Has current x) ((opposite-here place m p e (back.all m h') at v).0 ∙ same) h'

module _ (variables : ℕ) (clauses : List (List Lit)) (trail : List Entry) (low : ℕ) (h : IsTrail variables clauses [] trail) (last : IsLastDecision trail low)
    (chain : List ℕ) (marks : Marks) (place : ℕ) (walk : IsMarkedBack clauses trail low chain marks place) where
  single : IsSingle trail
  single = single-trail variables clauses trail h

  inside : place - 1 < length marks.marked.items
  inside = omega (arith, walk.back.above, walk.back.within, walk.long)

  module _ (b : Bool) (read : b ≡ get_or marks.marked.items (place - 1) b) where
    shown : get_or marks.marked.items (place - 1) false ≡ b
    shown = read-mark marks.marked.items (place - 1) b inside read

    -- an entry that isn't marked
    pub walk-skip : b ≡ false → IsMarkedBack clauses trail low chain marks (place - 1)
    walk-skip none = go (entry-inside trail (place - 1) (omega (arith, inside, walk.long)))
      where
        go : ((d : Entry) × (slice_get trail (place - 1) ≡ Some d)) → IsMarkedBack clauses trail low chain marks (place - 1)
        go (d, it) = record {
          current = walk.current;
          clause = walk.clause;
          back = back-skip variables clauses trail low h last chain walk.current place d it walk.back
              (absent-unmarked clauses trail single low chain walk.current place walk.back marks.marked.items walk.long walk.marked d it (shown ∙ none));
          long = walk.long;
          marked = walk.marked;
          counted = walk.counted;
        }

    module _ (d : Entry) (it : slice_get trail (place - 1) ≡ Some d) (marked : b ≡ true) where
      some : get_or marks.marked.items (place - 1) false ≡ true
      some = shown ∙ marked

      has : Has walk.current (opposite_of d.literal)
      has = has-marked clauses trail single low chain walk.current place walk.back marks.marked.items walk.long walk.marked d it some

      -- the only one
      pub walk-spread : marks.late ≡ 1 → IsSpread trail (opposite_of d.literal) marks.early.items walk.current
      walk-spread one =
          spread-from clauses trail single low chain walk.current place walk.back marks.marked.items walk.long walk.marked d it marks refl walk.counted some walk.clause one

      pub walk-learned : marks.late ≡ 1 → (learned : Learned) → learned.chain ≡ chain → learned.clause ≡ walk.current → learned.literal ≡ opposite_of d.literal
          → IsLearned variables clauses trail low learned
      walk-learned one learned c1 c2 c3 =
          back-learned variables clauses trail low h last chain walk.current place d it walk.back [] learned c1 c2 c3 has
          (but-one clauses trail single low chain walk.current place walk.back marks.marked.items walk.long walk.marked d it marks refl walk.counted some one)

      -- one of several
      module _ (several : marks.late ≡ 1 → ⊥) where
        other : FalseBut (take low trail) walk.current (opposite_of d.literal) → ⊥
        other but =
            several (one-but clauses trail single low chain walk.current place walk.back marks.marked.items walk.long walk.marked d it marks refl walk.counted some but)

        pub walk-reason : None ≡ clause_numbered clauses d.reason → ⊥
        walk-reason = next-reason variables clauses trail low h last chain walk.current place d it walk.back has other

        implied : IsImplied clauses (take (place - 1) trail) d
        implied = back-implied variables clauses trail low h last chain walk.current place d it walk.back other

        module _ (r : List Lit) (at : Some r ≡ clause_numbered clauses d.reason) where
          is-reason : r ≡ implied.clause
          is-reason = let f = implied.reason in cc

          head : Has r d.literal
          head = subst (λ (x : List Lit). Has x d.literal) (sym is-reason) implied.has

          pub walk-assigned : (l : Lit) → Has r l → IsAssigned trail l.variable
          walk-assigned l g = elim (implied.others l (subst (λ (x : List Lit). Has x l) is-reason g)) [
            | inl e ↦ (d.literal, somewhere-stands trail (place - 1) d it, variable_of d.literal l (sym e))
            | inr s ↦ (opposite_of l, stands-whole trail (place - 1) (opposite_of l) s, refl)
          ]

          pub walk-marked : (bs : List Bool) → AreMarked trail (walk.current ++ r) bs → get_or bs (place - 1) false ≡ true
          walk-marked bs are = (are (place - 1) d it).1 (opposite_of d.literal, has-left walk.current r (opposite_of d.literal) has, refl)

          pub walk-next : (q : IsClause r) (chain' : List ℕ) (bs : List Bool) (marks' : Marks) → chain' ≡ chain ++ d.reason ∷ []
              → length bs ≡ length trail → AreMarked trail (walk.current ++ r) bs → marks'.marked.items ≡ set bs (place - 1) false → IsCounted low marks'
              → IsMarkedBack clauses trail low chain' marks' (place - 1)
          walk-next q chain' bs marks' is long are set_is counted' = record {
            current = joined walk.current r;
            clause = rises-joined 0 walk.current r walk.clause q;
            back = next-back variables clauses trail low h last chain walk.current place d it walk.back has other r at walk.clause q chain' (joined walk.current r) is (sym gives);
            long = rw set_is (length-set bs (place - 1) false ∙ long);
            marked = subst (λ (xs : List Bool). AreMarked trail (joined walk.current r) xs) (sym set_is)
                (marked-resolved trail single walk.current r (joined walk.current r) bs (place - 1) d it (omega (arith, inside, walk.long, long)) has head
                (resolves-from walk.current r walk.clause q (joined walk.current r) gives) are);
            counted = counted';
          }
            where
              gives : resolvent walk.current r ≡ Some (joined walk.current r)
              gives = next-resolvent variables clauses trail low h last chain walk.current place d it walk.back has other r at walk.clause q
