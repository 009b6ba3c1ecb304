-- Changes after which the lists have each clause under its watched literals still.
use Rattle.watch_solver.proofs.Common.{ℕ, zero, suc, ◌≡◌, ◌<◌, ◌+◌, ◌*◌, ◌++◌, ◌⊎◌, inl, inr, List, [], ◌∷◌, Some, slice_get, get_or, length, arith, sym, ap, subst, refl, ◌∙◌, set, length-set, swap_remove, cases_eq, slice_get_within, Has, Lit, get-early, get-late, get-last, get-kept, length-push, Code, Watch, Pair, index_of, lit_of, AreApart, AreLinked, IsPair, IsWatch, HasFrom, list_of, with_list, with_watch, IsOneOf}
use Rattle.watch_solver.proofs.Codes.{lit_cases}
use Rattle.watch_solver.proofs.Lists.{get-set, get-set_other, get-removed, list-same, list-other, length-lists, list-room, has-push, has-last, has-set, has-removed}

-- lists of which one was changed
module _ (lists : List (List Watch)) (f : Lit) (watches : List Watch) (room : index_of f < length lists) where
  has-with : (n : ℕ) → (HasFrom (list_of lists f) 0 n → HasFrom watches 0 n) → (l : Lit) → HasFrom (list_of lists l) 0 n → HasFrom (list_of (with_list lists f watches) l) 0 n
  has-with n to l h = elim (lit_cases l f) [
    | inl e ↦
        let here : HasFrom (list_of lists f) 0 n = subst (λ (k : Lit). HasFrom (list_of lists k) 0 n) e h in
        subst (λ (k : Lit). HasFrom (list_of (with_list lists f watches) k) 0 n) (sym e)
        (subst (λ (ws : List Watch). HasFrom ws 0 n) (sym (list-same lists f watches room)) (to here))
    | inr ne ↦ subst (λ (ws : List Watch). HasFrom ws 0 n) (sym (list-other lists f l watches ne)) h
  ]

  watch-with : (P : Watch → Type 0) → ((i : ℕ) (w : Watch) → slice_get watches i ≡ Some w → P w) → ((l : Lit) (i : ℕ) (w : Watch) → slice_get (list_of lists l) i ≡ Some w → P w)
      → (l : Lit) (i : ℕ) (w : Watch) → slice_get (list_of (with_list lists f watches) l) i ≡ Some w → P w
  watch-with P new old l i w at = elim (lit_cases l f) [
    | inl e ↦
        let here : slice_get (list_of (with_list lists f watches) f) i ≡ Some w = subst (λ (k : Lit). slice_get (list_of (with_list lists f watches) k) i ≡ Some w) e at in
        new i w (subst (λ (ws : List Watch). slice_get ws i ≡ Some w) (list-same lists f watches room) here)
    | inr ne ↦ old l i w (subst (λ (ws : List Watch). slice_get ws i ≡ Some w) (list-other lists f l watches ne) at)
  ]

watch-push : (watches : List Watch) (new : Watch) (P : Watch → Type 0) → P new → ((i : ℕ) (w : Watch) → slice_get watches i ≡ Some w → P w) → (i : ℕ) (w : Watch) → slice_get (watches ++ new ∷ []) i ≡ Some w → P w
watch-push watches new P here old i w at = elim (cases_eq i (length watches)) [
  | inl e ↦ subst P (get-late watches new w i e at) here
  | inr ne ↦ old i w (get-early watches new w i (omega (arith, ne, length-push watches new, slice_get_within (watches ++ new ∷ []) i w at)) at)
]

module _ (n : ℕ) (clauses : List (List Lit)) (pairs : List Pair) (lists : List (List Watch)) (h : AreLinked n clauses pairs lists) where
  -- another blocker
  pub linked-set : (f : Lit) (place : ℕ) (old w : Watch) → slice_get (list_of lists f) place ≡ Some old → w.clause ≡ old.clause → IsWatch clauses pairs w
      → AreLinked n clauses pairs (with_list lists f (set (list_of lists f) place w))
  linked-set f place old w at same is =
      let watches = set (list_of lists f) place w in
      let room = list-room lists f place old at in
      let lt = slice_get_within (list_of lists f) place old at in
      record {
        count = h.count;
        room = omega (arith, h.room, length-lists lists f watches);
        watches = watch-with lists f watches room (λ (x : Watch). IsWatch clauses pairs x)
            (λ i x there. elim (get-set (list_of lists f) place i w x lt there) [
              | inl g ↦ subst (λ (y : Watch). IsWatch clauses pairs y) g.1 is
              | inr g ↦ h.watches f i x g.1
            ]) h.watches;
        first = λ q p there apart. has-with lists f watches room q (λ g. has-set (list_of lists f) 0 q place old w at same g) (lit_of p.first) (h.first q p there apart);
        second = λ q p there apart. has-with lists f watches room q (λ g. has-set (list_of lists f) 0 q place old w at same g) (lit_of p.second) (h.second q p there apart);
      }

  -- without a watch of a clause that doesn't watch the literal
  pub linked-removed : (f : Lit) (place : ℕ) (w d : Watch) → slice_get (list_of lists f) place ≡ Some w → ((p : Pair) → slice_get pairs w.clause ≡ Some p → IsOneOf p f → ⊥)
      → AreLinked n clauses pairs (with_list lists f (swap_remove (list_of lists f) place d))
  linked-removed f place w d at none =
      let watches = swap_remove (list_of lists f) place d in
      let room = list-room lists f place w at in
      let lt = slice_get_within (list_of lists f) place w at in
      record {
        count = h.count;
        room = omega (arith, h.room, length-lists lists f watches);
        watches = watch-with lists f watches room (λ (x : Watch). IsWatch clauses pairs x)
            (λ i x there. let from = get-removed (list_of lists f) place d lt i x there in h.watches f from.0 x from.1) h.watches;
        first = λ q p there apart. keeps q p there (lit_of p.first) (λ e. inl e) (h.first q p there apart);
        second = λ q p there apart. keeps q p there (lit_of p.second) (λ e. inr e) (h.second q p there apart);
      }
    where
      keeps : (q : ℕ) (p : Pair) → slice_get pairs q ≡ Some p → (l : Lit) → (l ≡ f → IsOneOf p f) → HasFrom (list_of lists l) 0 q
          → HasFrom (list_of (with_list lists f (swap_remove (list_of lists f) place d)) l) 0 q
      keeps q p there l one has = elim (lit_cases l f) [
        | inl e ↦
            has-with lists f (swap_remove (list_of lists f) place d) (list-room lists f place w at) q
            (λ g. has-removed (list_of lists f) place w d at 0 q (omega arith) (λ same. none p (subst (λ (k : ℕ). slice_get pairs k ≡ Some p) (sym same) there) (one e)) g) l has
        | inr ne ↦ subst (λ (ws : List Watch). HasFrom ws 0 q) (sym (list-other lists f l (swap_remove (list_of lists f) place d) ne)) has
      ]

  -- another pair, of which one was watched before
  module _ (q : ℕ) (c : List Lit) (old new : Pair) (at : slice_get clauses q ≡ Some c) (old_at : slice_get pairs q ≡ Some old) (is : IsPair c new)
      (apart : AreApart old) (other : IsOneOf old (lit_of new.second)) (w : Watch) (same : w.clause ≡ q) (blocks : w.blocker ≡ new.second)
      (room : index_of (lit_of new.first) < length lists) where
    within : q < length pairs
    within = slice_get_within pairs q old old_at

    here : slice_get (set pairs q new) q ≡ Some new
    here = get-here pairs q within
      where
        get-here : (ps : List Pair) (k : ℕ) → k < length ps → slice_get (set ps k new) k ≡ Some new
        get-here [] k lt = absurd (omega arith)
        get-here (p ∷ ps) zero lt = refl
        get-here (p ∷ ps) (suc k) lt = get-here ps k (omega arith)

    watch-moved : (x : Watch) → IsWatch clauses pairs x → IsWatch clauses (set pairs q new) x
    watch-moved x g = elim (cases_eq x.clause q) [
      | inl e ↦
          let there : slice_get clauses q ≡ Some g.clause = subst (λ (k : ℕ). slice_get clauses k ≡ Some g.clause) e g.at in
          let alike : c ≡ g.clause = cc in
          record {
            clause = g.clause;
            pair = new;
            at = g.at;
            pair_at = subst (λ (k : ℕ). slice_get (set pairs q new) k ≡ Some new) (sym e) here;
            is = subst (λ (d : List Lit). IsPair d new) alike is;
            blocker = g.blocker;
          }
      | inr ne ↦ record { clause = g.clause; pair = g.pair; at = g.at; pair_at = get-set_other pairs q x.clause new ne ∙ g.pair_at; is = g.is; blocker = g.blocker }
    ]

    watch-new : IsWatch clauses (set pairs q new) w
    watch-new = record {
      clause = c;
      pair = new;
      at = subst (λ (k : ℕ). slice_get clauses k ≡ Some c) (sym same) at;
      pair_at = subst (λ (k : ℕ). slice_get (set pairs q new) k ≡ Some new) (sym same) here;
      is = is;
      blocker = subst (λ (b : Code). Has c (lit_of b)) (sym blocks) is.second;
    }

    grown : (m : ℕ) (l : Lit) → HasFrom (list_of lists l) 0 m → HasFrom (list_of (with_watch lists (lit_of new.first) w) l) 0 m
    grown m l g = has-with lists (lit_of new.first) (list_of lists (lit_of new.first) ++ w ∷ []) room m (λ k. has-push (list_of lists (lit_of new.first)) w 0 m k) l g

    newest : HasFrom (list_of (with_watch lists (lit_of new.first) w) (lit_of new.first)) 0 q
    newest =
        subst (λ (ws : List Watch). HasFrom ws 0 q) (sym (list-same lists (lit_of new.first) (list_of lists (lit_of new.first) ++ w ∷ []) room))
        (subst (λ (k : ℕ). HasFrom (list_of lists (lit_of new.first) ++ w ∷ []) 0 k) same (has-last (list_of lists (lit_of new.first)) w))

    listed : HasFrom (list_of lists (lit_of new.second)) 0 q
    listed = elim other [
      | inl e ↦ subst (λ (l : Lit). HasFrom (list_of lists l) 0 q) e (h.first q old old_at apart)
      | inr e ↦ subst (λ (l : Lit). HasFrom (list_of lists l) 0 q) e (h.second q old old_at apart)
    ]

    pub linked-moved : AreLinked n clauses (set pairs q new) (with_watch lists (lit_of new.first) w)
    linked-moved = record {
      count = length-set pairs q new ∙ h.count;
      room = omega (arith, h.room, length-lists lists (lit_of new.first) (list_of lists (lit_of new.first) ++ w ∷ []));
      watches = watch-with lists (lit_of new.first) (list_of lists (lit_of new.first) ++ w ∷ []) room (λ (x : Watch). IsWatch clauses (set pairs q new) x)
          (watch-push (list_of lists (lit_of new.first)) w (λ (x : Watch). IsWatch clauses (set pairs q new) x) watch-new (λ i x there. watch-moved x (h.watches (lit_of new.first) i x there)))
          (λ l i x there. watch-moved x (h.watches l i x there));
      first = λ m p there different. elim (get-set pairs q m new p within there) [
        | inl g ↦ subst (λ (x : Pair). HasFrom (list_of (with_watch lists (lit_of new.first) w) (lit_of x.first)) 0 m) g.1
            (subst (λ (k : ℕ). HasFrom (list_of (with_watch lists (lit_of new.first) w) (lit_of new.first)) 0 k) (sym g.0) newest)
        | inr g ↦ grown m (lit_of p.first) (h.first m p g.1 different)
      ];
      second = λ m p there different. elim (get-set pairs q m new p within there) [
        | inl g ↦ subst (λ (x : Pair). HasFrom (list_of (with_watch lists (lit_of new.first) w) (lit_of x.second)) 0 m) g.1
            (subst (λ (k : ℕ). HasFrom (list_of (with_watch lists (lit_of new.first) w) (lit_of new.second)) 0 k) (sym g.0) (grown q (lit_of new.second) listed))
        | inr g ↦ grown m (lit_of p.second) (h.second m p g.1 different)
      ];
    }

  -- one more clause
  module _ (c : List Lit) (new : Pair) where
    watch-grown : (x : Watch) → IsWatch clauses pairs x → IsWatch (clauses ++ c ∷ []) (pairs ++ new ∷ []) x
    watch-grown x g = record {
      clause = g.clause;
      pair = g.pair;
      at = get-kept clauses c g.clause x.clause g.at;
      pair_at = get-kept pairs new g.pair x.clause g.pair_at;
      is = g.is;
      blocker = g.blocker;
    }

    -- the pair at an index is the new one, or was there before
    pair-split : (m : ℕ) (p : Pair) → slice_get (pairs ++ new ∷ []) m ≡ Some p → ((m ≡ length pairs) × (new ≡ p)) ⊎ (slice_get pairs m ≡ Some p)
    pair-split m p at = elim (cases_eq m (length pairs)) [
      | inl e ↦ inl (e, get-late pairs new p m e at)
      | inr ne ↦ inr (get-early pairs new p m (omega (arith, ne, length-push pairs new, slice_get_within (pairs ++ new ∷ []) m p at)) at)
    ]

    -- that watches nothing
    pub linked-none : lit_of new.first ≡ lit_of new.second → AreLinked n (clauses ++ c ∷ []) (pairs ++ new ∷ []) lists
    linked-none same = record {
      count = omega (arith, h.count, length-push clauses c, length-push pairs new);
      room = h.room;
      watches = λ l i x there. watch-grown x (h.watches l i x there);
      first = λ m p there different. elim (pair-split m p there) [
        | inl g ↦ absurd (subst (λ (x : Pair). AreApart x) (sym g.1) different same)
        | inr g ↦ h.first m p g different
      ];
      second = λ m p there different. elim (pair-split m p there) [
        | inl g ↦ absurd (subst (λ (x : Pair). AreApart x) (sym g.1) different same)
        | inr g ↦ h.second m p g different
      ];
    }

    -- that watches its pair
    module _ (is : IsPair c new) (room1 : index_of (lit_of new.first) < length lists) (room2 : index_of (lit_of new.second) < length lists)
        (w1 w2 : Watch) (same1 : w1.clause ≡ length pairs) (same2 : w2.clause ≡ length pairs) (blocks1 : w1.blocker ≡ new.second) (blocks2 : w2.blocker ≡ new.first) where
      watch-one : (x : Watch) → x.clause ≡ length pairs → Has c (lit_of x.blocker) → IsWatch (clauses ++ c ∷ []) (pairs ++ new ∷ []) x
      watch-one x same has = record {
        clause = c;
        pair = new;
        at = subst (λ (k : ℕ). slice_get (clauses ++ c ∷ []) k ≡ Some c) (sym (same ∙ h.count)) (get-last clauses c);
        pair_at = subst (λ (k : ℕ). slice_get (pairs ++ new ∷ []) k ≡ Some new) (sym same) (get-last pairs new);
        is = is;
        blocker = has;
      }

      abbrev lists1 : List (List Watch)
      lists1 = with_watch lists (lit_of new.first) w1

      abbrev lists2 : List (List Watch)
      lists2 = with_watch lists1 (lit_of new.second) w2

      room2' : index_of (lit_of new.second) < length lists1
      room2' = omega (arith, room2, length-lists lists (lit_of new.first) (list_of lists (lit_of new.first) ++ w1 ∷ []))

      grown1 : (m : ℕ) (l : Lit) → HasFrom (list_of lists l) 0 m → HasFrom (list_of lists1 l) 0 m
      grown1 m l g = has-with lists (lit_of new.first) (list_of lists (lit_of new.first) ++ w1 ∷ []) room1 m (λ k. has-push (list_of lists (lit_of new.first)) w1 0 m k) l g

      grown2 : (m : ℕ) (l : Lit) → HasFrom (list_of lists1 l) 0 m → HasFrom (list_of lists2 l) 0 m
      grown2 m l g = has-with lists1 (lit_of new.second) (list_of lists1 (lit_of new.second) ++ w2 ∷ []) room2' m (λ k. has-push (list_of lists1 (lit_of new.second)) w2 0 m k) l g

      newest1 : HasFrom (list_of lists1 (lit_of new.first)) 0 (length pairs)
      newest1 =
          subst (λ (ws : List Watch). HasFrom ws 0 (length pairs)) (sym (list-same lists (lit_of new.first) (list_of lists (lit_of new.first) ++ w1 ∷ []) room1))
          (subst (λ (k : ℕ). HasFrom (list_of lists (lit_of new.first) ++ w1 ∷ []) 0 k) same1 (has-last (list_of lists (lit_of new.first)) w1))

      newest2 : HasFrom (list_of lists2 (lit_of new.second)) 0 (length pairs)
      newest2 =
          subst (λ (ws : List Watch). HasFrom ws 0 (length pairs)) (sym (list-same lists1 (lit_of new.second) (list_of lists1 (lit_of new.second) ++ w2 ∷ []) room2'))
          (subst (λ (k : ℕ). HasFrom (list_of lists1 (lit_of new.second) ++ w2 ∷ []) 0 k) same2 (has-last (list_of lists1 (lit_of new.second)) w2))

      watches1 : (l : Lit) (i : ℕ) (x : Watch) → slice_get (list_of lists1 l) i ≡ Some x → IsWatch (clauses ++ c ∷ []) (pairs ++ new ∷ []) x
      watches1 = watch-with lists (lit_of new.first) (list_of lists (lit_of new.first) ++ w1 ∷ []) room1 (λ (x : Watch). IsWatch (clauses ++ c ∷ []) (pairs ++ new ∷ []) x)
          (watch-push (list_of lists (lit_of new.first)) w1 (λ (x : Watch). IsWatch (clauses ++ c ∷ []) (pairs ++ new ∷ []) x)
          (watch-one w1 same1 (subst (λ (b : Code). Has c (lit_of b)) (sym blocks1) is.second)) (λ i x there. watch-grown x (h.watches (lit_of new.first) i x there)))
          (λ l i x there. watch-grown x (h.watches l i x there))

      pub linked-added : AreLinked n (clauses ++ c ∷ []) (pairs ++ new ∷ []) lists2
      linked-added = record {
        count = omega (arith, h.count, length-push clauses c, length-push pairs new);
        room = omega (arith, h.room, length-lists lists (lit_of new.first) (list_of lists (lit_of new.first) ++ w1 ∷ []), length-lists lists1 (lit_of new.second) (list_of lists1 (lit_of new.second) ++ w2 ∷ []));
        watches = watch-with lists1 (lit_of new.second) (list_of lists1 (lit_of new.second) ++ w2 ∷ []) room2' (λ (x : Watch). IsWatch (clauses ++ c ∷ []) (pairs ++ new ∷ []) x)
            (watch-push (list_of lists1 (lit_of new.second)) w2 (λ (x : Watch). IsWatch (clauses ++ c ∷ []) (pairs ++ new ∷ []) x)
            (watch-one w2 same2 (subst (λ (b : Code). Has c (lit_of b)) (sym blocks2) is.first)) (λ i x there. watches1 (lit_of new.second) i x there)) watches1;
        first = λ m p there different. elim (pair-split m p there) [
          | inl g ↦ subst (λ (x : Pair). HasFrom (list_of lists2 (lit_of x.first)) 0 m) g.1
              (subst (λ (k : ℕ). HasFrom (list_of lists2 (lit_of new.first)) 0 k) (sym g.0) (grown2 (length pairs) (lit_of new.first) newest1))
          | inr g ↦ grown2 m (lit_of p.first) (grown1 m (lit_of p.first) (h.first m p g different))
        ];
        second = λ m p there different. elim (pair-split m p there) [
          | inl g ↦ subst (λ (x : Pair). HasFrom (list_of lists2 (lit_of x.second)) 0 m) g.1
              (subst (λ (k : ℕ). HasFrom (list_of lists2 (lit_of new.second)) 0 k) (sym g.0) newest2)
          | inr g ↦ grown2 m (lit_of p.second) (grown1 m (lit_of p.second) (h.second m p g different))
        ];
      }

-- nothing is watched at first
pub linked-empty : (n : ℕ) (pairs : List Pair) (lists : List (List Watch)) → pairs ≡ [] → length lists ≡ 2 * n + 2
    → ((k : ℕ) (ws : List Watch) → slice_get lists k ≡ Some ws → ws ≡ []) → AreLinked n [] pairs lists
linked-empty n pairs lists none count empty = record {
  count = ap length none;
  room = omega (arith, count);
  watches = λ l i w at. absurd (nothing lists (index_of l) (λ ws. empty (index_of l) ws) i w at);
  first = λ m p at apart. let f : slice_get [] m ≡ Some p = subst (λ (ps : List Pair). slice_get ps m ≡ Some p) none at in cc;
  second = λ m p at apart. let f : slice_get [] m ≡ Some p = subst (λ (ps : List Pair). slice_get ps m ≡ Some p) none at in cc;
}
  where
    nothing : (ls : List (List Watch)) (k : ℕ) → ((ws : List Watch) → slice_get ls k ≡ Some ws → ws ≡ []) → (i : ℕ) (w : Watch) → slice_get (get_or ls k []) i ≡ Some w → ⊥
    nothing [] zero e i w at = cc
    nothing [] (suc k) e i w at = cc
    nothing (x ∷ xs) zero e i w at = let f : slice_get [] i ≡ Some w = subst (λ (ws : List Watch). slice_get ws i ≡ Some w) (e x refl) at in cc
    nothing (x ∷ xs) (suc k) e i w at = nothing xs k e i w at
