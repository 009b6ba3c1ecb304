-- Which clause has which number.
use Rattle.log_tidy.proofs.Common.{option_and_then, ℕ, zero, suc, ◌≡◌, ◌<◌, ◌≤◌, ◌+◌, ◌-◌, ◌++◌, inl, inr, Bool, cond, List, [], ◌∷◌, Some, None, length, slice_get, take, map, ltb, get_or, arith, sym, ap, subst, refl, ◌∙◌, length-append, cases_Bool, le-ltb, lt-ltb, ltb-true, ne_eqb, get_or_append_left, length-map, length-take, get_or_from_slice_get, option_and_then_some, slice_get_within, Lit, Step, Has, resolvent, chain_resolvent, clause_numbered, resolved_along, IsSoundAt, standing_before, IsBelow, new_number}

abbrev pub clauses_of : List Step → List (List Lit)
clauses_of steps = map (λ (s : Step). s.clause) steps

module _ {X : Type 0} where
  pub get-left : (xs ys : List X) (i : ℕ) → i < length xs → slice_get (xs ++ ys) i ≡ slice_get xs i
  get-left [] ys i lt = absurd (omega (arith, lt))
  get-left (x ∷ xs) ys zero lt = refl
  get-left (x ∷ xs) ys (suc i) lt = get-left xs ys i (omega (arith, lt))

  pub get-right : (xs ys : List X) (j : ℕ) → slice_get (xs ++ ys) (length xs + j) ≡ slice_get ys j
  get-right [] ys j = ap (slice_get ys) (let e : 0 + j ≡ j = omega arith in e)
  get-right (x ∷ xs) ys j = ap (slice_get (x ∷ (xs ++ ys))) (let e : length (x ∷ xs) + j ≡ suc (length xs + j) = omega arith in e) ∙ get-right xs ys j

-- the clause of a step at an index
pub get-clause : (steps : List Step) (i : ℕ) (s : Step) → slice_get steps i ≡ Some s → slice_get (clauses_of steps) i ≡ Some s.clause
get-clause [] i s e = absurd (let x : ⊥ = cc in x)
get-clause (t ∷ ts) zero s e = let it : t ≡ s = cc in ap (λ (u : Step). Some u.clause) it
get-clause (t ∷ ts) (suc i) s e = get-clause ts i s e

pub clause-get : (steps : List Step) (i : ℕ) (d : List Lit) → slice_get (clauses_of steps) i ≡ Some d → (s : Step) × (slice_get steps i ≡ Some s) × (s.clause ≡ d)
clause-get [] i d e = absurd (let x : ⊥ = cc in x)
clause-get (t ∷ ts) zero d e = (t, refl, let it : t.clause ≡ d = cc in it)
clause-get (t ∷ ts) (suc i) d e = clause-get ts i d e

pub numbered-from : (cs : List (List Lit)) (n i : ℕ) → n ≡ i + 1 → clause_numbered cs n ≡ slice_get cs i
numbered-from cs n i e =
    ap (λ (b : Bool). cond b None (slice_get cs (n - 1))) (ne_eqb n 0 (λ z. omega (arith, e, z)))
    ∙ ap (slice_get cs) (let it : n - 1 ≡ i = omega (arith, e) in it)

pub numbered-positive : (cs : List (List Lit)) (n : ℕ) (d : List Lit) → clause_numbered cs n ≡ Some d → 0 < n
numbered-positive cs zero d e = absurd (let x : ⊥ = cc in x)
numbered-positive cs (suc n) d e = omega arith

-- a number that has a clause is within the list
pub numbered-within : (cs : List (List Lit)) (n : ℕ) (d : List Lit) → clause_numbered cs n ≡ Some d → n ≤ length cs
numbered-within cs n d e =
    let pos = numbered-positive cs n d e in
    let at : slice_get cs (n - 1) ≡ Some d = sym (numbered-from cs n (n - 1) (omega (arith, pos))) ∙ e in
    omega (arith, pos, slice_get_within cs (n - 1) d at)

-- a clause of the list has its number also where more follow
pub numbered-left : (cs ds : List (List Lit)) (n : ℕ) (d : List Lit) → clause_numbered cs n ≡ Some d → clause_numbered (cs ++ ds) n ≡ Some d
numbered-left cs ds n d e =
    let pos = numbered-positive cs n d e in
    let within = numbered-within cs n d e in
    let back : n ≡ (n - 1) + 1 = omega (arith, pos) in
    numbered-from (cs ++ ds) n (n - 1) back ∙ (get-left cs ds (n - 1) (omega (arith, pos, within)) ∙ (sym (numbered-from cs n (n - 1) back) ∙ e))

pub left-numbered : (cs ds : List (List Lit)) (n : ℕ) (d : List Lit) → n ≤ length cs → clause_numbered (cs ++ ds) n ≡ Some d → clause_numbered cs n ≡ Some d
left-numbered cs ds n d le e =
    let pos = numbered-positive (cs ++ ds) n d e in
    let back : n ≡ (n - 1) + 1 = omega (arith, pos) in
    numbered-from cs n (n - 1) back ∙ (sym (get-left cs ds (n - 1) (omega (arith, pos, le))) ∙ (sym (numbered-from (cs ++ ds) n (n - 1) back) ∙ e))

-- the steps are numbered after the list
pub numbered-step : (cs : List (List Lit)) (steps : List Step) (n j : ℕ) (s : Step) → n ≡ length cs + j + 1 → slice_get steps j ≡ Some s → clause_numbered (cs ++ clauses_of steps) n ≡ Some s.clause
numbered-step cs steps n j s e at = numbered-from (cs ++ clauses_of steps) n (length cs + j) e ∙ (get-right cs (clauses_of steps) j ∙ get-clause steps j s at)

pub step-numbered : (cs : List (List Lit)) (steps : List Step) (n j : ℕ) (d : List Lit) → n ≡ length cs + j + 1 → clause_numbered (cs ++ clauses_of steps) n ≡ Some d
    → (s : Step) × (slice_get steps j ≡ Some s) × (s.clause ≡ d)
step-numbered cs steps n j d e at = clause-get steps j d (sym (get-right cs (clauses_of steps) j) ∙ (sym (numbered-from (cs ++ clauses_of steps) n (length cs + j) e) ∙ at))

-- each number of a chain with a resolvent has a clause
pub along-each : (cs : List (List Lit)) (ns : List ℕ) (c r : List Lit) → resolved_along cs c ns ≡ Some r → (n : ℕ) → Has ns n → n ≤ length cs
along-each cs [] c r e n h = absurd h
along-each cs (k ∷ ks) c r e n h =
    option_and_then_some (λ d. option_and_then (λ x. resolved_along cs x ks) (resolvent c d)) (clause_numbered cs k) r e
    (λ d at e'. option_and_then_some (λ x. resolved_along cs x ks) (resolvent c d) r e'
    (λ x is e''. elim h [ inl same ↦ subst (λ m. m ≤ length cs) same (numbered-within cs k d at) | inr g ↦ along-each cs ks x r e'' n g ]))

pub chain-each : (cs : List (List Lit)) (ns : List ℕ) (r : List Lit) → chain_resolvent cs ns ≡ Some r → (n : ℕ) → Has ns n → n ≤ length cs
chain-each cs [] r e n h = absurd h
chain-each cs (k ∷ ks) r e n h =
    option_and_then_some (λ c. resolved_along cs c ks) (clause_numbered cs k) r e
    (λ c at e'. elim h [ inl same ↦ subst (λ m. m ≤ length cs) same (numbered-within cs k c at) | inr g ↦ along-each cs ks c r e' n g ])

pub length-before : (clauses : List (List Lit)) (log : List Step) (i : ℕ) → length (standing_before clauses log i) ≤ length clauses + i
length-before clauses log i = omega (arith, length-append clauses (clauses_of (take i log)), length-map (take i log) (λ (s : Step). s.clause), length-take i log)

-- a sound step is resolved from earlier clauses
pub sound-below : (clauses : List (List Lit)) (log : List Step) (i : ℕ) → IsSoundAt clauses log i → IsBelow (length clauses) log i
sound-below clauses log i (t, at, chain) s n here has =
    let same : t ≡ s = cc in
    let its : Has t.chain n = subst (λ (u : Step). Has u.chain n) (sym same) has in
    omega (arith, chain-each (standing_before clauses log i) t.chain t.clause chain n its, length-before clauses log i)

module _ (f : ℕ → ℕ) (old new : List (List Lit)) where
  -- the same clauses by other numbers have the same resolvent
  along-same : (ns : List ℕ) (c r : List Lit) → ((n : ℕ) (d : List Lit) → Has ns n → clause_numbered old n ≡ Some d → clause_numbered new (f n) ≡ Some d)
      → resolved_along old c ns ≡ Some r → resolved_along new c (map f ns) ≡ Some r
  along-same [] c r h e = e
  along-same (n ∷ ns) c r h e =
      option_and_then_some (λ d. option_and_then (λ x. resolved_along old x ns) (resolvent c d)) (clause_numbered old n) r e
      (λ d at e'. option_and_then_some (λ x. resolved_along old x ns) (resolvent c d) r e'
      (λ x is e''.
      ap (option_and_then (λ d'. option_and_then (λ x'. resolved_along new x' (map f ns)) (resolvent c d'))) (h n d (inl refl) at)
      ∙ (ap (option_and_then (λ x'. resolved_along new x' (map f ns))) is ∙ along-same ns x r (λ m d' g. h m d' (inr g)) e'')))

  pub chain-same : (ns : List ℕ) (r : List Lit) → ((n : ℕ) (d : List Lit) → Has ns n → clause_numbered old n ≡ Some d → clause_numbered new (f n) ≡ Some d)
      → chain_resolvent old ns ≡ Some r → chain_resolvent new (map f ns) ≡ Some r
  chain-same [] r h e = absurd (let x : ⊥ = cc in x)
  chain-same (n ∷ ns) r h e =
      option_and_then_some (λ c. resolved_along old c ns) (clause_numbered old n) r e
      (λ c at e'. ap (option_and_then (λ c'. resolved_along new c' (map f ns))) (h n c (inl refl) at) ∙ along-same ns c r (λ m d' g. h m d' (inr g)) e')

pub new_number-first : (count : ℕ) (numbers : List ℕ) (n : ℕ) → n ≤ count → new_number count numbers n ≡ n
new_number-first count numbers n le = ap (λ (b : Bool). cond b (get_or numbers (n - count - 1) 0) n) (le-ltb count n le)

pub new_number-step : (count : ℕ) (numbers : List ℕ) (n k m : ℕ) → n ≡ count + k + 1 → slice_get numbers k ≡ Some m → new_number count numbers n ≡ m
new_number-step count numbers n k m e at =
    ap (λ (b : Bool). cond b (get_or numbers (n - count - 1) 0) n) (lt-ltb count n (omega (arith, e)))
    ∙ (ap (λ i. get_or numbers i 0) (let it : n - count - 1 ≡ k = omega (arith, e) in it) ∙ get_or_from_slice_get numbers k m 0 at)

-- the numbers so far stay as the table grows
pub new_number-more : (count : ℕ) (numbers : List ℕ) (x n : ℕ) → n ≤ count + length numbers → new_number count (numbers ++ x ∷ []) n ≡ new_number count numbers n
new_number-more count numbers x n le = elim (cases_Bool (ltb count n)) [
  | inl e ↦
      ap (λ (b : Bool). cond b (get_or (numbers ++ x ∷ []) (n - count - 1) 0) n) e
      ∙ (get_or_append_left numbers (x ∷ []) 0 (n - count - 1) (omega (arith, le, ltb-true count n e))
      ∙ sym (ap (λ (b : Bool). cond b (get_or numbers (n - count - 1) 0) n) e))
  | inr e ↦ ap (λ (b : Bool). cond b (get_or (numbers ++ x ∷ []) (n - count - 1) 0) n) e ∙ sym (ap (λ (b : Bool). cond b (get_or numbers (n - count - 1) 0) n) e)
]

pub map-same : (f g : ℕ → ℕ) (ns : List ℕ) → ((n : ℕ) → Has ns n → f n ≡ g n) → map f ns ≡ map g ns
map-same f g [] h = refl
map-same f g (n ∷ ns) h = ap (λ m. m ∷ map f ns) (h n (inl refl)) ∙ ap (λ (ms : List ℕ). g n ∷ ms) (map-same f g ns (λ m k. h m (inr k)))
