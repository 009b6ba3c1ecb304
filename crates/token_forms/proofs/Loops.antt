-- Parts, as a loop reads them.
use Rattle.token_forms.proofs.Common.{◌≡◌, ◌≢◌, ◌-◌, take, drop, get_or, ℕ, zero, suc, ◌<◌, ◌≤◌, ◌⊎◌, inl, inr, Bool, true, false, List, [], ◌∷◌, length, Option, Some, None, refl, sym, ap, ◌∙◌, arith, Lexeme, ReadFault, Unfit, PastLimit, NoMemory, Fails, Why, unfit, limit, Reading, reads, stops, and_then, Judged, none, past, found, begun, beginning, begin_of, parts, step_from, step_of, Syntax, Bracket, nesting_of, open_behind, until_closed}
use Rattle.std.proofs.Math.Seq.{take-length}

abbrev pub Part : Type 0 → Type 0 → Type 0
Part A S = S → A → List Lexeme → Reading S

-- what is left to read, in some number of steps
pub record Left {A S : Type 0} (goes_on : Lexeme → Bool) (begins : S → Lexeme → Option A) (within : S → Lexeme → Bool) (part : Part A S) (s : S) (rest : List Lexeme) (whole : Reading S) : Type 0 where
  pub steps : ℕ
  pub enough : length rest ≤ steps
  pub so_far : parts true goes_on begins within part steps s rest ≡ whole

module _ {A S : Type 0} (goes_on : Lexeme → Bool) (begins : S → Lexeme → Option A) (within : S → Lexeme → Bool) (part : Part A S) where
  abbrev begins_at : S → List Lexeme → Reading (Option A)
  begins_at s ts = begin_of true goes_on (begins s) (within s) ts

  pub at_start : (s : S) (ts : List Lexeme) → Left goes_on begins within part s ts (parts true goes_on begins within part (length ts) s ts)
  at_start s ts = record { steps = length ts; enough = omega arith; so_far = refl }

  pub begins-shorter : (s : S) (ts : List Lexeme) (a : A) (q : List Lexeme) → begins_at s ts ≡ reads (Some a) q → length q < length ts
  begins-shorter s [] a q e = absurd (cc e)
  begins-shorter s (t ∷ r) a q e = go (begun true (within s t) (goes_on t) (begins s t)) e
    where
      go : (j : Judged A) → beginning j t r ≡ reads (Some a) q → length q < length (t ∷ r)
      go none e' = absurd (cc e')
      go past e' = absurd (cc e')
      go (found x) e' = let left : r ≡ q = cc e' in omega (arith, ap length left)

  pub no_more : (s : S) (ts rest : List Lexeme) (whole : Reading S) → begins_at s ts ≡ reads None rest → Left goes_on begins within part s ts whole → whole ≡ reads s rest
  unfolding parts
  no_more s [] rest whole e left = go left.steps left.so_far
    where
      go : (n : ℕ) → parts true goes_on begins within part n s [] ≡ whole → whole ≡ reads s rest
      go zero so = let nil : [] ≡ rest = cc e in sym so ∙ ap (λ (us : List Lexeme). reads s us) nil
      go (suc n) so = let nil : [] ≡ rest = cc e in sym so ∙ ap (λ (us : List Lexeme). reads s us) nil
  no_more s (t ∷ r) rest whole e left = by (begun true (within s t) (goes_on t) (begins s t)) refl e
    where
      by : (j : Judged A) → begun true (within s t) (goes_on t) (begins s t) ≡ j → beginning j t r ≡ reads None rest → whole ≡ reads s rest
      by past is e' = absurd (cc e')
      by (found x) is e' = absurd (cc e')
      by none is e' = go left.steps left.so_far
        where
          same : t ∷ r ≡ rest
          same = cc e'

          go : (n : ℕ) → parts true goes_on begins within part n s (t ∷ r) ≡ whole → whole ≡ reads s rest
          go zero so = sym so ∙ ap (λ (us : List Lexeme). reads s us) same
          go (suc n) so = sym (rw is at so) ∙ ap (λ (us : List Lexeme). reads s us) same

  -- with a part that begins here
  unrolled : (s : S) (ts q : List Lexeme) (a : A) (whole : Reading S) → begins_at s ts ≡ reads (Some a) q → (n : ℕ) → length ts ≤ n → parts true goes_on begins within part n s ts ≡ whole
      → (m : ℕ) × (length q ≤ m) × (and_then (part s a q) (λ s' rest. parts true goes_on begins within part m s' rest) ≡ whole)
  unfolding parts
  unrolled s [] q a whole e n h so = absurd (cc e)
  unrolled s (t ∷ r) q a whole e zero h so = absurd (omega arith)
  unrolled s (t ∷ r) q a whole e (suc n) h so = by (begun true (within s t) (goes_on t) (begins s t)) refl e
    where
      by : (j : Judged A) → begun true (within s t) (goes_on t) (begins s t) ≡ j → beginning j t r ≡ reads (Some a) q → (m : ℕ) × (length q ≤ m) × (and_then (part s a q) (λ s' rest. parts true goes_on begins within part m s' rest) ≡ whole)
      by none is e' = absurd (cc e')
      by past is e' = absurd (cc e')
      by (found x) is e' =
          let same : r ≡ q = cc e' in
          let value : x ≡ a = cc e' in
          (n, omega (arith, ap length same), rw (← same, ← value) (rw is at so))

  pub one_more : (s s1 : S) (ts q rest : List Lexeme) (a : A) (whole : Reading S) → begins_at s ts ≡ reads (Some a) q → part s a q ≡ reads s1 rest → length rest ≤ length q → Left goes_on begins within part s ts whole → Left goes_on begins within part s1 rest whole
  one_more s s1 ts q rest a whole e p shorter left =
      let U = unrolled s ts q a whole e left.steps left.enough left.so_far in
      record { steps = U.0; enough = omega (arith, U.1); so_far = rw p at U.2 }

  pub part_stops : (s : S) (ts q rest : List Lexeme) (a : A) (why : Why) (whole : Reading S) → begins_at s ts ≡ reads (Some a) q → part s a q ≡ stops why rest → Left goes_on begins within part s ts whole → whole ≡ stops why rest
  part_stops s ts q rest a why whole e p left =
      let U = unrolled s ts q a whole e left.steps left.enough left.so_far in
      sym (rw p at U.2)

  pub begin_stops : (s : S) (ts rest : List Lexeme) (why : Why) (whole : Reading S) → begins_at s ts ≡ stops why rest → Left goes_on begins within part s ts whole → whole ≡ stops why rest
  unfolding parts
  begin_stops s [] rest why whole e left = absurd (cc e)
  begin_stops s (t ∷ r) rest why whole e left = by (begun true (within s t) (goes_on t) (begins s t)) refl e
    where
      by : (j : Judged A) → begun true (within s t) (goes_on t) (begins s t) ≡ j → beginning j t r ≡ stops why rest → whole ≡ stops why rest
      by none is e' = absurd (cc e')
      by (found x) is e' = absurd (cc e')
      by past is e' = go left.steps left.enough left.so_far
        where
          go : (n : ℕ) → length (t ∷ r) ≤ n → parts true goes_on begins within part n s (t ∷ r) ≡ whole → whole ≡ stops why rest
          go zero h so = absurd (omega arith)
          go (suc n) h so =
              let why-is : limit ≡ why = cc e' in
              let left-is : t ∷ r ≡ rest = cc e' in
              sym (rw is at so) ∙ ap (λ (v : Why). stops v (t ∷ r)) why-is ∙ ap (λ (us : List Lexeme). stops why us) left-is

  -- the same for what a function answers
  pub begin_fails : (s : S) (ts rest : List Lexeme) (fault : ReadFault) (whole : Reading S) → Fails fault rest (begins_at s ts) → Left goes_on begins within part s ts whole → Fails fault rest whole
  begin_fails s ts rest (Unfit reason) whole e left = begin_stops s ts rest (unfit reason) whole e left
  begin_fails s ts rest PastLimit whole e left = begin_stops s ts rest limit whole e left
  begin_fails s ts rest NoMemory whole e left = tt

  pub part_fails : (s : S) (ts q rest : List Lexeme) (a : A) (fault : ReadFault) (whole : Reading S) → begins_at s ts ≡ reads (Some a) q → Fails fault rest (part s a q) → Left goes_on begins within part s ts whole → Fails fault rest whole
  part_fails s ts q rest a (Unfit reason) whole b e left = part_stops s ts q rest a (unfit reason) whole b e left
  part_fails s ts q rest a PastLimit whole b e left = part_stops s ts q rest a limit whole b e left
  part_fails s ts q rest a NoMemory whole b e left = tt

  -- ---- a step of a loop: a part where one begins

  module _ (shorter : (s : S) (a : A) (ts : List Lexeme) (x : S) (rest : List Lexeme) → part s a ts ≡ reads x rest → length rest ≤ length ts) where
    step-cases : (s s1 : S) (b : Bool) (ts rest : List Lexeme) → step_of goes_on begins within part s ts ≡ reads (s1, b) rest → ((b ≡ false) × (s ≡ s1) × (begins_at s ts ≡ reads None rest)) ⊎ ((b ≡ true) × (a : A) × (q : List Lexeme) × (begins_at s ts ≡ reads (Some a) q) × (part s a q ≡ reads s1 rest))
    step-cases s s1 b ts rest e = go (begins_at s ts) refl e
      where
        inner : (a : A) (q : List Lexeme) → begins_at s ts ≡ reads (Some a) q → (z : Reading S) → part s a q ≡ z → and_then {X = S × Bool} z (λ next behind. reads (next, true) behind) ≡ reads (s1, b) rest → ((b ≡ false) × (s ≡ s1) × (begins_at s ts ≡ reads None rest)) ⊎ ((b ≡ true) × (a : A) × (q : List Lexeme) × (begins_at s ts ≡ reads (Some a) q) × (part s a q ≡ reads s1 rest))
        inner a q is (stops why r) pe e' = absurd (cc e')
        inner a q is (reads next behind) pe e' =
            let both : (let p : S × Bool = (next, true) in p) ≡ (s1, b) = cc e' in
            let value : next ≡ s1 = ap (λ (p : S × Bool). p.0) both in
            let left : behind ≡ rest = cc e' in
            inr (sym (ap (λ (p : S × Bool). p.1) both), a, q, is, pe ∙ ap (λ (x : S). reads x behind) value ∙ ap (λ (us : List Lexeme). reads s1 us) left)

        go : (z : Reading (Option A)) → begins_at s ts ≡ z → and_then {X = S × Bool} z (λ a r. step_from part s a r) ≡ reads (s1, b) rest → ((b ≡ false) × (s ≡ s1) × (begins_at s ts ≡ reads None rest)) ⊎ ((b ≡ true) × (a : A) × (q : List Lexeme) × (begins_at s ts ≡ reads (Some a) q) × (part s a q ≡ reads s1 rest))
        go (stops why r) is e' = absurd (cc e')
        go (reads None r) is e' =
            let both : (let p : S × Bool = (s, false) in p) ≡ (s1, b) = cc e' in
            let left : r ≡ rest = cc e' in
            inl (sym (ap (λ (p : S × Bool). p.1) both), ap (λ (p : S × Bool). p.0) both, is ∙ ap (λ (us : List Lexeme). reads None us) left)
        go (reads (Some a) q) is e' = inner a q is (part s a q) refl e'

    pub step-more : (s s1 : S) (ts rest : List Lexeme) (whole : Reading S) → step_of goes_on begins within part s ts ≡ reads (s1, true) rest → Left goes_on begins within part s ts whole → Left goes_on begins within part s1 rest whole
    step-more s s1 ts rest whole e left = go (step-cases s s1 true ts rest e)
      where
        go : ((true ≡ false) × (s ≡ s1) × (begins_at s ts ≡ reads None rest)) ⊎ ((true ≡ true) × (a : A) × (q : List Lexeme) × (begins_at s ts ≡ reads (Some a) q) × (part s a q ≡ reads s1 rest)) → Left goes_on begins within part s1 rest whole
        go (inl (no_part, same, is)) = absurd (cc no_part)
        go (inr (some, a, q, is, p)) = one_more s s1 ts q rest a whole is p (shorter s a q s1 rest p) left

    pub step-shorter : (s s1 : S) (ts rest : List Lexeme) → step_of goes_on begins within part s ts ≡ reads (s1, true) rest → length rest < length ts
    step-shorter s s1 ts rest e = go (step-cases s s1 true ts rest e)
      where
        go : ((true ≡ false) × (s ≡ s1) × (begins_at s ts ≡ reads None rest)) ⊎ ((true ≡ true) × (a : A) × (q : List Lexeme) × (begins_at s ts ≡ reads (Some a) q) × (part s a q ≡ reads s1 rest)) → length rest < length ts
        go (inl (no_part, same, is)) = absurd (cc no_part)
        go (inr (some, a, q, is, p)) = omega (arith, shorter s a q s1 rest p, begins-shorter s ts a q is)

    pub step-done : (s s1 : S) (ts rest : List Lexeme) (whole : Reading S) → step_of goes_on begins within part s ts ≡ reads (s1, false) rest → Left goes_on begins within part s ts whole → whole ≡ reads s1 rest
    step-done s s1 ts rest whole e left = go (step-cases s s1 false ts rest e)
      where
        go : ((false ≡ false) × (s ≡ s1) × (begins_at s ts ≡ reads None rest)) ⊎ ((false ≡ true) × (a : A) × (q : List Lexeme) × (begins_at s ts ≡ reads (Some a) q) × (part s a q ≡ reads s1 rest)) → whole ≡ reads s1 rest
        go (inl (no_part, same, is)) = no_more s ts rest whole is left ∙ ap (λ (x : S). reads x rest) same
        go (inr (some, a, q, is, p)) = absurd (cc some)

    pub step-stops : (s : S) (ts rest : List Lexeme) (why : Why) (whole : Reading S) → step_of goes_on begins within part s ts ≡ stops why rest → Left goes_on begins within part s ts whole → whole ≡ stops why rest
    step-stops s ts rest why whole e left = go (begins_at s ts) refl e
      where
        inner : (a : A) (q : List Lexeme) → begins_at s ts ≡ reads (Some a) q → (z : Reading S) → part s a q ≡ z → and_then {X = S × Bool} z (λ next behind. reads (next, true) behind) ≡ stops why rest → whole ≡ stops why rest
        inner a q is (reads next behind) pe e' = absurd (cc e')
        inner a q is (stops w r) pe e' =
            let w-is : w ≡ why = cc e' in
            let left-is : r ≡ rest = cc e' in
            part_stops s ts q rest a why whole is (pe ∙ ap (λ (v : Why). stops v r) w-is ∙ ap (λ (us : List Lexeme). stops why us) left-is) left

        go : (z : Reading (Option A)) → begins_at s ts ≡ z → and_then {X = S × Bool} z (λ a r. step_from part s a r) ≡ stops why rest → whole ≡ stops why rest
        go (stops w r) is e' =
            let w-is : w ≡ why = cc e' in
            let left-is : r ≡ rest = cc e' in
            begin_stops s ts rest why whole (is ∙ ap (λ (v : Why). stops v r) w-is ∙ ap (λ (us : List Lexeme). stops why us) left-is) left
        go (reads None r) is e' = absurd (cc e')
        go (reads (Some a) q) is e' = inner a q is (part s a q) refl e'

    pub step-fails : (s : S) (ts rest : List Lexeme) (fault : ReadFault) (whole : Reading S) → Fails fault rest (step_of goes_on begins within part s ts) → Left goes_on begins within part s ts whole → Fails fault rest whole
    step-fails s ts rest (Unfit reason) whole e left = step-stops s ts rest (unfit reason) whole e left
    step-fails s ts rest PastLimit whole e left = step-stops s ts rest limit whole e left
    step-fails s ts rest NoMemory whole e left = tt

-- ---- up to where no bracket is open

-- the first token of some, and the others
pub first_and_others : (ts : List Lexeme) (t : Lexeme) → 1 ≤ length ts → t ≡ get_or ts 0 t → ts ≡ t ∷ take (length ts - 1) (drop 1 ts)
first_and_others [] t some e = absurd (omega arith)
first_and_others (u ∷ q) t some e =
    let count : suc (length q) - 1 ≡ length q = omega arith in
    let all : take (suc (length q) - 1) q ≡ q = ap (λ (n : ℕ). take n q) count ∙ take-length q in
    ap (λ (v : Lexeme). v ∷ q) (sym e) ∙ ap (λ (us : List Lexeme). t ∷ us) (sym all)

pub closed_more : (open_brackets next : List Bracket) (ts : List Lexeme) (t : Lexeme) (q : List Lexeme) (whole : Reading (Unit {0})) → open_brackets ≢ [] → ts ≡ t ∷ q → open_behind (nesting_of t) open_brackets ≡ Some next → until_closed open_brackets ts ≡ whole → until_closed next q ≡ whole
unfolding until_closed
closed_more [] next ts t q whole some split is e = absurd (some refl)
closed_more (b ∷ outer) next ts t q whole some split is e = rw is at (rw split at e)

pub closed_stops : (open_brackets : List Bracket) (ts : List Lexeme) (t : Lexeme) (q : List Lexeme) (whole : Reading (Unit {0})) → open_brackets ≢ [] → ts ≡ t ∷ q → open_behind (nesting_of t) open_brackets ≡ None → until_closed open_brackets ts ≡ whole → whole ≡ stops (unfit Syntax) ts
unfolding until_closed
closed_stops [] ts t q whole some split is e = absurd (some refl)
closed_stops (b ∷ outer) ts t q whole some split is e = sym (rw is at (rw split at e)) ∙ ap (λ (us : List Lexeme). stops (unfit Syntax) us) (sym split)

pub closed_ends : (open_brackets : List Bracket) (ts : List Lexeme) (whole : Reading (Unit {0})) → open_brackets ≢ [] → length ts < 1 → until_closed open_brackets ts ≡ whole → whole ≡ stops (unfit Syntax) ts
unfolding until_closed
closed_ends [] ts whole some short e = absurd (some refl)
closed_ends (b ∷ outer) [] whole some short e = sym e
closed_ends (b ∷ outer) (t ∷ q) whole some short e = absurd (omega arith)

pub closed_done : (open_brackets : List Bracket) (rest : List Lexeme) (whole : Reading (Unit {0})) → open_brackets ≡ [] → until_closed open_brackets rest ≡ whole → whole ≡ reads tt rest
unfolding until_closed
closed_done open_brackets rest whole none_open e = sym (rw none_open at e)
