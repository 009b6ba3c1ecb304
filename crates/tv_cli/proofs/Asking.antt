-- The uses of the parts of a command ask for what its parts ask for.
use Rattle.tv_cli.proofs.Common.{◌≡◌, ◌++◌, ◌&&◌, ◌||◌, Bool, true, false, true≢false, cond, refl, sym, ap, subst, ◌∙◌, List, [], ◌∷◌, Option, Some, None, append_assoc, fold, bytes_eq, bytes_eq-Decides, Row, or_else, check_fault, with_default, Shape, Text, Part, are_known, is_option, names_in, option, flag, name, unless_fault}
use Rattle.tv_cli.proofs.Given.{other_text}
use Rattle.tv_cli.proofs.Uses.{Knows, Use, flag_value, has, rows_of_uses, taken}
use Rattle.tv_cli.proofs.Arguments.{Each}
use Rattle.tv_cli.proofs.Values.{AreOnce, IsTwice, all_values, given_in, has-values, once-more, same_text, some_value, twice-more, used_values, used_values-end, used_values-other, values-moved, values_with}

-- the rows of these uses, and of defaults
abbrev pub rows_with_defaults : Shape → List Use → List Row
rows_with_defaults s us = fold with_default (rows_of_uses us) s.rules

-- what a walk that used these asks for
abbrev pub outcome_of : {A : Type 0} → Shape → (List Row → Option A) → Option (List Use) → Option A
outcome_of s read None = None
outcome_of s read (Some us) = unless_fault (or_else (check_fault s (rows_with_defaults s us) false) []) (read (rows_with_defaults s us))

-- ---- names of a command, and the values that they have so far

-- the names that are still to come
abbrev pub left : List Text → List Text → List Text
left [] ids = ids
left (n ∷ ns) [] = []
left (n ∷ ns) (id ∷ ids) = left ns ids

-- the first names have one of these values each, and the others have none
abbrev pub AreNamed : List Text → List Text → List Use → Type 0
AreNamed [] ids us = Each (λ id. used_values id us ≡ []) ids
AreNamed (n ∷ ns) [] us = ⊥
AreNamed (n ∷ ns) (id ∷ ids) us = (used_values id us ≡ n ∷ []) × AreNamed ns ids us

abbrev pub AreDistinct : List Text → Type 0
AreDistinct [] = Unit {0}
AreDistinct (id ∷ ids) = Each (λ other. bytes_eq id other ≡ false) ids × AreDistinct ids

flipped : (x y : Text) → bytes_eq x y ≡ false → bytes_eq y x ≡ false
flipped x y e = other_text x y (λ s. true≢false (sym ((bytes_eq-Decides x y).1 s) ∙ e))

left-each : (P : Text → Type 0) (ns ids : List Text) → Each P ids → Each P (left ns ids)
left-each P [] ids all = all
left-each P (n ∷ ns) [] all = tt
left-each P (n ∷ ns) (id ∷ ids) all = left-each P ns ids all.1

next-each : (P : Text → Type 0) (ns ids : List Text) (id : Text) (rest : List Text)
    → left ns ids ≡ id ∷ rest → Each P ids → P id
next-each P ns ids id rest e all =
    let here : Each P (id ∷ rest) = subst (Each P) e (left-each P ns ids all) in
    here.0

named-none : (ids : List Text) → AreNamed [] ids []
named-none [] = tt
named-none (id ∷ ids) = (refl, named-none ids)

-- a use of another argument
named-other : (ns ids : List Text) (us : List Use) (u : Use)
    → Each (λ id. bytes_eq u.0 id ≡ false) ids → AreNamed ns ids us → AreNamed ns ids (us ++ u ∷ [])
named-other [] [] us u apart named = tt
named-other [] (id ∷ ids) us u apart named = (used_values-other id us u apart.0 ∙ named.0, named-other [] ids us u apart.1 named.1)
named-other (n ∷ ns) [] us u apart named = absurd named
named-other (n ∷ ns) (id ∷ ids) us u apart named = (used_values-other id us u apart.0 ∙ named.0, named-other ns ids us u apart.1 named.1)

used_values-own : (id t : Text) (us : List Use) → used_values id us ≡ []
    → used_values id (us ++ (id, t) ∷ []) ≡ t ∷ []
used_values-own id t us none = used_values-end id us (id, t) ∙ (λ i. none i ++ cond (same_text id i) (t ∷ []) [])

-- the next name has no value yet, and may have this one
record IsNext (ns ids : List Text) (us : List Use) (t id : Text) (rest : List Text) : Type 0 where
  fresh : used_values id us ≡ []
  named : AreNamed (ns ++ t ∷ []) ids (us ++ (id, t) ∷ [])
  rest_is : left (ns ++ t ∷ []) ids ≡ rest

named-next : (ns ids : List Text) (us : List Use) (t id : Text) (rest : List Text) → AreDistinct ids
    → AreNamed ns ids us → left ns ids ≡ id ∷ rest → IsNext ns ids us t id rest
named-next [] [] us t id rest distinct named e = absurd (cc)
named-next [] (x ∷ xs) us t id rest distinct named e =
    let same_id : x ≡ id = cc in
    let same_rest : xs ≡ rest = cc in
    let next : IsNext [] (x ∷ xs) us t x xs = record { fresh = named.0; named = (used_values-own x t us named.0, named-other [] xs us (x, t) distinct.0 named.1); rest_is = refl } in
    subst (λ y. IsNext [] (x ∷ xs) us t y rest) same_id (subst (λ ys. IsNext [] (x ∷ xs) us t x ys) same_rest next)
named-next (n ∷ ns) [] us t id rest distinct named e = absurd named
named-next (n ∷ ns) (x ∷ xs) us t id rest distinct named e =
    let next = named-next ns xs us t id rest distinct.1 named.1 e in
    let other : bytes_eq id x ≡ false = flipped x id (next-each (λ y. bytes_eq x y ≡ false) ns xs id rest e distinct.0) in
    record { fresh = next.fresh; named = (used_values-other x us (id, t) other ∙ named.0, next.named); rest_is = next.rest_is }

-- ---- a command's meaning, by its names and the values of its options and flags

-- the options and the flags
abbrev pub words_of : Knows → List Text
words_of knows = knows.options ++ knows.flags

known-option : (options known_flags : List Text) (n : Text) → is_option options n ≡ true → is_option (options ++ known_flags) n ≡ true
known-option [] known_flags n e = absurd (true≢false (sym e))
known-option (x ∷ options) known_flags n e = go (bytes_eq x n) e (known-option options known_flags n)
  where
    go : (b : Bool) → (b || is_option options n) ≡ true → (is_option options n ≡ true → is_option (options ++ known_flags) n ≡ true) → (b || is_option (options ++ known_flags) n) ≡ true
    go true e rest = refl
    go false e rest = rest e

known-flag : (options known_flags : List Text) (n : Text) → is_option known_flags n ≡ true → is_option (options ++ known_flags) n ≡ true
known-flag [] known_flags n e = e
known-flag (x ∷ options) known_flags n e = go (bytes_eq x n) (known-flag options known_flags n e)
  where
    go : (b : Bool) → is_option (options ++ known_flags) n ≡ true → (b || is_option (options ++ known_flags) n) ≡ true
    go true e = refl
    go false e = e

-- it is what a walk reads that uses no argument twice
pub record IsMeaning {A : Type 0} (knows : Knows) (ids : List Text) (meant : List Text → (Text → List Text) → Option A) (s : Shape) (read : List Row → Option A) : Type 0 where
  -- only the values of options and flags count
  pub same : (names : List Text) (f g : Text → List Text)
      → ((n : Text) → is_option (words_of knows) n ≡ true → f n ≡ g n) → meant names f ≡ meant names g
  -- one that occurs twice asks for nothing
  pub twice : (names : List Text) (values : Text → List Text) (n : Text)
      → is_option (words_of knows) n ≡ true → IsTwice (values n) → meant names values ≡ None
  -- and so does a name after all names
  pub past : (ns : List Text) (us : List Use) → AreNamed ns ids us → left ns ids ≡ []
      → (t : Text) (names : List Text) (values : Text → List Text)
      → meant (ns ++ t ∷ names) values ≡ None
  -- options and flags are no names
  pub apart : (n : Text) → is_option (words_of knows) n ≡ true → Each (λ id. bytes_eq n id ≡ false) ids
  pub distinct : AreDistinct ids
  pub ended : (ns : List Text) (us : List Use) → AreNamed ns ids us → AreOnce us
      → outcome_of s read (Some us) ≡ meant (ns ++ []) (all_values us [])

module _ {A : Type 0} (knows : Knows) (ids : List Text) (meant : List Text → (Text → List Text) → Option A) (s : Shape) (read : List Row → Option A) (m : IsMeaning knows ids meant s read) where
  abbrev all_known : List Part → Bool
  all_known ps = are_known knows.options knows.flags ps

  abbrev asked : List Text → List Use → List Part → Option A
  asked ns us ps = cond (all_known ps) (meant (ns ++ names_in ps) (all_values us ps)) None

  abbrev after_parts : List Part → List Use → List Text → Option A
  after_parts ps us names = outcome_of s read (taken knows ps us names)

  cond_none : (b : Bool) (found : Option A) → found ≡ None → cond b found None ≡ None
  cond_none true found e = e
  cond_none false found e = refl

  -- one more use before these parts
  used-twice : (ns : List Text) (us : List Use) (u : Use) (ps : List Part) → is_option (words_of knows) u.0 ≡ true
      → has u.0 us ≡ true → None ≡ cond (all_known ps) (meant (ns ++ names_in ps) (values_with us u ps)) None
  used-twice ns us u ps e again =
      let some : some_value (used_values u.0 us) ≡ true = sym (has-values u.0 us) ∙ again in
      let twice : IsTwice (values_with us u ps u.0) = subst (λ b. IsTwice (used_values u.0 us ++ cond b (u.1 ∷ given_in u.0 ps) (given_in u.0 ps))) (sym (same_text u.0)) (twice-more (used_values u.0 us) (given_in u.0 ps) u.1 some) in
      sym (cond_none (all_known ps) _ (m.twice (ns ++ names_in ps) (values_with us u ps) u.0 e twice))

  use-moved : (ns : List Text) (us : List Use) (u : Use) (ps : List Part)
      → asked ns (us ++ u ∷ []) ps ≡ cond (all_known ps) (meant (ns ++ names_in ps) (values_with us u ps)) None
  use-moved ns us u ps = ap (λ found. cond (all_known ps) found None) (m.same (ns ++ names_in ps) (all_values (us ++ u ∷ []) ps) (values_with us u ps) (λ k _. values-moved us u ps k))

  -- and where it may be unknown
  use-asked : (known : Bool) (ns : List Text) (us : List Use) (u : Use) (ps : List Part)
      → (known ≡ true → is_option (words_of knows) u.0 ≡ true)
      → (known ≡ true → has u.0 us ≡ false → after_parts ps (us ++ u ∷ []) (left ns ids) ≡ asked ns (us ++ u ∷ []) ps)
      → outcome_of s read (cond known (cond (has u.0 us) None (taken knows ps (us ++ u ∷ []) (left ns ids))) None)
      ≡ cond (known && all_known ps) (meant (ns ++ names_in ps) (values_with us u ps)) None
  use-asked false ns us u ps is rest = refl
  use-asked true ns us u ps is rest = go (has u.0 us) refl
    where
      go : (b : Bool) → has u.0 us ≡ b
          → outcome_of s read (cond b None (taken knows ps (us ++ u ∷ []) (left ns ids)))
          ≡ cond (all_known ps) (meant (ns ++ names_in ps) (values_with us u ps)) None
      go true e = used-twice ns us u ps (is refl) e
      go false e = rest refl e ∙ use-moved ns us u ps

  name-moved : (ns : List Text) (us : List Use) (id t : Text) (ps : List Part)
      → ((k : Text) → is_option (words_of knows) k ≡ true → bytes_eq k id ≡ false)
      → asked (ns ++ t ∷ []) (us ++ (id, t) ∷ []) ps ≡ asked ns us (name t ∷ ps)
  name-moved ns us id t ps apart =
      ap (λ names. cond (all_known ps) (meant names (all_values (us ++ (id, t) ∷ []) ps)) None) (append_assoc ns (t ∷ []) (names_in ps))
      ∙ ap (λ found. cond (all_known ps) found None) (m.same (ns ++ t ∷ names_in ps) (all_values (us ++ (id, t) ∷ []) ps) (all_values us (name t ∷ ps)) (λ k e. ap (λ vs. vs ++ given_in k ps) (used_values-other k us (id, t) (flipped k id (apart k e)))))

  taken-asked : (ps : List Part) (ns : List Text) (us : List Use) → AreNamed ns ids us → AreOnce us
      → after_parts ps us (left ns ids) ≡ asked ns us ps
  taken-asked [] ns us named once = m.ended ns us named once
  taken-asked (option n v ∷ ps) ns us named once =
      use-asked (is_option knows.options n) ns us (n, v) ps (known-option knows.options knows.flags n)
      (λ e fresh. taken-asked ps ns (us ++ (n, v) ∷ []) (named-other ns ids us (n, v) (m.apart n (known-option knows.options knows.flags n e)) named) (once-more us (n, v) once fresh))
  taken-asked (flag n ∷ ps) ns us named once =
      use-asked (is_option knows.flags n) ns us (n, flag_value) ps (known-flag knows.options knows.flags n)
      (λ e fresh. taken-asked ps ns (us ++ (n, flag_value) ∷ []) (named-other ns ids us (n, flag_value) (m.apart n (known-flag knows.options knows.flags n e)) named) (once-more us (n, flag_value) once fresh))
  taken-asked (name t ∷ ps) ns us named once = go (left ns ids) refl (λ ms vs. taken-asked ps ms vs)
    where
      go : (names : List Text) → left ns ids ≡ names
          → ((ms : List Text) (vs : List Use) → AreNamed ms ids vs → AreOnce vs → after_parts ps vs (left ms ids) ≡ asked ms vs ps)
          → after_parts (name t ∷ ps) us names ≡ asked ns us (name t ∷ ps)
      go [] e rest = sym (cond_none (all_known ps) _ (m.past ns us named e t (names_in ps) (all_values us (name t ∷ ps))))
      go (id ∷ names) e rest =
          let next = named-next ns ids us t id names m.distinct named e in
          let fresh : has id us ≡ false = has-values id us ∙ ap some_value next.fresh in
          let vs : List Use = us ++ (id, t) ∷ [] in
          ap (λ b. outcome_of s read (cond b None (taken knows ps vs names))) fresh
          ∙ ap (after_parts ps vs) (sym next.rest_is)
          ∙ rest (ns ++ t ∷ []) vs next.named (once-more us (id, t) once fresh)
          ∙ name-moved ns us id t ps (λ k known. next-each (λ y. bytes_eq k y ≡ false) ns ids id names e (m.apart k known))

  -- from no uses
  pub parts-asked : (ps : List Part)
      → after_parts ps [] ids
      ≡ cond (all_known ps) (meant (names_in ps) (λ n. given_in n ps)) None
  parts-asked ps = taken-asked ps [] [] (named-none ids) (λ n. tt)
