-- The values of options and flags, of parts that are known.
use Rattle.tv_cli.proofs.Common.{◌≡◌, ◌+◌, Bool, true, false, true≢false, cond, refl, sym, ap, ◌∙◌, List, [], ◌∷◌, Option, Some, None, arith, bytes_eq, Text, Part, are_known, flag_once, is_flag, is_option, values_in, option, flag, name, and_parts}
use Rattle.std.specs.Prelude.{ℕ, zero, suc, count_by, replicate}
use Rattle.std.proofs.lemmas.List.Sums.{sum_by-cons}
use Rattle.tv_cli.proofs.Uses.{flag_value}
use Rattle.tv_cli.proofs.Arguments.{same}
use Rattle.tv_cli.proofs.Values.{given_in}

-- a text that is one of these is none that isn't
apart : (names : List Text) (m n : Text) → is_option names m ≡ true → is_option names n ≡ false → bytes_eq m n ≡ false
apart names m n e f = go (bytes_eq m n) refl
  where
    go : (b : Bool) → bytes_eq m n ≡ b → bytes_eq m n ≡ false
    go true g = absurd (true≢false (sym e ∙ ap (is_option names) (same m n g) ∙ f))
    go false g = g

-- the values of an option
pub option-values : (options flags : List Text) (n : Text) → is_option flags n ≡ false → (ps : List Part) → are_known options flags ps ≡ true → given_in n ps ≡ values_in n ps
option-values options flags n e [] known = refl
option-values options flags n e (option m v ∷ ps) known =
    let rest = option-values options flags n e ps (and_parts _ _ known).1 in
    ap (λ vs. cond (bytes_eq m n) (v ∷ vs) vs) rest
option-values options flags n e (flag m ∷ ps) known =
    let parts = and_parts _ _ known in
    let other : bytes_eq m n ≡ false = apart flags m n parts.0 e in
    rw other (option-values options flags n e ps parts.1)
option-values options flags n e (name t ∷ ps) known = option-values options flags n e ps known

count-cons : (p : Part → Bool) (part : Part) (ps : List Part) → count_by p (part ∷ ps) ≡ cond (p part) (suc (count_by p ps)) (count_by p ps)
count-cons p part ps = sum_by-cons (λ x. cond (p x) 1 0) part ps ∙ more (p part) (count_by p ps)
  where
    more : (b : Bool) (c : ℕ) → cond b 1 0 + c ≡ cond b (suc c) c
    more true c = omega arith
    more false c = omega arith

-- a flag is given its value each time
abbrev HasFlagValues : Text → List Part → Type 0
HasFlagValues n ps = given_in n ps ≡ replicate (count_by (is_flag n) ps) flag_value

flag-values : (options flags : List Text) (n : Text) → is_option options n ≡ false → (ps : List Part) → are_known options flags ps ≡ true → HasFlagValues n ps
flag-values options flags n e [] known = refl
flag-values options flags n e (option m v ∷ ps) known =
    let parts = and_parts _ _ known in
    let other : bytes_eq m n ≡ false = apart options m n parts.0 e in
    ap (λ b. cond b (v ∷ given_in n ps) (given_in n ps)) other ∙ flag-values options flags n e ps parts.1 ∙ ap (λ c. replicate c flag_value) (sym (count-cons (is_flag n) (option m v) ps))
flag-values options flags n e (flag m ∷ ps) known =
    go (bytes_eq m n) (flag-values options flags n e ps (and_parts _ _ known).1)
    ∙ ap (λ c. replicate c flag_value) (sym (count-cons (is_flag n) (flag m) ps))
  where
    go : (b : Bool) → HasFlagValues n ps
        → cond b (flag_value ∷ given_in n ps) (given_in n ps) ≡ replicate (cond b (suc (count_by (is_flag n) ps)) (count_by (is_flag n) ps)) flag_value
    go true rest = ap (λ vs. flag_value ∷ vs) rest
    go false rest = rest
flag-values options flags n e (name t ∷ ps) known = flag-values options flags n e ps known ∙ ap (λ c. replicate c flag_value) (sym (count-cons (is_flag n) (name t) ps))

-- whether a flag is set that is given these values, at most one
abbrev pub set_once : List Text → Option Bool
set_once [] = Some false
set_once (v ∷ []) = Some (bytes_eq v flag_value)
set_once (v ∷ w ∷ vs) = None

pub flag-once : (options flags : List Text) (n : Text) → is_option options n ≡ false → (ps : List Part) → are_known options flags ps ≡ true → set_once (given_in n ps) ≡ flag_once (count_by (is_flag n) ps)
flag-once options flags n e ps known = ap set_once (flag-values options flags n e ps known) ∙ times (count_by (is_flag n) ps)
  where
    times : (c : ℕ) → set_once (replicate c flag_value) ≡ flag_once c
    times zero = refl
    times (suc zero) = refl
    times (suc (suc c)) = refl
