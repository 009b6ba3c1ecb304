-- The default of a flag, as a row after the rows of uses.
use Rattle.tv_cli.proofs.Common.{◌≡◌, ◌++◌, Bool, true, false, cond, refl, ap, ◌∙◌, List, [], ◌∷◌, Option, Some, None, codes, fold, bytes_eq, Row, Rule, first_of, one_of, has_row, with_default, default_fault, filled, AsWritten, DefaultValue, Text, flag_rule, bytes_eq-Decides, more_values, or_parts, slice_get}
use Rattle.std.specs.Prelude.{find, option_and_then}
use Rattle.std.specs.Option.{option_map_or}
use Rattle.clap.specs.Facts.{explicit_source}
use Rattle.clap.specs.Takes.{is_given}
use Rattle.clap.specs.Walk.{row_text}
use Rattle.tv_cli.proofs.Uses.{Use, at_row-missing, has, has_row-uses, rows_of_uses}

-- ---- rules without a default

abbrev pub NoDefaults : List Rule → Type 0
NoDefaults [] = Unit {0}
NoDefaults (r ∷ rs) = (r.defaults ≡ []) × NoDefaults rs

with_default-none : (rows : List Row) (r : Rule) → r.defaults ≡ [] → with_default rows r ≡ rows
with_default-none rows r e = go (has_row r.id rows) refl
  where
    go : (b : Bool) → has_row r.id rows ≡ b → with_default rows r ≡ rows
    go true f = rw f refl
    go false f = rw (f, e) refl

pub default_fault-none : (r : Rule) → r.defaults ≡ [] → (rows : List Row) → default_fault rows r ≡ []
default_fault-none r e rows = go (has_row r.id rows) refl
  where
    go : (b : Bool) → has_row r.id rows ≡ b → default_fault rows r ≡ []
    go true f = rw f refl
    go false f = rw (f, e) refl

pub defaults-none : (rules : List Rule) (rows : List Row) → NoDefaults rules → fold with_default rows rules ≡ rows
defaults-none [] rows none = refl
defaults-none (r ∷ rules) rows none = ap (λ x. fold with_default x rules) (with_default-none rows r none.0) ∙ defaults-none rules rows none.1

-- and one rule after them
pub defaults-last : (rules : List Rule) (last : Rule) (rows : List Row) → NoDefaults rules → fold with_default rows (rules ++ last ∷ []) ≡ with_default rows last
defaults-last [] last rows none = refl
defaults-last (r ∷ rules) last rows none = ap (λ x. fold with_default x (rules ++ last ∷ [])) (with_default-none rows r none.0) ∙ defaults-last rules last rows none.1

-- ---- a flag

abbrev pub default_row : Text → Row
default_row id = record { id = id; values = codes "false" ∷ []; count = None; source = Some DefaultValue; reading = AsWritten }

-- the rows of uses, with that of the flag where it does not occur
abbrev pub rows_with_flag : Text → List Use → List Row
rows_with_flag id us = cond (has id us) (rows_of_uses us) (rows_of_uses us ++ default_row id ∷ [])

pub flag-default : (id : Text) (us : List Use) → with_default (rows_of_uses us) (filled (flag_rule id)) ≡ rows_with_flag id us
flag-default id us = go (has id us) (has_row-uses id us)
  where
    go : (b : Bool) → has_row id (rows_of_uses us) ≡ b → with_default (rows_of_uses us) (filled (flag_rule id)) ≡ cond b (rows_of_uses us) (rows_of_uses us ++ default_row id ∷ [])
    go true e = rw e refl
    go false e = rw e (at_row-missing id (more_values DefaultValue (codes "false" ∷ [])) (default_row id ∷ []) (rows_of_uses us) e)

pub default_fault-flag : (id : Text) (rows : List Row) → default_fault rows (filled (flag_rule id)) ≡ []
default_fault-flag id rows = go (has_row id rows) refl
  where
    go : (b : Bool) → has_row id rows ≡ b → default_fault rows (filled (flag_rule id)) ≡ []
    go true e = rw e refl
    go false e = rw e refl

-- ---- what is read of these rows

abbrev found_in : Text → List Row → Option Row
found_in n rows = find (λ r. bytes_eq r.id n) rows

found-other : (n : Text) (r : Row) → bytes_eq r.id n ≡ false → (rows : List Row) → found_in n (rows ++ r ∷ []) ≡ found_in n rows
found-other n r e [] = rw e refl
found-other n r e (x ∷ rows) = ap (λ rest. cond (bytes_eq x.id n) (Some x) rest) (found-other n r e rows)

found-flag-other : (id n : Text) → bytes_eq id n ≡ false → (us : List Use) → found_in n (rows_with_flag id us) ≡ found_in n (rows_of_uses us)
found-flag-other id n e us = go (has id us)
  where
    go : (b : Bool) → found_in n (cond b (rows_of_uses us) (rows_of_uses us ++ default_row id ∷ [])) ≡ found_in n (rows_of_uses us)
    go true = refl
    go false = found-other n (default_row id) e (rows_of_uses us)

pub first_of-other : (id n : Text) → bytes_eq id n ≡ false → (us : List Use) → first_of n (rows_with_flag id us) ≡ first_of n (rows_of_uses us)
first_of-other id n e us = ap (option_and_then (λ (r : Row). slice_get r.values 0)) (found-flag-other id n e us)

pub is_given-other : (id n : Text) → bytes_eq id n ≡ false → (us : List Use) → is_given n (rows_with_flag id us) ≡ is_given n (rows_of_uses us)
is_given-other id n e us = ap (λ o. option_map_or (λ (r : Row). explicit_source r.source) o false) (found-flag-other id n e us)

same_text : (t : Text) → bytes_eq t t ≡ true
same_text t = (bytes_eq-Decides t t).1 refl

-- the text of a flag
found-missing : (id : Text) (us : List Use) (r : Row) → has id us ≡ false → bytes_eq r.id id ≡ true → found_in id (rows_of_uses us ++ r ∷ []) ≡ Some r
found-missing id [] r e f = rw f refl
found-missing id (u ∷ us) r e f =
    let parts = or_parts _ _ e in
    let other : bytes_eq u.0 id ≡ false = parts.0 in
    rw other (found-missing id us r parts.1 f)

pub one_of-flag : (id : Text) (us : List Use) → one_of id (rows_with_flag id us) ≡ cond (has id us) (one_of id (rows_of_uses us)) (Some (codes "false"))
one_of-flag id us = go (has id us) refl
  where
    go : (b : Bool) → has id us ≡ b → one_of id (cond b (rows_of_uses us) (rows_of_uses us ++ default_row id ∷ [])) ≡ cond b (one_of id (rows_of_uses us)) (Some (codes "false"))
    go true e = refl
    go false e = ap (option_and_then row_text) (found-missing id us (default_row id) e (same_text id))
