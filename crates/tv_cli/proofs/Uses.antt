-- What is used by the words of a command, one use after another, and the rows that hold it.
use Rattle.tv_cli.proofs.Common.{◌≡◌, ◌||◌, ◌++◌, Bool, false, refl, sym, ap, ◌∙◌, List, [], ◌∷◌, map, Option, Some, None, if◌then◌else◌, list_any, bytes_eq, Held, at_row, has_row, with_values, without, more_values, CommandLine, AsWritten, Text, Part, option, flag, name, codes, is_option, or_parts}
use Rattle.clap.specs.Walk.{Row}

-- an argument's name with its value
abbrev pub Use : Type 0
Use = Text × Text

abbrev pub row_of_use : Use → Row
row_of_use u = record { id = u.0; values = u.1 ∷ []; count = None; source = Some CommandLine; reading = AsWritten }

abbrev pub rows_of_uses : List Use → List Row
rows_of_uses us = map row_of_use us

abbrev pub has : Text → List Use → Bool
has id us = list_any (λ u. bytes_eq u.0 id) us

-- the use that is still to be noted, as what is pending
abbrev pub pending_use : Option Use → Option (Text × List Text)
pending_use None = None
pending_use (Some u) = Some (u.0, u.1 ∷ [])

abbrev pub held_with : List Use → Option Use → Held
held_with us p = record { rows = rows_of_uses us; pending = pending_use p; skip = 0 }

-- the uses with one more; none where its argument was used before
abbrev pub noted : List Use → Use → Option (List Use)
noted us u = (if has u.0 us then None else Some (us ++ u ∷ []))

abbrev pub settle : List Use → Option Use → Option (List Use)
settle us None = Some us
settle us (Some u) = noted us u

-- the options and the flags of a command
pub record Knows : Type 0 where
  pub options : List Text
  pub flags : List Text

abbrev pub has_option : Knows → Text → Bool
has_option knows n = is_option knows.options n

abbrev pub has_flag : Knows → Text → Bool
has_flag knows n = is_option knows.flags n

-- the value of a flag that occurs
abbrev pub flag_value : Text
flag_value = codes "true"

-- the uses after these parts, of a command with these options and flags and with these names still to come
abbrev pub taken : Knows → List Part → List Use → List Text → Option (List Use)
taken knows [] us ids = Some us
taken knows (option n v ∷ ps) us ids = (if has_option knows n then (if has n us then None else taken knows ps (us ++ (n, v) ∷ []) ids) else None)
taken knows (flag n ∷ ps) us ids = (if has_flag knows n then (if has n us then None else taken knows ps (us ++ (n, flag_value) ∷ []) ids) else None)
taken knows (name t ∷ ps) us (id ∷ ids) = (if has id us then None else taken knows ps (us ++ (id, t) ∷ []) ids)
taken knows (name t ∷ ps) us [] = None

abbrev pub after : Knows → Option (List Use) → List Text → Option (List Part) → Option (List Use)
after knows None ids parts = None
after knows (Some us) ids None = None
after knows (Some us) ids (Some ps) = taken knows ps us ids

-- ---- rows

pub has_row-uses : (id : Text) (us : List Use) → has_row id (rows_of_uses us) ≡ has id us
has_row-uses id [] = refl
has_row-uses id (u ∷ us) = ap (λ b. bytes_eq u.0 id || b) (has_row-uses id us)

pub at_row-missing : (id : Text) (change : Row → List Row) (missing rows : List Row) → has_row id rows ≡ false → at_row id change missing rows ≡ rows ++ missing
at_row-missing id change missing [] e = refl
at_row-missing id change missing (r ∷ rs) e =
    let parts = or_parts _ _ e in
    let other : bytes_eq r.id id ≡ false = parts.0 in
    rw other (ap (λ xs. r ∷ xs) (at_row-missing id change missing rs parts.1))

pub append_nil : (rows : List Row) → rows ++ [] ≡ rows
append_nil [] = refl
append_nil (r ∷ rs) = ap (λ xs. r ∷ xs) (append_nil rs)

map_end : (us : List Use) (u : Use) → rows_of_uses (us ++ u ∷ []) ≡ rows_of_uses us ++ row_of_use u ∷ []
map_end [] u = refl
map_end (x ∷ us) u = ap (λ xs. row_of_use x ∷ xs) (map_end us u)

-- a first use of an argument is one more row
pub used-first : (us : List Use) (u : Use) → has u.0 us ≡ false
    → with_values u.0 AsWritten CommandLine (u.1 ∷ []) (without u.0 (rows_of_uses us)) ≡ rows_of_uses (us ++ u ∷ [])
used-first us u e =
    let none : has_row u.0 (rows_of_uses us) ≡ false = has_row-uses u.0 us ∙ e in
    ap (with_values u.0 AsWritten CommandLine (u.1 ∷ [])) (at_row-missing u.0 (λ _. []) [] (rows_of_uses us) none ∙ append_nil (rows_of_uses us))
    ∙ at_row-missing u.0 (more_values CommandLine (u.1 ∷ [])) (row_of_use u ∷ []) (rows_of_uses us) none
    ∙ sym (map_end us u)
