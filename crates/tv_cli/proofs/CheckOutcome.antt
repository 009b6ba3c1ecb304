-- What the uses of a walk of `check` ask for.
use Rattle.tv_cli.proofs.Common.{◌≡◌, ◌++◌, ◌||◌, Bool, true, false, not, cond, refl, ap, ap₂, ◌∙◌, List, [], ◌∷◌, Option, Some, None, codes, bytes_eq, take, Row, Rule, first_of, filled, check_kinds, or_else, check_fault, Text, Part, Check, are_known, check_in_parts, check_named, check_options, check_with, flag_rule, flags, is_option, is_set, names_in, number_once, number_or_usual, text_once, values_in, workers_range, check_in_rows, check_of_names, unless_fault}
use Rattle.std.specs.Option.{option_map_or}
use Rattle.clap.specs.Takes.{is_given}
use Rattle.tv_cli.proofs.Given.{no_bounds, no_budget, no_workers, no_proof, no_first}
use Rattle.tv_cli.proofs.Uses.{Use, rows_of_uses, taken}
use Rattle.tv_cli.proofs.Arguments.{Each, check_knows, check_names, check_shape, each}
use Rattle.tv_cli.proofs.Values.{AreOnce, IsOnce, IsTwice, all_values, first_of-uses, given_in, given-uses, has-values, head_value, number-uses, number_once-twice, one_of-uses, some_value, text-uses, text_once-twice, used_values}
use Rattle.tv_cli.proofs.Defaults.{NoDefaults, defaults-last, first_of-other, flag-default, is_given-other, one_of-flag, rows_with_flag}
use Rattle.tv_cli.proofs.Parts.{flag-once, option-values, set_once}
use Rattle.tv_cli.proofs.Limits.{bounds_values, budget_values, bounds-rows, budget-rows, bounds-uses, budget-uses, bounds-same, budget-same, turns-twice, blocks-twice, bytes-twice, rounds-twice, conflicts-twice, weight-twice}
use Rattle.tv_cli.proofs.Asking.{AreNamed, IsMeaning, left, outcome_of, parts-asked, rows_with_defaults, words_of}

abbrev check_values : List Text → (Text → List Text) → Option Check
check_values (source ∷ target ∷ []) values =
    check_with source target (bounds_values values) (budget_values values) (number_once workers_range (values (codes "workers"))) (text_once (values (codes "proof"))) (set_once (values (codes "first")))
check_values _ values = None

named-values : (names : List Text) (ps : List Part) → are_known check_options flags ps ≡ true
    → check_values names (λ n. given_in n ps) ≡ check_named names ps
named-values [] ps known = refl
named-values (a ∷ []) ps known = refl
named-values (a ∷ b ∷ c ∷ names) ps known = refl
named-values (a ∷ b ∷ []) ps known =
    let values : (n : Text) → is_option flags n ≡ false → given_in n ps ≡ values_in n ps = λ n e. option-values check_options flags n e ps known in
    (λ i. check_with a b
    (bounds-same (λ n. given_in n ps) (λ n. values_in n ps) (values (codes "turns") refl) (values (codes "blocks") refl) (values (codes "bytes") refl) i)
    (budget-same (λ n. given_in n ps) (λ n. values_in n ps) (values (codes "rounds") refl) (values (codes "conflicts") refl) (values (codes "weight") refl) i)
    (number_once workers_range (values (codes "workers") refl i))
    (text_once (values (codes "proof") refl i))
    (flag-once check_options flags (codes "first") refl ps known i))

-- ---- an option or a flag that occurs twice

abbrev Needs : (Text → List Text) → Text → Type 0
Needs values n = IsTwice (values n) → (names : List Text) → check_values names values ≡ None

needs : (values : Text → List Text) → (n : Text) → is_option (words_of check_knows) n ≡ true → Needs values n
needs values = each (Needs values) (words_of check_knows) (
  (λ twice names. two names (λ a b. no_bounds a b _ _ _ _ _ (turns-twice values twice))),
  (
    (λ twice names. two names (λ a b. no_bounds a b _ _ _ _ _ (blocks-twice values twice))),
    (
      (λ twice names. two names (λ a b. no_bounds a b _ _ _ _ _ (bytes-twice values twice))),
      (
        (λ twice names. two names (λ a b. no_budget a b _ _ _ _ _ (rounds-twice values twice))),
        (
          (λ twice names. two names (λ a b. no_budget a b _ _ _ _ _ (conflicts-twice values twice))),
          (
            (λ twice names. two names (λ a b. no_budget a b _ _ _ _ _ (weight-twice values twice))),
            (
              (λ twice names. two names (λ a b. no_workers a b _ _ _ _ _ (number_once-twice workers_range _ twice))),
              (
                (λ twice names. two names (λ a b. no_proof a b _ _ _ _ _ (text_once-twice _ twice))),
                (
                  (λ twice names. two names (λ a b. no_first a b _ _ _ _ _ (set_once-twice _ twice))),
                  tt,
                ),
              ),
            ),
          ),
        ),
      ),
    ),
  ),
)
  where
    set_once-twice : (vs : List Text) → IsTwice vs → set_once vs ≡ None
    set_once-twice [] twice = absurd twice
    set_once-twice (v ∷ []) twice = absurd twice
    set_once-twice (v ∷ w ∷ vs) twice = refl

    two : (names : List Text) → ((a b : Text) → check_values (a ∷ b ∷ []) values ≡ None)
        → check_values names values ≡ None
    two [] h = refl
    two (a ∷ []) h = refl
    two (a ∷ b ∷ []) h = h a b
    two (a ∷ b ∷ c ∷ names) h = refl

-- ---- the values of options and flags only, and two names

check-same : (names : List Text) (f g : Text → List Text)
    → ((n : Text) → is_option (words_of check_knows) n ≡ true → f n ≡ g n)
    → check_values names f ≡ check_values names g
check-same [] f g h = refl
check-same (a ∷ []) f g h = refl
check-same (a ∷ b ∷ c ∷ names) f g h = refl
check-same (a ∷ b ∷ []) f g h =
    λ i. check_with a b
    (bounds-same f g (h (codes "turns") refl) (h (codes "blocks") refl) (h (codes "bytes") refl) i)
    (budget-same f g (h (codes "rounds") refl) (h (codes "conflicts") refl) (h (codes "weight") refl) i)
    (number_once workers_range (h (codes "workers") refl i))
    (text_once (h (codes "proof") refl i))
    (set_once (h (codes "first") refl i))

check-past : (ns : List Text) (us : List Use) → AreNamed ns check_names us
    → left ns check_names ≡ [] → (t : Text) (names : List Text) (values : Text → List Text)
    → check_values (ns ++ t ∷ names) values ≡ None
check-past [] us named e t names values = absurd (cc)
check-past (a ∷ []) us named e t names values = absurd (cc)
check-past (a ∷ b ∷ []) us named e t names values = refl
check-past (a ∷ b ∷ c ∷ ns) us named e t names values = absurd named.1.1

check-apart : (n : Text) → is_option (words_of check_knows) n ≡ true
    → Each (λ id. bytes_eq n id ≡ false) check_names
check-apart = each (λ n. Each (λ id. bytes_eq n id ≡ false) check_names) (words_of check_knows) ((refl, (refl, tt)), ((refl, (refl, tt)), ((refl, (refl, tt)), ((refl, (refl, tt)), ((refl, (refl, tt)), ((refl, (refl, tt)), ((refl, (refl, tt)), ((refl, (refl, tt)), ((refl, (refl, tt)), tt)))))))))

-- ---- the end of a walk

-- the rules before the flag
abbrev before : List Rule
before = take 10 check_shape.rules

no_defaults : NoDefaults before
no_defaults = (refl, (refl, (refl, (refl, (refl, (refl, (refl, (refl, (refl, (refl, tt))))))))))

abbrev ended_rows : List Use → List Row
ended_rows us = rows_with_flag (codes "first") us

rows-ended : (us : List Use) → rows_with_defaults check_shape us ≡ ended_rows us
rows-ended us = defaults-last before (filled (flag_rule (codes "first"))) (rows_of_uses us) no_defaults ∙ flag-default (codes "first") us

-- what they say of an argument other than the flag
value-ended : (us : List Use) (n : Text) → bytes_eq (codes "first") n ≡ false → first_of n (ended_rows us) ≡ first_of n (rows_of_uses us)
value-ended us n e = first_of-other (codes "first") n e us

given-ended : (us : List Use) (n : Text) → bytes_eq (codes "first") n ≡ false → is_given n (ended_rows us) ≡ some_value (used_values n us)
given-ended us n e = is_given-other (codes "first") n e us ∙ given-uses n us ∙ has-values n us

-- and of the flag
abbrev set_by : Option Text → Bool
set_by text = option_map_or (λ t. bytes_eq t (codes "true")) text false

once-set : (vs : List Text) → IsOnce vs → Some (cond (some_value vs) (set_by (head_value vs)) false) ≡ set_once (vs ++ [])
once-set [] once = refl
once-set (v ∷ []) once = refl
once-set (v ∷ w ∷ vs) once = absurd once

first-ended : (us : List Use) → AreOnce us → Some (is_set (codes "first") (ended_rows us)) ≡ set_once (used_values (codes "first") us ++ [])
first-ended us once =
    ap (λ text. Some (set_by text)) (one_of-flag (codes "first") us ∙ (λ i. cond (has-values (codes "first") us i) (one_of-uses (codes "first") us i) (Some (codes "false"))))
    ∙ given (some_value (used_values (codes "first") us)) (head_value (used_values (codes "first") us))
    ∙ once-set (used_values (codes "first") us) (once (codes "first"))
  where
    given : (b : Bool) (o : Option Text) → Some (set_by (cond b o (Some (codes "false")))) ≡ Some (cond b (set_by o) false)
    given true o = refl
    given false o = refl

-- the fault of a missing name
check-uses : (us : List Use) → check_fault check_shape (ended_rows us) false
    ≡ check_kinds false false (not (some_value (used_values (codes "A") us)) || (not (some_value (used_values (codes "B") us)) || false))
check-uses us = ap₂ (λ a b. check_kinds false false (not a || (not b || false))) (given-ended us (codes "A") refl) (given-ended us (codes "B") refl)

check-ended-by : (us : List Use) (vs ws : List Text) → used_values (codes "A") us ≡ vs
    → used_values (codes "B") us ≡ ws
    → outcome_of check_shape check_in_rows (Some us)
    ≡ unless_fault (or_else (check_kinds false false (not (some_value vs) || (not (some_value ws) || false))) []) (check_of_names (head_value vs) (head_value ws) (ended_rows us))
check-ended-by us vs ws a b =
    ap (λ rows. unless_fault (or_else (check_fault check_shape rows false) []) (check_in_rows rows)) (rows-ended us)
    ∙ ap (λ kinds. unless_fault (or_else kinds []) (check_in_rows (ended_rows us))) (check-uses us)
    ∙ (λ i. unless_fault (or_else (check_kinds false false (not (some_value (a i)) || (not (some_value (b i)) || false))) []) (check_of_names (value-ended us (codes "A") refl i) (value-ended us (codes "B") refl i) (ended_rows us)))
    ∙ (λ i. unless_fault (or_else (check_kinds false false (not (some_value vs) || (not (some_value ws) || false))) []) (check_of_names (first_of-uses (codes "A") us i) (first_of-uses (codes "B") us i) (ended_rows us)))
    ∙ (λ i. unless_fault (or_else (check_kinds false false (not (some_value vs) || (not (some_value ws) || false))) []) (check_of_names (head_value (a i)) (head_value (b i)) (ended_rows us)))

check-rows : (a b : Text) (us : List Use) → AreOnce us
    → check_of_names (Some a) (Some b) (ended_rows us) ≡ check_values (a ∷ b ∷ []) (all_values us [])
check-rows a b us once =
    (λ i. check_with a b
    (bounds-rows (ended_rows us) (rows_of_uses us) (value-ended us (codes "turns") refl) (value-ended us (codes "blocks") refl) (value-ended us (codes "bytes") refl) i)
    (budget-rows (ended_rows us) (rows_of_uses us) (value-ended us (codes "rounds") refl) (value-ended us (codes "conflicts") refl) (value-ended us (codes "weight") refl) i)
    (number_or_usual workers_range (value-ended us (codes "workers") refl i))
    (Some (value-ended us (codes "proof") refl i))
    (first-ended us once i))
    ∙ (λ i. check_with a b (bounds-uses us once i) (budget-uses us once i) (number-uses us once workers_range (codes "workers") i) (text-uses us once (codes "proof") i) (set_once (all_values us [] (codes "first"))))

check-ended : (ns : List Text) (us : List Use) → AreNamed ns check_names us → AreOnce us
    → outcome_of check_shape check_in_rows (Some us) ≡ check_values (ns ++ []) (all_values us [])
check-ended [] us named once = check-ended-by us [] [] named.0 named.1.0
check-ended (a ∷ []) us named once = check-ended-by us (a ∷ []) [] named.0 named.1.0
check-ended (a ∷ b ∷ []) us named once = check-ended-by us (a ∷ []) (b ∷ []) named.0 named.1.0 ∙ check-rows a b us once
check-ended (a ∷ b ∷ c ∷ ns) us named once = absurd named.1.1

check_meaning : IsMeaning check_knows check_names check_values check_shape check_in_rows
check_meaning = record {
  same = check-same;
  twice = λ names values n known twice. needs values n known twice names;
  past = check-past;
  apart = check-apart;
  distinct = ((refl, tt), (tt, tt));
  ended = check-ended;
}

pub check-outcome : (ps : List Part)
    → outcome_of check_shape check_in_rows (taken check_knows ps [] check_names)
    ≡ check_in_parts (Some ps)
check-outcome ps = parts-asked check_knows check_names check_values check_shape check_in_rows check_meaning ps ∙ go (are_known check_options flags ps) refl
  where
    go : (b : Bool) → are_known check_options flags ps ≡ b → cond b (check_values (names_in ps) (λ n. given_in n ps)) None ≡ cond b (check_named (names_in ps) ps) None
    go true known = named-values (names_in ps) ps known
    go false known = refl
