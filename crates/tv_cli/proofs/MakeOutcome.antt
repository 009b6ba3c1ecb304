-- What the uses of a walk of `make` ask for.
use Rattle.tv_cli.proofs.Common.{◌≡◌, ◌++◌, Bool, true, false, cond, refl, ap, ◌∙◌, List, [], ◌∷◌, Option, Some, None, codes, Text, Part, Make, are_known, is_option, make_in_parts, make_named, make_options, make_with, names_in, number_once, values_in, workers_range, seed_range, functions_range, insts_range, make_in_rows}
use Rattle.tv_cli.proofs.Given.{no_seed, no_functions, no_insts, no_made_bounds, no_made_budget, no_made_workers}
use Rattle.tv_cli.proofs.Uses.{Use, rows_of_uses, taken}
use Rattle.tv_cli.proofs.Arguments.{each, make_knows, make_shape}
use Rattle.tv_cli.proofs.Values.{AreOnce, IsTwice, all_values, given_in, number-uses, number_once-twice}
use Rattle.tv_cli.proofs.Defaults.{defaults-none}
use Rattle.tv_cli.proofs.Parts.{option-values}
use Rattle.tv_cli.proofs.Limits.{bounds_values, budget_values, bounds-uses, budget-uses, bounds-same, budget-same, turns-twice, blocks-twice, bytes-twice, rounds-twice, conflicts-twice, weight-twice}
use Rattle.tv_cli.proofs.Asking.{AreNamed, IsMeaning, left, outcome_of, parts-asked, rows_with_defaults, words_of}

abbrev sized_values : (Text → List Text) → Option Make
sized_values values =
    make_with (number_once seed_range (values (codes "seed"))) (number_once functions_range (values (codes "functions"))) (number_once insts_range (values (codes "insts")))
    (bounds_values values) (budget_values values) (number_once workers_range (values (codes "workers")))

abbrev make_values : List Text → (Text → List Text) → Option Make
make_values [] values = sized_values values
make_values _ values = None

-- ---- an option that occurs twice

abbrev Needs : (Text → List Text) → Text → Type 0
Needs values n = IsTwice (values n) → sized_values values ≡ None

needs : (values : Text → List Text) → (n : Text) → is_option (words_of make_knows) n ≡ true → Needs values n
needs values = each (Needs values) (words_of make_knows) (
  (λ twice. no_made_bounds _ _ _ _ _ _ (turns-twice values twice)),
  (
    (λ twice. no_made_bounds _ _ _ _ _ _ (blocks-twice values twice)),
    (
      (λ twice. no_made_bounds _ _ _ _ _ _ (bytes-twice values twice)),
      (
        (λ twice. no_made_budget _ _ _ _ _ _ (rounds-twice values twice)),
        (
          (λ twice. no_made_budget _ _ _ _ _ _ (conflicts-twice values twice)),
          (
            (λ twice. no_made_budget _ _ _ _ _ _ (weight-twice values twice)),
            (
              (λ twice. no_made_workers _ _ _ _ _ _ (number_once-twice workers_range _ twice)),
              (
                (λ twice. no_seed _ _ _ _ _ _ (number_once-twice seed_range _ twice)),
                (
                  (λ twice. no_functions _ _ _ _ _ _ (number_once-twice functions_range _ twice)),
                  (
                    (λ twice. no_insts _ _ _ _ _ _ (number_once-twice insts_range _ twice)),
                    tt,
                  ),
                ),
              ),
            ),
          ),
        ),
      ),
    ),
  ),
)

make-twice : (names : List Text) (values : Text → List Text) (n : Text)
    → is_option (words_of make_knows) n ≡ true → IsTwice (values n) → make_values names values ≡ None
make-twice [] values n known twice = needs values n known twice
make-twice (name ∷ names) values n known twice = refl

-- ---- the values of options only, and no name

make-same : (names : List Text) (f g : Text → List Text)
    → ((n : Text) → is_option (words_of make_knows) n ≡ true → f n ≡ g n)
    → make_values names f ≡ make_values names g
make-same (name ∷ names) f g h = refl
make-same [] f g h =
    λ i. make_with (number_once seed_range (h (codes "seed") refl i)) (number_once functions_range (h (codes "functions") refl i)) (number_once insts_range (h (codes "insts") refl i))
    (bounds-same f g (h (codes "turns") refl) (h (codes "blocks") refl) (h (codes "bytes") refl) i)
    (budget-same f g (h (codes "rounds") refl) (h (codes "conflicts") refl) (h (codes "weight") refl) i)
    (number_once workers_range (h (codes "workers") refl i))

named-values : (names : List Text) (ps : List Part) → are_known make_options [] ps ≡ true
    → make_values names (λ n. given_in n ps) ≡ make_named names ps
named-values [] ps known =
    let values : (n : Text) → given_in n ps ≡ values_in n ps = λ n. option-values make_options [] n refl ps known in
    make-same [] (λ n. given_in n ps) (λ n. values_in n ps) (λ n e. values n)
named-values (name ∷ names) ps known = refl

make-past : (ns : List Text) (us : List Use) → AreNamed ns [] us → left ns [] ≡ []
    → (t : Text) (names : List Text) (values : Text → List Text)
    → make_values (ns ++ t ∷ names) values ≡ None
make-past [] us named e t names values = refl
make-past (n ∷ ns) us named e t names values = absurd named

-- ---- the end of a walk

rows-ended : (us : List Use) → rows_with_defaults make_shape us ≡ rows_of_uses us
rows-ended us = defaults-none make_shape.rules (rows_of_uses us) (refl, (refl, (refl, (refl, (refl, (refl, (refl, (refl, (refl, (refl, tt))))))))))

make-ended : (ns : List Text) (us : List Use) → AreNamed ns [] us → AreOnce us
    → outcome_of make_shape make_in_rows (Some us) ≡ make_values (ns ++ []) (all_values us [])
make-ended (n ∷ ns) us named once = absurd named
make-ended [] us named once =
    ap make_in_rows (rows-ended us)
    ∙ (λ i. make_with (number-uses us once seed_range (codes "seed") i) (number-uses us once functions_range (codes "functions") i) (number-uses us once insts_range (codes "insts") i)
    (bounds-uses us once i) (budget-uses us once i) (number-uses us once workers_range (codes "workers") i))

make_meaning : IsMeaning make_knows [] make_values make_shape make_in_rows
make_meaning = record { same = make-same; twice = make-twice; past = make-past; apart = λ n known. tt; distinct = tt; ended = make-ended }

pub make-outcome : (ps : List Part)
    → outcome_of make_shape make_in_rows (taken make_knows ps [] [])
    ≡ make_in_parts (Some ps)
make-outcome ps = parts-asked make_knows [] make_values make_shape make_in_rows make_meaning ps ∙ go (are_known make_options [] ps) refl
  where
    go : (b : Bool) → are_known make_options [] ps ≡ b → cond b (make_values (names_in ps) (λ n. given_in n ps)) None ≡ cond b (make_named (names_in ps) ps) None
    go true known = named-values (names_in ps) ps known
    go false known = refl
