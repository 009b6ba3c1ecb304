-- The bounds and the budget of a job are in their ranges.
use Rattle.tv_cli.proofs.Common.{◌≡◌, ◌≤◌, ◌&&◌, ℕ, Bool, true, false, true≢false, cond, refl, sym, ap, subst, arith, List, [], ◌∷◌, length, Option, Some, None, option_map, is_some, ◌∙◌, codes, nat_lt, nat_le, leb-true, list_all, digit_value, bytes_eq, digits_value, without_leading_plus, Bounds, Budget, Range, check, log, make, Text, Part, Check, Make, Job, number_within, number_once, values_in, bounds_with, budget_with, check_with, check_named, check_in_parts, check_options, flags, file_in_parts, job_of, make_in_parts, names_in, are_known, parts_of, turns_range, blocks_range, bytes_range, rounds_range, conflicts_range, weight_range, same_Some}

pub none≢some : {X : Type 0} (x : X) → None ≡ Some x → ⊥
none≢some x e = true≢false (sym (ap (λ o. is_some o) e))

record Within (r : Range) (n : ℕ) : Type 0 where
  least : r.least ≤ n
  most : n ≤ r.most

within : (r : Range) (text : Text) (n : ℕ) → number_within r text ≡ Some n → Within r n
within r text n e = go (nat_lt 0 (length digits) && list_all (λ d. nat_lt (digit_value d) 10) digits) (nat_le r.least value) (nat_le value r.most) refl refl e
  where
    digits : List ℕ
    digits = without_leading_plus text

    value : ℕ
    value = digits_value 10 digits

    go : (a b c : Bool) → nat_le r.least value ≡ b → nat_le value r.most ≡ c → cond (a && b && c) (Some value) None ≡ Some n → Within r n
    go true true true p q e = subst (Within r) (same_Some value n e) (record { least = leb-true _ _ p; most = leb-true _ _ q })
    go true true false p q e = absurd (none≢some n e)
    go true false c p q e = absurd (none≢some n e)
    go false b c p q e = absurd (none≢some n e)

once : (r : Range) (values : List Text) (n : ℕ) → Within r r.usual → number_once r values ≡ Some n → Within r n
once r [] n usual e = subst (Within r) (same_Some r.usual n e) usual
once r (value ∷ []) n usual e = within r value n e
once r (value ∷ other ∷ values) n usual e = absurd (none≢some n e)

record BoundsWithin (b : Bounds) : Type 0 where
  turns : Within turns_range b.turns
  blocks : Within blocks_range b.blocks
  bytes : Within bytes_range b.bytes

record BudgetWithin (b : Budget) : Type 0 where
  rounds : Within rounds_range b.rounds
  conflicts : Within conflicts_range b.conflicts
  weight : Within weight_range b.weight

bounds : (turns blocks bytes : Option ℕ) (b : Bounds) → ((n : ℕ) → turns ≡ Some n → Within turns_range n) → ((n : ℕ) → blocks ≡ Some n → Within blocks_range n) → ((n : ℕ) → bytes ≡ Some n → Within bytes_range n)
    → bounds_with turns blocks bytes ≡ Some b → BoundsWithin b
bounds (Some x) (Some y) (Some z) b p q r e = subst BoundsWithin (same_Some _ b e) (record { turns = p x refl; blocks = q y refl; bytes = r z refl })
bounds (Some x) (Some y) None b p q r e = absurd (none≢some b e)
bounds (Some x) None z b p q r e = absurd (none≢some b e)
bounds None y z b p q r e = absurd (none≢some b e)

budget : (rounds conflicts weight : Option ℕ) (b : Budget) → ((n : ℕ) → rounds ≡ Some n → Within rounds_range n) → ((n : ℕ) → conflicts ≡ Some n → Within conflicts_range n) → ((n : ℕ) → weight ≡ Some n → Within weight_range n)
    → budget_with rounds conflicts weight ≡ Some b → BudgetWithin b
budget (Some x) (Some y) (Some z) b p q r e = subst BudgetWithin (same_Some _ b e) (record { rounds = p x refl; conflicts = q y refl; weight = r z refl })
budget (Some x) (Some y) None b p q r e = absurd (none≢some b e)
budget (Some x) None z b p q r e = absurd (none≢some b e)
budget None y z b p q r e = absurd (none≢some b e)

abbrev AreWithin : Check → Type 0
AreWithin c = BoundsWithin c.bounds × BudgetWithin c.budget

joined : (source target : Text) (b : Option Bounds) (g : Option Budget) (w : Option ℕ) (f : Option (Option Text)) (h : Option Bool) (c : Check) → ((x : Bounds) → b ≡ Some x → BoundsWithin x) → ((x : Budget) → g ≡ Some x → BudgetWithin x)
    → check_with source target b g w f h ≡ Some c → AreWithin c
joined source target (Some b) (Some g) (Some w) (Some f) (Some h) c p q e = subst AreWithin (same_Some _ c e) (p b refl, q g refl)
joined source target (Some b) (Some g) (Some w) (Some f) None c p q e = absurd (none≢some c e)
joined source target (Some b) (Some g) (Some w) None h c p q e = absurd (none≢some c e)
joined source target (Some b) (Some g) None f h c p q e = absurd (none≢some c e)
joined source target (Some b) None w f h c p q e = absurd (none≢some c e)
joined source target None g w f h c p q e = absurd (none≢some c e)

named : (names : List Text) (parts : List Part) (c : Check) → check_named names parts ≡ Some c → AreWithin c
named [] parts c e = absurd (none≢some c e)
named (source ∷ []) parts c e = absurd (none≢some c e)
named (source ∷ target ∷ other ∷ names) parts c e = absurd (none≢some c e)
named (source ∷ target ∷ []) parts c e =
    joined source target _ _ _ _ _ c
    (λ x. bounds _ _ _ x
    (λ n. once turns_range (values_in (codes "turns") parts) n (record { least = omega arith; most = omega arith }))
    (λ n. once blocks_range (values_in (codes "blocks") parts) n (record { least = omega arith; most = omega arith }))
    (λ n. once bytes_range (values_in (codes "bytes") parts) n (record { least = omega arith; most = omega arith })))
    (λ x. budget _ _ _ x
    (λ n. once rounds_range (values_in (codes "rounds") parts) n (record { least = omega arith; most = omega arith }))
    (λ n. once conflicts_range (values_in (codes "conflicts") parts) n (record { least = omega arith; most = omega arith }))
    (λ n. once weight_range (values_in (codes "weight") parts) n (record { least = omega arith; most = omega arith })))
    e

parted : (parts : Option (List Part)) (c : Check) → check_in_parts parts ≡ Some c → AreWithin c
parted None c e = absurd (none≢some c e)
parted (Some parts) c e = go (are_known check_options flags parts) e
  where
    go : (b : Bool) → cond b (check_named (names_in parts) parts) None ≡ Some c → AreWithin c
    go true e = named (names_in parts) parts c e
    go false e = absurd (none≢some c e)

-- what a job checks
checked : Option Job → Option Check
checked None = None
checked (Some (check c)) = Some c
checked (Some (log file)) = None
checked (Some (make m)) = None

checked-check : (found : Option Check) → checked (option_map check found) ≡ found
unfolding checked
checked-check None = refl
checked-check (Some c) = refl

checked-log : (found : Option Text) → checked (option_map log found) ≡ None
unfolding checked
checked-log None = refl
checked-log (Some file) = refl

checked-make : (found : Option Make) → checked (option_map make found) ≡ None
unfolding checked
checked-make None = refl
checked-make (Some m) = refl

checked-some : (c : Check) → checked (Some (check c)) ≡ Some c
unfolding checked
checked-some c = refl

all_within : (words : List Text) (c : Check) → job_of words ≡ Some (check c) → AreWithin c
all_within [] c e = absurd (none≢some (check c) e)
all_within (program ∷ []) c e = absurd (none≢some (check c) e)
all_within (program ∷ command ∷ words) c e = go (bytes_eq (codes "check") command) (bytes_eq (codes "log") command) (bytes_eq (codes "make") command) e
  where
    go : (a b d : Bool)
        → cond a (option_map check (check_in_parts (parts_of None words))) (cond b (option_map log (file_in_parts (parts_of None words))) (cond d (option_map make (make_in_parts (parts_of None words))) None)) ≡ Some (check c) → AreWithin c
    go true b d e = parted (parts_of None words) c (sym (checked-check (check_in_parts (parts_of None words))) ∙ ap checked e ∙ checked-some c)
    go false true d e = absurd (none≢some c (sym (checked-log (file_in_parts (parts_of None words))) ∙ ap checked e ∙ checked-some c))
    go false false true e = absurd (none≢some c (sym (checked-make (make_in_parts (parts_of None words))) ∙ ap checked e ∙ checked-some c))
    go false false false e = absurd (none≢some (check c) e)
