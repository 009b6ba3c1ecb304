-- The arguments of the commands, as `clap` has them.
use Rattle.tv_cli.proofs.Common.{◌≡◌, ◌||◌, ◌+◌, ℕ, min, Bool, true, false, true≢false, refl, sym, ap, subst, List, [], ◌∷◌, Option, Some, None, codes, list_any, bytes_eq, bytes_eq-Decides, usize_max, Row, Rule, arg_by_id, arg_by_index, arg_by_long, arg_by_short, is_append, action_of, most_values, takes_several, takes_values, used, with_values, without, or_else, repeat_fault, use_fault, Shape, built_leaf, filled, inherited, marked_built, on_top, with_index, with_leaf_noted, CommandLine, AsWritten, Text, check_options, flags, is_option, make_options, check_app, log_app, make_app, flag_rule, name_rule, option_rule, tv_app, or_parts}
use Rattle.clap.specs.declared.error.kind.ErrorKind.TheVariants as kind
use Rattle.tv_cli.proofs.Uses.{Knows, flag_value, has_flag, has_option}

-- an argument that takes one value, once
pub record RuleOf (c : List Rule) (id : Text) : Type 0 where
  pub rule : Rule
  pub by_id : arg_by_id c id ≡ Some rule
  pub id_is : rule.id ≡ id
  pub takes : takes_values rule ≡ true
  pub several : takes_several rule ≡ false
  pub multiple : is_append (action_of rule) ≡ false
  pub trailing : rule.trailing_var_arg ≡ false
  pub most : most_values rule ≡ 1
  pub empty : (rows : List Row) → use_fault false rule [] rows ≡ kind.InvalidValue ∷ []
  pub fault : (v : Text) (rows : List Row) → use_fault false rule (v ∷ []) rows ≡ or_else (repeat_fault false id rows) []
  pub used_is : (v : Text) (rows : List Row) → used rule (v ∷ []) rows ≡ with_values id AsWritten CommandLine (v ∷ []) (without id rows)

pub record OptionOf (c : List Rule) (id : Text) : Type 0 where
  pub of : RuleOf c id
  pub by_long : arg_by_long c id ≡ Some of.rule

-- a flag
pub record FlagOf (c : List Rule) (id : Text) : Type 0 where
  pub rule : Rule
  pub by_long : arg_by_long c id ≡ Some rule
  pub takes : takes_values rule ≡ false
  pub fault : (rows : List Row) → use_fault false rule [] rows ≡ or_else (repeat_fault false id rows) []
  pub used_is : (rows : List Row) → used rule [] rows ≡ with_values id AsWritten CommandLine (flag_value ∷ []) (without id rows)

-- a command that has the options and the flags that are known
pub record IsCommand (knows : Knows) (s : Shape) : Type 0 where
  pub again : s.args_override_self ≡ false
  pub leaf : s.is_leaf ≡ true
  pub known : (n : Text) → has_option knows n ≡ true → OptionOf s.rules n
  pub flagged : (n : Text) → has_flag knows n ≡ true → FlagOf s.rules n
  pub unknown : (n : Text) → has_option knows n ≡ false → has_flag knows n ≡ false → arg_by_long s.rules n ≡ None
  -- no flag of any command is one of its options, and its flags are among those
  pub no_option : (n : Text) → is_option flags n ≡ true → has_option knows n ≡ false
  pub no_flag : (n : Text) → is_option flags n ≡ false → has_flag knows n ≡ false
  pub no_short : (x : ℕ) → arg_by_short s.rules x ≡ None

-- the name at this position
pub record NameAt (c : List Rule) (position : ℕ) (id : Text) : Type 0 where
  pub of : RuleOf c id
  pub found : arg_by_index c position ≡ Some of.rule

abbrev pub next_position : ℕ → ℕ
next_position position = min (position + 1) usize_max

-- the names from this position on
abbrev pub NamesFrom : List Rule → ℕ → List Text → Type 0
NamesFrom c position [] = arg_by_index c position ≡ None
NamesFrom c position (id ∷ ids) = NameAt c position id × NamesFrom c (next_position position) ids

-- a command of `tv`, built
abbrev pub shape_in_tv : Shape → Shape
shape_in_tv s = built_leaf (inherited (on_top with_leaf_noted (on_top marked_built tv_app)).top s)

abbrev pub check_shape : Shape
check_shape = shape_in_tv check_app.top

abbrev pub log_shape : Shape
log_shape = shape_in_tv log_app.top

abbrev pub make_shape : Shape
make_shape = shape_in_tv make_app.top

name_of : (c : List Rule) (id : Text) (i : ℕ) → arg_by_id c id ≡ Some (with_index i (filled (name_rule id))) → RuleOf c id
name_of c id i e = record {
  rule = with_index i (filled (name_rule id));
  by_id = e;
  id_is = refl;
  takes = refl;
  several = refl;
  multiple = refl;
  trailing = refl;
  most = refl;
  empty = λ rows. refl;
  fault = λ v rows. refl;
  used_is = λ v rows. refl;
}

option_of : (c : List Rule) (id : Text) → arg_by_id c id ≡ Some (filled (option_rule id)) → arg_by_long c id ≡ Some (filled (option_rule id)) → OptionOf c id
option_of c id e f = record {
  of = record {
    rule = filled (option_rule id);
    by_id = e;
    id_is = refl;
    takes = refl;
    several = refl;
    multiple = refl;
    trailing = refl;
    most = refl;
    empty = λ rows. refl;
    fault = λ v rows. refl;
    used_is = λ v rows. refl;
  };
  by_long = f;
}

flag_of : (c : List Rule) (id : Text) → arg_by_long c id ≡ Some (filled (flag_rule id)) → FlagOf c id
flag_of c id e = record { rule = filled (flag_rule id); by_long = e; takes = refl; fault = λ rows. refl; used_is = λ rows. refl }

-- ---- names of options

abbrev pub Each : (Text → Type 0) → List Text → Type 0
Each P [] = Unit {0}
Each P (x ∷ xs) = P x × Each P xs

pub same : (x y : Text) → bytes_eq x y ≡ true → x ≡ y
same x y e = (bytes_eq-Decides x y).0 e

pub each : (P : Text → Type 0) (names : List Text) → Each P names → (n : Text) → list_any (λ known. bytes_eq known n) names ≡ true → P n
each P [] all n e = absurd (true≢false (sym e))
each P (x ∷ xs) all n e = go (bytes_eq x n) refl e (each P xs all.1 n)
  where
    go : (b : Bool) → bytes_eq x n ≡ b → (b || list_any (λ known. bytes_eq known n) xs) ≡ true → (list_any (λ known. bytes_eq known n) xs ≡ true → P n) → P n
    go true f e rest = subst P (same x n f) all.0
    go false f e rest = rest e

-- a name that is none of these differs from each
pub no_match : (names : List Text) (n : Text) → list_any (λ known. bytes_eq known n) names ≡ false → Each (λ known. bytes_eq known n ≡ false) names
no_match [] n e = tt
no_match (x ∷ xs) n e =
    let parts = or_parts (bytes_eq x n) (list_any (λ known. bytes_eq known n) xs) e in
    (parts.0, no_match xs n parts.1)

-- ---- options among the rules of a command

-- found by its name, as its id and after `--`
abbrev IsFound : List Rule → Text → Type 0
IsFound c id =
    let found : Option Rule × Option Rule = (arg_by_id c id, arg_by_long c id) in
    found ≡ (Some (filled (option_rule id)), Some (filled (option_rule id)))

options_of : (c : List Rule) (names : List Text) → Each (IsFound c) names → Each (OptionOf c) names
options_of c [] all = tt
options_of c (x ∷ xs) all = (option_of c x (ap (λ found. found.0) all.0) (ap (λ found. found.1) all.0), options_of c xs all.1)

-- ---- `check`

abbrev pub check_knows : Knows
check_knows = record { options = check_options; flags = flags }

no_check_option : (n : Text) → is_option check_options n ≡ false → is_option flags n ≡ false → arg_by_long check_shape.rules n ≡ None
no_check_option n e f =
    let no = no_match check_options n e in
    let no_flags = no_match flags n f in
    rw (no.0, no.1.0, no.1.1.0, no.1.1.1.0, no.1.1.1.1.0, no.1.1.1.1.1.0, no.1.1.1.1.1.1.0, no.1.1.1.1.1.1.1.0, no_flags.0) refl

pub is_check : IsCommand check_knows check_shape
unfolding flag_of
is_check = record {
  again = refl;
  leaf = refl;
  known = each (OptionOf check_shape.rules) check_options (options_of check_shape.rules check_options (refl, (refl, (refl, (refl, (refl, (refl, (refl, (refl, tt)))))))));
  flagged = each (FlagOf check_shape.rules) flags (flag_of check_shape.rules (codes "first") refl, tt);
  unknown = no_check_option;
  no_option = each (λ n. is_option check_options n ≡ false) flags (refl, tt);
  no_flag = λ n e. e;
  no_short = λ x. refl;
}

abbrev pub check_names : List Text
check_names = codes "A" ∷ codes "B" ∷ []

pub names_of_check : NamesFrom check_shape.rules 1 check_names
unfolding name_of
names_of_check = (record { of = name_of check_shape.rules (codes "A") 1 refl; found = refl }, (record { of = name_of check_shape.rules (codes "B") 2 refl; found = refl }, refl))

-- ---- `log`

abbrev pub log_knows : Knows
log_knows = record { options = []; flags = [] }

pub is_log : IsCommand log_knows log_shape
is_log = record {
  again = refl;
  leaf = refl;
  known = λ n e. absurd (true≢false (sym e));
  flagged = λ n e. absurd (true≢false (sym e));
  unknown = λ n e f. refl;
  no_option = λ n e. refl;
  no_flag = λ n e. refl;
  no_short = λ x. refl;
}

abbrev pub log_names : List Text
log_names = codes "FILE" ∷ []

pub names_of_log : NamesFrom log_shape.rules 1 log_names
unfolding name_of
names_of_log = (record { of = name_of log_shape.rules (codes "FILE") 1 refl; found = refl }, refl)

-- ---- `make`

abbrev pub make_knows : Knows
make_knows = record { options = make_options; flags = [] }

no_make_option : (n : Text) → is_option make_options n ≡ false → arg_by_long make_shape.rules n ≡ None
no_make_option n e =
    let no = no_match make_options n e in
    rw (no.0, no.1.0, no.1.1.0, no.1.1.1.0, no.1.1.1.1.0, no.1.1.1.1.1.0, no.1.1.1.1.1.1.0, no.1.1.1.1.1.1.1.0, no.1.1.1.1.1.1.1.1.0, no.1.1.1.1.1.1.1.1.1.0) refl

pub is_make : IsCommand make_knows make_shape
is_make = record {
  again = refl;
  leaf = refl;
  known = each (OptionOf make_shape.rules) make_options (options_of make_shape.rules make_options (refl, (refl, (refl, (refl, (refl, (refl, (refl, (refl, (refl, (refl, tt)))))))))));
  flagged = λ n e. absurd (true≢false (sym e));
  unknown = λ n e f. no_make_option n e;
  no_option = each (λ n. is_option make_options n ≡ false) flags (refl, tt);
  no_flag = λ n e. refl;
  no_short = λ x. refl;
}

pub names_of_make : NamesFrom make_shape.rules 1 []
names_of_make = refl
