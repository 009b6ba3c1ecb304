-- What the arguments of a command line ask for.
use Rattle.std.specs.Prelude.{ℕ, zero, suc, ◌==◌, ◌&&◌, List, [], ◌∷◌, length, map, count_by, Option, Some, None, option_map, Bool, true, false, codes, if◌then◌else◌, nat_lt, nat_le}
use Rattle.std.specs.List.{list_all, list_any, before_first, after_first}
use Rattle.std.specs.Char.{digit_value}
use Rattle.std.specs.Str.{bytes_eq}
use Rattle.std.specs.Str.Parse.{digits_value, without_leading_plus}
use Rattle.points.specs.declared.point.Bounds.{Bounds}
use Rattle.points.specs.declared.point.Budget.{Budget}
use Rattle.tv_cli.specs.declared.number.Range.{Range}

-- an argument, by its bytes
abbrev pub Text : Type 0
Text = List ℕ

-- two files, what their pairs are judged within, the file for the proof, and whether the report ends at the first incorrect pair
pub record Check : Type 0 where
  pub source : Text
  pub target : Text
  pub bounds : Bounds
  pub budget : Budget
  pub workers : ℕ
  pub proof : Option Text
  pub first : Bool

-- the pair of modules of a seed, what their pairs are judged within, and by how many workers
pub record Make : Type 0 where
  pub seed : ℕ
  pub functions : ℕ
  pub insts : ℕ
  pub bounds : Bounds
  pub budget : Budget
  pub workers : ℕ

-- judge the pairs of two files, check a proof file, or make a pair of modules and judge it
pub data Job : Type 0 where
  check : Check → Job
  log : Text → Job
  make : Make → Job

-- ---- which kind an argument has

pub data Kind : Type 0 where
  -- exactly `--`: no argument after it is an option
  end : Kind
  -- `--name=value`, cut at its first `=`
  attached : Text → Text → Kind
  -- `--name`: a flag, or an option whose value is the next argument
  separate : Text → Kind
  -- any other argument of two or more characters that begins with `-`
  dashed : Kind
  -- all else, so also `-` and the empty argument
  plain : Kind

abbrev pub is_equals : ℕ → Bool
is_equals b = b == 61

-- the kind of `--` and these bytes
abbrev pub kind_behind : Text → Kind
kind_behind [] = end
kind_behind (b ∷ name) = (if list_any is_equals (b ∷ name) then attached (before_first is_equals (b ∷ name)) (after_first is_equals (b ∷ name)) else separate (b ∷ name))

abbrev pub kind_of : Text → Kind
kind_of [] = plain
kind_of (b ∷ []) = plain
kind_of (b ∷ c ∷ word) = (if b == 45 then (if c == 45 then kind_behind word else dashed) else plain)

-- ---- what the arguments after the command are

-- an option with its value, a flag, or a name
pub data Part : Type 0 where
  option : Text → Text → Part
  flag : Text → Part
  name : Text → Part

-- the flags, which have no value
abbrev pub flags : List Text
flags = codes "first" ∷ []

-- the text is one of these
abbrev pub is_option : List Text → Text → Bool
is_option options text = list_any (λ known. bytes_eq known text) options

-- one more part at the start
abbrev pub with_part : Part → Option (List Part) → Option (List Part)
with_part part parts = option_map (λ ps. part ∷ ps) parts

-- the parts that begin with an argument of this kind, before the arguments `rest`: `parts` are those of the rest, and `awaited` gives them where the rest begins with the value of an option
abbrev pub parts_from : Text → List Text → Option (List Part) → (Text → Option (List Part)) → Kind → Option (List Part)
parts_from word rest parts awaited end = Some (map name rest)
parts_from word rest parts awaited (attached option_name value) = with_part (option option_name value) parts
parts_from word rest parts awaited (separate option_name) = (if is_option flags option_name then with_part (flag option_name) parts else awaited option_name)
parts_from word rest parts awaited dashed = None
parts_from word rest parts awaited plain = with_part (name word) parts

-- the parts where the first argument is the value of this option
abbrev pub value_from : Text → Text → Option (List Part) → Kind → Option (List Part)
value_from option_name word parts plain = with_part (option option_name word) parts
value_from option_name word parts _ = None

-- the parts of the arguments, from the first one on, after an option whose value is the first argument
abbrev pub parts_of : Option Text → List Text → Option (List Part)
parts_of None [] = Some []
parts_of (Some option_name) [] = None
parts_of None (word ∷ rest) = parts_from word rest (parts_of None rest) (λ option_name. parts_of (Some option_name) rest) (kind_of word)
parts_of (Some option_name) (word ∷ rest) = value_from option_name word (parts_of None rest) (kind_of word)

-- ---- what the parts ask for

-- the names, in order
abbrev pub names_in : List Part → List Text
names_in [] = []
names_in (option option_name value ∷ parts) = names_in parts
names_in (flag flag_name ∷ parts) = names_in parts
names_in (name text ∷ parts) = text ∷ names_in parts

-- the values of an option, in order
abbrev pub values_in : Text → List Part → List Text
values_in wanted [] = []
values_in wanted (option option_name value ∷ parts) = (if bytes_eq option_name wanted then value ∷ values_in wanted parts else values_in wanted parts)
values_in wanted (flag flag_name ∷ parts) = values_in wanted parts
values_in wanted (name text ∷ parts) = values_in wanted parts

abbrev pub is_flag : Text → Part → Bool
is_flag wanted (flag flag_name) = bytes_eq flag_name wanted
is_flag wanted _ = false

-- the number that a text is in base 10, digits after at most one plus, if it is in the range
abbrev pub number_within : Range → Text → Option ℕ
number_within range text =
    let digits = without_leading_plus text in
    (if nat_lt 0 (length digits) && list_all (λ d. nat_lt (digit_value d) 10) digits && nat_le range.least (digits_value 10 digits) && nat_le (digits_value 10 digits) range.most
    then Some (digits_value 10 digits) else None)

-- an option occurs at most once; where it is absent it has its default
abbrev pub number_once : Range → List Text → Option ℕ
number_once range [] = Some range.usual
number_once range (value ∷ []) = number_within range value
number_once range (value ∷ other ∷ values) = None

-- so does an option with a text, which has none where it is absent
abbrev pub text_once : List Text → Option (Option Text)
text_once [] = Some None
text_once (value ∷ []) = Some (Some value)
text_once (value ∷ other ∷ values) = None

-- and so does a flag, by how often it occurs: it says whether it does
abbrev pub flag_once : ℕ → Option Bool
flag_once zero = Some false
flag_once (suc zero) = Some true
flag_once (suc (suc more)) = None

-- the options of `check`
abbrev pub check_options : List Text
check_options = codes "turns" ∷ codes "blocks" ∷ codes "bytes" ∷ codes "rounds" ∷ codes "conflicts" ∷ codes "weight" ∷ codes "workers" ∷ codes "proof" ∷ []

-- and those of `make`
abbrev pub make_options : List Text
make_options = codes "turns" ∷ codes "blocks" ∷ codes "bytes" ∷ codes "rounds" ∷ codes "conflicts" ∷ codes "weight" ∷ codes "workers" ∷ codes "seed" ∷ codes "functions" ∷ codes "insts" ∷ []

-- each option is one of these, and each flag one of those
abbrev pub are_known : List Text → List Text → List Part → Bool
are_known options known_flags [] = true
are_known options known_flags (option option_name value ∷ parts) = is_option options option_name && are_known options known_flags parts
are_known options known_flags (flag flag_name ∷ parts) = is_option known_flags flag_name && are_known options known_flags parts
are_known options known_flags (name text ∷ parts) = are_known options known_flags parts

abbrev pub range : ℕ → ℕ → ℕ → Range
range least most usual = record { least = least; most = most; usual = usual }

abbrev pub bounds_with : Option ℕ → Option ℕ → Option ℕ → Option Bounds
bounds_with (Some turns) (Some blocks) (Some bytes) = Some (record { turns = turns; blocks = blocks; bytes = bytes })
bounds_with _ _ _ = None

abbrev pub budget_with : Option ℕ → Option ℕ → Option ℕ → Option Budget
budget_with (Some rounds) (Some conflicts) (Some weight) = Some (record { rounds = rounds; conflicts = conflicts; weight = weight })
budget_with _ _ _ = None

abbrev pub check_with : Text → Text → Option Bounds → Option Budget → Option ℕ → Option (Option Text) → Option Bool → Option Check
check_with source target (Some bounds) (Some budget) (Some workers) (Some proof) (Some first) =
    Some (record { source = source; target = target; bounds = bounds; budget = budget; workers = workers; proof = proof; first = first })
check_with source target _ _ _ _ _ = None

-- backward jumps; given blocks; the greatest size of a given block
abbrev pub turns_range : Range
turns_range = range 0 64 4

abbrev pub blocks_range : Range
blocks_range = range 0 4 2

abbrev pub bytes_range : Range
bytes_range = range 0 32 8

-- added tapes; learned clauses a question, 0 being no limit; the greatest weight
abbrev pub rounds_range : Range
rounds_range = range 0 4096 64

abbrev pub conflicts_range : Range
conflicts_range = range 0 9223372036854775807 0

abbrev pub weight_range : Range
weight_range = range 1 10000000 100000

abbrev pub workers_range : Range
workers_range = range 1 64 4

-- the seed, how many functions, and how many instructions each
abbrev pub seed_range : Range
seed_range = range 0 2147483647 1

abbrev pub functions_range : Range
functions_range = range 1 4096 16

abbrev pub insts_range : Range
insts_range = range 1 64 8

abbrev pub number_of : Text → Range → List Part → Option ℕ
number_of option_name r parts = number_once r (values_in option_name parts)

abbrev pub bounds_of : List Part → Option Bounds
bounds_of parts = bounds_with (number_of (codes "turns") turns_range parts) (number_of (codes "blocks") blocks_range parts) (number_of (codes "bytes") bytes_range parts)

abbrev pub budget_of : List Part → Option Budget
budget_of parts = budget_with (number_of (codes "rounds") rounds_range parts) (number_of (codes "conflicts") conflicts_range parts) (number_of (codes "weight") weight_range parts)

abbrev pub workers_of : List Part → Option ℕ
workers_of parts = number_of (codes "workers") workers_range parts

-- two names, each option at most once, with a number of its range or a text, and `--first` at most once
abbrev pub check_named : List Text → List Part → Option Check
check_named (source ∷ target ∷ []) parts =
    check_with source target (bounds_of parts) (budget_of parts) (workers_of parts) (text_once (values_in (codes "proof") parts)) (flag_once (count_by (is_flag (codes "first")) parts))
check_named _ parts = None

abbrev pub check_in_parts : Option (List Part) → Option Check
check_in_parts (Some parts) = (if are_known check_options flags parts then check_named (names_in parts) parts else None)
check_in_parts None = None

-- one name, no option and no flag
abbrev pub file_in_parts : Option (List Part) → Option Text
file_in_parts (Some (name file ∷ [])) = Some file
file_in_parts _ = None

abbrev pub make_with : Option ℕ → Option ℕ → Option ℕ → Option Bounds → Option Budget → Option ℕ → Option Make
make_with (Some seed) (Some functions) (Some insts) (Some bounds) (Some budget) (Some workers) =
    Some (record { seed = seed; functions = functions; insts = insts; bounds = bounds; budget = budget; workers = workers })
make_with _ _ _ _ _ _ = None

-- no name, and each option at most once, with a number of its range
abbrev pub make_named : List Text → List Part → Option Make
make_named [] parts =
    make_with (number_of (codes "seed") seed_range parts) (number_of (codes "functions") functions_range parts) (number_of (codes "insts") insts_range parts)
    (bounds_of parts) (budget_of parts) (workers_of parts)
make_named _ parts = None

abbrev pub make_in_parts : Option (List Part) → Option Make
make_in_parts (Some parts) = (if are_known make_options [] parts then make_named (names_in parts) parts else None)
make_in_parts None = None

-- the job that the arguments are: the program's name, the command, and its parts
abbrev pub job_of : List Text → Option Job
job_of (program ∷ command ∷ words) =
    (if bytes_eq (codes "check") command then option_map check (check_in_parts (parts_of None words))
    else (if bytes_eq (codes "log") command then option_map log (file_in_parts (parts_of None words))
    else (if bytes_eq (codes "make") command then option_map make (make_in_parts (parts_of None words)) else None)))
job_of _ = None
