-- The modules of a seed can be printed, where printed tokens spell functions.
use Rattle.read_back.proofs.Common.{◌≡◌, ℕ, zero, suc, ◌+◌, ◌*◌, ◌<◌, ◌≤◌, ◌^◌, Bool, false, List, [], ◌∷◌, length, map, Some, refl, sym, ap, ◌∙◌, subst, arith, AllByRecursion, IsDistinct, same_name, Name, Int, Inst, Return, Function, Entry, WrittenFunction, numbered, Piece, none, state_behind, eight, value, byte_parameter, made_insts, function_name, made_function, made_entries, IsSpelled, IsPrintableEntry, MadeModulesArePrintable}
use Rattle.read_back.proofs.Written.{written_pieces}
use Rattle.read_back.proofs.Steps.{SpellableIsSpelled}
use Rattle.read_back.proofs.ReadBackPlaces.{well_formed-same, same-back}
use Rattle.read_back.proofs.ReadBackModule.{read-as}
use Rattle.read_back.proofs.MadeNames.{names_behind, names-made, words-differ}
use Rattle.read_back.proofs.MadeInsts.{AreMade, insts-made, length-made}
use Rattle.read_back.proofs.MadeWritten.{written_made, plain_function, made-same}
use Rattle.read_back.proofs.MadeSpellable.{word-name, made-spellable}
use Rattle.read_back.proofs.MadeWellFormed.{made-well_formed}
use Rattle.read_back.proofs.MadeBytes.{tokens_as, spelled-as, made-bytes}

-- ---- a function (109 is the letter m)

plain_spelled : SpellableIsSpelled → (k : ℕ) (insts : List Inst) (h : AreMade 0 insts) → k < 2 ^ 64
    → length insts ≤ 64 → IsSpelled (plain_function (function_name k) insts)
plain_spelled s k insts h small few =
    let w : WrittenFunction = written_made (function_name k) insts h in
    let f : Function = plain_function (function_name k) insts in
    let same = made-same (function_name k) insts h (omega (arith, few)) in
    let well = well_formed-same f (numbered w) (same-back (numbered w) f same)
    (made-well_formed (function_name k) insts h) in
    let named = word-name 109 k (omega arith) small in
    let spellable = made-spellable (function_name k) insts h named few in
    let pieces : List Piece = written_pieces none w in
    let r = read-as s w f spellable same well (tokens_as pieces) (spelled-as pieces) in
    record {
      tokens = tokens_as pieces;
      bytes = made-bytes 109 k insts h (omega arith) small few;
      function = r.function;
      is = r.is;
      same = same-back f r.function r.same;
    }

-- a function of this number of instructions with these names
abbrev with_count : ℕ → List Inst → ℕ → List Name → Function
with_count k insts count names = record {
  name = function_name k;
  returns = Some (Int eight);
  returns_no_undef = false;
  parameters = byte_parameter 0 ∷ byte_parameter 1 ∷ [];
  blocks = record {
    label = 2;
    phis = [];
    insts = insts;
    terminator = Return (Some (record { of_type = Int eight; operand = value (count + 1) }));
  } ∷ [];
  names = names;
  places = [];
}

made_plain : (in_target : Bool) (insts k x : ℕ) → insts ≤ 64
    → made_function in_target insts k x
    ≡ plain_function (function_name k) (made_insts in_target insts 0 x)
made_plain in_target insts k x few =
    let all : List Inst = made_insts in_target insts 0 x in
    ap (λ (ns : List Name). with_count k all insts ns) (names-made insts (omega (arith, few)))
    ∙ ap (λ (c : ℕ). with_count k all c (names_behind c)) (sym (length-made in_target insts 0 x))

made_spelled : SpellableIsSpelled → (in_target : Bool) (insts k x : ℕ) → insts ≤ 64 → k < 2 ^ 64
    → IsSpelled (made_function in_target insts k x)
made_spelled s in_target insts k x few small =
    subst IsSpelled (sym (made_plain in_target insts k x few))
    (plain_spelled s k (made_insts in_target insts 0 x) (insts-made in_target insts 0 x) small
    (omega (arith, few, length-made in_target insts 0 x)))

-- ---- a module

length_entries : (in_target : Bool) (insts n k x : ℕ)
    → length (made_entries in_target insts n k x) ≡ n
length_entries in_target insts zero k x = refl
length_entries in_target insts (suc n) k x =
    ap suc (length_entries in_target insts n (k + 1) (state_behind (4 * insts) x))

abbrev names_of : List Entry → List Name
names_of es = map (λ (e : Entry). e.name) es

others_differ : (in_target : Bool) (insts n k x j : ℕ) → j < k → k + n < 2 ^ 64
    → AllByRecursion (λ (m : Name). same_name (function_name j) m ≡ false)
    (names_of (made_entries in_target insts n k x))
others_differ in_target insts zero k x j less small = tt
others_differ in_target insts (suc n) k x j less small = (
  words-differ 109 j k (omega (arith, less, small)) (omega (arith, small))
      (λ e. omega (arith, less, e)),
  others_differ in_target insts n (k + 1)
      (state_behind (4 * insts) x) j (omega (arith, less)) (omega (arith, small)),
)

names_differ : (in_target : Bool) (insts n k x : ℕ) → k + n < 2 ^ 64
    → IsDistinct same_name (names_of (made_entries in_target insts n k x))
unfolding IsDistinct
names_differ in_target insts zero k x small = tt
names_differ in_target insts (suc n) k x small = (
  others_differ in_target insts n (k + 1) (state_behind (4 * insts) x) k (omega arith)
      (omega (arith, small)),
  names_differ in_target insts n (k + 1) (state_behind (4 * insts) x)
      (omega (arith, small)),
)

entries_printable : SpellableIsSpelled → (in_target : Bool) (insts n k x : ℕ) → insts ≤ 64
    → k + n < 2 ^ 64 → AllByRecursion IsPrintableEntry (made_entries in_target insts n k x)
entries_printable s in_target insts zero k x few small = tt
entries_printable s in_target insts (suc n) k x few small = (
  record {
    function = made_function in_target insts k x;
    accepted = refl;
    named = refl;
    spelled = made_spelled s in_target insts k x few (omega (arith, small));
  },
  entries_printable s in_target insts n (k + 1) (state_behind (4 * insts) x) few
      (omega (arith, small)),
)

pub made-printable : SpellableIsSpelled → MadeModulesArePrintable
made-printable s in_target seed functions insts some few = record {
  few = omega (arith, some, length_entries in_target insts functions 0 seed);
  different = names_differ in_target insts functions 0 seed (omega (arith, some));
  each = entries_printable s in_target insts functions 0 seed few (omega (arith, some));
}
