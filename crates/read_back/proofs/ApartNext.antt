-- The names that the language gives to what has none are names too.
use Rattle.read_back.proofs.Common.{◌≡◌, ◌⊎◌, ℕ, ◌<◌, ◌≤◌, Bool, true, false, cond, eqb, List, [], ◌∷◌, ◌++◌, length, Option, Some, None, refl, sym, ap, ◌∙◌, subst, inl, inr, arith, list_all, AllByRecursion, cases_Bool, and_parts, lt-ltb, nat_tests, All-contains, All-from_recursion, is_digit, without_zeros, Name, WrittenName, WrittenParameter, WrittenFunction, NamedParameter, AreDigits, IsDecimal, AreDecimal, next_name, name_or, names_of, named, named_behind, entry_name, next-name}
use Rattle.std.proofs.Common.{◌&&◌, nat_lt}
use Rattle.ir_tree.specs.declared.name.Name.TheVariants as name
use Rattle.read_back.proofs.Spellable.{IsName, IsNameOrNone, IsParameter, IsSpellable}

-- ---- digits

digit_bounds : (d : ℕ) → is_digit d ≡ true → (48 ≤ d) × (d ≤ 57)
digit_bounds d h = (grind (arith, nat_tests), grind (arith, nat_tests))

bounds_digit : (d : ℕ) → 48 ≤ d → d ≤ 57 → is_digit d ≡ true
bounds_digit d h l = grind (arith, nat_tests)

are_digits : (ds : List ℕ) → list_all is_digit ds ≡ true → AreDigits ds
are_digits [] h = tt
are_digits (d ∷ ds) h = let e = and_parts (is_digit d) (list_all is_digit ds) h in let b = digit_bounds d e.0 in (b.0, b.1, are_digits ds e.1)

all_digits : (ds : List ℕ) → AreDigits ds → list_all is_digit ds ≡ true
all_digits [] h = refl
all_digits (d ∷ ds) h = rw (bounds_digit d h.0 h.1) (all_digits ds h.2)

zeros_shorter : (ds : List ℕ) → length (without_zeros ds) ≤ length ds
zeros_shorter [] = omega arith
zeros_shorter (d ∷ ds) =
    elim (cases_Bool (eqb d 48 && nat_lt 0 (length ds))) [
      | inl t ↦ let e : length (without_zeros (d ∷ ds)) ≡ length (without_zeros ds) = rw t refl in omega (arith, e, zeros_shorter ds)
      | inr f ↦ let e : length (without_zeros (d ∷ ds)) ≡ length (d ∷ ds) = rw f refl in omega (arith, e)
    ]

first_digit : (d : ℕ) (ds : List ℕ) → is_digit d ≡ true → without_zeros (d ∷ ds) ≡ d ∷ ds → (48 < d) ⊎ (ds ≡ [])
first_digit d [] h e = inr refl
first_digit d (c ∷ ds) h e =
    elim (cases_Bool (eqb d 48)) [
      | inl t ↦ let more : nat_lt 0 (length (c ∷ ds)) ≡ true = lt-ltb 0 (length (c ∷ ds)) (omega arith) in
          let zeros : without_zeros (d ∷ c ∷ ds) ≡ without_zeros (c ∷ ds) = rw (t, more) refl in
          absurd (omega (arith, ap length (sym zeros ∙ e), zeros_shorter (c ∷ ds)))
      | inr f ↦ inl (above d h f)
    ]
  where
    above : (d : ℕ) → is_digit d ≡ true → eqb d 48 ≡ false → 48 < d
    above d h f = grind (arith, nat_tests)

decimal_of : (ds : List ℕ) → IsName (name.Number ds) → IsDecimal ds
decimal_of [] h = let bad = h.0 in absurd cc
decimal_of (d ∷ ds) h = let e = and_parts (is_digit d) (list_all is_digit ds) h.0 in (are_digits (d ∷ ds) h.0, first_digit d ds e.0 h.1)

no_zeros : (d : ℕ) (ds : List ℕ) → (48 < d) ⊎ (ds ≡ []) → without_zeros (d ∷ ds) ≡ d ∷ ds
no_zeros d ds (inl above) = let other : eqb d 48 ≡ false = grind (arith, nat_tests) in rw other refl
no_zeros d ds (inr e) = rw e (alone d (eqb d 48))
  where
    alone : (d : ℕ) (test : Bool) → cond (test && false) [] (d ∷ []) ≡ d ∷ []
    alone d true = refl
    alone d false = refl

pub number-name : (ds : List ℕ) → IsDecimal ds → IsName (name.Number ds)
number-name [] h = absurd h
number-name (d ∷ ds) h = (all_digits (d ∷ ds) h.0, no_zeros d ds h.1)

-- ---- names after others

abbrev pub AreNamed : List NamedParameter → Type 0
AreNamed ps = AllByRecursion (λ (p : NamedParameter). IsName p.name) ps

each_name : (ps : List NamedParameter) → AreNamed ps → AllByRecursion IsName (names_of ps)
each_name [] h = tt
each_name (p ∷ ps) h = (h.0, each_name ps h.1)

next-is : (ps : List NamedParameter) → AreNamed ps → IsName (next_name (names_of ps))
next-is ps h =
    let decimal : AreDecimal (names_of ps) = λ digits c. decimal_of digits (All-contains IsName (names_of ps) (name.Number digits) (All-from_recursion IsName (names_of ps) (each_name ps h)) c) in
    let next = next-name (names_of ps) decimal in
    subst IsName (sym next.is) (number-name next.digits next.decimal)

name_or-is : (o : Option WrittenName) (other : Name) → IsNameOrNone o → IsName other → IsName (name_or o other)
name_or-is None other h k = k
name_or-is (Some n) other h k = h

named_push : (ps : List NamedParameter) (p : NamedParameter) → AreNamed ps → IsName p.name → AreNamed (ps ++ p ∷ [])
named_push [] p h k = (k, tt)
named_push (q ∷ ps) p h k = (h.0, named_push ps p h.1 k)

pub named-behind : (before : List NamedParameter) (ps : List WrittenParameter) → AreNamed before → AllByRecursion IsParameter ps → AreNamed (named_behind before ps)
named-behind before [] h k = h
named-behind before (p ∷ ps) h k =
    named-behind (before ++ named before p ∷ []) ps (named_push before (named before p) h (name_or-is p.name (next_name (names_of before)) k.0.name (next-is before h))) k.1

-- each parameter, and the entry, has a name
pub parameters-named : (w : WrittenFunction) → IsSpellable w → AreNamed (named_behind [] w.parameters)
parameters-named w h = named-behind [] w.parameters tt h.parameters

pub entry-named : (w : WrittenFunction) → IsSpellable w → IsName (entry_name w)
entry-named w h = name_or-is w.label (next_name (names_of (named_behind [] w.parameters))) h.label (next-is (named_behind [] w.parameters) (parameters-named w h))
