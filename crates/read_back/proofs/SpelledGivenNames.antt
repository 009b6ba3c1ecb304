-- The names that the language gives to what is written without one are names that can be printed.
use Rattle.read_back.proofs.Common.{◌≡◌, ◌⊎◌, inl, inr, ℕ, ◌+◌, ◌<◌, ◌≤◌, Bool, true, false, eqb, ltb, cond, List, [], ◌∷◌, ◌++◌, length, Option, Some, None, refl, sym, ap, subst, ◌∙◌, arith, All, ◌&&◌, list_all, AllByRecursion, and_parts, and_from, and_right, ne_eqb, eqb-false, le-ltb, lt-ltb, length-append, All-contains, All-from_recursion, is_digit, Name, without_zeros, is_pointer_type, WrittenName, WrittenParameter, NamedParameter, next_name, AreDigits, IsDecimal, AreDecimal, name_or, names_of, named, named_behind, next-name}
use Rattle.ir_tree.specs.declared.name.Name.TheVariants as name
use Rattle.read_back.proofs.Spellable.{IsName, IsNameOrNone, IsParameter}
use Rattle.read_back.proofs.SpelledNumbers.{is-digit, digit-range}

-- ---- decimal digits

are-digits : (ds : List ℕ) → AreDigits ds → list_all is_digit ds ≡ true
are-digits [] all = refl
are-digits (d ∷ ds) (low, high, all) =
    and_from (is_digit d) (list_all is_digit ds) (is-digit d low high) (are-digits ds all)

digits-are : (ds : List ℕ) → list_all is_digit ds ≡ true → AreDigits ds
digits-are [] all = tt
digits-are (d ∷ ds) all =
    let both = and_parts (is_digit d) (list_all is_digit ds) all in
    let range = digit-range d both.0 in (range.0, range.1, digits-are ds both.1)

kept-first : (d : ℕ) (ds : List ℕ) → (48 < d) ⊎ (ds ≡ []) → without_zeros (d ∷ ds) ≡ d ∷ ds
kept-first d ds (inl above) =
    let no_zero : eqb d 48 ≡ false = ne_eqb d 48 (λ (same : d ≡ 48). omega (arith, above, same)) in
    rw no_zero refl
kept-first d ds (inr alone) =
    rw
    (and_right (eqb d 48) (ltb 0 (length ds))
    (le-ltb 0 (length ds) (omega (arith, ap length alone)))) refl

decimal-name : (digits : List ℕ) → IsDecimal digits → IsName (name.Number digits)
decimal-name [] is = absurd is
decimal-name (d ∷ ds) (all, first) = (are-digits (d ∷ ds) all, kept-first d ds first)

shorter : (ds : List ℕ) → length (without_zeros ds) ≤ length ds
shorter [] = omega arith
shorter (d ∷ ds) = go (eqb d 48 && ltb 0 (length ds)) (shorter ds)
  where
    go : (b : Bool) → length (without_zeros ds) ≤ length ds
        → length (cond b (without_zeros ds) (d ∷ ds)) ≤ length (d ∷ ds)
    go true h = omega (arith, h)
    go false h = omega arith

first-kept : (d : ℕ) (ds : List ℕ) → 48 ≤ d → without_zeros (d ∷ ds) ≡ d ∷ ds → (48 < d) ⊎ (ds ≡ [])
first-kept d [] low e = inr refl
first-kept d (c ∷ ds) low e = go (eqb d 48) refl e
  where
    go : (b : Bool) → eqb d 48 ≡ b → cond (b && ltb 0 (length (c ∷ ds))) (without_zeros (c ∷ ds))
        (d ∷ c ∷ ds) ≡ d ∷ c ∷ ds → (48 < d) ⊎ (c ∷ ds ≡ [])
    go false is same = let no = eqb-false d 48 is in inl (omega (arith, low, no))
    go true is same =
        let some : ltb 0 (length (c ∷ ds)) ≡ true = lt-ltb 0 (length (c ∷ ds)) (omega arith) in
        let whole : without_zeros (c ∷ ds) ≡ d ∷ c ∷ ds = rw some at same in
        absurd (omega (arith, ap length whole, shorter (c ∷ ds)))

name-decimal : (digits : List ℕ) → IsName (name.Number digits) → IsDecimal digits
name-decimal [] (all, kept) = absurd (cc all)
name-decimal (d ∷ ds) (all, kept) =
    let digits = digits-are (d ∷ ds) all in (digits, first-kept d ds digits.0 kept)

next-is-name : (names : List Name) → All IsName names → IsName (next_name names)
next-is-name names all =
    let are : AreDecimal names = λ digits contains. name-decimal digits
    (All-contains IsName names (name.Number digits) all contains) in
    let next = next-name names are in
    subst IsName (sym next.is) (decimal-name next.digits next.decimal)

-- ---- parameters

pub record IsNamedParameter (p : NamedParameter) : Type 0 where
  pub name : IsName p.name
  pub non_null : p.non_null ≡ true → is_pointer_type p.of_type ≡ true

names-all : (ps : List NamedParameter) → AllByRecursion IsNamedParameter ps
    → AllByRecursion IsName (names_of ps)
names-all [] all = tt
names-all (p ∷ ps) (is, all) = (is.name, names-all ps all)

pub given-name : (ps : List NamedParameter) → AllByRecursion IsNamedParameter ps
    → (o : Option WrittenName) → IsNameOrNone o → IsName (name_or o (next_name (names_of ps)))
given-name ps all None is =
    next-is-name (names_of ps) (All-from_recursion IsName (names_of ps) (names-all ps all))
given-name ps all (Some n) is = is

one-named : (before : List NamedParameter) (p : WrittenParameter)
    → AllByRecursion IsNamedParameter before → IsParameter p → IsNamedParameter (named before p)
one-named before p all is =
    record { name = given-name before all p.name is.name; non_null = is.non_null }

push-all : (ps : List NamedParameter) (p : NamedParameter) → AllByRecursion IsNamedParameter ps
    → IsNamedParameter p → AllByRecursion IsNamedParameter (ps ++ p ∷ [])
push-all [] p all is = (is, tt)
push-all (q ∷ ps) p (here, all) is = (here, push-all ps p all is)

pub named-all : (before : List NamedParameter) (ps : List WrittenParameter)
    → AllByRecursion IsNamedParameter before → AllByRecursion IsParameter ps
    → AllByRecursion IsNamedParameter (named_behind before ps)
named-all before [] all are = all
named-all before (p ∷ ps) all (is, are) =
    named-all (before ++ named before p ∷ []) ps
    (push-all before (named before p) all (one-named before p all is)) are

pub named-length : (before : List NamedParameter) (ps : List WrittenParameter)
    → length (named_behind before ps) ≡ length before + length ps
named-length before [] = omega arith
named-length before (p ∷ ps) =
    named-length (before ++ named before p ∷ []) ps ∙ omega
    (arith, length-append before (named before p ∷ []))
