-- Numbers among the names of a module have no leading zeros.
use Rattle.tv_run.proofs.Common.{◌≡◌, ◌&&◌, ◌-◌, ℕ, eqb, ltb, arith, All, List, [], ◌∷◌, ◌++◌, length, drop, take, slice_get, Some, Bool, true, false, refl, sym, subst, inl, inr, AllByRecursion, list_all, cases_Bool, eqb-false, ltb-false, nat_tests, All-cons, All-nil, Name, Entry, Module, IsModule, AreEntries, IsPrintedNumber, IsReadName, entry_names}
use Rattle.std.proofs.lemmas.Option.{same_Some}
use Rattle.ir_lexer.specs.Bytes.{is_digit}
use Rattle.ir_lexer.specs.Lexeme.{Lexeme}
use Rattle.ir_lexer.specs.Spelling.{is_digits}
use Rattle.ir_lexer.specs.declared.token.Kind.{Kind}
use Rattle.ir_lexer.specs.declared.token.Kind.TheVariants as kind
use Rattle.ir_items.specs.declared.item.Define.{Define}
use Rattle.ir_items.specs.Items.{IsCut, nothing, other, define, name_at, name_from}
use Rattle.ir_items.specs.Names.{name_in, name_of, without_zeros}
use Rattle.ir_naming.specs.Naming.{is_digit as is_printed_digit}
use Rattle.module_files.specs.Reading.{IsParsed}
use Rattle.tv_run.specs.Answers.{IsJudgeableModule}

-- ---- digits

same_digit : (b : ℕ) → is_digit b ≡ true → is_printed_digit b ≡ true
same_digit b e = grind (arith, nat_tests)

all_digits : (bs : List ℕ) → list_all is_digit bs ≡ true → All (λ b. is_printed_digit b ≡ true) bs
all_digits [] e = All-nil (λ b. is_printed_digit b ≡ true)
all_digits (b ∷ bs) e = elim (cases_Bool (is_digit b)) [
  | inl f ↦ let rest : list_all is_digit bs ≡ true = rw f at e in All-cons (λ b. is_printed_digit b ≡ true) b bs (same_digit b f) (all_digits bs rest)
  | inr f ↦ let none : false ≡ true = rw f at e in absurd (cc none)
]

-- digits, the first of which is no zero that others follow
printed : (d : ℕ) (ds : List ℕ) → All (λ b. is_printed_digit b ≡ true) (d ∷ ds) → (d ≡ 48 → length ds ≡ 0) → IsPrintedNumber (d ∷ ds)
printed d ds all one = (omega arith, all, λ e. let none = one (same_Some d 48 e) in omega (arith, none))

printed_digits : (d : ℕ) (ds : List ℕ) → list_all is_digit (d ∷ ds) ≡ true → IsPrintedNumber (without_zeros (d ∷ ds))
printed_digits d [] all = elim (cases_Bool (eqb d 48)) [
  | inl e ↦ rw e (printed d [] (all_digits (d ∷ []) all) (λ same. refl))
  | inr e ↦ rw e (printed d [] (all_digits (d ∷ []) all) (λ same. refl))
]
printed_digits d (b ∷ bs) all = elim (cases_Bool (eqb d 48)) [
  | inl e ↦ elim (cases_Bool (ltb 0 (length (b ∷ bs)))) [
    | inl f ↦ rw (e, f) (printed_digits b bs (rest (is_digit d) all))
    | inr f ↦ absurd (let none = ltb-false 0 (length (b ∷ bs)) f in omega (arith, none))
  ]
  | inr e ↦ rw e (printed d (b ∷ bs) (all_digits (d ∷ b ∷ bs) all) (λ same. absurd (eqb-false d 48 e same)))
]
  where
    rest : (t : Bool) → (t && list_all is_digit (b ∷ bs)) ≡ true → list_all is_digit (b ∷ bs) ≡ true
    rest true e = e
    rest false e = absurd (cc e)

-- ---- names

pub read_name : (text : List ℕ) → IsReadName (name_of text)
read_name [] = tt
read_name (b ∷ bs) = elim (cases_Bool (eqb b 34)) [
  | inl e ↦ rw e tt
  | inr e ↦ elim (cases_Bool (is_digits (b ∷ bs))) [
    | inl f ↦ rw (e, f) (printed_digits b bs f)
    | inr f ↦ rw (e, f) tt
  ]
]

name_read : (k : Kind) (text : List ℕ) (n : Name) → name_in k text ≡ Some n → IsReadName n
name_read kind.Local text n e = subst IsReadName (same_Some (name_of (drop 1 text)) n e) (read_name (drop 1 text))
name_read kind.Global text n e = subst IsReadName (same_Some (name_of (drop 1 text)) n e) (read_name (drop 1 text))
name_read kind.Comdat text n e = subst IsReadName (same_Some (name_of (drop 1 text)) n e) (read_name (drop 1 text))
name_read kind.Label text n e = subst IsReadName (same_Some (name_of (take (length text - 1) text)) n e) (read_name (take (length text - 1) text))
name_read _ text n e = absurd (cc e)

found_read : (tokens : List Lexeme) (place : ℕ) (n : Name) → name_at tokens place ≡ Some n → IsReadName n
unfolding name_at
found_read tokens place n e = go (slice_get tokens place) e
  where
    go : (found : Rattle.std.specs.Prelude.Option Lexeme) → name_from found ≡ Some n → IsReadName n
    go (Some t) f = name_read t.kind t.text n f
    go Rattle.std.specs.Prelude.None f = absurd (cc f)

all_append : {X : Type 0} (P : X → Type 0) (xs ys : List X) → AllByRecursion P xs → AllByRecursion P ys → AllByRecursion P (xs ++ ys)
all_append P [] ys h k = k
all_append P (x ∷ xs) ys h k = (h.0, all_append P xs ys h.1 k)

defines_read : (tokens : List Lexeme) (end : ℕ) (defines : List Define) → IsCut tokens end defines → AllByRecursion (λ (d : Define). IsReadName d.name) defines
defines_read tokens end defines nothing = tt
defines_read tokens end defines (other cut is) = defines_read tokens _ _ cut
defines_read tokens end defines (define {first = first} {place = place} {name = name} {defines = before} cut is named new few) =
    all_append (λ (d : Define). IsReadName d.name) before (record { name = name; first = first; last = end - 1 } ∷ []) (defines_read tokens _ before cut) (found_read tokens place name named, tt)

entries_read : (tokens : List Lexeme) (defines : List Define) (m : List Entry) → AreEntries tokens defines m → AllByRecursion (λ (d : Define). IsReadName d.name) defines → AllByRecursion IsReadName (entry_names m)
entries_read tokens [] [] are all = tt
entries_read tokens [] (e ∷ es) are all = absurd are
entries_read tokens (d ∷ ds) [] are all = absurd are
entries_read tokens (d ∷ ds) (e ∷ es) are all = (subst IsReadName (sym are.0.name) all.0, entries_read tokens ds es are.1 all.1)

pub names_read : (text : List ℕ) (m : Module) → IsModule text m → AllByRecursion IsReadName (entry_names m.entries)
names_read text m is = entries_read is.tokens is.defines m.entries is.entries (defines_read is.tokens (length is.tokens) is.defines is.cut)

-- so a module that was read is one that the judge takes
pub judgeable_module : (text : List ℕ) (m : Module) → IsParsed text m → IsJudgeableModule m
judgeable_module text m is = record { judgeable = is.judgeable; distinct = is.distinct; named = names_read text m is.formed }
