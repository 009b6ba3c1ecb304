-- The name that bytes spell: digits without leading zeros, or bytes.
use Rattle.read_back.proofs.Common.{◌≡◌, ℕ, ◌+◌, ◌-◌, ◌*◌, ◌<◌, Bool, true, false, cond, List, [], ◌∷◌, length, take, drop, Option, Some, None, refl, sym, subst, arith, ◌&&◌, ◌==◌, nat_lt, list_all, nat_tests, All-nil, All-cons, All-head, All-tail, All-take, All-drop, Place, is_digit, is_hexadecimal_digit, is_digits, Kind, Name, without_zeros, hexadecimal_value, is_backslash, unescaped, name_of, WrittenName, local_of, global_of, label_of, named_at}
use Rattle.std.proofs.Common.{All}
use Rattle.ir_lexer.specs.declared.token.Kind.TheVariants as kind
use Rattle.ir_tree.specs.declared.name.Name.TheVariants as name
use Rattle.ir_grammar.specs.Classes.{local, global}
use Rattle.read_back.proofs.Spellable.{IsName}
use Rattle.read_back.proofs.FitsForms.{Stands}

abbrev pub AreBytes : List ℕ → Type 0
AreBytes bs = All (λ (b : ℕ). b < 256) bs

-- ---- words

hexadecimal-small : (b : ℕ) → is_hexadecimal_digit b ≡ true → hexadecimal_value b < 16
hexadecimal-small b e = grind (arith, nat_tests)

and-both : (a b c : Bool) → (a && b && c) ≡ true → (b ≡ true) × (c ≡ true)
and-both true true true e = (refl, refl)
and-both true true false e = absurd (cc e)
and-both true false c e = absurd (cc e)
and-both false b c e = absurd (cc e)

escape-small : (c d : ℕ) → is_hexadecimal_digit c ≡ true → is_hexadecimal_digit d ≡ true → 16 * hexadecimal_value c + hexadecimal_value d < 256
escape-small c d C D = omega (arith, hexadecimal-small c C, hexadecimal-small d D)

choose : (t : Bool) (xs ys : List ℕ) → (t ≡ true → AreBytes xs) → (t ≡ false → AreBytes ys) → AreBytes (cond t xs ys)
choose true xs ys A B = A refl
choose false xs ys A B = B refl

byte-then : (b : ℕ) (bs : List ℕ) → b < 256 → AreBytes bs → AreBytes (b ∷ bs)
byte-then b bs small all = All-cons (λ (c : ℕ). c < 256) b bs small all

byte-first : (b : ℕ) (bs : List ℕ) → AreBytes (b ∷ bs) → b < 256
byte-first b bs all = All-head (λ (c : ℕ). c < 256) b bs all

bytes-behind : (b : ℕ) (bs : List ℕ) → AreBytes (b ∷ bs) → AreBytes bs
bytes-behind b bs all = All-tail (λ (c : ℕ). c < 256) b bs all

unescaped-bytes : (bs : List ℕ) → AreBytes bs → AreBytes (unescaped bs)
unescaped-bytes [] all = all
unescaped-bytes (b ∷ []) all = all
unescaped-bytes (b ∷ c ∷ []) all = choose (is_backslash b && is_backslash c) (92 ∷ []) (b ∷ c ∷ []) (λ e. byte-then 92 [] (omega arith) (All-nil (λ (d : ℕ). d < 256))) (λ e. all)
unescaped-bytes (b ∷ c ∷ d ∷ rest) all =
    let behind-one : AreBytes (c ∷ d ∷ rest) = bytes-behind b (c ∷ d ∷ rest) all in
    let behind-two : AreBytes (d ∷ rest) = bytes-behind c (d ∷ rest) behind-one in
    let one : AreBytes (unescaped (c ∷ d ∷ rest)) = unescaped-bytes (c ∷ d ∷ rest) behind-one in
    let two : AreBytes (unescaped (d ∷ rest)) = unescaped-bytes (d ∷ rest) behind-two in
    let three : AreBytes (unescaped rest) = unescaped-bytes rest (bytes-behind d rest behind-two) in
    choose (is_backslash b && is_backslash c) (92 ∷ unescaped (d ∷ rest)) _ (λ e. byte-then 92 (unescaped (d ∷ rest)) (omega arith) two)
    (λ e. choose (is_backslash b && is_hexadecimal_digit c && is_hexadecimal_digit d) ((16 * hexadecimal_value c + hexadecimal_value d) ∷ unescaped rest) (b ∷ unescaped (c ∷ d ∷ rest))
    (λ f. let H = and-both (is_backslash b) (is_hexadecimal_digit c) (is_hexadecimal_digit d) f in byte-then (16 * hexadecimal_value c + hexadecimal_value d) (unescaped rest) (escape-small c d H.0 H.1) three)
    (λ f. byte-then b (unescaped (c ∷ d ∷ rest)) (byte-first b (c ∷ d ∷ rest) all) one))

-- ---- digits

record IsPlain (ds : List ℕ) : Type 0 where
  digits : is_digits ds ≡ true
  plain : without_zeros ds ≡ ds

digits-behind : (d e : ℕ) (ds : List ℕ) → is_digits (d ∷ e ∷ ds) ≡ true → is_digits (e ∷ ds) ≡ true
digits-behind d e ds h = go (is_digit d) h
  where
    go : (b : Bool) → (b && list_all is_digit (e ∷ ds)) ≡ true → is_digits (e ∷ ds) ≡ true
    go true h' = h'
    go false h' = absurd (cc h')

and-false : (q : Bool) → (q && false) ≡ false
and-false true = refl
and-false false = refl

plain-digits : (ds : List ℕ) → is_digits ds ≡ true → IsPlain (without_zeros ds)
plain-digits [] h = absurd (cc h)
plain-digits (d ∷ []) h =
    let last : without_zeros (d ∷ []) ≡ d ∷ [] = rw (and-false (d == 48)) refl in
    record { digits = subst (λ (ds : List ℕ). is_digits ds ≡ true) (sym last) h; plain = subst (λ (ds : List ℕ). without_zeros ds ≡ ds) (sym last) last }
plain-digits (d ∷ e ∷ ds) h = go (d == 48 && nat_lt 0 (length (e ∷ ds))) refl (plain-digits (e ∷ ds) (digits-behind d e ds h))
  where
    go : (t : Bool) → (d == 48 && nat_lt 0 (length (e ∷ ds))) ≡ t → IsPlain (without_zeros (e ∷ ds)) → IsPlain (cond t (without_zeros (e ∷ ds)) (d ∷ e ∷ ds))
    go true is P = P
    go false is P = record { digits = h; plain = rw is refl }

-- ---- names

name-is : (bs : List ℕ) → AreBytes bs → IsName (name_of bs)
name-is [] all = all
name-is (b ∷ bs) all = go (b == 34) (is_digits (b ∷ bs)) refl
  where
    go : (quoted digits : Bool) → is_digits (b ∷ bs) ≡ digits → IsName (cond quoted (name.Word (unescaped (take (length bs - 1) bs))) (cond digits (name.Number (without_zeros (b ∷ bs))) (name.Word (b ∷ bs))))
    go true digits e = unescaped-bytes (take (length bs - 1) bs) (All-take (λ (c : ℕ). c < 256) (length bs - 1) bs (bytes-behind b bs all))
    go false true e = let P = plain-digits (b ∷ bs) e in (P.digits, P.plain)
    go false false e = all

-- after a token's sign, or before a label's colon
drop-is : (text : List ℕ) → AreBytes text → IsName (name_of (drop 1 text))
drop-is text all = name-is (drop 1 text) (All-drop (λ (c : ℕ). c < 256) 1 text all)

take-is : (text : List ℕ) → AreBytes text → IsName (name_of (take (length text - 1) text))
take-is text all = name-is (take (length text - 1) text) (All-take (λ (c : ℕ). c < 256) (length text - 1) text all)

some-is : (n m : Name) → IsName n → Some n ≡ Some m → IsName m
some-is n m h e = let same : n ≡ m = cc e in subst (λ (k : Name). IsName k) same h

pub local-is : (k : Kind) (text : List ℕ) (n : Name) → AreBytes text → local_of k text ≡ Some n → IsName n
local-is kind.Local text n all e = some-is (name_of (drop 1 text)) n (drop-is text all) e
local-is _ text n all e = absurd (cc e)

pub global-is : (k : Kind) (text : List ℕ) (n : Name) → AreBytes text → global_of k text ≡ Some n → IsName n
global-is kind.Global text n all e = some-is (name_of (drop 1 text)) n (drop-is text all) e
global-is _ text n all e = absurd (cc e)

pub label-is : (k : Kind) (text : List ℕ) (n : Name) → AreBytes text → label_of k text ≡ Some n → IsName n
label-is kind.Label text n all e = some-is (name_of (take (length text - 1) text)) n (take-is text all) e
label-is _ text n all e = absurd (cc e)

pub named-is : (m : Option Name) (at : Place) (x : WrittenName) → ((n : Name) → m ≡ Some n → IsName n) → named_at m at ≡ Some x → IsName x.name
named-is None at x is e = absurd (cc e)
named-is (Some n) at x is e = let same : (let y : WrittenName = record { name = n; at = at } in y) ≡ x = cc e in subst (λ (y : WrittenName). IsName y.name) same (is n refl)

-- ---- classes of names

pub local-fits : (x : WrittenName) → Stands local.stands local.within x → IsName x.name
local-fits x S = named-is (local_of S.token.kind S.token.text) S.token.place x (λ n e. local-is S.token.kind S.token.text n S.bytes e) S.stands_for

pub global-fits : (x : WrittenName) → Stands global.stands global.within x → IsName x.name
global-fits x S = named-is (global_of S.token.kind S.token.text) S.token.place x (λ n e. global-is S.token.kind S.token.text n S.bytes e) S.stands_for
