-- A name's number is below the size of the table that has it, and the table has the name there, however it grows on.
use Rattle.ir_numbering.proofs.Common.{◌≡◌, ℕ, suc, ◌+◌, ◌<◌, ◌≤◌, Bool, true, false, cond, List, [], ◌∷◌, ◌++◌, length, Some, refl, sym, ap, ◌∙◌, arith, not, ◌||◌, list_any, slice_get, length-append, append-nil, Name, Number, Word, same_name, with_name, number_of}
use Rattle.std.proofs.lemmas.Slice.Eq.{bytes_eq-Decides}

has-less : (xs : List Name) (x : Name) → list_any (same_name x) xs ≡ true → number_of xs x < length xs
has-less [] x e = absurd (cc e)
has-less (y ∷ ys) x e = go (same_name x y) (has-less ys x) e
  where
    go : (b : Bool) → (list_any (same_name x) ys ≡ true → number_of ys x < length ys) → (b || list_any (same_name x) ys) ≡ true → cond (not b) (1 + number_of ys x) 0 < suc (length ys)
    go true rec e' = omega arith
    go false rec e' = omega (arith, rec e')

new-number : (xs : List Name) (x : Name) → list_any (same_name x) xs ≡ false → number_of xs x ≡ length xs
new-number [] x e = refl
new-number (y ∷ ys) x e = go (same_name x y) (new-number ys x) e
  where
    go : (b : Bool) → (list_any (same_name x) ys ≡ false → number_of ys x ≡ length ys) → (b || list_any (same_name x) ys) ≡ false → cond (not b) (1 + number_of ys x) 0 ≡ suc (length ys)
    go true rec e' = absurd (cc e')
    go false rec e' = omega (arith, rec e')

same-is : (x y : Name) → same_name x y ≡ true → y ≡ x
same-is (Number a) (Number b) e = ap (λ (t : List ℕ). Number t) (sym ((bytes_eq-Decides a b).0 e))
same-is (Word a) (Word b) e = ap (λ (t : List ℕ). Word t) (sym ((bytes_eq-Decides a b).0 e))
same-is (Number a) (Word b) e = absurd (cc e)
same-is (Word a) (Number b) e = absurd (cc e)

next-get : (y : Name) (ys : List Name) (n : ℕ) → slice_get (y ∷ ys) (1 + n) ≡ slice_get ys n
next-get y ys n = let e : 1 + n ≡ suc n = omega arith in rw e refl

has-name : (xs : List Name) (x : Name) (later : List Name) → list_any (same_name x) xs ≡ true → slice_get (xs ++ later) (number_of xs x) ≡ Some x
has-name [] x later e = absurd (cc e)
has-name (y ∷ ys) x later e = go (same_name x y) refl (has-name ys x later) e
  where
    go : (b : Bool) → same_name x y ≡ b → (list_any (same_name x) ys ≡ true → slice_get (ys ++ later) (number_of ys x) ≡ Some x) → (b || list_any (same_name x) ys) ≡ true → slice_get (y ∷ (ys ++ later)) (cond (not b) (1 + number_of ys x) 0) ≡ Some x
    go true is rec e' = ap (λ (z : Name). Some z) (same-is x y is)
    go false is rec e' = next-get y (ys ++ later) (number_of ys x) ∙ rec e'

last-name : (xs : List Name) (x : Name) (later : List Name) → slice_get ((xs ++ x ∷ []) ++ later) (length xs) ≡ Some x
last-name [] x later = refl
last-name (y ∷ ys) x later = last-name ys x later

pub record Joins (xs ys : List Name) (x : Name) : Type 0 where
  pub below : number_of xs x < length ys
  pub grows : length xs ≤ length ys
  pub more : List Name
  pub joined : ys ≡ xs ++ more
  pub named : (later : List Name) → slice_get (ys ++ later) (number_of xs x) ≡ Some x

pub joins : (xs : List Name) (x : Name) → Joins xs (with_name xs x) x
joins xs x = go (list_any (same_name x) xs) refl
  where
    go : (b : Bool) → list_any (same_name x) xs ≡ b → Joins xs (cond b xs (xs ++ x ∷ [])) x
    go true e = record { below = has-less xs x e; grows = omega arith; more = []; joined = sym (append-nil xs); named = λ later. has-name xs x later e }
    go false e = record {
      below = omega (arith, new-number xs x e, length-append xs (x ∷ []));
      grows = omega (arith, length-append xs (x ∷ []));
      more = x ∷ [];
      joined = refl;
      named = λ later. ap (λ (n : ℕ). slice_get ((xs ++ x ∷ []) ++ later) n) (new-number xs x e) ∙ last-name xs x later;
    }
