-- Answers that fit their pairs index by index.
use Rattle.std.proofs.Common.{◌≡◌, ℕ, Bool, false, true≢false, suc, ◌+◌, ◌<◌, ◌≤◌, List, [], ◌∷◌, ◌++◌, length, get_or, take, sym, ap, subst, ◌∙◌, arith}
use Rattle.std.proofs.lemmas.List.{get_or-take, length-take-le, take_all, take_more}
use Rattle.std.proofs.lemmas.Slice.Zip.{all_zipped_more}
use mathlib.Core.Logic.{dite}
use native.Mathlib.Decide.{dec_le}
use Rattle.std.specs.List.{AllZip}
use Rattle.verdicts.specs.Pair.{Functions}
use Rattle.pair_driver.specs.declared.judged.Judged.{Judged}
use Rattle.pair_driver.specs.Draws.{AreFirst, AreRun}

AllZip-each : {A B : Type 0} (R : A → B → Type 0) (xs : List A) (ys : List B) → length ys ≡ length xs → ((i : ℕ) (d : A) (e : B) → i < length xs → R (get_or xs i d) (get_or ys i e)) → AllZip R xs ys
AllZip-each R [] [] same each = tt
AllZip-each R [] (y ∷ ys) same each = absurd (omega arith)
AllZip-each R (x ∷ xs) [] same each = absurd (omega arith)
AllZip-each R (x ∷ xs) (y ∷ ys) same each = (each 0 x y (omega arith), AllZip-each R xs ys (omega arith) (λ i d e l. each (suc i) d e (omega arith)))

pub AllZip-run : (allows : Functions → Judged → Type 0) (pairs : List Functions) (answers : List Judged) → AreRun (λ i judged. (d : Functions) → allows (get_or pairs i d) judged) (length pairs) answers
    → AllZip allows pairs answers
AllZip-run allows pairs answers run = AllZip-each allows pairs answers run.count (λ i d e inside. run.each i e inside d)

pub AllZip-first : (allows : Functions → Judged → Type 0) (ends : Judged → Bool) (pairs : List Functions) (answers : List Judged)
    → AreFirst (λ i judged. (d : Functions) → allows (get_or pairs i d) judged) ends (length pairs) answers → AllZip allows (take (length answers) pairs) answers
AllZip-first allows ends pairs answers first =
    let few = first.stops.few in
    let long = length-take-le (length answers) pairs few in
    AllZip-each allows (take (length answers) pairs) answers (sym long)
    (λ i d e inside. subst (λ p. allows p (get_or answers i e)) (sym (get_or-take (length answers) pairs i d (omega arith))) (first.each i e (omega arith) d))

-- a run that no answer ends has an answer for each task
pub AreRun-endless : (allows : ℕ → Judged → Type 0) (ends : Judged → Bool) (n : ℕ) (answers : List Judged) → ((judged : Judged) → ends judged ≡ false) → AreFirst allows ends n answers → AreRun allows n answers
AreRun-endless allows ends n answers endless first =
    let few = first.stops.few in
    let all : length answers ≡ n = dite (dec_le n (length answers))
    (λ many. omega arith)
    (λ fewer. let end = first.stops.last (omega arith) in absurd (true≢false (sym end.4 ∙ endless end.1)))
    in record { count = all; each = λ i d inside. first.each i d (omega arith) }

-- ---- one pair after the other

pub AllZip-next : (allows : Functions → Judged → Type 0) (pairs : List Functions) (i : ℕ) (pair : Functions) (judged : Judged) (before after : List Judged) → i < length pairs → pair ≡ get_or pairs i pair
    → after ≡ before ++ judged ∷ [] → AllZip allows (take i pairs) before → allows pair judged → AllZip allows (take (i + 1) pairs) after
AllZip-next allows pairs i pair judged before after inside is pushed each one =
    let first : take (i + 1) pairs ≡ take i pairs ++ pair ∷ [] = take_more pairs i pair inside ∙ ap (λ (p : Functions). take i pairs ++ p ∷ []) (sym is) in
    subst (λ (answers : List Judged). AllZip allows (take (i + 1) pairs) answers) (sym pushed)
    (subst (λ (ps : List Functions). AllZip allows ps (before ++ judged ∷ [])) (sym first) (all_zipped_more allows (take i pairs) before pair judged each one))

pub AllZip-whole : (allows : Functions → Judged → Type 0) (pairs : List Functions) (i : ℕ) (answers : List Judged) → length pairs ≤ i → AllZip allows (take i pairs) answers → AllZip allows pairs answers
AllZip-whole allows pairs i answers past each = subst (λ (ps : List Functions). AllZip allows ps answers) (take_all i pairs past) each
