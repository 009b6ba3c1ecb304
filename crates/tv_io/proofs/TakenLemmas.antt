-- A piece that is taken in two parts.
use Rattle.std.proofs.Common.{◌≡◌, ℕ, ◌+◌, ◌-◌, arith, List, ◌++◌, length, take, drop, Option, None, Some, Result, Ok, Err, refl, sym, ap, ◌∙◌, append_assoc}
use Rattle.std.proofs.lemmas.List.{take_rest, length-append, take-append-le}
use Rattle.std.proofs.Math.Seq.{take-add, take-append-add}
use Rattle.std.specs.Prelude.{OnErr}
use Rattle.tv_io.specs.declared.sink.Failed.{Failed}
use Rattle.tv_io.specs.State.{SinkState}
use Rattle.tv_io.specs.Taken.{then_taken, TookPrefix, IsWritten, IsCutOff}

-- the first i, and then n of the rest, are the first i + n
pub then_taken-take : (taken : Option (List ℕ)) (xs : List ℕ) (i n : ℕ) → then_taken (then_taken taken (take i xs)) (take n (take (length xs - i) (drop i xs))) ≡ then_taken taken (take (i + n) xs)
then_taken-take None xs i n = refl
then_taken-take (Some bytes) xs i n =
    ap (λ ys. then_taken (then_taken (Some bytes) (take i xs)) (take n ys)) (take_rest xs i)
    ∙ ap Some (append_assoc bytes (take i xs) (take n (drop i xs)) ∙ ap (λ ys. bytes ++ ys) (sym (take-add i n xs)))

-- one piece and then another are both in one
pub then_taken-append : (taken : Option (List ℕ)) (xs ys : List ℕ) → then_taken (then_taken taken xs) ys ≡ then_taken taken (xs ++ ys)
then_taken-append None xs ys = refl
then_taken-append (Some bytes) xs ys = ap Some (append_assoc bytes xs ys)

-- a prefix of the first piece is a prefix of both
pub TookPrefix-first : (old new : Option (List ℕ)) (xs ys : List ℕ) → TookPrefix old new xs → TookPrefix old new (xs ++ ys)
TookPrefix-first old new xs ys (n, within, took) = (n, omega (arith, length-append xs ys), took ∙ ap (λ zs. then_taken old zs) (sym (take-append-le n xs ys within)))

-- the first piece and a prefix of the second are a prefix of both
pub TookPrefix-second : (old mid new : Option (List ℕ)) (xs ys : List ℕ) → mid ≡ then_taken old xs → TookPrefix mid new ys → TookPrefix old new (xs ++ ys)
TookPrefix-second old mid new xs ys whole (n, within, took) = (
  length xs + n,
  omega (arith, length-append xs ys),
  took ∙ ap (λ t. then_taken t (take n ys)) whole ∙ then_taken-append old xs (take n ys) ∙ ap (λ zs. then_taken old zs) (sym (take-append-add xs ys n)),
)

-- ---- two writes

pub IsWritten-append : (xs ys : List ℕ) (old mid new : SinkState) → IsWritten xs old mid → IsWritten ys mid new → IsWritten (xs ++ ys) old new
IsWritten-append xs ys old mid new x y = record {
  taken = y.taken ∙ ap (λ t. then_taken t ys) x.taken ∙ then_taken-append old.taken xs ys;
  room = omega (arith, length-append xs ys, x.room, y.room);
  faults = y.faults ∙ x.faults;
}

pub IsCutOff-first : (xs ys : List ℕ) (old new : SinkState) → IsCutOff xs old new → IsCutOff (xs ++ ys) old new
IsCutOff-first xs ys old new x = record {
  taken = TookPrefix-first old.taken new.taken xs ys x.taken;
  room = omega (arith, length-append xs ys, x.room);
  faults = x.faults;
}

pub IsCutOff-second : (xs ys : List ℕ) (old mid new : SinkState) → IsWritten xs old mid → IsCutOff ys mid new → IsCutOff (xs ++ ys) old new
IsCutOff-second xs ys old mid new x y = record {
  taken = TookPrefix-second old.taken mid.taken new.taken xs ys x.taken y.taken;
  room = omega (arith, length-append xs ys, x.room, y.room);
  faults = rw (← x.faults) y.faults;
}

-- the same where the second write may have failed
pub IsCutOff-second_write : (r : Result (Unit {0}) Failed) (xs ys : List ℕ) (old mid new : SinkState) → IsWritten xs old mid → OnErr r (IsCutOff ys mid new) → OnErr r (IsCutOff (xs ++ ys) old new)
IsCutOff-second_write (Ok x) xs ys old mid new whole cut = tt
IsCutOff-second_write (Err e) xs ys old mid new whole cut = IsCutOff-second xs ys old mid new whole cut
