-- A line that is written in pieces.
use Rattle.std.proofs.Common.{◌≡◌, ℕ, List, ◌++◌, Result, Ok, Err, subst}
use Rattle.std.specs.Prelude.{OnErr, OnOk}
use Rattle.tv_io.specs.State.{SinkState}
use Rattle.tv_io.specs.Taken.{IsWritten, IsCutOff}
use Rattle.tv_io.specs.declared.sink.Failed.{Failed}
use Rattle.tv_io.proofs.TakenLemmas.{IsCutOff-second_write, IsWritten-append}

-- the second of two pieces was cut off, if it failed, whatever else the pieces are called
pub IsCutOff-second_piece : (r : Result (Unit {0}) Failed) (xs ys first second : List ℕ) (old mid new : SinkState) → xs ≡ first → ys ≡ second → IsWritten xs old mid → OnErr r (IsCutOff ys mid new) → OnErr r (IsCutOff (first ++ second) old new)
IsCutOff-second_piece r xs ys first second old mid new e d written cut =
    subst (λ (zs : List ℕ). OnErr r (IsCutOff (zs ++ second) old new)) e
    (subst (λ (zs : List ℕ). OnErr r (IsCutOff (xs ++ zs) old new)) d (IsCutOff-second_write r xs ys old mid new written cut))

pub OnErr-always : {P : Type 0} (r : Result (Unit {0}) Failed) → P → OnErr r P
OnErr-always (Ok x) p = tt
OnErr-always (Err e) p = p

-- the second was written, if it did not fail
pub IsWritten-second_piece : (r : Result (Unit {0}) Failed) (xs ys first second : List ℕ) (old mid new : SinkState) → xs ≡ first → ys ≡ second → IsWritten xs old mid → OnOk r (IsWritten ys mid new) → OnOk r (IsWritten (first ++ second) old new)
IsWritten-second_piece (Ok x) xs ys first second old mid new e d whole written =
    subst (λ (zs : List ℕ). IsWritten (zs ++ second) old new) e
    (subst (λ (zs : List ℕ). IsWritten (xs ++ zs) old new) d (IsWritten-append xs ys old mid new whole written))
IsWritten-second_piece (Err x) xs ys first second old mid new e d whole written = tt
