-- Variables of one number and one width are one.
use Rattle.std.proofs.Common.{ℕ, ◌≡◌, ◌&&◌, Bool, true, false, ap, refl, ◌∙◌}
use Rattle.std.proofs.lemmas.Bool.Decides.{Decides-eqb}
use Rattle.std.specs.Prelude.{nat_eq}
use Rattle.bv_terms.specs.declared.variable.Variable.{Variable}
use Rattle.bv_terms.specs.Variables.{is_variable}

and_left : (a b : Bool) → (a && b) ≡ true → a ≡ true
and_left true b h = refl
and_left false b h = h

and_right : (a b : Bool) → (a && b) ≡ true → b ≡ true
and_right true b h = h
and_right false b h = absurd (let z : ⊥ = cc in z)

pub same_variable : (x y : Variable) → is_variable x y ≡ true → x ≡ y
same_variable x y h =
    let n : x.number ≡ y.number = (Decides-eqb x.number y.number).0 (and_left (nat_eq x.number y.number) (nat_eq x.width y.width) h) in
    let w : x.width ≡ y.width = (Decides-eqb x.width y.width).0 (and_right (nat_eq x.number y.number) (nat_eq x.width y.width) h) in
    let make : ℕ → ℕ → Variable = λ number width. record { number = number; width = width } in
    ap (λ k. make k x.width) n ∙ ap (λ k. make y.number k) w
