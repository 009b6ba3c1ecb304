-- Truths that are joined.
use Rattle.byte_terms.proofs.Common.{◌≡◌, Bool, true, false, ◌&&◌, ◌||◌, refl, sym, ◌∙◌}

pub and-left : (p q : Bool) → (p && q) ≡ true → p ≡ true
and-left true q e = refl
and-left false q e = absurd (cc)

pub and-right : (p q : Bool) → (p && q) ≡ true → q ≡ true
and-right true q e = e
and-right false q e = absurd (cc)

pub and-false : (x y : Bool) → x ≡ false → (x && y) ≡ false
and-false true y e = absurd (cc)
and-false false y e = refl

pub and-true : (x y : Bool) → (y ≡ true → x ≡ true) → (x && y) ≡ y
and-true true y h = refl
and-true false true h = absurd (let e = h refl in cc)
and-true false false h = refl

pub and-yes : (x y t : Bool) → y ≡ true → (x && y) ≡ t → x ≡ t
and-yes true y t e h = sym e ∙ h
and-yes false y t e h = h

pub and-thrice : (x y z t : Bool) → (x && (y && z)) ≡ t → ((x && y) && z) ≡ t
and-thrice true y z t e = e
and-thrice false y z t e = e

pub both-true : (c x y : Bool) → c ≡ true → x ≡ true → y ≡ true → (c && (x && y)) ≡ true
both-true c x y p q s = rw (p, q, s) refl

pub or-false : (x : Bool) → (x || false) ≡ x
or-false true = refl
or-false false = refl

pub both_ways : (p q : Bool) → (p ≡ true → q ≡ true) → (q ≡ true → p ≡ true) → p ≡ q
both_ways true q f g = sym (f refl)
both_ways false true f g = g refl
both_ways false false f g = refl
