-- Terms that are found equal are one term.
use Rattle.std.proofs.Common.{ℕ, ◌≡◌, ◌&&◌, Bool, true, false, eqb, refl, ap}
use Rattle.std.proofs.lemmas.Bool.{false≢true}
use Rattle.std.proofs.lemmas.Bool.Decides.{Decides-eqb}
use Rattle.bv_terms.specs.declared.term.TermId.{TermId}
use Rattle.bv_terms.specs.declared.term.BinaryOp.{BinaryOp}
use Rattle.bv_terms.specs.declared.term.BinaryOp.TheVariants as op
use Rattle.bv_terms.specs.declared.term.Term.{Term}
use Rattle.bv_terms.specs.declared.term.Term.TheVariants as term
use Rattle.bv_terms.specs.contracts.term.BinaryOpPartialEq.TheImpl as found_op
use Rattle.bv_terms.specs.contracts.term.TermPartialEq.TheImpl.{eq-value}

and_left : (a b : Bool) → (a && b) ≡ true → a ≡ true
and_left true b h = refl
and_left false b h = h

and_right : (a b : Bool) → (a && b) ≡ true → b ≡ true
and_right true b h = h
and_right false b h = absurd (false≢true h)

number_same : (x y : ℕ) → eqb x y ≡ true → x ≡ y
number_same x y h = (Decides-eqb x y).0 h

id_same : (a b : TermId) → eqb a.index b.index ≡ true → a ≡ b
id_same a b h = let F : ℕ → TermId = λ i. record { index = i } in ap F (number_same a.index b.index h)

op_same : (o p : BinaryOp) → found_op.eq-value.it o p ≡ true → o ≡ p
op_same op.And op.And h = refl
op_same op.Or op.Or h = refl
op_same op.Xor op.Xor h = refl
op_same op.Add op.Add h = refl
op_same op.Sub op.Sub h = refl
op_same op.Mul op.Mul h = refl
op_same op.Udiv op.Udiv h = refl
op_same op.Urem op.Urem h = refl
op_same op.Shl op.Shl h = refl
op_same op.Lshr op.Lshr h = refl
op_same op.Ashr op.Ashr h = refl
op_same op.Eq op.Eq h = refl
op_same op.Ult op.Ult h = refl
op_same op.Slt op.Slt h = refl
op_same o p h = absurd (false≢true h)

pub term_same : (s t : Term) → eq-value.it s t ≡ true → s ≡ t
term_same (term.Constant value width) (term.Constant value' width') h =
    let e0 : value ≡ value' = number_same value value' (and_left (eqb value value') (eqb width width') h) in
    let e1 : width ≡ width' = number_same width width' (and_right (eqb value value') (eqb width width') h) in
    cc
term_same (term.Variable number width) (term.Variable number' width') h =
    let e0 : number ≡ number' = number_same number number' (and_left (eqb number number') (eqb width width') h) in
    let e1 : width ≡ width' = number_same width width' (and_right (eqb number number') (eqb width width') h) in
    cc
term_same (term.Not a width) (term.Not a' width') h =
    let e0 : a ≡ a' = id_same a a' (and_left (eqb a.index a'.index) (eqb width width') h) in
    let e1 : width ≡ width' = number_same width width' (and_right (eqb a.index a'.index) (eqb width width') h) in
    cc
term_same (term.Binary o a b width) (term.Binary o' a' b' width') h =
    let same = found_op.eq-value.it o o' in
    let e0 : o ≡ o' = op_same o o' (and_left same (eqb a.index a'.index && (eqb b.index b'.index && (eqb width width'))) h) in
    let e1 : a ≡ a' = id_same a a' (and_left (eqb a.index a'.index) (eqb b.index b'.index && (eqb width width')) (and_right same (eqb a.index a'.index && (eqb b.index b'.index && (eqb width width'))) h)) in
    let e2 : b ≡ b' = id_same b b' (and_left (eqb b.index b'.index) (eqb width width') (and_right (eqb a.index a'.index) (eqb b.index b'.index && (eqb width width')) (and_right same (eqb a.index a'.index && (eqb b.index b'.index && (eqb width width'))) h))) in
    let e3 : width ≡ width' = number_same width width' (and_right (eqb b.index b'.index) (eqb width width') (and_right (eqb a.index a'.index) (eqb b.index b'.index && (eqb width width')) (and_right same (eqb a.index a'.index && (eqb b.index b'.index && (eqb width width'))) h))) in
    cc
term_same (term.Ite c a b width) (term.Ite c' a' b' width') h =
    let e0 : c ≡ c' = id_same c c' (and_left (eqb c.index c'.index) (eqb a.index a'.index && (eqb b.index b'.index && (eqb width width'))) h) in
    let e1 : a ≡ a' = id_same a a' (and_left (eqb a.index a'.index) (eqb b.index b'.index && (eqb width width')) (and_right (eqb c.index c'.index) (eqb a.index a'.index && (eqb b.index b'.index && (eqb width width'))) h)) in
    let e2 : b ≡ b' = id_same b b' (and_left (eqb b.index b'.index) (eqb width width') (and_right (eqb a.index a'.index) (eqb b.index b'.index && (eqb width width')) (and_right (eqb c.index c'.index) (eqb a.index a'.index && (eqb b.index b'.index && (eqb width width'))) h))) in
    let e3 : width ≡ width' = number_same width width' (and_right (eqb b.index b'.index) (eqb width width') (and_right (eqb a.index a'.index) (eqb b.index b'.index && (eqb width width')) (and_right (eqb c.index c'.index) (eqb a.index a'.index && (eqb b.index b'.index && (eqb width width'))) h))) in
    cc
term_same (term.Extract a from width) (term.Extract a' from' width') h =
    let e0 : a ≡ a' = id_same a a' (and_left (eqb a.index a'.index) (eqb from from' && (eqb width width')) h) in
    let e1 : from ≡ from' = number_same from from' (and_left (eqb from from') (eqb width width') (and_right (eqb a.index a'.index) (eqb from from' && (eqb width width')) h)) in
    let e2 : width ≡ width' = number_same width width' (and_right (eqb from from') (eqb width width') (and_right (eqb a.index a'.index) (eqb from from' && (eqb width width')) h)) in
    cc
term_same (term.Concat high low below width) (term.Concat high' low' below' width') h =
    let e0 : high ≡ high' = id_same high high' (and_left (eqb high.index high'.index) (eqb low.index low'.index && (eqb below below' && (eqb width width'))) h) in
    let e1 : low ≡ low' = id_same low low' (and_left (eqb low.index low'.index) (eqb below below' && (eqb width width')) (and_right (eqb high.index high'.index) (eqb low.index low'.index && (eqb below below' && (eqb width width'))) h)) in
    let e2 : below ≡ below' = number_same below below' (and_left (eqb below below') (eqb width width') (and_right (eqb low.index low'.index) (eqb below below' && (eqb width width')) (and_right (eqb high.index high'.index) (eqb low.index low'.index && (eqb below below' && (eqb width width'))) h))) in
    let e3 : width ≡ width' = number_same width width' (and_right (eqb below below') (eqb width width') (and_right (eqb low.index low'.index) (eqb below below' && (eqb width width')) (and_right (eqb high.index high'.index) (eqb low.index low'.index && (eqb below below' && (eqb width width'))) h))) in
    cc
term_same (term.Zext a width) (term.Zext a' width') h =
    let e0 : a ≡ a' = id_same a a' (and_left (eqb a.index a'.index) (eqb width width') h) in
    let e1 : width ≡ width' = number_same width width' (and_right (eqb a.index a'.index) (eqb width width') h) in
    cc
term_same (term.Sext a from width) (term.Sext a' from' width') h =
    let e0 : a ≡ a' = id_same a a' (and_left (eqb a.index a'.index) (eqb from from' && (eqb width width')) h) in
    let e1 : from ≡ from' = number_same from from' (and_left (eqb from from') (eqb width width') (and_right (eqb a.index a'.index) (eqb from from' && (eqb width width')) h)) in
    let e2 : width ≡ width' = number_same width width' (and_right (eqb from from') (eqb width width') (and_right (eqb a.index a'.index) (eqb from from' && (eqb width width')) h)) in
    cc
term_same s t h = absurd (false≢true h)
