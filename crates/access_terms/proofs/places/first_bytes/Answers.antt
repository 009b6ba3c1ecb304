use Rattle.access_terms.proofs.Common.{◌∙◌, arith, rules, IfOk-weaker}
use Rattle.access_terms.proofs.Putting.{first_places}
use Rattle.access_terms.proofs.places.first_bytes.Goals as goal

pub returns-then-count-places-clause-stands : goal.returns-then-count-places-clause-stands
returns-then-count-places-clause-stands c = λ r few.
    first_places r c.args.terms.now c.args.places.now c.from_vec.result c.args.count (c.from_vec.ensures ∙ c.in_ok-bytes.ensures.items_if_clones_equal (λ x y e. search rules))

pub returns-clause-stands : goal.returns-clause-stands
returns-clause-stands c = IfOk-weaker c.poison_bytes.result _ _ (λ bytes long r few. absurd (omega (arith, few, c.if-count-places.false))) c.poison_bytes.ensures.count
