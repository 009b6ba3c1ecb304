-- What is marked along a chain.
use Rattle.clause_log.proofs.Common.{option_and_then, ◌-◌, take, ℕ, suc, ◌≡◌, ◌<◌, List, [], ◌∷◌, Option, Some, get_or, drop, length, arith, sym, ap, ◌∙◌, take-length, Lit, Marks, Places, clause_numbered, resolved_along, chain_resolvent, AreMarks, AreJoined}
use Rattle.clause_log.specs.declared.marks.Clashes.{Clashes}
use Rattle.clause_log.specs.declared.marks.Clashes.TheVariants.{Zero, One, Several}

pub chain-begun : (all : List (List Lit)) (chain : List ℕ) (told : Option (List Lit)) (d : List Lit) → 0 < length chain
    → told ≡ clause_numbered all (get_or chain 0 0) → told ≡ Some d
    → resolved_along all d (take (length chain - 1) (drop 1 chain)) ≡ chain_resolvent all chain
chain-begun all [] told d some tells is = absurd (omega (arith, some))
chain-begun all (n ∷ ns) told d some tells is =
    let numbered : clause_numbered all n ≡ Some d = sym tells ∙ is in
    let ones : suc (length ns) - 1 ≡ length ns = omega arith in
    ap (λ k. resolved_along all d (take k ns)) ones ∙ ap (resolved_along all d) (take-length ns) ∙ sym (ap (λ o. option_and_then (λ (c : List Lit). resolved_along all c ns) o) numbered)

-- nothing clashes with no literal
pub marks-begun : (places : Places) (marks : Marks) (d : List Lit) (told : Clashes) → AreJoined places marks [] d told → AreMarks places marks d
marks-begun places marks d Zero h = h.1
marks-begun places marks d One h = absurd (omega (arith, h.0))
marks-begun places marks d Several h = absurd (omega (arith, h))
