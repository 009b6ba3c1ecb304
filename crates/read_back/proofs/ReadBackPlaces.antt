-- Functions that are the same except for the positions of their parts.
use Rattle.read_back.proofs.Common.{sym, ap, ◌∙◌, subst, Function, IsWellFormed, placed, well_formed-placed, IsSameFunction}

pub well_formed-same : (f g : Function) → IsSameFunction f g → IsWellFormed f → IsWellFormed g
well_formed-same f g same h = subst IsWellFormed (sym same) (well_formed-placed f g.places h)

-- ---- the same function

pub same-back : (f g : Function) → IsSameFunction f g → IsSameFunction g f
same-back f g same = ap (λ (h : Function). placed h f.places) (sym same)

pub same-then : (f g h : Function) → IsSameFunction f g → IsSameFunction g h → IsSameFunction f h
same-then f g h a b = b ∙ ap (λ (k : Function). placed k h.places) a
