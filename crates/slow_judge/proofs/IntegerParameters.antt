-- Integer parameters, one by one and together.
use Rattle.slow_judge.proofs.Common.{ℕ, zero, suc, ◌<◌, List, [], ◌∷◌, length, get_or, arith, All, Parameter, IsInteger, AreIntegers}

pub together : (ps : List Parameter) → All (λ (p : Parameter). IsInteger p.of_type) ps → AreIntegers ps
together [] h = tt
together (p ∷ ps) h = (h 0 p (omega arith), together ps (λ k d below. h (suc k) d (omega (arith, below))))

pub one_by_one : (ps : List Parameter) → AreIntegers ps → (k : ℕ) (d : Parameter) → k < length ps → IsInteger (get_or ps k d).of_type
one_by_one [] h k d below = absurd (omega (arith, below))
one_by_one (p ∷ ps) h zero d below = h.0
one_by_one (p ∷ ps) h (suc k) d below = one_by_one ps h.1 k d (omega (arith, below))
