-- Sites by their numbers: what holds of each in its part, and names defined in rising order.
use Rattle.read_back.proofs.Common.{◌≡◌, ℕ, zero, suc, ◌+◌, ◌<◌, ◌≤◌, List, [], ◌∷◌, ◌++◌, map, Option, Some, refl, subst, arith, AllByRecursion, slice_get, IrType, Part, Site, Defines, Uses, Enters, Written, Step, sites_in, same_Some}
use Rattle.ir_tree.specs.Sites.{parts_in}

-- ---- what holds of a site in its part

-- the part of the site with this number, and what holds of both
pub record Found (P : Part → Site → Type 0) (parts : List Part) (n : ℕ) (s : Site) : Type 0 where
  pub part : Part
  pub stands : slice_get parts n ≡ Some part
  pub holds : P part s

abbrev pub HoldsIn : (Part → Site → Type 0) → List Step → Type 0
HoldsIn P ss = AllByRecursion (λ (step : Step). AllByRecursion (P step.0) step.1) ss

within : (P : Part → Site → Type 0) (p : Part) (own sites : List Site) (parts : List Part)
    → AllByRecursion (P p) own
    → ((m : ℕ) (s : Site) → slice_get sites m ≡ Some s → Found P parts m s)
    → (n : ℕ) (s : Site) → slice_get (own ++ sites) n ≡ Some s
    → Found P (map (λ (site : Site). p) own ++ parts) n s
within P p [] sites parts h others n s e = others n s e
within P p (o ∷ own) sites parts h others zero s e =
    record { part = p; stands = refl; holds = subst (P p) (same_Some o s e) h.0 }
within P p (o ∷ own) sites parts h others (suc n) s e =
    let f = within P p own sites parts h.1 others n s e in
    record { part = f.part; stands = f.stands; holds = f.holds }

pub site-found : (P : Part → Site → Type 0) (ss : List Step) → HoldsIn P ss → (n : ℕ) (s : Site)
    → slice_get (sites_in ss) n ≡ Some s → Found P (parts_in ss) n s
site-found P [] h n s e = absurd (cc e)
site-found P (step ∷ ss) h n s e =
    within P step.0 step.1 (sites_in ss) (parts_in ss) h.0 (site-found P ss h.1) n s e

pub holds-append : (P : Part → Site → Type 0) (ss rest : List Step) → HoldsIn P ss → HoldsIn P rest
    → HoldsIn P (ss ++ rest)
holds-append P [] rest h k = k
holds-append P (step ∷ ss) rest h k = (h.0, holds-append P ss rest h.1 k)

-- ---- names in rising order

-- each name that is defined is this or above, and above those before it
abbrev pub Rises : ℕ → List Site → Type 0
Rises low [] = Unit {0}
Rises low (Defines type name ∷ ss) = (low ≤ name) × Rises (name + 1) ss
Rises low (Uses type name ∷ ss) = Rises low ss
Rises low (Enters name ∷ ss) = Rises low ss
Rises low (Written fits ∷ ss) = Rises low ss

same_name_of : (t u : Option IrType) (a b : ℕ) → Some (Defines t a) ≡ Some (Defines u b) → a ≡ b
same_name_of t u a b e = cc e

above : (low : ℕ) (ss : List Site) → Rises low ss → (n : ℕ) (type : Option IrType) (name : ℕ)
    → slice_get ss n ≡ Some (Defines type name) → low ≤ name
above low [] h n type name e = absurd (cc e)
above low (Defines t m ∷ ss) h zero type name e =
    let same = same_name_of t type m name e in
    omega (arith, same, h.0)
above low (Defines t m ∷ ss) h (suc n) type name e =
    let more = above (m + 1) ss h.1 n type name e in
    omega (arith, more, h.0)
above low (Uses t m ∷ ss) h zero type name e = absurd (cc e)
above low (Uses t m ∷ ss) h (suc n) type name e = above low ss h n type name e
above low (Enters m ∷ ss) h zero type name e = absurd (cc e)
above low (Enters m ∷ ss) h (suc n) type name e = above low ss h n type name e
above low (Written fits ∷ ss) h zero type name e = absurd (cc e)
above low (Written fits ∷ ss) h (suc n) type name e = above low ss h n type name e

-- no name is defined twice
pub rising-once : (low : ℕ) (ss : List Site) → Rises low ss → (n earlier : ℕ) → earlier < n
    → (t u : Option IrType) (name : ℕ) → slice_get ss n ≡ Some (Defines t name)
    → slice_get ss earlier ≡ Some (Defines u name) → ⊥
rising-once low [] h n earlier less t u name e f = absurd (cc e)
rising-once low (s ∷ ss) h zero earlier less t u name e f = omega (arith, less)
rising-once low (Defines v m ∷ ss) h (suc n) zero less t u name e f =
    let same = same_name_of v u m name f in
    let more = above (m + 1) ss h.1 n t name e in
    omega (arith, same, more)
rising-once low (Uses v m ∷ ss) h (suc n) zero less t u name e f = absurd (cc f)
rising-once low (Enters m ∷ ss) h (suc n) zero less t u name e f = absurd (cc f)
rising-once low (Written fits ∷ ss) h (suc n) zero less t u name e f = absurd (cc f)
rising-once low (Defines v m ∷ ss) h (suc n) (suc earlier) less t u name e f =
    rising-once (m + 1) ss h.1 n earlier (omega (arith, less)) t u name e f
rising-once low (Uses v m ∷ ss) h (suc n) (suc earlier) less t u name e f =
    rising-once low ss h n earlier (omega (arith, less)) t u name e f
rising-once low (Enters m ∷ ss) h (suc n) (suc earlier) less t u name e f =
    rising-once low ss h n earlier (omega (arith, less)) t u name e f
rising-once low (Written fits ∷ ss) h (suc n) (suc earlier) less t u name e f =
    rising-once low ss h n earlier (omega (arith, less)) t u name e f
