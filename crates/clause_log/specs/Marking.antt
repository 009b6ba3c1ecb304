-- Clauses as marks on their variables.
use Rattle.std.specs.Prelude.{ℕ, ◌≡◌, ◌<◌, ◌↔◌, Bool, false, cond, nat_eq, List, length, Option, Some, None, option_and_then, slice_index_or}
use Rattle.clause_lits.specs.declared.lit.Lit.{Lit}
use Rattle.clause_lits.specs.Meaning.{IsClause}
use Rattle.clause_log.specs.declared.mark.Mark.{Mark}
use Rattle.clause_log.specs.declared.marks.Marks.{Marks}
use Rattle.clause_log.specs.declared.marks.Clashes.{Clashes}
use Rattle.clause_log.specs.declared.marks.Clashes.TheVariants.{Zero, One, Several}
use Rattle.clause_log.specs.declared.places.Places.{Places}
use Rattle.clause_log.specs.Members.{Has}
use Rattle.clause_log.specs.Placing.{place_of}
use Rattle.clause_log.specs.Resolution.{clashes, joined}

abbrev pub unmarked : Mark
unmarked = record { stamp = 0; positive = false }

-- the sign of a mark, if it has the stamp
abbrev pub sign_in : ℕ → Mark → Option Bool
sign_in stamp m = cond (nat_eq m.stamp stamp) (Some m.positive) None

abbrev pub sign_at : ℕ → List Mark → ℕ → Option Bool
sign_at stamp marks place = sign_in stamp (slice_index_or marks place unmarked)

-- the sign with which a variable is marked
abbrev pub sign_of : Places → Marks → ℕ → Option Bool
sign_of places marks variable = option_and_then (sign_at marks.stamp marks.by_place.items) (place_of places variable)

-- each variable of the clause has its sign, and no other one has a sign
abbrev pub AreSigns : (ℕ → Option Bool) → List Lit → Type 0
AreSigns signs c = (l : Lit) → (signs l.variable ≡ Some l.positive) ↔ Has c l

-- the marks are the literals of the clause
pub record AreMarks (places : Places) (marks : Marks) (c : List Lit) : Type 0 where
  pub ordered : IsClause c
  pub counted : marks.count ≡ length c
  pub signs : AreSigns (sign_of places marks) c

-- a number of clashes, and where it is at most 1, the marks of the join
abbrev pub AreJoined : Places → Marks → List Lit → List Lit → Clashes → Type 0
AreJoined places marks c d Zero = (clashes c d ≡ 0) × AreMarks places marks (joined c d)
AreJoined places marks c d One = (clashes c d ≡ 1) × AreMarks places marks (joined c d)
AreJoined places marks c d Several = 1 < clashes c d
