-- Phis, and lists of what is spelled in turn.
use Rattle.read_back.proofs.Common.{◌<◌, false, List, [], ◌∷◌, ◌++◌, length, subst, arith, AllByRecursion, length-append, WrittenName, WrittenType, WrittenEntry, WrittenPhi, entry, with_entry}
use Rattle.read_back.proofs.Spellable.{IsName, IsEntry, IsPhi}
use Rattle.read_back.proofs.FitsForms.{Gives}
use Rattle.read_back.proofs.FitsNames.{local-fits}
use Rattle.read_back.proofs.FitsOperands.{operand-fits}

pub all-push : {X : Type 0} (P : X → Type 0) (xs : List X) (x : X) → AllByRecursion P xs → P x → AllByRecursion P (xs ++ x ∷ [])
all-push P [] x A h = (h, tt)
all-push P (y ∷ ys) x (first, others) h = (first, all-push P ys x others h)

pub entry-gives : (type : WrittenType) (e : WrittenEntry) → Gives (entry type) e → IsEntry type.of_type e
unfolding entry
entry-gives type e (o, O, (comma, C, (from, F, (closing, D, same)))) = subst (λ (x : WrittenEntry). IsEntry type.of_type x) same (record { value = operand-fits false type.of_type o O; from = local-fits from F })

pub first-entry : (name : WrittenName) (type : WrittenType) (e : WrittenEntry) → IsName name.name → IsEntry type.of_type e → IsPhi (record { into = name; of_type = type; entries = e ∷ [] })
first-entry name type e is E = record { into = is; some = omega arith; few = omega arith; each = (E, tt) }

pub one-entry-more : (phi : WrittenPhi) (e : WrittenEntry) → IsPhi phi → length phi.entries < 16777216 → IsEntry phi.of_type.of_type e → IsPhi (with_entry phi e)
one-entry-more phi e P room E = record {
  into = P.into;
  some = omega (arith, length-append phi.entries (e ∷ []));
  few = omega (arith, room, length-append phi.entries (e ∷ []));
  each = all-push (IsEntry phi.of_type.of_type) phi.entries e P.each E;
}
