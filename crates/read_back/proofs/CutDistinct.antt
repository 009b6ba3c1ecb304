-- Names that differ, among those of defines.
use Rattle.read_back.proofs.Common.{◌≡◌, ℕ, true, false, List, [], ◌∷◌, ◌++◌, refl, sym, AllByRecursion, IsDistinct, bytes_eq, false_from_ne_true, or_parts, bytes_eq-Decides, same_name, Name, Define, has_name}
use Rattle.ir_tree.specs.declared.name.Name.TheVariants as name

bytes_other : (a b : List ℕ) → bytes_eq a b ≡ false → bytes_eq b a ≡ false
bytes_other a b h = false_from_ne_true (bytes_eq b a) (λ e. let t : bytes_eq a b ≡ true = (bytes_eq-Decides a b).1 (sym ((bytes_eq-Decides b a).0 e)) in absurd cc)

other_way : (a b : Name) → same_name a b ≡ false → same_name b a ≡ false
other_way (name.Number a) (name.Number b) h = bytes_other a b h
other_way (name.Word a) (name.Word b) h = bytes_other a b h
other_way (name.Number a) (name.Word b) h = refl
other_way (name.Word a) (name.Number b) h = refl

has_more : (defines : List Define) (d : Define) (n : Name) → has_name defines n ≡ false → same_name n d.name ≡ false → has_name (defines ++ d ∷ []) n ≡ false
has_more [] d n h k = rw k refl
has_more (c ∷ defines) d n h k = let e = or_parts (same_name n c.name) (has_name defines n) h in rw e.0 (has_more defines d n e.1 k)

abbrev pub AreNew : List Define → List Name → Type 0
AreNew defines names = AllByRecursion (λ (n : Name). has_name defines n ≡ false) names

-- no define yet has one of the names
pub none-new : (names : List Name) → AreNew [] names
none-new [] = tt
none-new (n ∷ names) = (refl, none-new names)

pub more-new : (defines : List Define) (d : Define) (names : List Name) → AreNew defines names → AllByRecursion (λ (n : Name). same_name d.name n ≡ false) names → AreNew (defines ++ d ∷ []) names
more-new defines d [] h k = tt
more-new defines d (n ∷ names) h k = (has_more defines d n h.0 (other_way d.name n k.0), more-new defines d names h.1 k.1)

pub first-distinct : (n : Name) (names : List Name) → IsDistinct same_name (n ∷ names) → AllByRecursion (λ (m : Name). same_name n m ≡ false) names × IsDistinct same_name names
unfolding IsDistinct
first-distinct n names h = h
