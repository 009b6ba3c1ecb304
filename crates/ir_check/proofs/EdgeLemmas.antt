-- What the marks say once the entries of a phi were walked.
use Rattle.ir_check.proofs.Common.{◌≡◌, ◌↔◌, ◌⊎◌, inl, inr, ℕ, ◌+◌, ◌<◌, ◌≤◌, ◌%◌, ◌^◌, ◌==◌, true, false, List, [], ◌∷◌, ◌++◌, length, get_or, take, drop, take-append-drop, map, set, replicate, refl, ap, sym, subst, ◌∙◌, arith, Any, Contains, list_any, cases_eq, cases_lt, both_ways, nat_tests, take_more, get_or-set_same, get_or-set_other, get_or-replicate, get_or_past, length-replicate, Contains-append_left, Contains-push, Contains-push_cases, slice_get_read, slice_get_within, get_or_from_slice_get, IrType, Phi, is_same_operand, HasTwoOperands, made_of, makes, Mark, Stranger, Awaited, Given, IsUnfit, IsUnfitEntry, HasUnfitEntry, HasNoEntry, HasOneOperand, IsMarkOf, AreMarked, is_awaited}
use Rattle.std.proofs.lemmas.List.Folds.{Any-from_list_any, list_any_at}
use Rattle.ir_tree.specs.declared.tree.IrType.TheVariants.{Int, Ptr}
use Rattle.ir_tree.specs.declared.tree.Operand.{Operand}
use Rattle.ir_tree.specs.declared.tree.Operand.TheVariants.{Local, Number, Null, Poison, Undef}
use Rattle.ir_tree.specs.declared.tree.PhiEntry.{PhiEntry}

-- ---- operands

equal : (a b : ℕ) → (a == b) ≡ true → a ≡ b
equal a b e = grind (arith, nat_tests)

one : (a : ℕ) → (a == a) ≡ true
one a = grind (arith, nat_tests)

-- what is the same as one of two operands that are the same is the same as the other
pub alike : (type : IrType) (a b : Operand) → is_same_operand type a b ≡ true → (c : Operand) → is_same_operand type b c ≡ is_same_operand type a c
alike (Int width) (Local a) (Local b) e c = ap (λ (n : ℕ). is_same_operand (Int width) (Local n) c) (sym (equal a b e))
alike (Int width) (Local a) (Number b) e c = absurd (both_ways _ refl e)
alike (Int width) (Local a) Null e c = absurd (both_ways _ refl e)
alike (Int width) (Local a) Poison e c = absurd (both_ways _ refl e)
alike (Int width) (Local a) Undef e c = absurd (both_ways _ refl e)
alike (Int width) (Number a) (Local b) e c = absurd (both_ways _ refl e)
alike (Int width) (Number a) (Number b) e (Local c) = refl
alike (Int width) (Number a) (Number b) e (Number c) = ap (λ (n : ℕ). n == (c % 2 ^ width.bits)) (sym (equal (a % 2 ^ width.bits) (b % 2 ^ width.bits) e))
alike (Int width) (Number a) (Number b) e Null = refl
alike (Int width) (Number a) (Number b) e Poison = refl
alike (Int width) (Number a) (Number b) e Undef = refl
alike (Int width) (Number a) Null e c = absurd (both_ways _ refl e)
alike (Int width) (Number a) Poison e c = absurd (both_ways _ refl e)
alike (Int width) (Number a) Undef e c = absurd (both_ways _ refl e)
alike (Int width) Null (Local b) e c = absurd (both_ways _ refl e)
alike (Int width) Null (Number b) e c = absurd (both_ways _ refl e)
alike (Int width) Null Null e c = refl
alike (Int width) Null Poison e c = absurd (both_ways _ refl e)
alike (Int width) Null Undef e c = absurd (both_ways _ refl e)
alike (Int width) Poison (Local b) e c = absurd (both_ways _ refl e)
alike (Int width) Poison (Number b) e c = absurd (both_ways _ refl e)
alike (Int width) Poison Null e c = absurd (both_ways _ refl e)
alike (Int width) Poison Poison e c = refl
alike (Int width) Poison Undef e c = absurd (both_ways _ refl e)
alike (Int width) Undef (Local b) e c = absurd (both_ways _ refl e)
alike (Int width) Undef (Number b) e c = absurd (both_ways _ refl e)
alike (Int width) Undef Null e c = absurd (both_ways _ refl e)
alike (Int width) Undef Poison e c = absurd (both_ways _ refl e)
alike (Int width) Undef Undef e c = refl
alike Ptr (Local a) (Local b) e c = ap (λ (n : ℕ). is_same_operand Ptr (Local n) c) (sym (equal a b e))
alike Ptr (Local a) (Number b) e c = absurd (both_ways _ refl e)
alike Ptr (Local a) Null e c = absurd (both_ways _ refl e)
alike Ptr (Local a) Poison e c = absurd (both_ways _ refl e)
alike Ptr (Local a) Undef e c = absurd (both_ways _ refl e)
alike Ptr (Number a) (Local b) e c = absurd (both_ways _ refl e)
alike Ptr (Number a) (Number b) e c = ap (λ (n : ℕ). is_same_operand Ptr (Number n) c) (sym (equal a b e))
alike Ptr (Number a) Null e c = absurd (both_ways _ refl e)
alike Ptr (Number a) Poison e c = absurd (both_ways _ refl e)
alike Ptr (Number a) Undef e c = absurd (both_ways _ refl e)
alike Ptr Null (Local b) e c = absurd (both_ways _ refl e)
alike Ptr Null (Number b) e c = absurd (both_ways _ refl e)
alike Ptr Null Null e c = refl
alike Ptr Null Poison e c = absurd (both_ways _ refl e)
alike Ptr Null Undef e c = absurd (both_ways _ refl e)
alike Ptr Poison (Local b) e c = absurd (both_ways _ refl e)
alike Ptr Poison (Number b) e c = absurd (both_ways _ refl e)
alike Ptr Poison Null e c = absurd (both_ways _ refl e)
alike Ptr Poison Poison e c = refl
alike Ptr Poison Undef e c = absurd (both_ways _ refl e)
alike Ptr Undef (Local b) e c = absurd (both_ways _ refl e)
alike Ptr Undef (Number b) e c = absurd (both_ways _ refl e)
alike Ptr Undef Null e c = absurd (both_ways _ refl e)
alike Ptr Undef Poison e c = absurd (both_ways _ refl e)
alike Ptr Undef Undef e c = refl

pub itself : (type : IrType) (a : Operand) → is_same_operand type a a ≡ true
itself (Int width) (Local a) = one a
itself (Int width) (Number a) = one (a % 2 ^ width.bits)
itself (Int width) Null = refl
itself (Int width) Poison = refl
itself (Int width) Undef = refl
itself Ptr (Local a) = one a
itself Ptr (Number a) = one a
itself Ptr Null = refl
itself Ptr Poison = refl
itself Ptr Undef = refl

-- ---- the predecessors are marked

nothing : {X : Type 0} (x : X) → Contains [] x → ⊥
nothing x found = omega (arith, found.1)

none_marked : (names label : ℕ) → get_or (replicate names Stranger) label Stranger ≡ Stranger
none_marked names label = cases (cases_lt label names)
  where
    cases : (label < names) ⊎ (names ≤ label) → get_or (replicate names Stranger) label Stranger ≡ Stranger
    cases (inl below) = get_or-replicate names label Stranger Stranger below
    cases (inr past) = get_or_past (replicate names Stranger) label Stranger (let long = length-replicate names Stranger in omega (arith, past, long))

pub strangers : (type : IrType) (names : ℕ) → AreMarked [] type [] (replicate names Stranger)
strangers type names = record { each = λ label. subst (λ (m : Mark). IsMarkOf [] type [] label m) (sym (none_marked names label)) (nothing label, λ entry found from. nothing entry found) }

awaits_more : (type : IrType) (predecessors : List ℕ) (label k : ℕ) → (k ≡ label → ⊥) → (m : Mark) → IsMarkOf predecessors type [] k m → IsMarkOf (predecessors ++ label ∷ []) type [] k m
awaits_more type predecessors label k away Stranger so_far = (λ found. either (Contains-push_cases predecessors label k found), so_far.1)
  where
    either : Contains predecessors k ⊎ (label ≡ k) → ⊥
    either (inl there) = so_far.0 there
    either (inr same) = away (sym same)
awaits_more type predecessors label k away Awaited so_far = (Contains-append_left predecessors (label ∷ []) k so_far.0, so_far.1)
awaits_more type predecessors label k away (Given operand) so_far = absurd (nothing so_far.1.entry so_far.1.stands)

pub awaited_more : (type : IrType) (predecessors : List ℕ) (label : ℕ) (marks : List Mark) → label < length marks → AreMarked predecessors type [] marks → AreMarked (predecessors ++ label ∷ []) type [] (set marks label Awaited)
awaited_more type predecessors label marks within so_far = record { each = λ k. at k (cases_eq k label) }
  where
    at : (k : ℕ) → (k ≡ label) ⊎ (k ≡ label → ⊥) → IsMarkOf (predecessors ++ label ∷ []) type [] k (get_or (set marks label Awaited) k Stranger)
    at k (inl same) = subst (λ (m : Mark). IsMarkOf (predecessors ++ label ∷ []) type [] k m) (sym (ap (λ (n : ℕ). get_or (set marks label Awaited) n Stranger) same ∙ get_or-set_same marks label Awaited Stranger within))
        (subst (λ (n : ℕ). Contains (predecessors ++ label ∷ []) n) (sym same) (Contains-push predecessors label), λ entry found from. nothing entry found)
    at k (inr away) = subst (λ (m : Mark). IsMarkOf (predecessors ++ label ∷ []) type [] k m) (sym (get_or-set_other marks label k Awaited Stranger away))
        (awaits_more type predecessors label k away (get_or marks k Stranger) (so_far.each k))

-- ---- an entry is met

no_entry_more : (seen : List PhiEntry) (entry : PhiEntry) (k : ℕ) → (entry.from ≡ k → ⊥) → HasNoEntry seen k → HasNoEntry (seen ++ entry ∷ []) k
no_entry_more seen entry k away none other found from = either (Contains-push_cases seen entry other found)
  where
    either : Contains seen other ⊎ (entry ≡ other) → ⊥
    either (inl there) = none other there from
    either (inr same) = away (ap (λ (e : PhiEntry). e.from) same ∙ from)

one_operand_more : (type : IrType) (seen : List PhiEntry) (entry : PhiEntry) (k : ℕ) (operand : Operand) → (entry.from ≡ k → is_same_operand type operand entry.operand ≡ true) → HasOneOperand type seen k operand → HasOneOperand type (seen ++ entry ∷ []) k operand
one_operand_more type seen entry k operand fits held =
    record { entry = held.entry; stands = Contains-append_left seen (entry ∷ []) held.entry held.stands; comes = held.comes; gives = held.gives; same = λ other found from. either other (Contains-push_cases seen entry other found) from }
  where
    either : (other : PhiEntry) → Contains seen other ⊎ (entry ≡ other) → other.from ≡ k → is_same_operand type operand other.operand ≡ true
    either other (inl there) from = held.same other there from
    either other (inr same) from = ap (λ (e : PhiEntry). is_same_operand type operand e.operand) (sym same) ∙ fits (ap (λ (e : PhiEntry). e.from) same ∙ from)

elsewhere : (predecessors : List ℕ) (type : IrType) (seen : List PhiEntry) (entry : PhiEntry) (k : ℕ) → (entry.from ≡ k → ⊥) → (m : Mark) → IsMarkOf predecessors type seen k m → IsMarkOf predecessors type (seen ++ entry ∷ []) k m
elsewhere predecessors type seen entry k away Stranger so_far = (so_far.0, no_entry_more seen entry k away so_far.1)
elsewhere predecessors type seen entry k away Awaited so_far = (so_far.0, no_entry_more seen entry k away so_far.1)
elsewhere predecessors type seen entry k away (Given operand) so_far = (so_far.0, one_operand_more type seen entry k operand (λ from. absurd (away from)) so_far.1)

pub marked_within : (marks : List Mark) (label : ℕ) → get_or marks label Stranger ≡ Awaited → label < length marks
marked_within marks label is = cases (cases_lt label (length marks))
  where
    cases : (label < length marks) ⊎ (length marks ≤ label) → label < length marks
    cases (inl below) = below
    cases (inr past) = absurd (let e : Stranger ≡ Awaited = sym (get_or_past marks label Stranger past) ∙ is in both_ways _ refl (ap is_awaited e))

-- the first entry of its block
pub first_met : (predecessors : List ℕ) (type : IrType) (seen : List PhiEntry) (entry : PhiEntry) (marks : List Mark) → get_or marks entry.from Stranger ≡ Awaited → AreMarked predecessors type seen marks
    → AreMarked predecessors type (seen ++ entry ∷ []) (set marks entry.from (Given entry.operand))
first_met predecessors type seen entry marks is so_far = record { each = λ k. at k (cases_eq k entry.from) }
  where
    within : entry.from < length marks
    within = marked_within marks entry.from is

    here : IsMarkOf predecessors type seen entry.from Awaited
    here = subst (λ (m : Mark). IsMarkOf predecessors type seen entry.from m) is (so_far.each entry.from)

    met : (other : PhiEntry) → Contains seen other ⊎ (entry ≡ other) → other.from ≡ entry.from → is_same_operand type entry.operand other.operand ≡ true
    met other (inl there) from = absurd (here.1 other there from)
    met other (inr same) from = ap (λ (e : PhiEntry). is_same_operand type entry.operand e.operand) (sym same) ∙ itself type entry.operand

    given : IsMarkOf predecessors type (seen ++ entry ∷ []) entry.from (Given entry.operand)
    given = (here.0, record { entry = entry; stands = Contains-push seen entry; comes = refl; gives = refl; same = λ other found from. met other (Contains-push_cases seen entry other found) from })

    at : (k : ℕ) → (k ≡ entry.from) ⊎ (k ≡ entry.from → ⊥) → IsMarkOf predecessors type (seen ++ entry ∷ []) k (get_or (set marks entry.from (Given entry.operand)) k Stranger)
    at k (inl same) = subst (λ (n : ℕ). IsMarkOf predecessors type (seen ++ entry ∷ []) n (get_or (set marks entry.from (Given entry.operand)) n Stranger)) (sym same)
        (subst (λ (m : Mark). IsMarkOf predecessors type (seen ++ entry ∷ []) entry.from m) (sym (get_or-set_same marks entry.from (Given entry.operand) Stranger within)) given)
    at k (inr away) = subst (λ (m : Mark). IsMarkOf predecessors type (seen ++ entry ∷ []) k m) (sym (get_or-set_other marks entry.from k (Given entry.operand) Stranger away))
        (elsewhere predecessors type seen entry k (λ from. away (sym from)) (get_or marks k Stranger) (so_far.each k))

-- an entry with the operand of one before it
pub met_again : (predecessors : List ℕ) (type : IrType) (seen : List PhiEntry) (entry : PhiEntry) (marks : List Mark) (operand : Operand) → get_or marks entry.from Stranger ≡ Given operand → is_same_operand type operand entry.operand ≡ true
    → AreMarked predecessors type seen marks → AreMarked predecessors type (seen ++ entry ∷ []) marks
met_again predecessors type seen entry marks operand is fits so_far = record { each = λ k. at k (cases_eq k entry.from) }
  where
    here : IsMarkOf predecessors type seen entry.from (Given operand)
    here = subst (λ (m : Mark). IsMarkOf predecessors type seen entry.from m) is (so_far.each entry.from)

    given : IsMarkOf predecessors type (seen ++ entry ∷ []) entry.from (Given operand)
    given = (here.0, one_operand_more type seen entry entry.from operand (λ from. fits) here.1)

    at : (k : ℕ) → (k ≡ entry.from) ⊎ (k ≡ entry.from → ⊥) → IsMarkOf predecessors type (seen ++ entry ∷ []) k (get_or marks k Stranger)
    at k (inl same) = subst (λ (n : ℕ). IsMarkOf predecessors type (seen ++ entry ∷ []) n (get_or marks n Stranger)) (sym same) (subst (λ (m : Mark). IsMarkOf predecessors type (seen ++ entry ∷ []) entry.from m) (sym is) given)
    at k (inr away) = elsewhere predecessors type seen entry k (λ from. away (sym from)) (get_or marks k Stranger) (so_far.each k)

pub from_stranger : (predecessors : List ℕ) (type : IrType) (seen : List PhiEntry) (entry : PhiEntry) (marks : List Mark) → get_or marks entry.from Stranger ≡ Stranger → AreMarked predecessors type seen marks → IsUnfitEntry predecessors type seen entry
from_stranger predecessors type seen entry marks is so_far = inl (subst (λ (m : Mark). IsMarkOf predecessors type seen entry.from m) is (so_far.each entry.from)).0

pub with_other : (predecessors : List ℕ) (type : IrType) (seen : List PhiEntry) (entry : PhiEntry) (marks : List Mark) (operand : Operand) → get_or marks entry.from Stranger ≡ Given operand → is_same_operand type operand entry.operand ≡ false
    → AreMarked predecessors type seen marks → IsUnfitEntry predecessors type seen entry
with_other predecessors type seen entry marks operand is differ so_far = inr (held.entry, held.stands, held.comes, ap (λ (o : Operand). is_same_operand type o entry.operand) held.gives ∙ differ)
  where
    held : HasOneOperand type seen entry.from operand
    held = (subst (λ (m : Mark). IsMarkOf predecessors type seen entry.from m) is (so_far.each entry.from)).1

-- ---- all entries

pub met_more : (predecessors : List ℕ) (type : IrType) (entries : List PhiEntry) (i : ℕ) (d : PhiEntry) (marks : List Mark) → i < length entries → AreMarked predecessors type (take i entries ++ get_or entries i d ∷ []) marks → AreMarked predecessors type (take (i + 1) entries) marks
met_more predecessors type entries i d marks below met = rw (take_more entries i d below) met

pub stands_before : {X : Type 0} (xs : List X) (i : ℕ) (x : X) → Contains (take i xs) x → Contains xs x
stands_before xs i x found = rw (← take-append-drop i xs) (Contains-append_left (take i xs) (drop i xs) x found)

pub unfit_among : (predecessors : List ℕ) (type : IrType) (entries seen : List PhiEntry) (entry : PhiEntry) → Contains entries entry → ((other : PhiEntry) → Contains seen other → Contains entries other) → IsUnfitEntry predecessors type seen entry → HasUnfitEntry predecessors type entries
unfit_among predecessors type entries seen entry stands inside (inl stranger) = (entry, stands, inl stranger)
unfit_among predecessors type entries seen entry stands inside (inr w) = (entry, stands, inr (w.0, inside w.0 w.1, w.2, w.3))

from_in : (entries : List PhiEntry) (entry : PhiEntry) → Contains entries entry → Contains (map (λ (e : PhiEntry). e.from) entries) entry.from
from_in entries entry found = makes (λ (e : PhiEntry). e.from) entries found.0 entry (slice_get_read entries (length entries) found.0 entry refl found.1 (sym found.2))

entry_from : (entries : List PhiEntry) (label : ℕ) → Contains (map (λ (e : PhiEntry). e.from) entries) label → (entry : PhiEntry) × Contains entries entry × (entry.from ≡ label)
entry_from entries label found =
    let w = made_of (λ (e : PhiEntry). e.from) entries found.0 label found.1 found.2 in
    (w.0, (found.0, slice_get_within entries found.0 w.0 w.1, get_or_from_slice_get entries found.0 w.0 w.0 w.1), w.2)

pub unfit_entry : (predecessors : List ℕ) (phi : Phi) → HasUnfitEntry predecessors phi.of_type phi.entries → IsUnfit predecessors phi
unfit_entry predecessors phi (entry, stands, inl stranger) = inl (λ comes. stranger ((comes entry.from).0 (from_in phi.entries entry stands)))
unfit_entry predecessors phi (entry, stands, inr w) = inr (record { one = w.0; other = entry; here = w.1; there = stands; block = w.2; differ = w.3 })

awaited_is : (m : Mark) → is_awaited m ≡ true → m ≡ Awaited
awaited_is Stranger e = absurd (both_ways _ refl e)
awaited_is Awaited e = refl
awaited_is (Given operand) e = absurd (both_ways _ refl e)

pub awaited_unfit : (predecessors : List ℕ) (phi : Phi) (marks : List Mark) → AreMarked predecessors phi.of_type phi.entries marks → list_any (λ (label : ℕ). is_awaited (get_or marks label Stranger)) predecessors ≡ true → IsUnfit predecessors phi
awaited_unfit predecessors phi marks marked some = with_label (Any-from_list_any (λ (label : ℕ). is_awaited (get_or marks label Stranger)) predecessors some)
  where
    unfit : (label : ℕ) → Contains predecessors label → is_awaited (get_or marks label Stranger) ≡ true → IsUnfit predecessors phi
    unfit label found awaited = inl (λ comes.
        let w = entry_from phi.entries label ((comes label).1 found) in
        let mark = subst (λ (m : Mark). IsMarkOf predecessors phi.of_type phi.entries label m) (awaited_is (get_or marks label Stranger) awaited) (marked.each label) in
        mark.1 w.0 w.1 w.2)

    with_label : Any (λ (label : ℕ). is_awaited (get_or marks label Stranger) ≡ true) predecessors → IsUnfit predecessors phi
    with_label w = unfit w.1 (w.0, w.2, w.3) w.4

pub none_unfit : (predecessors : List ℕ) (phi : Phi) (marks : List Mark) → AreMarked predecessors phi.of_type phi.entries marks → list_any (λ (label : ℕ). is_awaited (get_or marks label Stranger)) predecessors ≡ false → IsUnfit predecessors phi → ⊥
none_unfit predecessors phi marks marked none unfit = either unfit
  where
    to_predecessor : (entry : PhiEntry) → Contains phi.entries entry → (m : Mark) → IsMarkOf predecessors phi.of_type phi.entries entry.from m → Contains predecessors entry.from
    to_predecessor entry stands Stranger mark = absurd (mark.1 entry stands refl)
    to_predecessor entry stands Awaited mark = mark.0
    to_predecessor entry stands (Given operand) mark = mark.0

    to_entry : (label : ℕ) → Contains predecessors label → (m : Mark) → get_or marks label Stranger ≡ m → IsMarkOf predecessors phi.of_type phi.entries label m → Contains (map (λ (e : PhiEntry). e.from) phi.entries) label
    to_entry label found Stranger is mark = absurd (mark.0 found)
    to_entry label found Awaited is mark = absurd (both_ways _ none (list_any_at (λ (l : ℕ). is_awaited (get_or marks l Stranger)) predecessors found.0 label found.1 (ap (λ (l : ℕ). is_awaited (get_or marks l Stranger)) found.2 ∙ ap is_awaited is)))
    to_entry label found (Given operand) is mark = subst (λ (l : ℕ). Contains (map (λ (e : PhiEntry). e.from) phi.entries) l) mark.1.comes (from_in phi.entries mark.1.entry mark.1.stands)

    comes : (label : ℕ) → Contains (map (λ (e : PhiEntry). e.from) phi.entries) label ↔ Contains predecessors label
    comes label = (
      λ found. let w = entry_from phi.entries label found in subst (λ (l : ℕ). Contains predecessors l) w.2 (to_predecessor w.0 w.1 (get_or marks w.0.from Stranger) (marked.each w.0.from)),
      λ found. to_entry label found (get_or marks label Stranger) refl (marked.each label),
    )

    one_operand : (two : HasTwoOperands phi) → (m : Mark) → IsMarkOf predecessors phi.of_type phi.entries two.one.from m → ⊥
    one_operand two Stranger mark = mark.1 two.one two.here refl
    one_operand two Awaited mark = mark.1 two.one two.here refl
    one_operand two (Given operand) mark =
        let first = mark.1.same two.one two.here refl in
        let second = mark.1.same two.other two.there (sym two.block) in
        both_ways _ two.differ (alike phi.of_type operand two.one.operand first two.other.operand ∙ second)

    either : IsUnfit predecessors phi → ⊥
    either (inl strange) = strange comes
    either (inr two) = one_operand two (get_or marks two.one.from Stranger) (marked.each two.one.from)
