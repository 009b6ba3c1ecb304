use Rattle.definite_assignment.proofs.Common.{ℕ, ◌≡◌, ◌<◌, ◌∙◌, List, Bool, false, true, length, get_or, map, ap, sym, subst, arith, All, IsTrue, ◌↔◌, IsAssignedBefore, IsUnassignedBefore, column_of, has}
use Rattle.definite_assignment.proofs.Columns.{AreApart, apart_from, by_columns-roomy, columns_within, exact_by_columns, missed_by_columns}
use Rattle.definite_assignment.proofs.assigned_before.Goals as goal

apart_of : (marks given : List Bool) (columns : List ℕ) (assigns : List (List ℕ)) (names : ℕ) → length marks ≡ names → given ≡ marks
    → ((m n : ℕ) → n < length given → get_or given m false ≡ true → column_of columns m ≡ column_of columns n → m ≡ n)
    → All (All (λ name. get_or marks name false ≡ true)) assigns → AreApart columns assigns names
apart_of marks given columns assigns names long e apart marked =
    apart_from marks columns assigns names long (subst (λ (ms : List Bool). (m n : ℕ) → n < length ms → get_or ms m false ≡ true → column_of columns m ≡ column_of columns n → m ≡ n) e apart) marked

renamed_of : (given columns : List ℕ) (assigns renamed seen : List (List ℕ)) → given ≡ columns → renamed ≡ map (map (column_of given)) assigns → seen ≡ renamed → seen ≡ map (map (column_of columns)) assigns
renamed_of given columns assigns renamed seen e is same = same ∙ (is ∙ ap (λ (cs : List ℕ). map (map (column_of cs)) assigns) e)

pub fixpoint-requires-clause-names : goal.fixpoint-requires-clause-names
fixpoint-requires-clause-names c =
    let columns = c.in_ok-columns.columns.of_name.items in
    let long : length columns ≡ c.args.names = c.in_ok-columns.ensures.long ∙ (ap length c.deref.ensures.value ∙ c.in_ok-is_assigned.ensures.long) in
    subst (λ (lists : List (List ℕ)). All (All (λ column. column < c.in_ok-columns.columns.count)) lists)
    (sym (renamed_of c.deref-2.result.now columns c.args.assigns.now c.in_ok-assigns.assigns.items c.deref-3.result.now c.deref-2.ensures.value c.in_ok-assigns.ensures c.deref-3.ensures.value))
    (columns_within columns c.args.assigns.now c.args.names c.in_ok-columns.columns.count long c.in_ok-columns.ensures.below c.requires.names)

pub returns-clause-room : goal.returns-clause-room
returns-clause-room c =
    let long : length c.in_ok-columns.columns.of_name.items ≡ c.args.names = c.in_ok-columns.ensures.long ∙ (ap length c.deref.ensures.value ∙ c.in_ok-is_assigned.ensures.long) in
    rw c.new.ensures (by_columns-roomy c.in_ok-columns.columns.of_name.items c.in_ok-sets.sets (length c.args.successors.now) c.args.names c.in_ok-sets.ensures.room.long long)

pub returns-clause-exact : goal.returns-clause-exact
returns-clause-exact c block name below place =
    let columns = c.in_ok-columns.columns.of_name.items in
    let long : length columns ≡ c.args.names = c.in_ok-columns.ensures.long ∙ (ap length c.deref.ensures.value ∙ c.in_ok-is_assigned.ensures.long) in
    let small : column_of columns name < c.in_ok-columns.columns.count = c.in_ok-columns.ensures.below name 0 (omega (arith, place, long)) in
    rw c.new.ensures (exact_by_columns c.args.successors.now c.args.assigns.now columns c.in_ok-sets.sets c.args.names block name
    (apart_of c.in_ok-is_assigned.is_assigned.items c.deref.result.now columns c.args.assigns.now c.args.names c.in_ok-is_assigned.ensures.long c.deref.ensures.value c.in_ok-columns.ensures.apart c.in_ok-is_assigned.ensures.marked)
    long (omega (arith, below, c.in_ok-sets.ensures.room.long)) place
    (subst (λ (lists : List (List ℕ)). IsTrue (has c.in_ok-sets.sets block (column_of columns name)) ↔ IsAssignedBefore c.args.successors.now lists block (column_of columns name))
    (renamed_of c.deref-2.result.now columns c.args.assigns.now c.in_ok-assigns.assigns.items c.deref-3.result.now c.deref-2.ensures.value c.in_ok-assigns.ensures c.deref-3.ensures.value)
    (c.in_ok-sets.ensures.exact block (column_of columns name) below small)))

pub returns-clause-missed : goal.returns-clause-missed
returns-clause-missed c block name below place lacks =
    let columns = c.in_ok-columns.columns.of_name.items in
    let long : length columns ≡ c.args.names = c.in_ok-columns.ensures.long ∙ (ap length c.deref.ensures.value ∙ c.in_ok-is_assigned.ensures.long) in
    let small : column_of columns name < c.in_ok-columns.columns.count = c.in_ok-columns.ensures.below name 0 (omega (arith, place, long)) in
    missed_by_columns c.args.successors.now c.args.assigns.now columns c.in_ok-sets.sets c.args.names block name
    (apart_of c.in_ok-is_assigned.is_assigned.items c.deref.result.now columns c.args.assigns.now c.args.names c.in_ok-is_assigned.ensures.long c.deref.ensures.value c.in_ok-columns.ensures.apart c.in_ok-is_assigned.ensures.marked)
    long (omega (arith, below, c.in_ok-sets.ensures.room.long)) place
    (λ none. subst (λ (lists : List (List ℕ)). IsUnassignedBefore c.args.successors.now lists block (column_of columns name))
    (renamed_of c.deref-2.result.now columns c.args.assigns.now c.in_ok-assigns.assigns.items c.deref-3.result.now c.deref-2.ensures.value c.in_ok-assigns.ensures c.deref-3.ensures.value)
    (c.in_ok-sets.ensures.missed block (column_of columns name) below small none))
    (let same = c.new.ensures in rw same at lacks)
