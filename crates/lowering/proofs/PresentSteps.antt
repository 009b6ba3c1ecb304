-- One instruction of a run with trees, and what the lowered function does in its place.
use Rattle.lowering.proofs.PresentCommon.{◌≡◌, ◌⊎◌, inl, inr, ℕ, zero, suc, ◌+◌, ◌<◌, ◌≤◌, max, Bool, true, false, ◌||◌, ◌&&◌, if◌then◌else◌, nat_lt, List, [], ◌∷◌, ◌++◌, length, get_or, set, slice_get, sum_by, Option, Some, None, option_map, refl, sym, ap, subst, ◌∙◌, arith, list_any, AllByRecursion, Contains, nat_tests, cases_Bool, cases_eq, cases_lt, both_ways, length-set, get_or-set_same, get_or-set_other, sum_by-cons, IrType, Operand, Op, Inst, Terminator, Block, Function, one_bit, results_of, carrying_operands, insts_of, leaf_count, carries, is_division, refuses_undef, Value, Machine, operand_value, typed_value, frozen, act, exit_after, Over, scratch, computed, stack_height, Tree, Sample, TreeMachine}
unfoldable use Rattle.lowering.proofs.PresentCommon.{exit_insts, sample}
use Rattle.points.specs.declared.outcome.Outcome.TheVariants.{Ub}
use Rattle.points.specs.Run.{ended}
use Rattle.ir_tree.specs.Operands.{operands_of}
use Rattle.undef_uses.specs.Undefs.{is_undef, divides_undef}
use Rattle.lowering.proofs.Makers.{DividesNoUndef}
use Rattle.lowering.specs.Lowered.{carries_name, makes_tree, lowered_inst}
unfoldable use Rattle.lowering.specs.Lowered.{most_leaves}
use Rattle.lowering.specs.Trees.{register_tree, holds_undef, operand_tree, tree_of, as_value, frozen_tree, act_on_values, act_with_trees}
unfoldable use Rattle.lowering.specs.Trees.{with_tree}
use Rattle.ir_tree.proofs.Definers.{all_at}
use Rattle.lowering.proofs.Enough.{carries_number, carries_null, carries_poison}
use Rattle.lowering.proofs.PresentTrees.{IsIn, IsMadeBy, Presents, leaves_of, placed-carrying}
use Rattle.lowering.proofs.Samples.{with_scratch, Leads, leads_none, leads_one, leads_on, Computes, computes, sample-registers}
use Rattle.lowering.proofs.Paths.{only, first_of, IsReached, missed_at}
use Rattle.lowering.proofs.PathSites.{IsAccepted, IsUsable, IsResultAt, MissedAt, inst_usable, carried_usable, all-map, result_within, maker_is, has_few_leaves, of_blocks}
use Rattle.lowering.proofs.PathsClosed.{closed_at, missed_next}
use Rattle.lowering.proofs.PresentHolds.{IsHeld, Holds, weaken, assign, any_type, name_held, operand_presents, any_carried}
use Rattle.lowering.proofs.PresentActs.{IsBelow, Writes, frozen-scratch, frozen_writes, act-scratch, act_writes}
use Rattle.ir_tree.specs.declared.tree.IrType.TheVariants as type
use Rattle.ir_tree.specs.declared.tree.Operand.TheVariants as operand
use Rattle.ir_tree.specs.declared.tree.Inst.TheVariants as inst
use Rattle.lowering.specs.Trees as tree

-- ---- which instructions make trees

either-zero : (a b : ℕ) → nat_lt 0 (a + b) ≡ (nat_lt 0 a || nat_lt 0 b)
either-zero a b = grind (arith, nat_tests)

some_positive : (f : Function) (os : List Operand) → nat_lt 0 (sum_by (leaf_count f) os) ≡ list_any (carries f) os
some_positive f [] = refl
some_positive f (o ∷ os) = ap (nat_lt 0) (sum_by-cons (leaf_count f) o os) ∙ (either-zero (leaf_count f o) (sum_by (leaf_count f) os) ∙ ap (λ (b : Bool). carries f o || b) (some_positive f os))

or_false : (b : Bool) → (b || false) ≡ b
or_false true = refl
or_false false = refl

-- a result carries undef where an operand does that it carries
result_carries : (f : Function) (into : ℕ) (i : Inst) → IsAccepted f → IsResultAt f into i → carries f (operand.Local into) ≡ list_any (carries f) (carrying_operands i)
result_carries f into i accepted at =
    ap (nat_lt 0) (leaves_of f (has_few_leaves f accepted) into i (maker_is f into i accepted.well_formed.names.0 at)) ∙ some_positive f (carrying_operands i)

-- an instruction has at most one result
abbrev HasOneOrNone : Inst → Type 0
HasOneOrNone i = ((into : ℕ) × (results_of i ≡ into ∷ [])) ⊎ ((results_of i ≡ []) × (carrying_operands i ≡ []))

one_or_none : (i : Inst) → HasOneOrNone i
one_or_none (inst.Binary into op width left right) = inl (into, refl)
one_or_none (inst.Icmp into predicate same_sign width left right) = inl (into, refl)
one_or_none (inst.Cast into cast from o to) = inl (into, refl)
one_or_none (inst.Select into condition if_true if_false) = inl (into, refl)
one_or_none (inst.Freeze into ty o) = inl (into, refl)
one_or_none (inst.Alloca into number ty align) = inl (into, refl)
one_or_none (inst.Load into ty pointer align) = inl (into, refl)
one_or_none (inst.Store value pointer align) = inr (refl, refl)
one_or_none (inst.GetElementPtr into inbounds nuw ty base indices) = inl (into, refl)

-- the instruction is in the function, at this place
pub record IsPlace (f : Function) (k : ℕ) (b : Block) (j : ℕ) (i : Inst) : Type 0 where
  pub stands : slice_get f.blocks k ≡ Some b
  pub its : slice_get b.insts j ≡ Some i
  pub reached : IsReached f k

result_at : (f : Function) (k : ℕ) (b : Block) (j : ℕ) (i : Inst) (into : ℕ) → IsPlace f k b j i → results_of i ≡ into ∷ [] → IsResultAt f into i
result_at f k b j i into place one = record { k = k; j = j; b = b; stands = place.stands; its = place.its; result = rw one (first_of into []) }

-- an instruction makes a tree where an operand that its result carries does
makes-same : (f : Function) (k : ℕ) (b : Block) (j : ℕ) (i : Inst) → IsAccepted f → IsPlace f k b j i → makes_tree f i ≡ list_any (carries f) (carrying_operands i)
makes-same f k b j i accepted place = by (one_or_none i)
  where
    by : HasOneOrNone i → makes_tree f i ≡ list_any (carries f) (carrying_operands i)
    by (inl w) =
        ap (list_any (λ (name : ℕ). carries f (operand.Local name))) w.1
        ∙ (or_false (carries f (operand.Local w.0)) ∙ result_carries f w.0 i accepted (result_at f k b j i w.0 place w.1))
    by (inr w) = ap (list_any (λ (name : ℕ). carries f (operand.Local name))) w.0 ∙ sym (ap (list_any (carries f)) w.1)

-- ---- an instruction that makes a tree

carries_nothing : (f : Function) (P : ℕ → Type 0) (o : Operand) → IsUsable f P true o → is_undef o ≡ false → carries f o ≡ false
carries_nothing f P (operand.Local name) usable plain = usable.2 refl
carries_nothing f P (operand.Number n) usable plain = carries_number f n
carries_nothing f P operand.Null usable plain = carries_null f
carries_nothing f P operand.Poison usable plain = carries_poison f
carries_nothing f P operand.Undef usable plain = absurd (let never : true ≡ false = plain in cc)

-- a division carries nothing
is_whole : (f : Function) (P : ℕ → Type 0) (op : Op) (left right : Operand) → IsUsable f P (is_division op) left → IsUsable f P (is_division op) right
    → (is_division op && (is_undef left || is_undef right)) ≡ false → list_any (carries f) (left ∷ right ∷ []) ≡ true → is_division op ≡ false
is_whole f P op left right l r plain some = by (is_division op) refl l r plain
  where
    or_parts : (a c : Bool) → (a || c) ≡ false → (a ≡ false) × (c ≡ false)
    or_parts true c e = absurd (let never : true ≡ false = e in cc)
    or_parts false c e = (refl, e)

    by : (d : Bool) → is_division op ≡ d → IsUsable f P d left → IsUsable f P d right → (d && (is_undef left || is_undef right)) ≡ false → is_division op ≡ false
    by false e l' r' plain' = e
    by true e l' r' plain' =
        let parts = or_parts (is_undef left) (is_undef right) plain' in
        let a = carries_nothing f P left l' parts.0 in
        let c = carries_nothing f P right r' parts.1 in
        absurd (let never : true ≡ false = sym some ∙ (ap (λ (x : Bool). x || (carries f right || false)) a ∙ ap (λ (x : Bool). x || false) c) in cc)

-- the tree that an instruction makes
pub record MakesTree (f : Function) (t : TreeMachine) (i : Inst) : Type 0 where
  pub into : ℕ
  pub made : Tree
  pub one : results_of i ≡ into ∷ []
  pub tree_is : tree_of t i ≡ Some made
  pub present : Presents f t.machine.registers type.Ptr (operand.Local into) made

makes_trees : (f : Function) (k : ℕ) (b : Block) (j : ℕ) (i : Inst) (t : TreeMachine) → IsAccepted f → IsPlace f k b j i → divides_undef i ≡ false → list_any (carries f) (carrying_operands i) ≡ true
    → Holds f (MissedAt f k b j) t.machine.registers t.trees → MakesTree f t i
makes_trees f k b j i t accepted place divides some held = by i refl divides some (carried_usable f k b j i accepted place.stands place.its)
  where
    made_by : (into : ℕ) → results_of i ≡ into ∷ [] → IsMadeBy f (operand.Local into) into i
    made_by into one = record {
      is = refl;
      within = result_within f into i accepted (result_at f k b j i into place one);
      carried = result_carries f into i accepted (result_at f k b j i into place one) ∙ some;
      maker = maker_is f into i accepted.well_formed.names.0 (result_at f k b j i into place one);
    }

    presents : (r : Bool) (ty : IrType) (o : Operand) → IsUsable f (MissedAt f k b j) r o → Presents f t.machine.registers ty o (operand_tree t ty o)
    presents r ty o usable = operand_presents f (MissedAt f k b j) r t ty o held usable

    by : (i' : Inst) → i ≡ i' → divides_undef i' ≡ false → list_any (carries f) (carrying_operands i') ≡ true → AllByRecursion (IsUsable f (MissedAt f k b j) (refuses_undef i)) (carrying_operands i) → MakesTree f t i
    by (inst.Binary into op width left right) is divides' some' usable =
        let usable' : AllByRecursion (IsUsable f (MissedAt f k b j) (is_division op)) (left ∷ right ∷ []) = rw is at usable in
        let m = made_by into (ap results_of is) in
        record {
          into = into;
          made = tree.Binary op width.bits (operand_tree t (type.Int width) left) (operand_tree t (type.Int width) right);
          one = ap results_of is;
          tree_is = ap (tree_of t) is;
          present = (
            record { name = into; into = into; width = width; left = left; right = right; made = rw is at m; wide = refl; whole = is_whole f (MissedAt f k b j) op left right usable'.0 usable'.1.0 divides' some' },
            presents (is_division op) (type.Int width) left usable'.0,
            presents (is_division op) (type.Int width) right usable'.1.0,
          );
        }
    by (inst.Icmp into predicate same_sign width left right) is divides' some' usable =
        let usable' : AllByRecursion (IsUsable f (MissedAt f k b j) false) (left ∷ right ∷ []) = rw is at usable in
        let m = made_by into (ap results_of is) in
        record {
          into = into;
          made = tree.Icmp predicate same_sign width.bits (operand_tree t (type.Int width) left) (operand_tree t (type.Int width) right);
          one = ap results_of is;
          tree_is = ap (tree_of t) is;
          present = (
            record { name = into; into = into; width = width; left = left; right = right; made = rw is at m; wide = refl },
            presents false (type.Int width) left usable'.0,
            presents false (type.Int width) right usable'.1.0,
          );
        }
    by (inst.Cast into cast from o to) is divides' some' usable =
        let usable' : AllByRecursion (IsUsable f (MissedAt f k b j) false) (o ∷ []) = rw is at usable in
        let m = made_by into (ap results_of is) in
        record {
          into = into;
          made = tree.Cast cast from.bits to.bits (operand_tree t (type.Int from) o);
          one = ap results_of is;
          tree_is = ap (tree_of t) is;
          present = (record { name = into; into = into; from = from; of = o; to = to; made = rw is at m; wide = refl; wide_to = refl }, presents false (type.Int from) o usable'.0);
        }
    by (inst.Select into condition if_true if_false) is divides' some' usable =
        let r : Bool = refuses_undef (inst.Select into condition if_true if_false) in
        let usable' : AllByRecursion (IsUsable f (MissedAt f k b j) (refuses_undef (inst.Select into condition if_true if_false))) (condition ∷ if_true.operand ∷ if_false.operand ∷ []) = rw is at usable in
        let m = made_by into (ap results_of is) in
        record {
          into = into;
          made = tree.Select (operand_tree t (type.Int one_bit) condition) if_true.of_type (operand_tree t if_true.of_type if_true.operand) if_false.of_type (operand_tree t if_false.of_type if_false.operand);
          one = ap results_of is;
          tree_is = ap (tree_of t) is;
          present = (
            record { name = into; into = into; condition = condition; if_true = if_true; if_false = if_false; made = rw is at m; true_is = refl; false_is = refl },
            presents r (type.Int one_bit) condition usable'.0,
            presents r if_true.of_type if_true.operand usable'.1.0,
            presents r if_false.of_type if_false.operand usable'.1.1.0,
          );
        }
    by (inst.Freeze into ty o) is divides' some' usable = absurd (let never : true ≡ false = sym some' in cc)
    by (inst.Alloca into number ty align) is divides' some' usable = absurd (let never : true ≡ false = sym some' in cc)
    by (inst.Load into ty pointer align) is divides' some' usable = absurd (let never : true ≡ false = sym some' in cc)
    by (inst.Store value pointer align) is divides' some' usable = absurd (let never : true ≡ false = sym some' in cc)
    by (inst.GetElementPtr into inbounds nuw ty base indices) is divides' some' usable = absurd (let never : true ≡ false = sym some' in cc)

-- a tree that is made is held, and what was held or missed still is
made_held : (f : Function) (k : ℕ) (b : Block) (j : ℕ) (i : Inst) (rs : List Value) (trees : List (Option Tree)) (into : ℕ) (made : Tree) → slice_get b.insts j ≡ Some i → results_of i ≡ into ∷ []
    → into < length f.names → carries f (operand.Local into) ≡ true → Presents f rs type.Ptr (operand.Local into) made
    → Holds f (MissedAt f k b j) rs trees → Holds f (MissedAt f k b (suc j)) rs (set trees into (Some made))
made_held f k b j i rs trees into made its one within does present held = record {
  wide = held.wide;
  many = length-set trees into (Some made) ∙ held.many;
  plain = λ name nothing. get_or-set_other trees into name (Some made) None (λ e. both_ways _ (ap (λ (n : ℕ). carries f (operand.Local n)) (sym e) ∙ nothing) does) ∙ held.plain name nothing;
  carried = λ name inside carries'. by name carries' inside (cases_eq name into);
}
  where
    other : (name : ℕ) → (name ≡ into → ⊥) → MissedAt f k b j name ⊎ IsHeld f rs trees name → MissedAt f k b (suc j) name ⊎ IsHeld f rs (set trees into (Some made)) name
    other name differs (inl missed) = inl (missed_next f k b j name i its (λ found. differs (sym (only into name (rw one at found)))) missed)
    other name differs (inr w) = inr (w.0, get_or-set_other trees into name (Some made) None differs ∙ w.1, w.2)

    by : (name : ℕ) → carries f (operand.Local name) ≡ true → name < length f.names → (name ≡ into) ⊎ (name ≡ into → ⊥) → MissedAt f k b (suc j) name ⊎ IsHeld f rs (set trees into (Some made)) name
    by name carries' inside (inl same) =
        inr (made, ap (λ (n : ℕ). get_or (set trees into (Some made)) n None) same ∙ get_or-set_same trees into (Some made) None (omega (arith, within, held.many)), subst (λ (n : ℕ). Presents f rs type.Ptr (operand.Local n) made) (sym same) present)
    by name carries' inside (inr differs) = other name differs (held.carried name inside carries')

-- ---- what the lowered function does in the place of an instruction

-- both go on, and agree
pub record StepsOn (f : Function) (k : ℕ) (b : Block) (j : ℕ) (tape : List ℕ) (t : TreeMachine) (s : List Value) (i : Inst) : Type 0 where
  pub next : TreeMachine
  pub after : List Value
  pub long : length after ≡ length s
  pub is : act_with_trees i tape t ≡ Some next
  pub leads : Leads tape (lowered_inst f i) (with_scratch t.machine s) (with_scratch next.machine after)
  pub held : Holds f (MissedAt f k b (suc j)) next.machine.registers next.trees

-- both are undefined behaviour
pub record Stops (f : Function) (tape : List ℕ) (t : TreeMachine) (s : List Value) (i : Inst) : Type 0 where
  pub is : act_with_trees i tape t ≡ None
  pub stops : (no_undef : Bool) (more : List Inst) (end : Terminator) → exit_insts no_undef (lowered_inst f i ++ more) end tape (with_scratch t.machine s) ≡ Over (ended Ub t.machine)

abbrev pub Steps : Function → ℕ → Block → ℕ → List ℕ → TreeMachine → List Value → Inst → Type 0
Steps f k b j tape t s i = StepsOn f k b j tape t s i ⊎ Stops f tape t s i

lowered_tree : (f : Function) (i : Inst) → list_any (carries f) (carrying_operands i) ≡ true → makes_tree f i ≡ true → lowered_inst f i ≡ []
lowered_tree f (inst.Binary into op width left right) some makes' = ap (λ (c : Bool). if c then [] else inst.Binary into op width left right ∷ []) makes'
lowered_tree f (inst.Icmp into predicate same_sign width left right) some makes' = ap (λ (c : Bool). if c then [] else inst.Icmp into predicate same_sign width left right ∷ []) makes'
lowered_tree f (inst.Cast into cast from o to) some makes' = ap (λ (c : Bool). if c then [] else inst.Cast into cast from o to ∷ []) makes'
lowered_tree f (inst.Select into condition if_true if_false) some makes' = ap (λ (c : Bool). if c then [] else inst.Select into condition if_true if_false ∷ []) makes'
lowered_tree f (inst.Freeze into ty o) some makes' = absurd (let never : true ≡ false = sym some in cc)
lowered_tree f (inst.Alloca into number ty align) some makes' = absurd (let never : true ≡ false = sym some in cc)
lowered_tree f (inst.Load into ty pointer align) some makes' = absurd (let never : true ≡ false = sym some in cc)
lowered_tree f (inst.Store value pointer align) some makes' = absurd (let never : true ≡ false = sym some in cc)
lowered_tree f (inst.GetElementPtr into inbounds nuw ty base indices) some makes' = absurd (let never : true ≡ false = sym some in cc)

-- whether an instruction makes a tree is whether an operand holds undef
choice_is : (f : Function) (k : ℕ) (b : Block) (j : ℕ) (i : Inst) (t : TreeMachine) → IsAccepted f → IsPlace f k b j i → Holds f (MissedAt f k b j) t.machine.registers t.trees → list_any (holds_undef t) (carrying_operands i) ≡ list_any (carries f) (carrying_operands i)
choice_is f k b j i t accepted place held = any_carried f (MissedAt f k b j) (refuses_undef i) t (carrying_operands i) held (carried_usable f k b j i accepted place.stands place.its)

tree_step : (f : Function) (k : ℕ) (b : Block) (j : ℕ) (tape : List ℕ) (t : TreeMachine) (s : List Value) (i : Inst) → IsAccepted f → IsPlace f k b j i → divides_undef i ≡ false → list_any (carries f) (carrying_operands i) ≡ true
    → Holds f (MissedAt f k b j) t.machine.registers t.trees → StepsOn f k b j tape t s i
unfolding with_tree
tree_step f k b j tape t s i accepted place divides some held = record {
  next = record t { trees = set t.trees m.into (Some m.made) };
  after = s;
  long = refl;
  is =
      ap (λ (c : Bool). if c then Some (record t { trees = with_tree (results_of i) (tree_of t i) t.trees }) else as_value i t (act_on_values i tape t)) (choice_is f k b j i t accepted place held ∙ some)
      ∙ rw (m.one, m.tree_is) refl;
  leads = rw (lowered_tree f i some (makes-same f k b j i accepted place ∙ some)) (leads_none tape (with_scratch t.machine s));
  held = made_held f k b j i t.machine.registers t.trees m.into m.made place.its m.one (result_within f m.into i accepted at) (result_carries f m.into i accepted at ∙ some) m.present held;
}
  where
    m : MakesTree f t i
    m = makes_trees f k b j i t accepted place divides some held

    at : IsResultAt f m.into i
    at = result_at f k b j i m.into place m.one

-- ---- an instruction on values

-- a result that carries nothing is assigned
values_held : (f : Function) (k : ℕ) (b : Block) (j : ℕ) (i : Inst) (rs rs' : List Value) (trees : List (Option Tree)) → IsAccepted f → IsPlace f k b j i → list_any (carries f) (carrying_operands i) ≡ false
    → Writes (results_of i) rs rs' → Holds f (MissedAt f k b j) rs trees → Holds f (MissedAt f k b (suc j)) rs' (with_tree (results_of i) None trees)
unfolding with_tree
values_held f k b j i rs rs' trees accepted place none writes held = by (one_or_none i)
  where
    by : HasOneOrNone i → Holds f (MissedAt f k b (suc j)) rs' (with_tree (results_of i) None trees)
    by (inl w) =
        let at = result_at f k b j i w.0 place w.1 in
        let not' : carries f (operand.Local w.0) ≡ false = result_carries f w.0 i accepted at ∙ none in
        let written' : Writes (w.0 ∷ []) rs rs' = rw w.1 at writes in
        rw (w.1, written'.1)
        (weaken f (MissedAt f k b j) (MissedAt f k b (suc j)) (set rs w.0 written'.0) (set trees w.0 None)
        (λ name does missed. missed_next f k b j name i place.its (λ found. both_ways _ (ap (λ (n : ℕ). carries f (operand.Local n)) (sym (only w.0 name (rw w.1 at found))) ∙ not') does) missed)
        (assign f (MissedAt f k b j) rs trees w.0 written'.0 (closed_at f k b j accepted place.stands) (missed_at f k j w.0 b i accepted.well_formed.names.0 place.reached place.stands place.its at.result) not' held))
    by (inr w) =
        let written' : Writes [] rs rs' = rw w.0 at writes in
        rw (w.0, written')
        (weaken f (MissedAt f k b j) (MissedAt f k b (suc j)) rs trees (λ name does missed. missed_next f k b j name i place.its (λ found. let those : Contains [] name = rw w.0 at found in omega (arith, those.1)) missed) held)

usable_in : (f : Function) (P : ℕ → Type 0) (r : Bool) (o : Operand) → IsUsable f P r o → IsIn f o
usable_in f P r (operand.Local name) usable = usable.0
usable_in f P r (operand.Number n) usable = tt
usable_in f P r operand.Null usable = tt
usable_in f P r operand.Poison usable = tt
usable_in f P r operand.Undef usable = tt

pub all_usable_in : (f : Function) (P : ℕ → Type 0) (r : Bool) (os : List Operand) → AllByRecursion (IsUsable f P r) os → AllByRecursion (IsIn f) os
all_usable_in f P r os all = all-map (IsUsable f P r) (IsIn f) (usable_in f P r) os all

results_below : (f : Function) (k : ℕ) (b : Block) (j : ℕ) (i : Inst) → IsAccepted f → IsPlace f k b j i → AllByRecursion (IsBelow (length f.names)) (results_of i)
results_below f k b j i accepted place = by (one_or_none i)
  where
    by : HasOneOrNone i → AllByRecursion (IsBelow (length f.names)) (results_of i)
    by (inl w) = rw w.1 (result_within f w.0 i accepted (result_at f k b j i w.0 place w.1), tt)
    by (inr w) = rw w.0 tt

value_step : (f : Function) (k : ℕ) (b : Block) (j : ℕ) (tape : List ℕ) (t : TreeMachine) (s : List Value) (i : Inst) → IsAccepted f → IsPlace f k b j i → list_any (carries f) (carrying_operands i) ≡ false
    → lowered_inst f i ≡ i ∷ [] → act_with_trees i tape t ≡ as_value i t (act i tape t.machine) → Holds f (MissedAt f k b j) t.machine.registers t.trees → Steps f k b j tape t s i
unfolding exit_insts
value_step f k b j tape t s i accepted place none lowered' acts held = by (act i tape t.machine) refl
  where
    same : act i tape (with_scratch t.machine s) ≡ option_map (λ (m' : Machine). with_scratch m' s) (act i tape t.machine)
    same =
        act-scratch f i tape t.machine s held.wide (all_usable_in f (MissedAt f k b j) (refuses_undef i) (operands_of i) (inst_usable f k b j i accepted place.stands place.its)) (results_below f k b j i accepted place)

    by : (o : Option Machine) → act i tape t.machine ≡ o → Steps f k b j tape t s i
    by None e = inr (record {
      is = acts ∙ ap (as_value i t) e;
      stops = λ no_undef more end.
          ap (λ (insts : List Inst). exit_insts no_undef (insts ++ more) end tape (with_scratch t.machine s)) lowered'
          ∙ ap (λ (o : Option Machine). exit_after o (with_scratch t.machine s) (exit_insts no_undef more end tape)) (same ∙ ap (option_map (λ (m' : Machine). with_scratch m' s)) e);
    })
    by (Some m') e = inl (record {
      next = record { machine = m'; trees = with_tree (results_of i) None t.trees };
      after = s;
      long = refl;
      is = acts ∙ ap (as_value i t) e;
      leads = rw lowered' (leads_one tape i (with_scratch t.machine s) (with_scratch m' s) (same ∙ ap (option_map (λ (m'' : Machine). with_scratch m'' s)) e));
      held = values_held f k b j i t.machine.registers m'.registers t.trees accepted place none (act_writes i tape t.machine m' e) held;
    })

-- ---- freeze

-- the registers after the function's have room for each operand
pub most-leaves : (f : Function) (n name : ℕ) → name < n → leaf_count f (operand.Local name) ≤ most_leaves f n
unfolding most_leaves
most-leaves f zero name below = absurd (omega (arith, below))
most-leaves f (suc n) name below = by (cases_eq name n) (λ less. most-leaves f n name less)
  where
    by : (name ≡ n) ⊎ (name ≡ n → ⊥) → (name < n → leaf_count f (operand.Local name) ≤ most_leaves f n) → leaf_count f (operand.Local name) ≤ max (leaf_count f (operand.Local n)) (most_leaves f n)
    by (inl same) less = let is : leaf_count f (operand.Local name) ≡ leaf_count f (operand.Local n) = ap (λ (m : ℕ). leaf_count f (operand.Local m)) same in omega (arith, is)
    by (inr other) less = let more = less (below_other name n below other) in omega (arith, more)
      where
        below_other : (a c : ℕ) → a < suc c → (a ≡ c → ⊥) → a < c
        below_other a c under differs = split (cases_lt a c)
          where
            split : (a < c) ⊎ (c ≤ a) → a < c
            split (inl less') = less'
            split (inr more') = absurd (differs (omega (arith, under, more')))

-- what computes a name that is frozen or returned leads to a sample of the tree that it holds
pub samples : (f : Function) (P : ℕ → Type 0) (tape : List ℕ) (t : TreeMachine) (s : List Value) (ty : IrType) (name : ℕ) → IsAccepted f → Holds f P t.machine.registers t.trees → length s ≡ stack_height f → name < length f.names → (held : IsHeld f t.machine.registers t.trees name)
    → Computes f tape t.machine t.machine.registers s 0 ty (operand.Local name) (sample held.0 tape t.machine)
samples f P tape t s ty name accepted holds long within held =
    let most = most-leaves f (length f.names) name within in
    computes f (has_few_leaves f accepted) tape held.0 t.machine t.machine.registers s 0 ty (operand.Local name) refl holds.wide (omega (arith, most, long)) (any_type f t.machine.registers type.Ptr ty name held.0 held.2)

-- the sample's value is in the first of these registers
pub sampled_value : (f : Function) (tape : List ℕ) (t : TreeMachine) (s : List Value) (ty : IrType) (name : ℕ) (made : Tree) → carries f (operand.Local name) ≡ true → (c : Computes f tape t.machine t.machine.registers s 0 ty (operand.Local name) (sample made tape t.machine))
    → operand_value ((sample made tape t.machine).machine.registers ++ c.after) (operand.Local (scratch f 0)) ≡ (sample made tape t.machine).value
sampled_value f tape t s ty name made does c =
    ap (λ (rs : List Value). operand_value (rs ++ c.after) (operand.Local (scratch f 0))) (sample-registers made tape t.machine)
    ∙ (sym (ap (operand_value (t.machine.registers ++ c.after)) (placed-carrying f 0 (operand.Local name) does)) ∙ c.value)

frozen_step : (f : Function) (k : ℕ) (b : Block) (j : ℕ) (tape : List ℕ) (t : TreeMachine) (s : List Value) (into : ℕ) (ty : IrType) (name : ℕ) → IsAccepted f → IsPlace f k b j (inst.Freeze into ty (operand.Local name)) → length s ≡ stack_height f
    → carries f (operand.Local name) ≡ true → Holds f (MissedAt f k b j) t.machine.registers t.trees → StepsOn f k b j tape t s (inst.Freeze into ty (operand.Local name))
frozen_step f k b j tape t s into ty name accepted place long does held = record {
  next = record { machine = frozen tape x.machine into ty (typed_value ty x.value); trees = with_tree (into ∷ []) None t.trees };
  after = c.after;
  long = c.long;
  is = ap (λ (r : Option Tree). as_value i t (frozen_tree into ty r tape t (act i tape t.machine))) w.1;
  leads =
      rw (ap (λ (e : Bool). (if e then computed f 0 ty (operand.Local name) else []) ++ inst.Freeze into ty (if e then operand.Local (scratch f 0) else operand.Local name) ∷ []) does)
      (leads_on tape (computed f 0 ty (operand.Local name)) (last ∷ []) (with_scratch t.machine s) (with_scratch x.machine c.after) _ c.leads (leads_one tape last (with_scratch x.machine c.after) _ acts));
  held = values_held f k b j i t.machine.registers (frozen tape x.machine into ty (typed_value ty x.value)).registers t.trees accepted place refl writes held;
}
  where
    i : Inst
    i = inst.Freeze into ty (operand.Local name)

    last : Inst
    last = inst.Freeze into ty (operand.Local (scratch f 0))

    usable : IsUsable f (MissedAt f k b j) false (operand.Local name)
    usable = (inst_usable f k b j (inst.Freeze into ty (operand.Local name)) accepted place.stands place.its).0

    w : IsHeld f t.machine.registers t.trees name
    w = name_held f (MissedAt f k b j) false t name held usable does

    x : Sample
    x = sample w.0 tape t.machine

    c : Computes f tape t.machine t.machine.registers s 0 ty (operand.Local name) (sample w.0 tape t.machine)
    c = samples f (MissedAt f k b j) tape t s ty name accepted held long usable.0 w

    same : x.machine.registers ≡ t.machine.registers
    same = sample-registers w.0 tape t.machine

    within : into < length x.machine.registers
    within = let below = results_below f k b j i accepted place in omega (arith, below.0, ap length same, held.wide)

    acts : act last tape (with_scratch x.machine c.after) ≡ Some (with_scratch (frozen tape x.machine into ty (typed_value ty x.value)) c.after)
    acts =
        ap Some
        (ap (λ (v : Value). frozen tape (with_scratch x.machine c.after) into ty (typed_value ty v)) (sampled_value f tape t s ty name w.0 does c)
        ∙ frozen-scratch tape x.machine c.after into ty (typed_value ty x.value) within)

    writes : Writes (into ∷ []) t.machine.registers (frozen tape x.machine into ty (typed_value ty x.value)).registers
    writes = let v = frozen_writes tape x.machine into ty (typed_value ty x.value) in (v.0, v.1 ∙ ap (λ (rs : List Value). set rs into v.0) same)

freeze_step : (f : Function) (k : ℕ) (b : Block) (j : ℕ) (tape : List ℕ) (t : TreeMachine) (s : List Value) (into : ℕ) (ty : IrType) (o : Operand) → IsAccepted f → IsPlace f k b j (inst.Freeze into ty o) → length s ≡ stack_height f
    → Holds f (MissedAt f k b j) t.machine.registers t.trees → Steps f k b j tape t s (inst.Freeze into ty o)
freeze_step f k b j tape t s into ty o accepted place long held = by o refl
  where
    plain : (p : Operand) → IsPlace f k b j (inst.Freeze into ty p) → carries_name f p ≡ false → register_tree t p ≡ None → Steps f k b j tape t s (inst.Freeze into ty p)
    plain p here nothing none =
        value_step f k b j tape t s (inst.Freeze into ty p) accepted here refl (ap (λ (e : Bool). (if e then computed f 0 ty p else []) ++ inst.Freeze into ty (if e then operand.Local (scratch f 0) else p) ∷ []) nothing)
        (ap (λ (r : Option Tree). as_value (inst.Freeze into ty p) t (frozen_tree into ty r tape t (act (inst.Freeze into ty p) tape t.machine))) none) held

    name_step : (name : ℕ) → IsPlace f k b j (inst.Freeze into ty (operand.Local name)) → (carries f (operand.Local name) ≡ true) ⊎ (carries f (operand.Local name) ≡ false) → Steps f k b j tape t s (inst.Freeze into ty (operand.Local name))
    name_step name here (inl does) = inl (frozen_step f k b j tape t s into ty name accepted here long does held)
    name_step name here (inr not') = plain (operand.Local name) here not' (held.plain name not')

    by : (p : Operand) → o ≡ p → Steps f k b j tape t s (inst.Freeze into ty o)
    by (operand.Local name) e = rw e (name_step name (rw e at place) (cases_Bool (carries f (operand.Local name))))
    by (operand.Number n) e = rw e (plain (operand.Number n) (rw e at place) refl refl)
    by operand.Null e = rw e (plain operand.Null (rw e at place) refl refl)
    by operand.Poison e = rw e (plain operand.Poison (rw e at place) refl refl)
    by operand.Undef e = rw e (plain operand.Undef (rw e at place) refl refl)

-- ---- any instruction

pub steps : (f : Function) (k : ℕ) (b : Block) (j : ℕ) (tape : List ℕ) (t : TreeMachine) (s : List Value) (i : Inst) → IsAccepted f → DividesNoUndef f → IsPlace f k b j i → length s ≡ stack_height f
    → Holds f (MissedAt f k b j) t.machine.registers t.trees → Steps f k b j tape t s i
steps f k b j tape t s i accepted divides place long held = choose (cases_Bool (list_any (carries f) (carrying_operands i)))
  where
    divided : divides_undef i ≡ false
    divided = let w = of_blocks f.blocks k b j i place.stands place.its in all_at (λ (x : Inst). divides_undef x ≡ false) (insts_of f) w.0 i divides w.1

    as_values : list_any (carries f) (carrying_operands i) ≡ false → act_with_trees i tape t ≡ as_value i t (act_on_values i tape t)
    as_values none = ap (λ (c : Bool). if c then Some (record t { trees = with_tree (results_of i) (tree_of t i) t.trees }) else as_value i t (act_on_values i tape t)) (choice_is f k b j i t accepted place held ∙ none)

    stays : list_any (carries f) (carrying_operands i) ≡ false → (if makes_tree f i then [] else i ∷ []) ≡ i ∷ []
    stays none = ap (λ (c : Bool). if c then [] else i ∷ []) (makes-same f k b j i accepted place ∙ none)

    go : list_any (carries f) (carrying_operands i) ≡ false → lowered_inst f i ≡ (if makes_tree f i then [] else i ∷ []) → act_on_values i tape t ≡ act i tape t.machine → Steps f k b j tape t s i
    go none lowered' acts = value_step f k b j tape t s i accepted place none (lowered' ∙ stays none) (as_values none ∙ ap (as_value i t) acts) held

    by : (i' : Inst) → i ≡ i' → list_any (carries f) (carrying_operands i) ≡ false → Steps f k b j tape t s i
    by (inst.Binary into op width left right) e none = go none (rw e refl) (rw e refl)
    by (inst.Icmp into predicate same_sign width left right) e none = go none (rw e refl) (rw e refl)
    by (inst.Cast into cast from o to) e none = go none (rw e refl) (rw e refl)
    by (inst.Select into condition if_true if_false) e none = go none (rw e refl) (rw e refl)
    by (inst.Freeze into ty o) e none = rw e (freeze_step f k b j tape t s into ty o accepted (rw e at place) long held)
    by (inst.Alloca into number ty align) e none = go none (rw e refl) (rw e refl)
    by (inst.Load into ty pointer align) e none = go none (rw e refl) (rw e refl)
    by (inst.Store value pointer align) e none = go none (rw e refl) (rw e refl)
    by (inst.GetElementPtr into inbounds nuw ty base indices) e none = go none (rw e refl) (rw e refl)

    choose : (list_any (carries f) (carrying_operands i) ≡ true) ⊎ (list_any (carries f) (carrying_operands i) ≡ false) → Steps f k b j tape t s i
    choose (inl some) = inl (tree_step f k b j tape t s i accepted place divided some held)
    choose (inr none) = by i refl none
