-- What the registers of a run with trees hold: the tree of a name that carries undef is present, or the name is missed.
use Rattle.lowering.proofs.PresentCommon.{◌≡◌, ◌⊎◌, inl, inr, ℕ, ◌<◌, Bool, true, false, is_some, List, [], ◌∷◌, length, get_or, set, Option, Some, None, refl, sym, ap, ◌∙◌, list_any, AllByRecursion, cases_Bool, cases_eq, both_ways, length-set, get_or-set_other, IrType, Operand, Inst, Function, one_bit, carrying_operands, carries, Value, operand_value, Tree, TreeMachine}
use Rattle.std.proofs.lemmas.List.{set-get_or}
use Rattle.lowering.specs.Trees.{register_tree, holds_undef, tree_or, operand_tree, tree_of, with_tree}
use Rattle.lowering.proofs.Enough.{carries_undef, carries_number, carries_null, carries_poison}
use Rattle.lowering.proofs.PresentTrees.{IsMadeBy, Presents}
use Rattle.lowering.proofs.PathSites.{IsUsable}
use Rattle.lowering.proofs.PathsClosed.{OnName, IsClosed}
use Rattle.ir_tree.specs.declared.tree.IrType.TheVariants as type
use Rattle.ir_tree.specs.declared.tree.Operand.TheVariants as operand
use Rattle.ir_tree.specs.declared.tree.Inst.TheVariants as inst
use Rattle.byte_block.specs.declared.value.Value.TheVariants.{Poison}
use Rattle.lowering.specs.Trees as tree

-- ---- a tree and an assignment

-- the value of another register stays
value-set : (rs : List Value) (x : ℕ) (v : Value) (o : Operand) → (o ≡ operand.Local x → ⊥) → operand_value (set rs x v) o ≡ operand_value rs o
value-set rs x v (operand.Local name) other = get_or-set_other rs x name v Poison (λ e. other (ap operand.Local e))
value-set rs x v (operand.Number n) other = refl
value-set rs x v operand.Null other = refl
value-set rs x v operand.Poison other = refl
value-set rs x v operand.Undef other = refl

is_name : (o : Operand) (x : ℕ) → (o ≡ operand.Local x) ⊎ (o ≡ operand.Local x → ⊥)
is_name (operand.Local name) x = by (cases_eq name x)
  where
    by : (name ≡ x) ⊎ (name ≡ x → ⊥) → (operand.Local name ≡ operand.Local x) ⊎ (operand.Local name ≡ operand.Local x → ⊥)
    by (inl same) = inl (ap operand.Local same)
    by (inr other) = inr (λ e. other (let is : name ≡ x = cc in is))
is_name (operand.Number n) x = inr (λ e. cc)
is_name operand.Null x = inr (λ e. cc)
is_name operand.Poison x = inr (λ e. cc)
is_name operand.Undef x = inr (λ e. cc)

-- After an assignment to a missed name a tree is still present, or its name is missed too.
abbrev Stays : Function → (ℕ → Type 0) → List Value → IrType → Operand → Tree → Type 0
Stays f P rs ty o t = Presents f rs ty o t ⊎ OnName P o

on_maker : (f : Function) (P : ℕ → Type 0) (o : Operand) (name : ℕ) (i : Inst) → IsClosed f P → IsMadeBy f o name i → AllByRecursion (λ (p : Operand). OnName P p → OnName P o) (carrying_operands i)
on_maker f P o name i closed made = rw made.is (closed name i made.maker)

pub stale : (f : Function) (P : ℕ → Type 0) → IsClosed f P → (x : ℕ) → P x → (rs : List Value) (v : Value) (t : Tree) (ty : IrType) (o : Operand) → Presents f rs ty o t → Stays f P (set rs x v) ty o t
stale f P closed x missed rs v (tree.Known w) ty o p = by (is_name o x)
  where
    by : (o ≡ operand.Local x) ⊎ (o ≡ operand.Local x → ⊥) → Stays f P (set rs x v) ty o (tree.Known w)
    by (inl same) = inr (rw same missed)
    by (inr other) = inl (p.0, p.1, p.2 ∙ sym (value-set rs x v o other))
stale f P closed x missed rs v (tree.Undef t) ty o p = inl p
stale f P closed x missed rs v (tree.Binary op bits l r) ty o p =
    by (stale f P closed x missed rs v l (type.Int p.0.width) p.0.left p.1) (stale f P closed x missed rs v r (type.Int p.0.width) p.0.right p.2)
  where
    up : AllByRecursion (λ (q : Operand). OnName P q → OnName P o) (p.0.left ∷ p.0.right ∷ [])
    up = on_maker f P o p.0.name (inst.Binary p.0.into op p.0.width p.0.left p.0.right) closed p.0.made

    by : Stays f P (set rs x v) (type.Int p.0.width) p.0.left l → Stays f P (set rs x v) (type.Int p.0.width) p.0.right r → Stays f P (set rs x v) ty o (tree.Binary op bits l r)
    by (inr a) _ = inr (up.0 a)
    by (inl a) (inr b) = inr (up.1.0 b)
    by (inl a) (inl b) = inl (p.0, a, b)
stale f P closed x missed rs v (tree.Icmp predicate same_sign bits l r) ty o p =
    by (stale f P closed x missed rs v l (type.Int p.0.width) p.0.left p.1) (stale f P closed x missed rs v r (type.Int p.0.width) p.0.right p.2)
  where
    up : AllByRecursion (λ (q : Operand). OnName P q → OnName P o) (p.0.left ∷ p.0.right ∷ [])
    up = on_maker f P o p.0.name (inst.Icmp p.0.into predicate same_sign p.0.width p.0.left p.0.right) closed p.0.made

    by : Stays f P (set rs x v) (type.Int p.0.width) p.0.left l → Stays f P (set rs x v) (type.Int p.0.width) p.0.right r → Stays f P (set rs x v) ty o (tree.Icmp predicate same_sign bits l r)
    by (inr a) _ = inr (up.0 a)
    by (inl a) (inr b) = inr (up.1.0 b)
    by (inl a) (inl b) = inl (p.0, a, b)
stale f P closed x missed rs v (tree.Cast cast low high t) ty o p = by (stale f P closed x missed rs v t (type.Int p.0.from) p.0.of p.1)
  where
    up : AllByRecursion (λ (q : Operand). OnName P q → OnName P o) (p.0.of ∷ [])
    up = on_maker f P o p.0.name (inst.Cast p.0.into cast p.0.from p.0.of p.0.to) closed p.0.made

    by : Stays f P (set rs x v) (type.Int p.0.from) p.0.of t → Stays f P (set rs x v) ty o (tree.Cast cast low high t)
    by (inr a) = inr (up.0 a)
    by (inl a) = inl (p.0, a)
stale f P closed x missed rs v (tree.Select c true_type t false_type e) ty o p =
    by (stale f P closed x missed rs v c (type.Int one_bit) p.0.condition p.1) (stale f P closed x missed rs v t p.0.if_true.of_type p.0.if_true.operand p.2) (stale f P closed x missed rs v e p.0.if_false.of_type p.0.if_false.operand p.3)
  where
    up : AllByRecursion (λ (q : Operand). OnName P q → OnName P o) (p.0.condition ∷ p.0.if_true.operand ∷ p.0.if_false.operand ∷ [])
    up = on_maker f P o p.0.name (inst.Select p.0.into p.0.condition p.0.if_true p.0.if_false) closed p.0.made

    by : Stays f P (set rs x v) (type.Int one_bit) p.0.condition c → Stays f P (set rs x v) p.0.if_true.of_type p.0.if_true.operand t → Stays f P (set rs x v) p.0.if_false.of_type p.0.if_false.operand e
        → Stays f P (set rs x v) ty o (tree.Select c true_type t false_type e)
    by (inr a) _ _ = inr (up.0 a)
    by (inl a) (inr b) _ = inr (up.1.0 b)
    by (inl a) (inl b) (inr d) = inr (up.1.1.0 d)
    by (inl a) (inl b) (inl d) = inl (p.0, a, b, d)

-- ---- the state of a run

-- a name holds a tree that is present
abbrev pub IsHeld : Function → List Value → List (Option Tree) → ℕ → Type 0
IsHeld f rs trees name = (t : Tree) × (get_or trees name None ≡ Some t) × Presents f rs type.Ptr (operand.Local name) t

-- each name that carries undef holds a tree that is present, or is missed, and the others hold values
pub record Holds (f : Function) (P : ℕ → Type 0) (rs : List Value) (trees : List (Option Tree)) : Type 0 where
  pub wide : length rs ≡ length f.names
  pub many : length trees ≡ length f.names
  pub plain : (name : ℕ) → carries f (operand.Local name) ≡ false → get_or trees name None ≡ None
  pub carried : (name : ℕ) → name < length f.names → carries f (operand.Local name) ≡ true → P name ⊎ IsHeld f rs trees name

pub weaken : (f : Function) (P Q : ℕ → Type 0) (rs : List Value) (trees : List (Option Tree)) → ((name : ℕ) → carries f (operand.Local name) ≡ true → P name → Q name) → Holds f P rs trees → Holds f Q rs trees
weaken f P Q rs trees more held = record { wide = held.wide; many = held.many; plain = held.plain; carried = λ name within does. by name does (held.carried name within does) }
  where
    by : (name : ℕ) → carries f (operand.Local name) ≡ true → P name ⊎ IsHeld f rs trees name → Q name ⊎ IsHeld f rs trees name
    by name does (inl missed) = inl (more name does missed)
    by name does (inr there) = inr there

apart : (f : Function) (a b : ℕ) → carries f (operand.Local a) ≡ true → carries f (operand.Local b) ≡ false → a ≡ b → ⊥
apart f a b does not' same = both_ways _ (ap (λ (n : ℕ). carries f (operand.Local n)) same ∙ not') does

set-none : (trees : List (Option Tree)) (x : ℕ) → get_or trees x None ≡ None → set trees x None ≡ trees
set-none trees x e = ap (λ (t : Option Tree). set trees x t) (sym e) ∙ set-get_or trees x None

-- a missed name that carries nothing gets a value
pub assign : (f : Function) (P : ℕ → Type 0) (rs : List Value) (trees : List (Option Tree)) (x : ℕ) (v : Value) → IsClosed f P → P x → carries f (operand.Local x) ≡ false
    → Holds f P rs trees → Holds f P (set rs x v) (set trees x None)
assign f P rs trees x v closed missed not' held = record {
  wide = length-set rs x v ∙ held.wide;
  many = length-set trees x None ∙ held.many;
  plain = λ name nothing. plain name nothing (cases_eq name x);
  carried = λ name within does. by name does (held.carried name within does);
}
  where
    plain : (name : ℕ) → carries f (operand.Local name) ≡ false → (name ≡ x) ⊎ (name ≡ x → ⊥) → get_or (set trees x None) name None ≡ None
    plain name nothing (inr other) = get_or-set_other trees x name None None other ∙ held.plain name nothing
    plain name nothing (inl same) = ap (λ (ts : List (Option Tree)). get_or ts name None) (set-none trees x (held.plain x not')) ∙ held.plain name nothing

    here : (name : ℕ) (t : Tree) → carries f (operand.Local name) ≡ true → get_or trees name None ≡ Some t → Stays f P (set rs x v) type.Ptr (operand.Local name) t → P name ⊎ IsHeld f (set rs x v) (set trees x None) name
    here name t does e (inl present) = inr (t, get_or-set_other trees x name None None (apart f name x does not') ∙ e, present)
    here name t does e (inr stale') = inl stale'

    by : (name : ℕ) → carries f (operand.Local name) ≡ true → P name ⊎ IsHeld f rs trees name → P name ⊎ IsHeld f (set rs x v) (set trees x None) name
    by name does (inl gone) = inl gone
    by name does (inr w) = here name w.0 does w.1 (stale f P closed x missed rs v w.0 type.Ptr (operand.Local name) w.2)

-- ---- operands

-- what is present of a name is present at each type
pub any_type : (f : Function) (rs : List Value) (ty ty' : IrType) (name : ℕ) (t : Tree) → Presents f rs ty (operand.Local name) t → Presents f rs ty' (operand.Local name) t
any_type f rs ty ty' name (tree.Known v) p = p
any_type f rs ty ty' name (tree.Undef t) p = absurd (let never : operand.Local name ≡ operand.Undef = p.0 in cc)
any_type f rs ty ty' name (tree.Binary op bits l r) p = p
any_type f rs ty ty' name (tree.Icmp predicate same_sign bits l r) p = p
any_type f rs ty ty' name (tree.Cast cast low high t) p = p
any_type f rs ty ty' name (tree.Select c true_type t false_type e) p = p

-- a usable name holds what it presents
pub name_held : (f : Function) (P : ℕ → Type 0) (refuses : Bool) (t : TreeMachine) (name : ℕ) → Holds f P t.machine.registers t.trees → IsUsable f P refuses (operand.Local name) → carries f (operand.Local name) ≡ true
    → IsHeld f t.machine.registers t.trees name
name_held f P refuses t name held usable does = by (held.carried name usable.0 does)
  where
    by : P name ⊎ IsHeld f t.machine.registers t.trees name → IsHeld f t.machine.registers t.trees name
    by (inl missed) = absurd (usable.1 missed)
    by (inr there) = there

-- a usable operand holds what it presents
pub operand_presents : (f : Function) (P : ℕ → Type 0) (refuses : Bool) (t : TreeMachine) (ty : IrType) (o : Operand) → Holds f P t.machine.registers t.trees → IsUsable f P refuses o → Presents f t.machine.registers ty o (operand_tree t ty o)
operand_presents f P refuses t ty operand.Undef held usable = (refl, refl)
operand_presents f P refuses t ty (operand.Number n) held usable = (carries_number f n, tt, refl)
operand_presents f P refuses t ty operand.Null held usable = (carries_null f, tt, refl)
operand_presents f P refuses t ty operand.Poison held usable = (carries_poison f, tt, refl)
operand_presents f P refuses t ty (operand.Local name) held usable = by (cases_Bool (carries f (operand.Local name)))
  where
    by : (carries f (operand.Local name) ≡ true) ⊎ (carries f (operand.Local name) ≡ false) → Presents f t.machine.registers ty (operand.Local name) (operand_tree t ty (operand.Local name))
    by (inl does) = let w = name_held f P refuses t name held usable does in rw (w.1) (any_type f t.machine.registers type.Ptr ty name w.0 w.2)
    by (inr not') = rw (held.plain name not') (not', usable.0, refl)

-- an operand holds undef where it carries it
pub holds_carried : (f : Function) (P : ℕ → Type 0) (refuses : Bool) (t : TreeMachine) (o : Operand) → Holds f P t.machine.registers t.trees → IsUsable f P refuses o → holds_undef t o ≡ carries f o
holds_carried f P refuses t operand.Undef held usable = sym (carries_undef f)
holds_carried f P refuses t (operand.Number n) held usable = sym (carries_number f n)
holds_carried f P refuses t operand.Null held usable = sym (carries_null f)
holds_carried f P refuses t operand.Poison held usable = sym (carries_poison f)
holds_carried f P refuses t (operand.Local name) held usable = by (cases_Bool (carries f (operand.Local name)))
  where
    by : (carries f (operand.Local name) ≡ true) ⊎ (carries f (operand.Local name) ≡ false) → holds_undef t (operand.Local name) ≡ carries f (operand.Local name)
    by (inl does) = let w = name_held f P refuses t name held usable does in ap is_some w.1 ∙ sym does
    by (inr not') = ap is_some (held.plain name not') ∙ sym not'

pub any_carried : (f : Function) (P : ℕ → Type 0) (refuses : Bool) (t : TreeMachine) (os : List Operand) → Holds f P t.machine.registers t.trees → AllByRecursion (IsUsable f P refuses) os → list_any (holds_undef t) os ≡ list_any (carries f) os
any_carried f P refuses t [] held usable = refl
any_carried f P refuses t (o ∷ os) held usable = rw (holds_carried f P refuses t o held usable.0, any_carried f P refuses t os held usable.1) refl
