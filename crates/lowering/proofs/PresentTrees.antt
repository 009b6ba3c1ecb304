-- The tree that an operand has at the present values of the registers.
use Rattle.lowering.proofs.PresentCommon.{◌≡◌, ◌⊎◌, inl, inr, ℕ, ◌+◌, ◌<◌, ◌≤◌, Bool, true, false, if◌then◌else◌, nat_lt, List, [], ◌∷◌, ◌++◌, length, sum_by, Option, Some, refl, ap, ◌∙◌, arith, nat_tests, cases_Bool, sum_by-cons, Width, IrType, Operand, TypedOperand, Op, Predicate, Conversion, Inst, Function, one_bit, carrying_operands, insts_of, carried_from, carried_by, leaf_count, carries, is_division, counts_agree, Value, operand_value, HasFewLeaves, scratch, placed, above, maker_of, Tree, get_or_append_left}
use Rattle.ir_tree.specs.declared.tree.IrType.TheVariants as type
use Rattle.ir_tree.specs.declared.tree.Operand.TheVariants as operand
use Rattle.ir_tree.specs.declared.tree.Inst.TheVariants as inst
use Rattle.byte_block.specs.declared.value.Value.TheVariants.{Poison}
use Rattle.lowering.specs.Trees as tree

-- a name's number has its name in the table
abbrev pub IsIn : Function → Operand → Type 0
IsIn f (operand.Local name) = name < length f.names
IsIn f (operand.Number n) = Unit {0}
IsIn f operand.Null = Unit {0}
IsIn f operand.Poison = Unit {0}
IsIn f operand.Undef = Unit {0}

-- the operand is a name that carries undef, made by this instruction
pub record IsMadeBy (f : Function) (o : Operand) (name : ℕ) (i : Inst) : Type 0 where
  pub is : o ≡ operand.Local name
  pub within : name < length f.names
  pub carried : carries f (operand.Local name) ≡ true
  pub maker : maker_of f name ≡ Some i

pub record IsBinary (f : Function) (o : Operand) (op : Op) (bits : ℕ) : Type 0 where
  pub name : ℕ
  pub into : ℕ
  pub width : Width
  pub left : Operand
  pub right : Operand
  pub made : IsMadeBy f o name (inst.Binary into op width left right)
  pub wide : bits ≡ width.bits
  pub whole : is_division op ≡ false

pub record IsIcmp (f : Function) (o : Operand) (predicate : Predicate) (same_sign : Bool) (bits : ℕ) : Type 0 where
  pub name : ℕ
  pub into : ℕ
  pub width : Width
  pub left : Operand
  pub right : Operand
  pub made : IsMadeBy f o name (inst.Icmp into predicate same_sign width left right)
  pub wide : bits ≡ width.bits

pub record IsCast (f : Function) (o : Operand) (cast : Conversion) (low high : ℕ) : Type 0 where
  pub name : ℕ
  pub into : ℕ
  pub from : Width
  pub of : Operand
  pub to : Width
  pub made : IsMadeBy f o name (inst.Cast into cast from of to)
  pub wide : low ≡ from.bits
  pub wide_to : high ≡ to.bits

pub record IsSelect (f : Function) (o : Operand) (true_type false_type : IrType) : Type 0 where
  pub name : ℕ
  pub into : ℕ
  pub condition : Operand
  pub if_true : TypedOperand
  pub if_false : TypedOperand
  pub made : IsMadeBy f o name (inst.Select into condition if_true if_false)
  pub true_is : true_type ≡ if_true.of_type
  pub false_is : false_type ≡ if_false.of_type

-- the tree is what the operand holds of a type where the registers have these values: an operand that carries nothing
-- has its value, an undef is a leaf, and a name has the operation that makes it, on what the operands of that hold
abbrev pub Presents : Function → List Value → IrType → Operand → Tree → Type 0
Presents f rs ty o (tree.Known v) = (carries f o ≡ false) × IsIn f o × (v ≡ operand_value rs o)
Presents f rs ty o (tree.Undef t) = (o ≡ operand.Undef) × (t ≡ ty)
Presents f rs ty o (tree.Binary op bits l r) =
    (b : IsBinary f o op bits) × Presents f rs (type.Int b.width) b.left l × Presents f rs (type.Int b.width) b.right r
Presents f rs ty o (tree.Icmp predicate same_sign bits l r) =
    (b : IsIcmp f o predicate same_sign bits) × Presents f rs (type.Int b.width) b.left l × Presents f rs (type.Int b.width) b.right r
Presents f rs ty o (tree.Cast cast low high t) = (b : IsCast f o cast low high) × Presents f rs (type.Int b.from) b.of t
Presents f rs ty o (tree.Select c true_type t false_type e) =
    (b : IsSelect f o true_type false_type) × Presents f rs (type.Int one_bit) b.condition c
    × Presents f rs b.if_true.of_type b.if_true.operand t × Presents f rs b.if_false.of_type b.if_false.operand e

made_in : (f : Function) (o : Operand) (name : ℕ) (i : Inst) → IsMadeBy f o name i → IsIn f o
made_in f o name i made = rw made.is made.within

-- the operand is in the table
pub presents_in : (f : Function) (rs : List Value) (ty : IrType) (o : Operand) (t : Tree) → Presents f rs ty o t → IsIn f o
presents_in f rs ty o (tree.Known v) p = p.1
presents_in f rs ty o (tree.Undef t) p = rw p.0 tt
presents_in f rs ty o (tree.Binary op bits l r) p = made_in f o p.0.name (inst.Binary p.0.into op p.0.width p.0.left p.0.right) p.0.made
presents_in f rs ty o (tree.Icmp predicate same_sign bits l r) p = made_in f o p.0.name (inst.Icmp p.0.into predicate same_sign p.0.width p.0.left p.0.right) p.0.made
presents_in f rs ty o (tree.Cast cast low high t) p = made_in f o p.0.name (inst.Cast p.0.into cast p.0.from p.0.of p.0.to) p.0.made
presents_in f rs ty o (tree.Select c true_type t false_type e) p = made_in f o p.0.name (inst.Select p.0.into p.0.condition p.0.if_true p.0.if_false) p.0.made

-- ---- leaves

pub leaves_of : (f : Function) → HasFewLeaves f → (name : ℕ) (i : Inst) → maker_of f name ≡ Some i → leaf_count f (operand.Local name) ≡ sum_by (leaf_count f) (carrying_operands i)
leaves_of f few name i maker =
    let agree = counts_agree f (operand.Local name) in
    let most = few name in
    let these : sum_by (leaf_count f) (carried_by (insts_of f) name) ≡ sum_by (leaf_count f) (carrying_operands i) = ap (λ (m : Option Inst). sum_by (leaf_count f) (carried_from m)) maker in
    omega (arith, agree, most, these)

pub sum-one : {X : Type 0} (g : X → ℕ) (a : X) → sum_by g (a ∷ []) ≡ g a
sum-one g a = sum_by-cons g a [] ∙ omega arith

pub sum-two : {X : Type 0} (g : X → ℕ) (a b : X) → sum_by g (a ∷ b ∷ []) ≡ g a + g b
sum-two g a b = sum_by-cons g a (b ∷ []) ∙ ap (λ (n : ℕ). g a + n) (sum-one g b)

pub sum-three : {X : Type 0} (g : X → ℕ) (a b c : X) → sum_by g (a ∷ b ∷ c ∷ []) ≡ g a + (g b + g c)
sum-three g a b c = sum_by-cons g a (b ∷ c ∷ []) ∙ ap (λ (n : ℕ). g a + n) (sum-two g b c)

-- ---- where an operand is placed

positive : (n : ℕ) → nat_lt 0 n ≡ true → 0 < n
positive n e = grind (arith, nat_tests)

pub has_leaves : (f : Function) (o : Operand) → carries f o ≡ true → 0 < leaf_count f o
has_leaves f o e = positive (leaf_count f o) e

pub placed-carrying : (f : Function) (height : ℕ) (o : Operand) → carries f o ≡ true → placed f height o ≡ operand.Local (scratch f height)
placed-carrying f height o e = ap (λ (b : Bool). if b then operand.Local (scratch f height) else o) e

pub placed-plain : (f : Function) (height : ℕ) (o : Operand) → carries f o ≡ false → placed f height o ≡ o
placed-plain f height o e = ap (λ (b : Bool). if b then operand.Local (scratch f height) else o) e

pub above-carrying : (f : Function) (height : ℕ) (o : Operand) → carries f o ≡ true → above f height o ≡ height + 1
above-carrying f height o e = ap (λ (b : Bool). if b then height + 1 else height) e

pub above-plain : (f : Function) (height : ℕ) (o : Operand) → carries f o ≡ false → above f height o ≡ height
above-plain f height o e = ap (λ (b : Bool). if b then height + 1 else height) e

-- an operand takes at most one register for each of its leaves
pub above-most : (f : Function) (height : ℕ) (o : Operand) → above f height o ≤ height + leaf_count f o
above-most f height o = by (cases_Bool (carries f o))
  where
    by : (carries f o ≡ true) ⊎ (carries f o ≡ false) → above f height o ≤ height + leaf_count f o
    by (inl does) = let e = above-carrying f height o does in let some = has_leaves f o does in omega (arith, e, some)
    by (inr not') = let e = above-plain f height o not' in omega (arith, e)

pub above-least : (f : Function) (height : ℕ) (o : Operand) → height ≤ above f height o
above-least f height o = by (cases_Bool (carries f o))
  where
    by : (carries f o ≡ true) ⊎ (carries f o ≡ false) → height ≤ above f height o
    by (inl does) = let e = above-carrying f height o does in omega (arith, e)
    by (inr not') = let e = above-plain f height o not' in omega (arith, e)

-- ---- values with more registers

pub value-more : (f : Function) (rs more : List Value) (o : Operand) → length rs ≡ length f.names → IsIn f o → operand_value (rs ++ more) o ≡ operand_value rs o
value-more f rs more (operand.Local name) long within = get_or_append_left rs more Poison name (omega (arith, long, within))
value-more f rs more (operand.Number n) long within = refl
value-more f rs more operand.Null long within = refl
value-more f rs more operand.Poison long within = refl
value-more f rs more operand.Undef long within = refl
