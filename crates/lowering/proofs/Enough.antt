-- The steps in which operands are computed suffice: where each name has few leaves, what computes an operand is the
-- same in more steps, and what computes a name is computed from the operands of its maker.
--
-- What users need:
--   by_trees        induction along the operands that names carry
--   computed_none   an operand that carries nothing needs no instruction
--   computed_undef  an undef is one freeze
--   computed_local  a name that carries undef is computed from its maker
use Rattle.std.proofs.Common.{◌≡◌, ◌+◌, ◌*◌, ◌<◌, ◌≤◌, ℕ, zero, suc, min, Bool, true, false, List, [], ◌∷◌, length, Option, Some, None, nat_lt, inl, inr, ◌⊎◌, refl, sym, ◌∙◌, ap, arith, sum_by}
use Rattle.std.specs.Prelude.{if◌then◌else◌}
use Rattle.std.specs.List.{AllByRecursion}
use Rattle.std.proofs.lemmas.Bool.{cases_Bool}
use Rattle.std.proofs.lemmas.List.Sums.{sum_by-cons}
use Rattle.ir_tree.specs.declared.tree.IrType.{IrType}
use Rattle.ir_tree.specs.declared.tree.Operand.{Operand}
use Rattle.ir_tree.specs.declared.tree.Operand.TheVariants.{Local, Number, Null, Poison, Undef}
use Rattle.ir_tree.specs.declared.tree.Inst.{Inst}
use Rattle.ir_tree.specs.declared.tree.Inst.TheVariants.{Binary, Icmp, Cast, Select, Freeze, Alloca, Load, Store, GetElementPtr}
use Rattle.ir_tree.specs.declared.tree.Function.{Function}
use Rattle.ir_tree.specs.Carrying.{carrying_operands, insts_of, carries, carried_by, carried_from, leaves_within, leaf_count}
use Rattle.ir_tree.proofs.Leaves.{counts_agree, sum-le, within-least}
use Rattle.lowering.specs.Lowered.{Writing, HasFewLeaves, scratch, computed, computed_by, computed_from, maker_of, written}

-- ---- lists

pub all-map : {X : Type 0} (P Q : X → Type 0) → ((x : X) → P x → Q x) → (xs : List X) → AllByRecursion P xs → AllByRecursion Q xs
all-map P Q each [] all = tt
all-map P Q each (x ∷ xs) all = (each x all.0, all-map P Q each xs all.1)

-- where one function is nowhere larger than another and the sums are the same, so are the functions on the list
sum_splits : {X : Type 0} (f g : X → ℕ) → ((x : X) → f x ≤ g x) → (xs : List X) → sum_by f xs ≡ sum_by g xs → AllByRecursion (λ x. f x ≡ g x) xs
sum_splits f g le [] same = tt
sum_splits f g le (x ∷ xs) same =
    let all : f x + sum_by f xs ≡ g x + sum_by g xs = sym (sum_by-cons f x xs) ∙ (same ∙ sum_by-cons g x xs) in
    let here = le x in
    let rest = sum-le f g le xs in
    (omega (arith, all, here, rest), sum_splits f g le xs (omega (arith, all, here, rest)))

-- ---- steps that count all leaves

-- in this number of steps all leaves of the operand are counted
abbrev pub IsCounted : Function → ℕ → Operand → Type 0
IsCounted f n o = leaves_within n (insts_of f) o ≡ leaf_count f o

no-more : (f : Function) (n : ℕ) (o : Operand) → leaves_within n (insts_of f) o ≤ leaf_count f o
no-more f n o = within-least (insts_of f) (leaf_count f) (λ p. let same = counts_agree f p in omega (arith, same)) n o

-- where all leaves of a name are counted, in a step less all those of what it carries are
pub operands_counted : (f : Function) → HasFewLeaves f → (n name : ℕ) → IsCounted f (suc n) (Local name) → AllByRecursion (IsCounted f n) (carried_by (insts_of f) name)
unfolding leaves_within
operands_counted f few n name counted =
    let same : min 65 (sum_by (leaves_within n (insts_of f)) (carried_by (insts_of f) name)) ≡ leaf_count f (Local name) = counted in
    let agree : leaf_count f (Local name) ≡ min 65 (sum_by (leaf_count f) (carried_by (insts_of f) name)) = counts_agree f (Local name) in
    let most = few name in
    sum_splits (leaves_within n (insts_of f)) (leaf_count f) (no-more f n) (carried_by (insts_of f) name) (omega (arith, same, agree, most))

-- in no step nothing is counted
pub carries-not : (f : Function) (o : Operand) → IsCounted f zero o → carries f o ≡ false
unfolding leaves_within
carries-not f o counted = let none : 0 ≡ leaf_count f o = counted in ap (nat_lt 0) (sym none)

-- an undef carries itself
pub carries_undef : (f : Function) → carries f Undef ≡ true
carries_undef f = let one : leaf_count f Undef ≡ 1 = counts_agree f Undef in ap (nat_lt 0) one

-- the other operands carry nothing
pub carries_number : (f : Function) (n : ℕ) → carries f (Number n) ≡ false
carries_number f n = let none : leaf_count f (Number n) ≡ 0 = counts_agree f (Number n) in ap (nat_lt 0) none

pub carries_null : (f : Function) → carries f Null ≡ false
carries_null f = let none : leaf_count f Null ≡ 0 = counts_agree f Null in ap (nat_lt 0) none

pub carries_poison : (f : Function) → carries f Poison ≡ false
carries_poison f = let none : leaf_count f Poison ≡ 0 = counts_agree f Poison in ap (nat_lt 0) none

-- ---- induction along what names carry

-- what holds of operands that carry nothing, of undef, and of each name that carries undef where it holds of
-- what that name carries
pub record IsAlongTrees (f : Function) (P : Operand → Type 0) : Type 0 where
  pub plain : (o : Operand) → carries f o ≡ false → P o
  pub undef : P Undef
  pub local : (name : ℕ) → carries f (Local name) ≡ true → AllByRecursion P (carried_by (insts_of f) name) → P (Local name)

by_steps : (f : Function) → HasFewLeaves f → (P : Operand → Type 0) → IsAlongTrees f P → (n : ℕ) (o : Operand) → IsCounted f n o → P o
by_steps f few P along zero o counted = along.plain o (carries-not f o counted)
by_steps f few P along (suc n) Undef counted = along.undef
by_steps f few P along (suc n) (Number k) counted = along.plain (Number k) (carries_number f k)
by_steps f few P along (suc n) Null counted = along.plain Null (carries_null f)
by_steps f few P along (suc n) Poison counted = along.plain Poison (carries_poison f)
by_steps f few P along (suc n) (Local name) counted =
    by (by_steps f few P along n) (cases_Bool (carries f (Local name)))
  where
    by : ((o : Operand) → IsCounted f n o → P o) → (carries f (Local name) ≡ true) ⊎ (carries f (Local name) ≡ false) → P (Local name)
    by each (inl does) = along.local name does (all-map (IsCounted f n) P each (carried_by (insts_of f) name) (operands_counted f few n name counted))
    by each (inr not') = along.plain (Local name) not'

counted-all : (f : Function) (o : Operand) → IsCounted f (66 * (length (insts_of f) + 1)) o
unfolding leaf_count
counted-all f o = refl

-- induction along the operands that names carry
pub by_trees : (f : Function) → HasFewLeaves f → (P : Operand → Type 0) → IsAlongTrees f P → (o : Operand) → P o
by_trees f few P along o = by_steps f few P along (66 * (length (insts_of f) + 1)) o (counted-all f o)

-- ---- what computes an operand

-- two writings agree on an operand
abbrev pub AgreeOn : Writing → Writing → Operand → Type 0
AgreeOn write other o = (height : ℕ) (type : IrType) → write height type o ≡ other height type o

-- what an instruction is computed by is given by how its operands are
pub computed_by-same : (f : Function) (write other : Writing) (height : ℕ) (i : Inst) → AllByRecursion (AgreeOn write other) (carrying_operands i) → computed_by f write height i ≡ computed_by f other height i
computed_by-same f write other height (Binary into op width left right) all = rw (all.0, all.1.0) refl
computed_by-same f write other height (Icmp into predicate same_sign width left right) all = rw (all.0, all.1.0) refl
computed_by-same f write other height (Cast into cast from o to) all = rw (all.0) refl
computed_by-same f write other height (Select into condition if_true if_false) all = rw (all.0, all.1.0, all.1.1.0) refl
computed_by-same f write other height (Freeze into type o) all = refl
computed_by-same f write other height (Alloca into number type align) all = refl
computed_by-same f write other height (Load into type pointer align) all = refl
computed_by-same f write other height (Store value pointer align) all = refl
computed_by-same f write other height (GetElementPtr into inbounds nuw type base indices) all = refl

computed_from-same : (f : Function) (write other : Writing) (height : ℕ) (maker : Option Inst) → AllByRecursion (AgreeOn write other) (carried_from maker) → computed_from f write height maker ≡ computed_from f other height maker
computed_from-same f write other height None all = refl
computed_from-same f write other height (Some i) all = computed_by-same f write other height i all

written-none : (f : Function) (n height : ℕ) (type : IrType) (o : Operand) → carries f o ≡ false → written n f height type o ≡ []
unfolding written
written-none f zero height type o not' = refl
written-none f (suc n) height type Undef not' = let never : true ≡ false = sym (carries_undef f) ∙ not' in cc
written-none f (suc n) height type (Local name) not' = ap (λ (b : Bool). if b then computed_from f (written n f) height (maker_of f name) else []) not'
written-none f (suc n) height type (Number k) not' = refl
written-none f (suc n) height type Null not' = refl
written-none f (suc n) height type Poison not' = refl

written-local : (f : Function) (n height : ℕ) (type : IrType) (name : ℕ) → carries f (Local name) ≡ true → written (suc n) f height type (Local name) ≡ computed_from f (written n f) height (maker_of f name)
unfolding written
written-local f n height type name does = ap (λ (b : Bool). if b then computed_from f (written n f) height (maker_of f name) else []) does

-- in more steps than count all leaves nothing more is computed
pub written_more : (f : Function) → HasFewLeaves f → (n m : ℕ) → n ≤ m → (o : Operand) → IsCounted f n o → AgreeOn (written m f) (written n f) o
unfolding written
written_more f few zero m le o counted = λ height type. written-none f m height type o (carries-not f o counted) ∙ sym (written-none f zero height type o (carries-not f o counted))
written_more f few (suc n) zero le o counted = absurd (omega (arith, le))
written_more f few (suc n) (suc m) le Undef counted = λ height type. refl
written_more f few (suc n) (suc m) le (Number k) counted = λ height type. refl
written_more f few (suc n) (suc m) le Null counted = λ height type. refl
written_more f few (suc n) (suc m) le Poison counted = λ height type. refl
written_more f few (suc n) (suc m) le (Local name) counted = by (written_more f few n m (omega (arith, le))) (cases_Bool (carries f (Local name)))
  where
    by : ((o : Operand) → IsCounted f n o → AgreeOn (written m f) (written n f) o) → (carries f (Local name) ≡ true) ⊎ (carries f (Local name) ≡ false) → AgreeOn (written (suc m) f) (written (suc n) f) (Local name)
    by each (inl does) = λ height type.
        let all = all-map (IsCounted f n) (AgreeOn (written m f) (written n f)) each (carried_by (insts_of f) name) (operands_counted f few n name counted) in
        written-local f m height type name does
        ∙ (computed_from-same f (written m f) (written n f) height (maker_of f name) all
        ∙ sym (written-local f n height type name does))
    by each (inr not') = λ height type. written-none f (suc m) height type (Local name) not' ∙ sym (written-none f (suc n) height type (Local name) not')

-- an operand that carries nothing needs no instruction
pub computed_none : (f : Function) (height : ℕ) (type : IrType) (o : Operand) → carries f o ≡ false → computed f height type o ≡ []
computed_none f height type o not' = written-none f (66 * (length (insts_of f) + 1)) height type o not'

undef-in : (f : Function) (n height : ℕ) (type : IrType) → 0 < n → written n f height type Undef ≡ Freeze (scratch f height) type Undef ∷ []
unfolding written
undef-in f zero height type some = absurd (omega (arith, some))
undef-in f (suc n) height type some = refl

-- an undef is one freeze
pub computed_undef : (f : Function) (height : ℕ) (type : IrType) → computed f height type Undef ≡ Freeze (scratch f height) type Undef ∷ []
computed_undef f height type = undef-in f (66 * (length (insts_of f) + 1)) height type (omega arith)

local-in : (f : Function) → HasFewLeaves f → (n height : ℕ) (type : IrType) (name : ℕ) → 0 < n → IsCounted f n (Local name) → carries f (Local name) ≡ true → written n f height type (Local name) ≡ computed_from f (written n f) height (maker_of f name)
local-in f few zero height type name some counted does = absurd (omega (arith, some))
local-in f few (suc n) height type name some counted does =
    let all = all-map (IsCounted f n) (AgreeOn (written n f) (written (suc n) f)) (λ o c height type. sym (written_more f few n (suc n) (omega arith) o c height type)) (carried_by (insts_of f) name) (operands_counted f few n name counted) in
    written-local f n height type name does ∙ computed_from-same f (written n f) (written (suc n) f) height (maker_of f name) all

-- a name that carries undef is computed from its maker
pub computed_local : (f : Function) → HasFewLeaves f → (height : ℕ) (type : IrType) (name : ℕ) → carries f (Local name) ≡ true → computed f height type (Local name) ≡ computed_from f (computed f) height (maker_of f name)
computed_local f few height type name does = local-in f few (66 * (length (insts_of f) + 1)) height type name (omega arith) (counted-all f (Local name)) does
