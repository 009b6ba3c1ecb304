-- Sizes of functions that may be run or are within the limits.
use Rattle.std.proofs.Common.{◌≡◌, ℕ, suc, ◌%◌, ◌/◌, All, ◌+◌, ◌*◌, ◌^◌, ◌<◌, ◌≤◌, max, List, [], ◌∷◌, length, drop, get_or, sum_by, refl, ap, ◌∙◌, arith, length-append}
use Rattle.std.specs.List.{flat_map}
use Rattle.std.proofs.lemmas.List.{drop_more}
use Rattle.std.proofs.lemmas.List.Sums.{sum_by-cons}
use Rattle.std.proofs.lemmas.List.Concat.{length-flat_map}
use Rattle.std.proofs.Math.Seq.{drop-length}
use Rattle.std.proofs.Math.Nat.{mul-le-mul_right, mod-eq_of_lt}
use Rattle.tv_num.specs.declared.Width.{Width}
use Rattle.ir_tree.specs.declared.tree.IrType.{IrType}
use Rattle.ir_tree.specs.declared.tree.IrType.TheVariants as type
use Rattle.ir_tree.specs.declared.tree.Op.{Op}
use Rattle.ir_tree.specs.declared.tree.Op.TheVariants.{Add, Sub, Mul, UnsignedDiv, UnsignedRem, SignedDiv, SignedRem, ShiftLeft, LogicalShiftRight, ArithmeticShiftRight, And, Or, Xor}
use Rattle.ir_tree.specs.declared.tree.Inst.{Inst}
use Rattle.ir_tree.specs.declared.tree.Inst.TheVariants.{Binary, Icmp, Cast, Select, Freeze, Alloca, Load, Store, GetElementPtr}
use Rattle.ir_tree.specs.declared.tree.Terminator.{Terminator}
use Rattle.ir_tree.specs.declared.tree.Terminator.TheVariants as terminator
use Rattle.ir_tree.specs.declared.tree.Block.{Block}
use Rattle.ir_tree.specs.declared.tree.Function.{Function}
use Rattle.std.specs.List.{AllByRecursion}
use Rattle.std.proofs.lemmas.List.Elements.{recursion_from_All}
use Rattle.ir_tree.specs.declared.tree.Phi.{Phi}
use Rattle.ir_tree.specs.declared.tree.MemoryType.{MemoryType}
use Rattle.ir_tree.specs.Types.{store_size, object_size}
use Rattle.ir_tree.specs.Limits.{IsWithinLimits, instructions_of, cases_in, HasSmallTypes, HasSmallObjects}
use Rattle.points.specs.declared.point.Bounds.{Bounds}
use Rattle.points.specs.Runnable.{IsRunnable}
use Rattle.points.specs.Tapes.{inst_widths, end_widths, block_widths, choice_widths, widest}
use Rattle.verdicts.specs.Weight.{type_width, op_cost, made_bytes, made_in, inst_cost, phi_cost, end_cost}
use Rattle.points.proofs.Plain.{widest-append}
use Rattle.pair_costs.specs.Small.{AreSmall}

-- ---- sums of parts that are bounded

-- each item with a property
pub sum_within_of : {A : Type 0} (P : A → Type 0) (f : A → ℕ) (xs : List A) (most : ℕ) → AllByRecursion P xs → ((x : A) → P x → f x ≤ most) → sum_by f xs ≤ most * length xs
sum_within_of P f [] most all h = omega arith
sum_within_of P f (x ∷ xs) most all h =
    let rest = sum_within_of P f xs most all.1 h in
    let first = h x all.0 in
    let times : most * suc (length xs) ≡ most + most * length xs = omega arith in
    rw (sum_by-cons f x xs, times) (omega (arith, rest, first))

pub sum_times_of : {A : Type 0} (P : A → Type 0) (f g : A → ℕ) (k : ℕ) (xs : List A) → AllByRecursion P xs → ((x : A) → P x → f x ≤ k * g x) → sum_by f xs ≤ k * sum_by g xs
sum_times_of P f g k [] all h = omega arith
sum_times_of P f g k (x ∷ xs) all h =
    let rest = sum_times_of P f g k xs all.1 h in
    let first = h x all.0 in
    let split : k * (g x + sum_by g xs) ≡ k * g x + k * sum_by g xs = omega arith in
    rw (sum_by-cons f x xs, sum_by-cons g x xs, split) (omega (arith, rest, first))

-- what comes at an index of the list, in a loop over it
pub sum_at : {A : Type 0} (f : A → ℕ) (xs : List A) (i : ℕ) (x : A) → i < length xs → x ≡ get_or xs i x → sum_by f (drop i xs) ≡ f x + sum_by f (drop (i + 1) xs)
sum_at f xs i x below is = rw (drop_more xs i x below, ← is) (sum_by-cons f x (drop (i + 1) xs))

pub sum_end : {A : Type 0} (f : A → ℕ) (xs : List A) (i : ℕ) → i ≡ length xs → sum_by f (drop i xs) ≡ 0
sum_end f xs i e = rw (e, drop-length xs) refl

-- ---- one instruction

square : (w : Width) → w.bits * w.bits ≤ 4096
square w = let most = w.at_most_64 in let m : w.bits * w.bits ≤ 64 * w.bits = mul-le-mul_right w.bits most in omega (arith, m, most)

pub plain_cost : (w : Width) → w.bits ≤ 4096
plain_cost w = let most = w.at_most_64 in omega (arith, most)

pub small_op : (op : Op) (w : Width) → op_cost op w.bits ≤ 4096
small_op (Add flags) w = plain_cost w
small_op (Sub flags) w = plain_cost w
small_op (Mul flags) w = square w
small_op (UnsignedDiv exact) w = square w
small_op UnsignedRem w = square w
small_op (SignedDiv exact) w = square w
small_op SignedRem w = square w
small_op (ShiftLeft flags) w = plain_cost w
small_op (LogicalShiftRight exact) w = plain_cost w
small_op (ArithmeticShiftRight exact) w = plain_cost w
small_op And w = plain_cost w
small_op (Or disjoint) w = plain_cost w
small_op Xor w = plain_cost w

pub small_width : (t : IrType) → type_width t ≤ 4096
small_width (type.Int width) = plain_cost width
small_width type.Ptr = omega arith

small_type : (t : IrType) → store_size t ≤ 8
small_type (type.Int width) = let most = width.at_most_64 in let eighth : (width.bits + 7) / 8 ≤ 8 = omega (arith, most) in eighth
small_type type.Ptr = omega arith

-- an access that looks at each byte for each of its own
pub small_access : (t : IrType) (memory : ℕ) → memory ≤ 272629888 → store_size t * memory ≤ 2181039104
small_access t memory few = let m : store_size t * memory ≤ 8 * memory = mul-le-mul_right memory (small_type t) in omega (arith, m, few)

-- of what is small nothing is cut
pub small_object : (type : MemoryType) → object_size type ≤ 64 → object_size type % 2 ^ 64 ≡ object_size type
small_object type small = mod-eq_of_lt (omega (arith, small))

pub small_cost : (memory : ℕ) (inst : Inst) → memory ≤ 272629888 → HasSmallTypes inst → inst_cost memory inst ≤ 2181039168
small_cost memory (Binary into op width left right) few small = let most = small_op op width in omega (arith, most)
small_cost memory (Icmp into predicate same_sign width left right) few small = let most = plain_cost width in omega (arith, most)
small_cost memory (Cast into cast from operand to) few small = let most = plain_cost to in omega (arith, most)
small_cost memory (Select into condition if_true if_false) few small = let most = small_width if_true.of_type in omega (arith, most)
small_cost memory (Freeze into type operand) few small = let most = small_width type in omega (arith, most)
small_cost memory (Alloca into number type align) few small = let most = small.1 in omega (arith, most)
small_cost memory (Load into type pointer align) few small = let most = small_access type memory few in omega (arith, most)
small_cost memory (Store v pointer align) few small = let most = small_access v.of_type memory few in omega (arith, most)
small_cost memory (GetElementPtr into inbounds nuw type base indices) few small = let most = small.1 in omega (arith, most)

pub small_made_by : (inst : Inst) → HasSmallTypes inst → made_bytes inst ≤ 64
small_made_by (Binary into op width left right) small = omega arith
small_made_by (Icmp into predicate same_sign width left right) small = omega arith
small_made_by (Cast into cast from operand to) small = omega arith
small_made_by (Select into condition if_true if_false) small = omega arith
small_made_by (Freeze into type operand) small = omega arith
small_made_by (Alloca into number type align) small = small.1
small_made_by (Load into type pointer align) small = omega arith
small_made_by (Store v pointer align) small = omega arith
small_made_by (GetElementPtr into inbounds nuw type base indices) small = omega arith

pub small_switch : (cases : ℕ) (w : Width) → cases ≤ 256 → cases * w.bits ≤ 16384
small_switch cases w few = let most = w.at_most_64 in let m : cases * w.bits ≤ 256 * w.bits = mul-le-mul_right w.bits few in omega (arith, m, most)

pub small_end : (end : Terminator) → cases_in end ≤ 256 → end_cost end ≤ 16385
small_end (terminator.Return returned) few = omega arith
small_end (terminator.Branch to) few = omega arith
small_end (terminator.CondBranch condition if_true if_false) few = omega arith
small_end (terminator.Switch width operand default cases) few = let m = small_switch (length cases) width few in omega (arith, m)
small_end terminator.Unreachable few = omega arith

pub small_phi : (t : IrType) (n : ℕ) → n ≤ 16777216 → type_width t * n ≤ 1073741824
small_phi t n few = let w = narrow_type t in let m : type_width t * n ≤ 64 * n = mul-le-mul_right n w in omega (arith, m, few)
  where
    narrow_type : (t : IrType) → type_width t ≤ 64
    narrow_type (type.Int width) = let most = width.at_most_64 in omega (arith, most)
    narrow_type type.Ptr = omega arith

abbrev pub FewEntries : Phi → Type 0
FewEntries phi = length phi.entries ≤ 16777216

pub small_phis : (phis : List Phi) → AllByRecursion FewEntries phis → sum_by phi_cost phis ≤ 1073741824 * length phis
small_phis [] h = omega arith
small_phis (phi ∷ phis) h =
    let rest = small_phis phis h.1 in
    let first = small_phi phi.of_type (length phi.entries) h.0 in
    let times : 1073741824 * suc (length phis) ≡ 1073741824 + 1073741824 * length phis = omega arith in
    rw (sum_by-cons phi_cost phi phis, times) (omega (arith, rest, first))

-- ---- one block

abbrev pub words_of : Inst → ℕ
words_of inst = length (inst_widths inst)

abbrev pub size_of : Block → ℕ
size_of b = instructions_of b

abbrev pub block_words : Block → ℕ
block_words b = length (block_widths b)

pub block_words_is : (b : Block) → block_words b ≡ sum_by words_of b.insts + length (end_widths b.terminator)
block_words_is b = length-append (flat_map inst_widths b.insts) (end_widths b.terminator) ∙ ap (λ n. n + length (end_widths b.terminator)) (length-flat_map inst_widths b.insts)

pub small_made_insts : (insts : List Inst) → All HasSmallTypes insts → sum_by made_bytes insts ≤ 64 * length insts
small_made_insts insts types = sum_within_of HasSmallTypes made_bytes insts 64 (recursion_from_All HasSmallTypes insts types) small_made_by

pub small_made_in : (b : Block) → HasSmallObjects b → made_in b ≤ 64 * size_of b
small_made_in b objects = let insts = small_made_insts b.insts objects in omega (arith, insts)

-- ---- one function

pub words_in_is : (f : Function) → length (choice_widths f) ≡ sum_by block_words f.blocks
words_in_is f = length-flat_map block_widths f.blocks

pub small_made : (f : Function) → IsWithinLimits f → sum_by made_in f.blocks ≤ 4194304
small_made f limits =
    let made = sum_times_of HasSmallObjects made_in size_of 64 f.blocks (recursion_from_All HasSmallObjects f.blocks limits.objects) small_made_in in
    let most = limits.instructions in
    omega (arith, made, most)

pub small_given : (bounds : Bounds) → AreSmall bounds → bounds.blocks * bounds.bytes ≤ 128
small_given bounds small = let m : bounds.blocks * bounds.bytes ≤ 4 * bounds.bytes = mul-le-mul_right bounds.bytes small.blocks in let most = small.bytes in omega (arith, m, most)

-- ---- the widest choice, in a loop

pub widest_positive : (ws : List ℕ) → 1 ≤ widest ws
unfolding widest
widest_positive [] = omega arith
widest_positive (w ∷ ws) = let rest = widest_positive ws in omega (arith, rest)

pub widest_at : {A : Type 0} (f : A → List ℕ) (xs : List A) (i : ℕ) (x : A) → i < length xs → x ≡ get_or xs i x → widest (flat_map f (drop i xs)) ≡ max (widest (f x)) (widest (flat_map f (drop (i + 1) xs)))
widest_at f xs i x below is = rw (drop_more xs i x below, ← is) (widest-append (f x) (flat_map f (drop (i + 1) xs)))

pub widest_end : {A : Type 0} (f : A → List ℕ) (xs : List A) (i : ℕ) → i ≡ length xs → widest (flat_map f (drop i xs)) ≡ 1
unfolding widest
widest_end f xs i e = rw (e, drop-length xs) refl

pub widest_block : (b : Block) → widest (block_widths b) ≡ max (widest (flat_map inst_widths b.insts)) (widest (end_widths b.terminator))
widest_block b = widest-append (flat_map inst_widths b.insts) (end_widths b.terminator)

-- ---- room for the next part of a sum

pub sum_room : {A : Type 0} (f : A → ℕ) (xs : List A) (i : ℕ) (x : A) (total : ℕ) → i < length xs → x ≡ get_or xs i x → total + sum_by f (drop i xs) ≡ sum_by f xs → total + f x ≤ sum_by f xs
sum_room f xs i x total below is e = let here = sum_at f xs i x below is in omega (arith, here, e)

pub sum_done : {A : Type 0} (f : A → ℕ) (xs : List A) (i total : ℕ) → i ≡ length xs → total + sum_by f (drop i xs) ≡ sum_by f xs → total ≡ sum_by f xs
sum_done f xs i total end e = let none = sum_end f xs i end in omega (arith, none, e)

pub words_sum_small : (f : Function) → IsRunnable f → sum_by block_words f.blocks ≤ 4259840
words_sum_small f runnable = let few = runnable.words in let is = words_in_is f in omega (arith, few, is)
