-- A function within the limits may be run: each instruction makes a choice of two words at most.
use Rattle.points.proofs.Common.{Option, Some, None, ◌*◌, ◌≤◌, List, [], ◌∷◌, length, sum_by, arith, length-append, flat_map, sum_by-cons, IrType, Inst, Binary, Icmp, Cast, Select, Freeze, Alloca, Load, Store, GetElementPtr, Terminator, Block, Function, undef_type, word_widths, inst_widths, widths_of, end_widths, block_widths}
use Rattle.ir_tree.specs.declared.tree.IrType.TheVariants as type
use Rattle.ir_tree.specs.declared.tree.Terminator.TheVariants as terminator
use Rattle.ir_tree.specs.Limits.{IsWithinLimits, instructions_of}
use Rattle.points.specs.Runnable.{IsRunnable}

two_choice_words : (type : IrType) → length (word_widths type) ≤ 2
two_choice_words (type.Int width) = omega arith
two_choice_words type.Ptr = omega arith

two_words : (inst : Inst) → length (inst_widths inst) ≤ 2
two_words (Binary into op width left right) = omega arith
two_words (Icmp into predicate same_sign width left right) = omega arith
two_words (Cast into cast from operand to) = omega arith
two_words (Select into condition if_true if_false) = omega arith
two_words (Freeze into type operand) = two_choice_words type
two_words (Alloca into number type align) = omega arith
two_words (Load into type pointer align) = omega arith
two_words (Store v pointer align) = omega arith
two_words (GetElementPtr into inbounds nuw type base indices) = omega arith

two_of_choice : (o : Option IrType) → length (widths_of o) ≤ 2
two_of_choice None = omega arith
two_of_choice (Some type) = two_choice_words type

two_end_words : (end : Terminator) → length (end_widths end) ≤ 2
two_end_words (terminator.Return None) = omega arith
two_end_words (terminator.Return (Some r)) = two_of_choice (undef_type r.of_type r.operand)
two_end_words (terminator.Branch to) = omega arith
two_end_words (terminator.CondBranch condition if_true if_false) = omega arith
two_end_words (terminator.Switch width operand default cases) = omega arith
two_end_words terminator.Unreachable = omega arith

two_inst_words : (insts : List Inst) → length (flat_map inst_widths insts) ≤ 2 * length insts
two_inst_words [] = omega arith
two_inst_words (inst ∷ insts) =
    let first = two_words inst in
    let rest = two_inst_words insts in
    let both = length-append (inst_widths inst) (flat_map inst_widths insts) in
    omega (arith, first, rest, both)

two_block_words : (b : Block) → length (block_widths b) ≤ 2 * instructions_of b
two_block_words b =
    let insts = two_inst_words b.insts in
    let end = two_end_words b.terminator in
    let both = length-append (flat_map inst_widths b.insts) (end_widths b.terminator) in
    omega (arith, insts, end, both)

two_blocks_words : (blocks : List Block) → length (flat_map block_widths blocks) ≤ 2 * sum_by instructions_of blocks
two_blocks_words [] = omega arith
two_blocks_words (b ∷ blocks) =
    let first = two_block_words b in
    let rest = two_blocks_words blocks in
    let both = length-append (block_widths b) (flat_map block_widths blocks) in
    let sum = sum_by-cons instructions_of b blocks in
    omega (arith, first, rest, both, sum)

pub runnable : (f : Function) → IsWithinLimits f → IsRunnable f
runnable f limits = record {
  words = (let two = two_blocks_words f.blocks in let most = limits.instructions in omega (arith, two, most));
  objects = limits.objects;
}
