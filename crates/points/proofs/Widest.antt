-- No choice is wider than 64 bits.
use Rattle.points.proofs.Common.{ℕ, zero, suc, ◌^◌, ◌≤◌, List, [], ◌∷◌, Some, None, arith, flat_map, pow_mono, IrType, Inst, Binary, Icmp, Cast, Select, Freeze, Alloca, Load, Store, GetElementPtr, Terminator, Block, Function, WordsFit, undef_type, word_widths, inst_widths, widths_of, end_widths, block_widths, widest, widest_choice}
use Rattle.ir_tree.specs.declared.tree.IrType.TheVariants as type
use Rattle.ir_tree.specs.declared.tree.Operand.{Operand}
use Rattle.ir_tree.specs.declared.tree.Operand.TheVariants as operand
use Rattle.ir_tree.specs.declared.tree.Terminator.TheVariants as terminator
use Rattle.points.proofs.Plain.{widest-append}

choice_small : (type : IrType) → widest (word_widths type) ≤ 64
unfolding widest
choice_small (type.Int width) = let most = width.at_most_64 in omega (arith, most)
choice_small type.Ptr = omega arith

none_small : widest [] ≤ 64
unfolding widest
none_small = omega arith

inst_small : (inst : Inst) → widest (inst_widths inst) ≤ 64
inst_small (Binary into op width left right) = none_small
inst_small (Icmp into predicate same_sign width left right) = none_small
inst_small (Cast into cast from operand to) = none_small
inst_small (Select into condition if_true if_false) = none_small
inst_small (Freeze into type operand) = choice_small type
inst_small (Alloca into number type align) = none_small
inst_small (Load into type pointer align) = none_small
inst_small (Store v pointer align) = none_small
inst_small (GetElementPtr into inbounds nuw type base indices) = none_small

undef_small : (type : IrType) (o : Operand) → widest (widths_of (undef_type type o)) ≤ 64
undef_small type operand.Undef = choice_small type
undef_small type (operand.Local name) = none_small
undef_small type (operand.Number n) = none_small
undef_small type operand.Null = none_small
undef_small type operand.Poison = none_small

end_small : (end : Terminator) → widest (end_widths end) ≤ 64
unfolding widest
end_small (terminator.Return None) = omega arith
end_small (terminator.Return (Some r)) = undef_small r.of_type r.operand
end_small (terminator.Branch to) = omega arith
end_small (terminator.CondBranch condition if_true if_false) = omega arith
end_small (terminator.Switch width operand default cases) = omega arith
end_small terminator.Unreachable = omega arith

flat_small : {A : Type 0} (f : A → List ℕ) (xs : List A) → ((x : A) → widest (f x) ≤ 64) → widest (flat_map f xs) ≤ 64
flat_small f [] h = none_small
flat_small f (x ∷ xs) h = let rest = flat_small f xs h in let first = h x in let both = widest-append (f x) (flat_map f xs) in omega (arith, rest, first, both)

block_small : (b : Block) → widest (block_widths b) ≤ 64
block_small b = let insts = flat_small inst_widths b.insts inst_small in let end = end_small b.terminator in let both = widest-append (flat_map inst_widths b.insts) (end_widths b.terminator) in omega (arith, insts, end, both)

pub widest_small : (f : Function) → widest_choice f ≤ 64
widest_small f = flat_small block_widths f.blocks block_small

pub widen : (width need : ℕ) (ws : List ℕ) → width ≤ 64 → WordsFit width need ws → WordsFit 64 need ws
widen width zero [] small h = tt
widen width (suc n) (w ∷ ws) small h = ((let most : 2 ^ width ≤ 2 ^ 64 = pow_mono small in omega (arith, most, h.0)), widen width n ws small h.1)
widen width zero (w ∷ ws) small h = absurd h
widen width (suc n) [] small h = absurd h
