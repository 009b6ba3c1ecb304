-- What instructions, blocks and functions cost at most, with the trees that they sample.
use Rattle.std.proofs.Common.{All, ◌+◌, ◌*◌, ◌≤◌, ℕ, List, [], ◌∷◌, length, sum_by, Some, None, arith}
use Rattle.std.specs.List.{AllByRecursion}
use Rattle.std.proofs.lemmas.List.Elements.{recursion_from_All}
use Rattle.std.proofs.lemmas.List.Sums.{sum_by-cons}
use Rattle.ir_tree.specs.declared.tree.Inst.{Inst}
use Rattle.ir_tree.specs.declared.tree.Inst.TheVariants.{Binary, Icmp, Cast, Select, Freeze, Alloca, Load, Store, GetElementPtr}
use Rattle.ir_tree.specs.declared.tree.Terminator.{Terminator}
use Rattle.ir_tree.specs.declared.tree.Terminator.TheVariants as terminator
use Rattle.ir_tree.specs.declared.tree.Block.{Block}
use Rattle.ir_tree.specs.declared.tree.Function.{Function}
use Rattle.ir_tree.specs.Limits.{IsWithinLimits, HasFewCases, HasFewEntries, HasSmallTypes, HasSmallObjects}
use Rattle.lowering.specs.Lowered.{HasFewLeaves}
use Rattle.verdicts.specs.Weight.{inst_cost, sampling_cost, end_sampling_cost, block_cost}
use Rattle.pair_costs.proofs.Sizes.{FewEntries, size_of, small_cost, small_end, small_phis, sum_within_of}
use Rattle.pair_costs.proofs.TreeCosts.{tree_most}

small_sampling : (f : Function) → HasFewLeaves f → IsWithinLimits f → (i : Inst) → sampling_cost f i ≤ 17180131328
small_sampling f few limits (Binary into op width left right) = omega arith
small_sampling f few limits (Icmp into predicate same_sign width left right) = omega arith
small_sampling f few limits (Cast into cast from operand to) = omega arith
small_sampling f few limits (Select into condition if_true if_false) = omega arith
small_sampling f few limits (Freeze into type operand) = tree_most f few limits operand
small_sampling f few limits (Alloca into number type align) = omega arith
small_sampling f few limits (Load into type pointer align) = omega arith
small_sampling f few limits (Store v pointer align) = omega arith
small_sampling f few limits (GetElementPtr into inbounds nuw type base indices) = omega arith

small_end_sampling : (f : Function) → HasFewLeaves f → IsWithinLimits f → (end : Terminator) → end_sampling_cost f end ≤ 17180131328
small_end_sampling f few limits (terminator.Return None) = omega arith
small_end_sampling f few limits (terminator.Return (Some returned)) = tree_most f few limits returned.operand
small_end_sampling f few limits (terminator.Branch to) = omega arith
small_end_sampling f few limits (terminator.CondBranch condition if_true if_false) = omega arith
small_end_sampling f few limits (terminator.Switch width operand default cases) = omega arith
small_end_sampling f few limits terminator.Unreachable = omega arith

-- an instruction with the tree that it samples
abbrev pub whole_cost : Function → ℕ → Inst → ℕ
whole_cost f memory i = inst_cost memory i + sampling_cost f i

small_whole : (f : Function) → HasFewLeaves f → IsWithinLimits f → (memory : ℕ) (i : Inst) → memory ≤ 272629888 → HasSmallTypes i → whole_cost f memory i ≤ 19361170496
small_whole f few limits memory i little small = let own = small_cost memory i little small in let tree = small_sampling f few limits i in omega (arith, own, tree)

pub small_insts : (f : Function) → HasFewLeaves f → IsWithinLimits f → (memory : ℕ) (insts : List Inst) → memory ≤ 272629888 → All HasSmallTypes insts → sum_by (whole_cost f memory) insts ≤ 19361170496 * length insts
small_insts f few limits memory insts little types = sum_within_of HasSmallTypes (whole_cost f memory) insts 19361170496 (recursion_from_All HasSmallTypes insts types) (λ i small. small_whole f few limits memory i little small)

pub small_block_cost : (f : Function) → HasFewLeaves f → IsWithinLimits f → (memory : ℕ) (b : Block) → memory ≤ 272629888 → HasFewCases b → HasFewEntries b → HasSmallObjects b → block_cost f memory b ≤ 19361170496 * size_of b
small_block_cost f few limits memory b little cases entries objects =
    let phis = small_phis b.phis (recursion_from_All FewEntries b.phis entries) in
    let insts = small_insts f few limits memory b.insts little objects in
    let end = small_end b.terminator cases in
    let tree = small_end_sampling f few limits b.terminator in
    omega (arith, phis, insts, end, tree)

small_costs : (f : Function) → HasFewLeaves f → IsWithinLimits f → (memory : ℕ) (bs : List Block) → memory ≤ 272629888 → AllByRecursion HasFewCases bs → AllByRecursion HasFewEntries bs → AllByRecursion HasSmallObjects bs → sum_by (block_cost f memory) bs ≤ 19361170496 * sum_by size_of bs
small_costs f few limits memory [] little cases entries objects = omega arith
small_costs f few limits memory (b ∷ bs) little cases entries objects =
    let rest = small_costs f few limits memory bs little cases.1 entries.1 objects.1 in
    let first = small_block_cost f few limits memory b little cases.0 entries.0 objects.0 in
    rw (sum_by-cons (block_cost f memory) b bs, sum_by-cons size_of b bs) (omega (arith, rest, first))

pub small_cost_of : (f : Function) → HasFewLeaves f → IsWithinLimits f → (memory : ℕ) → memory ≤ 272629888 → sum_by (block_cost f memory) f.blocks ≤ 1268853669625856
small_cost_of f few limits memory little =
    let cost = small_costs f few limits memory f.blocks little (recursion_from_All HasFewCases f.blocks limits.cases) (recursion_from_All HasFewEntries f.blocks limits.entries) (recursion_from_All HasSmallObjects f.blocks limits.objects) in
    let most = limits.instructions in
    omega (arith, cost, most)
