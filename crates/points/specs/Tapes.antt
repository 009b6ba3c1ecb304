-- How many words a run reads, how wide they are, and the plain form of a tape.
use Rattle.std.specs.Prelude.{◌≡◌, ℕ, ◌+◌, ◌-◌, ◌*◌, ◌≤◌, max, List, [], ◌∷◌, ◌++◌, length, replicate, Option, Some, None}
use Rattle.std.specs.List.{flat_map}
use Rattle.ir_tree.specs.declared.tree.IrType.{IrType}
use Rattle.ir_tree.specs.declared.tree.IrType.TheVariants as type
use Rattle.ir_tree.specs.declared.tree.TypedOperand.{TypedOperand}
use Rattle.ir_tree.specs.declared.tree.Inst.{Inst}
use Rattle.ir_tree.specs.declared.tree.Inst.TheVariants.{Binary, Icmp, Cast, Select, Freeze, Alloca, Load, Store, GetElementPtr}
use Rattle.ir_tree.specs.declared.tree.Terminator.{Terminator}
use Rattle.ir_tree.specs.declared.tree.Terminator.TheVariants as terminator
use Rattle.ir_tree.specs.declared.tree.Block.{Block}
use Rattle.ir_tree.specs.declared.tree.Function.{Function}
use Rattle.points.specs.declared.point.Bounds.{Bounds}
use Rattle.points.specs.declared.point.Input.{Input}
use Rattle.points.specs.Code.{number_of, WordsFit}
use Rattle.points.specs.Run.{run_of, undef_type, IsPlain}

-- the widths of the words of a choice, in order
abbrev pub word_widths : IrType → List ℕ
word_widths (type.Int width) = width.bits ∷ []
word_widths type.Ptr = 64 ∷ 64 ∷ []

-- of the choices that an instruction may make
abbrev pub inst_widths : Inst → List ℕ
inst_widths (Binary into op width left right) = []
inst_widths (Icmp into predicate same_sign width left right) = []
inst_widths (Cast into cast from operand to) = []
inst_widths (Select into condition if_true if_false) = []
inst_widths (Freeze into type operand) = word_widths type
inst_widths (Alloca into number type align) = []
inst_widths (Load into type pointer align) = []
inst_widths (Store v pointer align) = []
inst_widths (GetElementPtr into inbounds nuw type base indices) = []

abbrev pub widths_of : Option IrType → List ℕ
widths_of None = []
widths_of (Some type) = word_widths type

abbrev pub returned_widths : Option TypedOperand → List ℕ
returned_widths None = []
returned_widths (Some returned) = widths_of (undef_type returned.of_type returned.operand)

abbrev pub end_widths : Terminator → List ℕ
end_widths (terminator.Return returned) = returned_widths returned
end_widths (terminator.Branch to) = []
end_widths (terminator.CondBranch condition if_true if_false) = []
end_widths (terminator.Switch width operand default cases) = []
end_widths terminator.Unreachable = []

-- a phi makes no choice
abbrev pub block_widths : Block → List ℕ
block_widths b = flat_map inst_widths b.insts ++ end_widths b.terminator

abbrev pub choice_widths : Function → List ℕ
choice_widths f = flat_map block_widths f.blocks

-- no run with this number of backward jumps reads more words
abbrev pub need_of : ℕ → Function → ℕ
need_of turns f = (turns + 1) * length (choice_widths f)

-- 1 where there is none
unfoldable pub widest : List ℕ → ℕ
widest [] = 1
widest (w ∷ ws) = max w (widest ws)

abbrev pub widest_choice : Function → ℕ
widest_choice f = widest (choice_widths f)

-- the choices that were taken, and zeros up to n words
abbrev pub plain_form : ℕ → List ℕ → List ℕ
plain_form n taken = taken ++ replicate (n - length taken) 0

-- the plain form of a tape gives the same run, and is a tape of as many words as the function needs
pub record HasPlainForm (f : Function) (bounds : Bounds) (input : Input) (tape : List ℕ) : Type 0 where
  pub enough : length (run_of f bounds input tape).taken ≤ need_of bounds.turns f
  pub same : run_of f bounds input (plain_form (need_of bounds.turns f) (run_of f bounds input tape).taken) ≡ run_of f bounds input tape
  pub fits : WordsFit (widest_choice f) (need_of bounds.turns f) (plain_form (need_of bounds.turns f) (run_of f bounds input tape).taken)
  pub plain : IsPlain (plain_form (need_of bounds.turns f) (run_of f bounds input tape).taken) (run_of f bounds input tape)
  pub no_greater : length tape ≡ need_of bounds.turns f → number_of (plain_form (need_of bounds.turns f) (run_of f bounds input tape).taken) ≤ number_of tape

-- each tape, of any length, has one on any input
abbrev pub TapesHavePlainForms : Type 0
TapesHavePlainForms = (f : Function) (bounds : Bounds) (input : Input) (tape : List ℕ) → HasPlainForm f bounds input tape
