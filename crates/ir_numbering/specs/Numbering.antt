-- A function whose names go by number: each name's number is its index in the order in which names
-- are first mentioned, whether it is defined there or not.
use Rattle.std.specs.Prelude.{ℕ, List, [], ◌∷◌, ◌++◌, map, Bool, Option, Some, None}
use Rattle.tv_num.specs.declared.Width.{Width}
use Rattle.ir_tree.specs.Names.{with_name, number_of}
use Rattle.ir_tree.specs.declared.name.Name.{Name}
use Rattle.ir_tree.specs.declared.tree.IrType.{IrType}
use Rattle.ir_tree.specs.declared.tree.Operand.{Operand}
use Rattle.ir_tree.specs.declared.tree.Operand.TheVariants as operand
use Rattle.ir_tree.specs.declared.tree.TypedOperand.{TypedOperand}
use Rattle.ir_tree.specs.declared.tree.Op.{Op}
use Rattle.ir_tree.specs.declared.tree.Cast.{Cast}
use Rattle.ir_tree.specs.declared.tree.Predicate.{Predicate}
use Rattle.ir_tree.specs.declared.tree.Inst.{Inst}
use Rattle.ir_tree.specs.declared.tree.Inst.TheVariants as inst
use Rattle.ir_tree.specs.declared.tree.MemoryType.{MemoryType}
use Rattle.ir_tree.specs.declared.tree.GepIndex.{GepIndex}
use Rattle.ir_tree.specs.declared.tree.PhiEntry.{PhiEntry}
use Rattle.ir_tree.specs.declared.tree.Phi.{Phi}
use Rattle.ir_tree.specs.declared.tree.Case.{Case}
use Rattle.ir_tree.specs.declared.tree.Terminator.{Terminator}
use Rattle.ir_tree.specs.declared.tree.Terminator.TheVariants.{Return, Branch, CondBranch, Switch, Unreachable}
use Rattle.ir_tree.specs.declared.tree.Block.{Block}
use Rattle.ir_tree.specs.declared.tree.Parameter.{Parameter}
use Rattle.ir_tree.specs.declared.tree.Function.{Function}
use Rattle.ir_words.specs.declared.written.WrittenName.{WrittenName}
use Rattle.ir_words.specs.declared.written.WrittenValue.{WrittenValue}
use Rattle.ir_words.specs.declared.written.WrittenValue.TheVariants as written
use Rattle.ir_words.specs.declared.written.WrittenTyped.{WrittenTyped}
use Rattle.ir_words.specs.declared.written.WrittenParameter.{WrittenParameter}
use Rattle.ir_words.specs.declared.written.WrittenInst.{WrittenInst}
use Rattle.ir_words.specs.declared.written.WrittenInst.TheVariants as line
use Rattle.ir_words.specs.declared.written.WrittenAccess.{WrittenAccess}
use Rattle.ir_words.specs.declared.written.WrittenAccess.TheVariants as access
use Rattle.ir_words.specs.declared.written.WrittenIndex.{WrittenIndex}
use Rattle.ir_words.specs.declared.written.WrittenGep.{WrittenGep}
use Rattle.ir_words.specs.declared.written.WrittenEntry.{WrittenEntry}
use Rattle.ir_words.specs.declared.written.WrittenPhi.{WrittenPhi}
use Rattle.ir_words.specs.declared.written.WrittenCase.{WrittenCase}
use Rattle.ir_words.specs.declared.written.WrittenTerminator.{WrittenTerminator}
use Rattle.ir_words.specs.declared.written.WrittenTerminator.TheVariants as end
use Rattle.ir_words.specs.declared.written.WrittenBody.{WrittenBody}
use Rattle.ir_words.specs.declared.written.WrittenBlock.{WrittenBlock}
use Rattle.ir_words.specs.declared.written.WrittenReturn.{WrittenReturn}
use Rattle.ir_words.specs.declared.written.WrittenReturn.TheVariants.{Void, Value}
use Rattle.ir_grammar.specs.declared.written.WrittenFunction.{WrittenFunction}
use Rattle.ir_numbering.specs.declared.numbering.NamedParameter.{NamedParameter}
use Rattle.ir_numbering.specs.EntryName.{next_name}
use Rattle.ir_numbering.specs.Places.{places_of}

-- ---- names that aren't written

abbrev pub name_or : Option WrittenName → Name → Name
name_or None other = other
name_or (Some written_name) other = written_name.name

abbrev pub names_of : List NamedParameter → List Name
names_of ps = map (λ (p : NamedParameter). p.name) ps

-- a parameter after others
abbrev pub named : List NamedParameter → WrittenParameter → NamedParameter
named before p = record { of_type = p.of_type.of_type; no_undef = p.no_undef; non_null = p.non_null; name = name_or p.name (next_name (names_of before)) }

abbrev pub named_behind : List NamedParameter → List WrittenParameter → List NamedParameter
named_behind before [] = before
named_behind before (p ∷ ps) = named_behind (before ++ named before p ∷ []) ps

-- ---- numbers

-- what is numbered, and the names that are mentioned so far
pub data Numbered (A : Type 0) : Type 0 where
  so : A → List Name → Numbered A

infixl 10 ◌>>=◌
abbrev pub ◌>>=◌ : {A B : Type 0} → Numbered A → (A → List Name → Numbered B) → Numbered B
so a names >>= k = k a names

-- the number of a name, a new one after those
abbrev pub number_in : List Name → Name → Numbered ℕ
number_in names name = so (number_of names name) (with_name names name)

abbrev pub value_in : List Name → WrittenValue → Numbered Operand
value_in names (written.Local name) = number_in names name >>= λ number after. so (operand.Local number) after
value_in names (written.Literal number) = so (operand.Number number) names
value_in names written.Null = so operand.Null names
value_in names written.Poison = so operand.Poison names
value_in names written.Undef = so operand.Undef names

unfoldable pub typed_in : List Name → WrittenTyped → Numbered TypedOperand
typed_in names t = value_in names t.operand.value >>= λ o after. so (record { of_type = t.of_type.of_type; operand = o }) after

unfoldable pub binary_in : List Name → Name → Op → Width → WrittenValue → WrittenValue → Numbered Inst
binary_in names into op width left right =
    number_in names into >>= λ result before. value_in before left >>= λ l between. value_in between right >>= λ r after. so (inst.Binary result op width l r) after

unfoldable pub icmp_in : List Name → Name → Predicate → Bool → Width → WrittenValue → WrittenValue → Numbered Inst
icmp_in names into predicate same_sign width left right =
    number_in names into >>= λ result before. value_in before left >>= λ l between. value_in between right >>= λ r after. so (inst.Icmp result predicate same_sign width l r) after

unfoldable pub cast_in : List Name → Name → Cast → Width → WrittenValue → Width → Numbered Inst
cast_in names into cast from value to = number_in names into >>= λ result before. value_in before value >>= λ o after. so (inst.Cast result cast from o to) after

unfoldable pub select_in : List Name → Name → WrittenValue → WrittenTyped → WrittenTyped → Numbered Inst
select_in names into condition if_true if_false =
    number_in names into >>= λ result before. value_in before condition >>= λ c between. typed_in between if_true >>= λ first behind. typed_in behind if_false >>= λ second after. so (inst.Select result c first second) after

unfoldable pub freeze_in : List Name → Name → IrType → WrittenValue → Numbered Inst
freeze_in names into type value = number_in names into >>= λ result before. value_in before value >>= λ o after. so (inst.Freeze result type o) after

-- each in turn
abbrev pub each_in : {A B : Type 0} → (List Name → A → Numbered B) → List Name → List A → Numbered (List B)
each_in one names [] = so [] names
each_in one names (a ∷ more_items) = one names a >>= λ first before. each_in one before more_items >>= λ others after. so (first ∷ others) after

-- ---- memory

unfoldable pub alloca_in : List Name → Name → ℕ → MemoryType → ℕ → Numbered Inst
alloca_in names into number type align = number_in names into >>= λ result after. so (inst.Alloca result number type align) after

unfoldable pub load_in : List Name → Name → IrType → WrittenValue → ℕ → Numbered Inst
load_in names into type from align = number_in names into >>= λ result before. value_in before from >>= λ p after. so (inst.Load result type p align) after

unfoldable pub store_in : List Name → WrittenTyped → WrittenValue → ℕ → Numbered Inst
store_in names value to align = typed_in names value >>= λ v before. value_in before to >>= λ p after. so (inst.Store v p align) after

abbrev pub access_in : List Name → WrittenAccess → ℕ → Numbered Inst
access_in names (access.Alloca into number type) align = alloca_in names into.name number type.of_type align
access_in names (access.Load into type from) align = load_in names into.name type.of_type from.operand.value align
access_in names (access.Store value to) align = store_in names value to.operand.value align

unfoldable pub index_in : List Name → WrittenIndex → Numbered GepIndex
index_in names i = value_in names i.operand.value >>= λ o after. so (record { width = i.of_type.width; operand = o }) after

unfoldable pub gep_in : List Name → WrittenGep → Numbered Inst
gep_in names g =
    number_in names g.into.name >>= λ result before. value_in before g.base.operand.value >>= λ base between. each_in index_in between g.indices >>= λ indices after.
    so (inst.GetElementPtr result g.flags.inbounds g.flags.nuw g.of_type.of_type base indices) after

-- ---- instructions

abbrev pub inst_in : List Name → WrittenInst → Numbered Inst
inst_in names (line.Binary into op type left right) = binary_in names into.name op type.width left.value right.value
inst_in names (line.Icmp into predicate same_sign type left right) = icmp_in names into.name predicate same_sign type.width left.value right.value
inst_in names (line.Cast into cast from value to) = cast_in names into.name cast from.width value.value to.width
inst_in names (line.Select into bit condition if_true if_false) = select_in names into.name condition.value if_true if_false
inst_in names (line.Freeze into value) = freeze_in names into.name value.of_type.of_type value.operand.value
inst_in names (line.Access a align) = access_in names a align
inst_in names (line.GetElementPtr g) = gep_in names g

unfoldable pub returned_in : List Name → WrittenReturn → Numbered Terminator
returned_in names (Void at) = so (Return None) names
returned_in names (Value typed) = typed_in names typed >>= λ t after. so (Return (Some t)) after

unfoldable pub parameter_in : List Name → NamedParameter → Numbered Parameter
parameter_in names p = number_in names p.name >>= λ number after. so (record { of_type = p.of_type; no_undef = p.no_undef; non_null = p.non_null; name = number }) after

-- ---- blocks

-- an operand, and then the label of the block that it comes from
unfoldable pub entry_in : List Name → WrittenEntry → Numbered PhiEntry
entry_in names e = value_in names e.operand.value >>= λ o before. number_in before e.from.name >>= λ label after. so (record { operand = o; from = label }) after

unfoldable pub phi_in : List Name → WrittenPhi → Numbered Phi
phi_in names phi =
    number_in names phi.into.name >>= λ result before. each_in entry_in before phi.entries >>= λ all after. so (record { into = result; of_type = phi.of_type.of_type; entries = all }) after

unfoldable pub case_in : List Name → WrittenCase → Numbered Case
case_in names c = number_in names c.to.name >>= λ label after. so (record { width = c.of_type.width; value = c.literal.value; to = label }) after

unfoldable pub branch_in : List Name → Name → Numbered Terminator
branch_in names to = number_in names to >>= λ label after. so (Branch label) after

unfoldable pub cond_branch_in : List Name → WrittenValue → Name → Name → Numbered Terminator
cond_branch_in names condition if_true if_false =
    value_in names condition >>= λ c before. number_in before if_true >>= λ first between. number_in between if_false >>= λ second after. so (CondBranch c first second) after

unfoldable pub switch_in : List Name → Width → WrittenValue → Name → List WrittenCase → Numbered Terminator
switch_in names width value default cases =
    value_in names value >>= λ o before. number_in before default >>= λ label between. each_in case_in between cases >>= λ all after. so (Switch width o label all) after

abbrev pub terminator_in : List Name → WrittenTerminator → Numbered Terminator
terminator_in names (end.Return returned) = returned_in names returned
terminator_in names (end.Branch to) = branch_in names to.name
terminator_in names (end.CondBranch bit condition if_true if_false) = cond_branch_in names condition.value if_true.name if_false.name
terminator_in names (end.Switch type value default cases) = switch_in names type.width value.value default.name cases
terminator_in names end.Unreachable = so Unreachable names

-- what follows a label
unfoldable pub block_in : List Name → Name → WrittenBody → Numbered Block
block_in names label b =
    number_in names label >>= λ number before. each_in phi_in before b.phis >>= λ phis between. each_in inst_in between b.insts >>= λ insts behind. terminator_in behind b.terminator >>= λ last after.
    so (record { label = number; phis = phis; insts = insts; terminator = last }) after

abbrev pub labelled_in : List Name → WrittenBlock → Numbered Block
labelled_in names b = block_in names b.label.name b.body

-- this block, and the others after it
abbrev pub others_in : Block → List Name → List WrittenBlock → Numbered (List Block)
others_in first names others = each_in labelled_in names others >>= λ more_blocks after. so (first ∷ more_blocks) after

-- the entry, after its label, and the other blocks
unfoldable pub blocks_in : List Name → Name → WrittenBody → List WrittenBlock → Numbered (List Block)
blocks_in names label entry others = block_in names label entry >>= λ first before. others_in first before others

unfoldable pub parts_in : List NamedParameter → Name → WrittenBody → List WrittenBlock → Numbered (List Parameter × List Block)
parts_in named_parameters label entry others =
    each_in parameter_in [] named_parameters >>= λ ps before. blocks_in before label entry others >>= λ all after. so (ps, all) after

abbrev pub function_of : WrittenFunction → Numbered (List Parameter × List Block) → Function
function_of w (so parts names) = record {
  name = w.name.name;
  returns = w.returns.of_type;
  returns_no_undef = w.returns_no_undef;
  parameters = parts.0;
  blocks = parts.1;
  names = names;
  places = places_of w;
}

-- the label, or the name of an entry without one
abbrev pub entry_name : WrittenFunction → Name
entry_name w = name_or w.label (next_name (names_of (named_behind [] w.parameters)))

unfoldable pub numbered : WrittenFunction → Function
numbered w = function_of w (parts_in (named_behind [] w.parameters) (entry_name w) w.entry w.others)
