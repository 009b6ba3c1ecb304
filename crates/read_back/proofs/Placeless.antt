-- A function as it is written, all its parts at one position, with the names that the language gives to what has none.
use Rattle.read_back.proofs.Common.{ℕ, [], ◌∷◌, Some, map, no_place, WrittenName, WrittenIntType, WrittenType, WrittenReturnType, WrittenOperand, WrittenTyped, WrittenObject, WrittenParameter, WrittenAccess, WrittenIndex, WrittenGep, WrittenInst, WrittenEntry, WrittenPhi, WrittenLiteral, WrittenCase, WrittenReturn, Void, Value, WrittenTerminator, WrittenBody, WrittenBlock, WrittenFunction, NamedParameter, named_behind, entry_name}
use Rattle.ir_words.specs.declared.written.WrittenAccess.TheVariants as access
use Rattle.ir_words.specs.declared.written.WrittenInst.TheVariants as inst
use Rattle.ir_words.specs.declared.written.WrittenTerminator.TheVariants as end

abbrev pub name_of : WrittenName → WrittenName
name_of n = record { name = n.name; at = no_place }

abbrev pub int_type_of : WrittenIntType → WrittenIntType
int_type_of t = record { width = t.width; at = no_place }

abbrev pub type_of : WrittenType → WrittenType
type_of t = record { of_type = t.of_type; at = no_place }

abbrev pub operand_of : WrittenOperand → WrittenOperand
operand_of o = record { value = o.value; at = no_place }

abbrev pub typed_of : WrittenTyped → WrittenTyped
typed_of t = record { of_type = type_of t.of_type; operand = operand_of t.operand }

abbrev pub object_of : WrittenObject → WrittenObject
object_of o = record { of_type = o.of_type; at = no_place }

abbrev pub access_of : WrittenAccess → WrittenAccess
access_of (access.Alloca into number type) = access.Alloca (name_of into) number (object_of type)
access_of (access.Load into type from) = access.Load (name_of into) (type_of type) (typed_of from)
access_of (access.Store value to) = access.Store (typed_of value) (typed_of to)

abbrev pub index_of : WrittenIndex → WrittenIndex
index_of i = record { of_type = int_type_of i.of_type; operand = operand_of i.operand }

abbrev pub gep_of : WrittenGep → WrittenGep
gep_of g = record { into = name_of g.into; flags = g.flags; of_type = object_of g.of_type; base = typed_of g.base; indices = map index_of g.indices }

abbrev pub inst_of : WrittenInst → WrittenInst
inst_of (inst.Binary into op type left right) = inst.Binary (name_of into) op (int_type_of type) (operand_of left) (operand_of right)
inst_of (inst.Icmp into predicate same_sign type left right) = inst.Icmp (name_of into) predicate same_sign (int_type_of type) (operand_of left) (operand_of right)
inst_of (inst.Cast into cast from value to) = inst.Cast (name_of into) cast (int_type_of from) (operand_of value) (int_type_of to)
inst_of (inst.Select into bit condition if_true if_false) = inst.Select (name_of into) no_place (operand_of condition) (typed_of if_true) (typed_of if_false)
inst_of (inst.Freeze into value) = inst.Freeze (name_of into) (typed_of value)
inst_of (inst.Access a align) = inst.Access (access_of a) align
inst_of (inst.GetElementPtr g) = inst.GetElementPtr (gep_of g)

abbrev pub entry_of : WrittenEntry → WrittenEntry
entry_of e = record { operand = operand_of e.operand; from = name_of e.from }

abbrev pub phi_of : WrittenPhi → WrittenPhi
phi_of phi = record { into = name_of phi.into; of_type = type_of phi.of_type; entries = map entry_of phi.entries }

abbrev pub literal_of : WrittenLiteral → WrittenLiteral
literal_of l = record { value = l.value; at = no_place }

abbrev pub case_of : WrittenCase → WrittenCase
case_of c = record { of_type = int_type_of c.of_type; literal = literal_of c.literal; to = name_of c.to }

abbrev pub returned_of : WrittenReturn → WrittenReturn
returned_of (Void at) = Void no_place
returned_of (Value t) = Value (typed_of t)

abbrev pub terminator_of : WrittenTerminator → WrittenTerminator
terminator_of (end.Return returned) = end.Return (returned_of returned)
terminator_of (end.Branch to) = end.Branch (name_of to)
terminator_of (end.CondBranch bit condition if_true if_false) = end.CondBranch no_place (operand_of condition) (name_of if_true) (name_of if_false)
terminator_of (end.Switch type value default cases) = end.Switch (int_type_of type) (operand_of value) (name_of default) (map case_of cases)
terminator_of end.Unreachable = end.Unreachable

abbrev pub body_of : WrittenBody → WrittenBody
body_of b = record { phis = map phi_of b.phis; insts = map inst_of b.insts; terminator = terminator_of b.terminator }

abbrev pub block_of : WrittenBlock → WrittenBlock
block_of b = record { label = name_of b.label; body = body_of b.body }

abbrev pub return_type_of : WrittenReturnType → WrittenReturnType
return_type_of t = record { of_type = t.of_type; at = no_place }

-- a parameter under the name that it has
abbrev pub parameter_of : NamedParameter → WrittenParameter
parameter_of p =
    record { of_type = record { of_type = p.of_type; at = no_place }; no_undef = p.no_undef; non_null = p.non_null; name = Some (record { name = p.name; at = no_place }) }

abbrev pub placeless : WrittenFunction → WrittenFunction
placeless w = record {
  returns_no_undef = w.returns_no_undef;
  returns = return_type_of w.returns;
  name = name_of w.name;
  parameters = map parameter_of (named_behind [] w.parameters);
  brace = no_place;
  label = Some (record { name = entry_name w; at = no_place });
  entry = body_of w.entry;
  others = map block_of w.others;
}
