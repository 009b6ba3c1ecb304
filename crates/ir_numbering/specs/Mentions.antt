-- The names that are written in a function, each with its position, in text order.
use Rattle.std.specs.Prelude.{List, [], ◌∷◌, ◌++◌, flat_map, Option, Some, None}
use Rattle.text_places.specs.declared.place.Place.{Place}
use Rattle.ir_tree.specs.declared.name.Name.{Name}
use Rattle.ir_words.specs.declared.written.WrittenName.{WrittenName}
use Rattle.ir_words.specs.declared.written.WrittenValue.{WrittenValue}
use Rattle.ir_words.specs.declared.written.WrittenValue.TheVariants as written
use Rattle.ir_words.specs.declared.written.WrittenOperand.{WrittenOperand}
use Rattle.ir_words.specs.declared.written.WrittenTyped.{WrittenTyped}
use Rattle.ir_words.specs.declared.written.WrittenParameter.{WrittenParameter}
use Rattle.ir_words.specs.declared.written.WrittenInst.{WrittenInst}
use Rattle.ir_words.specs.declared.written.WrittenInst.TheVariants as line
use Rattle.ir_words.specs.declared.written.WrittenAccess.{WrittenAccess}
use Rattle.ir_words.specs.declared.written.WrittenAccess.TheVariants as access
use Rattle.ir_words.specs.declared.written.WrittenIndex.{WrittenIndex}
use Rattle.ir_words.specs.declared.written.WrittenReturn.{WrittenReturn}
use Rattle.ir_words.specs.declared.written.WrittenReturn.TheVariants.{Void, Value}
use Rattle.ir_words.specs.declared.written.WrittenEntry.{WrittenEntry}
use Rattle.ir_words.specs.declared.written.WrittenPhi.{WrittenPhi}
use Rattle.ir_words.specs.declared.written.WrittenCase.{WrittenCase}
use Rattle.ir_words.specs.declared.written.WrittenTerminator.{WrittenTerminator}
use Rattle.ir_words.specs.declared.written.WrittenTerminator.TheVariants as end
use Rattle.ir_words.specs.declared.written.WrittenBody.{WrittenBody}
use Rattle.ir_words.specs.declared.written.WrittenBlock.{WrittenBlock}
use Rattle.ir_grammar.specs.declared.written.WrittenFunction.{WrittenFunction}
use Rattle.ir_numbering.specs.declared.numbering.NamedParameter.{NamedParameter}
use Rattle.ir_numbering.specs.Places.{place_or}
use Rattle.ir_numbering.specs.Numbering.{named_behind, entry_name}

-- a position, and the local name that is there; None for a type, a literal or the function's name
pub record Mention : Type 0 where
  pub at : Place
  pub name : Option Name

abbrev pub nameless : Place → Mention
nameless place = record { at = place; name = None }

abbrev pub mention : WrittenName → Mention
mention n = record { at = n.at; name = Some n.name }

-- a name that is here, or would be if it were written
abbrev pub mention_at : Place → Name → Mention
mention_at place n = record { at = place; name = Some n }

abbrev pub local_name : WrittenValue → Option Name
local_name (written.Local name) = Some name
local_name (written.Literal number) = None
local_name written.Null = None
local_name written.Poison = None
local_name written.Undef = None

abbrev pub operand_mention : WrittenOperand → Mention
operand_mention o = record { at = o.at; name = local_name o.value }

abbrev pub typed_mentions : WrittenTyped → List Mention
typed_mentions t = nameless t.of_type.at ∷ operand_mention t.operand ∷ []

abbrev pub access_mentions : WrittenAccess → List Mention
access_mentions (access.Alloca into number type) = mention into ∷ nameless type.at ∷ []
access_mentions (access.Load into type from) = mention into ∷ nameless type.at ∷ typed_mentions from
access_mentions (access.Store value to) = typed_mentions value ++ typed_mentions to

-- the type, the operand, and its position again
abbrev pub index_mentions : WrittenIndex → List Mention
index_mentions i = nameless i.of_type.at ∷ operand_mention i.operand ∷ nameless i.operand.at ∷ []

-- the result, and then types and operands as they are written
abbrev pub inst_mentions : WrittenInst → List Mention
inst_mentions (line.Binary into op type left right) = mention into ∷ nameless type.at ∷ operand_mention left ∷ operand_mention right ∷ []
inst_mentions (line.Icmp into predicate same_sign type left right) = mention into ∷ nameless type.at ∷ operand_mention left ∷ operand_mention right ∷ []
inst_mentions (line.Cast into cast from value to) = mention into ∷ nameless from.at ∷ operand_mention value ∷ nameless to.at ∷ []
inst_mentions (line.Select into bit condition if_true if_false) = mention into ∷ nameless bit ∷ operand_mention condition ∷ (typed_mentions if_true ++ typed_mentions if_false)
inst_mentions (line.Freeze into value) = mention into ∷ typed_mentions value
inst_mentions (line.Access a align) = access_mentions a
inst_mentions (line.GetElementPtr g) = mention g.into ∷ nameless g.of_type.at ∷ (typed_mentions g.base ++ flat_map index_mentions g.indices)

abbrev pub returned_mentions : WrittenReturn → List Mention
returned_mentions (Void at) = nameless at ∷ []
returned_mentions (Value typed) = typed_mentions typed

-- an operand, and the label of the block that it comes from
abbrev pub entry_mentions : WrittenEntry → List Mention
entry_mentions e = operand_mention e.operand ∷ mention e.from ∷ []

-- the result, the type, and then each entry
abbrev pub phi_mentions : WrittenPhi → List Mention
phi_mentions phi = mention phi.into ∷ nameless phi.of_type.at ∷ flat_map entry_mentions phi.entries

-- the type, the literal and the label
abbrev pub case_mentions : WrittenCase → List Mention
case_mentions c = nameless c.of_type.at ∷ nameless c.literal.at ∷ mention c.to ∷ []

abbrev pub terminator_mentions : WrittenTerminator → List Mention
terminator_mentions (end.Return returned) = returned_mentions returned
terminator_mentions (end.Branch to) = mention to ∷ []
terminator_mentions (end.CondBranch bit condition if_true if_false) = nameless bit ∷ operand_mention condition ∷ mention if_true ∷ mention if_false ∷ []
terminator_mentions (end.Switch type value default cases) = (nameless type.at ∷ operand_mention value ∷ mention default ∷ []) ++ flat_map case_mentions cases
terminator_mentions end.Unreachable = []

-- the phis, the other instructions and the last one
unfoldable pub body_mentions : WrittenBody → List Mention
body_mentions b = flat_map phi_mentions b.phis ++ (flat_map inst_mentions b.insts ++ terminator_mentions b.terminator)

-- the label, and what follows it
abbrev pub block_mentions : WrittenBlock → List Mention
block_mentions b = mention b.label ∷ body_mentions b.body

-- for each parameter its type, and its name, which is at the type where it isn't written
abbrev pub parameter_mentions : List WrittenParameter → List NamedParameter → List Mention
parameter_mentions (p ∷ ps) (named ∷ others) = nameless p.of_type.at ∷ mention_at (place_or p.name p.of_type.at) named.name ∷ parameter_mentions ps others
parameter_mentions _ _ = []

-- The return type, the function's name, its parameters, the entry's label, which is at the opening
-- mark where none is written, and what is in its blocks.
unfoldable pub names_written : WrittenFunction → List Mention
names_written w =
    nameless w.returns.at ∷ nameless w.name.at ∷ (parameter_mentions w.parameters (named_behind [] w.parameters)
    ++ (mention_at (place_or w.label w.brace) (entry_name w) ∷ (body_mentions w.entry ++ flat_map block_mentions w.others)))
