-- Where the types, names, literals and labels of a function are, in text order.
use Rattle.std.specs.Prelude.{List, [], ◌∷◌, ◌++◌, flat_map, Option, Some, None}
use Rattle.text_places.specs.declared.place.Place.{Place}
use Rattle.ir_words.specs.declared.written.WrittenName.{WrittenName}
use Rattle.ir_words.specs.declared.written.WrittenTyped.{WrittenTyped}
use Rattle.ir_words.specs.declared.written.WrittenParameter.{WrittenParameter}
use Rattle.ir_words.specs.declared.written.WrittenInst.{WrittenInst}
use Rattle.ir_words.specs.declared.written.WrittenInst.TheVariants as line
use Rattle.ir_words.specs.declared.written.WrittenAccess.{WrittenAccess}
use Rattle.ir_words.specs.declared.written.WrittenAccess.TheVariants as access
use Rattle.ir_words.specs.declared.written.WrittenIndex.{WrittenIndex}
use Rattle.ir_words.specs.declared.written.WrittenReturn.{WrittenReturn}
use Rattle.ir_words.specs.declared.written.WrittenReturn.TheVariants.{Void, Value}
use Rattle.ir_words.specs.declared.written.WrittenEntry.{WrittenEntry}
use Rattle.ir_words.specs.declared.written.WrittenPhi.{WrittenPhi}
use Rattle.ir_words.specs.declared.written.WrittenCase.{WrittenCase}
use Rattle.ir_words.specs.declared.written.WrittenTerminator.{WrittenTerminator}
use Rattle.ir_words.specs.declared.written.WrittenTerminator.TheVariants as end
use Rattle.ir_words.specs.declared.written.WrittenBody.{WrittenBody}
use Rattle.ir_words.specs.declared.written.WrittenBlock.{WrittenBlock}
use Rattle.ir_grammar.specs.declared.written.WrittenFunction.{WrittenFunction}

-- where a name is, and where it would be if it isn't written
abbrev pub place_or : Option WrittenName → Place → Place
place_or None other = other
place_or (Some name) other = name.at

abbrev pub typed_places : WrittenTyped → List Place
typed_places t = t.of_type.at ∷ t.operand.at ∷ []

abbrev pub access_places : WrittenAccess → List Place
access_places (access.Alloca into number type) = into.at ∷ type.at ∷ []
access_places (access.Load into type from) = into.at ∷ type.at ∷ typed_places from
access_places (access.Store value to) = typed_places value ++ typed_places to

-- the type, the operand, and again the operand, which is where an index that goes into no array is
-- reported
abbrev pub index_places : WrittenIndex → List Place
index_places i = i.of_type.at ∷ i.operand.at ∷ i.operand.at ∷ []

-- the result, and then types and operands as they are written
abbrev pub inst_places : WrittenInst → List Place
inst_places (line.Binary into op type left right) = into.at ∷ type.at ∷ left.at ∷ right.at ∷ []
inst_places (line.Icmp into predicate same_sign type left right) = into.at ∷ type.at ∷ left.at ∷ right.at ∷ []
inst_places (line.Cast into cast from value to) = into.at ∷ from.at ∷ value.at ∷ to.at ∷ []
inst_places (line.Select into bit condition if_true if_false) = into.at ∷ bit ∷ condition.at ∷ (typed_places if_true ++ typed_places if_false)
inst_places (line.Freeze into value) = into.at ∷ typed_places value
inst_places (line.Access a align) = access_places a
inst_places (line.GetElementPtr g) = g.into.at ∷ g.of_type.at ∷ (typed_places g.base ++ flat_map index_places g.indices)

abbrev pub returned_places : WrittenReturn → List Place
returned_places (Void at) = at ∷ []
returned_places (Value typed) = typed_places typed

-- an operand, and the label of the block that it comes from
abbrev pub entry_places : WrittenEntry → List Place
entry_places e = e.operand.at ∷ e.from.at ∷ []

-- the result, the type, and then each entry
abbrev pub phi_places : WrittenPhi → List Place
phi_places phi = phi.into.at ∷ phi.of_type.at ∷ flat_map entry_places phi.entries

-- the type, the literal and the label
abbrev pub case_places : WrittenCase → List Place
case_places c = c.of_type.at ∷ c.literal.at ∷ c.to.at ∷ []

abbrev pub terminator_places : WrittenTerminator → List Place
terminator_places (end.Return returned) = returned_places returned
terminator_places (end.Branch to) = to.at ∷ []
terminator_places (end.CondBranch bit condition if_true if_false) = bit ∷ condition.at ∷ if_true.at ∷ if_false.at ∷ []
terminator_places (end.Switch type value default cases) = (type.at ∷ value.at ∷ default.at ∷ []) ++ flat_map case_places cases
terminator_places end.Unreachable = []

-- the phis, the other instructions and the last one
unfoldable pub body_places : WrittenBody → List Place
body_places b = flat_map phi_places b.phis ++ (flat_map inst_places b.insts ++ terminator_places b.terminator)

-- the label, and what follows it
abbrev pub block_places : WrittenBlock → List Place
block_places b = b.label.at ∷ body_places b.body

-- a name that isn't written is at the type
abbrev pub parameter_places : WrittenParameter → List Place
parameter_places p = p.of_type.at ∷ place_or p.name p.of_type.at ∷ []

-- the return type, the function's name, its parameters, the entry's label, which is at the opening
-- mark where none is written, and what is in its blocks
unfoldable pub places_of : WrittenFunction → List Place
places_of w = w.returns.at ∷ w.name.at ∷ (flat_map parameter_places w.parameters ++ (place_or w.label w.brace ∷ (body_places w.entry ++ flat_map block_places w.others)))
