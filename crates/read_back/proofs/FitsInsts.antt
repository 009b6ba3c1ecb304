-- Instructions on values.
use Rattle.read_back.proofs.Common.{ℕ, true, not, subst, Int, one_bit, Op, Cast, Opcode, WrittenName, WrittenIntType, WrittenInst, binary, cast_by, wrapping, exact, plain, disjunction, icmp, truncate, zero_extend, sign_extend, select, freeze, inst_by}
use Rattle.ir_tree.specs.Carrying.{is_division}
use Rattle.ir_grammar.specs.Instructions.{is_undef}
use Rattle.ir_words.specs.declared.word.Opcode.TheVariants as opcode
use Rattle.read_back.proofs.Spellable.{IsName, IsInst}
use Rattle.read_back.proofs.FitsForms.{Gives}
use Rattle.read_back.proofs.FitsOperands.{operand-fits, typed-gives, arm-gives}

binary-gives : (n : ℕ) (name : WrittenName) (o : Op) (type : WrittenIntType) (i : WrittenInst) → IsName name.name → Gives (binary name o type) i → IsInst n i
unfolding binary
binary-gives n name o type i is (l, L, (comma, C, (r, R, same))) = subst (λ (j : WrittenInst). IsInst n j) same (is, operand-fits (not (is_division o)) (Int type.width) l L, operand-fits (not (is_division o)) (Int type.width) r R)

cast-gives : (n : ℕ) (name : WrittenName) (c : Cast) (from : WrittenIntType) (i : WrittenInst) → IsName name.name → Gives (cast_by name c from) i → IsInst n i
unfolding cast_by
cast-gives n name c from i is (v, V, (word_to, W, (to, T, same))) = subst (λ (j : WrittenInst). IsInst n j) same (is, operand-fits true (Int from.width) v V)

pub inst-gives : (n : ℕ) (name : WrittenName) (o : Opcode) (i : WrittenInst) → IsName name.name → Gives (inst_by name o) i → IsInst n i
unfolding wrapping exact plain disjunction icmp truncate zero_extend sign_extend select freeze
inst-gives n name (opcode.Wrapping w) i is (flagged, F, B) = binary-gives n name _ flagged.1 i is B
inst-gives n name (opcode.Exact w) i is (flagged, F, B) = binary-gives n name _ flagged.1 i is B
inst-gives n name (opcode.Plain o) i is (type, T, B) = binary-gives n name o type i is B
inst-gives n name opcode.Or i is (flagged, F, B) = binary-gives n name _ flagged.1 i is B
inst-gives n name opcode.Icmp i is (compares, C, (type, T, (l, L, (comma, M, (r, R, same))))) = subst (λ (j : WrittenInst). IsInst n j) same (is, operand-fits true (Int type.width) l L, operand-fits true (Int type.width) r R)
inst-gives n name opcode.Truncate i is (flagged, F, C) = cast-gives n name _ flagged.1 i is C
inst-gives n name opcode.ZeroExtend i is (flagged, F, C) = cast-gives n name _ flagged.1 i is C
inst-gives n name opcode.SignExtend i is (type, T, C) = cast-gives n name _ type i is C
inst-gives n name opcode.Select i is (bit, B, (condition, C, (comma, M, (if_true, T, (comma', M', (if_false, F, same)))))) = subst (λ (j : WrittenInst). IsInst n j) same (is, operand-fits true (Int one_bit) condition C, arm-gives (is_undef condition.value) if_true T, arm-gives (is_undef condition.value) if_false F)
inst-gives n name opcode.Freeze i is (value, V, same) = subst (λ (j : WrittenInst). IsInst n j) same (is, typed-gives true value V)
