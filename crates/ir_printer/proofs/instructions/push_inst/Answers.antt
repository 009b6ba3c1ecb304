use Rattle.ir_printer.proofs.Common.{◌≡◌, ◌++◌, ◌∷◌, ◌∙◌, ℕ, Bool, List, ap, sym, subst, codes, flat_map, Name, Inst, Piece, text_of, comma, object_pieces, pointer_pieces, space, word, index_pieces, inst_pieces, result_pieces, word_if}
use Rattle.ir_tree.specs.declared.tree.Operand.{Operand}
use Rattle.ir_tree.specs.declared.tree.MemoryType.{MemoryType}
use Rattle.ir_tree.specs.declared.tree.GepIndex.{GepIndex}
use Rattle.ir_tree.specs.declared.tree.Inst.TheVariants.{GetElementPtr}
use Rattle.ir_printer.proofs.Texts.{regrouped, two_parts}
use Rattle.ir_printer.proofs.instructions.push_inst.Goals as goal

abbrev head : List Name → ℕ → Bool → Bool → List Piece
head names into inbounds nuw = result_pieces names into ++ word space (codes "getelementptr") ∷ (word_if inbounds (codes "inbounds") ++ word_if nuw (codes "nuw"))

abbrev rest : List Name → MemoryType → Operand → List GepIndex → List Piece
rest names type base indices = object_pieces type ++ comma ∷ (pointer_pieces names base ++ flat_map (index_pieces names) indices)

gep-text : (names : List Name) (into : ℕ) (inbounds nuw : Bool) (type : MemoryType) (base : Operand) (indices : List GepIndex) (old mid new : List ℕ)
    → mid ≡ old ++ text_of (head names into inbounds nuw) → new ≡ mid ++ text_of (rest names type base indices)
    → new ≡ old ++ text_of (inst_pieces names (GetElementPtr into inbounds nuw type base indices))
gep-text names into inbounds nuw type base indices old mid new h k =
    two_parts (head names into inbounds nuw) (rest names type base indices) old mid new h k
    ∙ ap (λ ps. old ++ text_of ps)
    (sym (regrouped (result_pieces names into) (word_if inbounds (codes "inbounds")) (word_if nuw (codes "nuw")) (object_pieces type) (comma ∷ (pointer_pieces names base ++ flat_map (index_pieces names) indices)) (word space (codes "getelementptr"))))

pub returns-in_ok-push_gep-in-GetElementPtr : goal.returns-in_ok-push_gep-in-GetElementPtr
returns-in_ok-push_gep-in-GetElementPtr c =
    let e = c.in-GetElementPtr in
    subst (λ (i : Inst). c.push_gep.new.out.items ≡ c.args.out.now.items ++ text_of (inst_pieces c.args.names.now i)) (sym e.is)
    (gep-text c.args.names.now e.into e.inbounds e.nuw e.of_type e.base e.indices c.args.out.now.items c.push_gep_word.new.out.items c.push_gep.new.out.items
    c.in_ok-push_gep_word-in-GetElementPtr.ensures
    (subst (λ (is : List GepIndex). c.push_gep.new.out.items ≡ c.push_gep_word.new.out.items ++ text_of (rest c.args.names.now e.of_type e.base is)) c.as_slice.ensures c.in_ok-push_gep-in-GetElementPtr.ensures))
