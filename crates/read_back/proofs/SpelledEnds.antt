-- Printed last instructions of blocks are spelled.
use Rattle.read_back.proofs.Common.{◌≡◌, ℕ, ◌+◌, ◌<◌, ◌≤◌, Bool, true, false, List, [], ◌∷◌, ◌++◌, map, length, Option, Some, None, refl, sym, ap, subst, ◌∙◌, codes, arith, append_assoc, append-nil, is_some, flat_map, AllByRecursion, lt-ltb, and_from, map-append, length-append, Width, Place, no_place, one_bit, Int, TerminatorWord, WrittenName, WrittenIntType, WrittenOperand, WrittenCase, WrittenReturn, Void, Value, WrittenTerminator, int_typed_at, is_width, terminator_word, returned, cond_branch, branch_to, branch, is_type, case_begins, case_within, with_case, cases, switch, return_of, terminator_by, never, part_begins, part_value, Piece, space, indented, comma, width_text}
use Rattle.ir_words.specs.declared.word.TerminatorWord.TheVariants as finish
use Rattle.ir_words.specs.declared.written.WrittenTerminator.TheVariants as end
use Rattle.ir_grammar.specs.Grammar as form
use Rattle.ir_printer.specs.Pieces as piece
use Rattle.read_back.proofs.Written.{value_piece, target, case_pieces, returned_pieces, terminator_pieces}
use Rattle.read_back.proofs.Placeless.{name_of, int_type_of, operand_of, case_of, literal_of, returned_of, terminator_of}
use Rattle.read_back.proofs.Spellable.{IsName, FitsValue, IsCase, IsReturned, IsTerminator}
use Rattle.read_back.proofs.SpelledTokens.{Reads, IsSpelled, AreSpelled, spelled-give, spelled-one, one-then, seq-then, seq-last, upto-then, peek-first, peek-second, no-more, one-more, more-as, tail-from}
use Rattle.read_back.proofs.SpelledClasses.{a_name, a_width, a_value, a_return, a_literal, local-reads, width-again, width-reads, value-reads, literal-reads, bit-reads, return-reads}
use Rattle.read_back.proofs.SpelledOperands.{word-reads, word-then, mark-then}
use Rattle.read_back.proofs.SpelledInsts.{same-both}

target-spelled : (n : WrittenName) → IsName n.name → IsSpelled form.target (target n)
    (λ x. name_of x ≡ name_of n)
unfolding form.target
target-spelled n is =
    word-then (spelled-one (a_name n.name) (local-reads space n.name is) (λ at. refl))

returned-spelled : (r : WrittenReturn) → IsReturned r → IsSpelled returned (returned_pieces r)
    (λ x. returned_of x ≡ returned_of r)
unfolding returned
returned-spelled (Void at) is =
    one-then (a_return None) (return-reads space None) (λ at'. spelled-give refl)
returned-spelled (Value t) is =
    one-then (a_return (Some t.of_type.of_type)) (return-reads space (Some t.of_type.of_type))
    (λ at.
    one-then (a_value t.operand.value) (value-reads true t.of_type.of_type t.operand.value is)
    (λ at'.
    spelled-give refl))

-- ---- branches

branch-spelled : (to : WrittenName) → IsName to.name → IsSpelled branch (target to)
    (λ x. terminator_of x ≡ terminator_of (end.Branch to))
unfolding branch branch_to
branch-spelled to is =
    peek-first (λ at. tt) (word-reads space (codes "label") refl)
    (λ at. one-then (a_name to.name) (local-reads space to.name is) (λ at'. spelled-give refl))

cond-spelled : (bit at : Place) (condition : WrittenOperand) (if_true if_false : WrittenName)
    → FitsValue false (Int one_bit) condition.value → IsName if_true.name → IsName if_false.name
    → IsSpelled (cond_branch at)
    (value_piece condition.value ∷ comma ∷ (target if_true ++ comma ∷ target if_false))
    (λ x. terminator_of x ≡ terminator_of (end.CondBranch bit condition if_true if_false))
unfolding cond_branch
cond-spelled bit at condition if_true if_false c a b =
    one-then (a_value condition.value) (value-reads false (Int one_bit) condition.value c) (λ at'.
    mark-then (
    seq-then (target if_true) (comma ∷ target if_false) (target-spelled if_true a) (λ x e.
    mark-then (
    seq-last (target-spelled if_false b) (λ y e'.
    spelled-give
    (same-both (λ (u v : WrittenName). end.CondBranch no_place (operand_of condition) u v)
    e e'))))))

cond-branch-spelled : (bit : Place) (condition : WrittenOperand) (if_true if_false : WrittenName)
    → FitsValue false (Int one_bit) condition.value → IsName if_true.name → IsName if_false.name
    → IsSpelled branch
    (piece.word space
    (codes "i1") ∷ value_piece condition.value ∷ comma
    ∷ (target if_true ++ comma ∷ target if_false))
    (λ x. terminator_of x ≡ terminator_of (end.CondBranch bit condition if_true if_false))
unfolding branch
cond-branch-spelled bit condition if_true if_false c a b =
    peek-second (λ at. at) (bit-reads space)
    (λ at. cond-spelled bit at condition if_true if_false c a b)

-- ---- cases

case-spelled : (s : List WrittenCase) (c : WrittenCase) (at : Place) → IsCase c
    → IsSpelled (with_case s (a_width c.of_type.width at))
    (piece.number space c.literal.value ∷ comma ∷ target c.to)
    (λ x. (d : WrittenCase) × (x ≡ s ++ d ∷ []) × (case_of d ≡ case_of c))
unfolding with_case
case-spelled s c at is =
    one-then (a_literal c.literal.value)
    (literal-reads space c.of_type.width c.literal.value is.literal) (λ at'.
    mark-then (
    seq-last (target-spelled c.to is.to) (λ x e.
    spelled-give (
      record {
        of_type = a_width c.of_type.width at;
        literal = a_literal c.literal.value at';
        to = x;
      },
      refl,
      ap
          (λ (y : WrittenName). record {
            of_type = int_type_of c.of_type;
            literal = literal_of c.literal;
            to = y;
          }) e,
    ))))

case-reads : (s : List WrittenCase) (w : Width) → length s < 256
    → Reads (part_begins is_type (case_begins s)) (case_within s) (piece.word space (width_text w))
    (a_width w)
case-reads s w few = record {
  stands_for =
      λ t. ap (λ (o : Option (Option Width)). part_value (is_some o) (int_typed_at o t.place))
      (width-again w);
  keeps = λ t. and_from _ _ (lt-ltb (length s) 256 few) (ap is_width (width-again w));
}

one-case : (s : List WrittenCase) (d c : WrittenCase) (cs : List WrittenCase)
    → case_of d ≡ case_of c
    → map case_of (s ++ d ∷ []) ++ map case_of cs ≡ map case_of s ++ map case_of (c ∷ cs)
one-case s d c cs e =
    ap (λ (xs : List WrittenCase). xs ++ map case_of cs) (map-append case_of s (d ∷ []))
    ∙ append_assoc (map case_of s) (case_of d ∷ []) (map case_of cs) ∙ ap
    (λ (x : WrittenCase). map case_of s ++ x ∷ map case_of cs) e

one-longer : (s : List WrittenCase) (d c : WrittenCase) (cs : List WrittenCase)
    → length s + length (c ∷ cs) ≤ 256 → length (s ++ d ∷ []) + length cs ≤ 256
one-longer s d c cs few = omega (arith, few, length-append s (d ∷ []))

cases-spelled : (s cs : List WrittenCase) → AllByRecursion IsCase cs → length s + length cs ≤ 256
    → AreSpelled is_type case_begins case_within with_case s (flat_map case_pieces cs)
    (λ x. map case_of x ≡ map case_of s ++ map case_of cs)
cases-spelled s [] all few = no-more (sym (append-nil (map case_of s)))
cases-spelled s (c ∷ cs) (is, all) few =
    one-more {Next = λ x. (d : WrittenCase) × (x ≡ s ++ d ∷ []) × (case_of d ≡ case_of c)}
    (piece.word space (width_text c.of_type.width))
    (piece.number space c.literal.value ∷ comma ∷ target c.to) (flat_map case_pieces cs)
    (a_width c.of_type.width) (case-reads s c.of_type.width (omega (arith, few)))
    (λ at. case-spelled s c at is)
    (λ x (d, e, same). subst
    (λ (y : List WrittenCase). AreSpelled is_type case_begins case_within with_case y
    (flat_map case_pieces cs) (λ z. map case_of z ≡ map case_of s ++ map case_of (c ∷ cs)))
    (sym e)
    (more-as (cases-spelled (s ++ d ∷ []) cs all (one-longer s d c cs few))
    (λ z is'. is' ∙ one-case s d c cs same)))

switch-spelled : (type : WrittenIntType) (o : WrittenOperand) (default : WrittenName)
    (cs : List WrittenCase) → FitsValue false (Int type.width) o.value → IsName default.name
    → length cs ≤ 256 → AllByRecursion IsCase cs
    → IsSpelled switch
    (piece.word space
    (width_text type.width) ∷ value_piece o.value ∷ comma ∷ (target default ++ piece.mark space
    (codes "[") ∷ (flat_map case_pieces cs ++ piece.mark space (codes "]") ∷ [])))
    (λ x. terminator_of x ≡ terminator_of (end.Switch type o default cs))
unfolding switch cases
switch-spelled type o default cs fits is few all =
    one-then (a_width type.width) (width-reads space type.width) (λ at.
    one-then (a_value o.value) (value-reads false (Int type.width) o.value fits) (λ at'.
    mark-then (
    seq-then (target default)
    (piece.mark space
    (codes "[") ∷ (flat_map case_pieces cs ++ piece.mark space (codes "]") ∷ []))
    (target-spelled default is) (λ x e.
    mark-then (
    upto-then (flat_map case_pieces cs) [] (piece.mark space (codes "]")) (λ at''. tt)
    (tail-from is_type never (cases-spelled [] cs all (omega (arith, few))))
    (λ s same. record { stands_for = λ t. refl; keeps = λ t. refl }) (λ s same at''.
    spelled-give
    (same-both
    (λ (u : WrittenName) (v : List WrittenCase). end.Switch (int_type_of type) (operand_of o)
    u v) e same)))))))

-- ---- all

abbrev pub end_word : WrittenTerminator → TerminatorWord
end_word (end.Return r) = finish.Return
end_word (end.Branch to) = finish.Branch
end_word (end.CondBranch bit condition if_true if_false) = finish.Branch
end_word (end.Switch type o default cs) = finish.Switch
end_word end.Unreachable = finish.Unreachable

abbrev pub end_text : WrittenTerminator → List ℕ
end_text (end.Return r) = codes "ret"
end_text (end.Branch to) = codes "br"
end_text (end.CondBranch bit condition if_true if_false) = codes "br"
end_text (end.Switch type o default cs) = codes "switch"
end_text end.Unreachable = codes "unreachable"

-- after the word
abbrev pub end_pieces : WrittenTerminator → List Piece
end_pieces (end.Return r) = returned_pieces r
end_pieces (end.Branch to) = target to
end_pieces (end.CondBranch bit condition if_true if_false) =
    piece.word space
    (codes "i1") ∷ value_piece condition.value ∷ comma ∷ (target if_true ++ comma ∷ target if_false)
end_pieces (end.Switch type o default cs) =
    piece.word space
    (width_text type.width) ∷ value_piece o.value ∷ comma ∷ (target default ++ piece.mark space
    (codes "[") ∷ (flat_map case_pieces cs ++ piece.mark space (codes "]") ∷ []))
end_pieces end.Unreachable = []

pub end-parts : (t : WrittenTerminator)
    → piece.word indented (end_text t) ∷ end_pieces t ≡ terminator_pieces t
end-parts (end.Return r) = refl
end-parts (end.Branch to) = refl
end-parts (end.CondBranch bit condition if_true if_false) = refl
end-parts (end.Switch type o default cs) = refl
end-parts end.Unreachable = refl

pub end-reads : (t : WrittenTerminator) (room : Bool) → room ≡ true
    → Reads (terminator_word room).stands (terminator_word room).within
    (piece.word indented (end_text t)) (λ at. end_word t)
end-reads (end.Return r) room e = record { stands_for = λ t. refl; keeps = λ t. e }
end-reads (end.Branch to) room e = record { stands_for = λ t. refl; keeps = λ t. e }
end-reads (end.CondBranch bit condition if_true if_false) room e =
    record { stands_for = λ t. refl; keeps = λ t. e }
end-reads (end.Switch type o default cs) room e = record { stands_for = λ t. refl; keeps = λ t. e }
end-reads end.Unreachable room e = record { stands_for = λ t. refl; keeps = λ t. e }

pub end-spelled : (t : WrittenTerminator) → IsTerminator t → IsSpelled (terminator_by (end_word t))
    (end_pieces t) (λ x. terminator_of x ≡ terminator_of t)
unfolding return_of
end-spelled (end.Return r) is =
    seq-last (returned-spelled r is)
    (λ x e. spelled-give (ap (λ (y : WrittenReturn). end.Return y) e))
end-spelled (end.Branch to) is = branch-spelled to is
end-spelled (end.CondBranch bit condition if_true if_false) (c, a, b) =
    cond-branch-spelled bit condition if_true if_false c a b
end-spelled (end.Switch type o default cs) (fits, is, few, all) =
    switch-spelled type o default cs fits is few all
end-spelled end.Unreachable is = spelled-give refl
