-- What is spellable is spelled by the tokens that are printed.
use Rattle.read_back.proofs.Common.{◌≡◌, ℕ, ◌≤◌, Bool, true, false, List, [], ◌∷◌, ◌++◌, map, length, Option, Some, None, refl, sym, ap, subst, ◌∙◌, codes, arith, append_assoc, flat_map, Place, no_place, Name, WrittenName, WrittenParameter, WrittenBody, WrittenBlock, WrittenBlocks, WrittenFunction, is_prefix, prefixes, follows_header, header_parts, define, name_or, names_of, named_behind, entry_name, next_name, never, Piece, none, space, word_if, return_text}
use Rattle.ir_printer.specs.Pieces as piece
use Rattle.read_back.proofs.Written.{parameters_pieces, body_pieces, block_pieces, written_pieces}
use Rattle.read_back.proofs.Placeless.{name_of, parameter_of, body_of, block_of, return_type_of, placeless}
use Rattle.read_back.proofs.Spellable.{IsSpellable}
use Rattle.read_back.proofs.Steps.{SpellableIsSpelled}
use Rattle.read_back.proofs.SpelledTokens.{IsSpelled, all-match, spelled-give, one-then, seq-then, upto-then, upto-is, flag-more, no-more, tail-from}
use Rattle.read_back.proofs.SpelledClasses.{a_name, a_return, global-reads, return-reads}
use Rattle.read_back.proofs.SpelledOperands.{word-then, mark-then}
use Rattle.read_back.proofs.SpelledInsts.{same-both}
use Rattle.read_back.proofs.SpelledGivenNames.{given-name, named-all, named-length}
use Rattle.read_back.proofs.SpelledParameters.{as_written, names-again, parameters-spelled}
use Rattle.read_back.proofs.SpelledBlocks.{labelled, BlocksAre, blocks-spelled}

prefixes-spelled : (no_undef : Bool) → IsSpelled prefixes (word_if no_undef (codes "noundef"))
    (λ x. x ≡ no_undef)
unfolding prefixes
prefixes-spelled false = tail-from is_prefix never (no-more refl)
prefixes-spelled true =
    tail-from is_prefix never
    (flag-more true (record { stands_for = λ t. refl; keeps = λ t. refl }) (no-more refl))

no-header : IsSpelled header_parts [] (λ x. Unit {0})
unfolding header_parts
no-header = tail-from follows_header never (no-more tt)

-- ---- the function without its positions

label-again : (o : Option WrittenName) (other n : Name) → labelled o ≡ Some n → name_or o other ≡ n
label-again None other n e = absurd (cc e)
label-again (Some x) other n e = cc e

-- a function with these positions and parts, and the other parts of w
abbrev a_function : WrittenFunction → Place → Place → Place → List WrittenParameter → WrittenBlocks
    → WrittenFunction
a_function w at at' brace ps b = record {
  returns_no_undef = w.returns_no_undef;
  returns = a_return w.returns.of_type at;
  name = a_name w.name.name at';
  parameters = ps;
  brace = brace;
  label = b.label;
  entry = b.entry;
  others = b.others;
}

abbrev without_places : WrittenFunction → List WrittenParameter → Name → WrittenBody
    → List WrittenBlock → WrittenFunction
without_places w ps n entry others =
    record {
      returns_no_undef = w.returns_no_undef;
      returns = return_type_of w.returns;
      name = name_of w.name;
      parameters = ps;
      brace = no_place;
      label = Some (a_name n no_place);
      entry = entry;
      others = others;
    }

same-function : (w : WrittenFunction) (at at' brace : Place) (ps : List WrittenParameter)
    (b : WrittenBlocks) → map as_written ps ≡ map parameter_of (named_behind [] w.parameters)
    → BlocksAre (Some (entry_name w)) (body_of w.entry) (map block_of w.others) b
    → placeless (a_function w at at' brace ps b) ≡ placeless w
same-function w at at' brace ps b P B =
    let label : entry_name (a_function w at at' brace ps b) ≡ entry_name w = label-again b.label
    (next_name (names_of (named_behind [] ps))) (entry_name w) B.is_label in
    same-both
    (λ (qs : List WrittenParameter) (n : Name). without_places w qs n (body_of b.entry)
    (map block_of b.others)) (names-again [] ps (named_behind [] w.parameters) P) label
    ∙ same-both
    (λ (x : WrittenBody) (y : List WrittenBlock). without_places w
    (map parameter_of (named_behind [] w.parameters)) (entry_name w) x y)
    B.is_entry B.are_others

-- ---- define

abbrev rest_pieces : WrittenFunction → List Piece
rest_pieces w =
    piece.mark space
    (codes "{") ∷ (body_pieces (entry_name w)
    w.entry ++ flat_map block_pieces w.others ++ piece.mark piece.line (codes "}") ∷ [])

abbrev inner_pieces : WrittenFunction → List Piece
inner_pieces w =
    piece.word space
    (return_text w.returns.of_type) ∷ piece.global space w.name.name ∷ piece.mark none
    (codes "(") ∷ ((parameters_pieces (named_behind [] w.parameters) ++ piece.mark none
    (codes ")") ∷ []) ++ rest_pieces w)

pieces-parts : (gap : List ℕ) (w : WrittenFunction)
    → piece.word gap
    (codes "define") ∷ (word_if w.returns_no_undef
    (codes "noundef") ++ inner_pieces w) ≡ written_pieces gap w
pieces-parts gap w =
    ap
    (λ (ps : List Piece). piece.word gap
    (codes "define") ∷ (word_if w.returns_no_undef (codes "noundef") ++ piece.word space
    (return_text w.returns.of_type) ∷ piece.global space w.name.name ∷ piece.mark none
    (codes "(") ∷ ps))
    (append_assoc (parameters_pieces (named_behind [] w.parameters))
    (piece.mark none (codes ")") ∷ []) (rest_pieces w))
    ∙ ap (λ (ps : List Piece). piece.word gap (codes "define") ∷ ps)
    (sym
    (append_assoc (word_if w.returns_no_undef (codes "noundef"))
    (piece.word space
    (return_text w.returns.of_type) ∷ piece.global space w.name.name ∷ piece.mark none
    (codes "(") ∷ [])
    (parameters_pieces (named_behind [] w.parameters) ++ piece.mark none
    (codes ")") ∷ rest_pieces w)))

define-spelled : (gap : List ℕ) (w : WrittenFunction) → IsSpellable w
    → IsSpelled define
    (piece.word gap
    (codes "define") ∷ (word_if w.returns_no_undef (codes "noundef") ++ inner_pieces w))
    (λ x. placeless x ≡ placeless w)
unfolding define
define-spelled gap w S =
    let names = named-all [] w.parameters tt S.parameters in
    let label = given-name (named_behind [] w.parameters) names w.label S.label in
    let few : length (named_behind [] w.parameters) ≤ 16 = omega
    (arith, S.few, named-length [] w.parameters) in
    word-then (
    upto-is w.returns_no_undef (word_if w.returns_no_undef (codes "noundef"))
    (piece.global space w.name.name ∷ piece.mark none
    (codes "(") ∷ ((parameters_pieces (named_behind [] w.parameters) ++ piece.mark none
    (codes ")") ∷ []) ++ rest_pieces w))
    (piece.word space (return_text w.returns.of_type)) (a_return w.returns.of_type)
    (prefixes-spelled w.returns_no_undef) (return-reads space w.returns.of_type) (λ at.
    one-then (a_name w.name.name) (global-reads space w.name.name S.name) (λ at'.
    mark-then (
    seq-then (parameters_pieces (named_behind [] w.parameters) ++ piece.mark none (codes ")") ∷ [])
    (rest_pieces w) (parameters-spelled (named_behind [] w.parameters) names few) (λ ps P.
    upto-then []
    (body_pieces (entry_name w) w.entry ++ flat_map block_pieces w.others ++ piece.mark piece.line
    (codes "}") ∷ []) (piece.mark space (codes "{")) (λ at''. at'') no-header
    (λ s u. record { stands_for = λ t. refl; keeps = λ t. refl }) (λ s u at''.
    upto-then (body_pieces (entry_name w) w.entry ++ flat_map block_pieces w.others) []
    (piece.mark piece.line (codes "}")) (λ at'''. tt)
    (blocks-spelled (entry_name w) w.entry w.others label S.entry S.others)
    (λ b B. record { stands_for = λ t. refl; keeps = λ t. refl }) (λ b B at'''.
    spelled-give (same-function w at at' at'' ps b P B))))))))

pub spellable_is_spelled : SpellableIsSpelled
spellable_is_spelled gap w S tokens e =
    let found : IsSpelled define (written_pieces gap w) (λ x. placeless x ≡ placeless w) = subst
    (λ (ps : List Piece). IsSpelled define ps (λ x. placeless x ≡ placeless w))
    (pieces-parts gap w) (define-spelled gap w S) in
    found.spells tokens [] (all-match (written_pieces gap w) tokens e)
