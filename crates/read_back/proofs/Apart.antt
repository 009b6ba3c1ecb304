-- The tokens of a printed function stay apart.
use Rattle.read_back.proofs.Common.{◌≡◌, ℕ, ◌+◌, Bool, true, false, List, [], ◌∷◌, ◌++◌, length, Option, Some, None, refl, subst, append-nil, list_all, flat_map, AllByRecursion, is_blank, class_of, one_bit, Name, IrType, Int, WrittenEntry, WrittenPhi, WrittenCase, WrittenReturn, Void, Value, WrittenTerminator, WrittenBody, WrittenBlock, WrittenFunction, NamedParameter, named_behind, entry_name, Piece, AreApart, none, space, line, indented, word, mark, number, comma, local, global, label, width_text, type_text, word_if, return_text}
use Rattle.std.specs.Prelude.{codes}
use Rattle.ir_lexer.specs.declared.token.Kind.TheVariants as kind
use Rattle.ir_words.specs.declared.written.WrittenTerminator.TheVariants as end
use Rattle.read_back.proofs.Written.{value_piece, target, result_pieces, inst_pieces, entry_pieces, entries_pieces, phi_pieces, case_pieces, returned_pieces, terminator_pieces, body_pieces, block_pieces, parameter_pieces, parameters_pieces, written_pieces}
use Rattle.read_back.proofs.Spellable.{IsName, IsEntry, IsPhi, IsCase, IsReturned, IsTerminator, IsBody, body_size, AreBlocks, IsSpellable}
use Rattle.read_back.proofs.ApartLinks.{gap-alone, Stands, Links, nothing-links, links-append, stands-append, token-stands, free-links, mark-links}
use Rattle.read_back.proofs.ApartPieces.{word-token, begun, word_if-links, mark-alone, number-free, literal-small, local-free, global-free, label-free, width-class, type-class, value-free, typed-links, target-links, result-links}
use Rattle.read_back.proofs.ApartNext.{AreNamed, parameters-named, entry-named}
use Rattle.read_back.proofs.ApartInsts.{said-links, comma-links, insts-links}

-- ---- phis

entry_links : (type : IrType) (e : WrittenEntry) → IsEntry type e → Links (entry_pieces e)
entry_links type e h =
    free-links (mark space (codes "[")) (value_piece e.operand.value ∷ comma ∷ local space e.from.name ∷ mark space (codes "]") ∷ []) (mark-alone space 91 refl refl refl).free
    (free-links (value_piece e.operand.value) (comma ∷ local space e.from.name ∷ mark space (codes "]") ∷ []) (value-free false type e.operand.value h.value)
    (comma-links (local space e.from.name ∷ mark space (codes "]") ∷ [])
    (free-links (local space e.from.name) (mark space (codes "]") ∷ []) (local-free e.from.name h.from)
    (free-links (mark space (codes "]")) [] (mark-alone space 93 refl refl refl).free nothing-links))))

other_entries_links : (type : IrType) (entries : List WrittenEntry) → AllByRecursion (IsEntry type) entries → Links (flat_map (λ (other : WrittenEntry). comma ∷ entry_pieces other) entries)
other_entries_links type [] h = nothing-links
other_entries_links type (e ∷ entries) h =
    links-append (comma ∷ entry_pieces e) (flat_map (λ (other : WrittenEntry). comma ∷ entry_pieces other) entries) (comma-links (entry_pieces e) (entry_links type e h.0)) (other_entries_links type entries h.1)

entries_links : (type : IrType) (entries : List WrittenEntry) → AllByRecursion (IsEntry type) entries → Links (entries_pieces entries)
entries_links type [] h = nothing-links
entries_links type (e ∷ entries) h =
    links-append (entry_pieces e) (flat_map (λ (other : WrittenEntry). comma ∷ entry_pieces other) entries) (entry_links type e h.0) (other_entries_links type entries h.1)

phi_links : (phi : WrittenPhi) → IsPhi phi → Links (phi_pieces phi)
phi_links phi h =
    links-append (result_pieces phi.into) (word space (codes "phi") ∷ word space (type_text phi.of_type.of_type) ∷ entries_pieces phi.entries) (result-links phi.into h.into)
    (said-links (codes "phi") (word space (type_text phi.of_type.of_type) ∷ entries_pieces phi.entries) refl
    (said-links (type_text phi.of_type.of_type) (entries_pieces phi.entries) (type-class phi.of_type.of_type) (entries_links phi.of_type.of_type phi.entries h.each)))

phis_links : (phis : List WrittenPhi) → AllByRecursion IsPhi phis → Links (flat_map phi_pieces phis)
phis_links [] h = nothing-links
phis_links (phi ∷ phis) h = links-append (phi_pieces phi) (flat_map phi_pieces phis) (phi_links phi h.0) (phis_links phis h.1)

-- ---- terminators

case_links : (c : WrittenCase) → IsCase c → Links (case_pieces c)
case_links c h =
    said-links (width_text c.of_type.width) (number space c.literal.value ∷ comma ∷ target c.to) (width-class c.of_type.width)
    (free-links (number space c.literal.value) (comma ∷ target c.to) (number-free c.literal.value (literal-small c.of_type.width c.literal.value h.literal))
    (comma-links (target c.to) (target-links c.to h.to)))

cases_links : (cases : List WrittenCase) → AllByRecursion IsCase cases → Links (flat_map case_pieces cases)
cases_links [] h = nothing-links
cases_links (c ∷ cases) h = links-append (case_pieces c) (flat_map case_pieces cases) (case_links c h.0) (cases_links cases h.1)

returned_links : (r : WrittenReturn) → IsReturned r → Links (returned_pieces r)
returned_links (Void at) h = said-links (codes "void") [] refl nothing-links
returned_links (Value t) h = typed-links true t h

begun_links : (text : List ℕ) (ps : List Piece) → class_of text ≡ Some kind.Word → Links ps → Links (word indented text ∷ ps)
begun_links text ps class links = free-links (word indented text) ps (begun text class) links

terminator_links : (t : WrittenTerminator) → IsTerminator t → Links (terminator_pieces t)
terminator_links (end.Return returned) h = begun_links (codes "ret") (returned_pieces returned) refl (returned_links returned h)
terminator_links (end.Branch to) h = begun_links (codes "br") (target to) refl (target-links to h)
terminator_links (end.CondBranch bit condition if_true if_false) h =
    begun_links (codes "br") (word space (codes "i1") ∷ value_piece condition.value ∷ comma ∷ (target if_true ++ comma ∷ target if_false)) refl
    (said-links (codes "i1") (value_piece condition.value ∷ comma ∷ (target if_true ++ comma ∷ target if_false)) refl
    (free-links (value_piece condition.value) (comma ∷ (target if_true ++ comma ∷ target if_false)) (value-free false (Int one_bit) condition.value h.0)
    (comma-links (target if_true ++ comma ∷ target if_false)
    (links-append (target if_true) (comma ∷ target if_false) (target-links if_true h.1) (comma-links (target if_false) (target-links if_false h.2))))))
terminator_links (end.Switch type o default cases) h =
    let list : List Piece = mark space (codes "[") ∷ (flat_map case_pieces cases ++ mark space (codes "]") ∷ []) in
    begun_links (codes "switch") (word space (width_text type.width) ∷ value_piece o.value ∷ comma ∷ (target default ++ list)) refl
    (said-links (width_text type.width) (value_piece o.value ∷ comma ∷ (target default ++ list)) (width-class type.width)
    (free-links (value_piece o.value) (comma ∷ (target default ++ list)) (value-free false (Int type.width) o.value h.0)
    (comma-links (target default ++ list)
    (links-append (target default) list (target-links default h.1)
    (free-links (mark space (codes "[")) (flat_map case_pieces cases ++ mark space (codes "]") ∷ []) (mark-alone space 91 refl refl refl).free
    (links-append (flat_map case_pieces cases) (mark space (codes "]") ∷ []) (cases_links cases h.3)
    (free-links (mark space (codes "]")) [] (mark-alone space 93 refl refl refl).free nothing-links)))))))
terminator_links end.Unreachable h = begun_links (codes "unreachable") [] refl nothing-links

-- ---- blocks

body_links : (label_name : Name) (n : ℕ) (b : WrittenBody) → IsName label_name → IsBody n b → Links (body_pieces label_name b)
body_links label_name n b named h =
    free-links (label label_name) (flat_map phi_pieces b.phis ++ (flat_map inst_pieces b.insts ++ terminator_pieces b.terminator)) (label-free label_name named)
    (links-append (flat_map phi_pieces b.phis) (flat_map inst_pieces b.insts ++ terminator_pieces b.terminator) (phis_links b.phis h.phis)
    (links-append (flat_map inst_pieces b.insts) (terminator_pieces b.terminator) (insts-links (n + length b.phis) b.insts h.insts) (terminator_links b.terminator h.last)))

blocks_links : (n : ℕ) (bs : List WrittenBlock) → AreBlocks n bs → Links (flat_map block_pieces bs)
blocks_links n [] h = nothing-links
blocks_links n (b ∷ bs) h =
    links-append (block_pieces b) (flat_map block_pieces bs) (body_links b.label.name n b.body h.0 h.1) (blocks_links (n + body_size b.body) bs h.2)

-- ---- functions

attributes_links : (p : NamedParameter) → IsName p.name → Links (word_if p.no_undef (codes "noundef") ++ (word_if p.non_null (codes "nonnull") ++ local space p.name ∷ []))
attributes_links p h =
    links-append (word_if p.no_undef (codes "noundef")) (word_if p.non_null (codes "nonnull") ++ local space p.name ∷ []) (word_if-links p.no_undef (codes "noundef") refl)
    (links-append (word_if p.non_null (codes "nonnull")) (local space p.name ∷ []) (word_if-links p.non_null (codes "nonnull") refl) (free-links (local space p.name) [] (local-free p.name h) nothing-links))

others_links : (ps : List NamedParameter) → AreNamed ps → Links (flat_map (λ (other : NamedParameter). comma ∷ parameter_pieces space other) ps)
others_links [] h = nothing-links
others_links (p ∷ ps) h =
    links-append (comma ∷ parameter_pieces space p) (flat_map (λ (other : NamedParameter). comma ∷ parameter_pieces space other) ps)
    (comma-links (parameter_pieces space p) (said-links (type_text p.of_type) (word_if p.no_undef (codes "noundef") ++ (word_if p.non_null (codes "nonnull") ++ local space p.name ∷ [])) (type-class p.of_type) (attributes_links p h.0)))
    (others_links ps h.1)

-- parameters, and what links after them
parameters_stand : (ps : List NamedParameter) (rest : List Piece) → AreNamed ps → Links rest → Stands (parameters_pieces ps ++ rest)
parameters_stand [] rest h links = links.stands
parameters_stand (p ∷ ps) rest h links =
    stands-append (parameters_pieces (p ∷ ps)) rest
    (stands-append (parameter_pieces none p) (flat_map (λ (other : NamedParameter). comma ∷ parameter_pieces space other) ps)
    (token-stands (word none (type_text p.of_type)) (word_if p.no_undef (codes "noundef") ++ (word_if p.non_null (codes "nonnull") ++ local space p.name ∷ []))
    (word-token none (type_text p.of_type) refl (type-class p.of_type)) (attributes_links p h.0))
    (others_links ps h.1)) links

return_class : (type : Option IrType) → class_of (return_text type) ≡ Some kind.Word
return_class None = refl
return_class (Some type) = type-class type

named_links : (type : Option IrType) (n : Name) (rest : List Piece) → IsName n → Stands rest → Links (word space (return_text type) ∷ global space n ∷ mark none (codes "(") ∷ rest)
named_links type n rest h stands =
    said-links (return_text type) (global space n ∷ mark none (codes "(") ∷ rest) (return_class type)
    (free-links (global space n) (mark none (codes "(") ∷ rest) (global-free n h) (mark-links (mark none (codes "(")) rest (mark-alone none 40 refl refl refl) stands))

front_links : (test : Bool) (type : Option IrType) (n : Name) (rest : List Piece) → IsName n → Stands rest
    → Links ((word_if test (codes "noundef") ++ word space (return_text type) ∷ global space n ∷ mark none (codes "(") ∷ []) ++ rest)
front_links true type n rest h stands = said-links (codes "noundef") (word space (return_text type) ∷ global space n ∷ mark none (codes "(") ∷ rest) refl (named_links type n rest h stands)
front_links false type n rest h stands = named_links type n rest h stands

-- what follows the parameters, the name, and `define`
abbrev behind_parameters : WrittenFunction → List Piece
behind_parameters w = mark none (codes ")") ∷ mark space (codes "{") ∷ (body_pieces (entry_name w) w.entry ++ flat_map block_pieces w.others ++ mark line (codes "}") ∷ [])

abbrev behind_name : WrittenFunction → List Piece
behind_name w = parameters_pieces (named_behind [] w.parameters) ++ behind_parameters w

abbrev behind_define : WrittenFunction → List Piece
behind_define w = (word_if w.returns_no_undef (codes "noundef") ++ word space (return_text w.returns.of_type) ∷ global space w.name.name ∷ mark none (codes "(") ∷ []) ++ behind_name w

rest_links : (w : WrittenFunction) → IsSpellable w → Links (behind_parameters w)
rest_links w h =
    let blocks : List Piece = body_pieces (entry_name w) w.entry ++ flat_map block_pieces w.others in
    free-links (mark none (codes ")")) (mark space (codes "{") ∷ (blocks ++ mark line (codes "}") ∷ [])) (mark-alone none 41 refl refl refl).free
    (free-links (mark space (codes "{")) (blocks ++ mark line (codes "}") ∷ []) (mark-alone space 123 refl refl refl).free
    (links-append blocks (mark line (codes "}") ∷ [])
    (links-append (body_pieces (entry_name w) w.entry) (flat_map block_pieces w.others) (body_links (entry_name w) 0 w.entry (entry-named w h) h.entry) (blocks_links (body_size w.entry) w.others h.others))
    (free-links (mark line (codes "}")) [] (mark-alone line 125 refl refl refl).free nothing-links)))

written_rest : (w : WrittenFunction) → IsSpellable w → Links (behind_define w)
written_rest w h = front_links w.returns_no_undef w.returns.of_type w.name.name (behind_name w) h.name (parameters_stand (named_behind [] w.parameters) (behind_parameters w) (parameters-named w h) (rest_links w h))

pub written-stands : (gap : List ℕ) (w : WrittenFunction) → list_all is_blank gap ≡ true → IsSpellable w → Stands (written_pieces gap w)
written-stands gap w blanks h = token-stands (word gap (codes "define")) (behind_define w) (word-token gap (codes "define") blanks refl) (written_rest w h)

-- ---- functions with an empty line between two of them

-- after an empty line
abbrev later : WrittenFunction → List Piece
later w = written_pieces (10 ∷ 10 ∷ []) w

written_links : (w : WrittenFunction) → IsSpellable w → Links (later w)
written_links w h =
    free-links (word (10 ∷ 10 ∷ []) (codes "define")) (behind_define w)
    (record { token = word-token (10 ∷ 10 ∷ []) (codes "define") refl refl; alone = gap-alone (word (10 ∷ 10 ∷ []) (codes "define")) 10 (10 ∷ []) refl refl }) (written_rest w h)

later_links : (ws : List WrittenFunction) → AllByRecursion IsSpellable ws → Links (flat_map later ws)
later_links [] h = nothing-links
later_links (w ∷ ws) h = links-append (later w) (flat_map later ws) (written_links w h.0) (later_links ws h.1)

pub functions-apart : (w : WrittenFunction) (ws : List WrittenFunction) → IsSpellable w → AllByRecursion IsSpellable ws → AreApart (written_pieces none w ++ flat_map (written_pieces (10 ∷ 10 ∷ [])) ws) line
functions-apart w ws h all =
    subst (λ (ps : List Piece). AreApart ps line) (append-nil (written_pieces none w ++ flat_map later ws))
    ((stands-append (written_pieces none w) (flat_map later ws) (written-stands none w refl h) (later_links ws all)).apart [] line refl tt)
