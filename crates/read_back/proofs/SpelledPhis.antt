-- Printed phis are spelled.
use Rattle.read_back.proofs.Common.{◌≡◌, ℕ, ◌+◌, ◌≤◌, Bool, true, false, List, [], ◌∷◌, ◌++◌, map, length, refl, sym, ap, subst, ◌∙◌, codes, arith, append_assoc, append-nil, nat_lt, flat_map, AllByRecursion, lt-ltb, map-append, length-append, length-map, WrittenName, WrittenType, WrittenEntry, WrittenPhi, WrittenLine, WrittenLines, line_word, entry, phi, with_entry, next_entry, entry_or_attachment, line_named, is_comma, commas, may_have_phi, next_number, whole_line, with_phi, with_line, next_line, never, Piece, space, indented, comma, type_text}
use Rattle.ir_words.specs.declared.word.LineWord.TheVariants as word_of
use Rattle.ir_words.specs.declared.word.LineStart.TheVariants as start
use Rattle.ir_words.specs.declared.written.WrittenLine.TheVariants as line
use Rattle.ir_printer.specs.Pieces as piece
use Rattle.read_back.proofs.Written.{value_piece, entry_pieces, phi_pieces}
use Rattle.read_back.proofs.Placeless.{name_of, type_of, entry_of, phi_of}
use Rattle.read_back.proofs.Spellable.{IsEntry, IsPhi}
use Rattle.read_back.proofs.SpelledTokens.{Reads, IsSpelled, spelled-give, one-then, seq-last, spelled-mapped, spelled-as, peek-first, no-more, one-more, more-as, spelled-tail}
use Rattle.read_back.proofs.SpelledClasses.{a_name, a_type, a_value, local-reads, type-reads, value-reads}
use Rattle.read_back.proofs.SpelledOperands.{mark-then}
use Rattle.read_back.proofs.SpelledLines.{Behind, Lines, result-reads}

-- a phi that may get entries, with these parts
record IsPhiLine (v : WrittenPhi) (l : WrittenLine) : Type 0 where
  pub phi : WrittenPhi
  pub is : l ≡ line.Entries phi
  pub same : phi_of phi ≡ v

-- a block with one more phi
pub record AddsPhi (s : WrittenLines) (p : WrittenPhi) (next : WrittenLines) : Type 0 where
  pub phi : WrittenPhi
  pub is : next ≡ with_phi s phi
  pub same : phi_of phi ≡ phi_of p

abbrev entry_end : WrittenEntry → List Piece
entry_end e =
    value_piece e.operand.value ∷ comma ∷ piece.local space e.from.name ∷ piece.mark space
    (codes "]") ∷ []

entry-spelled : (type : WrittenType) (e : WrittenEntry) → IsEntry type.of_type e
    → IsSpelled (entry type) (entry_end e) (λ x. entry_of x ≡ entry_of e)
unfolding entry
entry-spelled type e is =
    one-then (a_value e.operand.value) (value-reads false type.of_type e.operand.value is.value)
    (λ at.
    mark-then (
    one-then (a_name e.from.name) (local-reads space e.from.name is.from) (λ at'.
    mark-then (
    spelled-give refl))))

-- ---- the first entry

abbrev a_phi : WrittenName → WrittenType → List WrittenEntry → WrittenPhi
a_phi into type entries = record { into = into; of_type = type; entries = entries }

phi-reads : (phi_too : Bool) → phi_too ≡ true
    → Reads (line_word phi_too).stands (line_word phi_too).within (piece.word space (codes "phi"))
    (λ at. word_of.Phi)
phi-reads phi_too e = record { stands_for = λ t. rw e refl; keeps = λ t. refl }

phi-line : (phi_too : Bool) (n : ℕ) (name : WrittenName) (type : WrittenType) (e : WrittenEntry)
    → phi_too ≡ true → IsEntry type.of_type e
    → IsSpelled (line_named phi_too n name)
    (piece.mark space (codes "=") ∷ piece.word space (codes "phi") ∷ piece.word space
    (type_text type.of_type) ∷ entry_pieces e) (IsPhiLine (phi_of (a_phi name type (e ∷ []))))
unfolding line_named phi
phi-line phi_too n name type e too is =
    mark-then (
    one-then (λ at. word_of.Phi) (phi-reads phi_too too) (λ at.
    one-then (a_type type.of_type) (type-reads space true type.of_type refl) (λ at'.
    mark-then (
    seq-last (entry-spelled (a_type type.of_type at') e is) (λ x same.
    spelled-give
    (record {
      phi = a_phi name (a_type type.of_type at') (x ∷ []);
      is = refl;
      same = ap (λ (y : WrittenEntry). a_phi (name_of name) (type_of type) (y ∷ [])) same;
    }))))))

-- ---- other entries

entry-again : (p : WrittenPhi) (e : WrittenEntry) → nat_lt (length p.entries) 16777216 ≡ true
    → IsEntry p.of_type.of_type e → IsSpelled (entry_or_attachment p) (entry_pieces e)
    (λ l. (x : WrittenEntry) × (l ≡ line.Entries (with_entry p x)) × (entry_of x ≡ entry_of e))
unfolding entry_or_attachment next_entry
entry-again p e room is =
    peek-first (λ at. tt) (record { stands_for = λ t. refl; keeps = λ t. room }) (λ at.
    seq-last (entry-spelled p.of_type e is) (λ x same.
    spelled-give (x, refl, same)))

-- a phi's parts with more entries
abbrev with_more : WrittenPhi → List WrittenEntry → WrittenPhi
with_more p entries =
    a_phi (name_of p.into) (type_of p.of_type) (map entry_of p.entries ++ map entry_of entries)

one-entry : (p : WrittenPhi) (x e : WrittenEntry) (entries : List WrittenEntry)
    → entry_of x ≡ entry_of e → with_more (with_entry p x) entries ≡ with_more p (e ∷ entries)
one-entry p x e entries same = ap (a_phi (name_of p.into) (type_of p.of_type)) (
    ap (λ (ys : List WrittenEntry). ys ++ map entry_of entries)
    (map-append entry_of p.entries (x ∷ [])) ∙ append_assoc (map entry_of p.entries)
    (entry_of x ∷ []) (map entry_of entries) ∙ ap
    (λ (y : WrittenEntry). map entry_of p.entries ++ y ∷ map entry_of entries) same)

abbrev others_pieces : List WrittenEntry → List Piece
others_pieces entries = flat_map (λ (other : WrittenEntry). comma ∷ entry_pieces other) entries

one-longer : (p : WrittenPhi) (x e : WrittenEntry) (entries : List WrittenEntry)
    → length p.entries + length (e ∷ entries) ≤ 16777216
    → length (with_entry p x).entries + length entries ≤ 16777216
one-longer p x e entries few = omega (arith, few, length-append p.entries (x ∷ []))

behind-phi : (p : WrittenPhi) (entries : List WrittenEntry)
    → AllByRecursion (IsEntry p.of_type.of_type) entries
    → length p.entries + length entries ≤ 16777216 → Behind (line.Entries p) (others_pieces entries)
    (IsPhiLine (with_more p entries))
behind-phi p [] all few =
    no-more
    (record {
      phi = p;
      is = refl;
      same = ap (a_phi (name_of p.into) (type_of p.of_type))
          (sym (append-nil (map entry_of p.entries)));
    })
behind-phi p (e ∷ entries) (is, all) few =
    one-more
    {Next = λ l.
    (x : WrittenEntry) × (l ≡ line.Entries (with_entry p x)) × (entry_of x ≡ entry_of e)}
    comma (entry_pieces e) (others_pieces entries) (λ at. tt)
    (record { stands_for = λ t. refl; keeps = λ t. refl })
    (λ at. entry-again p e (lt-ltb (length p.entries) 16777216 (omega (arith, few))) is)
    (λ l (x, same, alike). subst
    (λ (l' : WrittenLine). Behind l' (others_pieces entries)
    (IsPhiLine (with_more p (e ∷ entries)))) (sym same)
    (more-as (behind-phi (with_entry p x) entries all (one-longer p x e entries few))
    (λ l' is'. record {
      phi = is'.phi;
      is = is'.is;
      same = is'.same ∙ one-entry p x e entries alike;
    })))

-- ---- phis

one-entry-long : (p : WrittenPhi) (into : WrittenName) (type : WrittenType) (e : WrittenEntry)
    → phi_of p ≡ phi_of (a_phi into type (e ∷ [])) → length p.entries ≡ 1
one-entry-long p into type e same =
    let long : length (map entry_of p.entries) ≡ 1 = ap (λ (q : WrittenPhi). length q.entries)
    same in sym (length-map p.entries entry_of) ∙ long

phi-adds : (s : WrittenLines) (p : WrittenPhi) (l : WrittenLine) → IsPhiLine (phi_of p) l
    → AddsPhi s p (with_line s l)
phi-adds s p l is = record { phi = is.phi; is = ap (with_line s) is.is; same = is.same }

same-type : (p : WrittenPhi) (v : WrittenPhi) → phi_of p ≡ v → p.of_type.of_type ≡ v.of_type.of_type
same-type p v e = ap (λ (q : WrittenPhi). q.of_type.of_type) e

-- the entries after the first, and the line as a whole
behind-phi-line : (into : WrittenName) (type : WrittenType) (e : WrittenEntry)
    (entries : List WrittenEntry) (l : WrittenLine) → AllByRecursion (IsEntry type.of_type) entries
    → length (e ∷ entries) ≤ 16777216 → IsPhiLine (phi_of (a_phi into type (e ∷ []))) l
    → Behind l (others_pieces entries) (IsPhiLine (phi_of (a_phi into type (e ∷ entries))))
behind-phi-line into type e entries l all few is =
    let long = one-entry-long is.phi into type e is.same in
    let all' = subst (λ t. AllByRecursion (IsEntry t) entries) (sym (same-type is.phi _ is.same))
    all in
    subst
    (λ (l' : WrittenLine). Behind l' (others_pieces entries)
    (IsPhiLine (phi_of (a_phi into type (e ∷ entries))))) (sym is.is)
    (more-as (behind-phi is.phi entries all' (omega (arith, few, long)))
    (λ l' is'. record {
      phi = is'.phi;
      is = is'.is;
      same = is'.same ∙ ap
          (λ (q : WrittenPhi). a_phi q.into q.of_type (q.entries ++ map entry_of entries))
          is.same;
    }))

phi-by : {Is : WrittenLines → Type 0} (s : WrittenLines) (into : WrittenName) (type : WrittenType)
    (entries : List WrittenEntry) (qs : List Piece) → nat_lt 0 s.room ≡ true → may_have_phi s ≡ true
    → IsPhi (a_phi into type entries)
    → ((next : WrittenLines) → AddsPhi s (a_phi into type entries) next → Lines next qs Is)
    → Lines s (phi_pieces (a_phi into type entries) ++ qs) Is
unfolding next_line whole_line
phi-by s into type [] qs room too is more = absurd (omega (arith, is.some))
phi-by s into type (e ∷ entries) qs room too is more =
    one-more {Next = AddsPhi s (a_phi into type (e ∷ entries))} (piece.local indented into.name)
    ((piece.mark space (codes "=") ∷ piece.word space (codes "phi") ∷ piece.word space
    (type_text type.of_type) ∷ entry_pieces e) ++ others_pieces entries) qs
    (λ at. start.Inst (a_name into.name at)) (result-reads s into.name is.into room)
    (λ at. spelled-mapped commas
    (spelled-as {S = IsPhiLine (phi_of (a_phi into type (e ∷ entries)))}
    (spelled-tail is_comma never never {First = IsPhiLine (phi_of (a_phi into type (e ∷ [])))}
    (piece.mark space (codes "=") ∷ piece.word space (codes "phi") ∷ piece.word space
    (type_text type.of_type) ∷ entry_pieces e) (others_pieces entries)
    (phi-line (may_have_phi s) (next_number s) (a_name into.name at) type e too is.each.0)
    (λ l first. behind-phi-line into type e entries l is.each.1 is.few first))
    (λ l whole. phi-adds s (a_phi into type (e ∷ entries)) l whole)))
    more

pub phi-more : {Is : WrittenLines → Type 0} (s : WrittenLines) (p : WrittenPhi) (qs : List Piece)
    → nat_lt 0 s.room ≡ true → may_have_phi s ≡ true → IsPhi p
    → ((next : WrittenLines) → AddsPhi s p next → Lines next qs Is)
    → Lines s (phi_pieces p ++ qs) Is
phi-more s p qs room too is more = phi-by s p.into p.of_type p.entries qs room too is more
