-- Printed lines of instructions are spelled, with what follows their commas.
use Rattle.read_back.proofs.Common.{◌≡◌, ℕ, true, false, List, [], ◌∷◌, ◌++◌, map, Some, refl, sym, ap, subst, ◌∙◌, codes, append_assoc, append-nil, nat_lt, flat_map, AllByRecursion, Contains, map-append, Place, alignments, Name, Int, LineStart, WrittenName, WrittenObject, WrittenIndex, WrittenGep, WrittenAccess, WrittenInst, WrittenLine, WrittenLines, aligned, align_or_attachment, with_index, next_index, index_or_attachment, line_named, is_comma, line_comma, with_comma, commas, starts_line, line_begins, line_within, may_have_phi, next_number, started, whole_line, with_inst, with_line, next_line, never, part_begins, Piece, space, indented, comma, width_text, type_text, object_pieces, word_if, op_pieces, predicate_text, cast_pieces, align_pieces}
use Rattle.ir_words.specs.declared.word.LineStart.TheVariants as start
use Rattle.ir_words.specs.declared.written.WrittenAccess.TheVariants as access
use Rattle.ir_words.specs.declared.written.WrittenInst.TheVariants as inst
use Rattle.ir_words.specs.declared.written.WrittenLine.TheVariants as line
use Rattle.ir_printer.specs.Pieces as piece
use Rattle.read_back.proofs.Written.{value_piece, typed_pieces, pointer_pieces, operand_pieces, index_pieces, access_pieces, inst_pieces}
use Rattle.read_back.proofs.Placeless.{index_of, access_of, gep_of, inst_of}
use Rattle.read_back.proofs.Spellable.{IsName, IsIndex, IsAccess, IsInst}
use Rattle.read_back.proofs.SpelledTokens.{Reads, IsSpelled, AreSpelled, spelled-give, one-then, spelled-mapped, spelled-as, peek-first, no-more, one-more, more-is, more-as, spelled-tail, tail-alone}
use Rattle.read_back.proofs.SpelledClasses.{a_name, a_width, a_value, width-reads, value-reads, alignment-reads}
use Rattle.read_back.proofs.SpelledNames.{name-again}
use Rattle.read_back.proofs.SpelledOperands.{word-reads}
use Rattle.read_back.proofs.SpelledInsts.{IsInstLine, cast_end, binary-line, icmp-line, cast-line, select-line, freeze-line}
use Rattle.read_back.proofs.SpelledMemory.{IsAccessLine, IsGepLine, without_indices, alloca-line, load-line, store-line, gep-line}

-- what follows commas, from this line on
abbrev pub Behind : WrittenLine → List Piece → (WrittenLine → Type 0) → Type 0
Behind l pieces Is =
    AreSpelled is_comma line_comma (λ l'. λ t. true) (λ l' comma. with_comma l') l pieces Is

-- a line that adds this instruction to a block
pub record Adds (i : WrittenInst) (l : WrittenLine) : Type 0 where
  pub inst : WrittenInst
  pub adds : (s : WrittenLines) → with_line s l ≡ with_inst s inst
  pub same : inst_of inst ≡ inst_of i

-- ---- alignments

align-spelled : (a : WrittenAccess) (align : ℕ) → Contains alignments align
    → IsSpelled (align_or_attachment a)
    (piece.word space (codes "align") ∷ piece.number space align ∷ [])
    (λ l. l ≡ line.Inst (inst.Access a align))
unfolding align_or_attachment aligned
align-spelled a align is =
    peek-first (λ at. tt) (word-reads space (codes "align") refl)
    (λ at. one-then (λ at'. align) (alignment-reads space align is) (λ at'. spelled-give refl))

behind-access : (a b : WrittenAccess) (align : ℕ) → Contains alignments align
    → access_of b ≡ access_of a → Behind (line.Access b) (align_pieces align)
    (Adds (inst.Access a align))
behind-access a b align is same =
    more-is (line.Inst (inst.Access b align)) comma
    (piece.word space (codes "align") ∷ piece.number space align ∷ []) [] (λ at. tt)
    (record { stands_for = λ t. refl; keeps = λ t. refl })
    (λ at. align-spelled b align is)
    (no-more
    (record {
      inst = inst.Access b align;
      adds = λ s. refl;
      same = ap (λ (x : WrittenAccess). inst.Access x align) same;
    }))

-- ---- indices

index-spelled : (g : WrittenGep) (i : WrittenIndex) → IsIndex i → IsSpelled (index_or_attachment g)
    (piece.word space (width_text i.of_type.width) ∷ value_piece i.operand.value ∷ [])
    (λ l. (j : WrittenIndex) × (l ≡ line.Indices (with_index g j)) × (index_of j ≡ index_of i))
unfolding index_or_attachment next_index
index-spelled g i fits =
    peek-first (a_width i.of_type.width) (width-reads space i.of_type.width) (λ at.
    one-then (a_value i.operand.value)
    (value-reads false (Int i.of_type.width) i.operand.value fits) (λ at'.
    spelled-give (
      record {
        of_type = a_width i.of_type.width at;
        operand = a_value i.operand.value at';
      },
      refl,
      refl,
    )))

-- a getelementptr's parts with more indices
abbrev with_more : WrittenGep → List WrittenIndex → WrittenGep
with_more g indices =
    record {
      into = (gep_of g).into;
      flags = (gep_of g).flags;
      of_type = (gep_of g).of_type;
      base = (gep_of g).base;
      indices = map index_of g.indices ++ map index_of indices;
    }

one-index : (g : WrittenGep) (j i : WrittenIndex) (indices : List WrittenIndex)
    → index_of j ≡ index_of i → with_more (with_index g j) indices ≡ with_more g (i ∷ indices)
one-index g j i indices e =
    ap
    (λ (more : List WrittenIndex). record {
      into = (gep_of g).into;
      flags = (gep_of g).flags;
      of_type = (gep_of g).of_type;
      base = (gep_of g).base;
      indices = more;
    }) (
    ap (λ (x : List WrittenIndex). x ++ map index_of indices)
    (map-append index_of g.indices (j ∷ [])) ∙ append_assoc (map index_of g.indices)
    (index_of j ∷ []) (map index_of indices) ∙ ap
    (λ (x : WrittenIndex). map index_of g.indices ++ x ∷ map index_of indices) e)

behind-gep : (g : WrittenGep) (indices : List WrittenIndex) → AllByRecursion IsIndex indices
    → Behind (line.Indices g) (flat_map index_pieces indices) (IsGepLine (with_more g indices))
behind-gep g [] all =
    no-more
    (record {
      gep = g;
      is = refl;
      same = ap
          (λ (more : List WrittenIndex). record {
            into = (gep_of g).into;
            flags = (gep_of g).flags;
            of_type = (gep_of g).of_type;
            base = (gep_of g).base;
            indices = more;
          }) (sym (append-nil (map index_of g.indices)));
    })
behind-gep g (i ∷ indices) (is, all) =
    one-more
    {Next = λ l.
    (j : WrittenIndex) × (l ≡ line.Indices (with_index g j)) × (index_of j ≡ index_of i)}
    comma (piece.word space (width_text i.of_type.width) ∷ value_piece i.operand.value ∷ [])
    (flat_map index_pieces indices) (λ at. tt)
    (record { stands_for = λ t. refl; keeps = λ t. refl })
    (λ at. index-spelled g i is)
    (λ l (j, e, same). subst
    (λ (l' : WrittenLine). Behind l' (flat_map index_pieces indices)
    (IsGepLine (with_more g (i ∷ indices)))) (sym e)
    (more-as (behind-gep (with_index g j) indices all)
    (λ l' is'. record {
      gep = is'.gep;
      is = is'.is;
      same = is'.same ∙ one-index g j i indices same;
    })))

gep-adds : (g : WrittenGep) (l : WrittenLine) → IsGepLine (gep_of g) l
    → Adds (inst.GetElementPtr g) l
gep-adds g l is =
    record {
      inst = inst.GetElementPtr is.gep;
      adds = λ s. ap (with_line s) is.is;
      same = ap (λ (x : WrittenGep). inst.GetElementPtr x) is.same;
    }

-- a getelementptr at other positions, without its indices yet
add-indices : (g h : WrittenGep) → gep_of h ≡ gep_of (without_indices g)
    → with_more h g.indices ≡ gep_of g
add-indices g h e =
    ap
    (λ (x : WrittenGep). record {
      into = x.into;
      flags = x.flags;
      of_type = x.of_type;
      base = x.base;
      indices = x.indices ++ map index_of g.indices;
    }) e

behind-gep-line : (g : WrittenGep) (l : WrittenLine) → AllByRecursion IsIndex g.indices
    → IsGepLine (gep_of (without_indices g)) l → Behind l (flat_map index_pieces g.indices)
    (Adds (inst.GetElementPtr g))
behind-gep-line g l all is =
    subst
    (λ (l' : WrittenLine). Behind l' (flat_map index_pieces g.indices)
    (Adds (inst.GetElementPtr g))) (sym is.is)
    (more-as (behind-gep is.gep g.indices all)
    (λ l' is'. gep-adds g l'
    (record
    { gep = is'.gep; is = is'.is; same = is'.same ∙ add-indices g is.gep is.same })))

-- ---- lines

inst-adds : (i : WrittenInst) (l : WrittenLine) → IsInstLine (inst_of i) l → Adds i l
inst-adds i l is = record { inst = is.inst; adds = λ s. ap (with_line s) is.is; same = is.same }

-- a block with one more instruction
pub record AddsTo (s : WrittenLines) (i : WrittenInst) (next : WrittenLines) : Type 0 where
  pub inst : WrittenInst
  pub is : next ≡ with_inst s inst
  pub same : inst_of inst ≡ inst_of i

adds-to : (s : WrittenLines) (i : WrittenInst) (l : WrittenLine) → Adds i l
    → AddsTo s i (with_line s l)
adds-to s i l is = record { inst = is.inst; is = is.adds s; same = is.same }

-- a line without a comma
line-alone : (s : WrittenLines) (a : LineStart) (i : WrittenInst) (ps : List Piece)
    → IsSpelled (started (may_have_phi s) (next_number s) a) ps (IsInstLine (inst_of i))
    → IsSpelled (next_line s a) ps (AddsTo s i)
unfolding next_line whole_line
line-alone s a i ps found =
    spelled-mapped commas
    (tail-alone is_comma never never
    (spelled-as found (λ l is. adds-to s i l (inst-adds i l is))))

-- a line with commas
line-with : {First : WrittenLine → Type 0} (s : WrittenLines) (a : LineStart) (i : WrittenInst)
    (ps qs : List Piece) → IsSpelled (started (may_have_phi s) (next_number s) a) ps First
    → ((l : WrittenLine) → First l → Behind l qs (Adds i)) → IsSpelled (next_line s a) (ps ++ qs)
    (AddsTo s i)
unfolding next_line whole_line
line-with {First = First} s a i ps qs found behind =
    spelled-mapped commas
    (spelled-as {S = Adds i}
    (spelled-tail is_comma never never {First = First} ps qs found behind)
    (λ l is. adds-to s i l is))

-- the lines of a block from this state on
abbrev pub Lines : WrittenLines → List Piece → (WrittenLines → Type 0) → Type 0
Lines s pieces Is = AreSpelled starts_line line_begins line_within next_line s pieces Is

pub result-reads : (s : WrittenLines) (n : Name) → IsName n → nat_lt 0 s.room ≡ true
    → Reads (part_begins starts_line (line_begins s)) (line_within s) (piece.local indented n)
    (λ at. start.Inst (a_name n at))
result-reads s n is room =
    record {
      stands_for = λ t. ap (λ (m : Name). Some (start.Inst (a_name m t.place))) (name-again n is);
      keeps = λ t. room;
    }

store-reads : (s : WrittenLines) → nat_lt 0 s.room ≡ true
    → Reads (part_begins starts_line (line_begins s)) (line_within s)
    (piece.word indented (codes "store")) (λ at. start.Store)
store-reads s room = record { stands_for = λ t. refl; keeps = λ t. room }

-- what is spelled by these pieces after each next state
abbrev Goes : WrittenLines → WrittenInst → List Piece → (WrittenLines → Type 0) → Type 0
Goes s i qs Is = (next : WrittenLines) → AddsTo s i next → Lines next qs Is

named-more : {Is : WrittenLines → Type 0} (s : WrittenLines) (n : Name) (i : WrittenInst)
    (ps qs : List Piece) → nat_lt 0 s.room ≡ true → IsName n
    → ((at : Place) → IsSpelled (next_line s (start.Inst (a_name n at))) ps (AddsTo s i))
    → Goes s i qs Is → Lines s (piece.local indented n ∷ ps ++ qs) Is
named-more s n i ps qs room is here more =
    one-more (piece.local indented n) ps qs (λ at. start.Inst (a_name n at))
    (result-reads s n is room) here more

alone-more : {Is : WrittenLines → Type 0} (s : WrittenLines) (n : Name) (i : WrittenInst)
    (ps qs : List Piece) → nat_lt 0 s.room ≡ true → IsName n
    → ((at : Place) → IsSpelled (line_named (may_have_phi s) (next_number s) (a_name n at)) ps
    (IsInstLine (inst_of i))) → Goes s i qs Is → Lines s (piece.local indented n ∷ ps ++ qs) Is
alone-more s n i ps qs room is here more =
    named-more s n i ps qs room is (λ at. line-alone s (start.Inst (a_name n at)) i ps (here at))
    more

behind-access-line : (a : WrittenAccess) (align : ℕ) (l : WrittenLine) → Contains alignments align
    → IsAccessLine (access_of a) l → Behind l (align_pieces align) (Adds (inst.Access a align))
behind-access-line a align l aligned is =
    subst (λ (l' : WrittenLine). Behind l' (align_pieces align) (Adds (inst.Access a align)))
    (sym is.is) (behind-access a is.access align aligned is.same)

access-more : {Is : WrittenLines → Type 0} (s : WrittenLines) (n : Name) (a : WrittenAccess)
    (align : ℕ) (ps qs : List Piece) → nat_lt 0 s.room ≡ true → IsName n → Contains alignments align
    → ((at : Place) → IsSpelled (line_named (may_have_phi s) (next_number s) (a_name n at)) ps
    (IsAccessLine (access_of a)))
    → Goes s (inst.Access a align) qs Is
    → Lines s (piece.local indented n ∷ (ps ++ align_pieces align) ++ qs) Is
access-more s n a align ps qs room is aligned here more =
    named-more s n (inst.Access a align) (ps ++ align_pieces align) qs room is
    (λ at. line-with s (start.Inst (a_name n at)) (inst.Access a align) ps (align_pieces align)
    (here at) (λ l e. behind-access-line a align l aligned e)) more

-- an alloca with the number that it has there
alloca-number : (n m : ℕ) (into : WrittenName) (type : WrittenObject) (l : WrittenLine) → m ≡ n
    → IsAccessLine (access_of (access.Alloca into n type)) l
    → IsAccessLine (access_of (access.Alloca into m type)) l
alloca-number n m into type l e is =
    record {
      access = is.access;
      is = is.is;
      same = is.same ∙ ap (λ (k : ℕ). access_of (access.Alloca into k type)) (sym e);
    }

accessed-more : {Is : WrittenLines → Type 0} (s : WrittenLines) (a : WrittenAccess) (align : ℕ)
    (qs : List Piece) → nat_lt 0 s.room ≡ true → IsAccess (next_number s) a
    → Contains alignments align → Goes s (inst.Access a align) qs Is
    → Lines s (access_pieces a align ++ qs) Is
accessed-more s (access.Alloca into number type) align qs room (is, numbered, object) aligned more =
    access-more s into.name (access.Alloca into number type) align
    (piece.mark space (codes "=") ∷ piece.word space
    (codes "alloca") ∷ object_pieces type.of_type) qs room is aligned
    (λ at. spelled-as
    (alloca-line (may_have_phi s) (next_number s) (a_name into.name at) type object)
    (λ l e. alloca-number (next_number s) number into type l numbered e)) more
accessed-more s (access.Load into type from) align qs room (is, pointer) aligned more =
    access-more s into.name (access.Load into type from) align
    (piece.mark space (codes "=") ∷ piece.word space (codes "load") ∷ piece.word space
    (type_text type.of_type) ∷ comma ∷ pointer_pieces from) qs room is aligned
    (λ at. load-line (may_have_phi s) (next_number s) (a_name into.name at)
    type from pointer) more
accessed-more s (access.Store value to) align qs room (fits, pointer) aligned more =
    one-more (piece.word indented (codes "store"))
    ((typed_pieces value ++ comma ∷ pointer_pieces to) ++ align_pieces align) qs
    (λ at. start.Store) (store-reads s room)
    (λ at. line-with s start.Store (inst.Access (access.Store value to) align)
    (typed_pieces value ++ comma ∷ pointer_pieces to) (align_pieces align)
    (store-line value to fits pointer)
    (λ l e. behind-access-line (access.Store value to) align l aligned e)) more

abbrev gep_front : WrittenGep → List Piece
gep_front g =
    word_if g.flags.inbounds (codes "inbounds") ++ word_if g.flags.nuw
    (codes "nuw") ++ object_pieces g.of_type.of_type

-- a getelementptr's flags, type and base, and its indices
gep-parts : (g : WrittenGep)
    → (gep_front g ++ comma ∷ pointer_pieces g.base) ++ flat_map index_pieces g.indices
    ≡ gep_front g ++ comma ∷ (pointer_pieces g.base ++ flat_map index_pieces g.indices)
gep-parts g =
    append_assoc (gep_front g) (comma ∷ pointer_pieces g.base) (flat_map index_pieces g.indices)

gep-more : {Is : WrittenLines → Type 0} (s : WrittenLines) (g : WrittenGep) (qs : List Piece)
    → nat_lt 0 s.room ≡ true → IsInst (next_number s) (inst.GetElementPtr g)
    → Goes s (inst.GetElementPtr g) qs Is → Lines s (inst_pieces (inst.GetElementPtr g) ++ qs) Is
gep-more {Is} s g qs room (is, flags, object, base, indices) more =
    subst
    (λ (ps : List Piece). Lines s
    (piece.local indented g.into.name ∷ (piece.mark space (codes "=") ∷ piece.word space
    (codes "getelementptr") ∷ ps) ++ qs) Is) (gep-parts g)
    (named-more s g.into.name (inst.GetElementPtr g)
    ((piece.mark space (codes "=") ∷ piece.word space
    (codes "getelementptr") ∷ (gep_front g ++ comma ∷ pointer_pieces g.base))
    ++ flat_map index_pieces g.indices)
    qs room is
    (λ at. line-with s (start.Inst (a_name g.into.name at)) (inst.GetElementPtr g)
    (piece.mark space (codes "=") ∷ piece.word space
    (codes "getelementptr") ∷ (gep_front g ++ comma ∷ pointer_pieces g.base))
    (flat_map index_pieces g.indices)
    (gep-line (may_have_phi s) (next_number s) (a_name g.into.name at)
    g.flags g.of_type g.base flags object base)
    (λ l e. behind-gep-line g l indices e))
    more)

pub inst-more : {Is : WrittenLines → Type 0} (s : WrittenLines) (i : WrittenInst) (qs : List Piece)
    → nat_lt 0 s.room ≡ true → IsInst (next_number s) i → Goes s i qs Is
    → Lines s (inst_pieces i ++ qs) Is
inst-more s (inst.Binary into o type left right) qs room (is, l, r) more =
    alone-more s into.name (inst.Binary into o type left right)
    (piece.mark space
    (codes "=") ∷ (op_pieces o ++ operand_pieces type.width left.value right.value))
    qs room is
    (λ at. binary-line (may_have_phi s) (next_number s) (a_name into.name at) o type left right l r)
    more
inst-more s (inst.Icmp into p same_sign type left right) qs room (is, l, r) more =
    alone-more s into.name (inst.Icmp into p same_sign type left right)
    (piece.mark space (codes "=") ∷ piece.word space
    (codes "icmp") ∷ (word_if same_sign (codes "samesign") ++ piece.word space
    (predicate_text p) ∷ operand_pieces type.width left.value right.value)) qs room is
    (λ at. icmp-line (may_have_phi s) (next_number s) (a_name into.name at)
    p same_sign type left right l r) more
inst-more s (inst.Cast into c from o to) qs room (is, fits) more =
    alone-more s into.name (inst.Cast into c from o to)
    (piece.mark space (codes "=") ∷ (cast_pieces c ++ cast_end from o to)) qs room is
    (λ at. cast-line (may_have_phi s) (next_number s) (a_name into.name at) c from o to fits) more
inst-more s (inst.Select into bit condition if_true if_false) qs room (is, c, a, b) more =
    alone-more s into.name (inst.Select into bit condition if_true if_false)
    (piece.mark space (codes "=") ∷ piece.word space (codes "select") ∷ piece.word space
    (codes "i1") ∷ value_piece condition.value ∷ comma
    ∷ (typed_pieces if_true ++ comma ∷ typed_pieces if_false))
    qs room is
    (λ at. select-line (may_have_phi s) (next_number s) (a_name into.name at)
    bit condition if_true if_false c a b) more
inst-more s (inst.Freeze into t) qs room (is, fits) more =
    alone-more s into.name (inst.Freeze into t)
    (piece.mark space (codes "=") ∷ piece.word space (codes "freeze") ∷ typed_pieces t) qs room is
    (λ at. freeze-line (may_have_phi s) (next_number s) (a_name into.name at) t fits) more
inst-more s (inst.Access a align) qs room (is, aligned) more =
    accessed-more s a align qs room is aligned more
inst-more s (inst.GetElementPtr g) qs room is more = gep-more s g qs room is more
