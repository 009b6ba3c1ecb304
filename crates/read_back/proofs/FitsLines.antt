-- One line of a block, with what follows its commas.
use Rattle.read_back.proofs.Common.{◌≡◌, ℕ, zero, suc, ◌<◌, inl, inr, Bool, true, false, cond, List, length, Option, Some, None, codes, refl, subst, ◌||◌, not, nat_lt, bytes_eq, ltb-true, Place, Kind, name_in, Int, part_begins, LineStart, LineWord, Opcode, WrittenName, WrittenIndex, WrittenGep, WrittenLines, WrittenLine, is_word_of, opcode_of, inst_word, memory_word_of, or_word, line_word_of, named_at, label_line, inst_line, is_record, line_start, any, line_word, phi, alloca, load, store, gep, line_by, line_named, next_entry, entry_or_attachment, attached, aligned, align_or_attachment, with_index, next_index, index_or_attachment, is_comma, is_local_kind, starts_line, line_begins, line_within, may_have_phi, next_number, started, line_comma, with_comma, whole_line}
use Rattle.ir_lexer.specs.declared.token.Kind.TheVariants as kind
use Rattle.ir_words.specs.declared.word.LineStart.TheVariants as start
use Rattle.ir_words.specs.declared.word.LineWord.TheVariants as word_of
use Rattle.ir_words.specs.declared.written.WrittenInst.TheVariants as inst
use Rattle.ir_words.specs.declared.written.WrittenLine.TheVariants as line
use Rattle.ir_grammar.specs.Instructions as forms
use Rattle.read_back.proofs.Spellable.{IsName, IsPhi, IsAccess, IsIndex, IsInst}
use Rattle.read_back.proofs.FitsForms.{Stands, Gives, GivesParts}
use Rattle.read_back.proofs.FitsNames.{AreBytes, local-is, label-is}
use Rattle.read_back.proofs.FitsOperands.{operand-fits, pointer-gives}
use Rattle.read_back.proofs.FitsMemory.{part-begins, own-alignment, alignment-fits, alloca-object, gep-object}
use Rattle.read_back.proofs.FitsInsts.{inst-gives}
use Rattle.read_back.proofs.FitsPhis.{all-push, entry-gives, first-entry, one-entry-more}

-- ---- what begins a line

-- where an instruction begins there is room for it
abbrev IsStart : ℕ → LineStart → Type 0
IsStart room (start.Label name) = IsName name.name
IsStart room (start.Inst name) = (0 < room) × IsName name.name
IsStart room start.Store = 0 < room
IsStart room start.Record = Unit {0}

start-is : (room : ℕ) (a b : LineStart) → IsStart room a → Some a ≡ Some b → IsStart room b
start-is room a b h e = let same : a ≡ b = cc e in subst (λ (c : LineStart). IsStart room c) same h

result-start : (room : ℕ) (text : List ℕ) (at : Place) (a : LineStart) → AreBytes text → nat_lt 0 room ≡ true → inst_line (named_at (name_in kind.Local text) at) ≡ Some a → IsStart room a
result-start room text at a all some e = start-is room (start.Inst _) a (ltb-true 0 room some, local-is kind.Local text _ all refl) e

label-start : (room : ℕ) (is_new : Bool) (text : List ℕ) (at : Place) (a : LineStart) → AreBytes text → cond is_new (label_line (named_at (name_in kind.Label text) at)) None ≡ Some a → IsStart room a
label-start room true text at a all e = start-is room (start.Label _) a (label-is kind.Label text _ all refl) e
label-start room false text at a all e = absurd (cc e)

record-from : (room : ℕ) (b : Bool) (a : LineStart) → cond b (Some start.Record) None ≡ Some a → IsStart room a
record-from room true a e = start-is room start.Record a tt e
record-from room false a e = absurd (cc e)

store-from : (room : ℕ) (b : Bool) (a : LineStart) → (b ≡ true → 0 < room) → cond b (Some start.Store) None ≡ Some a → IsStart room a
store-from room true a some e = start-is room start.Store a (some refl) e
store-from room false a some e = absurd (cc e)

room-left : (b : Bool) (room : ℕ) → (not b || nat_lt 0 room) ≡ true → b ≡ true → 0 < room
room-left true room kept e = ltb-true 0 room kept
room-left false room kept e = absurd (cc e)

start-from : (room : ℕ) (is_new : Bool) (k : Kind) (text : List ℕ) (at : Place) (a : LineStart) → AreBytes text → (not (is_local_kind k || is_word_of k text (codes "store")) || nat_lt 0 room) ≡ true → line_start is_new k text at ≡ Some a → IsStart room a
start-from room is_new kind.Local text at a all kept e = result-start room text at a all kept e
start-from room is_new kind.Label text at a all kept e = label-start room is_new text at a all e
start-from room is_new kind.Hash text at a all kept e = record-from room (is_record text) a e
start-from room is_new kind.Word text at a all kept e = store-from room (bytes_eq text (codes "store")) a (λ is. room-left (bytes_eq text (codes "store")) room kept is) e
start-from room is_new _ text at a all kept e = absurd (cc e)

start-fits : (s : WrittenLines) (a : LineStart) → Stands (part_begins starts_line (line_begins s)) (line_within s) a → IsStart s.room a
start-fits s a S = start-from s.room s.is_new S.token.kind S.token.text S.token.place a S.bytes S.keeps (part-begins (starts_line S.token) (line_begins s S.token) a S.stands_for)

-- ---- lines

-- a line, the instruction of this number if it is one; then there is room for it, and a phi occurs only where one may
abbrev pub IsLine : Bool → ℕ → ℕ → WrittenLine → Type 0
IsLine phi_too n room (line.Label name) = IsName name.name
IsLine phi_too n room line.Record = Unit {0}
IsLine phi_too n room (line.Entries p) = (0 < room) × (phi_too ≡ true) × IsPhi p
IsLine phi_too n room (line.Access a) = (0 < room) × IsAccess n a
IsLine phi_too n room (line.Indices g) = (0 < room) × IsInst n (inst.GetElementPtr g)
IsLine phi_too n room (line.Phi p) = (0 < room) × (phi_too ≡ true) × IsPhi p
IsLine phi_too n room (line.Inst i) = (0 < room) × IsInst n i

-- ---- phis only where they may occur

abbrev NoPhi : Option LineWord → Type 0
NoPhi None = Unit {0}
NoPhi (Some word_of.Phi) = ⊥
NoPhi (Some _) = Unit {0}

choose : (b : Bool) (x y : Option LineWord) → NoPhi x → NoPhi y → NoPhi (cond b x y)
choose true x y X Y = X
choose false x y X Y = Y

no-phi-memory : (k : Kind) (text : List ℕ) → NoPhi (memory_word_of k text)
no-phi-memory kind.Word text = choose (bytes_eq text (codes "alloca")) _ _ tt (choose (bytes_eq text (codes "load")) _ _ tt (choose (bytes_eq text (codes "getelementptr")) _ _ tt tt))
no-phi-memory _ text = tt

no-phi-inst : (o : Option Opcode) → NoPhi (inst_word o)
no-phi-inst None = tt
no-phi-inst (Some o) = tt

no-phi-or : (a b : Option LineWord) → NoPhi a → NoPhi b → NoPhi (or_word a b)
no-phi-or None b A B = B
no-phi-or (Some w) b A B = A

phi-where : (phi_too : Bool) (k : Kind) (text : List ℕ) → line_word_of phi_too k text ≡ Some word_of.Phi → phi_too ≡ true
phi-where true k text e = refl
phi-where false k text e = absurd (subst (λ (m : Option LineWord). NoPhi m) e (no-phi-or (memory_word_of k text) (inst_word (opcode_of k text)) (no-phi-memory k text) (no-phi-inst (opcode_of k text))))

-- ---- what comes before the first comma

line-gives : (phi_too : Bool) (n room : ℕ) (name : WrittenName) (w : LineWord) (l : WrittenLine) → 0 < room → (w ≡ word_of.Phi → phi_too ≡ true) → IsName name.name → Gives (line_by n name w) l → IsLine phi_too n room l
unfolding phi alloca load gep forms.inst_line
line-gives phi_too n room name word_of.Phi l some may is (type, T, (opening, O, (first, E, same))) = subst (λ (x : WrittenLine). IsLine phi_too n room x) same (some, may refl, first-entry name type first is (entry-gives type first E))
line-gives phi_too n room name word_of.Alloca l some may is (object, O, same) = subst (λ (x : WrittenLine). IsLine phi_too n room x) same (some, (is, refl, alloca-object object O))
line-gives phi_too n room name word_of.Load l some may is (type, T, (comma, C, (from, F, same))) = subst (λ (x : WrittenLine). IsLine phi_too n room x) same (some, (is, pointer-gives from F))
line-gives phi_too n room name word_of.GetElementPtr l some may is (object, O, (comma, C, (base, B, same))) =
    let G = gep-object object O in
    subst (λ (x : WrittenLine). IsLine phi_too n room x) same (some, (is, G.0, G.1, pointer-gives base B, tt))
line-gives phi_too n room name (word_of.Inst o) l some may is (i, I, same) = subst (λ (x : WrittenLine). IsLine phi_too n room x) same (some, inst-gives n name o i is I)

word-where : (phi_too : Bool) (w : LineWord) → Stands (line_word phi_too).stands (line_word phi_too).within w → w ≡ word_of.Phi → phi_too ≡ true
word-where phi_too w S e = phi-where phi_too S.token.kind S.token.text (subst (λ (x : LineWord). line_word_of phi_too S.token.kind S.token.text ≡ Some x) e S.stands_for)

started-gives : (phi_too : Bool) (n room : ℕ) (a : LineStart) (l : WrittenLine) → IsStart room a → Gives (started phi_too n a) l → IsLine phi_too n room l
unfolding line_named store
started-gives phi_too n room (start.Label name) l is same = subst (λ (x : WrittenLine). IsLine phi_too n room x) same is
started-gives phi_too n room (start.Inst name) l (some, is) (equals, E, (w, W, L)) = line-gives phi_too n room name w l some (word-where phi_too w W) is L
started-gives phi_too n room start.Store l some (type, T, (value, V, (comma, C, (to, P, same)))) =
    subst (λ (x : WrittenLine). IsLine phi_too n room x) same (some, (operand-fits false type.of_type value V, pointer-gives to P))
started-gives phi_too n room start.Record l is (u, R, same) = subst (λ (x : WrittenLine). IsLine phi_too n room x) same tt

-- ---- what follows a comma

one-index-more : (n : ℕ) (g : WrittenGep) (i : WrittenIndex) → IsInst n (inst.GetElementPtr g) → IsIndex i → IsInst n (inst.GetElementPtr (with_index g i))
one-index-more n g i (into, flags, object, base, indices) I = (into, flags, object, base, all-push IsIndex g.indices i indices I)

comma-gives : (phi_too : Bool) (n room : ℕ) (l next : WrittenLine) → Gives (with_comma l) next → IsLine phi_too n room l → IsLine phi_too n room next
unfolding entry_or_attachment next_entry attached align_or_attachment aligned index_or_attachment next_index
comma-gives phi_too n room (line.Label name) next same h = subst (λ (x : WrittenLine). IsLine phi_too n room x) same h
comma-gives phi_too n room line.Record next same h = subst (λ (x : WrittenLine). IsLine phi_too n room x) same h
comma-gives phi_too n room (line.Entries p) next (inl (opening, T, (more, E, same))) (some, may, P) =
    subst (λ (x : WrittenLine). IsLine phi_too n room x) same (some, may, one-entry-more p more P (ltb-true (length p.entries) 16777216 T.keeps) (entry-gives p.of_type more E))
comma-gives phi_too n room (line.Entries p) next (inr (w, T, (number, N, same))) h = subst (λ (x : WrittenLine). IsLine phi_too n room x) same h
comma-gives phi_too n room (line.Access a) next (inl (w, T, (m, N, same))) (some, A) = subst (λ (x : WrittenLine). IsLine phi_too n room x) same (some, (A, alignment-fits m N))
comma-gives phi_too n room (line.Access a) next (inr (w, T, (number, N, same))) (some, A) = subst (λ (x : WrittenLine). IsLine phi_too n room x) same (some, (A, own-alignment a))
comma-gives phi_too n room (line.Indices g) next (inl (type, T, (value, V, same))) (some, G) =
    subst (λ (x : WrittenLine). IsLine phi_too n room x) same (some, one-index-more n g (record { of_type = type; operand = value }) G (operand-fits false (Int type.width) value V))
comma-gives phi_too n room (line.Indices g) next (inr (w, T, (number, N, same))) h = subst (λ (x : WrittenLine). IsLine phi_too n room x) same h
comma-gives phi_too n room (line.Phi p) next (u, A, same) h = subst (λ (x : WrittenLine). IsLine phi_too n room x) same h
comma-gives phi_too n room (line.Inst i) next (u, A, same) h = subst (λ (x : WrittenLine). IsLine phi_too n room x) same h

commas-give : (phi_too : Bool) (n room m : ℕ) (l x : WrittenLine) → GivesParts is_comma line_comma (λ l'. any) (λ l' comma next. Gives (with_comma l') next) m l x → IsLine phi_too n room l → IsLine phi_too n room x
commas-give phi_too n room zero l x same h = subst (λ (y : WrittenLine). IsLine phi_too n room y) same h
commas-give phi_too n room (suc m) l x (a, next, T, P, more) h = commas-give phi_too n room m next x more (comma-gives phi_too n room l next P h)

pub line-fits : (s : WrittenLines) (a : LineStart) (l : WrittenLine) → Stands (part_begins starts_line (line_begins s)) (line_within s) a → Gives (whole_line s a) l → IsLine (may_have_phi s) (next_number s) s.room l
unfolding whole_line
line-fits s a l S (l0, L, m, P) = commas-give (may_have_phi s) (next_number s) s.room m l0 l P (started-gives (may_have_phi s) (next_number s) s.room a l0 (start-fits s a S) L)
