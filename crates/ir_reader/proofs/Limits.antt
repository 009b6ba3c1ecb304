-- What is spelled keeps the limits of a function, and is what can be judged.
use Rattle.ir_reader.proofs.Common.{◌≡◌, ℕ, zero, suc, ◌+◌, ◌-◌, ◌<◌, ◌≤◌, Bool, true, false, ltb, cond, List, [], ◌∷◌, ◌++◌, length, Option, Some, None, sym, subst, ap, ◌∙◌, refl, inl, inr, arith, ◌&&◌, ◌||◌, not, Result, Ok, bytes_eq, All, AllByRecursion, sum_by, ltb-true, length-append, All-nil, All-cons, Lexeme, Kind, Define, instructions_of, cases_in, HasFewCases, HasFewEntries, with_name, number_of, Entry, Refused, Name, Phi, Block, Function, SpellParts, Spells, part_value, part_begins, LineStart, LineWord, TerminatorWord, ParameterPart, WrittenParameters, WrittenName, WrittenPhi, WrittenInst, WrittenLine, WrittenLines, WrittenCase, WrittenBody, WrittenFunction, any, named_at, label_line, is_record, line_start, inst_line, phi, alloca, load, store, gep, default_align, line_by, line_named, entry_or_attachment, next_entry, attached, align_or_attachment, aligned, index_or_attachment, next_index, follows_parameter, parameter_begins, with_part, parameter_parts, first_parameter, parameters, is_comma, is_local_kind, starts_line, line_begins, line_within, next_number, started, line_comma, with_comma, whole_line, with_phi, with_inst, with_line, next_line, lines, is_type, case_begins, case_within, with_case, cases, branch, branch_to, cond_branch, switch, return_of, terminator_by, block, body_of, entry_block, begins_block, block_begins, next_block, blocks, define, Numbered, so, each_in, parameter_in, inst_in, value_in, typed_in, entry_in, phi_in, case_in, branch_in, cond_branch_in, switch_in, terminator_in, block_in, labelled_in, blocks_in, parts_in, returned_in, function_of, named_behind, entry_name, numbered, IsFunction, well_formed, tested, unfit, past, without_places, AreEntries, tokens_of, IsWellFormed, then-so, named-count, block_with, whole, steps, AreNumbered}
use Rattle.std.specs.Prelude.{codes}
use Rattle.std.proofs.lemmas.List.Sums.{sum_by-cons, sum_by_push}
use Rattle.ir_lexer.specs.declared.token.Kind.TheVariants as kind
use Rattle.ir_items.specs.Names.{name_in}
use Rattle.ir_tree.specs.declared.tree.Terminator.{Terminator}
use Rattle.ir_tree.specs.declared.tree.Terminator.TheVariants.{Return, Branch, CondBranch, Switch, Unreachable}
use Rattle.ir_tree.specs.declared.tree.Parameter.{Parameter}
use Rattle.ir_words.specs.declared.word.LineStart.TheVariants as start
use Rattle.ir_words.specs.declared.word.LineWord.TheVariants as word_of
use Rattle.ir_words.specs.declared.word.TerminatorWord.TheVariants as finish
use Rattle.ir_words.specs.declared.word.ParameterPart.TheVariants as part
use Rattle.ir_words.specs.declared.written.WrittenParameter.{WrittenParameter}
use Rattle.ir_words.specs.declared.written.WrittenInst.TheVariants as inst
use Rattle.ir_words.specs.declared.written.WrittenTerminator.{WrittenTerminator}
use Rattle.ir_words.specs.declared.written.WrittenBlock.{WrittenBlock}
use Rattle.ir_words.specs.declared.written.WrittenBlocks.{WrittenBlocks}
use Rattle.ir_words.specs.declared.written.WrittenLine.TheVariants as line
use Rattle.ir_words.specs.declared.written.WrittenTerminator.TheVariants as end
use Rattle.ir_words.specs.declared.written.WrittenReturn.TheVariants.{Void, Value}
use Rattle.ir_numbering.specs.declared.numbering.NamedParameter.{NamedParameter}
use Rattle.ir_words.specs.Words.{is_word_of}
use Rattle.ir_reader.specs.Judgeable.{IsJudgeable, IsJudgeableEntry}
use Rattle.ir_reader.proofs.Placed.{well_formed-placed}
use Rattle.ir_reader.proofs.Objects.{IsSmallAccess, IsSmallGep, IsReadInst, IsJudgeableBlock, block-judgeable, blocks-small, blocks-undefs}
use Rattle.ir_grammar.proofs.Alignments.{default-aligned}
use Rattle.ir_reader.proofs.Spelled.{alignment-kept, alloca-small, gep-small, plain-known}

and-first : (a b : Bool) → (a && b) ≡ true → a ≡ true
and-first true b e = refl
and-first false b e = absurd (cc e)

-- ---- what is spelled

part-few : (s : WrittenParameters) (a : ParameterPart) (next : WrittenParameters) (inside behind : List Lexeme) → Spells true (with_part s a) next inside behind → length s.before < 16 → length next.before < 16
part-few s part.NoUndef next inside behind (same, left) h = subst (λ (p : WrittenParameters). length p.before < 16) same h
part-few s part.NonNull next inside behind (same, left) h = subst (λ (p : WrittenParameters). length p.before < 16) same h
part-few s part.Extension next inside behind (same, left) h = subst (λ (p : WrittenParameters). length p.before < 16) same h
part-few s (part.Name name) next inside behind (same, left) h = subst (λ (p : WrittenParameters). length p.before < 16) same h
part-few s part.Next next inside behind (type, mid, T, (same, left)) h =
    let room : length s.before + 1 < 16 = ltb-true (length s.before + 1) 16 (and-first (ltb (length s.before + 1) 16) _ T.keeps) in
    subst (λ (p : WrittenParameters). length p.before < 16) same (omega (arith, room, length-append s.before (s.last ∷ [])))

parts-few : (n : ℕ) (s x : WrittenParameters) (ts rest : List Lexeme) → SpellParts true follows_parameter parameter_begins (λ s. any) (λ s' a next inside behind. Spells true (with_part s' a) next inside behind) n s x ts rest → length s.before < 16 → length x.before < 16
parts-few zero s x ts rest (same, left, nothing) h = subst (λ (p : WrittenParameters). length p.before < 16) same h
parts-few (suc n) s x ts rest (a, inside, next, behind, T, P, more) h = parts-few n next x behind rest more (part-few s a next inside behind P h)

parameters-few : (x : List WrittenParameter) (ts rest : List Lexeme) → Spells true parameters x ts rest → length x ≤ 16
unfolding parameters first_parameter parameter_parts
parameters-few x ts rest (inl (a, mid, T, (same, left))) = subst (λ (ps : List WrittenParameter). length ps ≤ 16) same (omega arith)
parameters-few x ts rest (inr (nothing, type, mid, T, (all, mid2, (mid3, (s, mid4, (first, at), n, P), closing), (same, left)))) =
    let one : length s.before < 16 = subst (λ (p : WrittenParameters). length p.before < 16) first (omega arith) in
    let few = parts-few n s all.0 mid4 mid3 P one in
    subst (λ (ps : List WrittenParameter). length ps ≤ 16) same (omega (arith, few, length-append all.0.before (all.0.last ∷ [])))

all-push : {X : Type 0} (P : X → Type 0) (xs : List X) (x : X) → AllByRecursion P xs → P x → AllByRecursion P (xs ++ x ∷ [])
all-push P [] x A h = (h, tt)
all-push P (y ∷ ys) x (first, others) h = (first, all-push P ys x others h)

abbrev FewEntries : WrittenPhi → Type 0
FewEntries phi = length phi.entries ≤ 16777216

-- a line that begins as an instruction is one, with few entries, and what is known of the others
abbrev IsInstLine : WrittenLine → Type 0
IsInstLine (line.Label name) = ⊥
IsInstLine line.Record = ⊥
IsInstLine (line.Entries phi) = FewEntries phi
IsInstLine (line.Access a) = IsSmallAccess a
IsInstLine (line.Indices g) = IsSmallGep g
IsInstLine (line.Phi phi) = FewEntries phi
IsInstLine (line.Inst i) = IsReadInst i

-- what a line is that begins so
abbrev IsLineOf : LineStart → WrittenLine → Type 0
IsLineOf (start.Label name) (line.Label other) = Unit {0}
IsLineOf (start.Label name) _ = ⊥
IsLineOf start.Record line.Record = Unit {0}
IsLineOf start.Record _ = ⊥
IsLineOf (start.Inst name) l = IsInstLine l
IsLineOf start.Store l = IsInstLine l

abbrev IsInstStart : LineStart → Type 0
IsInstStart (start.Inst name) = Unit {0}
IsInstStart start.Store = Unit {0}
IsInstStart (start.Label name) = ⊥
IsInstStart start.Record = ⊥

named-of : (number : ℕ) (name : WrittenName) (w : LineWord) (l : WrittenLine) (ts rest : List Lexeme) → number < 65536 → Spells true (line_by number name w) l ts rest → IsInstLine l
unfolding inst_line phi alloca load gep
named-of number name word_of.Phi l ts rest below (type, m1, t1, (opening, m2, t2, (first, m3, E, (same, left)))) = subst (λ (x : WrittenLine). IsInstLine x) same (omega arith)
named-of number name word_of.Alloca l ts rest below (object, m1, O, (same, left)) = let small = alloca-small object ts m1 O in subst (λ (x : WrittenLine). IsInstLine x) same (below, small.0, small.1)
named-of number name word_of.Load l ts rest below (type, m1, T, (comma, m2, t2, (from, m3, P, (same, left)))) = subst (λ (x : WrittenLine). IsInstLine x) same tt
named-of number name word_of.GetElementPtr l ts rest below (object, m1, O, (comma, m2, t2, (base, m3, P, (same, left)))) = subst (λ (x : WrittenLine). IsInstLine x) same (gep-small object ts m1 O)
named-of number name (word_of.Inst o) l ts rest below (i, mid, I, (same, left)) = subst (λ (x : WrittenLine). IsInstLine x) same (plain-known name o i ts mid I)

started-of : (phi_too : Bool) (number : ℕ) (a : LineStart) (l : WrittenLine) (ts rest : List Lexeme) → (IsInstStart a → number < 65536) → Spells true (started phi_too number a) l ts rest → IsLineOf a l
unfolding line_named store
started-of phi_too number (start.Label name) l ts rest below (same, left) = subst (λ (x : WrittenLine). IsLineOf (start.Label name) x) same tt
started-of phi_too number (start.Inst name) l ts rest below (equals, m1, t1, (w, m2, t2, S)) = named-of number name w l m2 rest (below tt) S
started-of phi_too number start.Store l ts rest below (type, m1, T, (value, m2, t2, (comma, m3, t3, (to, m4, P, (same, left))))) = subst (λ (x : WrittenLine). IsInstLine x) same tt
started-of phi_too number start.Record l ts rest below (u, mid, R, (same, left)) = subst (λ (x : WrittenLine). IsLineOf start.Record x) same tt

comma-inst : (l next : WrittenLine) (ts rest : List Lexeme) → Spells true (with_comma l) next ts rest → IsInstLine l → IsInstLine next
unfolding entry_or_attachment next_entry attached align_or_attachment aligned index_or_attachment next_index
comma-inst (line.Label name) next ts rest S h = absurd h
comma-inst line.Record next ts rest S h = absurd h
comma-inst (line.Entries p) next ts rest (inl (opening, mid, T, (more, m2, E, (same, left)))) h =
    let room : length p.entries < 16777216 = ltb-true (length p.entries) 16777216 T.keeps in
    subst (λ (x : WrittenLine). IsInstLine x) same (omega (arith, room, length-append p.entries (more ∷ [])))
comma-inst (line.Entries p) next ts rest (inr (nothing, w, mid, T, (number, m2, N, (same, left)))) h = subst (λ (x : WrittenLine). IsInstLine x) same h
comma-inst (line.Access a) next ts rest (inl (w, mid, T, (n, m2, N, (same, left)))) h = subst (λ (x : WrittenLine). IsInstLine x) same (h, alignment-kept N.first n N.stands_for N.keeps)
comma-inst (line.Access a) next ts rest (inr (nothing, w, mid, T, (number, m2, N, (same, left)))) h = subst (λ (x : WrittenLine). IsInstLine x) same (h, default-aligned a)
comma-inst (line.Indices g) next ts rest (inl (type, mid, T, (value, m2, V, (same, left)))) h = subst (λ (x : WrittenLine). IsInstLine x) same h
comma-inst (line.Indices g) next ts rest (inr (nothing, w, mid, T, (number, m2, N, (same, left)))) h = subst (λ (x : WrittenLine). IsInstLine x) same h
comma-inst (line.Phi p) next ts rest (u, mid, A, (same, left)) h = subst (λ (x : WrittenLine). IsInstLine x) same h
comma-inst (line.Inst i) next ts rest (u, mid, A, (same, left)) h = subst (λ (x : WrittenLine). IsInstLine x) same h

comma-of : (a : LineStart) (l next : WrittenLine) (ts rest : List Lexeme) → Spells true (with_comma l) next ts rest → IsLineOf a l → IsLineOf a next
comma-of (start.Inst name) l next ts rest S h = comma-inst l next ts rest S h
comma-of start.Store l next ts rest S h = comma-inst l next ts rest S h
comma-of (start.Label name) (line.Label other) next ts rest (same, left) h = subst (λ (x : WrittenLine). IsLineOf (start.Label name) x) same h
comma-of start.Record line.Record next ts rest (same, left) h = subst (λ (x : WrittenLine). IsLineOf start.Record x) same h
comma-of (start.Label name) line.Record next ts rest S h = absurd h
comma-of (start.Label name) (line.Entries p) next ts rest S h = absurd h
comma-of (start.Label name) (line.Access a) next ts rest S h = absurd h
comma-of (start.Label name) (line.Indices g) next ts rest S h = absurd h
comma-of (start.Label name) (line.Phi p) next ts rest S h = absurd h
comma-of (start.Label name) (line.Inst i) next ts rest S h = absurd h
comma-of start.Record (line.Label name) next ts rest S h = absurd h
comma-of start.Record (line.Entries p) next ts rest S h = absurd h
comma-of start.Record (line.Access a) next ts rest S h = absurd h
comma-of start.Record (line.Indices g) next ts rest S h = absurd h
comma-of start.Record (line.Phi p) next ts rest S h = absurd h
comma-of start.Record (line.Inst i) next ts rest S h = absurd h

commas-of : (a : LineStart) (n : ℕ) (l x : WrittenLine) (ts rest : List Lexeme) → SpellParts true is_comma line_comma (λ l'. any) (λ l' comma next inside behind. Spells true (with_comma l') next inside behind) n l x ts rest → IsLineOf a l → IsLineOf a x
commas-of a zero l x ts rest (same, left, nothing) h = subst (λ (y : WrittenLine). IsLineOf a y) same h
commas-of a (suc n) l x ts rest (u, inside, next, behind, T, P, more) h = commas-of a n next x behind rest more (comma-of a l next inside behind P h)

line-of : (s : WrittenLines) (a : LineStart) (l : WrittenLine) (ts rest : List Lexeme) → (IsInstStart a → 0 < s.room) → Spells true (whole_line s a) l ts rest → IsLineOf a l
unfolding whole_line
line-of s a l ts rest some (first, mid, S, n, P) = commas-of a n first l mid rest P (started-of _ (next_number s) a first ts mid (λ h. let below : 65536 - s.room < 65536 = omega (arith, some h) in below) S)

-- ---- where an instruction begins there is room for it

label-start : (b is_new : Bool) (n : Option WrittenName) (a : LineStart) → part_value b (cond is_new (label_line n) None) ≡ Some a → IsInstStart a → ⊥
label-start true true (Some w) a e h = let same : start.Label w ≡ a = cc e in let other : IsInstStart (start.Label w) = subst IsInstStart (sym same) h in other
label-start true true None a e h = absurd (cc e)
label-start true false n a e h = absurd (cc e)
label-start false is_new n a e h = absurd (cc e)

record-start : (b is : Bool) (a : LineStart) → part_value b (cond is (Some start.Record) None) ≡ Some a → IsInstStart a → ⊥
record-start true true a e h = let same : start.Record ≡ a = cc e in let other : IsInstStart start.Record = subst IsInstStart (sym same) h in other
record-start true false a e h = absurd (cc e)
record-start false is a e h = absurd (cc e)

no-start : (b : Bool) (a : LineStart) → part_value b None ≡ Some a → ⊥
no-start true a e = cc e
no-start false a e = cc e

-- a word that begins a line is store
store-room : (b is : Bool) (room : ℕ) (a : LineStart) → part_value b (cond is (Some start.Store) None) ≡ Some a → (not (false || is) || ltb 0 room) ≡ true → 0 < room
store-room b true room a e w = ltb-true 0 room w
store-room b false room a e w = absurd (no-start b a e)

room-of : (s : WrittenLines) (a : LineStart) (t : Lexeme) → part_begins starts_line (line_begins s) t ≡ Some a → line_within s t ≡ true → IsInstStart a → 0 < s.room
room-of s a t e w h = go t.kind (starts_line t) e w
  where
    go : (k : Kind) (b : Bool) → part_value b (line_start s.is_new k t.text t.place) ≡ Some a → (not (is_local_kind k || is_word_of k t.text (codes "store")) || ltb 0 s.room) ≡ true → 0 < s.room
    go kind.Local b e' w' = ltb-true 0 s.room w'
    go kind.Word b e' w' = store-room b (bytes_eq t.text (codes "store")) s.room a e' w'
    go kind.Label b e' w' = absurd (label-start b s.is_new (named_at (name_in kind.Label t.text) t.place) a e' h)
    go kind.Hash b e' w' = absurd (record-start b (is_record t.text) a e' h)
    go _ b e' w' = absurd (no-start b a e')

record LinesFew (room : ℕ) (s : WrittenLines) : Type 0 where
  counted : length s.phis + (length s.insts + s.room) ≤ room
  entries : AllByRecursion FewEntries s.phis
  insts : AllByRecursion IsReadInst s.insts

phi-few-lines : (room : ℕ) (s : WrittenLines) (phi : WrittenPhi) → FewEntries phi → 0 < s.room → LinesFew room s → LinesFew room (with_phi s phi)
phi-few-lines room s phi h some F = record { counted = omega (arith, some, F.counted, length-append s.phis (phi ∷ [])); entries = all-push FewEntries s.phis phi F.entries h; insts = F.insts }

inst-few-lines : (room : ℕ) (s : WrittenLines) (i : WrittenInst) → IsReadInst i → 0 < s.room → LinesFew room s → LinesFew room (with_inst s i)
inst-few-lines room s i h some F = record { counted = omega (arith, some, F.counted, length-append s.insts (i ∷ [])); entries = F.entries; insts = all-push IsReadInst s.insts i F.insts h }

next-inst : (room : ℕ) (s : WrittenLines) (l : WrittenLine) → IsInstLine l → 0 < s.room → LinesFew room s → LinesFew room (with_line s l)
next-inst room s (line.Label name) h some F = absurd h
next-inst room s line.Record h some F = absurd h
next-inst room s (line.Entries phi) h some F = phi-few-lines room s phi h some F
next-inst room s (line.Access a) h some F = inst-few-lines room s (inst.Access a (default_align a)) (h, default-aligned a) some F
next-inst room s (line.Indices g) h some F = inst-few-lines room s (inst.GetElementPtr g) h some F
next-inst room s (line.Phi phi) h some F = phi-few-lines room s phi h some F
next-inst room s (line.Inst i) h some F = inst-few-lines room s i h some F

next-few : (room : ℕ) (s : WrittenLines) (a : LineStart) (l : WrittenLine) → IsLineOf a l → (IsInstStart a → 0 < s.room) → LinesFew room s → LinesFew room (with_line s l)
next-few room s (start.Inst name) l h some F = next-inst room s l h (some tt) F
next-few room s start.Store l h some F = next-inst room s l h (some tt) F
next-few room s (start.Label name) (line.Label other) h some F = record { counted = F.counted; entries = F.entries; insts = F.insts }
next-few room s start.Record line.Record h some F = record { counted = F.counted; entries = F.entries; insts = F.insts }
next-few room s (start.Label name) line.Record h some F = absurd h
next-few room s (start.Label name) (line.Entries phi) h some F = absurd h
next-few room s (start.Label name) (line.Access a) h some F = absurd h
next-few room s (start.Label name) (line.Indices g) h some F = absurd h
next-few room s (start.Label name) (line.Phi phi) h some F = absurd h
next-few room s (start.Label name) (line.Inst i) h some F = absurd h
next-few room s start.Record (line.Label other) h some F = absurd h
next-few room s start.Record (line.Entries phi) h some F = absurd h
next-few room s start.Record (line.Access a) h some F = absurd h
next-few room s start.Record (line.Indices g) h some F = absurd h
next-few room s start.Record (line.Phi phi) h some F = absurd h
next-few room s start.Record (line.Inst i) h some F = absurd h

lines-few : (room n : ℕ) (s x : WrittenLines) (ts rest : List Lexeme) → SpellParts true starts_line line_begins line_within (λ s' a next inside behind. Spells true (next_line s' a) next inside behind) n s x ts rest → LinesFew room s → LinesFew room x
unfolding next_line
lines-few room zero s x ts rest (same, left, nothing) F = subst (λ (y : WrittenLines). LinesFew room y) same F
lines-few room (suc n) s x ts rest (a, inside, next, behind, T, (l, L, same), more) F =
    let some : IsInstStart a → 0 < s.room = room-of s a T.first T.stands_for T.keeps in
    lines-few room n next x behind rest more (subst (λ (y : WrittenLines). LinesFew room y) same (next-few room s a l (line-of s a l inside behind some L) some F))

block-lines-few : (is_new : Bool) (room : ℕ) (x : WrittenLines) (ts rest : List Lexeme) → Spells true (lines is_new room) x ts rest → LinesFew room x
unfolding lines
block-lines-few is_new room x ts rest (s, mid, (same, left), n, P) = lines-few room n s x mid rest P (subst (λ (y : WrittenLines). LinesFew room y) same (record { counted = omega arith; entries = tt; insts = tt }))

abbrev written_cases : WrittenTerminator → ℕ
written_cases (end.Return returned) = 0
written_cases (end.Branch to) = 0
written_cases (end.CondBranch bit condition if_true if_false) = 0
written_cases (end.Switch type value default cases) = length cases
written_cases end.Unreachable = 0

cases-more : (n : ℕ) (s x : List WrittenCase) (ts rest : List Lexeme) → SpellParts true is_type case_begins case_within (λ s' a next inside behind. Spells true (with_case s' a) next inside behind) n s x ts rest → length s ≤ 256 → length x ≤ 256
unfolding with_case
cases-more zero s x ts rest (same, left, nothing) h = subst (λ (cs : List WrittenCase). length cs ≤ 256) same h
cases-more (suc n) s x ts rest (a, inside, next, behind, T, (literal, m1, t1, (comma, m2, t2, (to, m3, D, (same, left)))), more) h =
    let room : length s < 256 = ltb-true (length s) 256 (and-first (ltb (length s) 256) _ T.keeps) in
    let c : WrittenCase = record { of_type = a; literal = literal; to = to } in
    cases-more n next x behind rest more (subst (λ (cs : List WrittenCase). length cs ≤ 256) same (omega (arith, room, length-append s (c ∷ []))))

cases-few : (x : List WrittenCase) (ts rest : List Lexeme) → Spells true cases x ts rest → length x ≤ 256
unfolding cases
cases-few x ts rest (s, mid, (same, left), n, P) = cases-more n s x mid rest P (subst (λ (cs : List WrittenCase). length cs ≤ 256) same (omega arith))

terminator-few : (w : TerminatorWord) (x : WrittenTerminator) (ts rest : List Lexeme) → Spells true (terminator_by w) x ts rest → written_cases x ≤ 256
unfolding return_of branch branch_to cond_branch switch
terminator-few finish.Return x ts rest (value, mid, R, (same, left)) = subst (λ (y : WrittenTerminator). written_cases y ≤ 256) same (omega arith)
terminator-few finish.Branch x ts rest (inl (u, mid, T, (to, m2, t2, (same, left)))) = subst (λ (y : WrittenTerminator). written_cases y ≤ 256) same (omega arith)
terminator-few finish.Branch x ts rest (inr (nothing, bit, mid, T, (condition, m1, t1, (comma, m2, t2, (if_true, m3, A, (comma', m4, t4, (if_false, m5, B, (same, left)))))))) = subst (λ (y : WrittenTerminator). written_cases y ≤ 256) same (omega arith)
terminator-few finish.Switch x ts rest (type, m1, t1, (value, m2, t2, (comma, m3, t3, (default, m4, D, (opening, m5, t5, (all, m6, (m7, C, t7), (same, left))))))) =
    subst (λ (y : WrittenTerminator). written_cases y ≤ 256) same (cases-few all.0 m5 m7 C)
terminator-few finish.Unreachable x ts rest (same, left) = subst (λ (y : WrittenTerminator). written_cases y ≤ 256) same (omega arith)

abbrev count_of : WrittenBody → ℕ
count_of b = length b.phis + (length b.insts + 1)

record FewBody (b : WrittenBody) : Type 0 where
  entries : AllByRecursion FewEntries b.phis
  insts : AllByRecursion IsReadInst b.insts
  cases : written_cases b.terminator ≤ 256

record BlockFew (room : ℕ) (b : WrittenLines × WrittenTerminator) : Type 0 where
  counted : count_of (body_of b) + (b.0.room - 1) ≤ room
  few : FewBody (body_of b)

block-few : (is_new : Bool) (room : ℕ) (b : WrittenLines × WrittenTerminator) (ts rest : List Lexeme) → Spells true (block is_new room) b ts rest → BlockFew room b
unfolding block
block-few is_new room b ts rest (all, mid, (m2, L, T), (last, m3, E, (passed, A, same))) =
    let F = block-lines-few is_new room all.0 ts m2 L in
    let some : 0 < all.0.room = ltb-true 0 all.0.room T.keeps in
    let few : written_cases last ≤ 256 = terminator-few all.1 last mid m3 E in
    subst (λ (y : WrittenLines × WrittenTerminator). BlockFew room y) same (record { counted = omega (arith, some, F.counted); few = record { entries = F.entries; insts = F.insts; cases = few } })

abbrev block_count : WrittenBlock → ℕ
block_count b = count_of b.body

abbrev FewBlock : WrittenBlock → Type 0
FewBlock b = FewBody b.body

record BlocksFew (entry : WrittenBody) (others : List WrittenBlock) (room : ℕ) : Type 0 where
  counted : count_of entry + (sum_by block_count others + room) ≤ 65536
  first : FewBody entry
  later : AllByRecursion FewBlock others

abbrev AreFewSoFar : WrittenBlocks → Type 0
AreFewSoFar s = BlocksFew s.entry s.others s.room

entry-few : (x : WrittenBlocks) (ts rest : List Lexeme) → Spells true entry_block x ts rest → AreFewSoFar x
unfolding entry_block
entry-few x ts rest (b, B, same) =
    let F = block-few true 65536 b ts rest B in
    subst AreFewSoFar same (record { counted = omega (arith, F.counted); first = F.few; later = tt })

blocks-more : (n : ℕ) (s x : WrittenBlocks) (ts rest : List Lexeme) → SpellParts true begins_block block_begins (λ s'. any) (λ s' a next inside behind. Spells true (next_block s' a) next inside behind) n s x ts rest → AreFewSoFar s → AreFewSoFar x
unfolding next_block
blocks-more zero s x ts rest (same, left, nothing) F = subst AreFewSoFar same F
blocks-more (suc n) s x ts rest (name, inside, next, behind, T, (b, B, same), more) F =
    let G = block-few false s.room b inside behind B in
    let added : WrittenBlock = record { label = name; body = body_of b } in
    blocks-more n next x behind rest more (subst AreFewSoFar same (record { counted = omega (arith, F.counted, G.counted, sum_by_push block_count s.others added); first = F.first; later = all-push FewBlock s.others added F.later G.few }))

blocks-few : (x : WrittenBlocks) (ts rest : List Lexeme) → Spells true blocks x ts rest → AreFewSoFar x
unfolding blocks
blocks-few x ts rest (s, mid, E, n, P) = blocks-more n s x mid rest P (entry-few s ts mid E)

record AreFew (w : WrittenFunction) : Type 0 where
  parameters : length w.parameters ≤ 16
  blocks : (room : ℕ) × BlocksFew w.entry w.others room

function-few : (w : WrittenFunction) (ts rest : List Lexeme) → Spells true define w ts rest → AreFew w
unfolding define
function-few w ts rest (head, m1, t1, (type, m2, u2, (name, m3, t3, (opening, m4, t4, (all, m5, P, (body, m6, u6, (closed, m7, (m8, B, token8), (same, left)))))))) =
    subst (λ (f : WrittenFunction). AreFew f) same (record { parameters = parameters-few all m4 m5 P; blocks = (closed.0.room, blocks-few closed.0 m6 m8 B) })

-- ---- what is made of it

each-length : {A B : Type 0} (one : List Name → A → Numbered B) (items : List A) (names : List Name) (bs : List B) (after : List Name) → each_in one names items ≡ so bs after → length bs ≡ length items
each-length {A} {B} one [] names bs after e = let is : [] ≡ bs = cc e in ap length (sym is)
each-length {A} {B} one (a ∷ more_items) names bs after e =
    let F = then-so (one names a) _ bs after e in
    let M = then-so (each_in one F.mid more_items) _ bs after F.later in
    let is : F.value ∷ M.value ≡ bs = cc M.later in
    ap length (sym is) ∙ omega (arith, each-length one more_items F.mid M.value M.mid M.first)

phi-few : (names : List Name) (w : WrittenPhi) (x : Phi) (after : List Name) → phi_in names w ≡ so x after → FewEntries w → length x.entries ≤ 16777216
unfolding phi_in
phi-few names w x after e few =
    let E = then-so (each_in entry_in (with_name names w.into.name) w.entries) _ x after e in
    let is : (let y : Phi = record { into = number_of names w.into.name; of_type = w.of_type.of_type; entries = E.value } in y) ≡ x = cc E.later in
    subst (λ (y : Phi). length y.entries ≤ 16777216) is (omega (arith, few, each-length entry_in w.entries (with_name names w.into.name) E.value E.mid E.first))

abbrev HasFew : Phi → Type 0
HasFew phi = length phi.entries ≤ 16777216

phis-few : (items : List WrittenPhi) (names : List Name) (bs : List Phi) (after : List Name) → each_in phi_in names items ≡ so bs after → AllByRecursion FewEntries items → All HasFew bs
phis-few [] names bs after e few = let is : [] ≡ bs = cc e in subst (λ (ys : List Phi). All HasFew ys) is (All-nil HasFew)
phis-few (a ∷ items) names bs after e (first, others) =
    let F = then-so (phi_in names a) _ bs after e in
    let M = then-so (each_in phi_in F.mid items) _ bs after F.later in
    let is : F.value ∷ M.value ≡ bs = cc M.later in
    subst (λ (ys : List Phi). All HasFew ys) is (All-cons HasFew F.value M.value (phi-few names a F.value F.mid F.first first) (phis-few items F.mid M.value M.mid M.first others))

terminator-cases : (names : List Name) (w : WrittenTerminator) (x : Terminator) (after : List Name) → terminator_in names w ≡ so x after → cases_in x ≡ written_cases w
unfolding returned_in branch_in cond_branch_in switch_in
terminator-cases names (end.Return (Void at)) x after e = let is : Return None ≡ x = cc e in ap cases_in (sym is)
terminator-cases names (end.Return (Value typed)) x after e =
    let T = then-so (typed_in names typed) _ x after e in
    let is : Return (Some T.value) ≡ x = cc T.later in
    ap cases_in (sym is)
terminator-cases names (end.Branch to) x after e = let is : Branch (number_of names to.name) ≡ x = cc e in ap cases_in (sym is)
terminator-cases names (end.CondBranch bit condition if_true if_false) x after e =
    let V = then-so (value_in names condition.value) _ x after e in
    let is : CondBranch V.value (number_of V.mid if_true.name) (number_of (with_name V.mid if_true.name) if_false.name) ≡ x = cc V.later in
    ap cases_in (sym is)
terminator-cases names (end.Switch type value default cases) x after e =
    let V = then-so (value_in names value.value) _ x after e in
    let C = then-so (each_in case_in (with_name V.mid default.name) cases) _ x after V.later in
    let is : Switch type.width V.value (number_of V.mid default.name) C.value ≡ x = cc C.later in
    ap cases_in (sym is) ∙ each-length case_in cases (with_name V.mid default.name) C.value C.mid C.first
terminator-cases names end.Unreachable x after e = let is : Unreachable ≡ x = cc e in ap cases_in (sym is)

record IsMade (w : WrittenBody) (x : Block) : Type 0 where
  counted : instructions_of x ≡ count_of w
  cases : HasFewCases x
  entries : HasFewEntries x
  insts : IsJudgeableBlock x

block-made : (names : List Name) (label : Name) (w : WrittenBody) (x : Block) (after : List Name) → block_in names label w ≡ so x after → FewBody w → IsMade w x
unfolding block_in
block-made names label w x after e few =
    let before = with_name names label in
    let P = then-so (each_in phi_in before w.phis) _ x after e in
    let I = then-so (each_in inst_in P.mid w.insts) _ x after P.later in
    let T = then-so (terminator_in I.mid w.terminator) _ x after I.later in
    let is : block_with (number_of names label) P.value I.value T.value ≡ x = cc T.later in
    let phis : length P.value ≡ length w.phis = each-length phi_in w.phis before P.value P.mid P.first in
    let insts : length I.value ≡ length w.insts = each-length inst_in w.insts P.mid I.value I.mid I.first in
    let cases : cases_in T.value ≡ written_cases w.terminator = terminator-cases I.mid w.terminator T.value T.mid T.first in
    subst (λ (y : Block). IsMade w y) is (record {
      counted = omega (arith, phis, insts);
      cases = omega (arith, cases, few.cases);
      entries = phis-few w.phis before P.value P.mid P.first few.entries;
      insts = subst IsJudgeableBlock (sym is) (block-judgeable names label w x after e few.insts);
    })

record AreMade (counted : ℕ) (bs : List Block) : Type 0 where
  count : sum_by instructions_of bs ≡ counted
  cases : All HasFewCases bs
  entries : All HasFewEntries bs
  insts : All IsJudgeableBlock bs

none-made : AreMade 0 []
none-made = record { count = refl; cases = All-nil HasFewCases; entries = All-nil HasFewEntries; insts = All-nil IsJudgeableBlock }

more-made : (w : WrittenBody) (x : Block) (counted : ℕ) (bs : List Block) → IsMade w x → AreMade counted bs → AreMade (count_of w + counted) (x ∷ bs)
more-made w x counted bs M Ms = record {
  count = omega (arith, sum_by-cons instructions_of x bs, M.counted, Ms.count);
  cases = All-cons HasFewCases x bs M.cases Ms.cases;
  entries = All-cons HasFewEntries x bs M.entries Ms.entries;
  insts = All-cons IsJudgeableBlock x bs M.insts Ms.insts;
}

others-made : (items : List WrittenBlock) (names : List Name) (bs : List Block) (after : List Name) → each_in labelled_in names items ≡ so bs after → AllByRecursion FewBlock items → AreMade (sum_by block_count items) bs
others-made [] names bs after e few = let is : [] ≡ bs = cc e in subst (λ (ys : List Block). AreMade 0 ys) is none-made
others-made (a ∷ items) names bs after e (first, others) =
    let F = then-so (labelled_in names a) _ bs after e in
    let M = then-so (each_in labelled_in F.mid items) _ bs after F.later in
    let is : F.value ∷ M.value ≡ bs = cc M.later in
    let made = more-made a.body F.value _ M.value (block-made names a.label.name a.body F.value F.mid F.first first) (others-made items F.mid M.value M.mid M.first others) in
    subst (λ (ys : List Block). AreMade (sum_by block_count (a ∷ items)) ys) is (subst (λ (n : ℕ). AreMade n (F.value ∷ M.value)) (sym (sum_by-cons block_count a items)) made)

blocks-made : (names : List Name) (label : Name) (entry : WrittenBody) (others : List WrittenBlock) (bs : List Block) (after : List Name)
    → blocks_in names label entry others ≡ so bs after → FewBody entry → AllByRecursion FewBlock others → AreMade (count_of entry + sum_by block_count others) bs
unfolding blocks_in
blocks-made names label entry others bs after e first few =
    let F = then-so (block_in names label entry) _ bs after e in
    let M = then-so (each_in labelled_in F.mid others) _ bs after F.later in
    let is : F.value ∷ M.value ≡ bs = cc M.later in
    subst (λ (ys : List Block). AreMade (count_of entry + sum_by block_count others) ys) is (more-made entry F.value _ M.value (block-made names label entry F.value F.mid F.first first) (others-made others F.mid M.value M.mid M.first few))

judgeable : (w : WrittenFunction) → AreFew w → IsWellFormed (numbered w) → IsJudgeable (numbered w)
unfolding numbered parts_in
judgeable w few formed = go (parts_in named_ones label w.entry w.others) refl formed (whole w).numbered
  where
    named_ones : List NamedParameter
    named_ones = named_behind [] w.parameters

    label : Name
    label = entry_name w

    go : (m : Numbered (List Parameter × List Block)) → parts_in named_ones label w.entry w.others ≡ m → IsWellFormed (function_of w m) → AreNumbered (function_of w m) → IsJudgeable (function_of w m)
    go (so parts names) e formed names-numbered =
        let P = then-so (each_in parameter_in [] named_ones) _ parts names e in
        let B = then-so (blocks_in P.mid label w.entry w.others) _ parts names P.later in
        let parts-are : (let p : List Parameter × List Block = (P.value, B.value) in p) ≡ parts = cc B.later in
        let ps : P.value ≡ parts.0 = ap (λ (p : List Parameter × List Block). p.0) parts-are in
        let bs : B.value ≡ parts.1 = ap (λ (p : List Parameter × List Block). p.1) parts-are in
        let F = few.blocks.1 in
        let M = blocks-made P.mid label w.entry w.others B.value B.mid B.first F.first F.later in
        let known = subst (λ (ys : List Block). All IsJudgeableBlock ys) bs M.insts in
        record {
          well_formed = formed;
          limits = record {
            parameters = omega (arith, few.parameters, each-length parameter_in named_ones [] P.value P.mid P.first, named-count [] w.parameters, ap length ps);
            instructions = omega (arith, F.counted, M.count, ap (λ (ys : List Block). sum_by instructions_of ys) bs);
            cases = subst (λ (ys : List Block). All HasFewCases ys) bs M.cases;
            entries = subst (λ (ys : List Block). All HasFewEntries ys) bs M.entries;
            objects = blocks-small _ formed.types known;
          };
          numbered = names-numbered;
          numbers = λ k d below. let all = known k d below in all.numbers;
          undefs = blocks-undefs _ formed.types known;
        }

placeless-judgeable : (f : Function) → IsJudgeable f → IsJudgeable (without_places f)
unfolding steps
placeless-judgeable f h = record {
  well_formed = well_formed-placed f [] h.well_formed;
  limits = record {
    parameters = h.limits.parameters;
    instructions = h.limits.instructions;
    cases = h.limits.cases;
    entries = h.limits.entries;
    objects = h.limits.objects;
  };
  numbered = h.numbered;
  numbers = h.numbers;
  undefs = h.undefs;
}

function-judgeable : (tokens : List Lexeme) (a : Result Function Refused) (f : Function) → IsFunction tokens a → a ≡ Ok f → IsJudgeable f
function-judgeable tokens _ f (well_formed w s W) e = let same : without_places (numbered w) ≡ f = cc e in subst IsJudgeable same (placeless-judgeable (numbered w) (judgeable w (function-few w tokens [] s) W))
function-judgeable tokens _ f (tested w why refused s R) e = absurd (cc e)
function-judgeable tokens _ f (unfit why rest U) e = absurd (cc e)
function-judgeable tokens _ f (past rest P) e = absurd (cc e)

pub all-judgeable : (tokens : List Lexeme) (defines : List Define) (entries : List Entry) → AreEntries tokens defines entries → AllByRecursion IsJudgeableEntry entries
all-judgeable tokens [] [] E = tt
all-judgeable tokens [] (x ∷ xs) E = absurd E
all-judgeable tokens (d ∷ ds) [] E = absurd E
all-judgeable tokens (d ∷ ds) (x ∷ xs) (E, Es) = ((λ f e. function-judgeable (tokens_of tokens d) x.function f E.function e), all-judgeable tokens ds xs Es)
