-- The forms of the grammar distinguish what comes next, so that looking one token ahead loses nothing.
use Rattle.ir_grammar.proofs.Common.{◌≡◌, ℕ, zero, suc, Bool, true, false, List, Option, Some, None, cond, refl, sym, subst, codes, ◌||◌, is_some, nat_lt, Lexeme, IrType, never, either, LineStart, ParameterPart, HeaderPart, WrittenName, WrittenIntType, WrittenParameters, WrittenLines, WrittenLine, WrittenArrays, is_word_of, is_mark_of, terminator_of, flag_text, prefix_of, prefix_named, is_linkage, is_visibility, bits_of, spelled_width, int_typed_at, passed, passed_at, as_word, as_mark, int_type, element_type, return_type, terminator_word, attachment_or_type, brace, is_wrap, wraps, flagged_type, comparison, typed, arm, binary, wrapping, exact, plain, disjunction, icmp, cast_by, truncate, zero_extend, sign_extend, select, freeze, inst_by, entry, phi, next_entry, attached, entry_or_attachment, is_square, with_length, arrays, closers, alloca_object, is_gep_flag, gep_flags, gep_arrays, gep_object, pointer, alloca, load, store, gep, aligned, align_or_attachment, next_index, index_or_attachment, inst_line, line_by, line_named, is_comma, is_prefix, prefixes, follows_parameter, with_part, parameter_parts, first_parameter, parameters, follows_header, comdat_rest, debug_rest, with_header, header_parts, attachment, record_rest, starts_line, started, commas, with_comma, whole_line, next_line, lines, returned_by, returned, target, cond_branch, branch_to, branch, is_type, with_case, cases, switch, return_of, terminator_by, attachments, block, begins_block, entry_block, next_block, blocks, define}
use Rattle.std.specs.Str.{bytes_eq}
use Rattle.std.proofs.lemmas.Slice.Eq.{bytes_eq-Decides}
use Rattle.text_places.specs.declared.place.Place.{Place}
use Rattle.ir_lexer.specs.declared.token.Kind.{Kind}
use Rattle.ir_lexer.specs.declared.token.Kind.TheVariants as kind
use Rattle.ir_tree.specs.declared.tree.Op.{Op}
use Rattle.ir_tree.specs.declared.tree.Cast.{Cast}
use Rattle.token_forms.specs.Plain.{AreApart, TellsApart, SpellsAsPlain, SpellsOne}
use Rattle.token_forms.proofs.Plain.{apart-never, apart-either, apart-spelled, apart-class, apart-tail, spells-as-plain, spells-one}
use Rattle.ir_words.specs.declared.word.Opcode.{Opcode}
use Rattle.ir_words.specs.declared.word.Opcode.TheVariants as opcode
use Rattle.ir_words.specs.declared.word.Flag.{Flag}
use Rattle.ir_words.specs.declared.word.Flag.TheVariants as flag
use Rattle.ir_words.specs.declared.word.LineWord.{LineWord}
use Rattle.ir_words.specs.declared.word.LineWord.TheVariants as word_of
use Rattle.ir_words.specs.declared.word.TerminatorWord.{TerminatorWord}
use Rattle.ir_words.specs.declared.word.TerminatorWord.TheVariants as finish
use Rattle.ir_words.specs.declared.word.LineStart.TheVariants as start
use Rattle.ir_words.specs.declared.word.ParameterPart.TheVariants as part
use Rattle.ir_words.specs.declared.word.HeaderPart.TheVariants as header
use Rattle.ir_words.specs.declared.written.WrittenType.{WrittenType}
use Rattle.ir_words.specs.declared.written.WrittenLine.TheVariants as line
use Rattle.ir_words.specs.declared.written.WrittenPhi.{WrittenPhi}
use Rattle.ir_words.specs.declared.written.WrittenAccess.{WrittenAccess}
use Rattle.ir_words.specs.declared.written.WrittenGep.{WrittenGep}

bytes-same : (xs ys : List ℕ) → bytes_eq xs ys ≡ true → xs ≡ ys
bytes-same xs ys e = (bytes_eq-Decides xs ys).0 e

only-word : (w : List ℕ) (t : Lexeme) → is_word_of t.kind t.text w ≡ true → (t.kind ≡ kind.Word) × (t.text ≡ w)
only-word w t e = go t.kind refl e
  where
    go : (k : Kind) → t.kind ≡ k → is_word_of k t.text w ≡ true → (t.kind ≡ kind.Word) × (t.text ≡ w)
    go kind.Word is e' = (is, bytes-same t.text w e')
    go _ is e' = absurd (cc e')

only-mark : (w : List ℕ) (t : Lexeme) → is_mark_of t.kind t.text w ≡ true → (t.kind ≡ kind.Mark) × (t.text ≡ w)
only-mark w t e = go t.kind refl e
  where
    go : (k : Kind) → t.kind ≡ k → is_mark_of k t.text w ≡ true → (t.kind ≡ kind.Mark) × (t.text ≡ w)
    go kind.Mark is e' = (is, bytes-same t.text w e')
    go _ is e' = absurd (cc e')

of-passed : (b : Bool) → is_some (passed b) ≡ true → b ≡ true
of-passed true e = refl
of-passed false e = absurd (cc e)

of-stands : (b : Bool) (u : Unit {0}) → passed b ≡ Some u → b ≡ true
of-stands true u e = refl
of-stands false u e = absurd (cc e)

of-place : (b : Bool) (at found : Place) → passed_at b at ≡ Some found → b ≡ true
of-place true at found e = refl
of-place false at found e = absurd (cc e)

-- a word that isn't of the class
apart-word : {A : Type 0} (w : List ℕ) (stands : Lexeme → Option A) → ((t : Lexeme) → stands (record t { kind = kind.Word; text = w }) ≡ None) → AreApart (λ t. is_word_of t.kind t.text w) stands
apart-word w stands differs = apart-spelled kind.Word w (λ t. is_word_of t.kind t.text w) stands (only-word w) differs

apart-from-mark : (w : List ℕ) (test : Lexeme → Bool) → ((t : Lexeme) → test (record t { kind = kind.Mark; text = w }) ≡ false) → AreApart test (as_mark w)
apart-from-mark w test differs = apart-class kind.Mark w test (as_mark w) (λ t u e. only-mark w t (of-stands _ u e)) differs

-- ---- instructions

no-wrap : AreApart is_wrap int_type.stands
no-wrap = apart-either (λ t. is_word_of t.kind t.text (codes "nuw")) (λ t. is_word_of t.kind t.text (codes "nsw")) _ (apart-word (codes "nuw") _ (λ t. refl)) (apart-word (codes "nsw") _ (λ t. refl))

tells-wraps : (ordered : Bool) → TellsApart (wraps ordered)
unfolding wraps
tells-wraps ordered = (tt, (λ s. apart-never _), (λ s. apart-never _), λ s a. tt)

no-flag : (f : Flag) → AreApart (λ t. is_some (as_word (flag_text f) t)) int_type.stands
no-flag flag.Exact = apart-spelled kind.Word (codes "exact") _ _ (λ t e. only-word (codes "exact") t (of-passed _ e)) (λ t. refl)
no-flag flag.Disjoint = apart-spelled kind.Word (codes "disjoint") _ _ (λ t e. only-word (codes "disjoint") t (of-passed _ e)) (λ t. refl)
no-flag flag.NonNegative = apart-spelled kind.Word (codes "nneg") _ _ (λ t e. only-word (codes "nneg") t (of-passed _ e)) (λ t. refl)
no-flag flag.SameSign = apart-spelled kind.Word (codes "samesign") _ _ (λ t e. only-word (codes "samesign") t (of-passed _ e)) (λ t. refl)

tells-flagged : (f : Flag) → TellsApart (flagged_type f)
unfolding flagged_type
tells-flagged f = (no-flag f, (λ a. (tt, λ b. tt)), λ b. tt)

tells-comparison : TellsApart comparison
unfolding comparison
tells-comparison = (apart-spelled kind.Word (codes "samesign") _ _ (λ t e. only-word (codes "samesign") t (of-passed _ e)) (λ t. refl), (λ a. (tt, λ b. tt)), λ b. tt)

tells-typed : (undef_too : Bool) → TellsApart (typed undef_too)
unfolding typed
tells-typed undef_too = (tt, λ a. (tt, λ b. tt))

tells-binary : (name : WrittenName) (o : Op) (type : WrittenIntType) → TellsApart (binary name o type)
unfolding binary
tells-binary name o type = (tt, λ a. (tt, λ b. (tt, λ c. tt)))

tells-arm : (of_integer : Bool) → TellsApart (arm of_integer)
unfolding arm
tells-arm false = (tt, λ a. (tt, λ b. tt))
tells-arm true = ((tt, λ a. tt), λ a. (tt, λ b. tt))

tells-cast : (name : WrittenName) (c : Cast) (from : WrittenIntType) → TellsApart (cast_by name c from)
unfolding cast_by
tells-cast name c from = (tt, λ a. (tt, λ b. (tt, λ d. tt)))

tells-inst : (name : WrittenName) (o : Opcode) → TellsApart (inst_by name o)
unfolding wrapping exact plain disjunction icmp truncate zero_extend sign_extend select freeze
tells-inst name (opcode.Wrapping w) = ((tells-wraps false, λ a. apart-tail is_wrap _ no-wrap), λ a. tells-binary name _ _)
tells-inst name (opcode.Exact w) = (tells-flagged flag.Exact, λ a. tells-binary name _ _)
tells-inst name (opcode.Plain o) = (tt, λ a. tells-binary name _ _)
tells-inst name opcode.Or = (tells-flagged flag.Disjoint, λ a. tells-binary name _ _)
tells-inst name opcode.Icmp = (tells-comparison, λ a. (tt, λ b. (tt, λ c. (tt, λ d. (tt, λ e. tt)))))
tells-inst name opcode.Truncate = ((tells-wraps true, λ a. apart-tail is_wrap _ no-wrap), λ a. tells-cast name _ _)
tells-inst name opcode.ZeroExtend = (tells-flagged flag.NonNegative, λ a. tells-cast name _ _)
tells-inst name opcode.SignExtend = (tt, λ a. tells-cast name _ _)
tells-inst name opcode.Select = (tt, λ a. (tt, λ b. (tt, λ c. (tells-arm _, λ d. (tt, λ e. (tells-arm _, λ f. tt))))))
tells-inst name opcode.Freeze = (tells-typed true, λ a. tt)

tells-entry : (type : WrittenType) → TellsApart (entry type)
unfolding entry
tells-entry type = (tt, λ a. (tt, λ b. (tt, λ c. (tt, λ d. tt))))

tells-phi : (name : WrittenName) → TellsApart (phi name)
unfolding phi
tells-phi name = (tt, λ a. (tt, λ b. (tells-entry a, λ c. tt)))

tells-behind-entry : (p : WrittenPhi) → TellsApart (entry_or_attachment p)
unfolding entry_or_attachment next_entry attached
tells-behind-entry p = (apart-spelled kind.Mark (codes "[") _ _ (λ t e. only-mark (codes "[") t (of-passed _ e)) (λ t. refl), (λ a. (tells-entry p.of_type, λ b. tt)), λ a. (tt, λ b. tt))

-- ---- memory

tells-length : (s : WrittenArrays) → TellsApart (with_length s)
unfolding with_length
tells-length s = (tt, λ a. (tt, λ b. tt))

tells-arrays : (s : WrittenArrays) → TellsApart (arrays s)
unfolding arrays
tells-arrays s = (tt, (λ s'. apart-never _), (λ s'. apart-never _), λ s' opening. tells-length s')

tells-closers : (n : ℕ) → TellsApart (closers n)
tells-closers zero = tt
tells-closers (suc n) = (tt, λ a. tells-closers n)

-- an opening mark is no type
no-square : {A : Type 0} (stands : Lexeme → Option A) → ((t : Lexeme) → stands (record t { kind = kind.Mark; text = codes "[" }) ≡ None) → AreApart is_square stands
no-square stands differs = apart-spelled kind.Mark (codes "[") is_square stands (only-mark (codes "[")) differs

-- a flag of a getelementptr is neither
no-gep-flag : {A : Type 0} (stands : Lexeme → Option A) → ((t : Lexeme) → stands (record t { kind = kind.Word; text = codes "inbounds" }) ≡ None) → ((t : Lexeme) → stands (record t { kind = kind.Word; text = codes "nuw" }) ≡ None) → AreApart is_gep_flag stands
no-gep-flag stands first second = apart-either (λ t. is_word_of t.kind t.text (codes "inbounds")) (λ t. is_word_of t.kind t.text (codes "nuw")) stands (apart-word (codes "inbounds") stands first) (apart-word (codes "nuw") stands second)

tells-alloca-object : TellsApart alloca_object
unfolding alloca_object
tells-alloca-object = ((tells-arrays _, λ s. apart-tail is_square _ (no-square _ (λ t. refl))), λ found. (tells-closers _, λ closed. tt))

tells-gep-flags : TellsApart gep_flags
unfolding gep_flags
tells-gep-flags = (tt, (λ s. apart-never _), (λ s. apart-never _), λ s a. tt)

abbrev flags_go_on : Lexeme → Bool
flags_go_on = either (either never (either is_gep_flag never)) never

no-flags-go-on : {A : Type 0} (stands : Lexeme → Option A) → AreApart is_gep_flag stands → AreApart flags_go_on stands
no-flags-go-on stands apart = apart-either (either never (either is_gep_flag never)) never stands (apart-tail is_gep_flag stands apart) (apart-never stands)

tells-gep-arrays : TellsApart gep_arrays
unfolding gep_arrays
tells-gep-arrays = (tells-gep-flags, (λ s. no-flags-go-on _ (no-gep-flag _ (λ t. refl) (λ t. refl))), (λ s. apart-never _), λ s opening. tells-length s)

tells-gep-object : TellsApart gep_object
unfolding gep_object
tells-gep-object = (
  (
    tells-gep-arrays,
    λ s. let stands = (element_type false s.lengths).stands in
        apart-either flags_go_on (either is_square never) stands (no-flags-go-on stands (no-gep-flag stands (λ t. refl) (λ t. refl))) (apart-either is_square never stands (no-square stands (λ t. refl)) (apart-never stands)),
  ),
  λ found. (tells-closers _, λ closed. tt),
)

tells-pointer : TellsApart pointer
unfolding pointer
tells-pointer = (tt, λ a. (tt, λ b. tt))

tells-behind-access : (a : WrittenAccess) → TellsApart (align_or_attachment a)
unfolding align_or_attachment aligned attached
tells-behind-access a = (apart-spelled kind.Word (codes "align") _ _ (λ t e. only-word (codes "align") t (of-passed _ e)) (λ t. refl), (λ b. (tt, λ n. tt)), λ b. (tt, λ n. tt))

-- no type is an attachment
no-index : AreApart (λ t. is_some (int_type.stands t)) attachment_or_type.stands
no-index t e = go t.kind refl e
  where
    go : (k : Kind) → t.kind ≡ k → is_some (int_typed_at (spelled_width (bits_of k t.text)) t.place) ≡ true → attachment_or_type.stands t ≡ None
    go kind.Word is e' = subst (λ (k' : Kind). attachment_or_type.stands (record t { kind = k'; text = t.text }) ≡ None) (sym is) refl
    go _ is e' = absurd (cc e')

tells-behind-index : (g : WrittenGep) → TellsApart (index_or_attachment g)
unfolding index_or_attachment next_index attached
tells-behind-index g = (no-index, (λ type. (tt, λ value. tt)), λ a. (tt, λ n. tt))

tells-line-by : (number : ℕ) (name : WrittenName) (w : LineWord) → TellsApart (line_by number name w)
unfolding inst_line alloca load gep
tells-line-by number name word_of.Phi = tells-phi name
tells-line-by number name word_of.Alloca = (tells-alloca-object, λ object. tt)
tells-line-by number name word_of.Load = (tt, λ type. (tt, λ comma. (tells-pointer, λ from. tt)))
tells-line-by number name word_of.GetElementPtr = (tells-gep-object, λ object. (tt, λ comma. (tells-pointer, λ base. tt)))
tells-line-by number name (word_of.Inst o) = (tells-inst name o, λ a. tt)

tells-store : TellsApart store
unfolding store
tells-store = (tt, λ type. (tt, λ value. (tt, λ comma. (tells-pointer, λ to. tt))))

tells-named : (phi_too : Bool) (number : ℕ) (name : WrittenName) → TellsApart (line_named phi_too number name)
unfolding line_named
tells-named phi_too number name = (tt, λ a. (tt, λ w. tells-line-by number name w))

-- ---- the header

tells-prefixes : TellsApart prefixes
unfolding prefixes
tells-prefixes = (tt, (λ s. apart-never _), (λ s. apart-never _), λ s a. tt)

-- no type is spelled so
abbrev IsNoType : List ℕ → Type 0
IsNoType text = (t : Lexeme) → return_type.stands (record t { kind = kind.Word; text = text }) ≡ None

word-no-type : (text w : List ℕ) → IsNoType w → bytes_eq text w ≡ true → IsNoType text
word-no-type text w none e = subst IsNoType (sym (bytes-same text w e)) none

either-way : {P : Type 0} (a b : Bool) → (a ≡ true → P) → (b ≡ true → P) → (a || b) ≡ true → P
either-way true b p q e = p refl
either-way false b p q e = q e

eight-ways : {P : Type 0} (a b c d e f g h : Bool) → (a ≡ true → P) → (b ≡ true → P) → (c ≡ true → P) → (d ≡ true → P) → (e ≡ true → P) → (f ≡ true → P) → (g ≡ true → P) → (h ≡ true → P) → (a || b || c || d || e || f || g || h) ≡ true → P
eight-ways a b c d e f g h A B C D E F G H = either-way (a || b || c || d || e || f || g) h (either-way (a || b || c || d || e || f) g (either-way (a || b || c || d || e) f (either-way (a || b || c || d) e (either-way (a || b || c) d (either-way (a || b) c (either-way a b A B) C) D) E) F) G) H

linkage-no-type : (text : List ℕ) → is_linkage text ≡ true → IsNoType text
linkage-no-type text =
    eight-ways (bytes_eq text (codes "private")) (bytes_eq text (codes "internal")) (bytes_eq text (codes "external")) (bytes_eq text (codes "available_externally")) (bytes_eq text (codes "linkonce")) (bytes_eq text (codes "weak")) (bytes_eq text (codes "linkonce_odr")) (bytes_eq text (codes "weak_odr"))
    (word-no-type text (codes "private") (λ t. refl)) (word-no-type text (codes "internal") (λ t. refl)) (word-no-type text (codes "external") (λ t. refl)) (word-no-type text (codes "available_externally") (λ t. refl)) (word-no-type text (codes "linkonce") (λ t. refl)) (word-no-type text (codes "weak") (λ t. refl)) (word-no-type text (codes "linkonce_odr") (λ t. refl)) (word-no-type text (codes "weak_odr") (λ t. refl))

visibility-no-type : (text : List ℕ) → is_visibility text ≡ true → IsNoType text
visibility-no-type text =
    eight-ways (bytes_eq text (codes "default")) (bytes_eq text (codes "hidden")) (bytes_eq text (codes "protected")) (bytes_eq text (codes "dso_local")) (bytes_eq text (codes "ccc")) (bytes_eq text (codes "fastcc")) (bytes_eq text (codes "zeroext")) (bytes_eq text (codes "signext"))
    (word-no-type text (codes "default") (λ t. refl)) (word-no-type text (codes "hidden") (λ t. refl)) (word-no-type text (codes "protected") (λ t. refl)) (word-no-type text (codes "dso_local") (λ t. refl)) (word-no-type text (codes "ccc") (λ t. refl)) (word-no-type text (codes "fastcc") (λ t. refl)) (word-no-type text (codes "zeroext") (λ t. refl)) (word-no-type text (codes "signext") (λ t. refl))

prefix-no-type : (text : List ℕ) → is_some (prefix_named text false) ≡ true → IsNoType text
prefix-no-type text e = go (bytes_eq text (codes "noundef")) refl (is_linkage text || is_visibility text) refl e
  where
    go : (a : Bool) → bytes_eq text (codes "noundef") ≡ a → (b : Bool) → (is_linkage text || is_visibility text) ≡ b → is_some (cond a (Some true) (cond b (Some false) None)) ≡ true → IsNoType text
    go true is b is' e' = word-no-type text (codes "noundef") (λ t. refl) is
    go false is true is' e' = either-way (is_linkage text) (is_visibility text) (linkage-no-type text) (visibility-no-type text) is'
    go false is false is' e' = absurd (cc e')

no-prefix : AreApart is_prefix return_type.stands
no-prefix t e = go t.kind refl e
  where
    go : (k : Kind) → t.kind ≡ k → is_some (prefix_of k t.text false) ≡ true → return_type.stands t ≡ None
    go kind.Word is e' = subst (λ (k' : Kind). return_type.stands (record t { kind = k'; text = t.text }) ≡ None) (sym is) (prefix-no-type t.text e' t)
    go _ is e' = absurd (cc e')

no-close : AreApart follows_parameter (as_mark (codes ")"))
no-close = apart-from-mark (codes ")") follows_parameter (λ t. refl)

tells-part : (s : WrittenParameters) (a : ParameterPart) → TellsApart (with_part s a)
tells-part s part.NoUndef = tt
tells-part s part.NonNull = tt
tells-part s part.Extension = tt
tells-part s (part.Name name) = tt
tells-part s part.Next = (tt, λ a. tt)

tells-parts : (type : WrittenType) → TellsApart (parameter_parts type)
unfolding parameter_parts
tells-parts type = (tt, (λ s. apart-never _), (λ s. apart-never _), tells-part)

tells-first : (type : WrittenType) → TellsApart (first_parameter type)
unfolding first_parameter
tells-first type = ((tells-parts type, λ a. apart-tail follows_parameter _ no-close), λ a. tt)

tells-parameters : TellsApart parameters
unfolding parameters
tells-parameters = (apart-spelled kind.Mark (codes ")") _ _ (λ t e. only-mark (codes ")") t (of-passed _ e)) (λ t. refl), (λ a. tt), tells-first)

tells-header : (s : Bool) (a : HeaderPart) → TellsApart (with_header s a)
unfolding comdat_rest debug_rest
tells-header s header.Attribute = tt
tells-header s header.Comdat = tt
tells-header s header.Opening = (tt, λ a. (tt, λ b. tt))
tells-header s header.Debug = (tt, λ a. tt)

tells-headers : TellsApart header_parts
unfolding header_parts
tells-headers = (tt, (λ s. apart-never _), (λ s. apart-never _), tells-header)

no-brace : AreApart follows_header brace.stands
no-brace = apart-class kind.Mark (codes "{") follows_header brace.stands (λ t u e. only-mark (codes "{") t (of-place _ _ u e)) (λ t. refl)

-- ---- the block

tells-attachment : TellsApart attachment
unfolding attachment
tells-attachment = (tt, λ a. (tt, λ b. tt))

tells-record : TellsApart record_rest
unfolding record_rest
tells-record = (tt, λ a. tt)

tells-started : (phi_too : Bool) (number : ℕ) (a : LineStart) → TellsApart (started phi_too number a)
tells-started phi_too number (start.Label name) = tt
tells-started phi_too number (start.Inst name) = tells-named phi_too number name
tells-started phi_too number start.Store = tells-store
tells-started phi_too number start.Record = (tells-record, λ a. tt)

tells-comma : (l : WrittenLine) → TellsApart (with_comma l)
tells-comma (line.Label name) = tt
tells-comma line.Record = tt
tells-comma (line.Entries p) = tells-behind-entry p
tells-comma (line.Access a) = tells-behind-access a
tells-comma (line.Indices g) = tells-behind-index g
tells-comma (line.Phi p) = (tells-attachment, λ a. tt)
tells-comma (line.Inst i) = (tells-attachment, λ a. tt)

tells-whole : (s : WrittenLines) (a : LineStart) → TellsApart (whole_line s a)
unfolding whole_line
tells-whole s a = (tells-started _ _ a, (λ l. apart-never _), (λ l. apart-never _), λ l comma. tells-comma l)

-- a comma begins nothing that isn't spelled as one
apart-comma : {A : Type 0} (stands : Lexeme → Option A) → ((t : Lexeme) → stands (record t { kind = kind.Mark; text = codes "," }) ≡ None) → AreApart is_comma stands
apart-comma stands differs = apart-spelled kind.Mark (codes ",") is_comma stands (only-mark (codes ",")) differs

-- what may go on with a line, or with the last instruction of a block
apart-commas : {A : Type 0} (stands : Lexeme → Option A) → ((t : Lexeme) → stands (record t { kind = kind.Mark; text = codes "," }) ≡ None) → AreApart commas stands
apart-commas stands differs = apart-tail is_comma stands (apart-comma stands differs)

apart-behind : {A : Type 0} (stands : Lexeme → Option A) → ((t : Lexeme) → stands (record t { kind = kind.Mark; text = codes "," }) ≡ None) → AreApart (either commas never) stands
apart-behind stands differs = apart-either commas never stands (apart-commas stands differs) (apart-never stands)

apart-block : {A : Type 0} (stands : Lexeme → Option A) → ((t : Lexeme) → stands (record t { kind = kind.Mark; text = codes "," }) ≡ None) → AreApart (either (either commas never) never) stands
apart-block stands differs = apart-either (either commas never) never stands (apart-behind stands differs) (apart-never stands)

tells-lines : (is_new : Bool) (room : ℕ) → TellsApart (lines is_new room)
unfolding lines next_line
tells-lines is_new room = (tt, (λ s. apart-never _), (λ s. apart-behind _ (λ t. refl)), λ s a. tells-whole s a)

-- what begins a line is no terminator: of words only store does
no-terminator : (room : Bool) → AreApart starts_line (terminator_word room).stands
no-terminator room t e = go t.kind refl e
  where
    go : (k : Kind) → t.kind ≡ k → starts_line (record t { kind = k; text = t.text }) ≡ true → terminator_of t.kind t.text ≡ None
    go kind.Word is e' = by (bytes_eq t.text (codes "store")) refl e'
      where
        by : (b : Bool) → bytes_eq t.text (codes "store") ≡ b → (b || false || false) ≡ true → terminator_of t.kind t.text ≡ None
        by true same e'' = let text : t.text ≡ codes "store" = bytes-same t.text (codes "store") same in rw (is, text) refl
        by false same e'' = absurd (cc e'')
    go k is e' = subst (λ (k' : Kind). terminator_of k' t.text ≡ None) (sym is) refl

tells-returned : (type : Option IrType) (at : Place) → TellsApart (returned_by type at)
tells-returned None at = tt
tells-returned (Some type) at = (tt, λ a. tt)

tells-target : TellsApart target
unfolding target
tells-target = (tt, λ a. tt)

tells-cond : (bit : Place) → TellsApart (cond_branch bit)
unfolding cond_branch
tells-cond bit = (tt, λ a. (tt, λ b. (tells-target, λ c. (tt, λ d. (tells-target, λ e. tt)))))

tells-branch : TellsApart branch
unfolding branch branch_to
tells-branch = (apart-spelled kind.Word (codes "label") _ _ (λ t e. only-word (codes "label") t (of-passed _ e)) (λ t. refl), (λ a. (tt, λ b. tt)), tells-cond)

tells-cases : TellsApart cases
unfolding cases with_case
tells-cases = (tt, (λ s. apart-never _), (λ s. apart-never _), λ s a. (tt, λ b. (tt, λ c. (tells-target, λ d. tt))))

tells-switch : TellsApart switch
unfolding switch
tells-switch = (tt, λ a. (tt, λ b. (tt, λ c. (tells-target, λ d. (tt, λ e. ((tells-cases, λ s. apart-tail is_type _ (apart-from-mark (codes "]") is_type (λ t. refl))), λ f. tt))))))

tells-terminator : (w : TerminatorWord) → TellsApart (terminator_by w)
unfolding return_of returned
tells-terminator finish.Return = ((tt, λ a. tells-returned _ _), λ b. tt)
tells-terminator finish.Branch = tells-branch
tells-terminator finish.Switch = tells-switch
tells-terminator finish.Unreachable = tt

tells-attachments : TellsApart attachments
unfolding attachments
tells-attachments = (tt, (λ s. apart-never _), (λ s. apart-never _), λ s a. tells-attachment)

-- ---- blocks

no-end-of-lines : (room : Bool) → AreApart (either never (either starts_line (either commas never))) (terminator_word room).stands
no-end-of-lines room =
    apart-either never (either starts_line (either commas never)) _ (apart-never _) (apart-either starts_line (either commas never) _ (no-terminator room) (apart-behind _ (λ t. refl)))

tells-block : (is_new : Bool) (room : ℕ) → TellsApart (block is_new room)
unfolding block
tells-block is_new room = ((tells-lines is_new room, λ s. no-end-of-lines (nat_lt 0 s.room)), λ all. (tells-terminator all.1, λ last. tells-attachments))

tells-blocks : TellsApart blocks
unfolding blocks entry_block next_block
tells-blocks = (tells-block true _, (λ s. apart-block _ (λ t. refl)), (λ s. apart-block _ (λ t. refl)), λ s name. tells-block false s.room)

no-label : AreApart begins_block (as_mark (codes "}"))
no-label = apart-from-mark (codes "}") begins_block (λ t. refl)

no-end-of-blocks : AreApart (either (either (either commas never) never) (either begins_block (either (either commas never) never))) (as_mark (codes "}"))
no-end-of-blocks =
    let behind : AreApart (either (either commas never) never) (as_mark (codes "}")) = apart-block _ (λ t. refl) in
    apart-either (either (either commas never) never) (either begins_block (either (either commas never) never)) _ behind (apart-either begins_block (either (either commas never) never) _ no-label behind)

tells-define : TellsApart define
unfolding define
tells-define = (
  tt,
  λ head. (
    (tells-prefixes, λ a. apart-tail is_prefix _ no-prefix),
    λ type. (
      tt,
      λ name. (
        tt,
        λ opening. (
          tells-parameters,
          λ all. (
            (tells-headers, λ a. apart-tail follows_header _ no-brace),
            λ body. ((tells-blocks, λ b. no-end-of-blocks), λ closed. tt),
          ),
        ),
      ),
    ),
  ),
)

pub plain-define : SpellsAsPlain define
plain-define = spells-as-plain define tells-define

pub one-define : SpellsOne define
one-define = spells-one define tells-define
