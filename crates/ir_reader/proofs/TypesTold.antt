-- Each class of the grammar is of one of two kinds: where it comes next a type is allowed, and its reason looks
-- for types, or neither.
use Rattle.ir_reader.proofs.Common.{◌≡◌, ℕ, zero, suc, ◌+◌, inl, inr, Bool, true, false, List, [], ◌∷◌, ◌++◌, length, Option, Some, None, refl, sym, ap, subst, codes, arith, ◌&&◌, not, ◌==◌, if◌then◌else◌, nat_lt, is_some, bytes_eq, Width, Place, Lexeme, IrType, Int, Ptr, Op, Cast, Opcode, LineWord, TerminatorWord, LineStart, ParameterPart, WrittenName, WrittenIntType, WrittenType, WrittenParameters, WrittenLines, WrittenLine, WrittenPhi, WrittenCase, WrittenArrays, WrittenAccess, WrittenGep, reads, read, type_reason, width_in, width_reason, width_reason_of, int_typed_at, typed_at, type_in, int_type_in, is_pointer, is_void, returned_at, truth_value, operand_at, literal_at, token, start, bit_fits, int_type, counted_type, element_type, pointer_type, bit_type, return_type, operand_class, literal_class, line_word, flag_word, wraps, flagged_type, comparison, typed, arm, binary, wrapping, exact, plain, disjunction, icmp, cast_by, truncate, zero_extend, sign_extend, select, freeze, inst_by, entry, phi, next_entry, attached, entry_or_attachment, with_length, arrays, closers, alloca_object, gep_flags, gep_arrays, gep_object, pointer, alloca, load, store, gep, aligned, align_or_attachment, next_index, index_or_attachment, inst_line, line_by, line_named, prefixes, with_part, parameter_parts, first_parameter, parameters, comdat_rest, debug_rest, with_header, header_parts, attachment, record_rest, started, with_comma, whole_line, next_line, lines, returned_by, returned, target, cond_branch, branch_to, branch, is_type, with_case, cases, switch, return_of, terminator_by, attachments, block, entry_block, next_block, blocks, define, append-nil, parts, Spells, part_value, part_begins, read_lawful, read-found, one_bit, case_begins, case_within, most_parameters}
use Rattle.ir_lexer.specs.declared.token.Kind.TheVariants as kind
use Rattle.ir_words.specs.declared.word.Opcode.TheVariants as opcode
use Rattle.ir_words.specs.declared.word.Flag.{Flag}
use Rattle.ir_words.specs.declared.word.Flag.TheVariants as flag
use Rattle.ir_words.specs.declared.word.LineWord.TheVariants as word_of
use Rattle.ir_words.specs.declared.word.TerminatorWord.TheVariants as finish
use Rattle.ir_words.specs.declared.word.LineStart.TheVariants as start_of
use Rattle.ir_words.specs.declared.word.ParameterPart.TheVariants as part
use Rattle.ir_words.specs.declared.word.HeaderPart.{HeaderPart}
use Rattle.ir_words.specs.declared.word.HeaderPart.TheVariants as header
use Rattle.ir_words.specs.declared.written.WrittenLine.TheVariants as line
use Rattle.ir_words.specs.Spelling.{value_in}
use Rattle.ir_tree.specs.Carrying.{is_division, is_pointer as is_pointer_type}
use Rattle.ir_reader.proofs.Looking.{GoesOnWithTypes, parts-go-on, parts-end, IsOfType, IsOfNone, Stands, TellsTypes}

-- ---- classes of types

no-width : (t : Lexeme) → width_in t ≡ None → type_reason t ≡ width_reason t
no-width t e = sym (ap (λ w. width_reason_of w t) e)

none-int : (w : Option (Option Width)) (at : Place) → int_typed_at w at ≡ None → w ≡ None
none-int None at e = refl
none-int (Some w) at e = absurd (cc e)

none-typed : (w : Option (Option IrType)) (at : Place) → typed_at w at ≡ None → w ≡ None
none-typed None at e = refl
none-typed (Some w) at e = absurd (cc e)

none-returned : (w : Option (Option IrType)) (at : Place) → returned_at w at ≡ None → w ≡ None
none-returned None at e = refl
none-returned (Some w) at e = absurd (cc e)

none-type : (b : Bool) (w : Option (Option Width)) → (if b then Some (Some Ptr) else int_type_in w) ≡ None → w ≡ None
none-type true w e = absurd (cc e)
none-type false None e = refl
none-type false (Some w) e = absurd (cc e)

int-kind : IsOfType (λ t. int_type.stands t ≡ None) (Stands int_type.stands) int_type.reason
int-kind = (λ t e. no-width t (none-int (width_in t) t.place e), inl (int_type.value, refl))

counted-kind : (room : Bool) → IsOfType (λ t. (counted_type room).stands t ≡ None) (Stands (counted_type room).stands) (counted_type room).reason
counted-kind room = (λ t e. no-width t (none-type (is_pointer t) (width_in t) (none-typed (type_in t) t.place e)), inr (inr ((counted_type room).value, refl)))

pointer-kind : IsOfType (λ t. pointer_type.stands t ≡ None) (Stands pointer_type.stands) pointer_type.reason
pointer-kind = (λ t e. refl, inr (inr (pointer_type.value, refl)))

bit-kind : IsOfType (λ t. bit_type.stands t ≡ None) (Stands bit_type.stands) bit_type.reason
bit-kind = (λ t e. refl, inl (start, bit_fits))

none-return : (t : Lexeme) → return_type.stands t ≡ None → width_in t ≡ None
none-return t e = go (is_void t) refl e
  where
    go : (b : Bool) → is_void t ≡ b → (if b then Some (record { of_type = None; at = t.place }) else returned_at (type_in t) t.place) ≡ None → width_in t ≡ None
    go true is e' = absurd (cc e')
    go false is e' = none-type (is_pointer t) (width_in t) (none-returned (type_in t) t.place e')

-- ---- classes of values and words

no-truth : (bits : ℕ) (text : List ℕ) → bytes_eq text (codes "true") ≡ false → bytes_eq text (codes "false") ≡ false → truth_value bits text ≡ None
no-truth bits text a b = rw (a, b) (go (bits == 1) (Some 1) (Some 0))
  where
    go : (one : Bool) (x y : Option ℕ) → (if one && false then x else (if one && false then y else None)) ≡ None
    go true x y = refl
    go false x y = refl

no-value : (undef_too : Bool) (type : IrType) (text : List ℕ) → bytes_eq text (codes "poison") ≡ false → bytes_eq text (codes "undef") ≡ false → bytes_eq text (codes "true") ≡ false → bytes_eq text (codes "false") ≡ false → bytes_eq text (codes "null") ≡ false → value_in undef_too type kind.Word text ≡ None
no-value true (Int width) text a b c d e = rw (a, b, no-truth width.bits text c d) refl
no-value false (Int width) text a b c d e = rw (a, no-truth width.bits text c d) refl
no-value true Ptr text a b c d e = rw (a, b, e) refl
no-value false Ptr text a b c d e = rw (a, e) refl

operand-kind : (undef_too : Bool) (type : IrType) → IsOfNone (λ t. (operand_class undef_too type).stands t ≡ None) (operand_class undef_too type).reason
operand-kind undef_too type = (λ t. refl, (ap (λ v. operand_at v start) (no-value undef_too type (codes "i1") refl refl refl refl refl), ap (λ v. operand_at v start) (no-value undef_too type (codes "i8") refl refl refl refl refl), ap (λ v. operand_at v start) (no-value undef_too type (codes "ptr") refl refl refl refl refl)))

literal-kind : (w : Width) → IsOfNone (λ t. (literal_class w).stands t ≡ None) (literal_class w).reason
literal-kind w = (λ t. refl, (ap (λ v. literal_at v start) (no-truth w.bits (codes "i1") refl refl), ap (λ v. literal_at v start) (no-truth w.bits (codes "i8") refl refl), ap (λ v. literal_at v start) (no-truth w.bits (codes "ptr") refl refl)))

line-kind : (phi_too : Bool) → IsOfNone (λ t. (line_word phi_too).stands t ≡ None) (line_word phi_too).reason
line-kind true = (λ t. refl, (refl, refl, refl))
line-kind false = (λ t. refl, (refl, refl, refl))

-- ---- instructions

tells-wraps : (ordered : Bool) → TellsTypes (wraps ordered)
unfolding wraps
tells-wraps ordered = (tt, λ s a. tt)

tells-flagged : (f : Flag) → TellsTypes (flagged_type f)
unfolding flagged_type
tells-flagged f = (inl (λ t no. int-kind.0 t no.1, inl (inr (no-flag f, (int_type.value, refl)))), (λ a. (inl int-kind, λ b. tt)), λ b. tt)
  where
    no-flag : (g : Flag) → (flag_word g).stands (token kind.Word (codes "i1")) ≡ None
    no-flag flag.Exact = refl
    no-flag flag.Disjoint = refl
    no-flag flag.NonNegative = refl
    no-flag flag.SameSign = refl

tells-comparison : TellsTypes comparison
unfolding comparison
tells-comparison = (inr (λ t. refl, ((refl, refl), (refl, refl), (refl, refl))), (λ a. (inr (λ t. refl, (refl, refl, refl)), λ b. tt)), λ b. tt)

tells-typed : (undef_too : Bool) → TellsTypes (typed undef_too)
unfolding typed
tells-typed undef_too = (inl (counted-kind true), λ a. (inr (operand-kind undef_too a.of_type), λ b. tt))

tells-binary : (name : WrittenName) (o : Op) (type : WrittenIntType) → TellsTypes (binary name o type)
unfolding binary
tells-binary name o type = (inr (operand-kind (not (is_division o)) (Int type.width)), λ a. (inr (λ t. refl, (refl, refl, refl)), λ b. (inr (operand-kind (not (is_division o)) (Int type.width)), λ c. tt)))

tells-arm : (of_integer : Bool) → TellsTypes (arm of_integer)
unfolding arm
tells-arm false = (inl (counted-kind true), λ a. (inr (operand-kind (not (is_pointer_type a.of_type)) a.of_type), λ b. tt))
tells-arm true = ((inl int-kind, λ a. tt), λ a. (inr (operand-kind (not (is_pointer_type a.of_type)) a.of_type), λ b. tt))

tells-cast : (name : WrittenName) (c : Cast) (from : WrittenIntType) → TellsTypes (cast_by name c from)
unfolding cast_by
tells-cast name c from = (inr (operand-kind true (Int from.width)), λ a. (inr (λ t. refl, (refl, refl, refl)), λ b. (inl int-kind, λ d. tt)))

tells-inst : (name : WrittenName) (o : Opcode) → TellsTypes (inst_by name o)
unfolding wrapping exact plain disjunction icmp truncate zero_extend sign_extend select freeze
tells-inst name (opcode.Wrapping w) = ((tells-wraps false, λ a. inl (int-kind.0, inl (refl, (int_type.value, refl)))), λ a. tells-binary name _ _)
tells-inst name (opcode.Exact w) = (tells-flagged flag.Exact, λ a. tells-binary name _ _)
tells-inst name (opcode.Plain o) = (inl int-kind, λ a. tells-binary name _ _)
tells-inst name opcode.Or = (tells-flagged flag.Disjoint, λ a. tells-binary name _ _)
tells-inst name opcode.Icmp = (tells-comparison, λ a. (inl int-kind, λ b. (inr (operand-kind true (Int b.width)), λ c. (inr (λ t. refl, (refl, refl, refl)), λ d. (inr (operand-kind true (Int b.width)), λ e. tt)))))
tells-inst name opcode.Truncate = ((tells-wraps true, λ a. inl (int-kind.0, inl (refl, (int_type.value, refl)))), λ a. tells-cast name _ _)
tells-inst name opcode.ZeroExtend = (tells-flagged flag.NonNegative, λ a. tells-cast name _ _)
tells-inst name opcode.SignExtend = (inl int-kind, λ a. tells-cast name _ _)
tells-inst name opcode.Select = (inl bit-kind, λ a. (inr (operand-kind true (Int one_bit)), λ b. (inr (λ t. refl, (refl, refl, refl)), λ c. (tells-arm _, λ d. (inr (λ t. refl, (refl, refl, refl)), λ e. (tells-arm _, λ f. tt))))))
tells-inst name opcode.Freeze = (tells-typed true, λ a. tt)

tells-entry : (type : WrittenType) → TellsTypes (entry type)
unfolding entry
tells-entry type = (inr (operand-kind false type.of_type), λ a. (inr (λ t. refl, (refl, refl, refl)), λ b. (inr (λ t. refl, (refl, refl, refl)), λ c. (inr (λ t. refl, (refl, refl, refl)), λ d. tt))))

tells-phi : (name : WrittenName) → TellsTypes (phi name)
unfolding phi
tells-phi name = (inl (counted-kind true), λ a. (inr (λ t. refl, (refl, refl, refl)), λ b. (tells-entry a, λ c. tt)))

tells-behind-entry : (p : WrittenPhi) → TellsTypes (entry_or_attachment p)
unfolding entry_or_attachment next_entry attached
tells-behind-entry p = (inr (λ t. refl, ((refl, refl), (refl, refl), (refl, refl))), (λ a. (tells-entry p.of_type, λ b. tt)), λ a. (inr (λ t. refl, (refl, refl, refl)), λ b. tt))

-- ---- memory

tells-length : (s : WrittenArrays) → TellsTypes (with_length s)
unfolding with_length
tells-length s = (inr (λ t. refl, (refl, refl, refl)), λ a. (inr (λ t. refl, (refl, refl, refl)), λ b. tt))

tells-arrays : (s : WrittenArrays) → TellsTypes (arrays s)
unfolding arrays
tells-arrays s = (tt, λ s' opening. tells-length s')

tells-closers : (n : ℕ) → TellsTypes (closers n)
tells-closers zero = tt
tells-closers (suc n) = (inr (λ t. refl, (refl, refl, refl)), λ a. tells-closers n)

tells-alloca-object : TellsTypes alloca_object
unfolding alloca_object
tells-alloca-object = ((tells-arrays _, λ s. inl ((counted-kind true).0, inr (inr (refl, ((element_type true s.lengths).value, refl))))), λ found. (tells-closers _, λ closed. tt))

tells-gep-flags : TellsTypes gep_flags
unfolding gep_flags
tells-gep-flags = (tt, λ s a. tt)

tells-gep-arrays : TellsTypes gep_arrays
unfolding gep_arrays
tells-gep-arrays = (tells-gep-flags, λ s opening. tells-length s)

tells-gep-object : TellsTypes gep_object
unfolding gep_object
tells-gep-object = ((tells-gep-arrays, λ s. inl ((counted-kind true).0, inr (inr (refl, ((element_type false s.lengths).value, refl))))), λ found. (tells-closers _, λ closed. tt))

tells-pointer : TellsTypes pointer
unfolding pointer
tells-pointer = (inl pointer-kind, λ a. (inr (operand-kind false a.of_type), λ b. tt))

tells-behind-access : (a : WrittenAccess) → TellsTypes (align_or_attachment a)
unfolding align_or_attachment aligned attached
tells-behind-access a = (inr (λ t. refl, ((refl, refl), (refl, refl), (refl, refl))), (λ b. (inr (λ t. refl, (refl, refl, refl)), λ n. tt)), λ b. (inr (λ t. refl, (refl, refl, refl)), λ n. tt))

tells-behind-index : (g : WrittenGep) → TellsTypes (index_or_attachment g)
unfolding index_or_attachment next_index attached
tells-behind-index g = (inl (λ t no. int-kind.0 t no.0, inl (inl (int_type.value, refl))), (λ type. (inr (operand-kind false (Int type.width)), λ value. tt)), λ a. (inr (λ t. refl, (refl, refl, refl)), λ n. tt))

tells-line-by : (number : ℕ) (name : WrittenName) (w : LineWord) → TellsTypes (line_by number name w)
unfolding inst_line alloca load gep
tells-line-by number name word_of.Phi = tells-phi name
tells-line-by number name word_of.Alloca = (tells-alloca-object, λ object. tt)
tells-line-by number name word_of.Load = (inl (counted-kind true), λ type. (inr (λ t. refl, (refl, refl, refl)), λ comma. (tells-pointer, λ from. tt)))
tells-line-by number name word_of.GetElementPtr = (tells-gep-object, λ object. (inr (λ t. refl, (refl, refl, refl)), λ comma. (tells-pointer, λ base. tt)))
tells-line-by number name (word_of.Inst o) = (tells-inst name o, λ a. tt)

tells-store : TellsTypes store
unfolding store
tells-store = (inl (counted-kind true), λ type. (inr (operand-kind false type.of_type), λ value. (inr (λ t. refl, (refl, refl, refl)), λ comma. (tells-pointer, λ to. tt))))

tells-named : (phi_too : Bool) (number : ℕ) (name : WrittenName) → TellsTypes (line_named phi_too number name)
unfolding line_named
tells-named phi_too number name = (inr (λ t. refl, (refl, refl, refl)), λ a. (inr (line-kind phi_too), λ w. tells-line-by number name w))

-- ---- the header

tells-prefixes : TellsTypes prefixes
unfolding prefixes
tells-prefixes = (tt, λ s a. tt)

tells-part : (s : WrittenParameters) (a : ParameterPart) → TellsTypes (with_part s a)
tells-part s part.NoUndef = tt
tells-part s part.NonNull = tt
tells-part s part.Extension = tt
tells-part s (part.Name name) = tt
tells-part s part.Next = (inl (counted-kind (nat_lt (length s.before + 1) most_parameters)), λ a. tt)

tells-parts : (type : WrittenType) → TellsTypes (parameter_parts type)
unfolding parameter_parts
tells-parts type = (tt, tells-part)

tells-first : (type : WrittenType) → TellsTypes (first_parameter type)
unfolding first_parameter
tells-first type = ((tells-parts type, λ a. inr (inl (λ t. refl, ((refl, refl), (refl, refl), (refl, refl))))), λ a. tt)

tells-parameters : TellsTypes parameters
unfolding parameters
tells-parameters = (inl (λ t no. (counted-kind true).0 t no.1, inl (inr (refl, ((_, refl))))), (λ a. tt), tells-first)

tells-header : (s : Bool) (a : HeaderPart) → TellsTypes (with_header s a)
unfolding comdat_rest debug_rest
tells-header s header.Attribute = tt
tells-header s header.Comdat = tt
tells-header s header.Opening = (inr (λ t. refl, (refl, refl, refl)), λ a. (inr (λ t. refl, (refl, refl, refl)), λ b. tt))
tells-header s header.Debug = (inr (λ t. refl, (refl, refl, refl)), λ a. tt)

tells-headers : TellsTypes header_parts
unfolding header_parts
tells-headers = (tt, tells-header)

-- ---- the block

tells-attachment : TellsTypes attachment
unfolding attachment
tells-attachment = (inr (λ t. refl, (refl, refl, refl)), λ a. (inr (λ t. refl, (refl, refl, refl)), λ b. tt))

tells-record : TellsTypes record_rest
unfolding record_rest
tells-record = (inr (λ t. refl, (refl, refl, refl)), λ a. tt)

tells-started : (phi_too : Bool) (number : ℕ) (a : LineStart) → TellsTypes (started phi_too number a)
tells-started phi_too number (start_of.Label name) = tt
tells-started phi_too number (start_of.Inst name) = tells-named phi_too number name
tells-started phi_too number start_of.Store = tells-store
tells-started phi_too number start_of.Record = (tells-record, λ a. tt)

tells-comma : (l : WrittenLine) → TellsTypes (with_comma l)
tells-comma (line.Label name) = tt
tells-comma line.Record = tt
tells-comma (line.Entries p) = tells-behind-entry p
tells-comma (line.Access a) = tells-behind-access a
tells-comma (line.Indices g) = tells-behind-index g
tells-comma (line.Phi p) = (tells-attachment, λ a. tt)
tells-comma (line.Inst i) = (tells-attachment, λ a. tt)

tells-whole : (s : WrittenLines) (a : LineStart) → TellsTypes (whole_line s a)
unfolding whole_line
tells-whole s a = (tells-started _ _ a, λ l comma. tells-comma l)

tells-lines : (is_new : Bool) (room : ℕ) → TellsTypes (lines is_new room)
unfolding lines next_line
tells-lines is_new room = (tt, λ s a. tells-whole s a)

tells-returned : (type : Option IrType) (at : Place) → TellsTypes (returned_by type at)
tells-returned None at = tt
tells-returned (Some type) at = (inr (operand-kind true type), λ a. tt)

tells-target : TellsTypes target
unfolding target
tells-target = (inr (λ t. refl, (refl, refl, refl)), λ a. inr (λ t. refl, (refl, refl, refl)))

tells-cond : (bit : Place) → TellsTypes (cond_branch bit)
unfolding cond_branch
tells-cond bit = (inr (operand-kind false (Int one_bit)), λ a. (inr (λ t. refl, (refl, refl, refl)), λ b. (tells-target, λ c. (inr (λ t. refl, (refl, refl, refl)), λ d. (tells-target, λ e. tt)))))

tells-branch : TellsTypes branch
unfolding branch branch_to
tells-branch = (inl (λ t no. refl, inl (inr (refl, (start, bit_fits)))), (λ a. (inr (λ t. refl, (refl, refl, refl)), λ b. tt)), tells-cond)

tells-cases : TellsTypes cases
unfolding cases with_case
tells-cases = (tt, λ s a. (inr (literal-kind a.width), λ b. (inr (λ t. refl, (refl, refl, refl)), λ c. (tells-target, λ d. tt))))

-- after a case the type of another is allowed, and a token that begins none has no width
cases-go-on : GoesOnWithTypes cases
unfolding cases
cases-go-on ts rest a W =
    inl (parts-go-on is_type case_begins case_within (λ s x us. read false (with_case s x) us) (λ s x. read_lawful false (with_case s x)) (token kind.Word (codes "i1")) (λ s. (int_type.value, refl))
    (length (W.front ++ [])) [] W.front a (subst (λ us. parts false is_type case_begins case_within (λ s x vs. read false (with_case s x) vs) (length (W.front ++ [])) [] us ≡ reads a []) (append-nil W.front) (W.again [] (inr refl))) (length (W.front ++ token kind.Word (codes "i1") ∷ [])) (omega arith))

none-case : (w : Option (Option Width)) (at : Place) → part_value (is_some w) (int_typed_at w at) ≡ None → w ≡ None
none-case None at e = refl
none-case (Some w) at e = absurd (cc e)

case-reason : (s : List WrittenCase) (ts q : List Lexeme) (t : Lexeme) → read false cases ts ≡ reads s (t ∷ q) → type_reason t ≡ width_reason t
unfolding cases
case-reason s ts q t e = no-width t (none-case (width_in t) t.place (ended (read-found false cases ts s (t ∷ q) e)))
  where
    ended : Spells false cases s ts (t ∷ q) → part_begins is_type (case_begins s) t ≡ None
    ended S = parts-end false is_type case_begins case_within (λ s' a x inside behind. Spells false (with_case s' a) x inside behind) S.3 S.0 s S.1 (t ∷ q) S.4

tells-switch : TellsTypes switch
unfolding switch
tells-switch = (inl int-kind, λ a. (inr (operand-kind false (Int a.width)), λ b. (inr (λ t. refl, (refl, refl, refl)), λ c. (tells-target, λ d. (inr (λ t. refl, (refl, refl, refl)), λ e. ((tells-cases, λ s. inr (inr (case-reason s, cases-go-on))), λ f. tt))))))

tells-terminator : (w : TerminatorWord) → TellsTypes (terminator_by w)
unfolding return_of returned
tells-terminator finish.Return = ((inl (λ t e. no-width t (none-return t e), inr (inr (_, refl))), λ a. tells-returned _ _), λ b. tt)
tells-terminator finish.Branch = tells-branch
tells-terminator finish.Switch = tells-switch
tells-terminator finish.Unreachable = tt

tells-attachments : TellsTypes attachments
unfolding attachments
tells-attachments = (tt, λ s a. tells-attachment)

-- ---- blocks

tells-block : (is_new : Bool) (room : ℕ) → TellsTypes (block is_new room)
unfolding block
tells-block is_new room = ((tells-lines is_new room, λ s. inr (inl (λ t. refl, ((refl, refl), (refl, refl), (refl, refl))))), λ all. (tells-terminator all.1, λ last. tells-attachments))

tells-blocks : TellsTypes blocks
unfolding blocks entry_block next_block
tells-blocks = (tells-block true _, λ s name. tells-block false s.room)

pub tells-define : TellsTypes define
unfolding define
tells-define = (
  inr (λ t. refl, (refl, refl, refl)),
  λ head. (
    (tells-prefixes, λ a. inl (λ t e. no-width t (none-return t e), inr (inr (refl, (_, refl))))),
    λ type. (
      inr (λ t. refl, (refl, refl, refl)),
      λ name. (
        inr (λ t. refl, (refl, refl, refl)),
        λ opening. (
          tells-parameters,
          λ all. (
            (tells-headers, λ a. inr (inl (λ t. refl, ((refl, refl), (refl, refl), (refl, refl))))),
            λ body. ((tells-blocks, λ b. inr (inl (λ t. refl, ((refl, refl), (refl, refl), (refl, refl))))), λ closed. tt),
          ),
        ),
      ),
    ),
  ),
)
