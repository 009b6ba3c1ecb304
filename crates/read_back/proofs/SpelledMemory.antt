-- Printed types of objects and instructions on memory are spelled, up to what follows commas.
use Rattle.read_back.proofs.Common.{◌≡◌, ℕ, suc, ◌+◌, ◌<◌, ◌≤◌, ◌^◌, Bool, true, false, List, [], ◌∷◌, ◌++◌, length, refl, sym, ap, subst, ◌∙◌, codes, arith, append_assoc, append-nil, All, lt-ltb, length-append, WrittenName, WrittenType, WrittenTyped, WrittenObject, WrittenArrays, GepFlags, WrittenGep, WrittenAccess, WrittenLine, is_square, array_begins, array_within, with_length, arrays, no_gep_flags, behind_flags, closers, alloca_object, is_gep_flag, gep_flags, gep_arrays, gep_object, alloca, load, store, gep, line_named, never, either, Piece, none, space, comma, type_text, array_pieces, closing_pieces, object_pieces, word_if}
use Rattle.ir_words.specs.declared.word.LineWord.TheVariants as word_of
use Rattle.ir_words.specs.declared.written.WrittenAccess.TheVariants as access
use Rattle.ir_words.specs.declared.written.WrittenLine.TheVariants as line
use Rattle.ir_printer.specs.Pieces as piece
use Rattle.read_back.proofs.Written.{typed_pieces, pointer_pieces}
use Rattle.read_back.proofs.Placeless.{name_of, type_of, typed_of, object_of, access_of, gep_of}
use Rattle.read_back.proofs.Spellable.{IsTyped, IsPointer, IsObject, AreFlags}
use Rattle.read_back.proofs.SpelledTokens.{IsSpelled, AreSpelled, spelled-give, one-then, seq-then, seq-last, upto-is, spelled-mapped, spelled-as, no-more, more-is, more-as, flag-more, tail-from, spelled-tail}
use Rattle.read_back.proofs.SpelledClasses.{a_type, a_value, type-reads, element-reads, length-reads, value-reads, line-reads}
use Rattle.read_back.proofs.SpelledOperands.{word-then, mark-then, pointer-spelled}
use Rattle.read_back.proofs.SpelledInsts.{same-both}

-- ---- types of objects

abbrev pub an_array : GepFlags → List ℕ → WrittenArrays
an_array flags lengths = record { flags = flags; lengths = lengths }

length-spelled : (flags : GepFlags) (before : List ℕ) (n : ℕ) → n < 2 ^ 64
    → IsSpelled (with_length (an_array flags before))
    (piece.number none n ∷ piece.word space (codes "x") ∷ [])
    (λ s. s ≡ an_array flags (before ++ n ∷ []))
unfolding with_length
length-spelled flags before n l =
    one-then (λ at. n) (length-reads none n l) (λ at. word-then (spelled-give refl))

first-length : (n : ℕ) (ns : List ℕ) → All (λ (m : ℕ). m < 2 ^ 64) (n ∷ ns) → n < 2 ^ 64
first-length n ns all = all 0 0 (omega arith)

other-lengths : (n : ℕ) (ns : List ℕ) → All (λ (m : ℕ). m < 2 ^ 64) (n ∷ ns)
    → All (λ (m : ℕ). m < 2 ^ 64) ns
other-lengths n ns all k d l = all (suc k) d (omega (arith, l))

room-left : (before : List ℕ) (n : ℕ) (ns : List ℕ) → length before + length (n ∷ ns) ≤ 8
    → length (before ++ n ∷ []) + length ns ≤ 8
room-left before n ns few = omega (arith, few, length-append before (n ∷ []))

arrays-spelled : (flags : GepFlags) (before lengths : List ℕ) → length before + length lengths ≤ 8
    → All (λ (n : ℕ). n < 2 ^ 64) lengths
    → AreSpelled is_square array_begins array_within (λ s opening. with_length s)
    (an_array flags before) (array_pieces lengths) (λ s. s ≡ an_array flags (before ++ lengths))
arrays-spelled flags before [] few small = no-more (ap (an_array flags) (sym (append-nil before)))
arrays-spelled flags before (n ∷ ns) few small =
    more-as
    (more-is (an_array flags (before ++ n ∷ [])) (piece.mark space (codes "["))
    (piece.number none n ∷ piece.word space (codes "x") ∷ []) (array_pieces ns) (λ at. tt)
    (record { stands_for = λ t. refl; keeps = λ t. lt-ltb (length before) 8 (omega (arith, few)) })
    (λ at. length-spelled flags before n (first-length n ns small))
    (arrays-spelled flags (before ++ n ∷ []) ns (room-left before n ns few)
    (other-lengths n ns small)))
    (λ s e. e ∙ ap (an_array flags) (append_assoc before (n ∷ []) ns))

closers-spelled : (lengths : List ℕ) → IsSpelled (closers (length lengths)) (closing_pieces lengths)
    (λ x. Unit {0})
closers-spelled [] = spelled-give tt
closers-spelled (n ∷ lengths) = mark-then (closers-spelled lengths)

alloca-object : (type : WrittenObject) → IsObject true type.of_type
    → IsSpelled alloca_object (object_pieces type.of_type) (λ x. object_of x ≡ object_of type)
unfolding alloca_object arrays
alloca-object type is =
    upto-is (an_array no_gep_flags type.of_type.lengths) (array_pieces type.of_type.lengths)
    (closing_pieces type.of_type.lengths) (piece.word space (type_text type.of_type.element))
    (a_type type.of_type.element)
    (tail-from is_square never
    (arrays-spelled no_gep_flags [] type.of_type.lengths (omega (arith, is.arrays)) is.lengths))
    (element-reads space true type.of_type.lengths type.of_type.element is.small)
    (λ at. seq-last (closers-spelled type.of_type.lengths) (λ a u. spelled-give refl))

-- flags, where these pieces spell them, and arrays
gep-arrays : (ps : List Piece) (flags : GepFlags) (lengths : List ℕ)
    → IsSpelled gep_flags ps (λ f. f ≡ flags) → length lengths ≤ 8
    → All (λ (n : ℕ). n < 2 ^ 64) lengths
    → IsSpelled gep_arrays (ps ++ array_pieces lengths) (λ s. s ≡ an_array flags lengths)
unfolding gep_arrays
gep-arrays ps flags lengths found few small =
    spelled-tail is_square (either (either never (either is_gep_flag never)) never) never
    {First = λ s. s ≡ an_array flags []} ps (array_pieces lengths)
    (spelled-mapped (either never (either is_gep_flag never))
    (spelled-as found (λ f e. ap behind_flags e)))
    (λ s e. subst
    (λ (y : WrittenArrays). AreSpelled is_square array_begins array_within
    (λ s' opening. with_length s') y (array_pieces lengths)
    (λ s'. s' ≡ an_array flags lengths)) (sym e)
    (arrays-spelled flags [] lengths (omega (arith, few)) small))

-- .. and a type
gep-object : (ps : List Piece) (flags : GepFlags) (type : WrittenObject)
    → IsSpelled gep_flags ps (λ f. f ≡ flags) → IsObject false type.of_type
    → IsSpelled gep_object (ps ++ object_pieces type.of_type)
    (λ x. (x.0 ≡ flags) × (object_of x.1 ≡ object_of type))
unfolding gep_object
gep-object ps flags type found is =
    let all : IsSpelled gep_object
    ((ps ++ array_pieces type.of_type.lengths) ++ piece.word space
    (type_text type.of_type.element) ∷ closing_pieces type.of_type.lengths)
    (λ x. (x.0 ≡ flags) × (object_of x.1 ≡ object_of type)) =
    upto-is (an_array flags type.of_type.lengths) (ps ++ array_pieces type.of_type.lengths)
    (closing_pieces type.of_type.lengths) (piece.word space (type_text type.of_type.element))
    (a_type type.of_type.element)
    (gep-arrays ps flags type.of_type.lengths found is.arrays is.lengths)
    (element-reads space false type.of_type.lengths type.of_type.element is.small)
    (λ at. seq-last (closers-spelled type.of_type.lengths) (λ a u. spelled-give (refl, refl)))
    in subst
    (λ (pieces : List Piece). IsSpelled gep_object pieces
    (λ x. (x.0 ≡ flags) × (object_of x.1 ≡ object_of type)))
    (append_assoc ps (array_pieces type.of_type.lengths)
    (piece.word space
    (type_text type.of_type.element) ∷ closing_pieces type.of_type.lengths)) all

-- ---- flags

abbrev the_flags : Bool → Bool → GepFlags
the_flags inbounds nuw = record { inbounds = inbounds; nuw = nuw }

no-flags : IsSpelled gep_flags [] (λ f. f ≡ the_flags false false)
unfolding gep_flags
no-flags = tail-from is_gep_flag never (no-more refl)

inbounds-alone : IsSpelled gep_flags (piece.word space (codes "inbounds") ∷ [])
    (λ f. f ≡ the_flags true false)
unfolding gep_flags
inbounds-alone =
    tail-from is_gep_flag never
    (flag-more (the_flags true false) (record { stands_for = λ t. refl; keeps = λ t. refl })
    (no-more refl))

both-flags : IsSpelled gep_flags
    (piece.word space (codes "inbounds") ∷ piece.word space (codes "nuw") ∷ [])
    (λ f. f ≡ the_flags true true)
unfolding gep_flags
both-flags =
    tail-from is_gep_flag never
    (flag-more (the_flags true false) (record { stands_for = λ t. refl; keeps = λ t. refl })
    (flag-more (the_flags true true) (record { stands_for = λ t. refl; keeps = λ t. refl })
    (no-more refl)))

-- ---- instructions

-- a line that may get an alignment, with these parts
pub record IsAccessLine (v : WrittenAccess) (l : WrittenLine) : Type 0 where
  pub access : WrittenAccess
  pub is : l ≡ line.Access access
  pub same : access_of access ≡ v

pub alloca-line : (phi_too : Bool) (n : ℕ) (name : WrittenName) (type : WrittenObject)
    → IsObject true type.of_type
    → IsSpelled (line_named phi_too n name)
    (piece.mark space (codes "=") ∷ piece.word space (codes "alloca") ∷ object_pieces type.of_type)
    (IsAccessLine (access_of (access.Alloca name n type)))
unfolding line_named alloca
alloca-line phi_too n name type is =
    mark-then (
    one-then (λ at. word_of.Alloca)
    (line-reads phi_too space (codes "alloca") word_of.Alloca refl refl) (λ at.
    seq-last (alloca-object type is) (λ x e.
    spelled-give
    (record {
      access = access.Alloca name n x;
      is = refl;
      same = ap (λ (y : WrittenObject). access.Alloca (name_of name) n y) e;
    }))))

pub load-line : (phi_too : Bool) (n : ℕ) (name : WrittenName) (type : WrittenType)
    (from : WrittenTyped) → IsPointer from
    → IsSpelled (line_named phi_too n name)
    (piece.mark space (codes "=") ∷ piece.word space (codes "load") ∷ piece.word space
    (type_text type.of_type) ∷ comma ∷ pointer_pieces from)
    (IsAccessLine (access_of (access.Load name type from)))
unfolding line_named load
load-line phi_too n name type from is =
    mark-then (
    one-then (λ at. word_of.Load) (line-reads phi_too space (codes "load") word_of.Load refl refl)
    (λ at.
    one-then (a_type type.of_type) (type-reads space true type.of_type refl) (λ at'.
    mark-then (
    seq-last (pointer-spelled from is) (λ x e.
    spelled-give
    (record {
      access = access.Load name (a_type type.of_type at') x;
      is = refl;
      same = ap (λ (y : WrittenTyped). access.Load (name_of name) (type_of type) y) e;
    }))))))

pub store-line : (value to : WrittenTyped) → IsTyped false value → IsPointer to
    → IsSpelled store (typed_pieces value ++ comma ∷ pointer_pieces to)
    (IsAccessLine (access_of (access.Store value to)))
unfolding store
store-line value to fits is =
    one-then (a_type value.of_type.of_type) (type-reads space true value.of_type.of_type refl) (λ at.
    one-then (a_value value.operand.value)
    (value-reads false value.of_type.of_type value.operand.value fits) (λ at'.
    mark-then (
    seq-last (pointer-spelled to is) (λ x e.
    spelled-give
    (record {
      access = access.Store
          (record {
            of_type = a_type value.of_type.of_type at;
            operand = a_value value.operand.value at';
          }) x;
      is = refl;
      same = ap (λ (y : WrittenTyped). access.Store (typed_of value) y) e;
    })))))

-- a getelementptr that may get indices, with these parts
pub record IsGepLine (v : WrittenGep) (l : WrittenLine) : Type 0 where
  pub gep : WrittenGep
  pub is : l ≡ line.Indices gep
  pub same : gep_of gep ≡ v

abbrev pub without_indices : WrittenGep → WrittenGep
without_indices g =
    record { into = g.into; flags = g.flags; of_type = g.of_type; base = g.base; indices = [] }

abbrev a_gep : WrittenName → GepFlags → WrittenObject → WrittenTyped → WrittenGep
a_gep name flags type base =
    record { into = name; flags = flags; of_type = type; base = base; indices = [] }

gep-spelled : (ps : List Piece) (name : WrittenName) (flags : GepFlags) (type : WrittenObject)
    (base : WrittenTyped) → IsSpelled gep_flags ps (λ f. f ≡ flags) → IsObject false type.of_type
    → IsPointer base
    → IsSpelled (gep name) ((ps ++ object_pieces type.of_type) ++ comma ∷ pointer_pieces base)
    (IsGepLine (gep_of (a_gep name flags type base)))
unfolding gep
gep-spelled ps name flags type base found is base_is =
    seq-then (ps ++ object_pieces type.of_type) (comma ∷ pointer_pieces base)
    (gep-object ps flags type found is) (λ x e.
    mark-then (
    seq-last (pointer-spelled base base_is) (λ y e'.
    spelled-give
    (record {
      gep = a_gep name x.0 x.1 y;
      is = refl;
      same = ap
          (λ (f : GepFlags). gep_of (a_gep name f x.1 y)) e.0 ∙ same-both
          (λ (o : WrittenObject) (b : WrittenTyped). a_gep (name_of name) flags o b)
          e.1 e';
    }))))

gep-by-flags : (name : WrittenName) (inbounds nuw : Bool) (type : WrittenObject)
    (base : WrittenTyped) → AreFlags (the_flags inbounds nuw) → IsObject false type.of_type
    → IsPointer base
    → IsSpelled (gep name)
    (word_if inbounds (codes "inbounds") ++ word_if nuw
    (codes "nuw") ++ object_pieces type.of_type ++ comma ∷ pointer_pieces base)
    (IsGepLine (gep_of (a_gep name (the_flags inbounds nuw) type base)))
gep-by-flags name false false type base flags is base_is =
    gep-spelled [] name (the_flags false false) type base no-flags is base_is
gep-by-flags name true false type base flags is base_is =
    gep-spelled (piece.word space (codes "inbounds") ∷ []) name (the_flags true false)
    type base inbounds-alone is base_is
gep-by-flags name true true type base flags is base_is =
    gep-spelled (piece.word space (codes "inbounds") ∷ piece.word space (codes "nuw") ∷ []) name
    (the_flags true true) type base both-flags is base_is
gep-by-flags name false true type base flags is base_is = let no = flags refl in absurd (cc no)

pub gep-line : (phi_too : Bool) (n : ℕ) (name : WrittenName) (flags : GepFlags)
    (type : WrittenObject) (base : WrittenTyped) → AreFlags flags → IsObject false type.of_type
    → IsPointer base
    → IsSpelled (line_named phi_too n name)
    (piece.mark space (codes "=") ∷ piece.word space
    (codes "getelementptr") ∷ (word_if flags.inbounds (codes "inbounds") ++ word_if flags.nuw
    (codes "nuw") ++ object_pieces type.of_type ++ comma ∷ pointer_pieces base))
    (IsGepLine (gep_of (a_gep name flags type base)))
unfolding line_named
gep-line phi_too n name flags type base are is base_is =
    mark-then (
    one-then (λ at. word_of.GetElementPtr)
    (line-reads phi_too space (codes "getelementptr") word_of.GetElementPtr refl refl) (λ at.
    gep-by-flags name flags.inbounds flags.nuw type base are is base_is))
