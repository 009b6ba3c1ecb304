-- Printed parameters are spelled.
use Rattle.read_back.proofs.Common.{◌≡◌, ◌+◌, ◌≤◌, Bool, true, false, List, [], ◌∷◌, ◌++◌, map, length, Option, Some, None, refl, sym, ap, subst, ◌∙◌, codes, arith, append_assoc, append-nil, nat_lt, flat_map, AllByRecursion, lt-ltb, map-append, length-append, Place, Name, WrittenName, WrittenType, WrittenParameter, WrittenParameters, is_pointer_type, follows_parameter, parameter_begins, with_part, parameter_parts, first_parameter, parameters, NamedParameter, named, named_behind, never, part_begins, Piece, none, space, comma, type_text, word_if}
use Rattle.ir_words.specs.declared.word.ParameterPart.TheVariants as part
use Rattle.ir_printer.specs.Pieces as piece
use Rattle.read_back.proofs.Written.{parameter_pieces, parameters_pieces}
use Rattle.read_back.proofs.Placeless.{name_of, type_of, parameter_of}
use Rattle.read_back.proofs.Spellable.{IsName}
use Rattle.read_back.proofs.SpelledTokens.{Reads, IsSpelled, AreSpelled, spelled-give, one-then, upto-then, peek-first, peek-second, given-more, no-more, one-more, more-as, tail-from}
use Rattle.read_back.proofs.SpelledNames.{name-again}
use Rattle.read_back.proofs.SpelledClasses.{a_name, a_type, type-reads}
use Rattle.read_back.proofs.SpelledGivenNames.{IsNamedParameter}

-- ---- without positions

abbrev pub nameless : Option WrittenName → Option WrittenName
nameless None = None
nameless (Some n) = Some (name_of n)

abbrev pub as_written : WrittenParameter → WrittenParameter
as_written p =
    record {
      of_type = type_of p.of_type;
      no_undef = p.no_undef;
      non_null = p.non_null;
      name = nameless p.name;
    }

abbrev a_parameter : WrittenType → Bool → Bool → Option WrittenName → WrittenParameter
a_parameter type no_undef non_null name =
    record { of_type = type; no_undef = no_undef; non_null = non_null; name = name }

named-again : (before : List NamedParameter) (type : WrittenType) (no_undef non_null : Bool)
    (o : Option WrittenName) (n : NamedParameter)
    → as_written (a_parameter type no_undef non_null o) ≡ parameter_of n
    → parameter_of (named before (a_parameter type no_undef non_null o)) ≡ parameter_of n
named-again before type no_undef non_null None n e =
    let no : None ≡ Some (name_of (record { name = n.name; at = type.at })) = ap
    (λ (q : WrittenParameter). q.name) e in absurd (cc no)
named-again before type no_undef non_null (Some x) n e = e

-- what is written under its name is given this name
pub names-again : (before : List NamedParameter) (ps : List WrittenParameter)
    (ns : List NamedParameter) → map as_written ps ≡ map parameter_of ns
    → map parameter_of (named_behind before ps) ≡ map parameter_of before ++ map parameter_of ns
names-again before [] [] e = sym (append-nil (map parameter_of before))
names-again before [] (n ∷ ns) e = absurd (cc e)
names-again before (p ∷ ps) [] e = absurd (cc e)
names-again before (p ∷ ps) (n ∷ ns) e =
    let first : as_written p ≡ parameter_of n = cc e in
    let others : map as_written ps ≡ map parameter_of ns = cc e in
    names-again (before ++ named before p ∷ []) ps ns others
    ∙ ap (λ (xs : List WrittenParameter). xs ++ map parameter_of ns)
    (map-append parameter_of before (named before p ∷ []))
    ∙ append_assoc (map parameter_of before) (parameter_of (named before p) ∷ [])
    (map parameter_of ns)
    ∙ ap (λ (x : WrittenParameter). map parameter_of before ++ x ∷ map parameter_of ns)
    (named-again before p.of_type p.no_undef p.non_null p.name n first)

-- ---- one parameter

abbrev Parts : WrittenParameters → List Piece → (WrittenParameters → Type 0) → Type 0
Parts s pieces Is =
    AreSpelled follows_parameter parameter_begins (λ s' t. true) with_part s pieces Is

abbrev so_far : List WrittenParameter → WrittenType → Bool → Bool → Option WrittenName
    → WrittenParameters
so_far before type no_undef non_null name =
    record { before = before; last = a_parameter type no_undef non_null name }

name-reads : (before : List WrittenParameter) (type : WrittenType) (no_undef non_null : Bool)
    (n : Name) → IsName n
    → Reads
    (part_begins follows_parameter (parameter_begins (so_far before type no_undef non_null None)))
    (λ t. true) (piece.local space n) (λ at. part.Name (a_name n at))
name-reads before type no_undef non_null n is =
    record {
      stands_for = λ t. ap (λ (m : Name). Some (part.Name (a_name m t.place))) (name-again n is);
      keeps = λ t. refl;
    }

name-more : {Is : WrittenParameters → Type 0} (before : List WrittenParameter) (type : WrittenType)
    (no_undef non_null : Bool) (n : Name) (qs : List Piece) → IsName n
    → ((at : Place) → Parts (so_far before type no_undef non_null (Some (a_name n at))) qs Is)
    → Parts (so_far before type no_undef non_null None) (piece.local space n ∷ qs) Is
name-more before type no_undef non_null n qs is more =
    given-more (λ at. part.Name (a_name n at))
    (λ at. so_far before type no_undef non_null (Some (a_name n at)))
    (name-reads before type no_undef non_null n is) (λ at ts. (refl, refl)) more

non-null-more : {Is : WrittenParameters → Type 0} (before : List WrittenParameter)
    (type : WrittenType) (no_undef non_null : Bool) (n : Name) (qs : List Piece) → IsName n
    → (non_null ≡ true → is_pointer_type type.of_type ≡ true)
    → ((at : Place) → Parts (so_far before type no_undef non_null (Some (a_name n at))) qs Is)
    → Parts (so_far before type no_undef false None)
    ((word_if non_null (codes "nonnull") ++ piece.local space n ∷ []) ++ qs) Is
non-null-more before type no_undef false n qs is pointer more =
    name-more before type no_undef false n qs is more
non-null-more before type no_undef true n qs is pointer more =
    given-more (λ at. part.NonNull) (λ at. so_far before type no_undef true None)
    (record { stands_for = λ t. rw (pointer refl) refl; keeps = λ t. refl })
    (λ at ts. (refl, refl)) (λ at.
    name-more before type no_undef true n qs is more)

-- after the type
abbrev behind_type : NamedParameter → List Piece
behind_type p =
    word_if p.no_undef
    (codes "noundef") ++ (word_if p.non_null (codes "nonnull") ++ piece.local space p.name ∷ [])

attributes-more : {Is : WrittenParameters → Type 0} (before : List WrittenParameter)
    (type : WrittenType) (no_undef non_null : Bool) (n : Name) (qs : List Piece) → IsName n
    → (non_null ≡ true → is_pointer_type type.of_type ≡ true)
    → ((at : Place) → Parts (so_far before type no_undef non_null (Some (a_name n at))) qs Is)
    → Parts (so_far before type false false None)
    ((word_if no_undef
    (codes "noundef") ++ (word_if non_null
    (codes "nonnull") ++ piece.local space n ∷ [])) ++ qs) Is
attributes-more before type false non_null n qs is pointer more =
    non-null-more before type false non_null n qs is pointer more
attributes-more before type true non_null n qs is pointer more =
    given-more (λ at. part.NoUndef) (λ at. so_far before type true false None)
    (record { stands_for = λ t. refl; keeps = λ t. refl }) (λ at ts. (refl, refl)) (λ at.
    non-null-more before type true non_null n qs is pointer more)

-- ---- parameters

abbrev others_pieces : List NamedParameter → List Piece
others_pieces ps = flat_map (λ (other : NamedParameter). comma ∷ parameter_pieces space other) ps

pushed : (before : List WrittenParameter) (last : WrittenParameter) (p : NamedParameter)
    → as_written last ≡ parameter_of p
    → map as_written (before ++ last ∷ []) ≡ map as_written before ++ parameter_of p ∷ []
pushed before last p e =
    map-append as_written before (last ∷ []) ∙ ap
    (λ (x : WrittenParameter). map as_written before ++ x ∷ []) e

others-spelled : (before : List WrittenParameter) (p : NamedParameter) (ps : List NamedParameter)
    (at : Place) → IsNamedParameter p → AllByRecursion IsNamedParameter ps
    → length before + length (p ∷ ps) ≤ 16
    → Parts (so_far before (a_type p.of_type at) false false None)
    (behind_type p ++ others_pieces ps)
    (λ s. map as_written (s.before ++ s.last ∷ []) ≡ map as_written before ++ map parameter_of
    (p ∷ ps))
others-spelled before p [] at is all few =
    attributes-more before (a_type p.of_type at) p.no_undef p.non_null p.name [] is.name is.non_null
    (λ at'.
    no-more
    (pushed before
    (a_parameter (a_type p.of_type at) p.no_undef p.non_null (Some (a_name p.name at')))
    p refl))
others-spelled before p (q ∷ ps) at is (here, all) few =
    attributes-more before (a_type p.of_type at) p.no_undef p.non_null p.name
    (others_pieces (q ∷ ps)) is.name is.non_null (λ at'.
    let last : WrittenParameter = a_parameter (a_type p.of_type at) p.no_undef p.non_null
    (Some (a_name p.name at')) in
    one-more
    {Next = λ next.
    (at'' : Place) × (next ≡ so_far (before ++ last ∷ []) (a_type q.of_type at'')
    false false None)} comma (piece.word space (type_text q.of_type) ∷ [])
    (behind_type q ++ others_pieces ps) (λ at''. part.Next)
    (record { stands_for = λ t. refl; keeps = λ t. refl })
    (λ at''. one-then (a_type q.of_type)
    (type-reads space (nat_lt (length before + 1) 16) q.of_type
    (lt-ltb (length before + 1) 16 (omega (arith, few))))
    (λ at'''. spelled-give (at''', refl)))
    (λ next (at'', e). subst
    (λ (s : WrittenParameters). Parts s (behind_type q ++ others_pieces ps)
    (λ s'. map as_written
    (s'.before ++ s'.last ∷ []) ≡ map as_written before ++ map parameter_of
    (p ∷ q ∷ ps))) (sym e)
    (more-as
    (others-spelled (before ++ last ∷ []) q ps at'' here all
    (omega (arith, few, length-append before (last ∷ []))))
    (λ s S. S ∙ ap (λ (xs : List WrittenParameter). xs ++ map parameter_of (q ∷ ps))
    (pushed before last p refl) ∙ append_assoc (map as_written before) (parameter_of p ∷ [])
    (map parameter_of (q ∷ ps))))))

first-spelled : (p : NamedParameter) (ps : List NamedParameter) (at : Place) → IsNamedParameter p
    → AllByRecursion IsNamedParameter ps → length (p ∷ ps) ≤ 16
    → IsSpelled (first_parameter (a_type p.of_type at))
    ((behind_type p ++ others_pieces ps) ++ piece.mark none (codes ")") ∷ [])
    (λ x. map as_written x ≡ map parameter_of (p ∷ ps))
unfolding first_parameter parameter_parts
first-spelled p ps at is all few =
    upto-then (behind_type p ++ others_pieces ps) [] (piece.mark none (codes ")")) (λ at'. tt)
    (tail-from follows_parameter never (others-spelled [] p ps at is all (omega (arith, few))))
    (λ s e. record { stands_for = λ t. refl; keeps = λ t. refl }) (λ s e at'. spelled-give e)

pub parameters-spelled : (ps : List NamedParameter) → AllByRecursion IsNamedParameter ps
    → length ps ≤ 16
    → IsSpelled parameters (parameters_pieces ps ++ piece.mark none (codes ")") ∷ [])
    (λ x. map as_written x ≡ map parameter_of ps)
unfolding parameters
parameters-spelled [] all few =
    peek-first (λ at. tt) (record { stands_for = λ t. refl; keeps = λ t. refl })
    (λ at. spelled-give refl)
parameters-spelled (p ∷ ps) (is, all) few =
    peek-second (a_type p.of_type) (type-reads none true p.of_type refl)
    (λ at. first-spelled p ps at is all few)
