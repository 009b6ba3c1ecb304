-- What tokens of bytes spell is spellable: parameters, and the function.
use Rattle.read_back.proofs.Common.{◌≡◌, ℕ, zero, suc, ◌+◌, ◌<◌, ◌≤◌, inl, inr, Bool, true, false, cond, List, [], ◌∷◌, ◌++◌, length, Some, None, codes, refl, subst, arith, ◌&&◌, ◌||◌, is_some, nat_lt, bytes_eq, AllByRecursion, ltb-true, length-append, Place, Kind, part_begins, WrittenType, WrittenParameter, WrittenParameters, WrittenFunction, is_pointer_type, attribute_named, parameter_part, any, new_parameter, follows_parameter, parameter_begins, with_part, parameter_parts, first_parameter, parameters, define}
use Rattle.ir_lexer.specs.declared.token.Kind.TheVariants as kind
use Rattle.ir_words.specs.declared.word.ParameterPart.{ParameterPart}
use Rattle.ir_words.specs.declared.word.ParameterPart.TheVariants as part
use Rattle.read_back.proofs.Spellable.{IsName, IsParameter, IsSpellable}
use Rattle.read_back.proofs.FitsForms.{Stands, Gives, GivesParts, spelled-given}
use Rattle.read_back.proofs.FitsNames.{AreBytes, local-is, global-fits}
use Rattle.read_back.proofs.FitsMemory.{part-begins}
use Rattle.read_back.proofs.FitsPhis.{all-push}
use Rattle.read_back.proofs.FitsEnds.{and-first}
use Rattle.read_back.proofs.FitsBlocks.{blocks-give}
use Rattle.read_back.proofs.Steps.{SpelledIsSpellable}

-- ---- what goes on with a parameter

abbrev IsPart : Bool → ParameterPart → Type 0
IsPart on_pointer part.NoUndef = Unit {0}
IsPart on_pointer part.NonNull = on_pointer ≡ true
IsPart on_pointer part.Extension = Unit {0}
IsPart on_pointer (part.Name name) = IsName name.name
IsPart on_pointer part.Next = Unit {0}

part-is : (on_pointer : Bool) (a b : ParameterPart) → IsPart on_pointer a → Some a ≡ Some b → IsPart on_pointer b
part-is on_pointer a b h e = let same : a ≡ b = cc e in subst (λ (c : ParameterPart). IsPart on_pointer c) same h

comma-part : (on_pointer b : Bool) (a : ParameterPart) → cond b (Some part.Next) None ≡ Some a → IsPart on_pointer a
comma-part on_pointer true a e = part-is on_pointer part.Next a tt e
comma-part on_pointer false a e = absurd (cc e)

attribute-part : (on_pointer : Bool) (text : List ℕ) (a : ParameterPart) → attribute_named on_pointer text ≡ Some a → IsPart on_pointer a
attribute-part on_pointer text a e = go on_pointer (bytes_eq text (codes "noundef")) (bytes_eq text (codes "zeroext") || bytes_eq text (codes "signext")) (bytes_eq text (codes "nonnull")) e
  where
    go : (pointer b c d : Bool) → cond b (Some part.NoUndef) (cond c (Some part.Extension) (cond (pointer && d) (Some part.NonNull) None)) ≡ Some a → IsPart pointer a
    go pointer true c d e' = part-is pointer part.NoUndef a tt e'
    go pointer false true d e' = part-is pointer part.Extension a tt e'
    go true false false true e' = part-is true part.NonNull a refl e'
    go true false false false e' = absurd (cc e')
    go false false false d e' = absurd (cc e')

part-from : (is_named on_pointer : Bool) (k : Kind) (text : List ℕ) (at : Place) (a : ParameterPart) → AreBytes text → parameter_part is_named on_pointer k text at ≡ Some a → IsPart on_pointer a
part-from true on_pointer kind.Mark text at a all e = comma-part on_pointer (bytes_eq text (codes ",")) a e
part-from true on_pointer _ text at a all e = absurd (cc e)
part-from false on_pointer kind.Mark text at a all e = comma-part on_pointer (bytes_eq text (codes ",")) a e
part-from false on_pointer kind.Word text at a all e = attribute-part on_pointer text a e
part-from false on_pointer kind.Local text at a all e = part-is on_pointer (part.Name _) a (local-is kind.Local text _ all refl) e
part-from false on_pointer _ text at a all e = absurd (cc e)

part-fits : (s : WrittenParameters) (a : ParameterPart) → Stands (part_begins follows_parameter (parameter_begins s)) any a → IsPart (is_pointer_type s.last.of_type.of_type) a
part-fits s a S = part-from (is_some s.last.name) (is_pointer_type s.last.of_type.of_type) S.token.kind S.token.text S.token.place a S.bytes (part-begins (follows_parameter S.token) (parameter_begins s S.token) a S.stands_for)

-- ---- parameters

record ParametersFit (s : WrittenParameters) : Type 0 where
  few : length s.before < 16
  before : AllByRecursion IsParameter s.before
  last : IsParameter s.last

new-fits : (type : WrittenType) → IsParameter (new_parameter type)
new-fits type = record { name = tt; non_null = λ e. absurd (cc e) }

next-fits : (s : WrittenParameters) (type : WrittenType) → ParametersFit s → length s.before + 1 < 16 → ParametersFit (record { before = s.before ++ s.last ∷ []; last = new_parameter type })
next-fits s type F room = record { few = omega (arith, room, length-append s.before (s.last ∷ [])); before = all-push IsParameter s.before s.last F.before F.last; last = new-fits type }

part-gives : (s : WrittenParameters) (a : ParameterPart) (next : WrittenParameters) → Gives (with_part s a) next → IsPart (is_pointer_type s.last.of_type.of_type) a → ParametersFit s → ParametersFit next
part-gives s part.NoUndef next same is F = subst (λ (x : WrittenParameters). ParametersFit x) same (record { few = F.few; before = F.before; last = record { name = F.last.name; non_null = F.last.non_null } })
part-gives s part.NonNull next same is F = subst (λ (x : WrittenParameters). ParametersFit x) same (record { few = F.few; before = F.before; last = record { name = F.last.name; non_null = λ e. is } })
part-gives s part.Extension next same is F = subst (λ (x : WrittenParameters). ParametersFit x) same F
part-gives s (part.Name name) next same is F = subst (λ (x : WrittenParameters). ParametersFit x) same (record { few = F.few; before = F.before; last = record { name = is; non_null = F.last.non_null } })
part-gives s part.Next next (type, T, same) is F = subst (λ (x : WrittenParameters). ParametersFit x) same (next-fits s type F (ltb-true (length s.before + 1) 16 (and-first (nat_lt (length s.before + 1) 16) _ T.keeps)))

parts-give : (n : ℕ) (s x : WrittenParameters) → GivesParts follows_parameter parameter_begins (λ s'. any) (λ s' a next. Gives (with_part s' a) next) n s x → ParametersFit s → ParametersFit x
parts-give zero s x same F = subst (λ (y : WrittenParameters). ParametersFit y) same F
parts-give (suc n) s x (a, next, T, P, more) F = parts-give n next x more (part-gives s a next P (part-fits s a T) F)

record AreParameters (ps : List WrittenParameter) : Type 0 where
  few : length ps ≤ 16
  each : AllByRecursion IsParameter ps

parameters-give : (ps : List WrittenParameter) → Gives parameters ps → AreParameters ps
unfolding parameters first_parameter parameter_parts
parameters-give ps (inl (u, T, same)) = subst (λ (xs : List WrittenParameter). AreParameters xs) same (record { few = omega arith; each = tt })
parameters-give ps (inr (type, T, (all, ((s, first, n, P), closing), same))) =
    let one : ParametersFit (record { before = []; last = new_parameter type }) = record { few = omega arith; before = tt; last = new-fits type } in
    let F = parts-give n s all.0 P (subst (λ (y : WrittenParameters). ParametersFit y) first one) in
    subst (λ (xs : List WrittenParameter). AreParameters xs) same (record { few = omega (arith, F.few, length-append all.0.before (all.0.last ∷ [])); each = all-push IsParameter all.0.before all.0.last F.before F.last })

-- ---- the function

function-gives : (w : WrittenFunction) → Gives define w → IsSpellable w
unfolding define
function-gives w (head, H, (type, T, (name, N, (opening, O, (all, P, (body, B, (closed, (C, M), same))))))) =
    let A = parameters-give all P in
    let G = blocks-give closed.0 C in
    subst (λ (f : WrittenFunction). IsSpellable f) same (record { name = global-fits name N; few = A.few; parameters = A.each; label = G.label; entry = G.entry; others = G.others })

pub spelled_is_spellable : SpelledIsSpellable
spelled_is_spellable w tokens bytes spells = function-gives w (spelled-given define w tokens [] bytes spells)
