-- Why a token isn't allowed where it is.
use Rattle.std.specs.Prelude.{◌≡◌, ◌⊎◌, List, [], ◌∷◌, ◌++◌, true, codes}
use Rattle.ir_lexer.specs.Lexeme.{Lexeme}
use Rattle.ir_lexer.specs.declared.token.Kind.TheVariants as kind
use Rattle.ir_tree.specs.declared.module.Reason.{Reason}
use Rattle.ir_tree.specs.declared.module.Reason.TheVariants.{Syntax}
use Rattle.token_forms.specs.Spelling.{Spells}
use Rattle.token_forms.specs.Refusals.{Begins}
use Rattle.ir_grammar.specs.declared.written.WrittenFunction.{WrittenFunction}
use Rattle.ir_grammar.specs.Classes.{token}
use Rattle.ir_words.specs.Reasons.{reason}
use Rattle.ir_words.specs.Spelling.{width_reason}
use Rattle.ir_grammar.specs.Grammar.{define}

-- one of the types i1, i8 and ptr has the property
abbrev pub SomeType : (Lexeme → Type 0) → Type 0
SomeType P = P (token kind.Word (codes "i1")) ⊎ P (token kind.Word (codes "i8")) ⊎ P (token kind.Word (codes "ptr"))

-- after these tokens of a function a type is allowed
abbrev pub TypeMayStand : List Lexeme → Type 0
TypeMayStand front = SomeType (λ type. Begins define (front ++ type ∷ []))

-- The reason at the first of rest, which isn't allowed after front. Where a type is allowed it is
-- that of what could be one: of a number of bits that no type has, and of a local name. Elsewhere
-- it is that of any token. Where the tokens end before the function does it is a syntax error.
abbrev pub IsStopReason : List Lexeme → List Lexeme → Reason → Type 0
IsStopReason front [] why = ((function : WrittenFunction) → Spells true define function front [] → ⊥) × (why ≡ Syntax)
IsStopReason front (t ∷ others) why = (TypeMayStand front × (why ≡ width_reason t)) ⊎ ((TypeMayStand front → ⊥) × (why ≡ reason t))
