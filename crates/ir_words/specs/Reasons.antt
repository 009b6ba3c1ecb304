-- The reason at a token that isn't allowed where it is.
use Rattle.std.specs.Prelude.{ℕ, List, Bool, ◌||◌, if◌then◌else◌, codes}
use Rattle.std.specs.Str.{bytes_eq}
use Rattle.ir_lexer.specs.declared.token.Kind.{Kind}
use Rattle.ir_lexer.specs.declared.token.Kind.TheVariants as kind
use Rattle.ir_lexer.specs.Lexeme.{Lexeme}
use Rattle.ir_tree.specs.declared.module.Reason.{Reason}
use Rattle.ir_tree.specs.declared.module.Reason.TheVariants.{Syntax, Unsupported}

-- the marks of vectors, structs and variable arguments
abbrev pub is_type_mark : List ℕ → Bool
is_type_mark text = bytes_eq text (codes "<") || bytes_eq text (codes "{") || bytes_eq text (codes "...")

-- what another form of the language would have there is unsupported; all else is a syntax error
abbrev pub reason_of : Kind → List ℕ → Reason
reason_of kind.Word text = Unsupported
reason_of kind.Metadata text = Unsupported
reason_of kind.Hash text = Unsupported
reason_of kind.Global text = Unsupported
reason_of kind.Float text = Unsupported
reason_of kind.Hexadecimal text = Unsupported
reason_of kind.String text = Unsupported
reason_of kind.Mark text = (if is_type_mark text then Unsupported else Syntax)
reason_of _ text = Syntax

abbrev pub reason : Lexeme → Reason
reason t = reason_of t.kind t.text

-- where a type begins a local name may be the name of one
abbrev pub type_reason_of : Kind → List ℕ → Reason
type_reason_of kind.Local text = Unsupported
type_reason_of k text = reason_of k text

abbrev pub type_reason : Lexeme → Reason
type_reason t = type_reason_of t.kind t.text
