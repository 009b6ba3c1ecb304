-- Tokens as a module is printed with them, and the tokens of names, types and operands.
use Rattle.std.specs.Prelude.{ℕ, List, [], ◌∷◌, ◌++◌, length, slice_index_or, codes}
use Rattle.std.specs.Fmt.{decimal}
use Rattle.tv_num.specs.declared.Width.{Width}
use Rattle.ir_lexer.specs.declared.token.Kind.TheVariants as kind
use Rattle.ir_tree.specs.declared.name.Name.{Name}
use Rattle.ir_tree.specs.declared.name.Name.TheVariants as name
use Rattle.ir_tree.specs.declared.tree.IrType.{IrType}
use Rattle.ir_tree.specs.declared.tree.IrType.TheVariants.{Int, Ptr}
use Rattle.ir_tree.specs.declared.tree.MemoryType.{MemoryType}
use Rattle.ir_tree.specs.declared.tree.Operand.{Operand}
use Rattle.ir_tree.specs.declared.tree.Operand.TheVariants as operand
use Rattle.ir_tree.specs.declared.tree.TypedOperand.{TypedOperand}
use Rattle.ir_naming.specs.Naming.{name_text}
use Rattle.token_text.specs.Pieces.{Piece}

-- ---- blanks

abbrev pub none : List ℕ
none = []

abbrev pub space : List ℕ
space = 32 ∷ []

-- a new line
abbrev pub line : List ℕ
line = 10 ∷ []

-- a new line, indented by two spaces
abbrev pub indented : List ℕ
indented = 10 ∷ 32 ∷ 32 ∷ []

-- ---- tokens of each class

abbrev pub word : List ℕ → List ℕ → Piece
word gap text = record { gap = gap; kind = kind.Word; text = text }

abbrev pub mark : List ℕ → List ℕ → Piece
mark gap text = record { gap = gap; kind = kind.Mark; text = text }

abbrev pub number : List ℕ → ℕ → Piece
number gap n = record { gap = gap; kind = kind.Number; text = decimal n }

abbrev pub comma : Piece
comma = mark none (codes ",")

-- ---- names

-- the name of a number in a table; the empty name where the table has none
abbrev pub name_in : List Name → ℕ → Name
name_in names n = slice_index_or names n (name.Word [])

abbrev pub local : List ℕ → Name → Piece
local gap n = record { gap = gap; kind = kind.Local; text = 37 ∷ name_text n }

abbrev pub global : List ℕ → Name → Piece
global gap n = record { gap = gap; kind = kind.Global; text = 64 ∷ name_text n }

-- on a line of its own
abbrev pub label : Name → Piece
label n = record { gap = line; kind = kind.Label; text = name_text n ++ 58 ∷ [] }

-- a block's name where it is jumped to
abbrev pub target : List Name → ℕ → List Piece
target names n = word space (codes "label") ∷ local space (name_in names n) ∷ []

-- ---- types

abbrev pub width_text : Width → List ℕ
width_text w = 105 ∷ decimal w.bits

abbrev pub type_text : IrType → List ℕ
type_text (Int w) = width_text w
type_text Ptr = codes "ptr"

-- an array's opening mark, its length and `x`, for each array
abbrev pub array_pieces : List ℕ → List Piece
array_pieces [] = []
array_pieces (n ∷ lengths) = mark space (codes "[") ∷ number none n ∷ word space (codes "x") ∷ array_pieces lengths

-- the closing marks of these arrays
abbrev pub closing_pieces : List ℕ → List Piece
closing_pieces [] = []
closing_pieces (n ∷ lengths) = mark none (codes "]") ∷ closing_pieces lengths

abbrev pub object_pieces : MemoryType → List Piece
object_pieces type = array_pieces type.lengths ++ word space (type_text type.element) ∷ closing_pieces type.lengths

-- ---- operands

abbrev pub operand_piece : List Name → Operand → Piece
operand_piece names (operand.Local n) = local space (name_in names n)
operand_piece names (operand.Number n) = number space n
operand_piece names operand.Null = word space (codes "null")
operand_piece names operand.Poison = word space (codes "poison")
operand_piece names operand.Undef = word space (codes "undef")

abbrev pub typed_pieces : List Name → TypedOperand → List Piece
typed_pieces names t = word space (type_text t.of_type) ∷ operand_piece names t.operand ∷ []

abbrev pub pointer_pieces : List Name → Operand → List Piece
pointer_pieces names o = word space (codes "ptr") ∷ operand_piece names o ∷ []
