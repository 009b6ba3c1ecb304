-- The text of a module: its functions in order, an empty line between two of them (LLVM Language Reference, "Functions").
use Rattle.std.specs.Prelude.{ℕ, List, [], ◌∷◌, ◌++◌, codes, Bool, true, false, Option, Some, None, Result, Ok, Err}
use Rattle.std.specs.List.{flat_map}
use Rattle.ir_tree.specs.declared.name.Name.{Name}
use Rattle.ir_tree.specs.declared.tree.IrType.{IrType}
use Rattle.ir_tree.specs.declared.tree.Parameter.{Parameter}
use Rattle.ir_tree.specs.declared.tree.Block.{Block}
use Rattle.ir_tree.specs.declared.tree.Function.{Function}
use Rattle.ir_tree.specs.declared.module.Refused.{Refused}
use Rattle.ir_tree.specs.declared.module.Entry.{Entry}
use Rattle.ir_tree.specs.declared.module.Module.{Module}
use Rattle.token_text.specs.Pieces.{Piece, text_of}
use Rattle.ir_printer.specs.Pieces.{none, space, line, word, mark, comma, name_in, local, global, label, type_text}
use Rattle.ir_printer.specs.Instructions.{word_if, inst_pieces, phi_pieces, terminator_pieces}

-- ---- blocks

-- the label, phis, other instructions and the terminator, each on a line
abbrev pub block_pieces : List Name → Block → List Piece
block_pieces names b =
    label (name_in names b.label) ∷ (flat_map (phi_pieces names) b.phis ++ (flat_map (inst_pieces names) b.insts ++ terminator_pieces names b.terminator))

-- ---- functions

abbrev pub return_text : Option IrType → List ℕ
return_text None = codes "void"
return_text (Some type) = type_text type

-- a parameter, its type after these blanks
abbrev pub parameter_pieces : List Name → List ℕ → Parameter → List Piece
parameter_pieces names gap p =
    word gap (type_text p.of_type) ∷ (word_if p.no_undef (codes "noundef") ++ (word_if p.non_null (codes "nonnull") ++ local space (name_in names p.name) ∷ []))

-- parameters by commas
abbrev pub parameters_pieces : List Name → List Parameter → List Piece
parameters_pieces names [] = []
parameters_pieces names (p ∷ ps) = parameter_pieces names none p ++ flat_map (λ (other : Parameter). comma ∷ parameter_pieces names space other) ps

-- what comes before the parameters, `define` after these blanks
abbrev pub header_pieces : List ℕ → Function → List Piece
header_pieces gap f =
    word gap (codes "define") ∷ (word_if f.returns_no_undef (codes "noundef") ++ word space (return_text f.returns) ∷ global space f.name ∷ mark none (codes "(") ∷ [])

abbrev pub function_pieces : List ℕ → Function → List Piece
function_pieces gap f =
    header_pieces gap f ++ (parameters_pieces f.names f.parameters ++ (mark none (codes ")") ∷ mark space (codes "{") ∷ (flat_map (block_pieces f.names) f.blocks ++ mark line (codes "}") ∷ [])))

-- ---- modules

abbrev pub accepted_first : Result Function Refused → List Function → List Function
accepted_first (Ok f) fs = f ∷ fs
accepted_first (Err refused) fs = fs

-- the functions that are not refused
abbrev pub accepted : List Entry → List Function
accepted [] = []
accepted (e ∷ entries) = accepted_first e.function (accepted entries)

-- the blanks before a function: none before the first, and an empty line before each other
abbrev pub gap_behind : Bool → List ℕ
gap_behind false = none
gap_behind true = 10 ∷ 10 ∷ []

-- functions one after another; whether one comes before the first of them
abbrev pub functions_pieces : Bool → List Function → List Piece
functions_pieces behind [] = []
functions_pieces behind (f ∷ fs) = function_pieces (gap_behind behind) f ++ functions_pieces true fs

-- whether there is a function, here or before
abbrev pub has_any : Bool → List Function → Bool
has_any behind [] = behind
has_any behind (f ∷ fs) = true

-- the end of the last line, where there is one
abbrev pub last_end : Bool → List ℕ
last_end false = none
last_end true = line

abbrev pub module_text : Module → List ℕ
module_text m = text_of (functions_pieces false (accepted m.entries)) ++ last_end (has_any false (accepted m.entries))
