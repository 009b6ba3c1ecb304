-- What one token denotes.
use Rattle.std.specs.Prelude.{ℕ, List, [], ◌∷◌, Option, Some, None, Bool, true, false, ◌&&◌, ◌||◌, not, ◌==◌, if◌then◌else◌, is_some, codes, nat_eq, nat_le, nat_lt, ◌^◌}
use Rattle.std.specs.Str.{bytes_eq}
use Rattle.std.specs.List.{list_any}
use Rattle.tv_num.specs.declared.Width.{Width}
use Rattle.text_places.specs.declared.place.Place.{Place}
use Rattle.ir_lexer.specs.Spelling.{is_digits}
use Rattle.ir_lexer.specs.Lexeme.{Lexeme}
use Rattle.ir_lexer.specs.declared.token.Kind.{Kind}
use Rattle.ir_lexer.specs.declared.token.Kind.TheVariants as kind
use Rattle.ir_tree.specs.declared.name.Name.{Name}
use Rattle.ir_tree.specs.declared.tree.Flags.{Flags}
use Rattle.ir_tree.specs.declared.tree.IrType.{IrType}
use Rattle.ir_tree.specs.declared.tree.IrType.TheVariants.{Int, Ptr}
use Rattle.ir_tree.specs.declared.module.Reason.{Reason}
use Rattle.ir_tree.specs.declared.module.Reason.TheVariants.{Limit}
use Rattle.ir_tree.specs.Types.{one_bit, nested_size}
use Rattle.ir_tree.specs.Limits.{alignments}
use Rattle.ir_items.specs.Names.{name_in}
use Rattle.ir_words.specs.declared.written.WrittenName.{WrittenName}
use Rattle.ir_words.specs.declared.written.WrittenIntType.{WrittenIntType}
use Rattle.ir_words.specs.declared.written.WrittenType.{WrittenType}
use Rattle.ir_words.specs.declared.written.WrittenReturnType.{WrittenReturnType}
use Rattle.ir_words.specs.declared.written.GepFlags.{GepFlags}
use Rattle.ir_words.specs.declared.written.WrittenValue.{WrittenValue}
use Rattle.ir_words.specs.declared.written.WrittenValue.TheVariants as value
use Rattle.ir_words.specs.declared.written.WrittenOperand.{WrittenOperand}
use Rattle.ir_words.specs.declared.written.WrittenLiteral.{WrittenLiteral}
use Rattle.ir_words.specs.declared.word.LineStart.{LineStart}
use Rattle.ir_words.specs.declared.word.LineStart.TheVariants as start
use Rattle.ir_words.specs.declared.word.ParameterPart.{ParameterPart}
use Rattle.ir_words.specs.declared.word.ParameterPart.TheVariants as part
use Rattle.ir_words.specs.declared.word.HeaderPart.{HeaderPart}
use Rattle.ir_words.specs.declared.word.HeaderPart.TheVariants as header
use Rattle.ir_words.specs.Words.{is_word_of}
use Rattle.ir_words.specs.Reasons.{type_reason}
use Rattle.ir_words.specs.Numbers.{value_of, width_of, is_negative, magnitude, in_range, wrapped}

-- ---- names

abbrev pub local_of : Kind → List ℕ → Option Name
local_of kind.Local text = name_in kind.Local text
local_of _ text = None

abbrev pub global_of : Kind → List ℕ → Option Name
global_of kind.Global text = name_in kind.Global text
global_of _ text = None

-- a name at its position
abbrev pub named_at : Option Name → Place → Option WrittenName
named_at None at = None
named_at (Some name) at = Some (record { name = name; at = at })

-- ---- types: i and digits, which give the number of bits

abbrev pub bits_behind : List ℕ → Option ℕ
bits_behind [] = None
bits_behind (c ∷ digits) = (if c == 105 && is_digits digits then Some (value_of digits) else None)

abbrev pub bits_of : Kind → List ℕ → Option ℕ
bits_of kind.Word text = bits_behind text
bits_of _ text = None

-- the width that a token of a type spells, which has none where there is no such width
abbrev pub spelled_width : Option ℕ → Option (Option Width)
spelled_width None = None
spelled_width (Some n) = Some (width_of n)

abbrev pub width_in : Lexeme → Option (Option Width)
width_in t = spelled_width (bits_of t.kind t.text)

-- the width. Where there is none, which is past a limit, any width stands for it
abbrev pub width_or_one : Option Width → Width
width_or_one None = one_bit
width_or_one (Some w) = w

abbrev pub int_typed_at : Option (Option Width) → Place → Option WrittenIntType
int_typed_at None at = None
int_typed_at (Some w) at = Some (record { width = width_or_one w; at = at })

abbrev pub is_width : Option (Option Width) → Bool
is_width None = false
is_width (Some w) = is_some w

-- ptr
abbrev pub is_pointer : Lexeme → Bool
is_pointer t = is_word_of t.kind t.text (codes "ptr")

abbrev pub int_type_of : Option Width → Option IrType
int_type_of None = None
int_type_of (Some w) = Some (Int w)

abbrev pub int_type_in : Option (Option Width) → Option (Option IrType)
int_type_in None = None
int_type_in (Some w) = Some (int_type_of w)

-- the type of a value that a token spells, which is none where there is no such width
abbrev pub type_in : Lexeme → Option (Option IrType)
type_in t = (if is_pointer t then Some (Some Ptr) else int_type_in (width_in t))

abbrev pub type_or_bit : Option IrType → IrType
type_or_bit None = Int one_bit
type_or_bit (Some type) = type

abbrev pub typed_at : Option (Option IrType) → Place → Option WrittenType
typed_at None at = None
typed_at (Some type) at = Some (record { of_type = type_or_bit type; at = at })

abbrev pub is_type : Option (Option IrType) → Bool
is_type None = false
is_type (Some type) = is_some type

abbrev pub type_at : Option IrType → Place → Option WrittenType
type_at None at = None
type_at (Some type) at = Some (record { of_type = type; at = at })

abbrev pub pointer_in : Lexeme → Option IrType
pointer_in t = (if is_pointer t then Some Ptr else None)

-- each of the nested arrays, the outermost first, has at most 1,048,576 bytes
abbrev pub are_small_arrays : List ℕ → IrType → Bool
are_small_arrays [] element = true
are_small_arrays (n ∷ lengths) element = nat_le (nested_size (n ∷ lengths) element) 1048576 && are_small_arrays lengths element

-- what an alloca makes has at most 64 bytes; elsewhere each array has its own limit
abbrev pub is_small_object : Bool → List ℕ → IrType → Bool
is_small_object true lengths element = nat_le (nested_size lengths element) 64
is_small_object false lengths element = are_small_arrays lengths element

-- whether what a token spells as an element is a type, and arrays of these lengths of it are small
abbrev pub fits_object : Bool → List ℕ → Option (Option IrType) → Bool
fits_object in_alloca lengths (Some (Some element)) = is_small_object in_alloca lengths element
fits_object in_alloca lengths _ = false

-- the position of the type of one bit
abbrev pub bit_at : Option (Option Width) → Place → Option Place
bit_at (Some (Some w)) at = (if w.bits == 1 then Some at else None)
bit_at _ at = None

-- where only some types are allowed, a type of no width is past the limit of widths
abbrev pub width_reason_of : Option (Option Width) → Lexeme → Reason
width_reason_of (Some None) t = Limit
width_reason_of _ t = type_reason t

abbrev pub width_reason : Lexeme → Reason
width_reason t = width_reason_of (width_in t) t

abbrev pub is_void : Lexeme → Bool
is_void t = is_word_of t.kind t.text (codes "void")

-- void, or a type
abbrev pub returned_at : Option (Option IrType) → Place → Option WrittenReturnType
returned_at None at = None
returned_at (Some type) at = Some (record { of_type = Some (type_or_bit type); at = at })

abbrev pub return_type_of : Lexeme → Option WrittenReturnType
return_type_of t = (if is_void t then Some (record { of_type = None; at = t.place }) else returned_at (type_in t) t.place)

-- ---- operands

abbrev pub local_value : Option Name → Option WrittenValue
local_value None = None
local_value (Some name) = Some (value.Local name)

-- a truth value of one bit
abbrev pub truth_value : ℕ → List ℕ → Option ℕ
truth_value bits text = (if bits == 1 && bytes_eq text (codes "true") then Some 1 else (if bits == 1 && bytes_eq text (codes "false") then Some 0 else None))

-- a literal, wrapped to this number of bits, or a truth value
abbrev pub literal_value : ℕ → Kind → List ℕ → Option ℕ
literal_value bits kind.Number text = Some (wrapped bits (is_negative text) (magnitude text))
literal_value bits kind.Word text = truth_value bits text
literal_value bits _ text = None

abbrev pub literal_of : Option ℕ → Option WrittenValue
literal_of None = None
literal_of (Some n) = Some (value.Literal n)

-- a truth value of one bit, or the null pointer
abbrev pub word_of_type : IrType → List ℕ → Option WrittenValue
word_of_type (Int width) text = literal_of (truth_value width.bits text)
word_of_type Ptr text = (if bytes_eq text (codes "null") then Some value.Null else None)

-- a word of the type, or poison, and undef where it is allowed
abbrev pub word_value : Bool → IrType → List ℕ → Option WrittenValue
word_value undef_too type text =
    (if bytes_eq text (codes "poison") then Some value.Poison else (if undef_too && bytes_eq text (codes "undef") then Some value.Undef else word_of_type type text))

-- an integer, wrapped to its type's width; no number is a pointer
abbrev pub number_value : IrType → List ℕ → Option WrittenValue
number_value (Int width) text = Some (value.Literal (wrapped width.bits (is_negative text) (magnitude text)))
number_value Ptr text = None

abbrev pub literal_at : Option ℕ → Place → Option WrittenLiteral
literal_at None at = None
literal_at (Some n) at = Some (record { value = n; at = at })

-- a local name, a literal or a word
abbrev pub value_in : Bool → IrType → Kind → List ℕ → Option WrittenValue
value_in undef_too type kind.Local text = local_value (name_in kind.Local text)
value_in undef_too type kind.Number text = number_value type text
value_in undef_too type kind.Word text = word_value undef_too type text
value_in undef_too type _ text = None

abbrev pub operand_at : Option WrittenValue → Place → Option WrittenOperand
operand_at None at = None
operand_at (Some v) at = Some (record { value = v; at = at })

-- whether a literal is in the range of this number of bits
abbrev pub fits_bits : ℕ → Kind → List ℕ → Bool
fits_bits bits kind.Number text = in_range bits (is_negative text) (magnitude text)
fits_bits bits _ text = true

abbrev pub fits_type : IrType → Kind → List ℕ → Bool
fits_type (Int width) k text = fits_bits width.bits k text
fits_type Ptr k text = true

-- ---- alignments and lengths of arrays, of any size

abbrev pub number_of_kind : Kind → List ℕ → Option ℕ
number_of_kind kind.Number text = Some (magnitude text)
number_of_kind _ text = None

-- a power of two from 1 to 4,096
abbrev pub is_alignment : List ℕ → Bool
is_alignment text = not (is_negative text) && list_any (nat_eq (magnitude text)) alignments

-- from 0 up to 2^64, exclusive; `-0` is 0
abbrev pub is_length : List ℕ → Bool
is_length text = (if is_negative text then magnitude text == 0 else nat_lt (magnitude text) (2 ^ 64))

-- ---- flags inbounds and nuw, in this order, each once, and nuw only after inbounds

abbrev pub gep_flag_named : GepFlags → List ℕ → Option GepFlags
gep_flag_named flags text =
    (if bytes_eq text (codes "inbounds") && not flags.inbounds then Some (record { inbounds = true; nuw = flags.nuw })
    else (if bytes_eq text (codes "nuw") && (flags.inbounds && not flags.nuw) then Some (record { inbounds = flags.inbounds; nuw = true }) else None))

abbrev pub gep_flag_of : GepFlags → Kind → List ℕ → Option GepFlags
gep_flag_of flags kind.Word text = gep_flag_named flags text
gep_flag_of flags _ text = None

-- ---- flags nuw and nsw, each once; in order, where they have one

abbrev pub wrap_named : Bool → Flags → List ℕ → Option Flags
wrap_named ordered flags text =
    (if bytes_eq text (codes "nuw") && not (flags.nuw || ordered && flags.nsw) then Some (record { nuw = true; nsw = flags.nsw })
    else (if bytes_eq text (codes "nsw") && not flags.nsw then Some (record { nuw = flags.nuw; nsw = true }) else None))

abbrev pub wrap_of : Bool → Flags → Kind → List ℕ → Option Flags
wrap_of ordered flags kind.Word text = wrap_named ordered flags text
wrap_of ordered flags _ text = None

-- ---- what goes on with a parameter

abbrev pub is_pointer_type : IrType → Bool
is_pointer_type (Int width) = false
is_pointer_type Ptr = true

-- nonnull only on a pointer
abbrev pub attribute_named : Bool → List ℕ → Option ParameterPart
attribute_named on_pointer text =
    (if bytes_eq text (codes "noundef") then Some part.NoUndef
    else (if bytes_eq text (codes "zeroext") || bytes_eq text (codes "signext") then Some part.Extension
    else (if on_pointer && bytes_eq text (codes "nonnull") then Some part.NonNull else None)))

abbrev pub part_name : Option WrittenName → Option ParameterPart
part_name None = None
part_name (Some name) = Some (part.Name name)

-- after the name of a parameter only a comma
abbrev pub parameter_part : (is_named on_pointer : Bool) → Kind → List ℕ → Place → Option ParameterPart
parameter_part true on_pointer kind.Mark text at = (if bytes_eq text (codes ",") then Some part.Next else None)
parameter_part true on_pointer _ text at = None
parameter_part false on_pointer kind.Mark text at = (if bytes_eq text (codes ",") then Some part.Next else None)
parameter_part false on_pointer kind.Word text at = attribute_named on_pointer text
parameter_part false on_pointer kind.Local text at = part_name (named_at (name_in kind.Local text) at)
parameter_part false on_pointer _ text at = None

-- ---- what follows the parameters

abbrev pub is_attribute : List ℕ → Bool
is_attribute text = bytes_eq text (codes "unnamed_addr") || bytes_eq text (codes "local_unnamed_addr") || bytes_eq text (codes "nounwind")

-- after a sign, only digits
abbrev pub is_numbered : List ℕ → Bool
is_numbered [] = false
is_numbered (sign ∷ digits) = is_digits digits

abbrev pub header_word : List ℕ → Option HeaderPart
header_word text = (if is_attribute text then Some header.Attribute else (if bytes_eq text (codes "comdat") then Some header.Comdat else None))

-- a parenthesis may directly follow comdat
abbrev pub header_part : Bool → Kind → List ℕ → Option HeaderPart
header_part behind_comdat kind.Word text = header_word text
header_part behind_comdat kind.Hash text = (if is_numbered text then Some header.Attribute else None)
header_part behind_comdat kind.Metadata text = (if bytes_eq text (codes "!dbg") then Some header.Debug else None)
header_part behind_comdat kind.Mark text = (if behind_comdat && bytes_eq text (codes "(") then Some header.Opening else None)
header_part behind_comdat _ text = None

-- ---- attachments

abbrev pub is_attached : List ℕ → Bool
is_attached text = bytes_eq text (codes "!dbg") || bytes_eq text (codes "!prof") || bytes_eq text (codes "!llvm.loop")

-- whether a token is a metadata name of this spelling
abbrev pub is_metadata_of : (List ℕ → Bool) → Kind → List ℕ → Bool
is_metadata_of test kind.Metadata text = test text
is_metadata_of test _ text = false

abbrev pub is_comdat_kind : Kind → Bool
is_comdat_kind kind.Comdat = true
is_comdat_kind _ = false

-- ---- what begins a block or a line

abbrev pub label_of : Kind → List ℕ → Option Name
label_of kind.Label text = name_in kind.Label text
label_of _ text = None

abbrev pub label_line : Option WrittenName → Option LineStart
label_line None = None
label_line (Some name) = Some (start.Label name)

abbrev pub inst_line : Option WrittenName → Option LineStart
inst_line None = None
inst_line (Some name) = Some (start.Inst name)

-- #dbg_ and maybe more
abbrev pub is_record : List ℕ → Bool
is_record (a ∷ b ∷ c ∷ d ∷ e ∷ more_bytes) = a == 35 && b == 100 && c == 98 && d == 103 && e == 95
is_record _ = false

abbrev pub record_start : List ℕ → Option LineStart
record_start text = (if is_record text then Some start.Record else None)

-- the name of an instruction's result, a store, a label where nothing comes before, or a record
abbrev pub line_start : Bool → Kind → List ℕ → Place → Option LineStart
line_start is_new kind.Local text at = inst_line (named_at (name_in kind.Local text) at)
line_start is_new kind.Label text at = (if is_new then label_line (named_at (name_in kind.Label text) at) else None)
line_start is_new kind.Hash text at = record_start text
line_start is_new kind.Word text at = (if bytes_eq text (codes "store") then Some start.Store else None)
line_start is_new _ text at = None
