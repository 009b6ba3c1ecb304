-- The tokens that are printed of a made function are bytes.
use Rattle.read_back.proofs.Common.{◌≡◌, ℕ, zero, suc, ◌+◌, ◌-◌, ◌/◌, ◌%◌, ◌<◌, ◌≤◌, ◌^◌, Bool, true, false, cond, ltb, List, [], ◌∷◌, ◌++◌, length, map, codes, refl, ap, arith, All, decimal, AllByRecursion, flat_map, All-from_recursion, recursion_from_All, Kind, Lexeme, no_place, Name, Flags, Op, Inst, hex_digit, hex_byte, is_plain, is_bare, escaped, quoted, name_text, Piece, spelled, WrittenFunction, named_behind, none, space, line, mark, width_text, word_if, flag_pieces, op_pieces, eight, IsOfBytes}
use Rattle.ir_tree.specs.declared.name.Name.TheVariants as name
use Rattle.ir_tree.specs.declared.tree.Op.TheVariants as op
use Rattle.ir_words.specs.declared.written.WrittenValue.TheVariants as written
use Rattle.read_back.proofs.Written.{operand_pieces, inst_pieces, terminator_pieces, body_pieces, parameters_pieces, header_pieces, written_pieces}
use Rattle.read_back.proofs.MadeNames.{result_name, value_word}
use Rattle.read_back.proofs.MadeInsts.{IsMade, AreMade}
use Rattle.read_back.proofs.MadeWritten.{written_inst, written_insts, written_made}
use Rattle.read_back.proofs.MadeSpellable.{are_bytes, each-byte, digits-bytes}

-- ---- the text of a name

abbrev Bytes : List ℕ → Type 0
Bytes bs = AllByRecursion (λ (b : ℕ). b < 256) bs

append_bytes : (xs ys : List ℕ) → Bytes xs → Bytes ys → Bytes (xs ++ ys)
append_bytes [] ys h k = k
append_bytes (x ∷ xs) ys h k = (h.0, append_bytes xs ys h.1 k)

cond_bytes : (b : Bool) (xs ys : List ℕ) → Bytes xs → Bytes ys → Bytes (cond b xs ys)
cond_bytes true xs ys h k = h
cond_bytes false xs ys h k = k

digit_byte : (n : ℕ) → n < 16 → hex_digit 65 n < 256
digit_byte n h = go (ltb n 10)
  where
    go : (b : Bool) → cond b (48 + n) (65 + (n - 10)) < 256
    go true = omega (arith, h)
    go false = omega (arith, h)

escaped_bytes : (b : ℕ) → b < 256 → Bytes (escaped b)
escaped_bytes b h = cond_bytes (is_plain b) (b ∷ []) (92 ∷ hex_byte 65 b) (h, tt) (
  omega arith,
  (
    digit_byte (b / 16) (omega (arith, h)),
    (digit_byte (b % 16) (omega (arith, h)), tt),
  ),
)

all_escaped : (bs : List ℕ) → Bytes bs → Bytes (flat_map escaped bs)
all_escaped [] h = tt
all_escaped (b ∷ bs) h = append_bytes (escaped b) (flat_map escaped bs) (escaped_bytes b h.0)
    (all_escaped bs h.1)

word_bytes : (bs : List ℕ) → Bytes bs → Bytes (name_text (name.Word bs))
word_bytes bs h = cond_bytes (is_bare bs) bs (quoted bs) h
    (omega arith, append_bytes (flat_map escaped bs) (34 ∷ []) (all_escaped bs h) (omega arith, tt))

-- a word that ends with a number
numbered_bytes : (b n : ℕ) → b < 256 → n < 2 ^ 64 → Bytes (name_text (name.Word (b ∷ decimal n)))
numbered_bytes b n h small = word_bytes (b ∷ decimal n)
    (h, recursion_from_All (λ (c : ℕ). c < 256) (decimal n) (digits-bytes n small))

value_bytes : (l : ℕ) → l < 2 ^ 64 → Bytes (name_text (value_word l))
value_bytes zero small = each-byte (name_text (name.Word (codes "a"))) refl
value_bytes (suc zero) small = each-byte (name_text (name.Word (codes "b"))) refl
value_bytes (suc (suc l)) small = numbered_bytes 114 l (omega arith) (omega (arith, small))

-- ---- tokens

abbrev IsText : Piece → Type 0
IsText p = Bytes p.text

abbrev AreTexts : List Piece → Type 0
AreTexts ps = AllByRecursion IsText ps

texts_append : (ps qs : List Piece) → AreTexts ps → AreTexts qs → AreTexts (ps ++ qs)
texts_append [] qs h k = k
texts_append (p ∷ ps) qs h k = (h.0, texts_append ps qs h.1 k)

if_texts : (b : Bool) (text : List ℕ) → are_bytes text ≡ true → AreTexts (word_if b text)
if_texts true text h = (each-byte text h, tt)
if_texts false text h = tt

flag_texts : (flags : Flags) → AreTexts (flag_pieces flags)
flag_texts flags = texts_append (word_if flags.nuw (codes "nuw")) (word_if flags.nsw (codes "nsw"))
    (if_texts flags.nuw (codes "nuw") refl) (if_texts flags.nsw (codes "nsw") refl)

exact_texts : (exact : Bool) → AreTexts (word_if exact (codes "exact"))
exact_texts exact = if_texts exact (codes "exact") refl

op_texts : (o : Op) → AreTexts (op_pieces o)
op_texts (op.Add flags) = (each-byte (codes "add") refl, flag_texts flags)
op_texts (op.Sub flags) = (each-byte (codes "sub") refl, flag_texts flags)
op_texts (op.Mul flags) = (each-byte (codes "mul") refl, flag_texts flags)
op_texts (op.UnsignedDiv exact) = (each-byte (codes "udiv") refl, exact_texts exact)
op_texts op.UnsignedRem = (each-byte (codes "urem") refl, tt)
op_texts (op.SignedDiv exact) = (each-byte (codes "sdiv") refl, exact_texts exact)
op_texts op.SignedRem = (each-byte (codes "srem") refl, tt)
op_texts (op.ShiftLeft flags) = (each-byte (codes "shl") refl, flag_texts flags)
op_texts (op.LogicalShiftRight exact) = (each-byte (codes "lshr") refl, exact_texts exact)
op_texts (op.ArithmeticShiftRight exact) = (each-byte (codes "ashr") refl, exact_texts exact)
op_texts op.And = (each-byte (codes "and") refl, tt)
op_texts (op.Or disjoint) = (each-byte (codes "or") refl, if_texts disjoint (codes "disjoint") refl)
op_texts op.Xor = (each-byte (codes "xor") refl, tt)

byte_text : Bytes (width_text eight)
byte_text = (
  omega arith,
  recursion_from_All (λ (c : ℕ). c < 256) (decimal 8)
      (digits-bytes 8 (omega arith)),
)

comma_text : Bytes (codes ",")
comma_text = each-byte (codes ",") refl

local_text : (n : Name) → Bytes (name_text n) → Bytes (37 ∷ name_text n)
local_text n h = (omega arith, h)

inst_texts : (i : ℕ) (inst : Inst) (h : IsMade i inst) → i < 2 ^ 63
    → AreTexts (inst_pieces (written_inst i inst h))
inst_texts i inst h small =
    let l = value_bytes h.left (omega (arith, small, h.left_before)) in
    let r = value_bytes h.right (omega (arith, small, h.right_before)) in
    let o = numbered_bytes 114 i (omega arith) (omega (arith, small)) in
    let into = local_text (result_name i) o in
    let left = local_text (value_word h.left) l in
    let right = local_text (value_word h.right) r in
    let operands : List Piece =
    operand_pieces eight (written.Local (value_word h.left)) (written.Local (value_word h.right)) in
    let texts : AreTexts operands = (byte_text, (left, (comma_text, (right, tt)))) in
    let all = texts_append (op_pieces h.op) operands (op_texts h.op) texts in
    (into, (each-byte (codes "=") refl, all))

insts_texts : (i : ℕ) (insts : List Inst) (h : AreMade i insts) → i + length insts < 2 ^ 63
    → AreTexts (flat_map inst_pieces (written_insts i insts h))
insts_texts i [] h small = tt
insts_texts i (inst ∷ insts) h small =
    texts_append (inst_pieces (written_inst i inst h.0))
    (flat_map inst_pieces (written_insts (i + 1) insts h.1))
    (inst_texts i inst h.0 (omega (arith, small)))
    (insts_texts (i + 1) insts h.1 (omega (arith, small)))

body_texts : (n : Name) (insts : List Inst) (h : AreMade 0 insts) → length insts ≤ 64
    → AreTexts (body_pieces (name.Word (codes "entry")) (written_made n insts h).entry)
body_texts n insts h few =
    let last = value_bytes (length insts + 1) (omega (arith, few)) in
    let returned = local_text (value_word (length insts + 1)) last in
    let last_line : List Piece = terminator_pieces (written_made n insts h).entry.terminator in
    let end : AreTexts last_line = (each-byte (codes "ret") refl, (byte_text, (returned, tt))) in
    let lines : List Piece = flat_map inst_pieces (written_insts 0 insts h) in
    let label = each-byte (name_text (name.Word (codes "entry")) ++ 58 ∷ []) refl in
    let texts = insts_texts 0 insts h (omega (arith, few)) in
    (label, texts_append lines last_line texts end)

-- ---- the function

header_texts : (n : Name) (insts : List Inst) (h : AreMade 0 insts) → Bytes (name_text n)
    → AreTexts (header_pieces none (written_made n insts h))
header_texts n insts h named =
    let global : Bytes (64 ∷ name_text n) = (omega arith, named) in
    (each-byte (codes "define") refl, (byte_text, (global, (each-byte (codes "(") refl, tt))))

-- the names are a and b
parameters_texts : (n : Name) (insts : List Inst) (h : AreMade 0 insts)
    → AreTexts (parameters_pieces (named_behind [] (written_made n insts h).parameters))
parameters_texts n insts h =
    let a = local_text (value_word 0) (value_bytes 0 (omega arith)) in
    let b = local_text (value_word 1) (value_bytes 1 (omega arith)) in
    (byte_text, (a, (comma_text, (byte_text, (b, tt)))))

made_texts : (n : Name) (insts : List Inst) (h : AreMade 0 insts) → Bytes (name_text n)
    → length insts ≤ 64 → AreTexts (written_pieces none (written_made n insts h))
made_texts n insts h named few =
    let w : WrittenFunction = written_made n insts h in
    let body : List Piece = body_pieces (name.Word (codes "entry")) w.entry in
    let parameters : List Piece = parameters_pieces (named_behind [] w.parameters) in
    let end : List Piece = mark line (codes "}") ∷ [] in
    let rest : List Piece =
    mark none (codes ")") ∷ mark space (codes "{") ∷ ((body ++ []) ++ end) in
    let blocks = texts_append body [] (body_texts n insts h few) tt in
    let all = texts_append (body ++ []) end blocks (each-byte (codes "}") refl, tt) in
    let texts : AreTexts rest = (each-byte (codes ")") refl, (each-byte (codes "{") refl, all)) in
    texts_append (header_pieces none w) (parameters ++ rest) (header_texts n insts h named)
    (texts_append parameters rest (parameters_texts n insts h) texts)

-- ---- the tokens

-- each at one position
abbrev token_as : Piece → Lexeme
token_as p = record { kind = p.kind; text = p.text; at = 0; place = no_place }

abbrev pub tokens_as : List Piece → List Lexeme
tokens_as ps = map token_as ps

pub spelled-as : (ps : List Piece)
    → map spelled (tokens_as ps) ≡ map (λ (p : Piece). (p.kind, p.text)) ps
spelled-as [] = refl
spelled-as (p ∷ ps) = ap (λ (l : List (Kind × List ℕ)). (p.kind, p.text) ∷ l) (spelled-as ps)

each_token : (ps : List Piece) → AreTexts ps → AllByRecursion IsOfBytes (tokens_as ps)
each_token [] h = tt
each_token (p ∷ ps) h = (All-from_recursion (λ (b : ℕ). b < 256) p.text h.0, each_token ps h.1)

-- the name is a letter and a number
pub made-bytes : (b k : ℕ) (insts : List Inst) (h : AreMade 0 insts) → b < 256 → k < 2 ^ 64
    → length insts ≤ 64 → All IsOfBytes (tokens_as
    (written_pieces none (written_made (name.Word (b ∷ decimal k)) insts h)))
made-bytes b k insts h letter small few =
    let ps : List Piece = written_pieces none (written_made (name.Word (b ∷ decimal k)) insts h) in
    All-from_recursion IsOfBytes (tokens_as ps)
    (each_token ps (made_texts (name.Word (b ∷ decimal k)) insts h
    (numbered_bytes b k letter small) few))
