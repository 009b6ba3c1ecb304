-- The text of a report as lines, of which those that begin with `@` are the first lines of its rows.
use Rattle.tv_run.proofs.Common.{ℕ, zero, suc, ◌≡◌, ◌≢◌, ◌<◌, ◌≤◌, ◌+◌, ◌-◌, ◌/◌, ◌%◌, ◌||◌, ◌==◌, eqb, arith, Bool, true, false, cond, cases_Bool, inl, inr, Contains, List, [], ◌∷◌, ◌++◌, codes, take, append-nil, Option, Some, None, refl, sym, ap, ap₂, ◌∙◌, ⊎_elim, nat_eq, nat_lt, if◌then◌else◌, filter, decimal, digits, digit_glyph, digits_onto, flat_map, list_any, nat_tests, All-append, All-cons, All-nil, Contains-append_cases, flat_map-append, filter-append, hex_byte, hex_digit, is_digit, Point, Shown, address_text, arg_lines, bits_text, block_line, block_lines, byte_text, bytes_line, choice_lines, contents_line, newline, numbered_line, outcome_lines, point_lines, pointer_text, returned_text, sentence, shown_lines, spaced_byte, value_text, ended, first_or_later, AreFree, Free}
use Rattle.byte_block.specs.declared.value.BlockName.{BlockName}
use Rattle.byte_block.specs.declared.value.BlockName.TheVariants.{Null, Given, Local}
use Rattle.byte_block.specs.declared.value.Ptr.{Ptr}
use Rattle.byte_block.specs.declared.value.Value.{Value}
use Rattle.byte_block.specs.declared.value.Value.TheVariants as value
use Rattle.byte_block.specs.declared.value.Byte.{Byte}
use Rattle.byte_block.specs.declared.value.Byte.TheVariants as byte
use Rattle.byte_block.specs.declared.block.MemoryBlock.{MemoryBlock}
use Rattle.points.specs.declared.outcome.Outcome.{Outcome}
use Rattle.points.specs.declared.outcome.Outcome.TheVariants.{Return, Ub, Beyond}

-- ---- bytes that a text does not contain

abbrev pub Without : ℕ → List ℕ → Type 0
Without c text = Contains text c → ⊥

pub without_nil : (c : ℕ) → Without c []
without_nil c i = absurd (omega (arith, i.1))

pub without_append : (c : ℕ) (a b : List ℕ) → Without c a → Without c b → Without c (a ++ b)
without_append c a b fa fb i = ⊎_elim fa fb (Contains-append_cases a b c i)

pub without_cons : (c b : ℕ) (bs : List ℕ) → b ≢ c → Without c bs → Without c (b ∷ bs)
without_cons c b bs n f i = ⊎_elim (λ e. n e) f (first_or_later b c bs i)

pub without_known : (c : ℕ) (text : List ℕ) → list_any (λ b. eqb b c) text ≡ false → Without c text
without_known c [] none = without_nil c
without_known c (b ∷ bs) none = go (eqb b c) refl none (without_known c bs)
  where
    go : (t : Bool) → eqb b c ≡ t → (t || list_any (λ x. eqb x c) bs) ≡ false → (list_any (λ x. eqb x c) bs ≡ false → Without c bs) → Without c (b ∷ bs)
    go true is h rest = absurd (cc h)
    go false is h rest = without_cons c b bs (λ e. absurd (grind (arith, nat_tests))) (rest h)

glyph_other : (c d : ℕ) → d < 10 → is_digit c ≡ false → digit_glyph false d ≢ c
glyph_other c d small other e = absurd (grind (arith, nat_tests))

onto_without : (c k n : ℕ) (acc : List ℕ) → is_digit c ≡ false → Without c acc → Without c (digits_onto k 10 false n acc)
onto_without c zero n acc other free = free
onto_without c (suc k) n acc other free = go (eqb (n / 10) 0) (onto_without c k (n / 10) (digit_glyph false (n % 10) ∷ acc) other more)
  where
    more : Without c (digit_glyph false (n % 10) ∷ acc)
    more = without_cons c (digit_glyph false (n % 10)) acc (glyph_other c (n % 10) (omega arith) other) free

    go : (t : Bool) → Without c (digits_onto k 10 false (n / 10) (digit_glyph false (n % 10) ∷ acc)) → Without c (cond t (digit_glyph false (n % 10) ∷ acc) (digits_onto k 10 false (n / 10) (digit_glyph false (n % 10) ∷ acc)))
    go true rest = more
    go false rest = rest

-- a number is printed with digits alone
pub decimal_without : (c n : ℕ) → is_digit c ≡ false → Without c (decimal n)
unfolding digits
decimal_without c n other = onto_without c 64 n [] other (without_nil c)

-- ---- texts of lines

-- a line that begins with `@`
abbrev pub is_marked : List ℕ → Bool
is_marked [] = false
is_marked (b ∷ bs) = b == 64

-- the text is lines, of which these are marked
pub record HasMarked (marked : List (List ℕ)) (text : List ℕ) : Type 0 where
  pub lines : List (List ℕ)
  pub free : AreFree lines
  pub are : filter is_marked lines ≡ marked
  pub is : text ≡ ended lines

pub marked_nil : HasMarked [] []
marked_nil = record { lines = []; free = All-nil Free; are = refl; is = refl }

pub marked_append : (a b : List (List ℕ)) (s t : List ℕ) → HasMarked a s → HasMarked b t → HasMarked (a ++ b) (s ++ t)
marked_append a b s t x y = record {
  lines = x.lines ++ y.lines;
  free = All-append Free x.lines y.lines x.free y.free;
  are = filter-append is_marked x.lines y.lines ∙ ap₂ (λ (p : List (List ℕ)) (q : List (List ℕ)). p ++ q) x.are y.are;
  is = ap₂ (λ (p : List ℕ) (q : List ℕ). p ++ q) x.is y.is ∙ sym (flat_map-append (λ (line : List ℕ). line ++ 10 ∷ []) x.lines y.lines);
}

-- one line
module _ (line : List ℕ) (free : Free line) where
  one_line : (marked : List (List ℕ)) → filter is_marked (line ∷ []) ≡ marked → HasMarked marked (line ++ newline)
  one_line marked are = record { lines = line ∷ []; free = All-cons Free line [] free (All-nil Free); are = are; is = sym (append-nil (line ++ newline)) }

  pub marked_line : is_marked line ≡ true → HasMarked (line ∷ []) (line ++ newline)
  marked_line is = one_line (line ∷ []) (rw is refl)

  pub unmarked_line : is_marked line ≡ false → HasMarked [] (line ++ newline)
  unmarked_line is = one_line [] (rw is refl)

-- ---- what is shown of an incorrect row

-- a text without a newline that does not begin with `@`
record IsLabel (text : List ℕ) : Type 0 where
  pub free : Free text
  pub first : ℕ
  pub rest : List ℕ
  pub is : text ≡ first ∷ rest
  pub other : (first == 64) ≡ false

label_append : (a b : List ℕ) → IsLabel a → Free b → IsLabel (a ++ b)
label_append a b l free = record { free = without_append 10 a b l.free free; first = l.first; rest = l.rest ++ b; is = ap (λ (t : List ℕ). t ++ b) l.is; other = l.other }

label_line : (a : List ℕ) → IsLabel a → HasMarked [] (a ++ newline)
label_line a l = unmarked_line a l.free (ap is_marked l.is ∙ l.other)

pub free_known : (text : List ℕ) → list_any (λ b. eqb b 10) text ≡ false → Free text
free_known text none = without_known 10 text none

pub free_decimal : (n : ℕ) → Free (decimal n)
free_decimal n = decimal_without 10 n refl

pub hex_other : (c ten n : ℕ) → c < 48 → c < ten → hex_digit ten n ≢ c
hex_other c ten n below less e = absurd (grind (arith, nat_tests))

free_address : (b : BlockName) (offset : ℕ) → Free (address_text b offset)
free_address Null offset = without_append 10 (codes "null+") (decimal offset) (free_known (codes "null+") refl) (free_decimal offset)
free_address (Given number) offset =
    without_append 10 (codes "given" ++ decimal number ++ codes "+") (decimal offset)
    (without_append 10 (codes "given" ++ decimal number) (codes "+") (without_append 10 (codes "given") (decimal number) (free_known (codes "given") refl) (free_decimal number)) (free_known (codes "+") refl))
    (free_decimal offset)
free_address (Local turn place) offset = free_known (codes "dead") refl

free_value : (v : Value) → Free (value_text v)
free_value (value.Num n) = free_decimal n
free_value value.Poison = free_known (codes "poison") refl
free_value (value.Ptr p) = free_address p.block p.offset

free_hex : (n : ℕ) → Free (hex_byte 97 n)
free_hex n =
    without_cons 10 (hex_digit 97 (n / 16)) (hex_digit 97 (n % 16) ∷ []) (hex_other 10 97 (n / 16) (omega arith) (omega arith))
    (without_cons 10 (hex_digit 97 (n % 16)) [] (hex_other 10 97 (n % 16) (omega arith) (omega arith)) (without_nil 10))

free_bits : (number mask : ℕ) → Free (bits_text number mask)
free_bits number mask = elim (cases_Bool (nat_eq mask 0)) [
  | inl none ↦ rw none (free_hex number)
  | inr some ↦ elim (cases_Bool (nat_eq mask 255)) [
    | inl all ↦ rw (some, all) (free_known (codes "--") refl)
    | inr few ↦ rw (some, few)
        (without_append 10 (hex_byte 97 number ++ codes "~") (hex_byte 97 mask) (without_append 10 (hex_byte 97 number) (codes "~") (free_hex number) (free_known (codes "~") refl)) (free_hex mask))
  ]
]

free_byte : (b : Byte) → Free (byte_text b)
free_byte (byte.Bits number mask) = free_bits number mask
free_byte (byte.Part p place) =
    without_append 10 (pointer_text p ++ codes "/") (decimal place) (without_append 10 (pointer_text p) (codes "/") (free_address p.block p.offset) (free_known (codes "/") refl)) (free_decimal place)

free_bytes : (bytes : List Byte) → Free (flat_map spaced_byte bytes)
free_bytes [] = without_nil 10
free_bytes (b ∷ bytes) = without_append 10 (spaced_byte b) (flat_map spaced_byte bytes) (without_append 10 (codes " ") (byte_text b) (free_known (codes " ") refl) (free_byte b)) (free_bytes bytes)

numbered_marked : (label : List ℕ) (number : ℕ) (shown : List ℕ) → IsLabel label → Free shown → HasMarked [] (numbered_line label number shown)
numbered_marked label number shown l free =
    label_line (label ++ decimal number ++ codes " = " ++ shown)
    (label_append (label ++ decimal number ++ codes " = ") shown
    (label_append (label ++ decimal number) (codes " = ") (label_append label (decimal number) l (free_decimal number)) (free_known (codes " = ") refl)) free)

arg_label : IsLabel (codes "  arg ")
arg_label = record { free = free_known (codes "  arg ") refl; first = 32; rest = codes " arg "; is = refl; other = refl }

choice_label : IsLabel (codes "  choice ")
choice_label = record { free = free_known (codes "  choice ") refl; first = 32; rest = codes " choice "; is = refl; other = refl }

block_label : IsLabel (codes "  block ")
block_label = record { free = free_known (codes "  block ") refl; first = 32; rest = codes " block "; is = refl; other = refl }

args_marked : (place : ℕ) (args : List Value) → HasMarked [] (arg_lines place args)
args_marked place [] = marked_nil
args_marked place (arg ∷ args) = marked_append [] [] (numbered_line (codes "  arg ") place (value_text arg)) (arg_lines (place + 1) args) (numbered_marked (codes "  arg ") place (value_text arg) arg_label (free_value arg)) (args_marked (place + 1) args)

choices_marked : (place : ℕ) (words : List ℕ) → HasMarked [] (choice_lines place words)
choices_marked place [] = marked_nil
choices_marked place (word ∷ words) =
    marked_append [] [] (numbered_line (codes "  choice ") place (decimal word)) (choice_lines (place + 1) words) (numbered_marked (codes "  choice ") place (decimal word) choice_label (free_decimal word)) (choices_marked (place + 1) words)

module _ (label : List ℕ) (l : IsLabel label) where
  bytes_marked : (number : ℕ) (bytes : List Byte) → HasMarked [] (bytes_line label number bytes)
  bytes_marked number bytes =
      label_line (label ++ decimal number ++ codes " =" ++ flat_map spaced_byte bytes)
      (label_append (label ++ decimal number ++ codes " =") (flat_map spaced_byte bytes)
      (label_append (label ++ decimal number) (codes " =") (label_append label (decimal number) l (free_decimal number)) (free_known (codes " =") refl)) (free_bytes bytes))

  contents_marked : (name : BlockName) (size : ℕ) (bytes : List Byte) → HasMarked [] (contents_line label name size bytes)
  contents_marked Null size bytes = marked_nil
  contents_marked (Given number) size bytes = go (nat_lt 0 size)
    where
      go : (t : Bool) → HasMarked [] (if t then bytes_line label number (take size bytes) else [])
      go true = bytes_marked number (take size bytes)
      go false = marked_nil
  contents_marked (Local turn place) size bytes = marked_nil

  blocks_marked : (blocks : List MemoryBlock) → HasMarked [] (block_lines label blocks)
  blocks_marked [] = marked_nil
  blocks_marked (b ∷ blocks) = marked_append [] [] (block_line label b) (block_lines label blocks) (contents_marked b.name b.size b.places) (blocks_marked blocks)

  sentence_marked : (words : List ℕ) → Free words → HasMarked [] (sentence label words)
  sentence_marked words free = label_line (label ++ words) (label_append label words l free)

free_returned : (v : Option Value) → Free (returned_text v)
free_returned None = free_known (codes "returns void") refl
free_returned (Some v) = without_append 10 (codes "returns ") (value_text v) (free_known (codes "returns ") refl) (free_value v)

outcome_marked : (label : List ℕ) → IsLabel label → (o : Outcome) → HasMarked [] (outcome_lines label o)
outcome_marked label l Ub = sentence_marked label l (codes "ub") (free_known (codes "ub") refl)
outcome_marked label l Beyond = sentence_marked label l (codes "beyond") (free_known (codes "beyond") refl)
outcome_marked label l (Return v blocks) =
    marked_append [] [] (sentence label (returned_text v)) (block_lines (label ++ codes "block ") blocks) (sentence_marked label l (returned_text v) (free_returned v))
    (blocks_marked (label ++ codes "block ") (label_append label (codes "block ") l (free_known (codes "block ") refl)) blocks)

source_label : IsLabel (codes "  source ")
source_label = record { free = free_known (codes "  source ") refl; first = 32; rest = codes " source "; is = refl; other = refl }

target_label : IsLabel (codes "  target ")
target_label = record { free = free_known (codes "  target ") refl; first = 32; rest = codes " target "; is = refl; other = refl }

point_marked : (p : Point) (read : ℕ) → HasMarked [] (point_lines p read)
point_marked p read =
    marked_append [] [] (arg_lines 0 p.input.args ++ block_lines (codes "  block ") p.input.blocks) (choice_lines 0 (take read p.tape))
    (marked_append [] [] (arg_lines 0 p.input.args) (block_lines (codes "  block ") p.input.blocks) (args_marked 0 p.input.args) (blocks_marked (codes "  block ") block_label p.input.blocks))
    (choices_marked 0 (take read p.tape))

pub shown_marked : (p : Point) (shown : Shown) → HasMarked [] (shown_lines p shown)
shown_marked p shown =
    marked_append [] [] (point_lines p shown.read ++ outcome_lines (codes "  source ") shown.source) (outcome_lines (codes "  target ") shown.target)
    (marked_append [] [] (point_lines p shown.read) (outcome_lines (codes "  source ") shown.source) (point_marked p shown.read) (outcome_marked (codes "  source ") source_label shown.source))
    (outcome_marked (codes "  target ") target_label shown.target)
