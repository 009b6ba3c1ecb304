-- How many words the choices of a lowered function are: one for each undef, and one for each freeze of a number.
use Rattle.std.proofs.Common.{◌≡◌, ◌+◌, ◌≤◌, ℕ, min, Bool, true, false, List, [], ◌∷◌, ◌++◌, length, length-append, Option, Some, None, ◌||◌, refl, ◌∙◌, ap, arith, sum_by}
use Rattle.std.specs.List.{AllByRecursion, flat_map}
use Rattle.std.proofs.lemmas.Grind.{flat_map-append}
use Rattle.std.proofs.lemmas.List.Concat.{flat_map-cons}
use Rattle.ir_tree.specs.declared.tree.IrType.{IrType}
use Rattle.ir_tree.specs.declared.tree.IrType.TheVariants as type
use Rattle.ir_tree.specs.declared.tree.Operand.{Operand}
use Rattle.ir_tree.specs.declared.tree.Operand.TheVariants.{Local, Undef}
use Rattle.ir_tree.specs.declared.tree.Inst.{Inst}
use Rattle.ir_tree.specs.declared.tree.Inst.TheVariants.{Binary, Icmp, Cast, Select, Freeze, Alloca, Load, Store, GetElementPtr}
use Rattle.ir_tree.specs.declared.tree.Function.{Function}
use Rattle.ir_tree.specs.Types.{one_bit}
use Rattle.tv_num.specs.declared.Width.{Width}
use Rattle.ir_tree.specs.Carrying.{carried_by, carried_from, carries, carrying_operands, insts_of, is_pointer, leaf_count}
use Rattle.ir_tree.proofs.Leaves.{counts_agree}
use Rattle.points.specs.Tapes.{inst_widths, word_widths}
use Rattle.undef_uses.specs.Undefs.{HasIntegerUndefs, is_undef}
use Rattle.lowering.specs.Lowered.{HasFewLeaves, computed, computed_by, computed_from, maker_of, above, placed, scratch}
use Rattle.lowering.proofs.Enough.{by_trees, computed_local, computed_none, computed_undef}

-- the words of the choices of these instructions
abbrev pub words : List Inst → ℕ
words insts = length (flat_map inst_widths insts)

pub words-append : (xs ys : List Inst) → words (xs ++ ys) ≡ words xs + words ys
words-append xs ys = ap (λ (ws : List ℕ). length ws) (flat_map-append inst_widths xs ys) ∙ length-append (flat_map inst_widths xs) (flat_map inst_widths ys)

-- an integer is one word
one_word : (type : IrType) → is_pointer type ≡ false → length (word_widths type) ≡ 1
one_word (type.Int width) e = refl
one_word type.Ptr e = let never : true ≡ false = e in cc

-- ---- what an operand takes

-- an undef is of an integer type
abbrev pub LeafFits : IrType → Operand → Type 0
LeafFits type o = is_undef o ≡ true → is_pointer type ≡ false

-- it takes no more words than it has leaves
abbrev TakesLeaves : Function → Operand → Type 0
TakesLeaves f o = (height : ℕ) (type : IrType) → LeafFits type o → words (computed f height type o) ≤ leaf_count f o

int_fits : (width : Width) (o : Operand) → LeafFits (type.Int width) o
int_fits width o = λ e. refl

pub or_second : (a b c : Bool) → b ≡ true → (a || (b || (c || false))) ≡ true
or_second true b c e = refl
or_second false true c e = refl
or_second false false c e = let never : false ≡ true = e in cc

pub or_third : (a b c : Bool) → c ≡ true → (a || (b || (c || false))) ≡ true
or_third true b c e = refl
or_third false true c e = refl
or_third false false true e = refl
or_third false false false e = let never : false ≡ true = e in cc

-- ---- what an instruction on trees takes

-- an instruction that makes no choice, behind others
pub words_plain : (xs : List Inst) (i : Inst) → inst_widths i ≡ [] → words (xs ++ i ∷ []) ≡ words xs
words_plain xs i e =
    let last : words (i ∷ []) ≡ 0 = ap (λ (ws : List ℕ). length ws) (flat_map-cons inst_widths i [] ∙ ap (λ (ws : List ℕ). ws ++ []) e) in
    let all = words-append xs (i ∷ []) in
    omega (arith, all, last)

pub words_one : (i : Inst) → words (i ∷ []) ≡ length (inst_widths i)
words_one i = ap (λ (ws : List ℕ). length ws) (flat_map-cons inst_widths i []) ∙ (length-append (inst_widths i) [] ∙ omega arith)

words_two : (xs ys : List Inst) (i : Inst) → inst_widths i ≡ [] → words (xs ++ ys ++ i ∷ []) ≡ words xs + words ys
words_two xs ys i e = let all = words_plain (xs ++ ys) i e in let both = words-append xs ys in omega (arith, all, both)

words_three : (xs ys zs : List Inst) (i : Inst) → inst_widths i ≡ [] → words (xs ++ ys ++ zs ++ i ∷ []) ≡ words xs + words ys + words zs
words_three xs ys zs i e = let all = words_plain (xs ++ ys ++ zs) i e in let both = words-append (xs ++ ys) zs in let two = words-append xs ys in omega (arith, all, both, two)

pub made_words : (f : Function) (height : ℕ) (i : Inst) → HasIntegerUndefs i → AllByRecursion (TakesLeaves f) (carrying_operands i) → words (computed_by f (computed f) height i) ≤ sum_by (leaf_count f) (carrying_operands i)
made_words f height (Binary into op width left right) fits all =
    let a = all.0 height (type.Int width) (int_fits width left) in
    let b = all.1.0 (above f height left) (type.Int width) (int_fits width right) in
    let last : Inst = Binary (scratch f height) op width (placed f height left) (placed f (above f height left) right) in
    let sum = words_two (computed f height (type.Int width) left) (computed f (above f height left) (type.Int width) right) last refl in
    omega (arith, sum, a, b)
made_words f height (Icmp into predicate same_sign width left right) fits all =
    let a = all.0 height (type.Int width) (int_fits width left) in
    let b = all.1.0 (above f height left) (type.Int width) (int_fits width right) in
    let last : Inst = Icmp (scratch f height) predicate same_sign width (placed f height left) (placed f (above f height left) right) in
    let sum = words_two (computed f height (type.Int width) left) (computed f (above f height left) (type.Int width) right) last refl in
    omega (arith, sum, a, b)
made_words f height (Cast into cast from o to) fits all =
    let a = all.0 height (type.Int from) (int_fits from o) in
    let sum = words_plain (computed f height (type.Int from) o) (Cast (scratch f height) cast from (placed f height o) to) refl in
    omega (arith, sum, a)
made_words f height (Select into condition if_true if_false) fits all =
    let second = above f height condition in
    let third = above f second if_true.operand in
    let a = all.0 height (type.Int one_bit) (int_fits one_bit condition) in
    let b = all.1.0 second if_true.of_type (λ e. (fits (or_second (is_undef condition) (is_undef if_true.operand) (is_undef if_false.operand) e)).0) in
    let c = all.1.1.0 third if_false.of_type (λ e. (fits (or_third (is_undef condition) (is_undef if_true.operand) (is_undef if_false.operand) e)).1) in
    let last : Inst = Select (scratch f height) (placed f height condition)
    (record { of_type = if_true.of_type; operand = placed f second if_true.operand })
    (record { of_type = if_false.of_type; operand = placed f third if_false.operand }) in
    let sum = words_three (computed f height (type.Int one_bit) condition) (computed f second if_true.of_type if_true.operand) (computed f third if_false.of_type if_false.operand) last refl in
    omega (arith, sum, a, b, c)
made_words f height (Freeze into t o) fits all = omega arith
made_words f height (Alloca into number t align) fits all = omega arith
made_words f height (Load into t pointer align) fits all = omega arith
made_words f height (Store value pointer align) fits all = omega arith
made_words f height (GetElementPtr into inbounds nuw t base indices) fits all = omega arith

from_words : (f : Function) (height : ℕ) (o : Option Inst) → ((i : Inst) → o ≡ Some i → HasIntegerUndefs i) → AllByRecursion (TakesLeaves f) (carried_from o)
    → words (computed_from f (computed f) height o) ≤ sum_by (leaf_count f) (carried_from o)
from_words f height None fits all = omega arith
from_words f height (Some i) fits all = made_words f height i (fits i refl) all

-- makers have integer undefs
abbrev pub MakersFit : Function → Type 0
MakersFit f = (name : ℕ) (i : Inst) → maker_of f name ≡ Some i → HasIntegerUndefs i

module _ (f : Function) (few : HasFewLeaves f) (fits : MakersFit f) where
  plain : (o : Operand) → carries f o ≡ false → TakesLeaves f o
  plain o not' = λ height t fit. rw (computed_none f height t o not') (omega arith)

  undef : TakesLeaves f Undef
  undef = λ height t fit.
      let one = one_word t (fit refl) in
      let leaf : leaf_count f Undef ≡ 1 = counts_agree f Undef in
      rw (computed_undef f height t) (let all = words_one (Freeze (scratch f height) t Undef) in omega (arith, one, leaf, all))

  local : (name : ℕ) → carries f (Local name) ≡ true → AllByRecursion (TakesLeaves f) (carried_by (insts_of f) name) → TakesLeaves f (Local name)
  local name does all = λ height t fit.
      let agree : leaf_count f (Local name) ≡ min 65 (sum_by (leaf_count f) (carried_by (insts_of f) name)) = counts_agree f (Local name) in
      let most = few name in
      let taken = from_words f height (maker_of f name) (fits name) all in
      rw (computed_local f few height t name does) (omega (arith, agree, most, taken))

  -- the choices that compute an operand are at most its leaves
  pub operand_words : (o : Operand) → TakesLeaves f o
  operand_words = by_trees f few (TakesLeaves f) (record { plain = plain; undef = undef; local = local })
