-- The rows of the table for numbers of the width.
use Rattle.std.specs.Prelude.{◌≡◌, ℕ, ◌+◌, ◌-◌, ◌%◌, ◌^◌, Bool, false, ◌&&◌, cond, List}
use Rattle.ir_tree.specs.declared.tree.Op.{Op}
use Rattle.byte_block.specs.declared.value.Value.{Value}
use Rattle.byte_block.specs.declared.value.Value.TheVariants.{Num}
use Rattle.points.specs.Table.{have_two_signs, is_negative, is_poisoned, is_undefined, number_result, poison_if}
use Rattle.bv_terms.specs.declared.term.TermId.{TermId}
use Rattle.bv_terms.specs.declared.term.Term.{Term}
use Rattle.bv_terms.specs.Trees.{bit_at, term_at}
use Rattle.inst_terms.specs.declared.narrow.NarrowValue.{NarrowValue}
use Rattle.inst_terms.specs.Narrow.{narrow_at}

-- where the operation is defined
abbrev pub row_of : Op → ℕ → ℕ → ℕ → Value
row_of op n a b = poison_if (is_poisoned op n a b) (Num (number_result op n a b))

-- the terms denote the row on two numbers, wherever the operation is defined on them and the condition is false
abbrev pub IsRow : List Term → List Term → Op → TermId → ℕ → TermId → TermId → NarrowValue → Type 0
IsRow old new op poison n a b s =
    (v : ℕ → ℕ → ℕ) → bit_at v old poison ≡ false → is_undefined op n (Num (term_at v old a)) (Num (term_at v old b)) ≡ false → narrow_at v new s ≡ row_of op n (term_at v old a) (term_at v old b)

-- the sign of the first differs from those of both others
abbrev pub is_sign_alone : ℕ → ℕ → ℕ → ℕ → Bool
is_sign_alone n c a b = have_two_signs n c a && have_two_signs n c b

-- the number, or its opposite in two's complement
abbrev pub negated_if : ℕ → Bool → ℕ → ℕ
negated_if n b a = cond b ((0 + (2 ^ n - a)) % 2 ^ n) a

abbrev pub magnitude : ℕ → ℕ → ℕ
magnitude n a = negated_if n (is_negative n a) a
