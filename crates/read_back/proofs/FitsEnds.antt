-- The last instruction of a block.
use Rattle.read_back.proofs.Common.{◌≡◌, ℕ, zero, suc, ◌<◌, ◌≤◌, inl, inr, Bool, true, false, List, [], ◌∷◌, ◌++◌, length, Option, Some, None, refl, subst, arith, ◌&&◌, nat_lt, AllByRecursion, ltb-true, length-append, Place, Lexeme, one_bit, IrType, Int, TerminatorWord, WrittenName, WrittenIntType, WrittenReturn, WrittenCase, WrittenTerminator, width_in, is_width, returned_by, returned, target, cond_branch, branch_to, branch, is_type, case_begins, case_within, with_case, cases, switch, return_of, terminator_by}
use Rattle.ir_words.specs.declared.word.TerminatorWord.TheVariants as finish
use Rattle.read_back.proofs.Spellable.{IsName, IsCase, IsReturned, IsTerminator}
use Rattle.read_back.proofs.FitsForms.{Gives, GivesParts}
use Rattle.read_back.proofs.FitsNames.{local-fits}
use Rattle.read_back.proofs.FitsOperands.{operand-fits, literal-fits}
use Rattle.read_back.proofs.FitsPhis.{all-push}

returned-by : (type : Option IrType) (at : Place) (x : WrittenReturn) → Gives (returned_by type at) x → IsReturned x
returned-by None at x same = subst (λ (y : WrittenReturn). IsReturned y) same tt
returned-by (Some type) at x (o, O, same) = subst (λ (y : WrittenReturn). IsReturned y) same (operand-fits true type o O)

returned-gives : (x : WrittenReturn) → Gives returned x → IsReturned x
unfolding returned
returned-gives x (type, T, R) = returned-by type.of_type type.at x R

target-gives : (x : WrittenName) → Gives target x → IsName x.name
unfolding target
target-gives x (label_word, W, T) = local-fits x T

-- ---- cases

pub and-first : (a b : Bool) → (a && b) ≡ true → a ≡ true
and-first true b e = refl
and-first false b e = absurd (cc e)

record AreCases (cs : List WrittenCase) : Type 0 where
  few : length cs ≤ 256
  each : AllByRecursion IsCase cs

no-cases : AreCases []
no-cases = record { few = omega arith; each = tt }

one-case-more : (cs : List WrittenCase) (c : WrittenCase) → AreCases cs → length cs < 256 → IsCase c → AreCases (cs ++ c ∷ [])
one-case-more cs c A room C = record { few = omega (arith, room, length-append cs (c ∷ [])); each = all-push IsCase cs c A.each C }

case-room : (cs : List WrittenCase) (t : Lexeme) → case_within cs t ≡ true → length cs < 256
case-room cs t e = ltb-true (length cs) 256 (and-first (nat_lt (length cs) 256) (is_width (width_in t)) e)

case-gives : (cs next : List WrittenCase) (type : WrittenIntType) → Gives (with_case cs type) next → AreCases cs → length cs < 256 → AreCases next
unfolding with_case
case-gives cs next type (literal, L, (comma, C, (to, T, same))) A room =
    let c : WrittenCase = record { of_type = type; literal = literal; to = to } in
    subst (λ (ys : List WrittenCase). AreCases ys) same (one-case-more cs c A room (record { literal = literal-fits type.width literal L; to = target-gives to T }))

cases-give : (n : ℕ) (s x : List WrittenCase) → GivesParts is_type case_begins case_within (λ s' type next. Gives (with_case s' type) next) n s x → AreCases s → AreCases x
cases-give zero s x same A = subst (λ (ys : List WrittenCase). AreCases ys) same A
cases-give (suc n) s x (type, next, T, C, more) A = cases-give n next x more (case-gives s next type C A (case-room s T.token T.keeps))

all-cases : (x : List WrittenCase) → Gives cases x → AreCases x
unfolding cases
all-cases x (s, first, n, P) = cases-give n s x P (subst (λ (ys : List WrittenCase). AreCases ys) first no-cases)

-- ---- each of them

pub terminator-gives : (w : TerminatorWord) (x : WrittenTerminator) → Gives (terminator_by w) x → IsTerminator x
unfolding return_of branch branch_to cond_branch switch
terminator-gives finish.Return x (value, R, same) = subst (λ (y : WrittenTerminator). IsTerminator y) same (returned-gives value R)
terminator-gives finish.Branch x (inl (u, T, (to, N, same))) = subst (λ (y : WrittenTerminator). IsTerminator y) same (local-fits to N)
terminator-gives finish.Branch x (inr (bit, B, (condition, C, (comma, M, (if_true, T, (comma', M', (if_false, F, same))))))) =
    subst (λ (y : WrittenTerminator). IsTerminator y) same (operand-fits false (Int one_bit) condition C, target-gives if_true T, target-gives if_false F)
terminator-gives finish.Switch x (type, T, (value, V, (comma, M, (default, D, (opening, O, (all, (C, E), same)))))) =
    let A = all-cases all.0 C in
    subst (λ (y : WrittenTerminator). IsTerminator y) same (operand-fits false (Int type.width) value V, target-gives default D, A.few, A.each)
terminator-gives finish.Unreachable x same = subst (λ (y : WrittenTerminator). IsTerminator y) same tt
