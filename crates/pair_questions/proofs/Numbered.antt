-- Numbered variables: how they grow, which questions they fit, and what bits and numbers make of them.
use Rattle.pair_questions.proofs.Common.{ℕ, zero, suc, ◌≡◌, ◌<◌, ◌≤◌, ◌+◌, ◌%◌, ◌^◌, ◌++◌, inl, inr, Bool, false, cond, All, List, [], ◌∷◌, Option, Some, slice_get, take, drop, map, length, arith, sym, ap, subst, refl, ◌∙◌, nat_eq, slice_index, eq-eqb, ne_eqb, length-drop, length-take-le, slice_get_within, get_or_from_slice_get, TermId, Term, Variable, width_of, AreFit, Extends, Gains, Keeps, term_at, tree_in, variables_among, Fits, numbers_of, total, AreDifferent, IsVariable, assigned_by, digit_count, variable_of, variables_of, tree_placed, Each, each-push, each-weaker, AreNumbered, IsNumbered, IsOrder}
use Rattle.std.proofs.Common.{None}
use Rattle.std.specs.Prelude.{◌&&◌}
use Rattle.std.proofs.Math.Nat.{mod-eq_of_lt}
use Rattle.bv_terms.specs.declared.term.Term.TheVariants as term
use Rattle.bv_terms.specs.Tree.{value_of}
use Rattle.gate_arith.specs.Numbers.{number_of}
use Rattle.gate_arith.proofs.Digits.{number-below}

-- ---- more variables, and more terms

pub numbered-length : (terms : List Term) (from : ℕ) (order : List TermId) (widths : List ℕ) → AreNumbered terms from order widths → length order ≡ length widths
numbered-length terms from [] [] h = refl
numbered-length terms from (a ∷ rest) (w ∷ ws) h = omega (arith, numbered-length terms (from + 1) rest ws h.1)
numbered-length terms from [] (w ∷ ws) h = absurd h
numbered-length terms from (a ∷ rest) [] h = absurd h

numbered-later : (old new : List Term) → ((i : ℕ) → i < length old → slice_get new i ≡ slice_get old i) → (from : ℕ) (order : List TermId) (widths : List ℕ) → AreNumbered old from order widths → AreNumbered new from order widths
numbered-later old new stay from [] [] h = tt
numbered-later old new stay from (a ∷ rest) (w ∷ ws) h = (stay a.index (slice_get_within old a.index (term.Variable from w) h.0) ∙ h.0, numbered-later old new stay (from + 1) rest ws h.1)
numbered-later old new stay from [] (w ∷ ws) h = absurd h
numbered-later old new stay from (a ∷ rest) [] h = absurd h

numbered-push : (terms : List Term) (from : ℕ) (order : List TermId) (widths : List ℕ) (a : TermId) (w : ℕ) → AreNumbered terms from order widths
    → slice_get terms a.index ≡ Some (term.Variable (from + length order) w) → AreNumbered terms from (order ++ a ∷ []) (widths ++ w ∷ [])
numbered-push terms from [] [] a w h at =
    let e : from + 0 ≡ from = omega arith in
    (subst (λ n. slice_get terms a.index ≡ Some (term.Variable n w)) e at, tt)
numbered-push terms from (b ∷ rest) (u ∷ us) a w h at =
    let e : from + suc (length rest) ≡ from + 1 + length rest = omega arith in
    (h.0, numbered-push terms (from + 1) rest us a w h.1 (subst (λ n. slice_get terms a.index ≡ Some (term.Variable n w)) e at))
numbered-push terms from [] (u ∷ us) a w h at = absurd h
numbered-push terms from (b ∷ rest) [] a w h at = absurd h

get-front : (xs ys : List ℕ) (k x : ℕ) → slice_get xs k ≡ Some x → slice_get (xs ++ ys) k ≡ Some x
get-front [] ys k x h = absurd (let z : ⊥ = cc in z)
get-front (y ∷ xs) ys zero x h = h
get-front (y ∷ xs) ys (suc k) x h = get-front xs ys k x h

get-last : (xs : List ℕ) (x k : ℕ) → k ≡ length xs → slice_get (xs ++ x ∷ []) k ≡ Some x
get-last [] x k e = rw e refl
get-last (y ∷ xs) x k e = rw e (get-last xs x (length xs) refl)

pub order_push : (old new : List Term) (order order' : List TermId) (widths : List ℕ) (a : TermId) (w : ℕ) → IsOrder old order widths → Extends old new
    → Gains old new (record { number = length order; width = w } ∷ []) → slice_get new a.index ≡ Some (term.Variable (length order) w) → order' ≡ order ++ a ∷ [] → IsOrder new order' (widths ++ w ∷ [])
order_push old new order order' widths a w is more gains at e = rw e (record {
  numbered = numbered-push new 0 order widths a w (numbered-later old new more.terms 0 order widths is.numbered) (subst (λ n. slice_get new a.index ≡ Some (term.Variable n w)) (let z : length order ≡ 0 + length order = omega arith in z) at);
  named = go gains;
})
  where
    early : Each (IsNumbered (widths ++ w ∷ [])) (variables_among old)
    early = each-weaker (IsNumbered widths) (IsNumbered (widths ++ w ∷ [])) (variables_among old) (λ x h. get-front widths (w ∷ []) x.number x.width h) is.named

    go : Gains old new (record { number = length order; width = w } ∷ []) → Each (IsNumbered (widths ++ w ∷ [])) (variables_among new)
    go (inl same) = subst (λ (xs : List Variable). Each (IsNumbered (widths ++ w ∷ [])) xs) (sym same) early
    go (inr one) = subst (λ (xs : List Variable). Each (IsNumbered (widths ++ w ∷ [])) xs) (sym one)
        (each-push (IsNumbered (widths ++ w ∷ [])) (variables_among old) (record { number = length order; width = w }) early (get-last widths w (length order) (numbered-length old 0 order widths is.numbered)))

pub order_kept : (old new : List Term) (order : List TermId) (widths : List ℕ) → Keeps old new → IsOrder old order widths → IsOrder new order widths
order_kept old new order widths k is = record {
  numbered = numbered-later old new k.terms 0 order widths is.numbered;
  named = subst (λ (xs : List Variable). Each (IsNumbered widths) xs) (sym k.calm) is.named;
}

-- ---- the order of a question

abbrev pub variables_from : ℕ → List ℕ → List Variable
variables_from from [] = []
variables_from from (w ∷ ws) = record { number = from; width = w } ∷ variables_from (from + 1) ws

two : {A B C : Type 0} (f : A → B → C) {x x' : A} {y y' : B} → x ≡ x' → y ≡ y' → f x y ≡ f x' y'
two f e g = cc

pub variables_are : (terms : List Term) (from : ℕ) (order : List TermId) (widths : List ℕ) → AreNumbered terms from order widths → variables_of terms order ≡ variables_from from widths
variables_are terms from [] [] h = refl
variables_are terms from (a ∷ rest) (w ∷ ws) h =
    two (λ (x : Variable) (xs : List Variable). x ∷ xs) (ap variable_of (get_or_from_slice_get terms a.index (term.Variable from w) (term.Constant 0 0) h.0)) (variables_are terms (from + 1) rest ws h.1)
variables_are terms from [] (w ∷ ws) h = absurd h
variables_are terms from (a ∷ rest) [] h = absurd h

count-from : (from : ℕ) (widths : List ℕ) → digit_count (variables_from from widths) ≡ total widths
count-from from [] = refl
count-from from (w ∷ ws) = ap (λ n. w + n) (count-from (from + 1) ws)

pub count_is : (terms : List Term) (order : List TermId) (widths : List ℕ) → AreNumbered terms 0 order widths → digit_count (variables_of terms order) ≡ total widths
count_is terms order widths h = ap digit_count (variables_are terms 0 order widths h) ∙ count-from 0 widths

pub are_variables : (terms : List Term) (from : ℕ) (order : List TermId) (widths : List ℕ) → AreNumbered terms from order widths → All (IsVariable terms) order
are_variables terms from [] [] h i d lt = absurd (omega arith)
are_variables terms from (a ∷ rest) (w ∷ ws) h zero d lt = (from, w, h.0)
are_variables terms from (a ∷ rest) (w ∷ ws) h (suc i) d lt = are_variables terms (from + 1) rest ws h.1 i d (omega arith)
are_variables terms from [] (w ∷ ws) h i d lt = absurd h
are_variables terms from (a ∷ rest) [] h i d lt = absurd h

pub all_within : (terms : List Term) (from : ℕ) (order : List TermId) (widths : List ℕ) → AreNumbered terms from order widths → All (λ (a : TermId). a.index < length terms) order
all_within terms from [] [] h i d lt = absurd (omega arith)
all_within terms from (a ∷ rest) (w ∷ ws) h zero d lt = slice_get_within terms a.index (term.Variable from w) h.0
all_within terms from (a ∷ rest) (w ∷ ws) h (suc i) d lt = all_within terms (from + 1) rest ws h.1 i d (omega arith)
all_within terms from [] (w ∷ ws) h i d lt = absurd h
all_within terms from (a ∷ rest) [] h i d lt = absurd h

pub widths_are : (terms : List Term) (from : ℕ) (order : List TermId) (widths : List ℕ) → AreFit [] terms → AreNumbered terms from order widths → map (λ (a : TermId). width_of (tree_in terms a)) order ≡ widths
widths_are terms from [] [] fit h = refl
widths_are terms from (a ∷ rest) (w ∷ ws) fit h =
    ap (λ n. n ∷ map (λ (b : TermId). width_of (tree_in terms b)) rest) (ap width_of (tree_placed terms a.index (term.Variable from w) fit h.0)) ∙ ap (λ ns. w ∷ ns) (widths_are terms (from + 1) rest ws fit h.1)
widths_are terms from [] (w ∷ ws) fit h = absurd h
widths_are terms from (a ∷ rest) [] fit h = absurd h

number-at : (terms : List Term) (from : ℕ) (order : List TermId) (widths : List ℕ) (i : ℕ) (a : TermId) → AreNumbered terms from order widths → slice_get order i ≡ Some a
    → (w : ℕ) × (slice_get terms a.index ≡ Some (term.Variable (from + i) w))
number-at terms from [] [] i a h at = absurd (let z : ⊥ = cc in z)
number-at terms from (b ∷ rest) (w ∷ ws) zero a h at =
    let same : b ≡ a = cc in
    let e : from ≡ from + 0 = omega arith in
    (w, subst (λ n. slice_get terms a.index ≡ Some (term.Variable n w)) e (subst (λ (c : TermId). slice_get terms c.index ≡ Some (term.Variable from w)) same h.0))
number-at terms from (b ∷ rest) (w ∷ ws) (suc i) a h at =
    let r = number-at terms (from + 1) rest ws i a h.1 at in
    let e : from + 1 + i ≡ from + suc i = omega arith in
    (r.0, subst (λ n. slice_get terms a.index ≡ Some (term.Variable n r.0)) e r.1)
number-at terms from [] (w ∷ ws) i a h at = absurd h
number-at terms from (b ∷ rest) [] i a h at = absurd h

abbrev number-in : Option Term → ℕ
number-in None = 0
number-in (Some t) = (variable_of t).number

pub are_different : (terms : List Term) (order : List TermId) (widths : List ℕ) → AreNumbered terms 0 order widths → AreDifferent order
are_different terms order widths h i j a b lt p q same =
    let first = number-at terms 0 order widths i a h p in
    let second = number-at terms 0 order widths j b h q in
    let e : 0 + i ≡ 0 + j = sym (ap number-in first.1) ∙ (ap (λ (c : TermId). number-in (slice_get terms c.index)) same ∙ ap number-in second.1) in
    omega (arith, lt, e)

-- ---- what the variables are worth

variable-at : (terms : List Term) (a : TermId) (number width n : ℕ) (v : ℕ → ℕ → ℕ) → AreFit [] terms → slice_get terms a.index ≡ Some (term.Variable number width) → v number width ≡ n → n < 2 ^ width → term_at v terms a ≡ n
variable-at terms a number width n v fit at e lt =
    ap (value_of v) (tree_placed terms a.index (term.Variable number width) fit at) ∙ (ap (λ k. k % 2 ^ width) e ∙ mod-eq_of_lt lt)

-- the numbers that bits write
pub numbers-written : (terms : List Term) (from : ℕ) (order : List TermId) (widths : List ℕ) (v : ℕ → ℕ → ℕ) (digits : List Bool) → AreFit [] terms → AreNumbered terms from order widths
    → ((number width : ℕ) → from ≤ number → v number width ≡ assigned_by (variables_from from widths) digits number width) → length digits ≡ total widths
    → map (term_at v terms) order ≡ numbers_of widths digits
numbers-written terms from [] [] v digits fit h e long = refl
numbers-written terms from (a ∷ rest) (w ∷ ws) v digits fit h e long =
    let own : v from w ≡ number_of (take w digits) =
    e from w (omega arith) ∙ ap (λ b. cond b (number_of (take w digits)) (assigned_by (variables_from (from + 1) ws) (drop w digits) from w)) (two (λ x y. x && y) (eq-eqb from from refl) (eq-eqb w w refl)) in
    let taken : length (take w digits) ≡ w = length-take-le w digits (omega (arith, long)) in
    let small : number_of (take w digits) < 2 ^ w = subst (λ k. number_of (take w digits) < 2 ^ k) taken (number-below (take w digits)) in
    let here = variable-at terms a from w (number_of (take w digits)) v fit h.0 own small in
    let others : (number width : ℕ) → from + 1 ≤ number → v number width ≡ assigned_by (variables_from (from + 1) ws) (drop w digits) number width =
    λ number width le.
    let ne : nat_eq number from ≡ false = ne_eqb number from (λ z. omega (arith, le, z)) in
    e number width (omega (arith, le)) ∙ ap (λ b. cond (b && nat_eq width w) (number_of (take w digits)) (assigned_by (variables_from (from + 1) ws) (drop w digits) number width)) ne in
    let left : length (drop w digits) ≡ total ws = omega (arith, length-drop w digits, long) in
    two (λ (x : ℕ) (xs : List ℕ). x ∷ xs) here (numbers-written terms (from + 1) rest ws v (drop w digits) fit h.1 others left)
numbers-written terms from [] (w ∷ ws) v digits fit h e long = absurd h
numbers-written terms from (a ∷ rest) [] v digits fit h e long = absurd h

-- the numbers that are looked up
pub numbers-looked : (terms : List Term) (from : ℕ) (order : List TermId) (widths : List ℕ) (v : ℕ → ℕ → ℕ) (numbers : List ℕ) → AreFit [] terms → AreNumbered terms from order widths
    → ((i width : ℕ) → v (from + i) width ≡ slice_index numbers i) → Fits widths numbers → map (term_at v terms) order ≡ numbers
numbers-looked terms from [] [] v [] fit h e fits = refl
numbers-looked terms from (a ∷ rest) (w ∷ ws) v (n ∷ ns) fit h e fits =
    let at : from + 0 ≡ from = omega arith in
    let own : v from w ≡ n = ap (λ k. v k w) (sym at) ∙ e 0 w in
    let others : (i width : ℕ) → v (from + 1 + i) width ≡ slice_index ns i =
    λ i width. let step : from + 1 + i ≡ from + suc i = omega arith in ap (λ k. v k width) step ∙ e (suc i) width in
    two (λ (x : ℕ) (xs : List ℕ). x ∷ xs) (variable-at terms a from w n v fit h.0 own fits.0) (numbers-looked terms (from + 1) rest ws v ns fit h.1 others fits.1)
numbers-looked terms from [] [] v (n ∷ ns) fit h e fits = absurd fits
numbers-looked terms from (a ∷ rest) (w ∷ ws) v [] fit h e fits = absurd fits
numbers-looked terms from [] (w ∷ ws) v numbers fit h e fits = absurd h
numbers-looked terms from (a ∷ rest) [] v numbers fit h e fits = absurd h
