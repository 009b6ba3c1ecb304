-- The solver's answer on a circuit's clauses is the answer to its question.
use Rattle.sat_ask.proofs.Common.{ℕ, suc, ◌≡◌, ◌<◌, ◌≤◌, ◌+◌, ◌-◌, Bool, true, false, ◌&&◌, ◌||◌, List, [], ◌∷◌, ◌++◌, length, map, take, drop, get_or, slice_get, Option, Some, refl, ap, sym, subst, ◌∙◌, arith, length-take-le, get_or-take, drop_more, Cnf, Answer, IsAnswer, IsLeast, IsLess, GateId, Gate, gate_at, AreAllNamed, Encodes, HasOneModelAFront, Asks, IsLeastOf, NonePass, UsesEachStepOf, and_from}
use Rattle.clause_lits.specs.declared.lit.Lit.{Lit}
use Rattle.clause_lits.specs.Meaning as meaning
use Rattle.clause_lits.specs.Meaning.{IsModel, clauses_true, clause_true, lit_true}
use Rattle.clause_log.specs.declared.step.Step.{Step}
use Rattle.clause_log.specs.Refutation.{Refutes}
use Rattle.clause_log.proofs.Soundness.{refuted-false}
use Rattle.clause_search.specs.declared.answer.Answer.TheVariants as answer

and_left : (a b : Bool) → (a && b) ≡ true → a ≡ true
and_left true b h = refl
and_left false b h = h

and_right : (a b : Bool) → (a && b) ≡ true → b ≡ true
and_right true b h = h
and_right false b h = absurd (let x : ⊥ = cc in x)

one_literal : (b : Bool) → ((b || false) && true) ≡ b
one_literal true = refl
one_literal false = refl

and_assoc : (a b c : Bool) → ((a && b) && c) ≡ (a && (b && c))
and_assoc true b c = refl
and_assoc false b c = refl

clauses-append : (v : ℕ → Bool) (xs ys : List (List Lit)) → clauses_true v (xs ++ ys) ≡ (clauses_true v xs && clauses_true v ys)
clauses-append v [] ys = refl
clauses-append v (x ∷ xs) ys = ap (λ b. clause_true v x && b) (clauses-append v xs ys) ∙ sym (and_assoc (clause_true v x) (clauses_true v xs) (clauses_true v ys))

clauses-last : (v : ℕ → Bool) (body : List (List Lit)) (l : Lit) → clauses_true v (body ++ (l ∷ []) ∷ []) ≡ (clauses_true v body && lit_true v l)
clauses-last v body l = clauses-append v body ((l ∷ []) ∷ []) ∙ ap (λ b. clauses_true v body && b) (one_literal (lit_true v l))

-- the first values of a model are those of the gates that have these variables
front-from : (number : List ℕ) (places : List Bool) (k : ℕ) (order : List GateId) → ((j : ℕ) (a : GateId) → slice_get order j ≡ Some a → get_or number a.index 0 ≡ (k + j) + 1)
    → k + length order ≤ length places → take (length order) (drop k places) ≡ map (λ a. meaning.values_of places (get_or number a.index 0)) order
front-from number places k [] h fits = refl
front-from number places k (a ∷ rest) h fits =
    let here : get_or number a.index 0 ≡ k + 1 = h 0 a refl ∙ (omega arith) in
    let at : (k + 1) - 1 ≡ k = omega arith in
    let head : meaning.values_of places (get_or number a.index 0) ≡ get_or places k false = ap (λ x. get_or places (x - 1) false) here ∙ ap (λ x. get_or places x false) at in
    let tail = front-from number places (k + 1) rest (λ j b e. h (suc j) b e ∙ (omega arith)) (omega arith) in
    rw (drop_more places k false (let lt : k < length places = omega arith in lt)) (rw head (ap (λ zs. get_or places k false ∷ zs) tail))

-- the output is a test of the values of these inputs, and they are all
pub record IsTestOf (gates : List Gate) (out : GateId) (order : List GateId) (test : List Bool → Bool) : Type 0 where
  pub named : AreAllNamed gates order
  pub says : (v : ℕ → Bool) → gate_at v gates out ≡ test (map (λ a. v a.index) order)

pub asks : (gates : List Gate) (out : GateId) (order : List GateId) (test : List Bool → Bool) (cnf : Cnf) → IsTestOf gates out order test → Encodes gates out order cnf → HasOneModelAFront gates order cnf
    → cnf.front ≤ cnf.variables → Asks test (length order) cnf
asks gates out order test cnf t e fronts within = record {
  body = e.body;
  literal = e.literal;
  clauses = e.clauses;
  front = e.front;
  one = λ digits len.
      subst (λ n. (places : List Bool) × IsModel cnf.variables e.body places × (take n places ≡ digits)
      × ((others : List Bool) → IsModel cnf.variables e.body others → take n others ≡ digits → others ≡ places))
      e.front (fronts t.named e.body (e.literal ∷ []) e.clauses digits (len ∙ sym e.front));
  right = λ places m.
      let fits : length order ≤ length places = omega (arith, m.0, e.front, within) in
      let front = front-from e.number places 0 order (λ j a at. e.ordered j a at ∙ (omega arith)) (omega arith) in
      e.output (λ i. meaning.values_of places (get_or e.number i 0)) places m (λ i at has. refl) ∙ (t.says (λ i. meaning.values_of places (get_or e.number i 0)) ∙ ap test (sym front));
}

module _ (test : List Bool → Bool) (count : ℕ) (cnf : Cnf) (q : Asks test count cnf) where
  model-split : (places : List Bool) → IsModel cnf.variables cnf.clauses places → IsModel cnf.variables q.body places × (test (take count places) ≡ true)
  model-split places m =
      let v = meaning.values_of places in
      let all : (clauses_true v q.body && lit_true v q.literal) ≡ true = sym (clauses-last v q.body q.literal) ∙ (ap (clauses_true v) (sym q.clauses) ∙ m.1) in
      let body : IsModel cnf.variables q.body places = (m.0, and_left (clauses_true v q.body) (lit_true v q.literal) all) in
      (body, sym (q.right places body) ∙ and_right (clauses_true v q.body) (lit_true v q.literal) all)

  model-join : (places : List Bool) → IsModel cnf.variables q.body places → test (take count places) ≡ true → IsModel cnf.variables cnf.clauses places
  model-join places m passes =
      let v = meaning.values_of places in
      (m.0, ap (clauses_true v) q.clauses ∙ (clauses-last v q.body q.literal ∙ and_from (clauses_true v q.body) (lit_true v q.literal) m.1 (q.right places m ∙ passes)))

  less-up : (others places o : List Bool) → take count others ≡ o → IsLess count o (take count places) → IsLess count others places
  less-up others places o is less =
      let at = λ (c : List Bool) (i : ℕ) (lt : i < count). get_or-take count c i false lt in
      record {
        place = less.place;
        within = less.within;
        zero = sym (at others less.place less.within) ∙ (ap (λ c. get_or c less.place false) is ∙ less.zero);
        one = sym (at places less.place less.within) ∙ less.one;
        before = λ i lt.
            let lower : i < count = omega (arith, lt, less.within) in
            sym (at others i lower) ∙ (ap (λ c. get_or c i false) is ∙ (less.before i lt ∙ at places i lower));
      }

  -- the prefix of a least model is the least that passes
  pub least-front : (places digits : List Bool) → cnf.front ≤ cnf.variables → IsLeast cnf.variables cnf.front cnf.clauses places → digits ≡ take count places → IsLeastOf test count digits
  least-front places digits within h is = rw is (
      let m = model-split places h.model in
      record {
        long = length-take-le count places (omega (arith, q.front, within, h.model.0));
        passes = m.1;
        least = λ others len passes less.
            let found = q.one others len in
            let model = model-join found.0 found.1 (ap test found.2 ∙ passes) in
            h.least found.0 model (subst (λ n. IsLess n found.0 places) (sym q.front) (less-up found.0 places others found.2 less));
      })

  -- where the clauses are refuted none passes
  pub none-pass : (log : List Step) → Refutes cnf.clauses log → NonePass test count
  none-pass log h digits len passes =
      let found = q.one digits len in
      let model = model-join found.0 found.1 (ap test found.2 ∙ passes) in
      refuted-false (meaning.values_of found.0) cnf.clauses log h model.1

-- clauses that have a model are not refuted
pub model-uses : (variables front : ℕ) (clauses : List (List Lit)) (limit : Option ℕ) (places : List Bool) (a : Answer) → IsModel variables clauses places → IsAnswer variables front clauses limit a → UsesEachStepOf clauses a
model-uses variables front clauses limit places (answer.Sat least) model is = tt
model-uses variables front clauses limit places (answer.Unsat log) model is = absurd (refuted-false (meaning.values_of places) clauses log is.0 model.1)
model-uses variables front clauses limit places (answer.Spent log) model is = tt
