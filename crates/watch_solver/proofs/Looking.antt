-- The look at a clause that a watch names.
use Rattle.watch_solver.proofs.Common.{ℕ, ◌≡◌, ◌≤◌, ◌+◌, inl, inr, List, Some, slice_get, get_or, take, length, arith, sym, subst, ◌∙◌, take_all, get_or_from_slice_get, Has, clause_numbered, Lit, opposite_of, Entry, FalseBut, IsFalse, Stands, IsFalseAt, IsUnitAt, AreInRange, among-numbered, unassigned-from, Code, Watch, Pair, lit_of, IsFree, IsWatch, IsMove, IsOneOf, IsOther}
use Rattle.watch_solver.proofs.Keeping.{get-numbered}

module _ (clauses : List (List Lit)) (pairs : List Pair) (trail : List Entry) (f : Lit) (w : Watch) (watch : IsWatch clauses pairs w) (d : Pair) (second : Code)
    (other : IsOther (get_or pairs w.clause d) f (Some second)) (c : List Lit) (k : ℕ) (is : k ≡ w.clause) (at : Some c ≡ clause_numbered clauses (k + 1)) where
  at_number : clause_numbered clauses (w.clause + 1) ≡ Some c
  at_number = subst (λ (n : ℕ). clause_numbered clauses (n + 1) ≡ Some c) is (sym at)

  at_index : slice_get clauses w.clause ≡ Some c
  at_index = get-numbered clauses w.clause c at_number

  same : watch.clause ≡ c
  same = let there = watch.at in let here = at_index in cc

  pair_same : get_or pairs w.clause d ≡ watch.pair
  pair_same = get_or_from_slice_get pairs w.clause watch.pair d watch.pair_at

  -- what is known of the clause's own pair
  other_own : IsOther watch.pair f (Some second)
  other_own = subst (λ (p : Pair). IsOther p f (Some second)) pair_same other

  one : IsOneOf watch.pair (lit_of second)
  one = elim other_own [ inl h ↦ inr h.1 | inr h ↦ inl h.1 ]

  has_second : Has c (lit_of second)
  has_second = elim one [
    | inl e ↦ subst (λ (x : List Lit). Has x (lit_of second)) same (subst (λ (l : Lit). Has watch.clause l) e watch.is.first)
    | inr e ↦ subst (λ (x : List Lit). Has x (lit_of second)) same (subst (λ (l : Lit). Has watch.clause l) e watch.is.second)
  ]

  apart : lit_of second ≡ f → ⊥
  apart e = elim other_own [ inl h ↦ watch.is.apart (h.0 ∙ sym (h.1 ∙ e)) | inr h ↦ watch.is.apart (h.1 ∙ (e ∙ sym h.0)) ]

  pub looked-range : (variables : ℕ) → AreInRange variables clauses → (l : Lit) → Has c l → l.variable ≤ variables
  looked-range variables range l has = (range c (among-numbered clauses (w.clause + 1) c at_number) l has).1

  module _ (m : ℕ) (whole : m ≡ length trail) (out : Lit) (out_is : out ≡ lit_of second) where
    all_of_it : take m trail ≡ trail
    all_of_it = take_all m trail (omega (arith, whole))

    pub looked-move : (l : Lit) (first : Code) → lit_of first ≡ l → IsFree (take m trail) c out (Some l) → IsMove clauses pairs trail f w.clause (record { first = first; second = second })
    looked-move l first e free = record {
      clause = c;
      old = watch.pair;
      at = at_index;
      old_at = watch.pair_at;
      is = record { first = subst (λ (x : Lit). Has c x) (sym e) free.0; second = has_second; apart = λ g. free.1 (sym e ∙ (g ∙ sym out_is)) };
      free = λ g. free.2 (subst (λ (es : List Entry). IsFalse es l) (sym all_of_it) (subst (λ (x : Lit). IsFalse trail x) e g));
      other = one;
      apart = apart;
    }

    but : FalseBut (take m trail) c out → FalseBut trail c out
    but free = subst (λ (es : List Entry). FalseBut es c out) all_of_it free

    pub looked-false : FalseBut (take m trail) c out → Stands trail (opposite_of out) → IsFalseAt clauses trail (w.clause + 1)
    looked-false free here = record {
      clause = c;
      at = at_number;
      all = λ l has. elim (but free l has) [ inl e ↦ subst (λ (x : Lit). IsFalse trail x) (sym e) here | inr g ↦ g ];
    }

    pub looked-unit : FalseBut (take m trail) c out → (Stands trail out → ⊥) → (Stands trail (opposite_of out) → ⊥) → IsUnitAt clauses trail (w.clause + 1) out
    looked-unit free a b = record {
      clause = c;
      at = at_number;
      unit = record { has = subst (λ (x : Lit). Has c x) (sym out_is) has_second; others = but free; free = unassigned-from trail out a b };
    }
