-- What decides one fact decides another.
use Rattle.refine_terms.proofs.Common.{ℕ, ◌≡◌, ◌≤◌, ◌↔◌, ◌⊎◌, inl, inr, Bool, true, ◌&&◌, ◌||◌, nat_le, List, sym, subst, ◌∙◌, TermId, Term, Keeps, Tests, IsTerm, bit_at, bit-later, is_term-later, keeps_trans, Decides, and_from, or_left, or_right, or_cases}
use Rattle.refine_terms.proofs.Truths.{and_left, and_right, and_says, at_most_says}

pub tested : (new : List Term) (id : TermId) (test : (ℕ → ℕ → ℕ) → Bool) (fact : (ℕ → ℕ → ℕ) → Type 0) → Tests new id test → ((v : ℕ → ℕ → ℕ) → (test v ≡ true) ↔ fact v) → Decides new id fact
tested new id test fact t same = (
  record { within = t.within; wide = t.wide },
  λ v. ((λ e. (same v).0 (sym (t.says v) ∙ e)), (λ f. t.says v ∙ (same v).1 f)),
)

pub as_fact : (new : List Term) (id : TermId) (fact other : (ℕ → ℕ → ℕ) → Type 0) → Decides new id fact → ((v : ℕ → ℕ → ℕ) → fact v ↔ other v) → Decides new id other
as_fact new id fact other d same = (d.0, λ v. ((λ e. (same v).0 ((d.1 v).0 e)), (λ f. (d.1 v).1 ((same v).1 f))))

-- a fact about what is equal
pub at_equal : {A : Type 0} (new : List Term) (id : TermId) (P : A → Type 0) (f g : (ℕ → ℕ → ℕ) → A) → Decides new id (λ v. P (f v)) → ((v : ℕ → ℕ → ℕ) → f v ≡ g v) → Decides new id (λ v. P (g v))
at_equal new id P f g d same = as_fact new id (λ v. P (f v)) (λ v. P (g v)) d (λ v. ((λ p. subst P (same v) p), (λ p. subst P (sym (same v)) p)))

pub decides-later : (old new : List Term) → Keeps old new → (id : TermId) (fact : (ℕ → ℕ → ℕ) → Type 0) → Decides old id fact → Decides new id fact
decides-later old new k id fact d = (
  is_term-later old new k 1 id d.0,
  λ v. ((λ e. (d.1 v).0 (sym (bit-later old new k v id d.0.within) ∙ e)), (λ f. bit-later old new k v id d.0.within ∙ (d.1 v).1 f)),
)

pub both_decide : (old new : List Term) (a b id : TermId) (F G : (ℕ → ℕ → ℕ) → Type 0) → Decides old a F → Decides old b G → Tests new id (λ v. bit_at v old a && bit_at v old b) → Decides new id (λ v. F v × G v)
both_decide old new a b id F G p q t = (
  record { within = t.within; wide = t.wide },
  λ v. (
    (λ e. let h : (bit_at v old a && bit_at v old b) ≡ true = sym (t.says v) ∙ e in ((p.1 v).0 (and_left (bit_at v old a) (bit_at v old b) h), (q.1 v).0 (and_right (bit_at v old a) (bit_at v old b) h))),
    (λ f. t.says v ∙ and_from (bit_at v old a) (bit_at v old b) ((p.1 v).1 f.0) ((q.1 v).1 f.1)),
  ),
)

-- facts in a row, each tested after the one before it
pub three_decide : (a b c d e : List Term) (one two three rest id : TermId) (F G H : (ℕ → ℕ → ℕ) → Type 0) → Keeps a b → Keeps b c → Keeps c d → Decides a one F → Decides b two G → Decides c three H
    → Tests d rest (λ v. bit_at v c two && bit_at v c three) → Tests e id (λ v. bit_at v d one && bit_at v d rest) → Decides e id (λ v. F v × (G v × H v))
three_decide a b c d e one two three rest id F G H kb kc kd p q r t t' =
    both_decide d e one rest id F (λ v. G v × H v) (decides-later a d (keeps_trans a c d (keeps_trans a b c kb kc) kd) one F p) (both_decide c d two three rest G H (decides-later b c kc two G q) r t) t'

pub four_decide : (a b c d e : List Term) (one two three four id : TermId) (F G H I : (ℕ → ℕ → ℕ) → Type 0) → Keeps a b → Keeps b c → Keeps c d
    → Decides a one F → Decides b two G → Decides c three H → Decides d four I
    → Tests e id (λ v. bit_at v d one && (bit_at v d two && (bit_at v d three && bit_at v d four))) → Decides e id (λ v. F v × (G v × (H v × I v)))
four_decide a b c d e one two three four id F G H I kb kc kd p q r s t =
    let k_bd = keeps_trans b c d kc kd in
    let first = decides-later a d (keeps_trans a b d kb k_bd) one F p in
    let second = decides-later b d k_bd two G q in
    let third = decides-later c d kd three H r in
    tested e id (λ v. bit_at v d one && (bit_at v d two && (bit_at v d three && bit_at v d four))) (λ v. F v × (G v × (H v × I v))) t
    (λ v.
    and_says (bit_at v d one) (bit_at v d two && (bit_at v d three && bit_at v d four)) (F v) (G v × (H v × I v)) (first.1 v)
    (and_says (bit_at v d two) (bit_at v d three && bit_at v d four) (G v) (H v × I v) (second.1 v)
    (and_says (bit_at v d three) (bit_at v d four) (H v) (I v) (third.1 v) (s.1 v))))

pub either_decides : (old new : List Term) (a b id : TermId) (F G : (ℕ → ℕ → ℕ) → Type 0) → Decides old a F → Decides old b G → Tests new id (λ v. bit_at v old a || bit_at v old b) → Decides new id (λ v. F v ⊎ G v)
either_decides old new a b id F G p q t = (
  record { within = t.within; wide = t.wide },
  λ v. (
    (λ e.
        elim (or_cases (bit_at v old a) (bit_at v old b) (sym (t.says v) ∙ e)) as (λ _. F v ⊎ G v) [
          | inl h ↦ inl ((p.1 v).0 h)
          | inr h ↦ inr ((q.1 v).0 h)
        ]),
    (λ f. t.says v ∙ one v f),
  ),
)
  where
    one : (v : ℕ → ℕ → ℕ) → F v ⊎ G v → (bit_at v old a || bit_at v old b) ≡ true
    one v (inl h) = or_left (bit_at v old a) (bit_at v old b) ((p.1 v).1 h)
    one v (inr h) = or_right (bit_at v old a) (bit_at v old b) ((q.1 v).1 h)

pub at_most_decides : (new : List Term) (id : TermId) (x : (ℕ → ℕ → ℕ) → ℕ) (n : ℕ) → Tests new id (λ v. nat_le (x v) n) → Decides new id (λ v. x v ≤ n)
at_most_decides new id x n t = tested new id (λ v. nat_le (x v) n) (λ v. x v ≤ n) t (λ v. at_most_says (x v) n)

-- ---- one more of a row

-- those that are tested so far, and the rest, are the whole
pub row_more : (a b c : List Term) (all one next : TermId) (F Rest Next Whole : (ℕ → ℕ → ℕ) → Type 0) → Keeps a b → IsTerm a 1 all
    → ((v : ℕ → ℕ → ℕ) → ((bit_at v a all ≡ true) × Rest v) ↔ Whole v) → Decides b one F → Tests c next (λ v. bit_at v b all && bit_at v b one)
    → ((v : ℕ → ℕ → ℕ) → Rest v ↔ (F v × Next v)) → (v : ℕ → ℕ → ℕ) → ((bit_at v c next ≡ true) × Next v) ↔ Whole v
row_more a b c all one next F Rest Next Whole k h so d t more v =
    let was : bit_at v b all ≡ bit_at v a all = bit-later a b k v all h.within in (
      (λ p.
          let both : (bit_at v b all && bit_at v b one) ≡ true = sym (t.says v) ∙ p.0 in
          (so v).0 (sym was ∙ and_left (bit_at v b all) (bit_at v b one) both, (more v).1 ((d.1 v).0 (and_right (bit_at v b all) (bit_at v b one) both), p.1))),
      (λ w.
          let all_of = (so v).1 w in
          let parts = (more v).0 all_of.1 in
          (t.says v ∙ and_from (bit_at v b all) (bit_at v b one) (was ∙ all_of.0) ((d.1 v).1 parts.0), parts.1)),
    )

pub row_starts : (a : List Term) (all : TermId) (Whole : (ℕ → ℕ → ℕ) → Type 0) → Tests a all (λ _. true) → (v : ℕ → ℕ → ℕ) → ((bit_at v a all ≡ true) × Whole v) ↔ Whole v
row_starts a all Whole t v = ((λ p. p.1), (λ w. (t.says v, w)))

pub row_ends : (a : List Term) (all : TermId) (Rest Whole : (ℕ → ℕ → ℕ) → Type 0) → IsTerm a 1 all → ((v : ℕ → ℕ → ℕ) → ((bit_at v a all ≡ true) × Rest v) ↔ Whole v) → ((v : ℕ → ℕ → ℕ) → Rest v) → Decides a all Whole
row_ends a all Rest Whole h so rest = (h, λ v. ((λ e. (so v).0 (e, rest v)), (λ w. ((so v).1 w).0)))
