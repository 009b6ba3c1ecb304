-- The word at an index, index by index.
use Rattle.run_terms.proofs.Common.{ℕ, zero, suc, ◌≡◌, ◌<◌, ◌≤◌, ◌+◌, cond, List, [], ◌∷◌, length, take, get_or, slice_index, nat_eq, add-one, refl, ap, sym, ◌∙◌, arith, take_all, eqb-suc-zero, eqb-zero-suc, eqb-suc-suc, width_of, tree_in, keeps_trans, each-at, map-at, map-length, term-later, is_term-later, TermId, Term, Keeps, IsTerm, Makes, Tests, bit_at, term_at, AreWords, words_at}

pub take_pick : (xs : List ℕ) (i r x : ℕ) → i < length xs → get_or xs i 0 ≡ x → get_or (take (suc i) xs) r 0 ≡ cond (nat_eq r i) x (get_or (take i xs) r 0)
take_pick [] i r x lt e = absurd (omega arith)
take_pick (y ∷ ys) zero zero x lt e = e
take_pick (y ∷ ys) zero (suc r) x lt e = rw (eqb-suc-zero r) refl
take_pick (y ∷ ys) (suc i) zero x lt e = rw (eqb-zero-suc i) refl
take_pick (y ∷ ys) (suc i) (suc r) x lt e = rw (eqb-suc-suc r i) (take_pick ys i r x (omega arith) e)

pub word_more : (old a b c d : List Term) (tape : List TermId) (i : ℕ) (place number here next word picked : TermId)
    → AreWords old tape → IsTerm old 64 place → i < length tape → next ≡ get_or tape i next
    → Keeps old a → Makes a word 64 (λ v. slice_index (take i (words_at v old tape)) (term_at v old place))
    → Makes b number 64 (λ _. i) → Keeps a b
    → Tests c here (λ v. nat_eq (term_at v b place) (term_at v b number)) → Keeps b c
    → Makes d picked (width_of (tree_in c next)) (λ v. cond (bit_at v c here) (term_at v c next) (term_at v c word)) → Keeps c d
    → Keeps old d × Makes d picked 64 (λ v. slice_index (take (i + 1) (words_at v old tape)) (term_at v old place))
word_more old a b c d tape i place number here next word picked words at lt is k0 m0 m1 k1 m2 k2 m3 k3 =
    let kb = keeps_trans old a b k0 k1 in
    let kc = keeps_trans old b c kb k2 in
    let kac = keeps_trans a b c k1 k2 in
    let item = each-at (IsTerm old 64) tape i next words lt is in (
      keeps_trans old c d kc k3,
      record {
        within = m3.within;
        wide = m3.wide ∙ (is_term-later old c kc 64 next item).wide;
        says = λ v.
            let picked_at = take_pick (words_at v old tape) i (term_at v old place) (term_at v old next) (omega (arith, map-length (term_at v old) tape)) (map-at (term_at v old) tape i next 0 lt is) in
            m3.says v ∙ rw (m2.says v, term-later old b kb v place at.within, m1.says v, term-later old c kc v next item.within, term-later a c kac v word m0.within, m0.says v, add-one) (sym picked_at);
      },
    )

pub take_whole : (old new : List Term) (tape : List TermId) (i : ℕ) (place word : TermId) → length tape ≤ i
    → Makes new word 64 (λ v. slice_index (take i (words_at v old tape)) (term_at v old place)) → Makes new word 64 (λ v. slice_index (words_at v old tape) (term_at v old place))
take_whole old new tape i place word long m = record {
  within = m.within;
  wide = m.wide;
  says = λ v. m.says v ∙ ap (λ ws. get_or ws (term_at v old place) 0) (take_all i (words_at v old tape) (omega (arith, map-length (term_at v old) tape)));
}
