-- Terms are compared index by index.
use Rattle.pair_questions.proofs.Common.{ℕ, ◌≡◌, ◌<◌, ◌+◌, inl, inr, List, length, map, take, get_or, Contains, ap, sym, subst, ◌∙◌, arith, refl, false≢true, take_all, Contains-push_cases, TermId, TapeTerms, map-at, map-length, map-take}
use Rattle.std.specs.Bool.{Decides}
use Rattle.std.proofs.lemmas.Bool.Decides.{Decides-eqb}
use Rattle.std.proofs.lemmas.Slice.Eq.{slice_eq-Decides}
use Rattle.bv_terms.specs.contracts.term.TermIdPartialEq.TheImpl.{eq-value}
use Rattle.pair_questions.proofs.candidates.has_tape.Goals as goal

id_decides : (a b : TermId) → Decides (eq-value.it a b) (a ≡ b)
id_decides a b =
    let index = Decides-eqb a.index b.index in
    let F : ℕ → TermId = λ i. record { index = i } in
    ((λ h. ap F (index.0 h)), (λ e. index.1 (ap (λ (x : TermId). x.index) e)))

abbrev words_in : List TapeTerms → List (List TermId)
words_in tapes = map (λ (tape : TapeTerms). tape.words) tapes

found : (tapes : List TapeTerms) (i : ℕ) (tape : TapeTerms) (words : List TermId) → i < length tapes → tape ≡ get_or tapes i tape → tape.words ≡ words → Contains (words_in tapes) words
found tapes i tape words lt is e =
    let n = map-length (λ (tape : TapeTerms). tape.words) tapes in
    (i, omega arith, map-at (λ (tape : TapeTerms). tape.words) tapes i tape words lt is ∙ e)

not_yet : (tapes : List TapeTerms) (i : ℕ) (tape : TapeTerms) (words : List TermId) → i < length tapes → tape ≡ get_or tapes i tape → (Contains (words_in (take i tapes)) words → ⊥) → (tape.words ≡ words → ⊥)
    → Contains (words_in (take (i + 1) tapes)) words → ⊥
not_yet tapes i tape words lt is before here c =
    let pushed = subst (λ (xs : List (List TermId)). Contains xs words) (map-take (λ (tape : TapeTerms). tape.words) tapes i tape lt is) c in
    elim (Contains-push_cases (words_in (take i tapes)) tape.words words pushed) [
      | inl h ↦ before h
      | inr e ↦ here e
    ]

pub returns-then-eq : goal.returns-then-eq
returns-then-eq c =
    let same = slice_eq-Decides id_decides c.as_slice.result.now c.args.words.now c.eq.result c.eq.ensures in
    let there = found c.args.tapes.now c.loop-tape.tape-index c.tape-item.result c.args.words.now c.loop-tape-test.true c.tape-item.is (sym c.as_slice.ensures ∙ same.0 c.if-eq.true) in
    ((λ t. there), (λ h. refl))

pub returns : goal.returns
returns c =
    let whole = take_all c.loop-tape.tape-index c.args.tapes.now c.loop-tape-test.false in
    ((λ t. absurd (false≢true t)), (λ h. absurd (c.loop-tape.invariant (subst (λ (ts : List TapeTerms). Contains (words_in ts) c.args.words.now) (sym whole) h))))

pub loop-tape-preserved : goal.loop-tape-preserved
loop-tape-preserved c =
    let same = slice_eq-Decides id_decides c.as_slice.result.now c.args.words.now c.eq.result c.eq.ensures in
    not_yet c.args.tapes.now c.loop-tape.tape-index c.tape-item.result c.args.words.now c.loop-tape-test.true c.tape-item.is c.loop-tape.invariant
    (λ e. false≢true (sym c.if-eq.false ∙ same.1 (c.as_slice.ensures ∙ e)))
