-- The words of a candidate, and of a known tape.
use Rattle.pair_questions.proofs.Common.{ℕ, zero, suc, ◌≡◌, ◌<◌, ◌≤◌, ◌+◌, List, [], ◌∷◌, ◌++◌, length, take, get_or, ap, sym, subst, refl, ◌∙◌, arith, take_more, words_of, TermId, Term, IsTerm, Keeps, Makes, term_at, AreWords, words_at, each-at, each-push, map-at, map-length, map-push, term-later, words-later, words_at-later, Candidate, function_of, slice_index}
use Rattle.std.proofs.lemmas.List.FromFn.{map-range_with_len_more}

pub are_more : (terms : List Term) (tape more : List TermId) (word : TermId) → AreWords terms tape → IsTerm terms 64 word → more ≡ tape ++ word ∷ [] → AreWords terms more
are_more terms tape more word h w e = subst (AreWords terms) (sym e) (each-push (IsTerm terms 64) tape word h w)

-- ---- a word of a list

past : (xs : List ℕ) (i : ℕ) → length xs ≤ i → slice_index xs i ≡ 0
past [] i le = refl
past (x ∷ xs) zero le = absurd (omega (arith, le))
past (x ∷ xs) (suc i) le = past xs i (omega (arith, le))

pub word_there : (terms : List Term) (words : List TermId) (i : ℕ) (id : TermId) → i < length words → id ≡ get_or words i id → AreWords terms words → Makes terms id 64 (λ v. slice_index (words_at v terms words) i)
word_there terms words i id lt e are =
    let is = each-at (IsTerm terms 64) words i id are lt e in
    record { within = is.within; wide = is.wide; says = λ v. sym (map-at (term_at v terms) words i id 0 lt e) }

pub no_word : (terms : List Term) (words : List TermId) (i : ℕ) (zero_word : TermId) → length words ≤ i → Makes terms zero_word 64 (λ _. 0) → Makes terms zero_word 64 (λ v. slice_index (words_at v terms words) i)
no_word terms words i zero_word le z = record {
  within = z.within;
  wide = z.wide;
  says = λ v. let n = map-length (term_at v terms) words in z.says v ∙ sym (past (words_at v terms words) i (omega (arith, n, le)));
}

-- ---- tapes that grow

pub zero_later : (old new : List Term) (zero_word : TermId) → Keeps old new → Makes old zero_word 64 (λ _. 0) → Makes new zero_word 64 (λ _. 0)
zero_later old new zero_word k z =
    let is = words-later old new k (zero_word ∷ []) (record { within = z.within; wide = z.wide }, tt) in
    record { within = is.0.within; wide = is.0.wide; says = λ v. term-later old new k v zero_word z.within ∙ z.says v }

pub candidate_more : (old mid new : List Term) (numbers words tape more : List TermId) (c : Candidate) (place : ℕ) (word : TermId) → Keeps old mid → Keeps mid new → AreWords old numbers → AreWords old words → AreWords mid tape
    → Makes new word 64 (λ v. function_of (words_at v mid numbers) (words_at v mid words) c place)
    → ((v : ℕ → ℕ → ℕ) → words_at v mid tape ≡ words_of place (function_of (words_at v old numbers) (words_at v old words) c)) → more ≡ tape ++ word ∷ []
    → (v : ℕ → ℕ → ℕ) → words_at v new more ≡ words_of (place + 1) (function_of (words_at v old numbers) (words_at v old words) c)
candidate_more old mid new numbers words tape more c place word k1 k2 is_numbers is_words are made so e v =
    let f = function_of (words_at v old numbers) (words_at v old words) c in
    let same : term_at v new word ≡ f place =
    made.says v ∙ ap (λ (ns : List ℕ). function_of ns (words_at v mid words) c place) (words_at-later old mid k1 v numbers is_numbers)
    ∙ ap (λ (ws : List ℕ). function_of (words_at v old numbers) ws c place) (words_at-later old mid k1 v words is_words) in
    let start : 0 + place ≡ place = omega arith in
    ap (words_at v new) e ∙ (map-push (term_at v new) tape word ∙ (rw (words_at-later mid new k2 v tape are, so v, same) (sym (map-range_with_len_more f 0 place place start))))

pub known_more : (old new : List Term) (tape more : List TermId) (word : TermId) (words : List ℕ) (i d : ℕ) → Keeps old new → AreWords old tape → Makes new word 64 (λ _. get_or words i d) → i < length words
    → ((v : ℕ → ℕ → ℕ) → words_at v old tape ≡ take i words) → more ≡ tape ++ word ∷ [] → (v : ℕ → ℕ → ℕ) → words_at v new more ≡ take (i + 1) words
known_more old new tape more word words i d k are made lt so e v =
    ap (words_at v new) e ∙ (map-push (term_at v new) tape word ∙ (rw (words_at-later old new k v tape are, so v, made.says v) (sym (take_more words i d lt))))
