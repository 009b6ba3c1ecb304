-- A choice is taken.
use Rattle.run_terms.proofs.Common.{ℕ, zero, suc, ◌≡◌, ◌<◌, ◌≤◌, ◌+◌, ◌%◌, ◌^◌, true, false, cond, not, ◌&&◌, ◌||◌, List, [], ◌∷◌, ◌++◌, length, map, take, nat_eq, nat_le, slice_index, refl, ap, sym, subst, ◌∙◌, arith, length-append, and-true, and_assoc, nat_tests, Num, Ptr, block_number, given_or_null, next_word, width_of, AreInRange, tree_in, number_at, keeps_trans, bit-later, term-later, makes-later, is_term-later, words_at-later, small_mod, each-take, Machine, TermId, Term, Keeps, IsTerm, Makes, Tests, bit_at, term_at, SymValue, Reading, value_at, AreWords, words_at, Tally, RunState, Counts, IsState, IsTally, MatchesState, Scene, Sees, Visit, sight, fits_from}
use Rattle.run_terms.proofs.Cutting.{narrow}
use Rattle.run_terms.proofs.Pointing.{chosen_block, names_given}

abbrev pub chosen_number : List ℕ → Machine → ℕ → ℕ
chosen_number tape m n = next_word tape m 0 % 2 ^ n

equal_self : (n : ℕ) → nat_eq n n ≡ true
equal_self n = grind (arith, nat_tests)

fits-append : (tape : List ℕ) (k : ℕ) (cs ds : List ℕ) → fits_from tape k (cs ++ ds) ≡ (fits_from tape k cs && fits_from tape (k + length cs) ds)
fits-append tape k [] ds = let e : k ≡ k + 0 = omega arith in ap (λ n. fits_from tape n ds) e
fits-append tape k (c ∷ cs) ds =
    let e : (k + 1) + length cs ≡ k + suc (length cs) = omega arith in
    ap (λ b. nat_eq (slice_index tape k) c && b) (fits-append tape (k + 1) cs ds ∙ ap (λ n. fits_from tape (k + 1) cs && fits_from tape n ds) e)
    ∙ sym (and_assoc (nat_eq (slice_index tape k) c) (fits_from tape (k + 1) cs) (fits_from tape (k + suc (length cs)) ds))

pub fits-push : (tape : List ℕ) (k : ℕ) (cs : List ℕ) (c : ℕ) → fits_from tape k (cs ++ c ∷ []) ≡ (fits_from tape k cs && nat_eq (slice_index tape (k + length cs)) c)
fits-push tape k cs c = fits-append tape k cs (c ∷ []) ∙ ap (λ b. fits_from tape k cs && b) (and-true (nat_eq (slice_index tape (k + length cs)) c))

near_index : (f : TermId → ℕ) (xs : List TermId) (n i : ℕ) → i < n → slice_index (map f (take n xs)) i ≡ slice_index (map f xs) i
near_index f [] zero i lt = refl
near_index f [] (suc n) i lt = refl
near_index f (x ∷ xs) zero i lt = absurd (omega arith)
near_index f (x ∷ xs) (suc n) zero lt = refl
near_index f (x ∷ xs) (suc n) (suc i) lt = near_index f xs n i (omega arith)

-- ---- a number

module _ (old new : List Term) (tape near : List TermId) (number read fits oread ofits taken : TermId) (n words_bound : ℕ) where
  abbrev word : (ℕ → ℕ → ℕ) → ℕ
  word v = slice_index (words_at v old near) (term_at v old oread)

  pub choice_taken : n ≤ 64 → words_bound + 1 < 2 ^ 64 → near ≡ take (words_bound + 1) tape
      → Makes new number 64 (λ v. word v % 2 ^ n % 2 ^ 64)
      → Makes new read 64 (λ v. cond (bit_at v old taken) ((term_at v old oread + 1) % 2 ^ 64) (term_at v old oread))
      → Tests new fits (λ v. bit_at v old ofits && (not (bit_at v old taken) || nat_eq (word v) (word v % 2 ^ n % 2 ^ 64)))
      → (g : Scene) (m : Machine) → Sees g old tape → bit_at g.v old taken ≡ true → length m.taken ≤ words_bound → Counts g old (record { read = oread; fits = ofits }) m.taken
      → Counts g new (record { read = read; fits = fits }) (m.taken ++ chosen_number g.tape m n ∷ []) × (term_at g.v new number ≡ chosen_number g.tape m n)
  choice_taken small room is mn mr tf g m sees held within k =
      let r = length m.taken in
      let c = chosen_number g.tape m n in
      let here : r ≡ r + 0 = omega arith in
      let w : word g.v ≡ next_word g.tape m 0 =
      ap (λ i. slice_index (words_at g.v old near) i) k.read
      ∙ (ap (λ (ns : List TermId). slice_index (words_at g.v old ns) r) is
      ∙ (near_index (term_at g.v old) tape (words_bound + 1) r (omega (arith, within)) ∙ (ap (λ ws. slice_index ws r) sees ∙ ap (slice_index g.tape) here))) in
      let whole : word g.v % 2 ^ n % 2 ^ 64 ≡ c = ap (λ x. x % 2 ^ n % 2 ^ 64) w ∙ narrow (next_word g.tape m 0) n small in
      let e_read : cond (bit_at g.v old taken) ((term_at g.v old oread + 1) % 2 ^ 64) (term_at g.v old oread) ≡ (r + 1) % 2 ^ 64 = rw (held, k.read) refl in
      let count : (r + 1) % 2 ^ 64 ≡ length (m.taken ++ c ∷ []) = small_mod (r + 1) (2 ^ 64) (omega (arith, room, within)) ∙ omega (arith, length-append m.taken (c ∷ [])) in
      let place : 0 + r ≡ r + 0 = omega arith in
      let e_fits : (bit_at g.v old ofits && (not (bit_at g.v old taken) || nat_eq (word g.v) (word g.v % 2 ^ n % 2 ^ 64))) ≡ (fits_from g.tape 0 m.taken && nat_eq (next_word g.tape m 0) c) =
      rw (whole, w, held, k.fits) refl in (
        record {
          read = mr.says g.v ∙ (e_read ∙ count);
          fits = tf.says g.v ∙ (e_fits ∙ (ap (λ i. fits_from g.tape 0 m.taken && nat_eq (slice_index g.tape i) c) (sym place) ∙ sym (fits-push g.tape 0 m.taken c)));
        },
        mn.says g.v ∙ whole,
      )

-- the word after those that were read, cut to the width, and the tally after it
module _ (old a b d e f : List Term) (near : List TermId) (tally : Tally) (taken word low number : TermId) (n bits : ℕ) (is : bits ≡ n) (ka : Keeps old a) (kb : Keeps a b) (kd : Keeps b d) (ke : Keeps d e) (kf : Keeps e f)
    (mw : Makes a word 64 (λ v. slice_index (words_at v old near) (term_at v old tally.read)))
    (ml : Makes b low bits (λ v. term_at v a word % 2 ^ bits))
    (mn : Makes d number 64 (λ v. term_at v b low % 2 ^ 64)) where
  kde : Keeps old e
  kde = keeps_trans old d e (keeps_trans old b d (keeps_trans old a b ka kb) kd) ke

  cut_number : (v : ℕ → ℕ → ℕ) → term_at v d number ≡ slice_index (words_at v old near) (term_at v old tally.read) % 2 ^ n % 2 ^ 64
  cut_number v = mn.says v ∙ ap (λ x. x % 2 ^ 64) (ml.says v ∙ (ap (λ i. term_at v a word % 2 ^ i) is ∙ ap (λ x. x % 2 ^ n) (mw.says v)))

  pub among_number : Makes f number 64 (λ v. slice_index (words_at v old near) (term_at v old tally.read) % 2 ^ n % 2 ^ 64)
  among_number = makes-later d f (keeps_trans d e f ke kf) number 64 (λ v. slice_index (words_at v old near) (term_at v old tally.read) % 2 ^ n % 2 ^ 64)
      (record { within = mn.within; wide = mn.wide; says = cut_number })

  pub among_read : (read : TermId) → IsTally old tally → IsTerm old 1 taken
      → Makes e read 64 (λ v. cond (bit_at v d taken) ((term_at v d tally.read + 1) % 2 ^ 64) (term_at v d tally.read))
      → Makes f read 64 (λ v. cond (bit_at v old taken) ((term_at v old tally.read + 1) % 2 ^ 64) (term_at v old tally.read))
  among_read read ht hk mr =
      let k = keeps_trans old b d (keeps_trans old a b ka kb) kd in
      makes-later e f kf read 64 (λ v. cond (bit_at v old taken) ((term_at v old tally.read + 1) % 2 ^ 64) (term_at v old tally.read)) (record {
        within = mr.within;
        wide = mr.wide;
        says = λ v. mr.says v ∙ rw (bit-later old d k v taken hk.within, term-later old d k v tally.read ht.read.within) refl;
      })

  pub among_fits : (fits : TermId) → IsTally old tally → IsTerm old 1 taken
      → Tests f fits (λ v. bit_at v e tally.fits && (not (bit_at v e taken) || nat_eq (term_at v e word) (term_at v e number)))
      → Tests f fits (λ v. bit_at v old tally.fits && (not (bit_at v old taken) || nat_eq (slice_index (words_at v old near) (term_at v old tally.read)) (slice_index (words_at v old near) (term_at v old tally.read) % 2 ^ n % 2 ^ 64)))
  among_fits fits ht hk tf = record {
    within = tf.within;
    wide = tf.wide;
    says = λ v.
        let kae = keeps_trans a d e (keeps_trans a b d kb kd) ke in
        let w = term-later a e kae v word mw.within ∙ mw.says v in
        let m = term-later d e ke v number mn.within ∙ cut_number v in
        tf.says v ∙ rw (bit-later old e kde v tally.fits ht.fits.within, bit-later old e kde v taken hk.within, w, m) refl;
  }

pub number_value : (a b : List Term) (poison number : TermId) (v : ℕ → ℕ → ℕ) (x : ℕ) → number.index < length a → Keeps a b → Tests b poison (λ _. false) → term_at v a number ≡ x → number_at v b (record { poison = poison; number = number }) ≡ Num x
unfolding number_at
number_value a b poison number v x within k t e = rw (t.says v, term-later a b k v number within, e) refl

-- ---- a pointer

word_below : (terms : List Term) → AreInRange terms → (v : ℕ → ℕ → ℕ) (ws : List TermId) → AreWords terms ws → (i : ℕ) → slice_index (words_at v terms ws) i < 2 ^ 64
word_below terms range v [] h i = omega arith
word_below terms range v (w ∷ ws) h zero = rw h.0.wide at (range v w h.0.within)
word_below terms range v (w ∷ ws) h (suc i) = word_below terms range v ws h.1 i

module _ (old a b d e : List Term) (tally : Tally) (taken first block read fits : TermId) (ka : Keeps old a) (kb : Keeps a b) (kd : Keeps b d) (ke : Keeps d e) (ht : IsTally old tally) (hk : IsTerm old 1 taken)
    (mr : Makes b read 64 (λ v. cond (bit_at v a taken) ((term_at v a tally.read + 2) % 2 ^ 64) (term_at v a tally.read)))
    (tf : Tests d fits (λ v. bit_at v b tally.fits && (not (bit_at v b taken) || nat_eq (term_at v b first) (term_at v b block)))) where
  kab : Keeps old b
  kab = keeps_trans old a b ka kb

  kbe : Keeps b e
  kbe = keeps_trans b d e kd ke

  pub pointer_stays : (g : Scene) (made : List ℕ) → bit_at g.v old taken ≡ false → Counts g old tally made → Counts g e (record { read = read; fits = fits }) made
  pointer_stays g made none k = record {
    read = term-later b e kbe g.v read mr.within ∙ (mr.says g.v ∙ rw (bit-later old a ka g.v taken hk.within, none, term-later old a ka g.v tally.read ht.read.within) k.read);
    fits = bit-later d e ke g.v fits tf.within ∙ (tf.says g.v ∙ rw (bit-later old b kab g.v taken hk.within, none, bit-later old b kab g.v tally.fits ht.fits.within) (and-true (bit_at g.v old tally.fits) ∙ k.fits));
  }

  pointer_counts : (g : Scene) (made : List ℕ) (x y : ℕ) → length made + 2 < 2 ^ 64 → bit_at g.v old taken ≡ true → Counts g old tally made
      → term_at g.v b first ≡ slice_index g.tape (length made) → term_at g.v b block ≡ x → slice_index g.tape (length made + 1) ≡ y
      → Counts g e (record { read = read; fits = fits }) (made ++ x ∷ y ∷ [])
  pointer_counts g made x y room held k ef eb ey =
      let count : (length made + 2) % 2 ^ 64 ≡ length (made ++ x ∷ y ∷ []) = small_mod (length made + 2) (2 ^ 64) room ∙ omega (arith, length-append made (x ∷ y ∷ [])) in
      let second : (nat_eq (slice_index g.tape (length made + 1)) y && true) ≡ true = rw ey (ap (λ b. b && true) (equal_self y)) in
      let from : 0 + length made ≡ length made = omega arith in
      let both : fits_from g.tape (0 + length made) (x ∷ y ∷ []) ≡ nat_eq (slice_index g.tape (length made)) x =
      ap (λ i. fits_from g.tape i (x ∷ y ∷ [])) from ∙ (ap (λ b. nat_eq (slice_index g.tape (length made)) x && b) second ∙ and-true (nat_eq (slice_index g.tape (length made)) x)) in
      let whole : (fits_from g.tape 0 made && nat_eq (slice_index g.tape (length made)) x) ≡ fits_from g.tape 0 (made ++ x ∷ y ∷ []) =
      sym (fits-append g.tape 0 made (x ∷ y ∷ []) ∙ ap (λ b. fits_from g.tape 0 made && b) both) in
      record {
        read = term-later b e kbe g.v read mr.within ∙ (mr.says g.v ∙ (rw (bit-later old a ka g.v taken hk.within, held, term-later old a ka g.v tally.read ht.read.within, k.read) refl ∙ count));
        fits = bit-later d e ke g.v fits tf.within ∙ (tf.says g.v ∙ (rw (bit-later old b kab g.v taken hk.within, held, bit-later old b kab g.v tally.fits ht.fits.within, k.fits, ef, eb) refl ∙ whole));
      }

  -- the words after those that were read, and the block that the first names
  module _ (t1 t2 t3 t4 : List Term) (tape near : List TermId) (one next offset : TermId) (s : RunState) (n : ℕ) (hs : IsState old s) (range : AreInRange old) (words : AreWords old tape) (near_is : near ≡ take n tape)
      (k1 : Keeps old t1) (k2 : Keeps t1 t2) (k3 : Keeps t2 t3) (k4 : Keeps t3 t4) (k5 : Keeps t4 a) (room : s.words_bound + 2 < 2 ^ 64) (enough : s.words_bound + 1 < n) (same : s.tally ≡ tally)
      (m1 : Makes t1 first 64 (λ v. slice_index (words_at v old near) (term_at v old tally.read)))
      (m2 : Makes t2 one 64 (λ _. 1))
      (m3 : Makes t3 next (width_of (tree_in t2 tally.read)) (λ v. (term_at v t2 tally.read + term_at v t2 one) % 2 ^ width_of (tree_in t2 tally.read)))
      (m4 : Makes t4 offset 64 (λ v. slice_index (words_at v t3 near) (term_at v t3 next)))
      (m5 : Makes a block 64 (λ v. cond (nat_le (term_at v t4 first % 2 ^ 16) s.memory.given) (term_at v t4 first % 2 ^ 16) 0)) where
    k02 : Keeps old t2
    k02 = keeps_trans old t1 t2 k1 k2

    k03 : Keeps old t3
    k03 = keeps_trans old t2 t3 k02 k3

    k14 : Keeps t1 t4
    k14 = keeps_trans t1 t3 t4 (keeps_trans t1 t2 t3 k2 k3) k4

    k1b : Keeps t1 b
    k1b = keeps_trans t1 a b (keeps_trans t1 t4 a k14 k5) kb

    near_words : AreWords old near
    near_words = subst (AreWords old) (sym near_is) (each-take (IsTerm old 64) tape n words)

    near_at : (g : Scene) (i : ℕ) → Sees g old tape → i < n → slice_index (words_at g.v old near) i ≡ slice_index g.tape i
    near_at g i sees lt = ap (λ (ns : List TermId). slice_index (words_at g.v old ns) i) near_is ∙ (near_index (term_at g.v old) tape n i lt ∙ ap (λ ws. slice_index ws i) sees)

    next_is : (g : Scene) (r : ℕ) → term_at g.v old tally.read ≡ r → r + 1 < 2 ^ 64 → term_at g.v t3 next ≡ r + 1
    next_is g r er small =
        let wide = (is_term-later old t2 k02 64 tally.read ht.read).wide in
        m3.says g.v ∙ rw (wide, m2.says g.v, term-later old t2 k02 g.v tally.read ht.read.within, er) (small_mod (r + 1) (2 ^ 64) small)

    first_is : (g : Scene) (r : ℕ) → Sees g old tape → r < n → term_at g.v old tally.read ≡ r → term_at g.v t1 first ≡ slice_index g.tape r
    first_is g r sees lt er = m1.says g.v ∙ (ap (λ i. slice_index (words_at g.v old near) i) er ∙ near_at g r sees lt)

    offset_is : (g : Scene) (r : ℕ) → Sees g old tape → r + 1 < n → r + 1 < 2 ^ 64 → term_at g.v old tally.read ≡ r → term_at g.v t4 offset ≡ slice_index g.tape (r + 1)
    offset_is g r sees lt small er = m4.says g.v ∙ (rw (words_at-later old t3 k03 g.v near near_words, next_is g r er small) refl ∙ near_at g (r + 1) sees lt)

    pub pointer_takes : (value : SymValue)
        → ((r : Reading) → value_at r e value ≡ Ptr (record { block = r.name (term_at r.v d block); offset = term_at r.v d offset }))
        → (g : Scene) (at : Visit) (m : Machine) → Sees g old tape → bit_at g.v old taken ≡ true → MatchesState g old at s m
        → Counts g e (record { read = read; fits = fits }) (m.taken ++ block_number (given_or_null m.memory (next_word g.tape m 0 % 65536)) ∷ next_word g.tape m 1 % 2 ^ 64 ∷ [])
        × (value_at (sight g) e value ≡ Ptr (record { block = given_or_null m.memory (next_word g.tape m 0 % 65536); offset = next_word g.tape m 1 % 2 ^ 64 }))
    pointer_takes value stands g at m sees held h =
        let r = length m.taken in
        let words_bound = h.words_bound in
        let counts : Counts g old tally m.taken = subst (λ (t : Tally). Counts g old t m.taken) same h.tally in
        let small : r + 1 < 2 ^ 64 = omega (arith, room, words_bound) in
        let here : r + 0 ≡ r = omega arith in
        let low = next_word g.tape m 0 % 65536 in
        let e_first : term_at g.v t1 first ≡ slice_index g.tape r = first_is g r sees (omega (arith, enough, words_bound)) counts.read in
        let e_low : term_at g.v t4 first % 65536 ≡ low = ap (λ x. x % 65536) (term-later t1 t4 k14 g.v first m1.within ∙ (e_first ∙ sym (ap (slice_index g.tape) here))) in
        let e_block : term_at g.v a block ≡ cond (nat_le low g.given) low 0 = m5.says g.v ∙ rw (e_low, h.given) refl in
        let named = names_given g old s.memory low hs.memory h.given in
        let there = chosen_block m.memory g.given low (rw h.memory at named) in
        let below : slice_index g.tape (r + 1) < 2 ^ 64 = rw sees at (word_below old range g.v tape words (r + 1)) in
        let e_word : slice_index g.tape (r + 1) ≡ next_word g.tape m 1 % 2 ^ 64 = sym (small_mod (slice_index g.tape (r + 1)) (2 ^ 64) below) in
        let e_offset : term_at g.v t4 offset ≡ next_word g.tape m 1 % 2 ^ 64 = offset_is g r sees (omega (arith, enough, words_bound)) small counts.read ∙ e_word in
        let kad = keeps_trans a b d kb kd in (
          pointer_counts g m.taken (block_number (given_or_null m.memory low)) (next_word g.tape m 1 % 2 ^ 64) (omega (arith, room, words_bound)) held counts
              (term-later t1 b k1b g.v first m1.within ∙ e_first) (term-later a b kb g.v block m5.within ∙ (e_block ∙ there.1)) e_word,
          stands (sight g) ∙ rw (term-later a d kad g.v block m5.within, e_block, there.0, term-later t4 d (keeps_trans t4 a d k5 kad) g.v offset m4.within, e_offset) refl,
        )
