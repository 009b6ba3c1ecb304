-- The tests of a point's groups say that its numbers are a code.
use Rattle.refine_terms.proofs.Common.{ℕ, zero, suc, ◌≡◌, ◌<◌, ◌≤◌, ◌-◌, ◌*◌, ◌^◌, ◌↔◌, true, ◌&&◌, List, [], ◌∷◌, ◌++◌, length, map, refl, sym, ap, subst, ◌∙◌, arith, length-append, flat_map, Layout, IsChain, IsCodeOfArgs, AreSizes, IsCodeOfBlocks, IsCode, TermId, Term, Keeps, Tests, IsTerm, bit_at, term_at, ByteTerms, Each, IsBlockTerms, words_at, each-weaker, map-same, map-length, block_terms-later, keeps_trans, term-later, bit-later, is_term-later, Decides, IsNarrow, IsInputOf, IsTapeOf, arg_numbers, block_numbers, numbers_at}
use Rattle.std.proofs.lemmas.Nat.{pow_pos}
use Rattle.points.specs.declared.point.Shape.{Shape}
use Rattle.points.specs.Code.{WordsFit}
use Rattle.mem_terms.specs.declared.inputs.InputTerms.{InputTerms}
use Rattle.mem_terms.specs.declared.inputs.TapeTerms.{TapeTerms}
use Rattle.refine_terms.proofs.Deciders.{as_fact, at_equal, decides-later, both_decide}
use Rattle.refine_terms.proofs.Rows.{chain_parts, same_parts, places_long, block_long, block-later}
use Rattle.refine_terms.proofs.ArgNumbers.{args_long}

-- ---- the terms of a shape are what the tests take

pub are_narrow : (old new : List Term) (n : ℕ) (xs : List TermId) → n ≤ 64 → Keeps old new → Each (IsTerm old n) xs → Each (IsNarrow new) xs
are_narrow old new n xs le k h =
    each-weaker (IsTerm old n) (IsNarrow new) xs
    (λ a t. let later = is_term-later old new k n a t in record { within = later.within; narrow = (let wide = later.wide in omega (arith, wide, le)) }) h

pub are_blocks : (old new : List Term) (layout : Layout) (xs : List (List ByteTerms)) → Keeps old new → Each (IsBlockTerms layout.bytes old) xs → Each (IsBlockTerms layout.bytes new) xs
are_blocks old new layout xs k h = each-weaker (IsBlockTerms layout.bytes old) (IsBlockTerms layout.bytes new) xs (block_terms-later old new k layout.bytes) h

-- ---- sizes and words

sizes_say : (f : TermId → ℕ) (layout : Layout) (xs : List TermId) → Each (λ x. f x ≤ layout.bytes) xs ↔ AreSizes layout (length xs) (map f xs)
sizes_say f layout [] = ((λ _. tt), (λ _. tt))
sizes_say f layout (x ∷ xs) = let rest = sizes_say f layout xs in ((λ e. (e.0, rest.0 e.1)), (λ s. (s.0, rest.1 s.1)))

below_end : (n w : ℕ) → n ≤ 2 ^ w - 1 → n < 2 ^ w
below_end n w le = let some : 0 < 2 ^ w = pow_pos w in omega (arith, le, some)

at_most_mask : (n w : ℕ) → n < 2 ^ w → n ≤ 2 ^ w - 1
at_most_mask n w lt = omega (arith, lt)

words_say : (f : TermId → ℕ) (w : ℕ) (xs : List TermId) → Each (λ x. f x ≤ 2 ^ w - 1) xs ↔ WordsFit w (length xs) (map f xs)
words_say f w [] = ((λ _. tt), (λ _. tt))
words_say f w (x ∷ xs) = let rest = words_say f w xs in ((λ e. (below_end (f x) w e.0, rest.0 e.1)), (λ s. (at_most_mask (f x) w s.0, rest.1 s.1)))

sizes_long : (layout : Layout) (n : ℕ) (ds : List ℕ) → AreSizes layout n ds → length ds ≡ n
sizes_long layout zero [] h = refl
sizes_long layout zero (d ∷ ds) h = absurd h
sizes_long layout (suc n) [] h = absurd h
sizes_long layout (suc n) (d ∷ ds) h = ap suc (sizes_long layout n ds h.1)

-- ---- blocks

blocks_long : (v : ℕ → ℕ → ℕ) (old : List Term) (layout : Layout) (sizes : List ℕ) (xs : List (List ByteTerms)) → length sizes ≡ length xs → Each (IsBlockTerms layout.bytes old) xs
    → (ds : List ℕ) → IsCodeOfBlocks layout sizes ds → length ds ≡ length (flat_map (block_numbers v old) xs)
blocks_long v old layout [] [] count h ds c = rw c refl
blocks_long v old layout [] (x ∷ xs) count h ds c = absurd (omega (arith, count))
blocks_long v old layout (s ∷ ss) [] count h ds c = absurd (omega (arith, count))
blocks_long v old layout (s ∷ ss) (x ∷ xs) count h ds c =
    let here : length c.front ≡ length (block_numbers v old x) = places_long layout layout.bytes s c.front c.in_front ∙ sym (block_long v old x ∙ ap (λ n. n * 6) h.0.count) in
    let more = blocks_long v old layout ss xs (omega (arith, count)) h.1 c.back c.in_back in
    rw (c.whole, length-append, length-append) (rw (here, more) refl)

blocks-later : (old new : List Term) (k : Keeps old new) (layout : Layout) (xs : List (List ByteTerms)) → Each (IsBlockTerms layout.bytes old) xs → (v : ℕ → ℕ → ℕ) → flat_map (block_numbers v new) xs ≡ flat_map (block_numbers v old) xs
blocks-later old new k layout [] h v = refl
blocks-later old new k layout (x ∷ xs) h v =
    same_parts (block_numbers v new x) (block_numbers v old x) (flat_map (block_numbers v new) xs) (flat_map (block_numbers v old) xs) (block-later old new k x h.0.are v) (blocks-later old new k layout xs h.1 v)

-- ---- the whole

code_says : (v : ℕ → ℕ → ℕ) (old : List Term) (s : Shape) (input : InputTerms) (tape : TapeTerms) → IsInputOf s old input
    → (IsCodeOfArgs s.layout s.parameters (flat_map (arg_numbers v old) input.args)
    × (AreSizes s.layout s.layout.blocks (map (term_at v old) input.sizes)
    × (IsCodeOfBlocks s.layout (map (term_at v old) input.sizes) (flat_map (block_numbers v old) input.places) × WordsFit s.word_width.bits s.words (words_at v old tape.words))))
    ↔ IsCode s (numbers_at v old input tape)
code_says v old s input tape h =
    let args = flat_map (arg_numbers v old) input.args in
    let sizes = map (term_at v old) input.sizes in
    let places = flat_map (block_numbers v old) input.places in
    let words = words_at v old tape.words in
    let many : length sizes ≡ s.layout.blocks = map-length (term_at v old) input.sizes ∙ h.size_count in
    let count : length sizes ≡ length input.places = many ∙ sym h.block_count in
    let first = chain_parts (IsCodeOfArgs s.layout s.parameters) (λ _. IsChain (AreSizes s.layout s.layout.blocks) (λ ss. IsChain (IsCodeOfBlocks s.layout ss) (λ _. WordsFit s.word_width.bits s.words)))
    args (sizes ++ (places ++ words)) (args_long v old s.layout s.parameters input.args h.args) in
    let second = chain_parts (AreSizes s.layout s.layout.blocks) (λ ss. IsChain (IsCodeOfBlocks s.layout ss) (λ _. WordsFit s.word_width.bits s.words))
    sizes (places ++ words) (λ ds c. sizes_long s.layout s.layout.blocks ds c ∙ sym many) in
    let third = chain_parts (IsCodeOfBlocks s.layout sizes) (λ _. WordsFit s.word_width.bits s.words) places words (blocks_long v old s.layout sizes input.places count h.places) in (
      (λ p. first.1 (p.0, second.1 (p.1.0, third.1 (p.1.1.0, p.1.1.1)))),
      (λ c. let a = first.0 c in let b = second.0 a.1 in let d = third.0 b.1 in (a.0, (b.0, (d.0, d.1)))),
    )

pub code_decides : (s : Shape) (input : InputTerms) (tape : TapeTerms) (old a b c d e f g : List Term) (args sizes places words behind rest id : TermId) → IsInputOf s old input → IsTapeOf s old tape
    → Keeps old a → Keeps a b → Keeps b c → Keeps c d → Keeps d e → Keeps e f
    → Decides a args (λ v. IsCodeOfArgs s.layout s.parameters (flat_map (arg_numbers v old) input.args))
    → Decides b sizes (λ v. Each (λ x. term_at v a x ≤ s.layout.bytes) input.sizes)
    → Decides c places (λ v. IsCodeOfBlocks s.layout (map (term_at v b) input.sizes) (flat_map (block_numbers v b) input.places))
    → Decides d words (λ v. Each (λ x. term_at v c x ≤ 2 ^ s.word_width.bits - 1) tape.words)
    → Tests e behind (λ v. bit_at v d places && bit_at v d words) → Tests f rest (λ v. bit_at v e sizes && bit_at v e behind) → Tests g id (λ v. bit_at v f args && bit_at v f rest)
    → Decides g id (λ v. IsCode s (numbers_at v old input tape))
code_decides s input tape old a b c d e f g args sizes places words behind rest id h h' ka kb kc kd ke kf d1 d2 d3 d4 t5 t6 t7 =
    let k_b = keeps_trans old a b ka kb in
    let k_c = keeps_trans old b c k_b kc in
    let k_be = keeps_trans b d e (keeps_trans b c d kc kd) ke in
    let k_af = keeps_trans a e f (keeps_trans a b e kb k_be) kf in
    let Args : (ℕ → ℕ → ℕ) → Type 0 = λ v. IsCodeOfArgs s.layout s.parameters (flat_map (arg_numbers v old) input.args) in
    let Sizes : (ℕ → ℕ → ℕ) → Type 0 = λ v. AreSizes s.layout s.layout.blocks (map (term_at v old) input.sizes) in
    let Places : (ℕ → ℕ → ℕ) → Type 0 = λ v. IsCodeOfBlocks s.layout (map (term_at v old) input.sizes) (flat_map (block_numbers v old) input.places) in
    let Words : (ℕ → ℕ → ℕ) → Type 0 = λ v. WordsFit s.word_width.bits s.words (words_at v old tape.words) in
    let args_are = decides-later a f k_af args Args d1 in
    let sizes_a = as_fact b sizes (λ v. Each (λ x. term_at v a x ≤ s.layout.bytes) input.sizes) (λ v. AreSizes s.layout s.layout.blocks (map (term_at v a) input.sizes)) d2
    (λ v. subst (λ n. Each (λ x. term_at v a x ≤ s.layout.bytes) input.sizes ↔ AreSizes s.layout n (map (term_at v a) input.sizes)) h.size_count (sizes_say (term_at v a) s.layout input.sizes)) in
    let sizes_b = at_equal b sizes (AreSizes s.layout s.layout.blocks) (λ v. map (term_at v a) input.sizes) (λ v. map (term_at v old) input.sizes) sizes_a
    (λ v. map-same (IsTerm old 6) (term_at v a) (term_at v old) input.sizes (λ x t. term-later old a ka v x t.within) h.sizes) in
    let sizes_are = decides-later b e k_be sizes Sizes sizes_b in
    let places_c = as_fact c places (λ v. IsCodeOfBlocks s.layout (map (term_at v b) input.sizes) (flat_map (block_numbers v b) input.places)) Places d3
    (λ v. places_same v (map-same (IsTerm old 6) (term_at v b) (term_at v old) input.sizes (λ x t. term-later old b k_b v x t.within) h.sizes) (blocks-later old b k_b s.layout input.places h.places v)) in
    let places_are = decides-later c d kd places Places places_c in
    let words_c = as_fact d words (λ v. Each (λ x. term_at v c x ≤ 2 ^ s.word_width.bits - 1) tape.words) (λ v. WordsFit s.word_width.bits s.words (map (term_at v c) tape.words)) d4
    (λ v. subst (λ n. Each (λ x. term_at v c x ≤ 2 ^ s.word_width.bits - 1) tape.words ↔ WordsFit s.word_width.bits n (map (term_at v c) tape.words)) h'.count (words_say (term_at v c) s.word_width.bits tape.words)) in
    let words_are = at_equal d words (WordsFit s.word_width.bits s.words) (λ v. map (term_at v c) tape.words) (λ v. words_at v old tape.words) words_c
    (λ v. map-same (IsTerm old 64) (term_at v c) (term_at v old) tape.words (λ x t. term-later old c k_c v x t.within) h'.words) in
    let behind_is = both_decide d e places words behind Places Words places_are words_are t5 in
    let rest_is = both_decide e f sizes behind rest Sizes (λ v. Places v × Words v) sizes_are behind_is t6 in
    let whole = both_decide f g args rest id Args (λ v. Sizes v × (Places v × Words v)) args_are (rest_is) t7 in
    as_fact g id (λ v. Args v × (Sizes v × (Places v × Words v))) (λ v. IsCode s (numbers_at v old input tape)) whole (λ v. code_says v old s input tape h)
  where
    places_same : (v : ℕ → ℕ → ℕ) → map (term_at v b) input.sizes ≡ map (term_at v old) input.sizes → flat_map (block_numbers v b) input.places ≡ flat_map (block_numbers v old) input.places
        → IsCodeOfBlocks s.layout (map (term_at v b) input.sizes) (flat_map (block_numbers v b) input.places) ↔ IsCodeOfBlocks s.layout (map (term_at v old) input.sizes) (flat_map (block_numbers v old) input.places)
    places_same v x y = rw (x, y) ((λ z. z), (λ z. z))

-- a fact, and a term that is true
pub code_and_plain : (old a b : List Term) (code plain id : TermId) (fact : (ℕ → ℕ → ℕ) → Type 0) → IsTerm old 1 plain → Keeps old a → Decides a code fact → Tests b id (λ v. bit_at v a code && bit_at v a plain)
    → Decides b id (λ v. fact v × (bit_at v old plain ≡ true))
code_and_plain old a b code plain id fact h k d t =
    let true_now : Decides a plain (λ v. bit_at v a plain ≡ true) = (is_term-later old a k 1 plain h, λ v. ((λ e. e), (λ e. e))) in
    let true_then = at_equal a plain (λ x. x ≡ true) (λ v. bit_at v a plain) (λ v. bit_at v old plain) true_now (λ v. bit-later old a k v plain h.within) in
    both_decide a b code plain id fact (λ v. bit_at v old plain ≡ true) d true_then t
