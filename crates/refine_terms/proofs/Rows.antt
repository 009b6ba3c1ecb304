-- Rows of numbers, one more at a time.
use Rattle.refine_terms.proofs.Common.{ℕ, zero, suc, ◌≡◌, ◌<◌, ◌≤◌, ◌+◌, ◌-◌, ◌*◌, ◌↔◌, inl, inr, Bool, true, false, ◌&&◌, nat_le, List, [], ◌∷◌, ◌++◌, length, map, drop, get_or, refl, sym, ap, subst, ◌∙◌, arith, length-append, flat_map, nat_tests, drop_more, drop_all, Layout, IsChain, IsCodeOfByte, IsUnused, IsCodeOfPlaces, IsCodeOfBlocks, TermId, Term, Tree, width_of, Keeps, Tests, IsTerm, bit_at, term_at, ByteTerms, IsByteTerms, IsBlockTerms, Each, within-later, term-later, Decides, IsNarrow, IsCodeOfPlace, byte_numbers, block_numbers}
use Rattle.refine_terms.proofs.Deciders.{row_more, row_starts, at_most_decides}
use Rattle.refine_terms.proofs.ByteKinds.{byte-later}

-- the default where a list has no byte
abbrev pub no_byte : ByteTerms
no_byte = record { kind = record { index = 0 }; mask = record { index = 0 }; number = record { index = 0 }; block = record { index = 0 }; offset = record { index = 0 }; part = record { index = 0 } }

pub if_equal : {A : Type 0} (P : A → Type 0) (x y : A) → x ≡ y → P x ↔ P y
if_equal P x y e = ((λ h. subst P e h), (λ h. subst P (sym e) h))

-- ---- what holds of each

pub each_get : {A : Type 0} (P : A → Type 0) (xs : List A) (i : ℕ) (d : A) → Each P xs → i < length xs → P (get_or xs i d)
each_get P [] i d h lt = absurd (omega arith)
each_get P (x ∷ xs) zero d h lt = h.0
each_get P (x ∷ xs) (suc i) d h lt = each_get P xs i d h.1 (omega arith)

each_more : {A : Type 0} (P : A → Type 0) (F : Type 0) (xs : List A) (i : ℕ) (d : A) → i < length xs → F ↔ P (get_or xs i d) → Each P (drop i xs) ↔ (F × Each P (drop (i + 1) xs))
each_more P F xs i d lt same =
    let e : drop i xs ≡ get_or xs i d ∷ drop (i + 1) xs = drop_more xs i d lt in
    ((λ h. let g = subst (λ ys. Each P ys) e h in (same.1 g.0, g.1)), (λ p. subst (λ ys. Each P ys) (sym e) (same.0 p.0, p.1)))

pub each_end : {A : Type 0} (P : A → Type 0) (xs : List A) (i : ℕ) → length xs ≤ i → Each P (drop i xs)
each_end P xs i le = let e : drop i xs ≡ [] = drop_all i xs le in rw e tt

pub each_row : {A : Type 0} (a b c : List Term) (xs : List A) (i : ℕ) (d : A) (all one next : TermId) (P : (ℕ → ℕ → ℕ) → A → Type 0) (F : (ℕ → ℕ → ℕ) → Type 0) → i < length xs → Keeps a b → IsTerm a 1 all
    → ((v : ℕ → ℕ → ℕ) → ((bit_at v a all ≡ true) × Each (P v) (drop i xs)) ↔ Each (P v) xs) → Decides b one F → Tests c next (λ v. bit_at v b all && bit_at v b one)
    → ((v : ℕ → ℕ → ℕ) → F v ↔ P v (get_or xs i d)) → (v : ℕ → ℕ → ℕ) → ((bit_at v c next ≡ true) × Each (P v) (drop (i + 1) xs)) ↔ Each (P v) xs
each_row a b c xs i d all one next P F lt k h so one_is t same =
    row_more a b c all one next F (λ v. Each (P v) (drop i xs)) (λ v. Each (P v) (drop (i + 1) xs)) (λ v. Each (P v) xs) k h so one_is t (λ v. each_more (P v) (F v) xs i d lt (same v))

-- ---- terms stay what they are

module _ (old new : List Term) (k : Keeps old new) where
  pub narrow-later : (a : TermId) → IsNarrow old a → IsNarrow new a
  narrow-later a h = record { within = within-later old new k a h.within; narrow = subst (λ (t : Tree). width_of t ≤ 64) (sym (k.kept a h.within)) h.narrow }

-- ---- numbers that are at most one

pub most_row : (old a b c : List Term) (xs : List TermId) (i most : ℕ) (d all one next : TermId) → Each (IsNarrow old) xs → i < length xs → Keeps old a → Keeps a b → IsTerm a 1 all
    → ((v : ℕ → ℕ → ℕ) → ((bit_at v a all ≡ true) × Each (λ x. term_at v old x ≤ most) (drop i xs)) ↔ Each (λ x. term_at v old x ≤ most) xs)
    → Tests b one (λ v. nat_le (term_at v a (get_or xs i d)) most) → Tests c next (λ v. bit_at v b all && bit_at v b one)
    → (v : ℕ → ℕ → ℕ) → ((bit_at v c next ≡ true) × Each (λ x. term_at v old x ≤ most) (drop (i + 1) xs)) ↔ Each (λ x. term_at v old x ≤ most) xs
most_row old a b c xs i most d all one next are lt ka kb h so t t' =
    each_row a b c xs i d all one next (λ v x. term_at v old x ≤ most) (λ v. term_at v a (get_or xs i d) ≤ most) lt kb h so
    (at_most_decides b one (λ v. term_at v a (get_or xs i d)) most t) t'
    (λ v. if_equal (λ n. n ≤ most) (term_at v a (get_or xs i d)) (term_at v old (get_or xs i d)) (term-later old a ka v (get_or xs i d) (each_get (IsNarrow old) xs i d are lt).within))

-- ---- chains whose first part has a known length

same_front : (a b c d : List ℕ) → length a ≡ length c → (a ++ b) ≡ (c ++ d) → (a ≡ c) × (b ≡ d)
same_front [] b [] d l e = (refl, e)
same_front [] b (y ∷ c) d l e = absurd (omega (arith, l))
same_front (x ∷ a) b [] d l e = absurd (omega (arith, l))
same_front (x ∷ a) b (y ∷ c) d l e =
    let h : x ≡ y = cc in
    let t : (a ++ b) ≡ (c ++ d) = cc in
    let r = same_front a b c d (omega (arith, l)) t in
    ((rw (h, r.0) refl), r.1)

pub chain_parts : (P : List ℕ → Type 0) (Q : List ℕ → List ℕ → Type 0) (front back : List ℕ) → ((ds : List ℕ) → P ds → length ds ≡ length front) → IsChain P Q (front ++ back) ↔ (P front × Q front back)
chain_parts P Q front back long = (
  (λ h.
      let e = same_front front back h.front h.back (sym (long h.front h.in_front)) h.whole in
      (subst P (sym e.0) h.in_front, subst (λ ds. Q ds back) (sym e.0) (subst (λ ds. Q h.front ds) (sym e.1) h.in_back))),
  (λ p. record { front = front; back = back; whole = refl; in_front = p.0; in_back = p.1 }),
)

-- ---- contents

byte_long : (layout : Layout) (ds : List ℕ) → IsCodeOfByte layout ds → length ds ≡ 6
byte_long layout ds (inl n) = rw n.is refl
byte_long layout ds (inr (inl p)) = rw p.is refl
byte_long layout ds (inr (inr p)) = rw p.is refl

unused_long : (ds : List ℕ) → IsUnused ds → length ds ≡ 6
unused_long ds e = rw e refl

place_more : (layout : Layout) (room size : ℕ) (p : Bool) (front back : List ℕ) → length front ≡ 6 → (p ≡ true → size ≡ 0) → (p ≡ false → 0 < size)
    → IsCodeOfPlaces layout (suc room) size (front ++ back) ↔ (IsCodeOfPlace layout p front × IsCodeOfPlaces layout room (size - 1) back)
place_more layout room zero true front back six past inside = chain_parts IsUnused (λ place rest. IsCodeOfPlaces layout room zero rest) front back (λ ds h. unused_long ds h ∙ sym six)
place_more layout room zero false front back six past inside = absurd (let x = inside refl in omega (arith, x))
place_more layout room (suc size) true front back six past inside = absurd (let x = past refl in omega (arith, x))
place_more layout room (suc size) false front back six past inside =
    let e : suc size - 1 ≡ size = omega arith in
    rw e (chain_parts (IsCodeOfByte layout) (λ place rest. IsCodeOfPlaces layout room size rest) front back (λ ds h. byte_long layout ds h ∙ sym six))

past_size : (size i : ℕ) → nat_le size i ≡ true → size - i ≡ 0
past_size size i t = grind (arith, nat_tests)

inside_size : (size i : ℕ) → nat_le size i ≡ false → 0 < size - i
inside_size size i t = grind (arith, nat_tests)

places_more : {A : Type 0} (layout : Layout) (size i : ℕ) (f : A → List ℕ) (xs : List A) (d : A) → i < length xs → ((x : A) → length (f x) ≡ 6)
    → IsCodeOfPlaces layout (length xs - i) (size - i) (flat_map f (drop i xs)) ↔ (IsCodeOfPlace layout (nat_le size i) (f (get_or xs i d)) × IsCodeOfPlaces layout (length xs - (i + 1)) (size - (i + 1)) (flat_map f (drop (i + 1) xs)))
places_more layout size i f xs d lt six =
    let room : length xs - i ≡ suc (length xs - (i + 1)) = omega (arith, lt) in
    let less : (size - i) - 1 ≡ size - (i + 1) = omega arith in
    let more : drop i xs ≡ get_or xs i d ∷ drop (i + 1) xs = drop_more xs i d lt in
    let main = place_more layout (length xs - (i + 1)) (size - i) (nat_le size i) (f (get_or xs i d)) (flat_map f (drop (i + 1) xs)) (six (get_or xs i d)) (past_size size i) (inside_size size i) in
    rw (room, more) (rw less at main)

pub place_row : (old a b c : List Term) (xs : List ByteTerms) (i : ℕ) (layout : Layout) (size : TermId) (d : ByteTerms) (all one next : TermId) → Each (IsByteTerms old) xs → IsNarrow old size → i < length xs → Keeps old a → Keeps a b → IsTerm a 1 all
    → ((v : ℕ → ℕ → ℕ) → ((bit_at v a all ≡ true) × IsCodeOfPlaces layout (length xs - i) (term_at v old size - i) (block_numbers v old (drop i xs))) ↔ IsCodeOfPlaces layout (length xs) (term_at v old size) (block_numbers v old xs))
    → Decides b one (λ v. IsCodeOfPlace layout (nat_le (term_at v a size) i) (byte_numbers v a (get_or xs i d))) → Tests c next (λ v. bit_at v b all && bit_at v b one)
    → (v : ℕ → ℕ → ℕ) → ((bit_at v c next ≡ true) × IsCodeOfPlaces layout (length xs - (i + 1)) (term_at v old size - (i + 1)) (block_numbers v old (drop (i + 1) xs))) ↔ IsCodeOfPlaces layout (length xs) (term_at v old size) (block_numbers v old xs)
place_row old a b c xs i layout size d all one next are narrow lt ka kb h so one_is t =
    row_more a b c all one next (λ v. IsCodeOfPlace layout (nat_le (term_at v a size) i) (byte_numbers v a (get_or xs i d)))
    (λ v. IsCodeOfPlaces layout (length xs - i) (term_at v old size - i) (block_numbers v old (drop i xs)))
    (λ v. IsCodeOfPlaces layout (length xs - (i + 1)) (term_at v old size - (i + 1)) (block_numbers v old (drop (i + 1) xs)))
    (λ v. IsCodeOfPlaces layout (length xs) (term_at v old size) (block_numbers v old xs)) kb h so one_is t
    (λ v.
    rw (term-later old a ka v size narrow.within, byte-later old a ka (get_or xs i d) (each_get (IsByteTerms old) xs i d are lt) v)
    (places_more layout (term_at v old size) i (byte_numbers v old) xs d lt (λ x. refl)))

pub places_start : (a : List Term) (all : TermId) (layout : Layout) (n : ℕ) (size : (ℕ → ℕ → ℕ) → ℕ) (ds : (ℕ → ℕ → ℕ) → List ℕ) → Tests a all (λ _. true)
    → (v : ℕ → ℕ → ℕ) → ((bit_at v a all ≡ true) × IsCodeOfPlaces layout (n - 0) (size v - 0) (ds v)) ↔ IsCodeOfPlaces layout n (size v) (ds v)
places_start a all layout n size ds t v =
    let room : n - 0 ≡ n = omega arith in
    let same : size v - 0 ≡ size v = omega arith in
    rw (room, same) (row_starts a all (λ w. IsCodeOfPlaces layout n (size w) (ds w)) t v)

pub places_end : (layout : Layout) (size i : ℕ) (old : List Term) (v : ℕ → ℕ → ℕ) (xs : List ByteTerms) → length xs ≤ i → IsCodeOfPlaces layout (length xs - i) (size - i) (block_numbers v old (drop i xs))
places_end layout size i old v xs le =
    let none : length xs - i ≡ 0 = omega (arith, le) in
    let e : drop i xs ≡ [] = drop_all i xs le in
    rw (none, e) refl

-- ---- blocks

pub places_long : (layout : Layout) (room size : ℕ) (ds : List ℕ) → IsCodeOfPlaces layout room size ds → length ds ≡ room * 6
places_long layout zero size ds h = rw h refl
places_long layout (suc room) zero ds h =
    let rest = places_long layout room zero h.back h.in_back in
    let six = unused_long h.front h.in_front in
    rw (h.whole, length-append) (omega (arith, rest, six))
places_long layout (suc room) (suc size) ds h =
    let rest = places_long layout room size h.back h.in_back in
    let six = byte_long layout h.front h.in_front in
    rw (h.whole, length-append) (omega (arith, rest, six))

pub block_long : (v : ℕ → ℕ → ℕ) (old : List Term) (xs : List ByteTerms) → length (block_numbers v old xs) ≡ length xs * 6
block_long v old [] = refl
block_long v old (x ∷ xs) = let rest = block_long v old xs in omega (arith, rest)

blocks_more : {A B : Type 0} (layout : Layout) (i : ℕ) (f : A → List ℕ) (g : B → ℕ) (xs : List A) (ss : List B) (d : A) (e : B) → i < length ss → length ss ≡ length xs → length (f (get_or xs i d)) ≡ layout.bytes * 6
    → IsCodeOfBlocks layout (map g (drop i ss)) (flat_map f (drop i xs)) ↔ (IsCodeOfPlaces layout layout.bytes (g (get_or ss i e)) (f (get_or xs i d)) × IsCodeOfBlocks layout (map g (drop (i + 1) ss)) (flat_map f (drop (i + 1) xs)))
blocks_more layout i f g xs ss d e lt count long =
    let more : drop i xs ≡ get_or xs i d ∷ drop (i + 1) xs = drop_more xs i d (omega (arith, lt, count)) in
    let size : drop i ss ≡ get_or ss i e ∷ drop (i + 1) ss = drop_more ss i e lt in
    rw (more, size)
    (chain_parts (IsCodeOfPlaces layout layout.bytes (g (get_or ss i e))) (λ block rest. IsCodeOfBlocks layout (map g (drop (i + 1) ss)) rest) (f (get_or xs i d)) (flat_map f (drop (i + 1) xs))
    (λ ds h. places_long layout layout.bytes (g (get_or ss i e)) ds h ∙ sym long))

pub same_parts : (a b c d : List ℕ) → a ≡ b → c ≡ d → (a ++ c) ≡ (b ++ d)
same_parts a b c d e f = cc

pub block-later : (old new : List Term) (k : Keeps old new) (xs : List ByteTerms) → Each (IsByteTerms old) xs → (v : ℕ → ℕ → ℕ) → block_numbers v new xs ≡ block_numbers v old xs
block-later old new k [] h v = refl
block-later old new k (x ∷ xs) h v = same_parts (byte_numbers v new x) (byte_numbers v old x) (block_numbers v new xs) (block_numbers v old xs) (byte-later old new k x h.0 v) (block-later old new k xs h.1 v)

pub block_row : (old a b c : List Term) (xs : List (List ByteTerms)) (ss : List TermId) (i : ℕ) (layout : Layout) (x : List ByteTerms) (e all one next : TermId) → length ss ≡ length xs → Each (IsNarrow old) ss → Each (IsBlockTerms layout.bytes old) xs
    → i < length ss → x ≡ get_or xs i x → Keeps old a → Keeps a b → IsTerm a 1 all
    → ((v : ℕ → ℕ → ℕ) → ((bit_at v a all ≡ true) × IsCodeOfBlocks layout (map (term_at v old) (drop i ss)) (flat_map (block_numbers v old) (drop i xs))) ↔ IsCodeOfBlocks layout (map (term_at v old) ss) (flat_map (block_numbers v old) xs))
    → Decides b one (λ v. IsCodeOfPlaces layout (length x) (term_at v a (get_or ss i e)) (block_numbers v a x)) → Tests c next (λ v. bit_at v b all && bit_at v b one)
    → (v : ℕ → ℕ → ℕ) → ((bit_at v c next ≡ true) × IsCodeOfBlocks layout (map (term_at v old) (drop (i + 1) ss)) (flat_map (block_numbers v old) (drop (i + 1) xs))) ↔ IsCodeOfBlocks layout (map (term_at v old) ss) (flat_map (block_numbers v old) xs)
block_row old a b c xs ss i layout x e all one next count narrow are lt is ka kb h so one_is t =
    let here : IsBlockTerms layout.bytes old x = subst (λ y. IsBlockTerms layout.bytes old y) (sym is) (each_get (IsBlockTerms layout.bytes old) xs i x are (omega (arith, lt, count))) in
    row_more a b c all one next (λ v. IsCodeOfPlaces layout (length x) (term_at v a (get_or ss i e)) (block_numbers v a x))
    (λ v. IsCodeOfBlocks layout (map (term_at v old) (drop i ss)) (flat_map (block_numbers v old) (drop i xs)))
    (λ v. IsCodeOfBlocks layout (map (term_at v old) (drop (i + 1) ss)) (flat_map (block_numbers v old) (drop (i + 1) xs)))
    (λ v. IsCodeOfBlocks layout (map (term_at v old) ss) (flat_map (block_numbers v old) xs)) kb h so one_is t
    (λ v.
    let long : length (block_numbers v old x) ≡ layout.bytes * 6 = block_long v old x ∙ ap (λ n. n * 6) here.count in
    let more = blocks_more layout i (block_numbers v old) (term_at v old) xs ss x e lt count (subst (λ y. length (block_numbers v old y) ≡ layout.bytes * 6) is long) in
    rw (term-later old a ka v (get_or ss i e) (each_get (IsNarrow old) ss i e narrow lt).within, block-later old a ka x here.are v, here.count)
    (rw (← is) at more))

pub blocks_end : (layout : Layout) (i : ℕ) (old : List Term) (v : ℕ → ℕ → ℕ) (xs : List (List ByteTerms)) (ss : List TermId) → length ss ≡ length xs → length ss ≤ i
    → IsCodeOfBlocks layout (map (term_at v old) (drop i ss)) (flat_map (block_numbers v old) (drop i xs))
blocks_end layout i old v xs ss count le =
    let e : drop i ss ≡ [] = drop_all i ss le in
    let e' : drop i xs ≡ [] = drop_all i xs (omega (arith, count, le)) in
    rw (e, e') refl
