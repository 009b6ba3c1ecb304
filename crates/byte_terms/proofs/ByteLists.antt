-- Lists of bytes made of parts.
use Rattle.byte_terms.proofs.Common.{ℕ, zero, suc, ◌≡◌, ◌<◌, ◌≤◌, ◌+◌, Bool, true, false, cond, List, [], ◌∷◌, ◌++◌, length, take, get_or, map, replicate, Some, slice_get, refl, ap, sym, subst, ◌∙◌, arith, add-one, length-append, Byte, TermId, Term, Keeps, IsTerm, bit_at, SymByte, Each, Reading, AreSymBytes, IsSymByte, byte_at, places_at, each-at, each-push, map-at, map-length, map-push, keeps_trans, bit-later, byte-later, places-later, sym_bytes-later}

pub map-replicate : {A B : Type 0} (f : A → B) (n : ℕ) (x : A) → map f (replicate n x) ≡ replicate n (f x)
map-replicate f zero x = refl
map-replicate f (suc n) x = ap (λ ys. f x ∷ ys) (map-replicate f n x)

pub each-replicate : {A : Type 0} (P : A → Type 0) (n : ℕ) (x : A) → P x → Each P (replicate n x)
each-replicate P zero x h = tt
each-replicate P (suc n) x h = (h, each-replicate P n x h)

pub length-replicate : {A : Type 0} (n : ℕ) (x : A) → length (replicate n x) ≡ n
length-replicate zero x = refl
length-replicate (suc n) x = ap suc (length-replicate n x)

pub replicate-get : {A : Type 0} (n : ℕ) (x : A) (k : ℕ) → k < n → slice_get (replicate n x) k ≡ Some x
replicate-get zero x k within = absurd (omega arith)
replicate-get (suc n) x zero within = refl
replicate-get (suc n) x (suc k) within = replicate-get n x k (omega arith)

-- ---- one of two lists, byte by byte

choice-push : (e : Bool) (xs ys : List Byte) (x y : Byte) → cond e xs ys ++ cond e x y ∷ [] ≡ cond e (xs ++ x ∷ []) (ys ++ y ∷ [])
choice-push true xs ys x y = refl
choice-push false xs ys x y = refl

take_push : (xs : List Byte) (i : ℕ) (x d : Byte) → i < length xs → get_or xs i d ≡ x → take i xs ++ x ∷ [] ≡ take (i + 1) xs
take_push [] i x d lt e = absurd (omega arith)
take_push (y ∷ ys) zero x d lt e = ap (λ z. z ∷ []) (sym e)
take_push (y ∷ ys) (suc i) x d lt e = rw add-one (ap (λ zs. y ∷ zs) (rw add-one at (take_push ys i x d (omega arith) e)))

pub take_all : {A : Type 0} (xs : List A) (i : ℕ) → length xs ≤ i → take i xs ≡ xs
take_all [] zero h = refl
take_all [] (suc i) h = refl
take_all (x ∷ xs) zero h = absurd (omega arith)
take_all (x ∷ xs) (suc i) h = ap (λ ys. x ∷ ys) (take_all xs i (omega arith))

pub bytes_more : (old a b : List Term) (c : TermId) (xs ys picked new : List SymByte) (i : ℕ) (x y one : SymByte) → IsTerm old 1 c
    → AreSymBytes old xs → AreSymBytes old ys → length ys ≡ length xs → i < length xs → x ≡ get_or xs i x → y ≡ get_or ys i y
    → Keeps old a → AreSymBytes a picked → length picked ≡ i
    → ((r : Reading) → places_at r a picked ≡ cond (bit_at r.v old c) (take i (places_at r old xs)) (take i (places_at r old ys)))
    → Keeps a b → IsSymByte b one → ((r : Reading) → byte_at r b one ≡ cond (bit_at r.v a c) (byte_at r a x) (byte_at r a y)) → new ≡ picked ++ one ∷ []
    → Keeps old b × AreSymBytes b new × (length new ≡ i + 1) × (i + 1 ≤ length xs) × ((r : Reading) → places_at r b new ≡ cond (bit_at r.v old c) (take (i + 1) (places_at r old xs)) (take (i + 1) (places_at r old ys)))
bytes_more old a b c xs ys picked new i x y one hc hxs hys len lt ix iy ka hp count so kb hr sr is =
    let hx = each-at (IsSymByte old) xs i x hxs lt ix in
    let hy = each-at (IsSymByte old) ys i y hys (omega arith) iy in (
      keeps_trans old a b ka kb,
      subst (AreSymBytes b) (sym is) (each-push (IsSymByte b) picked one (sym_bytes-later a b kb picked hp) hr),
      ap length is ∙ omega (arith, count, length-append picked (one ∷ [])),
      omega (arith, lt),
      λ r.
          let e_r : byte_at r b one ≡ cond (bit_at r.v old c) (byte_at r old x) (byte_at r old y) =
          sr r ∙ rw (bit-later old a ka r.v c hc.within, byte-later old a ka r x hx, byte-later old a ka r y hy) refl in
          ap (places_at r b) is ∙ (map-push (byte_at r b) picked one
          ∙ (ap (λ zs. zs ++ byte_at r b one ∷ []) (places-later a b kb r picked hp ∙ so r)
          ∙ (ap (λ z. cond (bit_at r.v old c) (take i (places_at r old xs)) (take i (places_at r old ys)) ++ z ∷ []) e_r
          ∙ (choice-push (bit_at r.v old c) (take i (places_at r old xs)) (take i (places_at r old ys)) (byte_at r old x) (byte_at r old y)
          ∙ rw (
            take_push (places_at r old xs) i (byte_at r old x) (byte_at r old x) (omega (arith, map-length (byte_at r old) xs)) (map-at (byte_at r old) xs i x (byte_at r old x) lt ix),
            take_push (places_at r old ys) i (byte_at r old y) (byte_at r old y) (omega (arith, map-length (byte_at r old) ys)) (map-at (byte_at r old) ys i y (byte_at r old y) (omega arith) iy),
          ) refl)))),
    )
