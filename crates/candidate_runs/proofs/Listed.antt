-- The numbers of the integer arguments, and the words of a candidate.
use Rattle.candidate_runs.proofs.Common.{ℕ, zero, suc, ◌≡◌, ◌<◌, ◌≤◌, ◌+◌, ◌⊎◌, inl, inr, min, cases_lt, List, [], ◌∷◌, ◌++◌, length, map, drop, take, get_or, refl, sym, ap, subst, ◌∙◌, arith, add-one, zero-add, append-nil, append_assoc, set, drop_more, drop_all, take_more, take_all, flat_map, slice_index, IrType, Parameter, Value, integer, integers, templates, words_of, AreTemplates, counted, function_of, integer_count, Candidate, Plus, Minus, Xor}
use Rattle.ir_tree.specs.declared.tree.IrType.TheVariants as type
use Rattle.byte_block.specs.declared.value.Value.TheVariants as value
use Rattle.verdicts.specs.Covers.{number_or_0}
use Rattle.std.proofs.Math.Seq.{take-suc-set}
use Rattle.std.proofs.lemmas.List.FromFn.{map-range_with_len_more}

pub words_more : (words : List ℕ) (i w : ℕ) (s : ℕ → ℕ) → i < length words → take i words ≡ words_of i s → w ≡ s i → take (i + 1) (set words i w) ≡ words_of (i + 1) s
words_more words i w s below done is =
    ap (λ n. take n (set words i w)) (add-one i) ∙ take-suc-set words i w below ∙ ap (λ xs. xs ++ w ∷ []) done ∙ ap (λ x. words_of i s ++ x ∷ []) is ∙ sym (map-range_with_len_more s 0 i i (zero-add i))

-- ---- integer arguments

integers_step : (ps : List Parameter) (vs : List Value) (i : ℕ) (d : Parameter) (e : Value) → i < length ps → i < length vs
    → integers (drop i ps) (drop i vs) ≡ integer (get_or ps i d).of_type (get_or vs i e) ++ integers (drop (i + 1) ps) (drop (i + 1) vs)
unfolding integers
integers_step ps vs i d e lp lv = rw (drop_more ps i d lp, drop_more vs i e lv) refl

integers_more : (ps : List Parameter) (vs : List Value) (i : ℕ) (d : Parameter) (e : Value) (t : IrType) (done after : List ℕ) → i < length ps → i < length vs → (get_or ps i d).of_type ≡ t → after ≡ done ++ integer t (get_or vs i e)
    → done ++ integers (drop i ps) (drop i vs) ≡ integers ps vs → after ++ integers (drop (i + 1) ps) (drop (i + 1) vs) ≡ integers ps vs
integers_more ps vs i d e t done after lp lv of_type is h =
    let rest = integers (drop (i + 1) ps) (drop (i + 1) vs) in
    let here = integer (get_or ps i d).of_type (get_or vs i e) in
    ap (λ (xs : List ℕ). xs ++ rest) (is ∙ ap (λ (t : IrType). done ++ integer t (get_or vs i e)) (sym of_type)) ∙ append_assoc done here rest ∙ ap (λ (xs : List ℕ). done ++ xs) (sym (integers_step ps vs i d e lp lv)) ∙ h

pub integers_int : (ps : List Parameter) (vs : List Value) (i : ℕ) (d : Parameter) (e : Value) (t : IrType) (done after : List ℕ) (m : ℕ) → i < length ps → i < length vs → (get_or ps i d).of_type ≡ t → integer t (get_or vs i e) ≡ number_or_0 (get_or vs i e) ∷ [] → m ≡ number_or_0 (get_or vs i e) → after ≡ done ++ m ∷ []
    → done ++ integers (drop i ps) (drop i vs) ≡ integers ps vs → after ++ integers (drop (i + 1) ps) (drop (i + 1) vs) ≡ integers ps vs
integers_int ps vs i d e t done after m lp lv of_type one n is h = integers_more ps vs i d e t done after lp lv of_type (is ∙ ap (λ x. done ++ x ∷ []) n ∙ ap (λ xs. done ++ xs) (sym one)) h

pub integers_ptr : (ps : List Parameter) (vs : List Value) (i : ℕ) (d : Parameter) (done after : List ℕ) → i < length ps → i < length vs → (get_or ps i d).of_type ≡ type.Ptr → after ≡ done
    → done ++ integers (drop i ps) (drop i vs) ≡ integers ps vs → after ++ integers (drop (i + 1) ps) (drop (i + 1) vs) ≡ integers ps vs
integers_ptr ps vs i d done after lp lv of_type is h = integers_more ps vs i d value.Poison type.Ptr done after lp lv of_type (is ∙ sym (append-nil done)) h

no_integers_left : (ps : List Parameter) → integers ps [] ≡ []
unfolding integers
no_integers_left [] = refl
no_integers_left (p ∷ ps) = refl

no_integers_right : (vs : List Value) → integers [] vs ≡ []
unfolding integers
no_integers_right [] = refl
no_integers_right (v ∷ vs) = refl

pub integers_end : (ps : List Parameter) (vs : List Value) (i : ℕ) (done : List ℕ) → (length ps ≤ i) ⊎ (length vs ≤ i) → done ++ integers (drop i ps) (drop i vs) ≡ integers ps vs → done ≡ integers ps vs
integers_end ps vs i done past h = sym (append-nil done) ∙ ap (λ (xs : List ℕ). done ++ xs) (sym (none past)) ∙ h
  where
    none : (length ps ≤ i) ⊎ (length vs ≤ i) → integers (drop i ps) (drop i vs) ≡ []
    none (inl le) = ap (λ (qs : List Parameter). integers qs (drop i vs)) (drop_all i ps le) ∙ no_integers_right (drop i vs)
    none (inr le) = ap (λ (ws : List Value). integers (drop i ps) ws) (drop_all i vs le) ∙ no_integers_left (drop i ps)

pub past_least : (a b i : ℕ) → min a b ≤ i → (a ≤ i) ⊎ (b ≤ i)
past_least a b i le = elim (cases_lt a b) [
  | inl lt ↦ inl (omega (arith, le, lt))
  | inr ge ↦ inr (omega (arith, le, ge))
]

-- one number for each integer parameter
counted_length : (t : IrType) (v : Value) (rest : List ℕ) (n : ℕ) → length rest ≡ n → length (integer t v ++ rest) ≡ counted t n
counted_length (type.Int width) v rest n e = ap suc e
counted_length type.Ptr v rest n e = e

pub integers-length : (ps : List Parameter) (vs : List Value) → length vs ≡ length ps → length (integers ps vs) ≡ integer_count ps
unfolding integers integer_count
integers-length [] [] e = refl
integers-length (p ∷ ps) (v ∷ vs) e = counted_length p.of_type v (integers ps vs) (integer_count ps) (integers-length ps vs (omega (arith, e)))
integers-length [] (v ∷ vs) e = absurd (omega (arith, e))
integers-length (p ∷ ps) [] e = absurd (omega (arith, e))

-- ---- templates

flat_map-append : {A B : Type 0} (f : A → List B) (xs ys : List A) → flat_map f (xs ++ ys) ≡ flat_map f xs ++ flat_map f ys
flat_map-append f [] ys = refl
flat_map-append f (x ∷ xs) ys = ap (λ zs. f x ++ zs) (flat_map-append f xs ys) ∙ sym (append_assoc (f x) (flat_map f xs) (flat_map f ys))

map-append' : {A B : Type 0} (f : A → B) (xs ys : List A) → map f (xs ++ ys) ≡ map f xs ++ map f ys
map-append' f [] ys = refl
map-append' f (x ∷ xs) ys = ap (λ zs. f x ∷ zs) (map-append' f xs ys)

three_pushed : (a b c d : List Candidate) (x y z : Candidate) → b ≡ a ++ x ∷ [] → c ≡ b ++ y ∷ [] → d ≡ c ++ z ∷ [] → d ≡ a ++ (x ∷ y ∷ z ∷ [])
three_pushed a b c d x y z e f g = g ∙ ap (λ xs. xs ++ z ∷ []) (f ∙ ap (λ xs. xs ++ y ∷ []) e ∙ append_assoc a (x ∷ []) (y ∷ [])) ∙ append_assoc a (x ∷ y ∷ []) (z ∷ [])

-- the templates of the first k numbers
abbrev pub AreFirst : ℕ → List Candidate → Type 0
AreFirst k cs = (numbers tape : List ℕ) → k ≤ length numbers → map (function_of numbers tape) cs ≡ flat_map (templates tape) (take k numbers)

pub templates_more : (k : ℕ) (a b c d : List Candidate) → b ≡ a ++ Plus k ∷ [] → c ≡ b ++ Minus k ∷ [] → d ≡ c ++ Xor k ∷ [] → AreFirst k a → AreFirst (k + 1) d
templates_more k a b c d e f g first numbers tape le =
    let lt : k < length numbers = omega (arith, le) in
    ap (map (function_of numbers tape)) (three_pushed a b c d (Plus k) (Minus k) (Xor k) e f g)
    ∙ map-append' (function_of numbers tape) a (Plus k ∷ Minus k ∷ Xor k ∷ [])
    ∙ ap (λ xs. xs ++ templates tape (slice_index numbers k)) (first numbers tape (omega (arith, lt)))
    ∙ sym (flat_map-append (templates tape) (take k numbers) (slice_index numbers k ∷ []))
    ∙ ap (flat_map (templates tape)) (sym (take_more numbers k 0 lt))

pub templates_end : (k count : ℕ) (cs : List Candidate) → k ≡ count → AreFirst k cs → AreTemplates count cs
templates_end k count cs e first numbers tape long =
    first numbers tape (omega (arith, e, long)) ∙ ap (flat_map (templates tape)) (take_all k numbers (omega (arith, e, long)))

-- ---- counting

pub count_more : (ps : List Parameter) (i n m : ℕ) (p : Parameter) (t : IrType) → i < length ps → p ≡ get_or ps i p → p.of_type ≡ t → m + integer_count (drop (i + 1) ps) ≡ n + counted t (integer_count (drop (i + 1) ps))
    → n + integer_count (drop i ps) ≡ integer_count ps → m + integer_count (drop (i + 1) ps) ≡ integer_count ps
unfolding integer_count
count_more ps i n m p t lt is of_type step h = step ∙ ap (λ (t : IrType). n + counted t (integer_count (drop (i + 1) ps))) (sym of_type) ∙ (rw (drop_more ps i p lt, ← is) at h)

pub count_end : (ps : List Parameter) (i n : ℕ) → length ps ≤ i → n + integer_count (drop i ps) ≡ integer_count ps → n ≡ integer_count ps
unfolding integer_count
count_end ps i n le h = let none : integer_count (drop i ps) ≡ 0 = ap integer_count (drop_all i ps le) in omega (arith, none, h)
