-- Each item of a list in turn, as a loop goes over them.
use Rattle.ir_numbering.proofs.Common.{◌≡◌, ℕ, suc, ◌+◌, ◌<◌, List, [], ◌∷◌, ◌++◌, length, drop, get_or, refl, sym, ap, ◌∙◌, append_assoc, add-one, drop-cons, flat_map, Name, Numbered, so, each_in, ◌>>=◌}

-- ---- items that are numbered

abbrev pub in_front : {B : Type 0} → List B → Numbered (List B) → Numbered (List B)
in_front front (so ys names) = so (front ++ ys) names

pub front-nil : {B : Type 0} (r : Numbered (List B)) → r ≡ in_front [] r
front-nil (so ys names) = refl

front-cons : {B : Type 0} (front : List B) (y : B) (r : Numbered (List B)) → in_front front (r >>= λ others after. so (y ∷ others) after) ≡ in_front (front ++ y ∷ []) r
front-cons {B} front y (so ys names) = ap (λ (zs : List B). so zs names) (sym (append_assoc front (y ∷ []) ys))

pub each-more : {A B : Type 0} (one : List Name → A → Numbered B) (t next : List Name) (x : A) (xs ys : List A) (out : List B) (y : B) (whole : Numbered (List B)) → ys ≡ x ∷ xs → one t x ≡ so y next → whole ≡ in_front out (each_in one t ys) → whole ≡ in_front (out ++ y ∷ []) (each_in one next xs)
each-more one t next x xs ys out y whole e is kept = kept ∙ ap (λ zs. in_front out (each_in one t zs)) e ∙ rw is (front-cons out y (each_in one next xs))

-- ---- items whose parts go after others

pub flat-more : {A B : Type 0} (f : A → List B) (xs : List A) (i : ℕ) (x : A) (before after whole : List B)
    → i < length xs → x ≡ get_or xs i x → after ≡ before ++ f x → before ++ flat_map f (drop i xs) ≡ whole → after ++ flat_map f (drop (i + 1) xs) ≡ whole
flat-more {A} {B} f xs i x before after whole lt is e kept =
    let at : drop i xs ≡ x ∷ drop (i + 1) xs = drop-cons xs i x lt ∙ ap (λ (y : A). y ∷ drop (suc i) xs) (sym is) ∙ ap (λ (k : ℕ). x ∷ drop k xs) (sym (add-one i)) in
    ap (λ (bs : List B). bs ++ flat_map f (drop (i + 1) xs)) e ∙ append_assoc before (f x) (flat_map f (drop (i + 1) xs)) ∙ sym (ap (λ (ys : List A). before ++ flat_map f ys) at) ∙ kept
