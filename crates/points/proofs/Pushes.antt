-- A loop that pushes the code of each item after the code so far.
use Rattle.points.proofs.Common.{◌≡◌, ℕ, ◌+◌, ◌<◌, ◌≤◌, List, ◌∷◌, ◌++◌, length, get_or, drop, Some, slice_get, sym, ap, ◌∙◌, append_assoc, append-nil, flat_map, drop_more, at_drop_all, get_or_from_slice_get, Parameter, Value, Layout, value_code, args_code}

drop_item : {A : Type 0} (xs : List A) (i : ℕ) (x : A) → i < length xs → x ≡ get_or xs i x → drop i xs ≡ x ∷ drop (i + 1) xs
drop_item xs i x within is = drop_more xs i x within ∙ ap (λ y. y ∷ drop (i + 1) xs) (sym is)

pub pushed : {A : Type 0} (f : A → List ℕ) (xs : List A) (i : ℕ) (x : A) (code more whole : List ℕ) → i < length xs → x ≡ get_or xs i x → more ≡ code ++ f x → code ++ flat_map f (drop i xs) ≡ whole → more ++ flat_map f (drop (i + 1) xs) ≡ whole
pushed f xs i x code more whole within is push all =
    rw (push, append_assoc) (ap (λ ys. code ++ flat_map f ys) (sym (drop_item xs i x within is)) ∙ all)

pub all_pushed : {A : Type 0} (f : A → List ℕ) (xs : List A) (i : ℕ) (code whole : List ℕ) → length xs ≤ i → code ++ flat_map f (drop i xs) ≡ whole → code ≡ whole
all_pushed f xs i code whole past all = sym (append-nil code) ∙ sym (ap (λ ys. code ++ ys) (at_drop_all (flat_map f) xs i past)) ∙ all

pub args_pushed : (layout : Layout) (ps : List Parameter) (vs : List Value) (i : ℕ) (p : Parameter) (v : Value) (code more whole : List ℕ) → i < length ps → i < length vs → p ≡ get_or ps i p → slice_get vs i ≡ Some v → more ≡ code ++ value_code layout p.of_type v → code ++ args_code layout (drop i ps) (drop i vs) ≡ whole → more ++ args_code layout (drop (i + 1) ps) (drop (i + 1) vs) ≡ whole
args_pushed layout ps vs i p v code more whole within within' is is' push all =
    let e = drop_item ps i p within is in
    let e' = drop_item vs i v within' (sym (get_or_from_slice_get vs i v v is')) in
    let all' = rw (e, e') at all in
    rw (push, append_assoc) all'

pub all_args_pushed : (layout : Layout) (ps : List Parameter) (vs : List Value) (i : ℕ) (code whole : List ℕ) → length ps ≤ i → code ++ args_code layout (drop i ps) (drop i vs) ≡ whole → code ≡ whole
all_args_pushed layout ps vs i code whole past all = sym (append-nil code) ∙ sym (ap (λ ys. code ++ ys) (at_drop_all (λ qs. args_code layout qs (drop i vs)) ps i past)) ∙ all

pub pushed_at : {A : Type 0} (f : A → List ℕ) (xs : List A) (i : ℕ) (d : A) (code more whole : List ℕ) → i < length xs → more ≡ code ++ f (get_or xs i d) → code ++ flat_map f (drop i xs) ≡ whole → more ++ flat_map f (drop (i + 1) xs) ≡ whole
pushed_at f xs i d code more whole within push all =
    rw (push, append_assoc) (ap (λ ys. code ++ flat_map f ys) (sym (drop_more xs i d within)) ∙ all)
