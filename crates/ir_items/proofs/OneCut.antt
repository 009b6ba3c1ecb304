-- The items of a text, or its stop, are one.
use Rattle.ir_items.proofs.Common.{◌≡◌, ◌⊎◌, ℕ, ◌-◌, ◌<◌, ◌≤◌, false, List, [], ◌∷◌, ◌++◌, length, Some, refl, sym, ap, subst, ◌∙◌, inl, inr, arith, Lexeme, Name, Define, Why, IsOther, IsDefine, name_at, has_name, IsCut, StopsAt, IsStop}
use Rattle.ir_items.proofs.Phases.{wrong_and_right}
use Rattle.ir_items.proofs.Ends.{other_one, define_one, define_rises}
use Rattle.ir_items.proofs.OneStop.{one_stop, stop_first, other_apart, define_apart}

-- ---- one item more

abbrev added : List Define → Name → ℕ → ℕ → List Define
added old name first end = old ++ record { name = name; first = first; last = end - 1 } ∷ []

-- after some defines an item begins at an index and ends before another, with these defines then
data Step (tokens : List Lexeme) (first : ℕ) (old : List Define) : ℕ → List Define → Type 0 where
  other : {end : ℕ} → IsOther tokens first end → Step tokens first old end old
  define : {place end : ℕ} {name : Name} → IsDefine tokens first place end → name_at tokens place ≡ Some name → has_name old name ≡ false → length old < 4096 → Step tokens first old end (added old name first end)

step_some : (tokens : List Lexeme) (first : ℕ) (old : List Define) (end : ℕ) (new : List Define) → Step tokens first old end new → first < end
step_some tokens first old end new (Step.other item) = item.goes_on.some
step_some tokens first old end new (Step.define {place = place} item named fresh few) = let rises = define_rises tokens first place end item in omega (arith, rises.0, rises.1, rises.2, rises.3)

step_one : (tokens : List Lexeme) (first : ℕ) (old : List Define) (c : ℕ) (f : List Define) (d : ℕ) (g : List Define) → Step tokens first old c f → Step tokens first old d g → (c ≡ d) × (f ≡ g)
step_one tokens first old c f d g (Step.other x) (Step.other y) = (other_one tokens first c d x y, refl)
step_one tokens first old c f d g (Step.other x) (Step.define item named fresh few) = wrong_and_right x.goes_on.other item.has_body.before.named.before.word
step_one tokens first old c f d g (Step.define item named fresh few) (Step.other y) = wrong_and_right y.goes_on.other item.has_body.before.named.before.word
step_one tokens first old c f d g (Step.define {place = m} {name = x} item named fresh few) (Step.define {place = n} {name = y} item_too named_too fresh_too few_too) =
    let places = define_one tokens first m n c d item item_too in
    let spellings : Some x ≡ Some y = sym named ∙ ap (name_at tokens) places.0 ∙ named_too in
    let names : x ≡ y = cc spellings in
    (places.1, ap (λ (k : Name). added old k first c) names ∙ ap (λ (e : ℕ). added old y first e) places.1)

step_apart : (tokens : List Lexeme) (first : ℕ) (old : List Define) (end : ℕ) (new : List Define) (place : ℕ) (reason : Why) → Step tokens first old end new → StopsAt tokens old first place reason → ⊥
step_apart tokens first old end new place reason (Step.other item) stop = other_apart tokens old first end place reason item stop
step_apart tokens first old end new place reason (Step.define {place = at} {name = name} item named fresh few) stop = define_apart tokens old first at end place reason name item named fresh few stop

-- ---- items one after another, to an index

-- from another index, after other defines
data Chain (tokens : List Lexeme) (place : ℕ) (defines : List Define) : ℕ → List Define → Type 0 where
  here : Chain tokens place defines place defines
  next : {first end : ℕ} {old new : List Define} → Step tokens first old end new → Chain tokens place defines end new → Chain tokens place defines first old

chain_more : (tokens : List Lexeme) (place end : ℕ) (defines more : List Define) (first : ℕ) (old : List Define) → Chain tokens place defines first old → Step tokens place defines end more → Chain tokens end more first old
chain_more tokens place end defines more first old Chain.here s = Chain.next s Chain.here
chain_more tokens place end defines more first old (Chain.next {end = end_too} {new = new} t rest) s = Chain.next t (chain_more tokens place end defines more end_too new rest s)

chain_of : (tokens : List Lexeme) (place : ℕ) (defines : List Define) → IsCut tokens place defines → Chain tokens place defines 0 []
chain_of tokens place defines IsCut.nothing = Chain.here
chain_of tokens place defines (IsCut.other {first = first} cut item) = chain_more tokens first place defines defines 0 [] (chain_of tokens first defines cut) (Step.other item)
chain_of tokens place defines (IsCut.define {first = first} {defines = old} cut item named fresh few) =
    chain_more tokens first place old defines 0 [] (chain_of tokens first old cut) (Step.define item named fresh few)

chain_le : (tokens : List Lexeme) (place : ℕ) (defines : List Define) (first : ℕ) (old : List Define) → Chain tokens place defines first old → first ≤ place
chain_le tokens place defines first old Chain.here = omega arith
chain_le tokens place defines first old (Chain.next {end = end} {new = new} s rest) = omega (arith, step_some tokens first old end new s, chain_le tokens place defines end new rest)

-- to where it begins nothing is added
chain_stays : (tokens : List Lexeme) (place : ℕ) (defines : List Define) (first : ℕ) (old : List Define) → Chain tokens place defines first old → place ≤ first → defines ≡ old
chain_stays tokens place defines first old Chain.here le = refl
chain_stays tokens place defines first old (Chain.next {end = end} {new = new} s rest) le = absurd (omega (arith, step_some tokens first old end new s, chain_le tokens place defines end new rest))

-- of two from one index, one is a prefix of the other
fronts : (tokens : List Lexeme) (a : ℕ) (d : List Define) (c : ℕ) (f : List Define) (first : ℕ) (old : List Define) → Chain tokens a d first old → Chain tokens c f first old → Chain tokens a d c f ⊎ Chain tokens c f a d
fronts tokens a d c f first old Chain.here y = inr y
fronts tokens a d c f first old (Chain.next s rest) Chain.here = inl (Chain.next s rest)
fronts tokens a d c f first old (Chain.next {end = p} {new = g} s rest) (Chain.next {end = q} {new = h} t more) =
    let same = step_one tokens first old p g q h s t in
    fronts tokens a d c f p g rest (subst (λ (k : ℕ). Chain tokens c f k g) (sym same.0) (subst (λ (ds : List Define). Chain tokens c f q ds) (sym same.1) more))

-- ---- whole cuts and stops

-- no items go on from a stop
stop_last : (tokens : List Lexeme) (place : ℕ) (defines : List Define) (first : ℕ) (old : List Define) (at : ℕ) (reason : Why) → Chain tokens place defines first old → StopsAt tokens old first at reason → place ≡ first
stop_last tokens place defines first old at reason Chain.here stop = refl
stop_last tokens place defines first old at reason (Chain.next {end = end} {new = new} s rest) stop = absurd (step_apart tokens first old end new at reason s stop)

pub one_cut : (tokens : List Lexeme) (d e : List Define) → IsCut tokens (length tokens) d → IsCut tokens (length tokens) e → d ≡ e
one_cut tokens d e x y =
    elim (fronts tokens (length tokens) d (length tokens) e 0 [] (chain_of tokens (length tokens) d x) (chain_of tokens (length tokens) e y)) [
      | inl chain ↦ chain_stays tokens (length tokens) d (length tokens) e chain (omega arith)
      | inr chain ↦ sym (chain_stays tokens (length tokens) e (length tokens) d chain (omega arith))
    ]

pub cut_apart : (tokens : List Lexeme) (d : List Define) (place : ℕ) (reason : Why) → IsCut tokens (length tokens) d → IsStop tokens place reason → ⊥
cut_apart tokens d place reason x stop =
    let lo : stop.first < length tokens = stop_first tokens stop.defines stop.first place reason stop.stops in
    elim (fronts tokens (length tokens) d stop.first stop.defines 0 [] (chain_of tokens (length tokens) d x) (chain_of tokens stop.first stop.defines stop.items)) [
      | inl chain ↦ absurd (omega (arith, stop_last tokens (length tokens) d stop.first stop.defines place reason chain stop.stops))
      | inr chain ↦ absurd (omega (arith, chain_le tokens stop.first stop.defines (length tokens) d chain))
    ]

both_stop : (tokens : List Lexeme) (a : ℕ) (d : List Define) (b : ℕ) (e : List Define) (p q : ℕ) (v w : Why) → Chain tokens a d b e → StopsAt tokens d a p v → StopsAt tokens e b q w → (p ≡ q) × (v ≡ w)
both_stop tokens a d b e p q v w Chain.here x y = one_stop tokens d a p q v w x y
both_stop tokens a d b e p q v w (Chain.next {end = end} {new = new} s rest) x y = absurd (step_apart tokens b e end new q w s y)

pub one_stop_of_all : (tokens : List Lexeme) (p q : ℕ) (v w : Why) → IsStop tokens p v → IsStop tokens q w → (p ≡ q) × (v ≡ w)
one_stop_of_all tokens p q v w x y =
    elim (fronts tokens x.first x.defines y.first y.defines 0 [] (chain_of tokens x.first x.defines x.items) (chain_of tokens y.first y.defines y.items)) [
      | inl chain ↦ both_stop tokens x.first x.defines y.first y.defines p q v w chain x.stops y.stops
      | inr chain ↦
          let both : (q ≡ p) × (w ≡ v) = both_stop tokens y.first y.defines x.first x.defines q p w v chain y.stops x.stops in
          (sym both.0, sym both.1)
    ]
