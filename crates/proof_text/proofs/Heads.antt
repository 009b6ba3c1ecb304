-- The numbers of a head's line.
use Rattle.proof_text.proofs.Common.{ℕ, ◌≡◌, ◌<◌, ◌^◌, List, [], ◌∷◌, ◌++◌, codes, append_assoc, refl, sym, ap, ap₂, ◌∙◌, arith, decimal, decimal_injective, append_cancel_left, Head, IsHead, IsNamed, head_line}
use Rattle.proof_text.proofs.Numbers.{free_decimal}
use Rattle.proof_text.proofs.Splits.{parted}

-- ---- the line from each number on

abbrev pub from_weight : Head → List ℕ
from_weight h = codes "weight " ++ decimal h.weight

abbrev pub from_conflicts : Head → List ℕ
from_conflicts h = codes "conflicts " ++ (decimal h.conflicts ++ 32 ∷ from_weight h)

abbrev pub from_rounds : Head → List ℕ
from_rounds h = codes "rounds " ++ (decimal h.rounds ++ 32 ∷ from_conflicts h)

abbrev pub from_bytes : Head → List ℕ
from_bytes h = codes "bytes " ++ (decimal h.bytes ++ 32 ∷ from_rounds h)

abbrev pub from_blocks : Head → List ℕ
from_blocks h = codes "blocks " ++ (decimal h.blocks ++ 32 ∷ from_bytes h)

abbrev pub from_turns : Head → List ℕ
from_turns h = codes "turns " ++ (decimal h.turns ++ 32 ∷ from_blocks h)

pub head_regroup : (h : Head) → head_line h ≡ from_turns h
head_regroup h = simp append_assoc

-- the line that is written number after number
pub head_pushed : (h : Head) (old a b c d e f new : List ℕ) → a ≡ old ++ (codes "turns " ++ decimal h.turns) → b ≡ a ++ (codes " blocks " ++ decimal h.blocks) → c ≡ b ++ (codes " bytes " ++ decimal h.bytes)
    → d ≡ c ++ (codes " rounds " ++ decimal h.rounds) → e ≡ d ++ (codes " conflicts " ++ decimal h.conflicts) → f ≡ e ++ (codes " weight " ++ decimal h.weight) → new ≡ f ++ 10 ∷ [] → new ≡ old ++ (head_line h ++ 10 ∷ [])
head_pushed h old a b c d e f new ea eb ec ed ee ef en = rw (en, ef, ee, ed, ec, eb, ea) (simp append_assoc)

-- ---- one number after another

pub named : (name line : List ℕ) (n : ℕ) (rest : List ℕ) → n < 2 ^ 63 → line ≡ name ++ (decimal n ++ 32 ∷ rest) → IsNamed name line n rest
named name line n rest small e = record { small = small; is = e ∙ ap (λ t. name ++ t) (simp append_assoc) }

pub unspaced : {name line : List ℕ} {n : ℕ} {rest : List ℕ} → IsNamed name line n rest → line ≡ name ++ (decimal n ++ 32 ∷ rest)
unspaced {name} {line} {n} {rest} k = k.is ∙ ap (λ t. name ++ t) (append_assoc (decimal n) (codes " ") rest)

-- a number after a name is determined, and what follows it
pub same_named : {name line : List ℕ} {n m : ℕ} {x y : List ℕ} → IsNamed name line n x → IsNamed name line m y → (n ≡ m) × (x ≡ y)
same_named {name} {line} {n} {m} {x} {y} k l =
    let small = k.small in
    let other = l.small in
    let inner = append_cancel_left name (decimal n ++ 32 ∷ x) (decimal m ++ 32 ∷ y) (sym (unspaced k) ∙ unspaced l) in
    let apart = parted 32 (decimal n) (decimal m) x y (λ i. free_decimal n 32 (omega arith) (omega arith) i) (λ i. free_decimal m 32 (omega arith) (omega arith) i) inner in
    (decimal_injective n m (omega arith) (omega arith) apart.0, apart.1)

-- ---- the numbers of a head

pub at_turns : {line : List ℕ} (h : Head) → IsHead h → line ≡ head_line h → IsNamed (codes "turns ") line h.turns (from_blocks h)
at_turns {line} h fit e = named (codes "turns ") line h.turns (from_blocks h) fit.turns (e ∙ head_regroup h)

pub at_blocks : {l r : List ℕ} {t : ℕ} (h : Head) → IsHead h → l ≡ head_line h → IsNamed (codes "turns ") l t r → IsNamed (codes "blocks ") r h.blocks (from_bytes h)
at_blocks {l} {r} h fit e kt = named (codes "blocks ") r h.blocks (from_bytes h) fit.blocks (same_named kt (at_turns h fit e)).1

pub at_bytes : {l r s : List ℕ} {t b : ℕ} (h : Head) → IsHead h → l ≡ head_line h → IsNamed (codes "turns ") l t r → IsNamed (codes "blocks ") r b s → IsNamed (codes "bytes ") s h.bytes (from_rounds h)
at_bytes {l} {r} {s} h fit e kt kb = named (codes "bytes ") s h.bytes (from_rounds h) fit.bytes (same_named kb (at_blocks h fit e kt)).1

pub at_rounds : {l r s u : List ℕ} {t b y : ℕ} (h : Head) → IsHead h → l ≡ head_line h → IsNamed (codes "turns ") l t r → IsNamed (codes "blocks ") r b s → IsNamed (codes "bytes ") s y u
    → IsNamed (codes "rounds ") u h.rounds (from_conflicts h)
at_rounds {l} {r} {s} {u} h fit e kt kb ky = named (codes "rounds ") u h.rounds (from_conflicts h) fit.rounds (same_named ky (at_bytes h fit e kt kb)).1

pub at_conflicts : {l r s u v : List ℕ} {t b y o : ℕ} (h : Head) → IsHead h → l ≡ head_line h → IsNamed (codes "turns ") l t r → IsNamed (codes "blocks ") r b s → IsNamed (codes "bytes ") s y u → IsNamed (codes "rounds ") u o v
    → IsNamed (codes "conflicts ") v h.conflicts (from_weight h)
at_conflicts {l} {r} {s} {u} {v} h fit e kt kb ky ko = named (codes "conflicts ") v h.conflicts (from_weight h) fit.conflicts (same_named ko (at_rounds h fit e kt kb ky)).1

pub at_weight : {l r s u v w : List ℕ} {t b y o k : ℕ} (h : Head) → IsHead h → l ≡ head_line h → IsNamed (codes "turns ") l t r → IsNamed (codes "blocks ") r b s → IsNamed (codes "bytes ") s y u → IsNamed (codes "rounds ") u o v → IsNamed (codes "conflicts ") v k w
    → w ≡ codes "weight " ++ decimal h.weight
at_weight h fit e kt kb ky ko kk = (same_named kk (at_conflicts h fit e kt kb ky ko)).1

-- the head of these numbers
abbrev pub head_of : ℕ → ℕ → ℕ → ℕ → ℕ → ℕ → Head
head_of turns blocks bytes rounds conflicts weight = record { turns = turns; blocks = blocks; bytes = bytes; rounds = rounds; conflicts = conflicts; weight = weight }

pub head_read : {l r s u v w : List ℕ} {t b y o k : ℕ} (g : ℕ) → IsNamed (codes "turns ") l t r → IsNamed (codes "blocks ") r b s → IsNamed (codes "bytes ") s y u → IsNamed (codes "rounds ") u o v → IsNamed (codes "conflicts ") v k w
    → g < 2 ^ 63 → w ≡ codes "weight " ++ decimal g → IsHead (head_of t b y o k g) × (l ≡ head_line (head_of t b y o k g))
head_read {l} {r} {s} {u} {v} {w} {t} {b} {y} {o} {k} g kt kb ky ko kk small e =
    let h = head_of t b y o k g in
    let from_kk = unspaced kk ∙ ap (λ (x : List ℕ). codes "conflicts " ++ (decimal k ++ 32 ∷ x)) e in
    let from_ko = unspaced ko ∙ ap (λ (x : List ℕ). codes "rounds " ++ (decimal o ++ 32 ∷ x)) from_kk in
    let from_ky = unspaced ky ∙ ap (λ (x : List ℕ). codes "bytes " ++ (decimal y ++ 32 ∷ x)) from_ko in
    let from_kb = unspaced kb ∙ ap (λ (x : List ℕ). codes "blocks " ++ (decimal b ++ 32 ∷ x)) from_ky in
    let from_kt = unspaced kt ∙ ap (λ (x : List ℕ). codes "turns " ++ (decimal t ++ 32 ∷ x)) from_kb in (
      record { turns = kt.small; blocks = kb.small; bytes = ky.small; rounds = ko.small; conflicts = kk.small; weight = small },
      from_kt ∙ sym (head_regroup h),
    )

-- the head that a line has is determined
pub same_head : (g h : Head) → IsHead g → IsHead h → head_line g ≡ head_line h → g ≡ h
same_head g h fg fh e =
    let own : head_line g ≡ head_line g = refl in
    let kt = at_turns g fg own in
    let kb = at_blocks g fg own kt in
    let ky = at_bytes g fg own kt kb in
    let ko = at_rounds g fg own kt kb ky in
    let kk = at_conflicts g fg own kt kb ky ko in
    let small = fg.weight in
    let other = fh.weight in
    let turns = (same_named kt (at_turns h fh e)).0 in
    let blocks = (same_named kb (at_blocks h fh e kt)).0 in
    let bytes = (same_named ky (at_bytes h fh e kt kb)).0 in
    let rounds = (same_named ko (at_rounds h fh e kt kb ky)).0 in
    let conflicts = (same_named kk (at_conflicts h fh e kt kb ky ko)).0 in
    let weight = decimal_injective g.weight h.weight (omega arith) (omega arith) (append_cancel_left (codes "weight ") (decimal g.weight) (decimal h.weight) (at_weight h fh e kt kb ky ko kk)) in
    ap₂ (λ (t b : ℕ). head_of t b g.bytes g.rounds g.conflicts g.weight) turns blocks
    ∙ ap₂ (λ (b r : ℕ). head_of h.turns h.blocks b r g.conflicts g.weight) bytes rounds
    ∙ ap₂ (λ (c w : ℕ). head_of h.turns h.blocks h.bytes h.rounds c w) conflicts weight
