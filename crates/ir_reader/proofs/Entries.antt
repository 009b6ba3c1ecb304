-- The entries of a module, as a loop makes them, and where its defines are.
use Rattle.ir_reader.proofs.Common.{◌≡◌, ℕ, zero, suc, ◌+◌, ◌-◌, ◌≤◌, List, [], ◌∷◌, ◌++◌, length, drop, Option, Some, None, ◌∙◌, refl, sym, ap, subst, append_assoc, arith, slice_get, IsOkAnd, min, drop-drop, Lexeme, Spot, with_front, Define, IsCut, IsDefine, Entry, Ascend, IsEntry, AreEntries}
use Rattle.std.proofs.Common.{Result, Ok, Err, append-nil}
use Rattle.ir_lexer.specs.declared.lexing.LexFault.{LexFault}
use Rattle.ir_lexer.specs.declared.lexing.LexFault.TheVariants.{NoToken, NoMemory}
use Rattle.ir_lexer.specs.Answer.{IsNext, Stops}
use Rattle.ir_items.specs.Joined.{AreItems}
use Rattle.ir_items.proofs.Joined.{items-of-cut}

-- ---- the defines follow one another

ascend-later : (from end later : ℕ) (defines : List Define) → Ascend from end defines → end ≤ later → Ascend from later defines
ascend-later from end later [] A h = omega (arith, A, h)
ascend-later from end later (d ∷ defines) (a, b, A) h = (a, b, ascend-later (d.last + 1) end later defines A h)

ascend-push : (from end later : ℕ) (defines : List Define) (d : Define) → Ascend from end defines → end ≤ d.first → d.first ≤ d.last + 1 → d.last + 1 ≤ later → Ascend from later (defines ++ d ∷ [])
ascend-push from end later [] d A a b c = (omega (arith, A, a), b, c)
ascend-push from end later (x ∷ xs) d (f, g, A) a b c = (f, g, ascend-push (x.last + 1) end later xs d A a b c)

define-spans : (tokens : List Lexeme) (first place end : ℕ) → IsDefine tokens first place end → (first ≤ end - 1 + 1) × (end - 1 + 1 ≤ end)
define-spans tokens first place end D =
    let named = D.has_body.before.named.before.some in
    let parameters = D.has_body.before.parameters.some in
    let behind = D.has_body.before.behind in
    let body = D.closed.some in
    (omega arith, omega arith)

pub items-ascend : (tokens : List Lexeme) (end : ℕ) (defines : List Define) → AreItems tokens end defines → Ascend 0 end defines
items-ascend tokens _ _ AreItems.nothing = omega arith
items-ascend tokens end defines (AreItems.other {first} items item) = let some = item.goes_on.some in ascend-later 0 first end defines (items-ascend tokens first defines items) (omega arith)
items-ascend tokens _ _ (AreItems.define {first} {place} {end} {name} {defines} items item named) =
    let spans = define-spans tokens first place end item in
    ascend-push 0 first end defines (record { name = name; first = first; last = end - 1 }) (items-ascend tokens first defines items) (omega arith) spans.0 spans.1

pub cut-ascends : (tokens : List Lexeme) (end : ℕ) (defines : List Define) → IsCut tokens end defines → Ascend 0 end defines
cut-ascends tokens end defines cut = items-ascend tokens end defines (items-of-cut tokens end defines cut)

-- the last of them ends before the end
pub ascend-end : (from end : ℕ) (defines : List Define) → Ascend from end defines → from ≤ end
ascend-end from end [] A = A
ascend-end from end (d ∷ defines) (a, b, A) = let rest = ascend-end (d.last + 1) end defines A in omega (arith, a, b, rest)

-- ---- the entries so far

-- The lexer has passed this number of tokens. The other defines follow, whose entries after these make those of all.
pub record SoFar (tokens : List Lexeme) (all left : List Define) (done : ℕ) (lexer : Result (List Lexeme) Spot) (entries : List Entry) : Type 0 where
  pub passed : lexer ≡ Ok (drop done tokens)
  pub ascend : Ascend done (length tokens) left
  pub goes_on : (others : List Entry) → AreEntries tokens left others → AreEntries tokens all (entries ++ others)

pub so-far-start : (tokens : List Lexeme) (all left : List Define) (lexer : Result (List Lexeme) Spot) (entries : List Entry) → left ≡ all → entries ≡ [] → lexer ≡ Ok tokens → IsCut tokens (length tokens) all → SoFar tokens all left 0 lexer entries
so-far-start tokens all left lexer entries l e o cut =
    let start : SoFar tokens all all 0 lexer [] = record { passed = o; ascend = cut-ascends tokens (length tokens) all cut; goes_on = λ others E. E } in
    subst (λ (ds : List Define). SoFar tokens all ds 0 lexer entries) (sym l) (subst (λ (es : List Entry). SoFar tokens all all 0 lexer es) (sym e) start)

pub so-far-more : (tokens : List Lexeme) (all left more : List Define) (done : ℕ) (d : Define) (old new : Result (List Lexeme) Spot) (entries pushed : List Entry) (entry : Entry) → left ≡ d ∷ more → pushed ≡ entries ++ entry ∷ [] → IsEntry tokens d entry → new ≡ Ok (drop (d.last + 1) tokens) → SoFar tokens all left done old entries → SoFar tokens all more (d.last + 1) new pushed
so-far-more tokens all left more done d old new entries pushed entry e p E n S =
    let T = subst (λ (ds : List Define). SoFar tokens all ds done old entries) e S in
    let more_so : SoFar tokens all more (d.last + 1) new (entries ++ entry ∷ []) = record { passed = n; ascend = T.ascend.2; goes_on = λ others F. subst (λ (es : List Entry). AreEntries tokens all es) (sym (append_assoc entries (entry ∷ []) others)) (T.goes_on (entry ∷ others) (E, F)) } in
    subst (λ (es : List Entry). SoFar tokens all more (d.last + 1) new es) (sym p) more_so

-- where the next define is
pub record IsAhead (tokens : List Lexeme) (done : ℕ) (d : Define) : Type 0 where
  pub behind : done ≤ d.first
  pub spans : d.first ≤ d.last + 1
  pub within : d.last + 1 ≤ length tokens
  pub left : d.last + 1 ≤ done + length (drop done tokens)

pub drop-long : (done : ℕ) (ts : List Lexeme) → length ts ≤ done + length (drop done ts)
drop-long zero ts = omega arith
drop-long (suc n) [] = omega arith
drop-long (suc n) (t ∷ ts) = let r = drop-long n ts in omega (arith, r)

pub so-far-ahead : (tokens : List Lexeme) (all left more : List Define) (done : ℕ) (d : Define) (lexer : Result (List Lexeme) Spot) (entries : List Entry) → left ≡ d ∷ more → SoFar tokens all left done lexer entries → IsAhead tokens done d
so-far-ahead tokens all left more done d lexer entries e S =
    let T = subst (λ (ds : List Define). SoFar tokens all ds done lexer entries) e S in
    let rest = ascend-end (d.last + 1) (length tokens) more T.ascend.2 in
    let long = drop-long done tokens in
    record { behind = T.ascend.0; spans = T.ascend.1; within = rest; left = omega (arith, rest, long) }

pub so-far-all : (tokens : List Lexeme) (all left : List Define) (done : ℕ) (lexer : Result (List Lexeme) Spot) (entries : List Entry) → left ≡ [] → SoFar tokens all left done lexer entries → AreEntries tokens all entries
so-far-all tokens all left done lexer entries e S =
    let T = subst (λ (ds : List Define). SoFar tokens all ds done lexer entries) e S in
    subst (λ (es : List Entry). AreEntries tokens all es) (append-nil entries) (T.goes_on [] tt)

-- ---- the lexer

pub ok-and : (P : List Lexeme → Type 0) (r : Result (List Lexeme) Spot) → IsOkAnd r P → (ts : List Lexeme) × (r ≡ Ok ts) × P ts
ok-and P (Ok ts) p = (ts, refl, p)
ok-and P (Err spot) p = absurd p

-- it has passed all up to an index
pub passed : (tokens : List Lexeme) (done first : ℕ) (old new : Result (List Lexeme) Spot) → done ≤ first → old ≡ Ok (drop done tokens) → ((ts : List Lexeme) → old ≡ Ok ts → new ≡ Ok (drop (first - done) ts)) → new ≡ Ok (drop first tokens)
passed tokens done first old new h e s =
    let n : done + (first - done) ≡ first = omega (arith, h) in
    s (drop done tokens) e ∙ ap (λ (ts : List Lexeme). Ok ts) (drop-drop (first - done) done tokens ∙ ap (λ (k : ℕ). drop k tokens) n)

-- enough is left after it
pub enough : (done first end : ℕ) (old new : Result (List Lexeme) Spot) → done ≤ first → first ≤ end → IsOkAnd old (λ ts. end ≤ done + length ts) → ((ts : List Lexeme) → old ≡ Ok ts → new ≡ Ok (drop (first - done) ts)) → IsOkAnd new (λ ts. end - first ≤ length ts)
enough done first end old new h k p s =
    let o = ok-and (λ ts. end ≤ done + length ts) old p in
    let long = drop-long (first - done) o.0 in
    let q = o.2 in
    subst (λ (r : Result (List Lexeme) Spot). IsOkAnd r (λ ts. end - first ≤ length ts)) (sym (s o.0 o.1)) (omega (arith, h, k, q, long))

drop-some : (ts : List Lexeme) (i : ℕ) (t : Lexeme) (rest : List Lexeme) → drop i ts ≡ t ∷ rest → slice_get ts i ≡ Some t
drop-some [] zero t rest e = absurd (cc e)
drop-some [] (suc i) t rest e = absurd (cc e)
drop-some (u ∷ ts) zero t rest e = ap (λ (xs : List Lexeme). slice_get xs 0) e
drop-some (u ∷ ts) (suc i) t rest e = drop-some ts i t rest e

ok-same : (xs ys : List Lexeme) (r : Result (List Lexeme) Spot) → r ≡ Ok xs → r ≡ Ok ys → xs ≡ ys
ok-same xs ys r e f = cc (e, f)

-- its next token is the one at that index
next-some : (tokens : List Lexeme) (i : ℕ) (t : Lexeme) (old new : Result (List Lexeme) Spot) → old ≡ Ok (drop i tokens) → old ≡ with_front (t ∷ []) new → slice_get tokens i ≡ Some t
next-some tokens i t old (Ok rest) e n = drop-some tokens i t rest (ok-same (drop i tokens) (t ∷ rest) old e n)
next-some tokens i t old (Err spot) e n = absurd (cc (e, n))

pub slice-none : (ts : List Lexeme) (i : ℕ) → length ts ≤ i → slice_get ts i ≡ None
slice-none [] i h = refl
slice-none (u ∷ ts) zero h = absurd (omega arith)
slice-none (u ∷ ts) (suc i) h = slice-none ts i (omega (arith, h))

-- it has none: that index is the end
next-none : (tokens : List Lexeme) (i : ℕ) (old : Result (List Lexeme) Spot) → old ≡ Ok (drop i tokens) → old ≡ Ok [] → slice_get tokens i ≡ None
next-none tokens i old e n =
    let long = drop-long i tokens in
    let none : length (drop i tokens) ≡ 0 = ap (λ (xs : List Lexeme). length xs) (ok-same (drop i tokens) [] old e n) in
    slice-none tokens i (omega (arith, long, none))

-- it does not stop
no-stop : (tokens : List Lexeme) (old : Result (List Lexeme) Spot) (fault : LexFault) → old ≡ Ok tokens → Stops old fault → ⊥
no-stop tokens old (NoToken at place) e s = cc (e, s)
no-stop tokens old NoMemory e s = s

-- it answers the token at that index, or none
pub is-at : (tokens : List Lexeme) (i : ℕ) (old new : Result (List Lexeme) Spot) (r : Result (Option Lexeme) LexFault) → old ≡ Ok (drop i tokens) → IsNext old r new → r ≡ Ok (slice_get tokens i)
is-at tokens i old new (Ok (Some t)) e n = ap (λ (o : Option Lexeme). Ok o) (sym (next-some tokens i t old new e n))
is-at tokens i old new (Ok None) e n = ap (λ (o : Option Lexeme). Ok o) (sym (next-none tokens i old e n.0))
is-at tokens i old new (Err fault) e n = absurd (no-stop (drop i tokens) old fault e n.0)

-- at each index past the end is what is at the end
pub get-min : (ts : List Lexeme) (i m : ℕ) → m ≡ min i (length ts) → slice_get ts m ≡ slice_get ts i
get-min [] i m e = refl
get-min (t ∷ ts) zero m e = let z : m ≡ 0 = omega (arith, e) in ap (λ (k : ℕ). slice_get (t ∷ ts) k) z
get-min (t ∷ ts) (suc i) m e =
    let s : m ≡ suc (min i (length ts)) = omega (arith, e) in
    ap (λ (k : ℕ). slice_get (t ∷ ts) k) s ∙ get-min ts i (min i (length ts)) refl

pub none-left : (ds : List Define) → length ds ≡ 0 → ds ≡ []
none-left [] h = refl
none-left (d ∷ ds) h = absurd (omega arith)
