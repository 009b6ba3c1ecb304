-- The table of names: a copy of the function's, and words that are longer than each of them.
use Rattle.std.proofs.Common.{◌≡◌, ◌⊎◌, ◌+◌, ◌-◌, ◌<◌, ◌≤◌, ◌||◌, ◌++◌, ℕ, suc, max, not, Bool, true, false, cond, List, [], ◌∷◌, length, get_or, take, drop, replicate, slice_get, Some, None, inl, inr, refl, sym, ◌∙◌, ap, arith, append-nil, add-one}
use Rattle.std.specs.List.{list_any}
use Rattle.std.specs.Str.{bytes_eq}
use Rattle.std.proofs.lemmas.Bool.{cases_Bool}
use Rattle.std.proofs.lemmas.List.{append_assoc, drop_more, length-replicate}
use Rattle.std.proofs.lemmas.Option.{get_or_from_slice_get, slice_get-get_or}
use Rattle.std.proofs.Math.Seq.{take-suc}
use Rattle.std.proofs.lemmas.Slice.Eq.{bytes_eq-Decides}
use Rattle.ir_tree.specs.declared.name.Name.{Name}
use Rattle.ir_tree.specs.declared.name.Name.TheVariants.{Number, Word}
use Rattle.ir_tree.specs.declared.tree.Function.{Function}
use Rattle.ir_tree.specs.declared.tree.Operand.TheVariants.{Local}
use Rattle.ir_tree.specs.Carrying.{leaf_count}
use Rattle.ir_tree.specs.Names.{number_of, same_name, with_name}
use Rattle.lowering.specs.Lowered.{longest, most_leaves, spelling_length, words_from}

-- ---- a name that is new

has-less : (names : List Name) (name : Name) → list_any (same_name name) names ≡ true → number_of names name < length names
has-less [] name e = let never : false ≡ true = e in cc
has-less (x ∷ names) name e = go (same_name name x) (has-less names name) e
  where
    go : (b : Bool) → (list_any (same_name name) names ≡ true → number_of names name < length names) → (b || list_any (same_name name) names) ≡ true → cond (not b) (1 + number_of names name) 0 < suc (length names)
    go true rest e = omega arith
    go false rest e = let less = rest e in omega (arith, less)

-- one whose number is that of names is appended
pub with_next : (names : List Name) (name : Name) → number_of names name ≡ length names → with_name names name ≡ names ++ name ∷ []
with_next names name next = by (cases_Bool (list_any (same_name name) names))
  where
    by : (list_any (same_name name) names ≡ true) ⊎ (list_any (same_name name) names ≡ false) → with_name names name ≡ names ++ name ∷ []
    by (inl known) = absurd (let less = has-less names name known in omega (arith, less, next))
    by (inr new) = ap (λ (b : Bool). cond b names (names ++ name ∷ [])) new

-- ---- the names of a table, in order

-- a table has a name at each number below its length
pub no_gap : (names : List Name) (at : ℕ) → at < length names → slice_get names at ≡ None → ⊥
no_gap names at below none = let never : None ≡ Some (get_or names at (Word [])) = sym none ∙ slice_get-get_or names at (Word []) below in cc

pub is_at : (names : List Name) (at : ℕ) (name : Name) → slice_get names at ≡ Some name → name ≡ get_or names at name
is_at names at name is = sym (get_or_from_slice_get names at name name is)

pub taken_more : (names : List Name) (at : ℕ) (name : Name) → at < length names → slice_get names at ≡ Some name → take at names ++ name ∷ [] ≡ take (at + 1) names
taken_more names at name below is = sym (ap (λ (n : ℕ). take n names) (add-one at) ∙ (take-suc names at name below ∙ ap (λ (x : Name). take at names ++ x ∷ []) (sym (is_at names at name is))))

-- a copy of the first names with one name more
pub copied_more : (names copy new : List Name) (at : ℕ) (name own : Name) → at < length names → Some own ≡ slice_get names at → name ≡ own → copy ≡ take at names → new ≡ copy ++ name ∷ [] → new ≡ take (at + 1) names
copied_more names copy new at name own below there same before is =
    is ∙ (ap (λ (ns : List Name). ns ++ name ∷ []) before ∙ taken_more names at name below (sym there ∙ ap Some (sym same)))

-- ---- longer words

differs : (bytes other : List ℕ) → (length bytes ≡ length other → ⊥) → bytes_eq bytes other ≡ false
differs bytes other apart = by (cases_Bool (bytes_eq bytes other))
  where
    by : (bytes_eq bytes other ≡ true) ⊎ (bytes_eq bytes other ≡ false) → bytes_eq bytes other ≡ false
    by (inl same) = absurd (apart (ap length ((bytes_eq-Decides bytes other).0 same)))
    by (inr not') = not'

word-differs : (bytes : List ℕ) (name : Name) → spelling_length name < length bytes → same_name (Word bytes) name ≡ false
word-differs bytes (Number digits) less = refl
word-differs bytes (Word other) less = differs bytes other (λ same. omega (arith, same, less))

pub longer-new : (names : List Name) (bytes : List ℕ) → longest names < length bytes → list_any (same_name (Word bytes)) names ≡ false
unfolding longest
longer-new [] bytes less = refl
longer-new (name ∷ names) bytes less =
    rw (word-differs bytes name (omega (arith, less)), longer-new names bytes (omega (arith, less))) refl

pub with_longer : (names : List Name) (bytes : List ℕ) → longest names < length bytes → with_name names (Word bytes) ≡ names ++ Word bytes ∷ []
with_longer names bytes less = ap (λ (b : Bool). cond b names (names ++ Word bytes ∷ [])) (longer-new names bytes less)

pub longest-append : (names : List Name) (name : Name) → longest (names ++ name ∷ []) ≡ max (longest names) (spelling_length name)
unfolding longest
longest-append [] name = omega arith
longest-append (x ∷ names) name = rw (longest-append names name) (omega arith)

-- a word more
pub words_more : (count left bytes : ℕ) → left ≡ count + 1 → words_from left bytes ≡ Word (replicate bytes 117) ∷ words_from count (bytes + 1)
unfolding words_from
words_more count left bytes e = rw (e, add-one count) refl

pub words_none : (bytes : ℕ) → words_from 0 bytes ≡ []
unfolding words_from
words_none bytes = refl

-- ---- the lengths of names, from the last to the first

pub longest_none : longest [] ≡ 0
unfolding longest
longest_none = refl

pub longest_more : (names : List Name) (at next : ℕ) (name : Name) → next ≡ at + 1 → at < length names → name ≡ get_or names at name → longest (drop at names) ≡ max (spelling_length name) (longest (drop next names))
unfolding longest
longest_more names at next name e below is = rw (drop_more names at name below, ← is, ← e) refl

-- ---- the most leaves of a name

pub most_none : (f : Function) → most_leaves f 0 ≡ 0
unfolding most_leaves
most_none f = refl

pub most_more : (f : Function) (name : ℕ) → most_leaves f (name + 1) ≡ max (leaf_count f (Local name)) (most_leaves f name)
unfolding most_leaves
most_more f name = rw (add-one name) refl

-- one more word, after those that are there
words_step : (names more whole : List Name) (left less bytes : ℕ) → left ≡ less + 1 → more ≡ names ++ Word (replicate bytes 117) ∷ [] → names ++ words_from left bytes ≡ whole → more ++ words_from less (bytes + 1) ≡ whole
words_step names more whole left less bytes e is before =
    ap (λ (ns : List Name). ns ++ words_from less (bytes + 1)) is
    ∙ (append_assoc names (Word (replicate bytes 117) ∷ []) (words_from less (bytes + 1))
    ∙ (ap (λ (ns : List Name). names ++ ns) (sym (words_more less left bytes e)) ∙ before))

word_added : (names new : List Name) (bytes : List ℕ) (n : ℕ) → bytes ≡ replicate n 117 → longest names < n → new ≡ with_name names (Word bytes) → new ≡ names ++ Word (replicate n 117) ∷ []
word_added names new bytes n letters less is =
    is ∙ (ap (λ (bs : List ℕ). with_name names (Word bs)) letters ∙ with_longer names (replicate n 117) (let long = length-replicate {A = ℕ} n 117 in omega (arith, long, less)))

word_longer : (names new : List Name) (n : ℕ) → longest names < n → new ≡ names ++ Word (replicate n 117) ∷ [] → longest new < n + 1
word_longer names new n less is = rw (is, longest-append names (Word (replicate n 117))) (let long = length-replicate {A = ℕ} n 117 in omega (arith, long, less))

-- a table, after this many words from this length on have come to it, with those that are left
pub record HasWords (whole names : List Name) (count first word : ℕ) : Type 0 where
  pub longer : longest names < first + word
  pub rest : names ++ words_from (count - word) (first + word) ≡ whole

pub has_more : (whole names new : List Name) (bytes : List ℕ) (count first word : ℕ) → word < count → bytes ≡ replicate (first + word) 117 → new ≡ with_name names (Word bytes) → HasWords whole names count first word → HasWords whole new count first (word + 1)
has_more whole names new bytes count first word below letters is has =
    let added = word_added names new bytes (first + word) letters has.longer is in
    let longer = word_longer names new (first + word) has.longer added in
    let next : first + (word + 1) ≡ (first + word) + 1 = omega arith in
    record {
      longer = omega (arith, longer);
      rest = ap (λ (n : ℕ). new ++ words_from (count - (word + 1)) n) next ∙ words_step names new whole (count - word) (count - (word + 1)) (first + word) (omega arith) added has.rest;
    }

pub has_first : (names : List Name) (count first : ℕ) → longest names < first → HasWords (names ++ words_from count first) names count first 0
has_first names count first less =
    let same : first + 0 ≡ first = omega arith in
    let all : count - 0 ≡ count = omega arith in
    record { longer = omega (arith, less); rest = ap (λ (n : ℕ). names ++ words_from (count - 0) n) same ∙ ap (λ (n : ℕ). names ++ words_from n first) all }

pub has_all : (whole names : List Name) (count first word : ℕ) → count ≤ word → HasWords whole names count first word → names ≡ whole
has_all whole names count first word past has =
    let none : count - word ≡ 0 = omega (arith, past) in
    sym (append-nil names) ∙ (ap (λ (ws : List Name). names ++ ws) (sym (ap (λ (n : ℕ). words_from n (first + word)) none ∙ words_none (first + word))) ∙ has.rest)
