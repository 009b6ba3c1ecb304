-- The entries of a module have different names.
use Rattle.ir_reader.proofs.Common.{◌≡◌, ℕ, ◌+◌, ◌-◌, ◌<◌, ◌≤◌, length, get_or, take_all, Bool, true, false, List, [], ◌∷◌, ◌++◌, map, refl, sym, ap, subst, ◌∙◌, list_any, AllByRecursion, IsDistinct, Lexeme, Define, IsCut, nothing, other, same_name, Name, Entry, AreEntries, or_parts}
use Rattle.std.proofs.lemmas.Slice.Eq.{bytes_eq-Decides}
use Rattle.std.proofs.Common.{take, cond}
use Rattle.std.specs.Prelude.{is_some, position}
use Rattle.std.proofs.lemmas.List.{map-append, take_more}
use Rattle.ir_items.specs.Items.{define}
use Rattle.ir_items.proofs.HeadTokens.{found_some}
use Rattle.ir_tree.specs.Names.{with_name}
use Rattle.ir_tree.specs.declared.name.Name.TheVariants.{Number, Word}

bytes-same : (xs ys : List ℕ) (b : Bool) → (b ≡ true → xs ≡ ys) × (xs ≡ ys → b ≡ true) → (c : Bool) → (c ≡ true → ys ≡ xs) × (ys ≡ xs → c ≡ true) → b ≡ c
bytes-same xs ys true d true e = refl
bytes-same xs ys false d false e = refl
bytes-same xs ys true d false e = sym (e.1 (sym (d.0 refl)))
bytes-same xs ys false d true e = d.1 (sym (e.0 refl))

name-same : (x y : Name) → same_name x y ≡ same_name y x
name-same (Number a) (Number b) = bytes-same a b _ (bytes_eq-Decides a b) _ (bytes_eq-Decides b a)
name-same (Word a) (Word b) = bytes-same a b _ (bytes_eq-Decides a b) _ (bytes_eq-Decides b a)
name-same (Number a) (Word b) = refl
name-same (Word a) (Number b) = refl

others-push : (x name : Name) (names : List Name) → AllByRecursion (λ y. same_name x y ≡ false) names → same_name x name ≡ false → AllByRecursion (λ y. same_name x y ≡ false) (names ++ name ∷ [])
others-push x name [] A e = (e, tt)
others-push x name (y ∷ ys) (a, as_all) e = (a, others-push x name ys as_all e)

distinct-push : (names : List Name) (name : Name) → IsDistinct same_name names → list_any (same_name name) names ≡ false → IsDistinct same_name (names ++ name ∷ [])
unfolding IsDistinct
distinct-push [] name D e = (tt, tt)
distinct-push (x ∷ xs) name (A, D) e =
    let both = or_parts (same_name name x) (list_any (same_name name) xs) e in
    (others-push x name xs A (name-same x name ∙ both.0), distinct-push xs name D both.1)

abbrev names_of : List Define → List Name
names_of defines = map (λ (d : Define). d.name) defines

names-push : (defines : List Define) (d : Define) → names_of (defines ++ d ∷ []) ≡ names_of defines ++ d.name ∷ []
names-push [] d = refl
names-push (x ∷ xs) d = ap (λ (ns : List Name). x.name ∷ ns) (names-push xs d)

cut-distinct : (tokens : List Lexeme) (end : ℕ) (defines : List Define) → IsCut tokens end defines → IsDistinct same_name (names_of defines)
unfolding IsDistinct
cut-distinct tokens _ _ nothing = tt
cut-distinct tokens _ defines (other {first} cut item) = cut-distinct tokens first defines cut
cut-distinct tokens _ _ (define {first} {place} {end} {name} {defines} cut item named fresh few) =
    subst (λ (ns : List Name). IsDistinct same_name ns) (sym (names-push defines (record { name = name; first = first; last = end - 1 }))) (distinct-push (names_of defines) name (cut-distinct tokens first defines cut) fresh)

pub entry-names : (tokens : List Lexeme) (defines : List Define) (entries : List Entry) → AreEntries tokens defines entries → names_of defines ≡ map (λ (e : Entry). e.name) entries
entry-names tokens [] [] E = refl
entry-names tokens [] (x ∷ xs) E = absurd E
entry-names tokens (d ∷ ds) [] E = absurd E
entry-names tokens (d ∷ ds) (x ∷ xs) (E, Es) = ap (λ (n : Name). n ∷ names_of ds) (sym E.name) ∙ ap (λ (ns : List Name). x.name ∷ ns) (entry-names tokens ds xs Es)

pub different : (tokens : List Lexeme) (end : ℕ) (defines : List Define) (entries : List Entry) → IsCut tokens end defines → AreEntries tokens defines entries → IsDistinct same_name (map (λ (e : Entry). e.name) entries)
different tokens end defines entries C E = subst (λ (ns : List Name). IsDistinct same_name ns) (entry-names tokens defines entries E) (cut-distinct tokens end defines C)

-- ---- names that are looked up one after another

-- these are the names of the first entries, and they differ
pub record OwnNames (entries : List Entry) (count : ℕ) (names : List Name) : Type 0 where
  pub are : names ≡ map (λ (e : Entry). e.name) (take count entries)
  pub distinct : IsDistinct same_name names

pub own-none : (entries : List Entry) (names : List Name) → names ≡ [] → OwnNames entries 0 names
unfolding IsDistinct
own-none entries names none = record { are = none; distinct = rw none tt }

pub own-more : (entries : List Entry) (count : ℕ) (e : Entry) (names new : List Name) (name : Name) → count < length entries → e ≡ get_or entries count e → name ≡ e.name → is_some (position (same_name e.name) names) ≡ false → new ≡ with_name names name
    → OwnNames entries count names → OwnNames entries (count + 1) new
own-more entries count e names new name lt is copy absent with own =
    let fresh : list_any (same_name name) names ≡ false = ap (λ (n : Name). list_any (same_name n) names) copy ∙ sym (found_some (same_name e.name) names) ∙ absent in
    let pushed : new ≡ names ++ name ∷ [] = with ∙ ap (λ (b : Bool). cond b names (names ++ name ∷ [])) fresh in
    let more : take (count + 1) entries ≡ take count entries ++ e ∷ [] = take_more entries count e lt ∙ ap (λ (x : Entry). take count entries ++ x ∷ []) (sym is) in
    let all : map (λ (x : Entry). x.name) (take (count + 1) entries) ≡ map (λ (x : Entry). x.name) (take count entries) ++ e.name ∷ [] =
    ap (map (λ (x : Entry). x.name)) more ∙ map-append (λ (x : Entry). x.name) (take count entries) (e ∷ []) in
    record {
      are = pushed ∙ ap (λ (ns : List Name). ns ++ name ∷ []) own.are ∙ ap (λ (n : Name). map (λ (x : Entry). x.name) (take count entries) ++ n ∷ []) copy ∙ sym all;
      distinct = subst (λ (ns : List Name). IsDistinct same_name ns) (sym pushed) (distinct-push names name own.distinct fresh);
    }

pub own-all : (entries : List Entry) (count : ℕ) (names : List Name) → length entries ≤ count → OwnNames entries count names → IsDistinct same_name (map (λ (e : Entry). e.name) entries)
own-all entries count names le own = subst (λ (ns : List Name). IsDistinct same_name ns) (own.are ∙ ap (map (λ (e : Entry). e.name)) (take_all count entries le)) own.distinct
