-- Names and the functions that have them.
use Rattle.module_rows.proofs.Common.{◌≡◌, ℕ, zero, suc, ◌+◌, ◌<◌, arith, Bool, true, false, cond, ◌||◌, List, [], ◌∷◌, ◌++◌, length, get_or, take, Some, None, refl, sym, ap, ◌∙◌, add-one, length-map, get_or-map, IsDistinct, AllByRecursion, list_any, position, position_from, Name, Entry, same_name, with_name, function_named, entry_names, or_from}
use Rattle.std.proofs.lemmas.Bool.Decides.{same_from_decides}
use Rattle.std.proofs.lemmas.Slice.Eq.{bytes_eq-Decides}
use Rattle.std.proofs.lemmas.Map.Keys.{IsDistinct-head, IsDistinct-tail}
use Rattle.std.proofs.lemmas.Iterator.Adapters.{position_from-zero}
use Rattle.std.proofs.Math.Seq.{take-suc}
use Rattle.std.specs.Str.{bytes_eq}
use Rattle.ir_tree.specs.declared.name.Name.TheVariants.{Number, Word}

bytes_eq-flips : (a b : List ℕ) → bytes_eq a b ≡ bytes_eq b a
bytes_eq-flips a b =
    let h = bytes_eq-Decides a b in
    let k = bytes_eq-Decides b a in
    same_from_decides (bytes_eq a b) (bytes_eq b a) h ((λ e. sym (k.0 e)), λ e. k.1 (sym e))

pub same_name-flips : (a b : Name) → same_name a b ≡ same_name b a
same_name-flips (Number a) (Number b) = bytes_eq-flips a b
same_name-flips (Word a) (Word b) = bytes_eq-flips a b
same_name-flips (Number a) (Word b) = refl
same_name-flips (Word a) (Number b) = refl

pub all_at : {X : Type 0} (P : X → Type 0) (xs : List X) (i : ℕ) (d : X) → AllByRecursion P xs → i < length xs → P (get_or xs i d)
all_at P [] i d all h = absurd (omega arith)
all_at P (x ∷ xs) zero d all h = all.0
all_at P (x ∷ xs) (suc i) d all h = all_at P xs i d all.1 (omega arith)

fresh : (ns : List Name) (i : ℕ) (d : Name) → IsDistinct same_name ns → i < length ns → list_any (same_name (get_or ns i d)) (take i ns) ≡ false
fresh [] i d apart h = absurd (omega arith)
fresh (n ∷ ns) zero d apart h = refl
fresh (n ∷ ns) (suc i) d apart h =
    or_from _ _
    (same_name-flips (get_or ns i d) n ∙ all_at (λ (m : Name). same_name n m ≡ false) ns i d (IsDistinct-head same_name n ns apart) (omega arith))
    (fresh ns i d (IsDistinct-tail same_name n ns apart) (omega arith))

-- a name that is new goes last
with_new_name : (ns : List Name) (n : Name) → list_any (same_name n) ns ≡ false → with_name ns n ≡ ns ++ n ∷ []
with_new_name ns n e = rw e refl

pub with_name-next : (ns : List Name) (i : ℕ) (d : Name) → IsDistinct same_name ns → i < length ns → with_name (take i ns) (get_or ns i d) ≡ take (i + 1) ns
with_name-next ns i d apart h =
    with_new_name (take i ns) (get_or ns i d) (fresh ns i d apart h) ∙ sym (take-suc ns i d h) ∙ ap (λ (k : ℕ). take k ns) (sym (add-one i))

pub entry_names-at : (es : List Entry) (i : ℕ) (d : Entry) → i < length es → get_or (entry_names es) i d.name ≡ (get_or es i d).name
entry_names-at es i d h = get_or-map (λ (e : Entry). e.name) es i d d.name h

pub length-entry_names : (es : List Entry) → length (entry_names es) ≡ length es
length-entry_names es = length-map es (λ (e : Entry). e.name)

some_is : (a b : ℕ) → Some a ≡ Some b → a ≡ b
some_is a b e = cc e

none_is : (a : ℕ) → Some a ≡ None → ⊥
none_is a e = cc e

pub record IsPlace (es : List Entry) (name : Name) (from place : ℕ) (d : Entry) : Type 0 where
  pub index : ℕ
  pub place_is : place ≡ from + index
  pub function : function_named es name ≡ Some (get_or es index d).function

named_from : (es : List Entry) (name : Name) (from place : ℕ) (d : Entry) → position_from (same_name name) from (entry_names es) ≡ Some place → IsPlace es name from place d
named_from [] name from place d e = absurd (none_is place (sym e))
named_from (x ∷ es) name from place d e = go (same_name name x.name) refl (named_from es name (from + 1) place d) e
  where
    go : (b : Bool) → same_name name x.name ≡ b → (position_from (same_name name) (from + 1) (entry_names es) ≡ Some place → IsPlace es name (from + 1) place d) → cond b (Some from) (position_from (same_name name) (from + 1) (entry_names es)) ≡ Some place → IsPlace (x ∷ es) name from place d
    go true is rest h = record { index = 0; place_is = sym (some_is from place h) ∙ omega arith; function = rw is refl }
    go false is rest h =
        let r = rest h in
        record { index = suc r.index; place_is = omega (arith, r.place_is); function = rw is r.function }

unnamed_from : (es : List Entry) (name : Name) (from : ℕ) → position_from (same_name name) from (entry_names es) ≡ None → function_named es name ≡ None
unnamed_from [] name from e = refl
unnamed_from (x ∷ es) name from e = go (same_name name x.name) refl (unnamed_from es name (from + 1)) e
  where
    go : (b : Bool) → same_name name x.name ≡ b → (position_from (same_name name) (from + 1) (entry_names es) ≡ None → function_named es name ≡ None) → cond b (Some from) (position_from (same_name name) (from + 1) (entry_names es)) ≡ None → function_named (x ∷ es) name ≡ None
    go true is rest h = absurd (none_is from h)
    go false is rest h = rw is (rest h)

pub function_named-at : (es : List Entry) (name : Name) (place : ℕ) (d : Entry) → position (same_name name) (entry_names es) ≡ Some place → function_named es name ≡ Some (get_or es place d).function
function_named-at es name place d e =
    let r = named_from es name 0 place d (sym (position_from-zero (same_name name) (entry_names es)) ∙ e) in
    r.function ∙ ap (λ (k : ℕ). Some (get_or es k d).function) (omega (arith, r.place_is))

pub function_named-none : (es : List Entry) (name : Name) → position (same_name name) (entry_names es) ≡ None → function_named es name ≡ None
function_named-none es name e = unnamed_from es name 0 (sym (position_from-zero (same_name name) (entry_names es)) ∙ e)
