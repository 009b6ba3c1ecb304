-- What is shown of numbers by the names that they denote: operands and instructions.
use Rattle.read_back.proofs.Common.{◌≡◌, ℕ, List, [], ◌∷◌, ◌++◌, codes, refl, sym, ap, ◌∙◌, append_assoc, flat_map, get_or_from_slice_get, with_name, number_of, Name, Word, Operand, Inst, WrittenValue, WrittenTyped, WrittenIndex, WrittenGep, WrittenAccess, WrittenInst, Numbered, so, ◌>>=◌, each_in, value_in, typed_in, binary_in, icmp_in, cast_in, select_in, freeze_in, alloca_in, load_in, store_in, access_in, index_in, gep_in, inst_in, Piece}
use Rattle.std.proofs.lemmas.List.{append-nil}
use Rattle.ir_tree.specs.declared.tree.TypedOperand.{TypedOperand}
use Rattle.ir_tree.specs.declared.tree.GepIndex.{GepIndex}
use Rattle.ir_tree.specs.declared.tree.Inst.TheVariants as tree
use Rattle.ir_words.specs.declared.written.WrittenValue.TheVariants as value
use Rattle.ir_words.specs.declared.written.WrittenAccess.TheVariants as access
use Rattle.ir_words.specs.declared.written.WrittenInst.TheVariants as inst
use Rattle.ir_numbering.proofs.NumberOf.{joins}
use Rattle.ir_printer.specs.Pieces.{name_in}
use Rattle.ir_printer.specs.Pieces as pieces
use Rattle.ir_printer.specs.Instructions as printed
use Rattle.read_back.proofs.Written as written

-- ---- a table that grows

pub record Grows (names after : List Name) : Type 0 where
  pub more : List Name
  pub joined : after ≡ names ++ more

pub grows-not : (names : List Name) → Grows names names
grows-not names = record { more = []; joined = sym (append-nil names) }

pub grows-then : (a b c : List Name) → Grows a b → Grows b c → Grows a c
grows-then a b c G H = record { more = G.more ++ H.more; joined = H.joined ∙ ap (λ (ns : List Name). ns ++ H.more) G.joined ∙ append_assoc a G.more H.more }

-- what a table shows, however it grows on
abbrev pub Shows : {X : Type 0} → List Name → (List Name → X) → X → Type 0
Shows names shown is = (later : List Name) → shown (names ++ later) ≡ is

pub shows-later : {X : Type 0} (names after : List Name) (shown : List Name → X) (is : X) → Grows names after → Shows names shown is → Shows after shown is
shows-later names after shown is G S later = ap (λ (ns : List Name). shown (ns ++ later)) G.joined ∙ ap shown (append_assoc names G.more later) ∙ S (G.more ++ later)

-- after these names a part was numbered, and the table shows it
pub record Kept {X : Type 0} (names after : List Name) (shown : List Name → X) (is : X) : Type 0 where
  pub grows : Grows names after
  pub shows : Shows after shown is

pub kept-on : {X : Type 0} (names mid after : List Name) {shown : List Name → X} {is : X} → Kept names mid shown is → Grows mid after → Kept names after shown is
kept-on names mid after {shown} {is} K G = record { grows = grows-then names mid after K.grows G; shows = shows-later mid after shown is G K.shows }

-- what is numbered is shown as this
abbrev pub Keeps : {A X : Type 0} → List Name → (List Name → A → X) → X → Numbered A → Type 0
Keeps {A} {X} names shown is (so a after) = Kept names after (λ (all : List Name). shown all a) is

pub keeps-then : {A B X : Type 0} (names : List Name) (shown : List Name → A → X) (is : X) (m : Numbered A) (goal : Numbered B → Type 0) (k : A → List Name → Numbered B) → Keeps names shown is m → ((a : A) (mid : List Name) → Kept names mid (λ (all : List Name). shown all a) is → goal (k a mid)) → goal (m >>= k)
keeps-then names shown is (so a mid) goal k K f = f a mid K

-- each in turn, one after another
pub each-kept : {A B X : Type 0} (one : List Name → A → Numbered B) (shown : List Name → B → List X) (is : A → List X) → ((names : List Name) (a : A) → Keeps names shown (is a) (one names a))
    → (names : List Name) (items : List A) → Keeps names (λ (all : List Name) (bs : List B). flat_map (shown all) bs) (flat_map is items) (each_in one names items)
each-kept one shown is keeps names [] = record { grows = grows-not names; shows = λ later. refl }
each-kept {A} {B} {X} one shown is keeps names (a ∷ items) =
    let goal : Numbered (List B) → Type 0 = λ m. Keeps names (λ (all : List Name) (bs : List B). flat_map (shown all) bs) (flat_map is (a ∷ items)) m in
    keeps-then names shown (is a) (one names a) goal _ (keeps names a) (λ b before F.
    keeps-then before (λ (all : List Name) (bs : List B). flat_map (shown all) bs) (flat_map is items) (each_in one before items) goal _ (each-kept one shown is keeps before items) (λ bs after M.
    let F' = kept-on names before after F M.grows in
    record { grows = F'.grows; shows = λ later. rw (F'.shows later, M.shows later) refl }))

-- ---- names and operands

pub name-kept : (names : List Name) (n : Name) → Kept names (with_name names n) (λ (all : List Name). name_in all (number_of names n)) n
name-kept names n =
    let J = joins names n in
    record { grows = record { more = J.more; joined = J.joined }; shows = λ later. get_or_from_slice_get (with_name names n ++ later) (number_of names n) n (Word []) (J.named later) }

pub value-kept : (names : List Name) (v : WrittenValue) → Keeps names pieces.operand_piece (written.value_piece v) (value_in names v)
value-kept names (value.Local n) = let K = name-kept names n in record { grows = K.grows; shows = λ later. rw (K.shows later) refl }
value-kept names (value.Literal n) = record { grows = grows-not names; shows = λ later. refl }
value-kept names value.Null = record { grows = grows-not names; shows = λ later. refl }
value-kept names value.Poison = record { grows = grows-not names; shows = λ later. refl }
value-kept names value.Undef = record { grows = grows-not names; shows = λ later. refl }

-- after a value
pub value-then : {B : Type 0} (names : List Name) (v : WrittenValue) (goal : Numbered B → Type 0) (k : Operand → List Name → Numbered B)
    → ((o : Operand) (mid : List Name) → Kept names mid (λ (all : List Name). pieces.operand_piece all o) (written.value_piece v) → goal (k o mid)) → goal (value_in names v >>= k)
value-then names v goal k f = keeps-then names pieces.operand_piece (written.value_piece v) (value_in names v) goal k (value-kept names v) f

pub typed-kept : (names : List Name) (t : WrittenTyped) → Keeps names pieces.typed_pieces (written.typed_pieces t) (typed_in names t)
unfolding typed_in
typed-kept names t = value-then names t.operand.value (λ m. Keeps names pieces.typed_pieces (written.typed_pieces t) m) _ (λ o after K. record { grows = K.grows; shows = λ later. rw (K.shows later) refl })

pub typed-then : {B : Type 0} (names : List Name) (t : WrittenTyped) (goal : Numbered B → Type 0) (k : TypedOperand → List Name → Numbered B)
    → ((o : TypedOperand) (mid : List Name) → Kept names mid (λ (all : List Name). pieces.typed_pieces all o) (written.typed_pieces t) → goal (k o mid)) → goal (typed_in names t >>= k)
typed-then names t goal k f = keeps-then names pieces.typed_pieces (written.typed_pieces t) (typed_in names t) goal k (typed-kept names t) f

-- ---- instructions

index-kept : (names : List Name) (i : WrittenIndex) → Keeps names printed.index_pieces (written.index_pieces i) (index_in names i)
unfolding index_in
index-kept names i = value-then names i.operand.value (λ m. Keeps names printed.index_pieces (written.index_pieces i) m) _ (λ o after K. record { grows = K.grows; shows = λ later. rw (K.shows later) refl })

abbrev IsShown : List Name → WrittenInst → Numbered Inst → Type 0
IsShown names i m = Keeps names printed.inst_pieces (written.inst_pieces i) m

-- a result and a value
one-value : (names : List Name) (n : Name) (v : WrittenValue) (i : WrittenInst) (made : ℕ → Operand → Inst)
    → ((all : List Name) (number : ℕ) (o : Operand) → name_in all number ≡ n → pieces.operand_piece all o ≡ written.value_piece v → printed.inst_pieces all (made number o) ≡ written.inst_pieces i)
    → IsShown names i (value_in (with_name names n) v >>= λ o after. so (made (number_of names n) o) after)
one-value names n v i made same =
    let N = name-kept names n in
    value-then (with_name names n) v (λ m. IsShown names i m) _ (λ o after V.
    let N' = kept-on names (with_name names n) after N V.grows in
    record { grows = N'.grows; shows = λ later. same (after ++ later) (number_of names n) o (N'.shows later) (V.shows later) })

-- a result and two values
two-values : (names : List Name) (n : Name) (left right : WrittenValue) (i : WrittenInst) (made : ℕ → Operand → Operand → Inst)
    → ((all : List Name) (number : ℕ) (l r : Operand) → name_in all number ≡ n → pieces.operand_piece all l ≡ written.value_piece left → pieces.operand_piece all r ≡ written.value_piece right → printed.inst_pieces all (made number l r) ≡ written.inst_pieces i)
    → IsShown names i (value_in (with_name names n) left >>= λ l between. value_in between right >>= λ r after. so (made (number_of names n) l r) after)
two-values names n left right i made same =
    let before = with_name names n in
    let N = name-kept names n in
    value-then before left (λ m. IsShown names i m) _ (λ l between L.
    value-then between right (λ m. IsShown names i m) _ (λ r after R.
    let L' = kept-on before between after L R.grows in
    let N' = kept-on names before after N L'.grows in
    record { grows = N'.grows; shows = λ later. same (after ++ later) (number_of names n) l r (N'.shows later) (L'.shows later) (R.shows later) }))

abbrev store_text : List Piece → Piece → ℕ → List Piece
store_text typed pointer align = pieces.word pieces.indented (codes "store") ∷ (typed ++ pieces.comma ∷ ((pieces.word pieces.space (codes "ptr") ∷ pointer ∷ []) ++ printed.align_pieces align))

store-same : (v w : List Piece) (p q : Piece) (align : ℕ) → v ≡ w → p ≡ q → store_text v p align ≡ store_text w q align
store-same v w p q align e f = ap (λ (x : List Piece). store_text x p align) e ∙ ap (λ (y : Piece). store_text w y align) f

abbrev select_text : Name → Piece → List Piece → List Piece → List Piece
select_text n c t f =
    (pieces.local pieces.indented n ∷ pieces.mark pieces.space (codes "=") ∷ []) ++ pieces.word pieces.space (codes "select") ∷ pieces.word pieces.space (codes "i1") ∷ c ∷ pieces.comma ∷ (t ++ pieces.comma ∷ f)

select-same : (n m : Name) (c d : Piece) (t u f g : List Piece) → n ≡ m → c ≡ d → t ≡ u → f ≡ g → select_text n c t f ≡ select_text m d u g
select-same n m c d t u f g e e1 e2 e3 =
    ap (λ (x : Name). select_text x c t f) e ∙ ap (λ (x : Piece). select_text m x t f) e1 ∙ ap (λ (x : List Piece). select_text m d x f) e2 ∙ ap (λ (x : List Piece). select_text m d u x) e3

access-kept : (names : List Name) (a : WrittenAccess) (align : ℕ) → IsShown names (inst.Access a align) (access_in names a align)
unfolding alloca_in load_in store_in
access-kept names (access.Alloca into number type) align = let N = name-kept names into.name in record { grows = N.grows; shows = λ later. rw (N.shows later) refl }
access-kept names (access.Load into type from) align =
    one-value names into.name from.operand.value (inst.Access (access.Load into type from) align) (λ number o. tree.Load number type.of_type o align) (λ all number o e f. rw (e, f) refl)
access-kept names (access.Store value to) align =
    let i = inst.Access (access.Store value to) align in
    typed-then names value (λ m. IsShown names i m) _ (λ v before V.
    value-then before to.operand.value (λ m. IsShown names i m) _ (λ p after P.
    let V' = kept-on names before after V P.grows in
    record { grows = V'.grows; shows = λ later. store-same _ _ _ _ align (V'.shows later) (P.shows later) }))

select-kept : (names : List Name) (n : Name) (condition : WrittenValue) (if_true if_false : WrittenTyped) (i : WrittenInst)
    → ((all : List Name) (number : ℕ) (c : Operand) (t f : TypedOperand) → name_in all number ≡ n → pieces.operand_piece all c ≡ written.value_piece condition → pieces.typed_pieces all t ≡ written.typed_pieces if_true → pieces.typed_pieces all f ≡ written.typed_pieces if_false → printed.inst_pieces all (tree.Select number c t f) ≡ written.inst_pieces i)
    → IsShown names i (select_in names n condition if_true if_false)
unfolding select_in
select-kept names n condition if_true if_false i same =
    let before = with_name names n in
    let N = name-kept names n in
    value-then before condition (λ m. IsShown names i m) _ (λ c between C.
    typed-then between if_true (λ m. IsShown names i m) _ (λ t behind T.
    typed-then behind if_false (λ m. IsShown names i m) _ (λ f after F.
    let T' = kept-on between behind after T F.grows in
    let C' = kept-on before between after C T'.grows in
    let N' = kept-on names before after N C'.grows in
    record { grows = N'.grows; shows = λ later. same (after ++ later) (number_of names n) c t f (N'.shows later) (C'.shows later) (T'.shows later) (F.shows later) })))

gep-kept : (names : List Name) (g : WrittenGep) → IsShown names (inst.GetElementPtr g) (gep_in names g)
unfolding gep_in
gep-kept names g =
    let i = inst.GetElementPtr g in
    let before = with_name names g.into.name in
    let N = name-kept names g.into.name in
    value-then before g.base.operand.value (λ m. IsShown names i m) _ (λ base between B.
    keeps-then between (λ (all : List Name) (is : List GepIndex). flat_map (printed.index_pieces all) is) (flat_map written.index_pieces g.indices) (each_in index_in between g.indices) (λ m. IsShown names i m) _ (each-kept index_in printed.index_pieces written.index_pieces index-kept between g.indices) (λ indices after I.
    let B' = kept-on before between after B I.grows in
    let N' = kept-on names before after N B'.grows in
    record { grows = N'.grows; shows = λ later. rw (N'.shows later, B'.shows later, I.shows later) refl }))

pub inst-kept : (names : List Name) (i : WrittenInst) → IsShown names i (inst_in names i)
unfolding binary_in icmp_in cast_in freeze_in
inst-kept names (inst.Binary into op type left right) = two-values names into.name left.value right.value (inst.Binary into op type left right) (λ number l r. tree.Binary number op type.width l r) (λ all number l r e f g. rw (e, f, g) refl)
inst-kept names (inst.Icmp into predicate same_sign type left right) =
    two-values names into.name left.value right.value (inst.Icmp into predicate same_sign type left right) (λ number l r. tree.Icmp number predicate same_sign type.width l r) (λ all number l r e f g. rw (e, f, g) refl)
inst-kept names (inst.Cast into cast from value to) = one-value names into.name value.value (inst.Cast into cast from value to) (λ number o. tree.Cast number cast from.width o to.width) (λ all number o e f. rw (e, f) refl)
inst-kept names (inst.Select into bit condition if_true if_false) =
    select-kept names into.name condition.value if_true if_false (inst.Select into bit condition if_true if_false) (λ all number c t f e e1 e2 e3. select-same _ _ _ _ _ _ _ _ e e1 e2 e3)
inst-kept names (inst.Freeze into value) =
    one-value names into.name value.operand.value (inst.Freeze into value) (λ number o. tree.Freeze number value.of_type.of_type o) (λ all number o e f. rw (e, f) refl)
inst-kept names (inst.Access a align) = access-kept names a align
inst-kept names (inst.GetElementPtr g) = gep-kept names g
