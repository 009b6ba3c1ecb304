-- The sites of a function whose names were numbered: each name has its number in the table, and is the one that is written there.
use Rattle.ir_numbering.proofs.Common.{◌≡◌, ℕ, ◌+◌, ◌*◌, ◌≤◌, Bool, true, List, [], ◌∷◌, ◌++◌, length, map, Option, Some, None, refl, sym, ap, subst, ◌∙◌, append_assoc, arith, nat_le, All, flat_map, length-append, length-map, append-nil, map-append, All-nil, All-cons, All-append, All-weaker, Place, with_name, number_of, Name, WrittenParameter, WrittenInst, WrittenPhi, WrittenTerminator, WrittenBody, WrittenBlock, WrittenReturn, Void, Value, WrittenFunction, NamedParameter, place_or, Mention, nameless, mention, mention_at, local_name, operand_mention, typed_mentions, index_mentions, inst_mentions, returned_mentions, entry_mentions, phi_mentions, case_mentions, terminator_mentions, body_mentions, block_mentions, parameter_mentions, names_written, Numbered, so, ◌>>=◌, value_in, typed_in, binary_in, icmp_in, cast_in, select_in, freeze_in, alloca_in, load_in, store_in, index_in, gep_in, inst_in, returned_in, parameter_in, each_in, entry_in, phi_in, case_in, branch_in, cond_branch_in, switch_in, terminator_in, block_in, labelled_in, blocks_in, parts_in, function_of, named, named_behind, entry_name, numbered}
use Rattle.std.proofs.lemmas.Grind.{flat_map-append}
use Rattle.tv_num.specs.declared.Width.{Width}
use Rattle.ir_tree.specs.Sites.{IsNumbered, AreNumbered, Step, sites, sites_in, steps, parameter_steps, phi_steps, inst_steps, block_steps, blocks_steps, header_sites, parameter_sites, entry_sites, phi_sites, index_sites, indices_sites, inst_sites, case_sites, cases_sites, terminator_sites, typed_sites, operand_site}
use Rattle.ir_tree.specs.declared.sites.Part.TheVariants as part_of
use Rattle.ir_tree.specs.declared.sites.Site.{Site}
use Rattle.ir_tree.specs.declared.sites.Site.TheVariants.{Defines, Uses, Enters, Written}
use Rattle.ir_tree.specs.declared.tree.IrType.{IrType}
use Rattle.ir_tree.specs.declared.tree.IrType.TheVariants.{Int, Ptr}
use Rattle.ir_tree.specs.declared.tree.Operand.{Operand}
use Rattle.ir_tree.specs.declared.tree.Operand.TheVariants as operand
use Rattle.ir_tree.specs.declared.tree.TypedOperand.{TypedOperand}
use Rattle.ir_tree.specs.declared.tree.Inst.{Inst}
use Rattle.ir_tree.specs.declared.tree.Inst.TheVariants as inst
use Rattle.ir_tree.specs.declared.tree.Terminator.{Terminator}
use Rattle.ir_tree.specs.declared.tree.Terminator.TheVariants.{Return, Branch, CondBranch, Switch, Unreachable}
use Rattle.ir_tree.specs.declared.tree.GepIndex.{GepIndex}
use Rattle.ir_tree.specs.declared.tree.PhiEntry.{PhiEntry}
use Rattle.ir_tree.specs.declared.tree.Phi.{Phi}
use Rattle.ir_tree.specs.declared.tree.Case.{Case}
use Rattle.ir_tree.specs.declared.tree.Block.{Block}
use Rattle.ir_tree.specs.declared.tree.Parameter.{Parameter}
use Rattle.ir_tree.specs.declared.tree.Function.{Function}
use Rattle.ir_words.specs.declared.written.WrittenName.{WrittenName}
use Rattle.ir_words.specs.declared.written.WrittenOperand.{WrittenOperand}
use Rattle.ir_words.specs.declared.written.WrittenValue.{WrittenValue}
use Rattle.ir_words.specs.declared.written.WrittenValue.TheVariants as written
use Rattle.ir_words.specs.declared.written.WrittenTyped.{WrittenTyped}
use Rattle.ir_words.specs.declared.written.WrittenInst.TheVariants as line
use Rattle.ir_words.specs.declared.written.WrittenAccess.TheVariants as access
use Rattle.ir_words.specs.declared.written.WrittenIndex.{WrittenIndex}
use Rattle.ir_words.specs.declared.written.WrittenEntry.{WrittenEntry}
use Rattle.ir_words.specs.declared.written.WrittenCase.{WrittenCase}
use Rattle.ir_words.specs.declared.written.WrittenTerminator.TheVariants as last
use Rattle.ir_numbering.specs.Laws.{name_at}
use Rattle.ir_numbering.proofs.NumberOf.{joins}
use Rattle.ir_numbering.proofs.MentionPlaces.{places-written}

-- ---- what is numbered in turn

pub record Then {A B : Type 0} (m : Numbered A) (k : A → List Name → Numbered B) (y : B) (end : List Name) : Type 0 where
  pub value : A
  pub mid : List Name
  pub first : m ≡ so value mid
  pub later : k value mid ≡ so y end

pub then-so : {A B : Type 0} (m : Numbered A) (k : A → List Name → Numbered B) (y : B) (end : List Name) → (m >>= k) ≡ so y end → Then m k y end
then-so (so a mid) k y end e = record { value = a; mid = mid; first = refl; later = e }

-- ---- names

weaken : (n m : ℕ) → n ≤ m → (s : Site) → IsNumbered n s → IsNumbered m s
weaken n m h (Defines type name) b = omega (arith, h, b)
weaken n m h (Uses type name) b = omega (arith, h, b)
weaken n m h (Enters name) b = omega (arith, h, b)
weaken n m h (Written fits) b = tt

-- the table grows, the sites of a part have their names in it, and these are the ones that are written, however it grows on
record Sound (names after : List Name) (part : List Site) (written : List (Option Name)) : Type 0 where
  grows : length names ≤ length after
  numbered : All (IsNumbered (length after)) part
  more : List Name
  joined : after ≡ names ++ more
  named : (later : List Name) → map (name_at (after ++ later)) part ≡ written

later-sound : (n m : ℕ) (part : List Site) → n ≤ m → All (IsNumbered n) part → All (IsNumbered m) part
later-sound n m part h all = All-weaker (IsNumbered n) (IsNumbered m) (weaken n m h) part all

then-sound : {p q : List (Option Name)} (names mid after : List Name) (first second : List Site) → Sound names mid first p → Sound mid after second q → Sound names after (first ++ second) (p ++ q)
then-sound {p} {q} names mid after first second F S = record {
  grows = omega (arith, F.grows, S.grows);
  numbered = All-append (IsNumbered (length after)) first second (later-sound (length mid) (length after) first S.grows F.numbered) S.numbered;
  more = F.more ++ S.more;
  joined = S.joined ∙ ap (λ (ns : List Name). ns ++ S.more) F.joined ∙ append_assoc names F.more S.more;
  named = λ later.
      let table : after ++ later ≡ mid ++ (S.more ++ later) = ap (λ (ns : List Name). ns ++ later) S.joined ∙ append_assoc mid S.more later in
      let before : map (name_at (after ++ later)) first ≡ p = ap (λ (ns : List Name). map (name_at ns) first) table ∙ F.named (S.more ++ later) in
      map-append (name_at (after ++ later)) first second
      ∙ ap (λ (ns : List (Option Name)). ns ++ map (name_at (after ++ later)) second) before
      ∙ ap (λ (ns : List (Option Name)). p ++ ns) (S.named later);
}

none-sound : (names : List Name) → Sound names names [] []
none-sound names = record { grows = omega arith; numbered = All-nil (IsNumbered (length names)); more = []; joined = sym (append-nil names); named = λ later. refl }

one-sound : (names after : List Name) (s : Site) (written : Option Name) → length names ≤ length after → IsNumbered (length after) s → (more : List Name) → after ≡ names ++ more → ((later : List Name) → name_at (after ++ later) s ≡ written) → Sound names after (s ∷ []) (written ∷ [])
one-sound names after s written g h more j n =
    record { grows = g; numbered = All-cons (IsNumbered (length after)) s [] h (All-nil (IsNumbered (length after))); more = more; joined = j; named = λ later. ap (λ (o : Option Name). o ∷ []) (n later) }

written-sound : (names : List Name) (fits : Bool) → Sound names names (Written fits ∷ []) (None ∷ [])
written-sound names fits = one-sound names names (Written fits) None (omega arith) tt [] (sym (append-nil names)) (λ later. refl)

defines-sound : (names : List Name) (type : Option IrType) (name : Name) → Sound names (with_name names name) (Defines type (number_of names name) ∷ []) (Some name ∷ [])
defines-sound names type name = let J = joins names name in one-sound names (with_name names name) (Defines type (number_of names name)) (Some name) J.grows J.below J.more J.joined J.named

uses-sound : (names : List Name) (type : IrType) (name : Name) → Sound names (with_name names name) (Uses type (number_of names name) ∷ []) (Some name ∷ [])
uses-sound names type name = let J = joins names name in one-sound names (with_name names name) (Uses type (number_of names name)) (Some name) J.grows J.below J.more J.joined J.named

enters-sound : (names : List Name) (name : Name) → Sound names (with_name names name) (Enters (number_of names name) ∷ []) (Some name ∷ [])
enters-sound names name = let J = joins names name in one-sound names (with_name names name) (Enters (number_of names name)) (Some name) J.grows J.below J.more J.joined J.named

value-sound : (names after : List Name) (v : WrittenValue) (o : Operand) (type : IrType) → value_in names v ≡ so o after → Sound names after (operand_site type o ∷ []) (local_name v ∷ [])
value-sound names after (written.Local name) o type e =
    let is : operand.Local (number_of names name) ≡ o = cc e in
    let left : with_name names name ≡ after = cc e in
    subst (λ (x : Operand). Sound names after (operand_site type x ∷ []) (Some name ∷ [])) is (subst (λ (ns : List Name). Sound names ns (Uses type (number_of names name) ∷ []) (Some name ∷ [])) left (uses-sound names type name))
value-sound names after (written.Literal number) o type e =
    let is : operand.Number number ≡ o = cc e in
    let left : names ≡ after = cc e in
    subst (λ (x : Operand). Sound names after (operand_site type x ∷ []) (None ∷ [])) is (subst (λ (ns : List Name). Sound names ns (Written true ∷ []) (None ∷ [])) left (written-sound names true))
value-sound names after written.Null o type e =
    let is : operand.Null ≡ o = cc e in
    let left : names ≡ after = cc e in
    subst (λ (x : Operand). Sound names after (operand_site type x ∷ []) (None ∷ [])) is (subst (λ (ns : List Name). Sound names ns (Written true ∷ []) (None ∷ [])) left (written-sound names true))
value-sound names after written.Poison o type e =
    let is : operand.Poison ≡ o = cc e in
    let left : names ≡ after = cc e in
    subst (λ (x : Operand). Sound names after (operand_site type x ∷ []) (None ∷ [])) is (subst (λ (ns : List Name). Sound names ns (Written true ∷ []) (None ∷ [])) left (written-sound names true))
value-sound names after written.Undef o type e =
    let is : operand.Undef ≡ o = cc e in
    let left : names ≡ after = cc e in
    subst (λ (x : Operand). Sound names after (operand_site type x ∷ []) (None ∷ [])) is (subst (λ (ns : List Name). Sound names ns (Written true ∷ []) (None ∷ [])) left (written-sound names true))

abbrev name_in : Mention → Option Name
name_in m = m.name

-- the sites of one part of the text, and what is written there
abbrev IsPart : List Name → List Name → List Site → List Mention → Type 0
IsPart names after part mentions = Sound names after part (map name_in mentions)

then-part : (names mid after : List Name) (first second : List Site) (p q : List Mention) → IsPart names mid first p → IsPart mid after second q → IsPart names after (first ++ second) (p ++ q)
then-part names mid after first second p q F S = subst (λ (ws : List (Option Name)). Sound names after (first ++ second) ws) (sym (map-append name_in p q)) (then-sound names mid after first second F S)

typed-part : (names after : List Name) (t : WrittenTyped) (o : TypedOperand) (fits : Bool) → typed_in names t ≡ so o after → IsPart names after (typed_sites fits o) (typed_mentions t)
unfolding typed_in
typed-part names after t o fits e =
    let V = then-so (value_in names t.operand.value) _ o after e in
    let is : (let x : TypedOperand = record { of_type = t.of_type.of_type; operand = V.value } in x) ≡ o = cc V.later in
    let left : V.mid ≡ after = cc V.later in
    subst (λ (x : TypedOperand). IsPart names after (typed_sites fits x) (typed_mentions t)) is
    (then-sound names names after (Written fits ∷ []) (operand_site t.of_type.of_type V.value ∷ []) (written-sound names fits) (value-sound names after t.operand.value V.value t.of_type.of_type (V.first ∙ ap (λ (ns : List Name). so V.value ns) left)))

two-part : (names after : List Name) (result : Option IrType) (into : WrittenName) (type : IrType) (l r : Operand) (left right : WrittenOperand) (mid : List Name) (at : Place)
    → value_in (with_name names into.name) left.value ≡ so l mid → value_in mid right.value ≡ so r after → IsPart names after (Defines result (number_of names into.name) ∷ Written true ∷ operand_site type l ∷ operand_site type r ∷ []) (mention into ∷ nameless at ∷ operand_mention left ∷ operand_mention right ∷ [])
two-part names after result into type l r left right mid at e f =
    let before = with_name names into.name in
    then-sound names before after (Defines result (number_of names into.name) ∷ []) (Written true ∷ operand_site type l ∷ operand_site type r ∷ []) (defines-sound names result into.name)
    (then-sound before before after (Written true ∷ []) (operand_site type l ∷ operand_site type r ∷ []) (written-sound before true)
    (then-sound before mid after (operand_site type l ∷ []) (operand_site type r ∷ []) (value-sound before mid left.value l type e) (value-sound mid after right.value r type f)))

index-part : (enters : Bool) (names : List Name) (w : WrittenIndex) (x : GepIndex) (after : List Name) → index_in names w ≡ so x after → IsPart names after (index_sites enters x) (index_mentions w)
unfolding index_in
index-part enters names w x after e =
    let type : IrType = Int w.of_type.width in
    let V = then-so (value_in names w.operand.value) _ x after e in
    let is : (let y : GepIndex = record { width = w.of_type.width; operand = V.value } in y) ≡ x = cc V.later in
    let end : V.mid ≡ after = cc V.later in
    subst (λ (y : GepIndex). IsPart names after (index_sites enters y) (index_mentions w)) is
    (then-sound names names after (Written true ∷ []) _ (written-sound names true)
    (then-sound names after after (operand_site type V.value ∷ []) _ (value-sound names after w.operand.value V.value type (V.first ∙ ap (λ (ns : List Name). so V.value ns) end)) (written-sound after enters)))

indices-part : (arrays n : ℕ) (items : List WrittenIndex) (names : List Name) (xs : List GepIndex) (after : List Name) → each_in index_in names items ≡ so xs after → IsPart names after (indices_sites arrays n xs) (flat_map index_mentions items)
indices-part arrays n [] names xs after e =
    let is : [] ≡ xs = cc e in
    let end : names ≡ after = cc e in
    subst (λ (ys : List GepIndex). IsPart names after (indices_sites arrays n ys) []) is (subst (λ (ns : List Name). IsPart names ns [] []) end (none-sound names))
indices-part arrays n (w ∷ items) names xs after e =
    let F = then-so (index_in names w) _ xs after e in
    let M = then-so (each_in index_in F.mid items) _ xs after F.later in
    let is : F.value ∷ M.value ≡ xs = cc M.later in
    let end : M.mid ≡ after = cc M.later in
    let P = index-part (nat_le n arrays) names w F.value F.mid F.first in
    let Q = indices-part arrays (n + 1) items F.mid M.value after (M.first ∙ ap (λ (ns : List Name). so M.value ns) end) in
    subst (λ (ys : List GepIndex). IsPart names after (indices_sites arrays n ys) (flat_map index_mentions (w ∷ items))) is
    (then-part names F.mid after (index_sites (nat_le n arrays) F.value) (indices_sites arrays (n + 1) M.value) (index_mentions w) (flat_map index_mentions items) P Q)

inst-part : (names : List Name) (i : WrittenInst) (x : Inst) (after : List Name) → inst_in names i ≡ so x after → IsPart names after (inst_sites x) (inst_mentions i)
unfolding binary_in icmp_in cast_in select_in freeze_in alloca_in load_in store_in gep_in
inst-part names (line.Binary into op type left right) x after e =
    let L = then-so (value_in (with_name names into.name) left.value) _ x after e in
    let R = then-so (value_in L.mid right.value) _ x after L.later in
    let is : inst.Binary (number_of names into.name) op type.width L.value R.value ≡ x = cc R.later in
    let end : R.mid ≡ after = cc R.later in
    subst (λ (y : Inst). IsPart names after (inst_sites y) (mention into ∷ nameless type.at ∷ operand_mention left ∷ operand_mention right ∷ [])) is
    (two-part names after (Some (Int type.width)) into (Int type.width) L.value R.value left right L.mid type.at L.first (R.first ∙ ap (λ (ns : List Name). so R.value ns) end))
inst-part names (line.Icmp into predicate same_sign type left right) x after e =
    let L = then-so (value_in (with_name names into.name) left.value) _ x after e in
    let R = then-so (value_in L.mid right.value) _ x after L.later in
    let is : inst.Icmp (number_of names into.name) predicate same_sign type.width L.value R.value ≡ x = cc R.later in
    let end : R.mid ≡ after = cc R.later in
    subst (λ (y : Inst). IsPart names after (inst_sites y) (mention into ∷ nameless type.at ∷ operand_mention left ∷ operand_mention right ∷ [])) is
    (two-part names after _ into (Int type.width) L.value R.value left right L.mid type.at L.first (R.first ∙ ap (λ (ns : List Name). so R.value ns) end))
inst-part names (line.Cast into cast from value to) x after e =
    let V = then-so (value_in (with_name names into.name) value.value) _ x after e in
    let is : inst.Cast (number_of names into.name) cast from.width V.value to.width ≡ x = cc V.later in
    let end : V.mid ≡ after = cc V.later in
    let before = with_name names into.name in
    subst (λ (y : Inst). IsPart names after (inst_sites y) (mention into ∷ nameless from.at ∷ operand_mention value ∷ nameless to.at ∷ [])) is
    (then-sound names before after (Defines (Some (Int to.width)) (number_of names into.name) ∷ []) _ (defines-sound names (Some (Int to.width)) into.name)
    (then-sound before before after (Written true ∷ []) _ (written-sound before true)
    (then-sound before after after (operand_site (Int from.width) V.value ∷ []) _ (value-sound before after value.value V.value (Int from.width) (V.first ∙ ap (λ (ns : List Name). so V.value ns) end)) (written-sound after _))))
inst-part names (line.Select into bit condition if_true if_false) x after e =
    let C = then-so (value_in (with_name names into.name) condition.value) _ x after e in
    let T = then-so (typed_in C.mid if_true) _ x after C.later in
    let F = then-so (typed_in T.mid if_false) _ x after T.later in
    let is : inst.Select (number_of names into.name) C.value T.value F.value ≡ x = cc F.later in
    let end : F.mid ≡ after = cc F.later in
    let before = with_name names into.name in
    let P = typed-part C.mid T.mid if_true T.value true T.first in
    let Q = typed-part T.mid after if_false F.value _ (F.first ∙ ap (λ (ns : List Name). so F.value ns) end) in
    subst (λ (y : Inst). IsPart names after (inst_sites y) (mention into ∷ nameless bit ∷ operand_mention condition ∷ (typed_mentions if_true ++ typed_mentions if_false))) is
    (then-sound names before after (Defines (Some T.value.of_type) (number_of names into.name) ∷ []) _ (defines-sound names (Some T.value.of_type) into.name)
    (then-sound before before after (Written true ∷ []) _ (written-sound before true)
    (then-sound before C.mid after (operand_site _ C.value ∷ []) _ (value-sound before C.mid condition.value C.value _ C.first)
    (then-sound C.mid T.mid after (typed_sites true T.value) _ P Q))))
inst-part names (line.Freeze into value) x after e =
    let V = then-so (value_in (with_name names into.name) value.operand.value) _ x after e in
    let is : inst.Freeze (number_of names into.name) value.of_type.of_type V.value ≡ x = cc V.later in
    let end : V.mid ≡ after = cc V.later in
    let before = with_name names into.name in
    subst (λ (y : Inst). IsPart names after (inst_sites y) (mention into ∷ typed_mentions value)) is
    (then-sound names before after (Defines (Some value.of_type.of_type) (number_of names into.name) ∷ []) _ (defines-sound names (Some value.of_type.of_type) into.name)
    (then-sound before before after (Written true ∷ []) _ (written-sound before true) (value-sound before after value.operand.value V.value value.of_type.of_type (V.first ∙ ap (λ (ns : List Name). so V.value ns) end))))
inst-part names (line.Access (access.Alloca into number type) align) x after e =
    let is : inst.Alloca (number_of names into.name) number type.of_type align ≡ x = cc e in
    let end : with_name names into.name ≡ after = cc e in
    let before = with_name names into.name in
    subst (λ (y : Inst). IsPart names after (inst_sites y) (mention into ∷ nameless type.at ∷ [])) is
    (subst (λ (ns : List Name). IsPart names ns (Defines (Some Ptr) (number_of names into.name) ∷ Written true ∷ []) (mention into ∷ nameless type.at ∷ [])) end
    (then-sound names before before (Defines (Some Ptr) (number_of names into.name) ∷ []) _ (defines-sound names (Some Ptr) into.name) (written-sound before true)))
inst-part names (line.Access (access.Load into type from) align) x after e =
    let before = with_name names into.name in
    let V = then-so (value_in before from.operand.value) _ x after e in
    let is : inst.Load (number_of names into.name) type.of_type V.value align ≡ x = cc V.later in
    let end : V.mid ≡ after = cc V.later in
    subst (λ (y : Inst). IsPart names after (inst_sites y) (mention into ∷ nameless type.at ∷ typed_mentions from)) is
    (then-sound names before after (Defines (Some type.of_type) (number_of names into.name) ∷ []) _ (defines-sound names (Some type.of_type) into.name)
    (then-sound before before after (Written true ∷ []) _ (written-sound before true)
    (then-sound before before after (Written true ∷ []) _ (written-sound before true) (value-sound before after from.operand.value V.value Ptr (V.first ∙ ap (λ (ns : List Name). so V.value ns) end)))))
inst-part names (line.Access (access.Store value to) align) x after e =
    let T = then-so (typed_in names value) _ x after e in
    let V = then-so (value_in T.mid to.operand.value) _ x after T.later in
    let is : inst.Store T.value V.value align ≡ x = cc V.later in
    let end : V.mid ≡ after = cc V.later in
    subst (λ (y : Inst). IsPart names after (inst_sites y) (typed_mentions value ++ typed_mentions to)) is
    (then-part names T.mid after (typed_sites true T.value) (Written true ∷ operand_site Ptr V.value ∷ []) (typed_mentions value) (typed_mentions to) (typed-part names T.mid value T.value true T.first)
    (then-sound T.mid T.mid after (Written true ∷ []) _ (written-sound T.mid true) (value-sound T.mid after to.operand.value V.value Ptr (V.first ∙ ap (λ (ns : List Name). so V.value ns) end))))
inst-part names (line.GetElementPtr g) x after e =
    let before = with_name names g.into.name in
    let V = then-so (value_in before g.base.operand.value) _ x after e in
    let I = then-so (each_in index_in V.mid g.indices) _ x after V.later in
    let is : inst.GetElementPtr (number_of names g.into.name) g.flags.inbounds g.flags.nuw g.of_type.of_type V.value I.value ≡ x = cc I.later in
    let end : I.mid ≡ after = cc I.later in
    let arrays = length g.of_type.of_type.lengths in
    let indices = indices-part arrays 0 g.indices V.mid I.value after (I.first ∙ ap (λ (ns : List Name). so I.value ns) end) in
    let first : List Site = Defines (Some Ptr) (number_of names g.into.name) ∷ Written true ∷ Written true ∷ operand_site Ptr V.value ∷ [] in
    let written_first : List Mention = mention g.into ∷ nameless g.of_type.at ∷ typed_mentions g.base in
    let head : IsPart names V.mid first written_first = then-sound names before V.mid (Defines (Some Ptr) (number_of names g.into.name) ∷ []) _ (defines-sound names (Some Ptr) g.into.name)
    (then-sound before before V.mid (Written true ∷ []) _ (written-sound before true)
    (then-sound before before V.mid (Written true ∷ []) _ (written-sound before true) (value-sound before V.mid g.base.operand.value V.value Ptr V.first))) in
    subst (λ (y : Inst). IsPart names after (inst_sites y) (written_first ++ flat_map index_mentions g.indices)) is
    (then-part names V.mid after first (indices_sites arrays 0 I.value) written_first (flat_map index_mentions g.indices) head indices)

returned-part : (names : List Name) (header : Option IrType) (r : WrittenReturn) (x : Terminator) (after : List Name) → returned_in names r ≡ so x after → IsPart names after (terminator_sites header x) (returned_mentions r)
unfolding returned_in
returned-part names header (Void at) x after e =
    let is : Return None ≡ x = cc e in
    let end : names ≡ after = cc e in
    subst (λ (y : Terminator). IsPart names after (terminator_sites header y) (nameless at ∷ [])) is (subst (λ (ns : List Name). IsPart names ns (terminator_sites header (Return None)) (nameless at ∷ [])) end (written-sound names _))
returned-part names header (Value typed) x after e =
    let T = then-so (typed_in names typed) _ x after e in
    let is : Return (Some T.value) ≡ x = cc T.later in
    let end : T.mid ≡ after = cc T.later in
    subst (λ (y : Terminator). IsPart names after (terminator_sites header y) (typed_mentions typed)) is (typed-part names after typed T.value _ (T.first ∙ ap (λ (ns : List Name). so T.value ns) end))

-- a parameter's type, and its name
abbrev two_mentions : Place → NamedParameter → List Mention
two_mentions at p = nameless at ∷ mention_at at p.name ∷ []

parameter-part : (at : Place) (names : List Name) (p : NamedParameter) (x : Parameter) (after : List Name) → parameter_in names p ≡ so x after → IsPart names after (parameter_sites x) (two_mentions at p)
unfolding parameter_in
parameter-part at names p x after e =
    let is : (let y : Parameter = record { of_type = p.of_type; no_undef = p.no_undef; non_null = p.non_null; name = number_of names p.name } in y) ≡ x = cc e in
    let end : with_name names p.name ≡ after = cc e in
    subst (λ (y : Parameter). IsPart names after (parameter_sites y) (two_mentions at p)) is
    (subst (λ (ns : List Name). IsPart names ns (Written true ∷ Defines (Some p.of_type) (number_of names p.name) ∷ []) (two_mentions at p)) end
    (then-sound names names (with_name names p.name) (Written true ∷ []) _ (written-sound names true) (defines-sound names (Some p.of_type) p.name)))

-- parts one after another
each-part : {A B : Type 0} (one : List Name → A → Numbered B) (sites_of : B → List Site) (mentions : A → List Mention) → ((names : List Name) (a : A) (b : B) (after : List Name) → one names a ≡ so b after → IsPart names after (sites_of b) (mentions a))
    → (items : List A) (names : List Name) (bs : List B) (after : List Name) → each_in one names items ≡ so bs after → IsPart names after (flat_map sites_of bs) (flat_map mentions items)
each-part {A} {B} one sites_of mentions part [] names bs after e =
    let is : [] ≡ bs = cc e in
    let end : names ≡ after = cc e in
    subst (λ (ys : List B). IsPart names after (flat_map sites_of ys) []) is (subst (λ (ns : List Name). IsPart names ns [] []) end (none-sound names))
each-part {A} {B} one sites_of mentions part (a ∷ more_items) names bs after e =
    let F = then-so (one names a) _ bs after e in
    let M = then-so (each_in one F.mid more_items) _ bs after F.later in
    let is : F.value ∷ M.value ≡ bs = cc M.later in
    let end : M.mid ≡ after = cc M.later in
    let P = part names a F.value F.mid F.first in
    let Q = each-part one sites_of mentions part more_items F.mid M.value after (M.first ∙ ap (λ (ns : List Name). so M.value ns) end) in
    subst (λ (ys : List B). IsPart names after (flat_map sites_of ys) (mentions a ++ flat_map mentions more_items)) is
    (then-part names F.mid after (sites_of F.value) (flat_map sites_of M.value) (mentions a) (flat_map mentions more_items) P Q)

-- ---- blocks

entry-part : (type : IrType) (names : List Name) (w : WrittenEntry) (x : PhiEntry) (after : List Name) → entry_in names w ≡ so x after → IsPart names after (entry_sites type x) (entry_mentions w)
unfolding entry_in
entry-part type names w x after e =
    let V = then-so (value_in names w.operand.value) _ x after e in
    let is : (let y : PhiEntry = record { operand = V.value; from = number_of V.mid w.from.name } in y) ≡ x = cc V.later in
    let end : with_name V.mid w.from.name ≡ after = cc V.later in
    subst (λ (y : PhiEntry). IsPart names after (entry_sites type y) (entry_mentions w)) is
    (subst (λ (ns : List Name). IsPart names ns (operand_site type V.value ∷ Enters (number_of V.mid w.from.name) ∷ []) (entry_mentions w)) end
    (then-sound names V.mid (with_name V.mid w.from.name) (operand_site type V.value ∷ []) (Enters (number_of V.mid w.from.name) ∷ []) (value-sound names V.mid w.operand.value V.value type V.first) (enters-sound V.mid w.from.name)))

phi-part : (names : List Name) (w : WrittenPhi) (x : Phi) (after : List Name) → phi_in names w ≡ so x after → IsPart names after (phi_sites x) (phi_mentions w)
unfolding phi_in
phi-part names w x after e =
    let type : IrType = w.of_type.of_type in
    let before = with_name names w.into.name in
    let E = then-so (each_in entry_in before w.entries) _ x after e in
    let is : (let y : Phi = record { into = number_of names w.into.name; of_type = type; entries = E.value } in y) ≡ x = cc E.later in
    let end : E.mid ≡ after = cc E.later in
    let entries = each-part entry_in (entry_sites type) entry_mentions (entry-part type) w.entries before E.value after (E.first ∙ ap (λ (ns : List Name). so E.value ns) end) in
    let first : List Site = Defines (Some type) (number_of names w.into.name) ∷ Written true ∷ [] in
    let head : IsPart names before first (mention w.into ∷ nameless w.of_type.at ∷ []) = then-sound names before before (Defines (Some type) (number_of names w.into.name) ∷ []) (Written true ∷ []) (defines-sound names (Some type) w.into.name) (written-sound before true) in
    subst (λ (y : Phi). IsPart names after (phi_sites y) (phi_mentions w)) is
    (then-part names before after first (flat_map (entry_sites type) E.value) (mention w.into ∷ nameless w.of_type.at ∷ []) (flat_map entry_mentions w.entries) head entries)

case-part : (width : Width) (before : List Case) (names : List Name) (w : WrittenCase) (x : Case) (after : List Name) → case_in names w ≡ so x after → IsPart names after (case_sites width before x) (case_mentions w)
unfolding case_in
case-part width before names w x after e =
    let y : Case = record { width = w.of_type.width; value = w.literal.value; to = number_of names w.to.name } in
    let is : y ≡ x = cc e in
    let end : with_name names w.to.name ≡ after = cc e in
    subst (λ (z : Case). IsPart names after (case_sites width before z) (case_mentions w)) is
    (subst (λ (ns : List Name). IsPart names ns (case_sites width before y) (case_mentions w)) end
    (then-sound names names (with_name names w.to.name) (Written _ ∷ []) _ (written-sound names _) (then-sound names names (with_name names w.to.name) (Written _ ∷ []) _ (written-sound names _) (enters-sound names w.to.name))))

cases-part : (width : Width) (before : List Case) (items : List WrittenCase) (names : List Name) (cs : List Case) (after : List Name) → each_in case_in names items ≡ so cs after → IsPart names after (cases_sites width before cs) (flat_map case_mentions items)
cases-part width before [] names cs after e =
    let is : [] ≡ cs = cc e in
    let end : names ≡ after = cc e in
    subst (λ (ys : List Case). IsPart names after (cases_sites width before ys) []) is (subst (λ (ns : List Name). IsPart names ns [] []) end (none-sound names))
cases-part width before (w ∷ items) names cs after e =
    let F = then-so (case_in names w) _ cs after e in
    let M = then-so (each_in case_in F.mid items) _ cs after F.later in
    let is : F.value ∷ M.value ≡ cs = cc M.later in
    let end : M.mid ≡ after = cc M.later in
    let P = case-part width before names w F.value F.mid F.first in
    let Q = cases-part width (before ++ F.value ∷ []) items F.mid M.value after (M.first ∙ ap (λ (ns : List Name). so M.value ns) end) in
    subst (λ (ys : List Case). IsPart names after (cases_sites width before ys) (flat_map case_mentions (w ∷ items))) is
    (then-part names F.mid after (case_sites width before F.value) (cases_sites width (before ++ F.value ∷ []) M.value) (case_mentions w) (flat_map case_mentions items) P Q)

terminator-part : (names : List Name) (header : Option IrType) (w : WrittenTerminator) (x : Terminator) (after : List Name) → terminator_in names w ≡ so x after → IsPart names after (terminator_sites header x) (terminator_mentions w)
unfolding branch_in cond_branch_in switch_in
terminator-part names header (last.Return returned) x after e = returned-part names header returned x after e
terminator-part names header (last.Branch to) x after e =
    let is : Branch (number_of names to.name) ≡ x = cc e in
    let end : with_name names to.name ≡ after = cc e in
    subst (λ (y : Terminator). IsPart names after (terminator_sites header y) (mention to ∷ [])) is
    (subst (λ (ns : List Name). IsPart names ns (Enters (number_of names to.name) ∷ []) (mention to ∷ [])) end (enters-sound names to.name))
terminator-part names header (last.CondBranch bit condition if_true if_false) x after e =
    let V = then-so (value_in names condition.value) _ x after e in
    let mid = with_name V.mid if_true.name in
    let ended = with_name mid if_false.name in
    let is : CondBranch V.value (number_of V.mid if_true.name) (number_of mid if_false.name) ≡ x = cc V.later in
    let end : ended ≡ after = cc V.later in
    subst (λ (y : Terminator). IsPart names after (terminator_sites header y) (nameless bit ∷ operand_mention condition ∷ mention if_true ∷ mention if_false ∷ [])) is
    (subst (λ (ns : List Name). IsPart names ns (terminator_sites header (CondBranch V.value (number_of V.mid if_true.name) (number_of mid if_false.name))) (nameless bit ∷ operand_mention condition ∷ mention if_true ∷ mention if_false ∷ [])) end
    (then-sound names names ended (Written true ∷ []) _ (written-sound names true)
    (then-sound names V.mid ended (operand_site _ V.value ∷ []) _ (value-sound names V.mid condition.value V.value _ V.first)
    (then-sound V.mid mid ended (Enters (number_of V.mid if_true.name) ∷ []) _ (enters-sound V.mid if_true.name) (enters-sound mid if_false.name)))))
terminator-part names header (last.Switch type value default cases) x after e =
    let V = then-so (value_in names value.value) _ x after e in
    let mid = with_name V.mid default.name in
    let C = then-so (each_in case_in mid cases) _ x after V.later in
    let label = number_of V.mid default.name in
    let is : Switch type.width V.value label C.value ≡ x = cc C.later in
    let end : C.mid ≡ after = cc C.later in
    let site : Site = operand_site (Int type.width) V.value in
    let head : IsPart names mid (Written true ∷ site ∷ Enters label ∷ []) (nameless type.at ∷ operand_mention value ∷ mention default ∷ []) = then-sound names names mid (Written true ∷ []) _ (written-sound names true) (then-sound names V.mid mid (site ∷ []) _ (value-sound names V.mid value.value V.value (Int type.width) V.first) (enters-sound V.mid default.name)) in
    let all = cases-part type.width [] cases mid C.value after (C.first ∙ ap (λ (ns : List Name). so C.value ns) end) in
    subst (λ (y : Terminator). IsPart names after (terminator_sites header y) (terminator_mentions (last.Switch type value default cases))) is
    (then-part names mid after (Written true ∷ site ∷ Enters label ∷ []) (cases_sites type.width [] C.value) (nameless type.at ∷ operand_mention value ∷ mention default ∷ []) (flat_map case_mentions cases) head all)
terminator-part names header last.Unreachable x after e =
    let is : Unreachable ≡ x = cc e in
    let end : names ≡ after = cc e in
    subst (λ (y : Terminator). IsPart names after (terminator_sites header y) []) is (subst (λ (ns : List Name). IsPart names ns [] []) end (none-sound names))

abbrev pub block_with : ℕ → List Phi → List Inst → Terminator → Block
block_with label phis insts terminator = record { label = label; phis = phis; insts = insts; terminator = terminator }

-- the sites of a block, its label first
abbrev block_sites : Option IrType → Block → List Site
block_sites header b = Defines None b.label ∷ (flat_map phi_sites b.phis ++ (flat_map inst_sites b.insts ++ terminator_sites header b.terminator))

-- the label is at this position
block-part : (header : Option IrType) (at : Place) (names : List Name) (label : Name) (w : WrittenBody) (x : Block) (after : List Name) → block_in names label w ≡ so x after → IsPart names after (block_sites header x) (mention_at at label ∷ body_mentions w)
unfolding block_in body_mentions
block-part header at names label w x after e =
    let before = with_name names label in
    let P = then-so (each_in phi_in before w.phis) _ x after e in
    let I = then-so (each_in inst_in P.mid w.insts) _ x after P.later in
    let T = then-so (terminator_in I.mid w.terminator) _ x after I.later in
    let is : block_with (number_of names label) P.value I.value T.value ≡ x = cc T.later in
    let end : T.mid ≡ after = cc T.later in
    let phis = each-part phi_in phi_sites phi_mentions phi-part w.phis before P.value P.mid P.first in
    let insts = each-part inst_in inst_sites inst_mentions inst-part w.insts P.mid I.value I.mid I.first in
    let ends = terminator-part I.mid header w.terminator T.value after (T.first ∙ ap (λ (ns : List Name). so T.value ns) end) in
    let first : IsPart names before (Defines None (number_of names label) ∷ []) (mention_at at label ∷ []) = defines-sound names None label in
    subst (λ (y : Block). IsPart names after (block_sites header y) (mention_at at label ∷ body_mentions w)) is
    (then-part names before after (Defines None (number_of names label) ∷ []) (flat_map phi_sites P.value ++ (flat_map inst_sites I.value ++ terminator_sites header T.value)) (mention_at at label ∷ []) (flat_map phi_mentions w.phis ++ (flat_map inst_mentions w.insts ++ terminator_mentions w.terminator)) first
    (then-part before P.mid after (flat_map phi_sites P.value) (flat_map inst_sites I.value ++ terminator_sites header T.value) (flat_map phi_mentions w.phis) (flat_map inst_mentions w.insts ++ terminator_mentions w.terminator) phis
    (then-part P.mid I.mid after (flat_map inst_sites I.value) (terminator_sites header T.value) (flat_map inst_mentions w.insts) (terminator_mentions w.terminator) insts ends)))

blocks-part : (header : Option IrType) (at : Place) (names : List Name) (label : Name) (entry : WrittenBody) (others : List WrittenBlock) (bs : List Block) (after : List Name)
    → blocks_in names label entry others ≡ so bs after → IsPart names after (flat_map (block_sites header) bs) ((mention_at at label ∷ body_mentions entry) ++ flat_map block_mentions others)
unfolding blocks_in
blocks-part header at names label entry others bs after e =
    let F = then-so (block_in names label entry) _ bs after e in
    let M = then-so (each_in labelled_in F.mid others) _ bs after F.later in
    let is : F.value ∷ M.value ≡ bs = cc M.later in
    let end : M.mid ≡ after = cc M.later in
    let first = block-part header at names label entry F.value F.mid F.first in
    let labelled : (ns : List Name) (b : WrittenBlock) (x : Block) (more_names : List Name) → labelled_in ns b ≡ so x more_names → IsPart ns more_names (block_sites header x) (block_mentions b) = λ ns b x more_names f. block-part header b.label.at ns b.label.name b.body x more_names f in
    let later = each-part labelled_in (block_sites header) block_mentions labelled others F.mid M.value after (M.first ∙ ap (λ (ns : List Name). so M.value ns) end) in
    subst (λ (ys : List Block). IsPart names after (flat_map (block_sites header) ys) ((mention_at at label ∷ body_mentions entry) ++ flat_map block_mentions others)) is
    (then-part names F.mid after (block_sites header F.value) (flat_map (block_sites header) M.value) (mention_at at label ∷ body_mentions entry) (flat_map block_mentions others) first later)

-- ---- the function

pub named-count : (before : List NamedParameter) (ps : List WrittenParameter) → length (named_behind before ps) ≡ length before + length ps
named-count before [] = omega arith
named-count before (p ∷ ps) = named-count (before ++ named before p ∷ []) ps ∙ omega (arith, length-append before (named before p ∷ []))

-- where names are written doesn't matter for which they are
same-names : (at : Place) (ps : List WrittenParameter) (named_ones : List NamedParameter) → length ps ≡ length named_ones → map name_in (flat_map (two_mentions at) named_ones) ≡ map name_in (parameter_mentions ps named_ones)
same-names at [] [] h = refl
same-names at [] (n ∷ ns) h = absurd (omega (arith, h))
same-names at (p ∷ ps) [] h = absurd (omega (arith, h))
same-names at (p ∷ ps) (n ∷ ns) h = ap (λ (os : List (Option Name)). None ∷ Some n.name ∷ os) (same-names at ps ns (omega (arith, h)))

abbrev sites_at : Step → List Site
sites_at step = step.1

parameter_steps-sites : (ps : List Parameter) → sites_in (parameter_steps ps) ≡ flat_map parameter_sites ps
parameter_steps-sites [] = refl
parameter_steps-sites (p ∷ ps) = ap (λ (s : List Site). parameter_sites p ++ s) (parameter_steps-sites ps)

phi_steps-sites : (block n : ℕ) (phis : List Phi) → sites_in (phi_steps block n phis) ≡ flat_map phi_sites phis
phi_steps-sites block n [] = refl
phi_steps-sites block n (phi ∷ phis) = ap (λ (s : List Site). phi_sites phi ++ s) (phi_steps-sites block (n + 1) phis)

inst_steps-sites : (block n : ℕ) (insts : List Inst) → sites_in (inst_steps block n insts) ≡ flat_map inst_sites insts
inst_steps-sites block n [] = refl
inst_steps-sites block n (i ∷ insts) = ap (λ (s : List Site). inst_sites i ++ s) (inst_steps-sites block (n + 1) insts)

block_steps-sites : (header : Option IrType) (n : ℕ) (b : Block) → sites_in (block_steps header n b) ≡ block_sites header b
block_steps-sites header n b =
    let ends : List Step = (part_of.End n, terminator_sites header b.terminator) ∷ [] in
    let lines : List Step = inst_steps n 0 b.insts ++ ends in
    ap (λ (s : List Site). Defines None b.label ∷ s)
    (flat_map-append sites_at (phi_steps n 0 b.phis) lines
    ∙ ap (λ (s : List Site). s ++ sites_in lines) (phi_steps-sites n 0 b.phis)
    ∙ ap (λ (s : List Site). flat_map phi_sites b.phis ++ s)
    (flat_map-append sites_at (inst_steps n 0 b.insts) ends ∙ ap (λ (s : List Site). s ++ sites_in ends) (inst_steps-sites n 0 b.insts) ∙ ap (λ (s : List Site). flat_map inst_sites b.insts ++ s) (append-nil (terminator_sites header b.terminator))))

blocks_steps-sites : (header : Option IrType) (n : ℕ) (bs : List Block) → sites_in (blocks_steps header n bs) ≡ flat_map (block_sites header) bs
blocks_steps-sites header n [] = refl
blocks_steps-sites header n (b ∷ bs) =
    flat_map-append sites_at (block_steps header n b) (blocks_steps header (n + 1) bs)
    ∙ ap (λ (s : List Site). s ++ sites_in (blocks_steps header (n + 1) bs)) (block_steps-sites header n b)
    ∙ ap (λ (s : List Site). block_sites header b ++ s) (blocks_steps-sites header (n + 1) bs)

sites-are : (f : Function) → sites f ≡ header_sites ++ (flat_map parameter_sites f.parameters ++ flat_map (block_sites f.returns) f.blocks)
unfolding steps
sites-are f =
    let all = blocks_steps f.returns 0 f.blocks in
    ap (λ (s : List Site). header_sites ++ s)
    (flat_map-append sites_at (parameter_steps f.parameters) all ∙ ap (λ (s : List Site). s ++ sites_in all) (parameter_steps-sites f.parameters) ∙ ap (λ (s : List Site). flat_map parameter_sites f.parameters ++ s) (blocks_steps-sites f.returns 0 f.blocks))

abbrev function_with : WrittenFunction → List Parameter → List Block → List Name → Function
function_with w ps bs names = function_of w (so (ps, bs) names)

pub record IsWhole (w : WrittenFunction) (f : Function) : Type 0 where
  pub places : length f.places ≡ length (sites f)
  pub numbered : AreNumbered f
  pub named : map (name_at f.names) (sites f) ≡ map (λ (m : Mention). m.name) (names_written w)

abbrev block_list : WrittenFunction → List Mention
block_list w = (mention_at (place_or w.label w.brace) (entry_name w) ∷ body_mentions w.entry) ++ flat_map block_mentions w.others

names-of : (w : WrittenFunction) → None ∷ None ∷ (map name_in (parameter_mentions w.parameters (named_behind [] w.parameters)) ++ map name_in (block_list w)) ≡ map name_in (names_written w)
unfolding names_written
names-of w = ap (λ (os : List (Option Name)). None ∷ None ∷ os) (sym (map-append name_in (parameter_mentions w.parameters (named_behind [] w.parameters)) (block_list w)))

whole-with : (w : WrittenFunction) (ps : List Parameter) (bs : List Block) (mid names : List Name) (two : List Mention)
    → IsPart [] mid (flat_map parameter_sites ps) two → map name_in two ≡ map name_in (parameter_mentions w.parameters (named_behind [] w.parameters))
    → IsPart mid names (flat_map (block_sites (function_with w ps bs names).returns) bs) (block_list w) → IsWhole w (function_with w ps bs names)
whole-with w ps bs mid names two P same B =
    let f = function_with w ps bs names in
    let parameters = flat_map parameter_sites ps in
    let all = flat_map (block_sites f.returns) bs in
    let H = then-sound [] [] [] (Written true ∷ []) (Written true ∷ []) (written-sound [] true) (written-sound [] true) in
    let S = then-sound [] [] names header_sites (parameters ++ all) H (then-sound [] mid names parameters all P B) in
    let e = sites-are f in
    let named : map (name_at names) (sites f) ≡ map name_in (names_written w) = ap (λ (s : List Site). map (name_at names) s) e
    ∙ ap (λ (ns : List Name). map (name_at ns) (header_sites ++ (parameters ++ all))) (sym (append-nil names))
    ∙ S.named []
    ∙ ap (λ (os : List (Option Name)). None ∷ None ∷ (os ++ map name_in (block_list w))) same
    ∙ names-of w in
    record {
      places = sym (ap length (places-written w (named-count [] w.parameters))) ∙ length-map (names_written w) (λ (m : Mention). m.at) ∙ sym (length-map (names_written w) name_in) ∙ sym (ap length named) ∙ length-map (sites f) (name_at names);
      numbered = subst (λ (s : List Site). All (IsNumbered (length names)) s) (sym e) S.numbered;
      named = named;
    }

pub whole : (w : WrittenFunction) → IsWhole w (numbered w)
unfolding numbered parts_in
whole w = go (parts_in named_ones label w.entry w.others) refl
  where
    named_ones : List NamedParameter
    named_ones = named_behind [] w.parameters

    label : Name
    label = entry_name w

    go : (m : Numbered (List Parameter × List Block)) → parts_in named_ones label w.entry w.others ≡ m → IsWhole w (function_of w m)
    go (so parts names) e =
        let P = then-so (each_in parameter_in [] named_ones) _ parts names e in
        let B = then-so (blocks_in P.mid label w.entry w.others) _ parts names P.later in
        let at : Place = w.brace in
        let two = each-part parameter_in parameter_sites (two_mentions at) (parameter-part at) named_ones [] P.value P.mid P.first in
        let made = whole-with w P.value B.value P.mid B.mid _ two (same-names at w.parameters named_ones (omega (arith, named-count [] w.parameters))) (blocks-part _ (place_or w.label w.brace) P.mid label w.entry w.others B.value B.mid B.first) in
        subst (λ (m : Numbered (List Parameter × List Block)). IsWhole w (function_of w m)) B.later made

pub numbered-places : (w : WrittenFunction) → map (λ (m : Mention). m.at) (names_written w) ≡ (numbered w).places
unfolding numbered
numbered-places w = go (parts_in (named_behind [] w.parameters) (entry_name w) w.entry w.others)
  where
    go : (m : Numbered (List Parameter × List Block)) → map (λ (m : Mention). m.at) (names_written w) ≡ (function_of w m).places
    go (so parts names) = places-written w (named-count [] w.parameters)
