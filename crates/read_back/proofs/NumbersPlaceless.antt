-- Numbering looks at no position.
use Rattle.read_back.proofs.Common.{◌≡◌, ℕ, List, [], ◌∷◌, map, refl, sym, ap, ◌∙◌, Place, Name, Word, Parameter, Block, Switch, Function, WrittenIndex, WrittenGep, WrittenAccess, WrittenInst, WrittenEntry, WrittenPhi, WrittenCase, WrittenReturn, Void, Value, WrittenTerminator, WrittenBody, WrittenBlock, WrittenParameter, WrittenFunction, NamedParameter, places_of, Numbered, so, ◌>>=◌, number_in, parameter_in, value_in, typed_in, select_in, each_in, alloca_in, load_in, store_in, access_in, index_in, gep_in, inst_in, returned_in, entry_in, phi_in, case_in, switch_in, terminator_in, block_in, labelled_in, others_in, blocks_in, parts_in, function_of, name_or, named_behind, entry_name, numbered, IsSameFunction}
use Rattle.ir_tree.specs.declared.tree.Inst.TheVariants as tree
use Rattle.ir_words.specs.declared.written.WrittenAccess.TheVariants as access
use Rattle.ir_words.specs.declared.written.WrittenInst.TheVariants as inst
use Rattle.ir_words.specs.declared.written.WrittenTerminator.TheVariants as end
use Rattle.read_back.proofs.Placeless.{index_of, gep_of, access_of, inst_of, entry_of, phi_of, case_of, returned_of, terminator_of, body_of, block_of, parameter_of, placeless}
use Rattle.read_back.proofs.Steps.{PlacelessIsSame}

-- ---- lists

then-same : {A B : Type 0} (m : Numbered A) (k l : A → List Name → Numbered B) → ((a : A) (names : List Name) → k a names ≡ l a names) → (m >>= k) ≡ (m >>= l)
then-same (so a names) k l e = e a names

both-same : {A B : Type 0} (m n : Numbered A) (k l : A → List Name → Numbered B) → m ≡ n → ((a : A) (names : List Name) → k a names ≡ l a names) → (m >>= k) ≡ (n >>= l)
both-same m n k l e f = ap (λ r. r >>= k) e ∙ then-same n k l f

last-same : {A B : Type 0} (m n : Numbered A) (k : A → List Name → Numbered B) → m ≡ n → (m >>= k) ≡ (n >>= k)
last-same m n k e = ap (λ r. r >>= k) e

each-same : {A B : Type 0} (one : List Name → A → Numbered B) (view : A → A) → ((names : List Name) (a : A) → one names (view a) ≡ one names a) → (names : List Name) (items : List A) → each_in one names (map view items) ≡ each_in one names items
each-same one view same names [] = refl
each-same {A} {B} one view same names (a ∷ items) =
    ap (λ (m : Numbered B). m >>= λ first before. each_in one before (map view items) >>= λ others after. so (first ∷ others) after) (same names a)
    ∙ then-same (one names a) _ _ (λ first before. ap (λ (m : Numbered (List B)). m >>= λ others after. so (first ∷ others) after) (each-same one view same before items))

-- ---- instructions

index-same : (names : List Name) (i : WrittenIndex) → index_in names (index_of i) ≡ index_in names i
unfolding index_in
index-same names i = refl

gep-same : (names : List Name) (g : WrittenGep) → gep_in names (gep_of g) ≡ gep_in names g
unfolding gep_in
gep-same names g =
    then-same (number_in names g.into.name) _ _ (λ result before.
    then-same (value_in before g.base.operand.value) _ _ (λ base between. last-same _ _ (λ indices after. so (tree.GetElementPtr result g.flags.inbounds g.flags.nuw g.of_type.of_type base indices) after) (each-same index_in index_of index-same between g.indices)))

access-same : (names : List Name) (a : WrittenAccess) (align : ℕ) → access_in names (access_of a) align ≡ access_in names a align
unfolding alloca_in load_in store_in typed_in
access-same names (access.Alloca into number type) align = refl
access-same names (access.Load into type from) align = refl
access-same names (access.Store value to) align = refl

inst-same : (names : List Name) (i : WrittenInst) → inst_in names (inst_of i) ≡ inst_in names i
unfolding select_in typed_in
inst-same names (inst.Binary into op type left right) = refl
inst-same names (inst.Icmp into predicate same_sign type left right) = refl
inst-same names (inst.Cast into cast from value to) = refl
inst-same names (inst.Select into bit condition if_true if_false) = refl
inst-same names (inst.Freeze into value) = refl
inst-same names (inst.Access a align) = access-same names a align
inst-same names (inst.GetElementPtr g) = gep-same names g

-- ---- blocks

entry-same : (names : List Name) (e : WrittenEntry) → entry_in names (entry_of e) ≡ entry_in names e
unfolding entry_in
entry-same names e = refl

phi-same : (names : List Name) (phi : WrittenPhi) → phi_in names (phi_of phi) ≡ phi_in names phi
unfolding phi_in
phi-same names phi = then-same (number_in names phi.into.name) _ _ (λ result before. last-same _ _ (λ all after. so (record { into = result; of_type = phi.of_type.of_type; entries = all }) after) (each-same entry_in entry_of entry-same before phi.entries))

case-same : (names : List Name) (c : WrittenCase) → case_in names (case_of c) ≡ case_in names c
unfolding case_in
case-same names c = refl

returned-same : (names : List Name) (r : WrittenReturn) → returned_in names (returned_of r) ≡ returned_in names r
unfolding returned_in typed_in
returned-same names (Void at) = refl
returned-same names (Value t) = refl

terminator-same : (names : List Name) (t : WrittenTerminator) → terminator_in names (terminator_of t) ≡ terminator_in names t
unfolding switch_in
terminator-same names (end.Return returned) = returned-same names returned
terminator-same names (end.Branch to) = refl
terminator-same names (end.CondBranch bit condition if_true if_false) = refl
terminator-same names (end.Switch type value default cases) =
    then-same (value_in names value.value) _ _ (λ o before. then-same (number_in before default.name) _ _ (λ label between. last-same _ _ (λ all after. so (Switch type.width o label all) after) (each-same case_in case_of case-same between cases)))
terminator-same names end.Unreachable = refl

block-same : (names : List Name) (label : Name) (b : WrittenBody) → block_in names label (body_of b) ≡ block_in names label b
unfolding block_in
block-same names label b =
    then-same (number_in names label) _ _ (λ number before.
    both-same _ _ _ _ (each-same phi_in phi_of phi-same before b.phis) (λ phis between.
    both-same _ _ _ _ (each-same inst_in inst_of inst-same between b.insts) (λ insts behind.
    last-same _ _ (λ last after. so (record { label = number; phis = phis; insts = insts; terminator = last }) after) (terminator-same behind b.terminator))))

labelled-same : (names : List Name) (b : WrittenBlock) → labelled_in names (block_of b) ≡ labelled_in names b
labelled-same names b = block-same names b.label.name b.body

others-same : (first : Block) (names : List Name) (others : List WrittenBlock) → others_in first names (map block_of others) ≡ others_in first names others
others-same first names others = last-same _ _ (λ more_blocks after. so (first ∷ more_blocks) after) (each-same labelled_in block_of labelled-same names others)

blocks-same : (names : List Name) (label : Name) (entry : WrittenBody) (others : List WrittenBlock) → blocks_in names label (body_of entry) (map block_of others) ≡ blocks_in names label entry others
unfolding blocks_in
blocks-same names label entry others = both-same _ _ _ _ (block-same names label entry) (λ first before. others-same first before others)

parts-same : (ps : List NamedParameter) (label : Name) (entry : WrittenBody) (others : List WrittenBlock) → parts_in ps label (body_of entry) (map block_of others) ≡ parts_in ps label entry others
unfolding parts_in
parts-same ps label entry others = then-same (each_in parameter_in [] ps) _ _ (λ qs before. last-same _ _ (λ all after. so (qs, all) after) (blocks-same before label entry others))

-- ---- the function

-- the parameter under the name that it has, which all parameters have there
abbrev named_one : WrittenParameter → NamedParameter
named_one p = record { of_type = p.of_type.of_type; no_undef = p.no_undef; non_null = p.non_null; name = name_or p.name (Word []) }

same-parameters : (ps : List NamedParameter) → map named_one (map parameter_of ps) ≡ ps
same-parameters [] = refl
same-parameters (p ∷ ps) = ap (λ (qs : List NamedParameter). p ∷ qs) (same-parameters ps)

-- a function all of whose names are written, with these positions
abbrev with_places : WrittenFunction → List Place → Numbered (List Parameter × List Block) → Function
with_places w places (so parts names) = record {
  name = w.name.name;
  returns = w.returns.of_type;
  returns_no_undef = w.returns_no_undef;
  parameters = parts.0;
  blocks = parts.1;
  names = names;
  places = places;
}

abbrev parts_of : WrittenFunction → Numbered (List Parameter × List Block)
parts_of w = parts_in (map named_one w.parameters) (name_or w.label (Word [])) w.entry w.others

parts-of : (w : WrittenFunction) → parts_of (placeless w) ≡ parts_in (named_behind [] w.parameters) (entry_name w) w.entry w.others
parts-of w =
    ap (λ (ps : List NamedParameter). parts_in ps (entry_name w) (body_of w.entry) (map block_of w.others)) (same-parameters (named_behind [] w.parameters))
    ∙ parts-same (named_behind [] w.parameters) (entry_name w) w.entry w.others

function-same : (w : WrittenFunction) (m : Numbered (List Parameter × List Block)) → function_of w m ≡ with_places (placeless w) (places_of w) m
function-same w (so parts names) = refl

numbered-same : (w : WrittenFunction) → numbered w ≡ with_places (placeless w) (places_of w) (parts_of (placeless w))
unfolding numbered
numbered-same w =
    function-same w (parts_in (named_behind [] w.parameters) (entry_name w) w.entry w.others)
    ∙ ap (λ (m : Numbered (List Parameter × List Block)). with_places (placeless w) (places_of w) m) (sym (parts-of w))

places-apart : (w : WrittenFunction) (a b : List Place) (m : Numbered (List Parameter × List Block)) → IsSameFunction (with_places w a m) (with_places w b m)
places-apart w a b (so parts names) = refl

pub placeless_is_same : PlacelessIsSame
placeless_is_same w other e =
    let p = placeless w in
    let m = parts_of p in
    let is : numbered other ≡ with_places p (places_of other) m = numbered-same other ∙ ap (λ (v : WrittenFunction). with_places v (places_of other) (parts_of v)) e in
    let same = places-apart p (places_of w) (places_of other) m in
    rw (numbered-same w, is) same
