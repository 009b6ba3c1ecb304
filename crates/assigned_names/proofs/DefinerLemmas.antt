-- The one part that defines a name, and the blocks that go by their labels.
use Rattle.std.proofs.Common.{◌≡◌, ◌↔◌, ◌⊎◌, inl, inr, IsTrue, ℕ, zero, suc, ◌+◌, ◌<◌, ◌≤◌, ◌==◌, Bool, true, false, List, [], ◌∷◌, ◌++◌, length, get_or, take, map, slice_get, Option, Some, None, option_map, refl, ap, sym, subst, ◌∙◌, arith, All, Contains, append_assoc, drop, one-add}
use Rattle.std.specs.List.{flat_map, position_or_len}
use Rattle.std.proofs.lemmas.Bool.{cases_lt, cases_Bool, both_ways}
use Rattle.std.proofs.lemmas.Bool.Decides.{nat_tests}
use Rattle.std.proofs.lemmas.List.{length-map, drop_more}
use Rattle.ir_tree.specs.Paths.{IsAssignedBefore, IsUnassignedBefore}
use Rattle.definite_assignment.specs.Sets.{AreRoomy, has}
use Rattle.std.proofs.lemmas.List.Sums.{position_or_len_is}
use Rattle.std.proofs.lemmas.List.Elements.{All-append, Contains-append_left, Contains-append_right, Contains-append_cases, Contains-get_or}
use Rattle.std.proofs.lemmas.Option.{slice_get_within, slice_get-map, get_or_from_slice_get, none-some, same_Some}
use Rattle.ir_tree.specs.declared.tree.Inst.{Inst}
use Rattle.ir_tree.specs.declared.tree.Phi.{Phi}
use Rattle.ir_tree.specs.declared.tree.Block.{Block}
use Rattle.ir_tree.specs.declared.tree.Parameter.{Parameter}
use Rattle.ir_tree.specs.declared.tree.Function.{Function}
use Rattle.ir_tree.specs.declared.sites.Part.{Part}
use Rattle.ir_tree.specs.declared.sites.Part.TheVariants as part
use Rattle.ir_tree.specs.declared.sites.Site.{Site}
use Rattle.ir_tree.specs.declared.sites.Site.TheVariants.{Defines}
use Rattle.ir_tree.specs.declared.sites.SiteList.{SiteList}
use Rattle.ir_tree.specs.declared.module.Reason.TheVariants.{NameTwice}
use Rattle.ir_tree.specs.Sites.{AreNumbered, IsNumbered, sites, parts}
use Rattle.ir_tree.specs.Flow.{assigned_with, assigns, block_of, labels, results_of, successors, targets}
use Rattle.ir_tree.specs.Definitions.{DefinesIn, IsFirstDefinition}
use Rattle.ir_tree.specs.WellFormed.{Passes, PassesNames}
use Rattle.ir_tree.proofs.Definers.{all_at, made_of, makes, one_site, defines_in, defined_at, entered_at, label_of_block}
use Rattle.assigned_names.specs.Known.{AreKnown, AreBefore, IsBehind, IsDefiner, label_of}

-- ---- one part

pub one_part : (f : Function) (p q : Part) (name : ℕ) → Passes NameTwice f → DefinesIn f p name → DefinesIn f q name → p ≡ q
one_part f p q name once a b =
    let v = defined_at f p name a in
    let w = defined_at f q name b in
    let same : v.0 ≡ w.0 = one_site (sites f) once v.0 w.0 v.1 w.1 name v.2 w.2 in
    same_Some p q (sym v.3 ∙ (ap (λ (n : ℕ). slice_get (parts f) n) same ∙ w.3))

pub no_definer : (f : Function) (list : SiteList) (firsts : List (Option ℕ)) (name : ℕ) → AreKnown f list firsts → IsFirstDefinition list.all (length list.all) name None → IsDefiner f name None
no_definer f list firsts name known none p found =
    let w = defined_at f p name found in
    let there : slice_get list.all w.0 ≡ Some (Defines w.1 name) = ap (λ (all : List Site). slice_get all w.0) known.all ∙ w.2 in
    none w.0 w.1 (slice_get_within list.all w.0 (Defines w.1 name) there) there

pub a_definer : (f : Function) (list : SiteList) (firsts : List (Option ℕ)) (name n : ℕ) (p : Part) → AreKnown f list firsts → IsFirstDefinition list.all (length list.all) name (Some n) → slice_get list.parts n ≡ Some p → IsDefiner f name (Some p)
a_definer f list firsts name n p known first its = (here, λ q found. one_part f q p name known.once found here)
  where
    here : DefinesIn f p name
    here = defines_in f n p first.1.0 name (ap (λ (all : List Site). slice_get all n) (sym known.all) ∙ first.1.1) (ap (λ (tags : List Part). slice_get tags n) (sym known.parts) ∙ its)

-- ---- blocks by labels

equal : (a b : ℕ) → (a == b) ≡ true → a ≡ b
equal a b e = grind (arith, nat_tests)

own : (a : ℕ) → (a == a) ≡ true
own a = grind (arith, nat_tests)

position-here : (n : ℕ) (v : ℕ) (vs : List ℕ) → (n == v) ≡ true → position_or_len (λ (o : ℕ). n == o) (v ∷ vs) ≡ 0
position-here n v vs e = position_or_len_is (λ (o : ℕ). n == o) (v ∷ vs) 0 n (omega arith) (λ k below. absurd (omega (arith, below))) (λ within. e)

position-later : (n : ℕ) (v : ℕ) (vs : List ℕ) → (n == v) ≡ false → position_or_len (λ (o : ℕ). n == o) (v ∷ vs) ≡ suc (position_or_len (λ (o : ℕ). n == o) vs)
position-later n v vs e = rw e (one-add (position_or_len (λ (o : ℕ). n == o) vs))

-- what is at the first index that passes is what was looked for
at_position : {X : Type 0} (v : X → ℕ) (xs : List X) (n : ℕ) (x : X) → slice_get xs (position_or_len (λ (o : ℕ). n == o) (map v xs)) ≡ Some x → v x ≡ n
at_position v [] n x e = absurd (none-some x e)
at_position {X} v (y ∷ xs) n x e = cases (cases_Bool (n == v y)) (λ later. at_position v xs n x later)
  where
    cases : ((n == v y) ≡ true) ⊎ ((n == v y) ≡ false) → (slice_get xs (position_or_len (λ (o : ℕ). n == o) (map v xs)) ≡ Some x → v x ≡ n) → v x ≡ n
    cases (inl t) further =
        let here : slice_get (y ∷ xs) 0 ≡ Some x = ap (λ (k : ℕ). slice_get (y ∷ xs) k) (sym (position-here n (v y) (map v xs) t)) ∙ e in
        ap v (sym (same_Some y x here)) ∙ sym (equal n (v y) t)
    cases (inr f) further = further (ap (λ (k : ℕ). slice_get (y ∷ xs) k) (sym (position-later n (v y) (map v xs) f)) ∙ e)

other : (a b : ℕ) → (a ≡ b → ⊥) → (a == b) ≡ false
other a b differ = cases (cases_Bool (a == b))
  where
    cases : ((a == b) ≡ true) ⊎ ((a == b) ≡ false) → (a == b) ≡ false
    cases (inl e) = absurd (differ (equal a b e))
    cases (inr f) = f

label_at : (f : Function) (k : ℕ) (b : Block) (d : ℕ) → slice_get f.blocks k ≡ Some b → get_or (labels f) k d ≡ b.label
label_at f k b d stands = get_or_from_slice_get (labels f) k b.label d (slice_get-map (λ (c : Block). c.label) f.blocks k ∙ ap (option_map (λ (c : Block). c.label)) stands)

labels_long : (f : Function) → length (labels f) ≡ length f.blocks
labels_long f = length-map f.blocks (λ (b : Block). b.label)

-- the label's block is this one, where no block before it has the label
pub block_is : (f : Function) (label k : ℕ) → DefinesIn f (part.Label k) label → ((p : Part) → DefinesIn f p label → p ≡ part.Label k) → block_of f label ≡ k
block_is f label k found only =
    position_or_len_is (λ (o : ℕ). label == o) (labels f) k label (let long = labels_long f in let within = slice_get_within f.blocks k found.0 found.1 in omega (arith, long, within))
    (λ j below. other label (get_or (labels f) j label) (λ e. early j below (sym e))) (λ within. ap (λ (o : ℕ). label == o) (label_at f k found.0 label found.1 ∙ found.2) ∙ own label)
  where
    early : (j : ℕ) → j < k → get_or (labels f) j label ≡ label → ⊥
    early j below e =
        let long = labels_long f in
        let within = slice_get_within f.blocks k found.0 found.1 in
        let w = made_of (λ (b : Block). b.label) f.blocks j label (omega (arith, below, long, within)) e in
        let same : part.Label j ≡ part.Label k = only (part.Label j) (w.0, w.1, w.2) in
        let equal_to : j ≡ k = cc in omega (arith, equal_to, below)

pub no_block_is : (f : Function) (label : ℕ) → ((k : ℕ) → DefinesIn f (part.Label k) label → ⊥) → block_of f label ≡ length f.blocks
no_block_is f label none =
    position_or_len_is (λ (o : ℕ). label == o) (labels f) (length (labels f)) label (let n = length (labels f) in omega arith)
    (λ j below. other label (get_or (labels f) j label) (λ e. let w = made_of (λ (b : Block). b.label) f.blocks j label below (sym e) in none j (w.0, w.1, w.2))) (λ within. absurd (omega (arith, within)))
    ∙ labels_long f

label_some : (p : Part) (k : ℕ) → label_of p ≡ Some k → p ≡ part.Label k
label_some part.Header k e = absurd (none-some k e)
label_some part.Parameter k e = absurd (none-some k e)
label_some (part.Label j) k e = ap part.Label (same_Some j k e)
label_some (part.Phi b j) k e = absurd (none-some k e)
label_some (part.Inst b j) k e = absurd (none-some k e)
label_some (part.End b) k e = absurd (none-some k e)

pub block_at : (f : Function) (label : ℕ) (p : Part) (k : ℕ) → label_of p ≡ Some k → IsDefiner f label (Some p) → k ≡ block_of f label
block_at f label p k named found = let is = label_some p k named in sym (block_is f label k (subst (λ (q : Part). DefinesIn f q label) is found.0) (λ q there. found.1 q there ∙ is))

pub no_block_at : (f : Function) (label : ℕ) (p : Part) → label_of p ≡ None → IsDefiner f label (Some p) → length f.blocks ≡ block_of f label
no_block_at f label p unnamed found = sym (no_block_is f label (λ k there. none-some k (sym unnamed ∙ ap label_of (sym (found.1 (part.Label k) there)))))

pub no_block : (f : Function) (label : ℕ) → IsDefiner f label None → length f.blocks ≡ block_of f label
no_block f label none = sym (no_block_is f label (λ k there. none (part.Label k) there))

-- a block of the label is the one of its number
pub block_of_is : (f : Function) (label k : ℕ) (b : Block) → Passes NameTwice f → slice_get f.blocks k ≡ Some b → b.label ≡ label → block_of f label ≡ k
block_of_is f label k b once stands labelled = block_is f label k (b, stands, labelled) (λ p there. one_part f p (part.Label k) label once there (b, stands, labelled))

-- the block of that number has the label
pub has_label : (f : Function) (label : ℕ) (b : Block) → slice_get f.blocks (block_of f label) ≡ Some b → b.label ≡ label
has_label f label b stands = at_position (λ (c : Block). c.label) f.blocks label b stands

-- ---- what has its value there

slice_take : {X : Type 0} (xs : List X) (n k : ℕ) (x : X) → slice_get (take n xs) k ≡ Some x → (k < n) × (slice_get xs k ≡ Some x)
slice_take xs zero k x e = absurd (none-some x e)
slice_take [] (suc n) k x e = absurd (none-some x e)
slice_take (y ∷ xs) (suc n) zero x e = (omega arith, e)
slice_take (y ∷ xs) (suc n) (suc k) x e = let w = slice_take xs n k x e in (omega (arith, w.0), w.1)

take_slice : {X : Type 0} (xs : List X) (n k : ℕ) (x : X) → k < n → slice_get xs k ≡ Some x → slice_get (take n xs) k ≡ Some x
take_slice xs zero k x below e = absurd (omega (arith, below))
take_slice [] (suc n) k x below e = absurd (none-some x e)
take_slice (y ∷ xs) (suc n) zero x below e = e
take_slice (y ∷ xs) (suc n) (suc k) x below e = take_slice xs n k x (omega (arith, below)) e

-- what a list of instructions assigns is a result of one of them
assigned_of : (insts : List Inst) (name : ℕ) → Contains (flat_map results_of insts) name → (j : ℕ) × (i : Inst) × (slice_get insts j ≡ Some i) × Contains (results_of i) name
assigned_of [] name found = absurd (omega (arith, found.1))
assigned_of (i ∷ insts) name found = choose (Contains-append_cases (results_of i) (flat_map results_of insts) name found) (λ there. assigned_of insts name there)
  where
    choose : Contains (results_of i) name ⊎ Contains (flat_map results_of insts) name → (Contains (flat_map results_of insts) name → (j : ℕ) × (other : Inst) × (slice_get insts j ≡ Some other) × Contains (results_of other) name)
        → (j : ℕ) × (other : Inst) × (slice_get (i ∷ insts) j ≡ Some other) × Contains (results_of other) name
    choose (inl here) later = (0, i, refl, here)
    choose (inr there) later = let w = later there in (suc w.0, w.1, w.2, w.3)

assigns_of : (insts : List Inst) (j : ℕ) (i : Inst) (name : ℕ) → slice_get insts j ≡ Some i → Contains (results_of i) name → Contains (flat_map results_of insts) name
assigns_of [] j i name its found = absurd (none-some i its)
assigns_of (first ∷ insts) zero i name its found = Contains-append_left (results_of first) (flat_map results_of insts) name (subst (λ (x : Inst). Contains (results_of x) name) (sym (same_Some first i its)) found)
assigns_of (first ∷ insts) (suc j) i name its found = Contains-append_right (results_of first) (flat_map results_of insts) name (assigns_of insts j i name its found)

abbrev pub IsAssignedThere : Function → Block → ℕ → ℕ → Type 0
IsAssignedThere f b ran name = Contains (map (λ (p : Parameter). p.name) f.parameters) name ⊎ Contains (assigned_with b (take ran b.insts)) name

to_part : (f : Function) (block ran name : ℕ) (b : Block) → slice_get f.blocks block ≡ Some b → IsAssignedThere f b ran name → (p : Part) × DefinesIn f p name × IsBehind block ran p
to_part f block ran name b stands (inl parameter) = (part.Parameter, parameter, tt)
to_part f block ran name b stands (inr found) = either (Contains-append_cases (map (λ (phi : Phi). phi.into) b.phis) (flat_map results_of (take ran b.insts)) name found)
  where
    either : Contains (map (λ (phi : Phi). phi.into) b.phis) name ⊎ Contains (flat_map results_of (take ran b.insts)) name → (p : Part) × DefinesIn f p name × IsBehind block ran p
    either (inl of_phi) = let w = made_of (λ (phi : Phi). phi.into) b.phis of_phi.0 name of_phi.1 of_phi.2 in (part.Phi block of_phi.0, (b, stands, w.0, w.1, w.2), refl)
    either (inr of_inst) =
        let w = assigned_of (take ran b.insts) name of_inst in
        let t = slice_take b.insts ran w.0 w.1 w.2 in
        (part.Inst block w.0, (b, stands, w.1, t.1, w.3), (refl, t.0))

same_block : (f : Function) (k block : ℕ) (b c : Block) → k ≡ block → slice_get f.blocks k ≡ Some c → slice_get f.blocks block ≡ Some b → c ≡ b
same_block f k block b c same there here = same_Some c b (sym there ∙ (ap (λ (n : ℕ). slice_get f.blocks n) same ∙ here))

from_part : (f : Function) (block ran name : ℕ) (b : Block) (p : Part) → slice_get f.blocks block ≡ Some b → DefinesIn f p name → IsBehind block ran p → IsAssignedThere f b ran name
from_part f block ran name b part.Header stands found behind = absurd found
from_part f block ran name b part.Parameter stands found behind = inl found
from_part f block ran name b (part.Label k) stands found behind = absurd behind
from_part f block ran name b (part.Phi k j) stands found behind =
    let same = same_block f k block b found.0 behind found.1 stands in
    let its : slice_get b.phis j ≡ Some found.2 = ap (λ (c : Block). slice_get c.phis j) (sym same) ∙ found.3 in
    let in_phis : Contains (map (λ (phi : Phi). phi.into) b.phis) name = subst (λ (n : ℕ). Contains (map (λ (phi : Phi). phi.into) b.phis) n) found.4 (makes (λ (phi : Phi). phi.into) b.phis j found.2 its) in
    inr (Contains-append_left (map (λ (phi : Phi). phi.into) b.phis) (flat_map results_of (take ran b.insts)) name in_phis)
from_part f block ran name b (part.Inst k j) stands found behind =
    let same = same_block f k block b found.0 behind.0 found.1 stands in
    let its : slice_get (take ran b.insts) j ≡ Some found.2 = take_slice b.insts ran j found.2 behind.1 (ap (λ (c : Block). slice_get c.insts j) (sym same) ∙ found.3) in
    let in_insts : Contains (flat_map results_of (take ran b.insts)) name = assigns_of (take ran b.insts) j found.2 name its found.4 in
    inr (Contains-append_right (map (λ (phi : Phi). phi.into) b.phis) (flat_map results_of (take ran b.insts)) name in_insts)
from_part f block ran name b (part.End k) stands found behind = absurd found

pub assigned_by_part : (f : Function) (block ran name : ℕ) (b : Block) (p : Part) (r : Bool) → slice_get f.blocks block ≡ Some b → IsDefiner f name (Some p) → IsTrue r ↔ IsBehind block ran p → IsTrue r ↔ IsAssignedThere f b ran name
assigned_by_part f block ran name b p r stands definer told = (
  λ t. from_part f block ran name b p stands definer.0 (told.0 t),
  λ found. let w = to_part f block ran name b stands found in told.1 (subst (λ (q : Part). IsBehind block ran q) (definer.1 w.0 w.1) w.2),
)

pub assigned_by_none : (f : Function) (block ran name : ℕ) (b : Block) → slice_get f.blocks block ≡ Some b → IsDefiner f name None → IsTrue false ↔ IsAssignedThere f b ran name
assigned_by_none f block ran name b stands none = (λ t. absurd (both_ways _ refl t), λ found. let w = to_part f block ran name b stands found in absurd (none w.0 w.1))

-- ---- the blocks as numbers

all_map : {X Y : Type 0} (P : Y → Type 0) (v : X → Y) (xs : List X) → ((i : ℕ) (x : X) → slice_get xs i ≡ Some x → P (v x)) → All P (map v xs)
all_map P v [] each k d below = absurd (omega (arith, below))
all_map P v (x ∷ xs) each zero d below = each 0 x refl
all_map P v (x ∷ xs) each (suc k) d below = all_map P v xs (λ i y e. each (suc i) y e) k d (omega (arith, below))

target_within : (f : Function) (i : ℕ) (b : Block) (t : ℕ) → PassesNames f → slice_get f.blocks i ≡ Some b → Contains (targets b.terminator) t → block_of f t < length f.blocks
target_within f i b t names stands found = cases (cases_lt (block_of f t) (length f.blocks))
  where
    unknown : length f.blocks ≤ block_of f t → ⊥
    unknown past =
        let w = entered_at f i b t stands found in
        names.1 w.0 (inr (record {
          name = t;
          here = w.1;
          unknown = λ label.
              let l = label_of_block f t label in
              let is = block_of_is f t l.0 l.1.0 names.0 l.1.1 l.1.2 in
              let within = slice_get_within f.blocks l.0 l.1.0 l.1.1 in omega (arith, is, within, past);
        }))

    cases : (block_of f t < length f.blocks) ⊎ (length f.blocks ≤ block_of f t) → block_of f t < length f.blocks
    cases (inl below) = below
    cases (inr past) = absurd (unknown past)

pub successors_fit : (f : Function) (lists : List (List ℕ)) → PassesNames f → lists ≡ successors f → All (All (λ next. next < length lists)) lists
successors_fit f lists names is =
    let row : Block → List ℕ = λ (b : Block). map (block_of f) (targets b.terminator) in
    let same : length lists ≡ length f.blocks = ap length is ∙ length-map f.blocks row in
    subst (λ (ls : List (List ℕ)). All (All (λ next. next < length lists)) ls) (sym is)
    (all_map (All (λ (next : ℕ). next < length lists)) row f.blocks
    (λ i b stands. all_map (λ (next : ℕ). next < length lists) (block_of f) (targets b.terminator) (λ j t its.
    let found : Contains (targets b.terminator) t = (j, slice_get_within (targets b.terminator) j t its, get_or_from_slice_get (targets b.terminator) j t t its) in
    let least = target_within f i b t names stands found in omega (arith, least, same))))

number_of_part : (f : Function) (p : Part) (name : ℕ) → AreNumbered f → DefinesIn f p name → name < length f.names
number_of_part f p name numbered found = let w = defined_at f p name found in all_at (IsNumbered (length f.names)) (sites f) w.0 (Defines w.1 name) numbered w.2

pub assigns_fit : (f : Function) (lists : List (List ℕ)) (count : ℕ) → AreNumbered f → lists ≡ assigns f → count ≡ length f.names → All (All (λ name. name < count)) lists
assigns_fit f lists count numbered is same =
    subst (λ (ls : List (List ℕ)). All (All (λ (name : ℕ). name < count)) ls) (sym is)
    (all_map (All (λ (name : ℕ). name < count)) (λ (b : Block). assigned_with b b.insts) f.blocks
    (λ i b stands. All-append (λ (name : ℕ). name < count) (map (λ (phi : Phi). phi.into) b.phis) (flat_map results_of b.insts)
    (all_map (λ (name : ℕ). name < count) (λ (phi : Phi). phi.into) b.phis (λ j phi its. let least = number_of_part f (part.Phi i j) phi.into numbered (b, stands, phi, its, refl) in omega (arith, least, same)))
    (λ k d below.
    let w = assigned_of b.insts (get_or (flat_map results_of b.insts) k d) (Contains-get_or (flat_map results_of b.insts) k d below) in
    let least = number_of_part f (part.Inst i w.0) (get_or (flat_map results_of b.insts) k d) numbered (b, stands, w.1, w.2, w.3) in omega (arith, least, same))))

-- what the search answers for these lists
pub record IsAnswer (sets : List (List Bool)) (ss as' : List (List ℕ)) (names : ℕ) : Type 0 where
  pub room : AreRoomy sets (length ss) names
  pub exact : (block name : ℕ) → block < length ss → name < names → IsTrue (has sets block name) ↔ IsAssignedBefore ss as' block name
  pub missed : (block name : ℕ) → block < length ss → name < names → has sets block name ≡ false → IsUnassignedBefore ss as' block name

pub are_before : (f : Function) (sets : List (List Bool)) (ss as' : List (List ℕ)) (names : ℕ) → ss ≡ successors f → as' ≡ assigns f → names ≡ length f.names → IsAnswer sets ss as' names → AreBefore f sets
are_before f sets ss as' names is is' same answer = record {
  room = subst (λ (n : ℕ). AreRoomy sets n (length f.names)) long there.room;
  assigned = λ block name below numbered t. (there.exact block name (omega (arith, below, long)) numbered).0 t;
  missed = λ block name below numbered lacks. there.missed block name (omega (arith, below, long)) numbered lacks;
}
  where
    long : length (successors f) ≡ length f.blocks
    long = length-map f.blocks (λ (b : Block). map (block_of f) (targets b.terminator))

    there : IsAnswer sets (successors f) (assigns f) (length f.names)
    there = subst (λ (n : ℕ). IsAnswer sets (successors f) (assigns f) n) same (subst (λ (xs : List (List ℕ)). IsAnswer sets (successors f) xs names) is' (subst (λ (xs : List (List ℕ)). IsAnswer sets xs as' names) is answer))

-- ---- a list made of another

pub mapped_more : (F : ℕ → ℕ) (xs : List ℕ) (i : ℕ) (done all : List ℕ) (y : ℕ) → i < length xs → y ≡ F (get_or xs i 0) → done ++ map F (drop i xs) ≡ all → (done ++ y ∷ []) ++ map F (drop (i + 1) xs) ≡ all
mapped_more F xs i done all y below is so_far =
    let e : map F (drop i xs) ≡ y ∷ map F (drop (i + 1) xs) = rw (drop_more xs i 0 below, is) refl in
    append_assoc done (y ∷ []) (map F (drop (i + 1) xs)) ∙ (ap (λ (ys : List ℕ). done ++ ys) (sym e) ∙ so_far)
