-- A name that carries undef has a maker, which stands in a block of the function; and what a well-formed function says
-- of the sites of both.
use Rattle.std.proofs.Common.{◌≡◌, ◌<◌, ◌≤◌, ◌==◌, ℕ, suc, min, Bool, true, false, List, [], ◌∷◌, ◌++◌, Option, Some, None, inl, inr, ◌⊎◌, refl, subst, ◌∙◌, ap, arith, sum_by, All, slice_get}
use Rattle.std.specs.List.{AllByRecursion, Contains, find, flat_map, list_any}
use Rattle.std.proofs.lemmas.Bool.{cases_Bool, cases_lt}
use Rattle.std.proofs.lemmas.Bool.Decides.{nat_tests}
use Rattle.std.proofs.lemmas.List.Concat.{flat_map-cons}
use Rattle.std.proofs.lemmas.List.Elements.{All-append, All-nil}
use Rattle.ir_tree.specs.declared.tree.IrType.{IrType}
use Rattle.ir_tree.specs.declared.tree.IrType.TheVariants as type
use Rattle.ir_tree.specs.declared.tree.Operand.{Operand}
use Rattle.ir_tree.specs.declared.tree.Operand.TheVariants.{Local}
use Rattle.ir_tree.specs.declared.tree.Inst.{Inst}
use Rattle.ir_tree.specs.declared.tree.Inst.TheVariants.{Binary, Icmp, Cast, Select, Freeze, Alloca, Load, Store, GetElementPtr}
use Rattle.ir_tree.specs.declared.tree.Block.{Block}
use Rattle.ir_tree.specs.declared.tree.Function.{Function}
use Rattle.ir_tree.specs.declared.sites.Site.{Site}
use Rattle.ir_tree.specs.declared.sites.Site.TheVariants.{Defines}
use Rattle.ir_tree.specs.declared.module.Reason.TheVariants.{UndefUse}
use Rattle.ir_tree.specs.Types.{one_bit}
use Rattle.ir_tree.specs.Sites.{sites, inst_sites}
use Rattle.ir_tree.specs.Carrying.{carried_by, carried_from, insts_of, leaf_count, makes}
use Rattle.ir_tree.specs.WellFormed.{Passes}
use Rattle.ir_tree.proofs.Leaves.{counts_agree, found}
use Rattle.ir_tree.proofs.Standing.{inst_site}
use Rattle.undef_uses.specs.Undefs.{UndefsFit, divides_undef}
use Rattle.lowering.specs.Lowered.{HasFewLeaves, maker_of}

-- ---- where an instruction stands

pub record Stands (f : Function) (i : Inst) : Type 0 where
  pub block : ℕ
  pub b : Block
  pub at : slice_get f.blocks block ≡ Some b
  pub place : ℕ
  pub here : slice_get b.insts place ≡ Some i

all_indexed : {X : Type 0} (P : X → Type 0) (xs : List X) → ((k : ℕ) (x : X) → slice_get xs k ≡ Some x → P x) → AllByRecursion P xs
all_indexed P [] each = tt
all_indexed P (x ∷ xs) each = (each 0 x refl, all_indexed P xs (λ k y e. each (suc k) y e))

all_append : {X : Type 0} (P : X → Type 0) (xs ys : List X) → AllByRecursion P xs → AllByRecursion P ys → AllByRecursion P (xs ++ ys)
all_append P [] ys a b = b
all_append P (x ∷ xs) ys a b = (a.0, all_append P xs ys a.1 b)

all_blocks : (P : Inst → Type 0) (blocks : List Block) → ((k : ℕ) (b : Block) → slice_get blocks k ≡ Some b → (j : ℕ) (i : Inst) → slice_get b.insts j ≡ Some i → P i)
    → AllByRecursion P (flat_map (λ (b : Block). b.insts) blocks)
all_blocks P [] each = tt
all_blocks P (b ∷ blocks) each =
    rw (flat_map-cons (λ (c : Block). c.insts) b blocks)
    (all_append P b.insts (flat_map (λ (c : Block). c.insts) blocks) (all_indexed P b.insts (each 0 b refl)) (all_blocks P blocks (λ k c e. each (suc k) c e)))

pub all_stand : (f : Function) → AllByRecursion (Stands f) (insts_of f)
all_stand f = all_blocks (Stands f) f.blocks (λ k b e j i s. record { block = k; b = b; at = e; place = j; here = s })

pub all_in_blocks : (f : Function) → AllByRecursion (λ (b : Block). AllByRecursion (Stands f) b.insts) f.blocks
all_in_blocks f =
    all_indexed (λ (b : Block). AllByRecursion (Stands f) b.insts) f.blocks
    (λ k b e. all_indexed (Stands f) b.insts (λ j i s. record { block = k; b = b; at = e; place = j; here = s }))

-- ---- what holds of the instructions of each block holds of all

all_insts : (P : Inst → Type 0) (blocks : List Block) → All (λ (b : Block). All P b.insts) blocks → All P (flat_map (λ (b : Block). b.insts) blocks)
all_insts P [] all = All-nil P
all_insts P (b ∷ blocks) all =
    rw (flat_map-cons (λ (c : Block). c.insts) b blocks)
    (All-append P b.insts (flat_map (λ (c : Block). c.insts) blocks) (all 0 b (omega arith)) (all_insts P blocks (λ k d below. all (suc k) d (omega (arith, below)))))

-- no division has undef for an operand
abbrev pub DividesNoUndef : Function → Type 0
DividesNoUndef f = All (λ (i : Inst). divides_undef i ≡ false) (insts_of f)

pub no_undef_divided : (f : Function) → UndefsFit f → DividesNoUndef f
no_undef_divided f undefs = all_insts (λ (i : Inst). divides_undef i ≡ false) f.blocks (λ k d below. λ j i within. (undefs k d below j i within).0)

-- ---- the maker of a name

holds : {X : Type 0} (p : X → Bool) (xs : List X) (o : Option X) → find p xs ≡ o → (x : X) → o ≡ Some x → p x ≡ true
holds p [] o e x is = let never : None ≡ Some x = e ∙ is in cc
holds {X} p (y ∷ ys) o e x is = by (cases_Bool (p y)) (λ same. holds p ys o same x is)
  where
    by : (p y ≡ true) ⊎ (p y ≡ false) → (find p ys ≡ o → p x ≡ true) → p x ≡ true
    by (inl does) rest = let now : Some y ≡ o = rw does at e in let same : y ≡ x = (let both : Some y ≡ Some x = now ∙ is in cc) in subst (λ (z : X). p z ≡ true) same does
    by (inr not') rest = rest (rw not' at e)

pub record IsMaker (f : Function) (name : ℕ) (i : Inst) : Type 0 where
  pub found : maker_of f name ≡ Some i
  pub makes : makes name i ≡ true
  pub stands : Stands f i

pub record HasMaker (f : Function) (name : ℕ) : Type 0 where
  pub inst : Inst
  pub is : IsMaker f name inst

pub maker : (f : Function) (name : ℕ) → 0 < leaf_count f (Local name) → HasMaker f name
maker f name some = by (maker_of f name) refl
  where
    by : (o : Option Inst) → maker_of f name ≡ o → HasMaker f name
    by None e =
        let agree : leaf_count f (Local name) ≡ min 65 (sum_by (leaf_count f) (carried_by (insts_of f) name)) = counts_agree f (Local name) in
        let none : carried_by (insts_of f) name ≡ [] = ap carried_from e in
        let zero' : leaf_count f (Local name) ≡ min 65 (sum_by (leaf_count f) []) = agree ∙ ap (λ (os : List Operand). min 65 (sum_by (leaf_count f) os)) none in
        absurd (omega (arith, some, zero'))
    by (Some i) e = record {
      inst = i;
      is = record {
        found = e;
        makes = holds (makes name) (insts_of f) (Some i) e i refl;
        stands = found (Stands f) (makes name) (insts_of f) (Some i) (all_stand f) e i refl;
      };
    }

-- ---- the site that defines a name

same_number : (a b : ℕ) → (a == b) ≡ true → a ≡ b
same_number a b e = grind (arith, nat_tests)

pub only : (into name : ℕ) → list_any (λ (result : ℕ). result == name) (into ∷ []) ≡ true → into ≡ name
only into name e = by (cases_Bool (into == name))
  where
    by : ((into == name) ≡ true) ⊎ ((into == name) ≡ false) → into ≡ name
    by (inl same) = same_number into name same
    by (inr other) = let never : false ≡ true = rw other at e in cc

-- the first site of an instruction defines its result
pub record DefinesFirst (i : Inst) (name : ℕ) : Type 0 where
  pub type : IrType
  pub defines : Contains (inst_sites i) (Defines (Some type) name)

abbrev pub makes_defines : (i : Inst) (name : ℕ) → makes name i ≡ true → DefinesFirst i name
makes_defines (Binary into op width left right) name e = record { type = type.Int width; defines = (0, omega arith, ap (Defines (Some (type.Int width))) (only into name e)) }
makes_defines (Icmp into predicate same_sign width left right) name e = record { type = type.Int one_bit; defines = (0, omega arith, ap (Defines (Some (type.Int one_bit))) (only into name e)) }
makes_defines (Cast into cast from operand to) name e = record { type = type.Int to; defines = (0, omega arith, ap (Defines (Some (type.Int to))) (only into name e)) }
makes_defines (Select into condition if_true if_false) name e = record { type = if_true.of_type; defines = (0, omega arith, ap (Defines (Some if_true.of_type)) (only into name e)) }
makes_defines (Freeze into t operand) name e = record { type = t; defines = (0, omega arith, ap (Defines (Some t)) (only into name e)) }
makes_defines (Alloca into number t align) name e = record { type = type.Ptr; defines = (0, omega arith, ap (Defines (Some type.Ptr)) (only into name e)) }
makes_defines (Load into t pointer align) name e = record { type = t; defines = (0, omega arith, ap (Defines (Some t)) (only into name e)) }
makes_defines (Store value pointer align) name e = let never : false ≡ true = e in cc
makes_defines (GetElementPtr into inbounds nuw t base indices) name e = record { type = type.Ptr; defines = (0, omega arith, ap (Defines (Some type.Ptr)) (only into name e)) }

pub record SiteAt (f : Function) (s : Site) : Type 0 where
  pub n : ℕ
  pub here : slice_get (sites f) n ≡ Some s

pub site_of : (f : Function) (i : Inst) (s : Site) → Stands f i → Contains (inst_sites i) s → SiteAt f s
site_of f i s stands has = let at = inst_site f stands.block stands.b stands.place i s stands.at stands.here has in record { n = at.0; here = at.1 }

-- ---- no name has too many leaves

pub few_leaves : (f : Function) → Passes UndefUse f → HasFewLeaves f
few_leaves f passes name = by (cases_lt 64 (leaf_count f (Local name)))
  where
    many : 64 < leaf_count f (Local name) → leaf_count f (Local name) ≤ 64
    many more =
        let made = maker f name (omega (arith, more)) in
        let first = makes_defines made.inst name made.is.makes in
        let site = site_of f made.inst (Defines (Some first.type) name) made.is.stands first.defines in
        absurd (passes site.n (inr (record { type = first.type; name = name; here = site.here; many = more })))

    by : (64 < leaf_count f (Local name)) ⊎ (leaf_count f (Local name) ≤ 64) → leaf_count f (Local name) ≤ 64
    by (inl more) = many more
    by (inr few) = few
