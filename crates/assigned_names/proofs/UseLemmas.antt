-- Whether some path misses a name where it is used.
use Rattle.std.proofs.Common.{◌≡◌, ◌↔◌, ◌⊎◌, inl, inr, IsTrue, ℕ, zero, suc, ◌+◌, ◌<◌, ◌≤◌, Bool, true, false, not, List, [], ◌∷◌, length, take, slice_get, Some, None, refl, ap, sym, subst, ◌∙◌, arith}
use Rattle.std.proofs.lemmas.Bool.{cases_Bool, both_ways}
use Rattle.std.proofs.lemmas.List.{take_all}
use Rattle.std.proofs.lemmas.Option.{slice_get_within, none-some, same_Some}
use Rattle.definite_assignment.specs.Sets.{has}
use Rattle.ir_tree.specs.declared.tree.Block.{Block}
use Rattle.ir_tree.specs.declared.tree.Function.{Function}
use Rattle.ir_tree.specs.declared.tree.IrType.{IrType}
use Rattle.ir_tree.specs.declared.sites.Part.{Part}
use Rattle.ir_tree.specs.declared.sites.Part.TheVariants as part
use Rattle.ir_tree.specs.declared.sites.Site.TheVariants.{Uses}
use Rattle.ir_tree.specs.declared.module.Reason.TheVariants.{NameTwice}
use Rattle.ir_tree.specs.Sites.{sites, parts}
use Rattle.ir_tree.specs.Flow.{block_of}
use Rattle.ir_tree.specs.WellFormed.{Passes, IsMissed, IsMissedAt, IsMissedBehind, UsesUnassigned}
use Rattle.assigned_names.specs.Known.{AreBefore}
use Rattle.assigned_names.proofs.DefinerLemmas.{IsAssignedThere, block_of_is, has_label}

-- the name is missed after this number of the block's instructions
abbrev pub IsMissedThere : Function → ℕ → ℕ → ℕ → Type 0
IsMissedThere f block ran name = (b : Block) × IsMissed f block b (take ran b.insts) name

exists : {X : Type 0} (xs : List X) (i : ℕ) → i < length xs → (x : X) × (slice_get xs i ≡ Some x)
exists [] i below = absurd (omega (arith, below))
exists (x ∷ xs) zero below = (x, refl)
exists (x ∷ xs) (suc i) below = exists xs i (omega (arith, below))

pub assigned_before : (f : Function) (sets : List (List Bool)) (block ran name : ℕ) → AreBefore f sets → block < length f.blocks → name < length f.names → has sets block name ≡ true → IsMissedThere f block ran name → ⊥
assigned_before f sets block ran name before within numbered t w = w.1.before (before.assigned block name within numbered t w.1.left w.1.path)

pub missed_there : (f : Function) (sets : List (List Bool)) (block ran name : ℕ) (r : Bool) → AreBefore f sets → block < length f.blocks → name < length f.names → has sets block name ≡ false
    → ((b : Block) → slice_get f.blocks block ≡ Some b → IsTrue r ↔ IsAssignedThere f b ran name) → IsTrue (not r) ↔ IsMissedThere f block ran name
missed_there f sets block ran name r before within numbered lacks told = (λ t. there (cases_Bool r) t, λ w. back (cases_Bool r) w)
  where
    missed : r ≡ false → IsMissedThere f block ran name
    missed no' =
        let b = exists f.blocks block within in
        let path = before.missed block name within numbered lacks in
        let never : IsAssignedThere f b.0 ran name → ⊥ = λ found. both_ways _ no' ((told b.0 b.1).1 found) in
        (b.0, record { stands = b.1; left = path.0; path = path.1; outside = λ found. never (inl found); before = path.2; within = λ found. never (inr found) })

    there : (r ≡ true) ⊎ (r ≡ false) → IsTrue (not r) → IsMissedThere f block ran name
    there (inl e) t = absurd (let s : true ≡ false = sym t ∙ ap not e in both_ways true s refl)
    there (inr e) t = missed e

    back : (r ≡ true) ⊎ (r ≡ false) → IsMissedThere f block ran name → IsTrue (not r)
    back (inl e) w = absurd (either ((told w.0 w.1.stands).0 e))
      where
        either : IsAssignedThere f w.0 ran name → ⊥
        either (inl found) = w.1.outside found
        either (inr found) = w.1.within found
    back (inr e) w = ap not e

-- after all instructions
pub at_end : (f : Function) (block name : ℕ) (b : Block) → slice_get f.blocks block ≡ Some b → IsMissedThere f block (length b.insts) name ↔ ((c : Block) × IsMissed f block c c.insts name)
at_end f block name b stands = (λ w. (w.0, whole w.0 w.1.stands w.1), λ w. (w.0, part_of w.0 w.1.stands w.1))
  where
    all : (c : Block) → slice_get f.blocks block ≡ Some c → take (length b.insts) c.insts ≡ c.insts
    all c its = let same : c ≡ b = same_Some c b (sym its ∙ stands) in take_all (length b.insts) c.insts (let long = ap (λ (x : Block). length x.insts) same in omega (arith, long))

    whole : (c : Block) → slice_get f.blocks block ≡ Some c → IsMissed f block c (take (length b.insts) c.insts) name → IsMissed f block c c.insts name
    whole c its missed = rw (all c its) at missed

    part_of : (c : Block) → slice_get f.blocks block ≡ Some c → IsMissed f block c c.insts name → IsMissed f block c (take (length b.insts) c.insts) name
    part_of c its missed = rw (all c its) missed

pub no_end : (f : Function) (block name : ℕ) → slice_get f.blocks block ≡ None → ((c : Block) × IsMissed f block c c.insts name) → ⊥
no_end f block name none w = none-some w.0 (sym none ∙ w.1.stands)

-- the block with a label
pub behind_label : (f : Function) (label name block : ℕ) → Passes NameTwice f → block ≡ block_of f label → ((c : Block) × IsMissed f block c c.insts name) ↔ IsMissedBehind f label name
behind_label f label name block once is = (
  λ w. record { block = block; b = w.0; labelled = has_label f label w.0 (ap (λ (k : ℕ). slice_get f.blocks k) (sym is) ∙ w.1.stands); missed = w.1 },
  λ behind. let same : behind.block ≡ block = sym (block_of_is f label behind.block behind.b once behind.missed.stands behind.labelled) ∙ sym is in
      (behind.b, subst (λ (k : ℕ). IsMissed f k behind.b behind.b.insts name) same behind.missed),
)

-- a use
pub uses : (f : Function) (n : ℕ) (type : IrType) (name : ℕ) (p : Part) → slice_get (sites f) n ≡ Some (Uses type name) → slice_get (parts f) n ≡ Some p → IsMissedAt f p n name ↔ UsesUnassigned f n
uses f n type name p site its = (λ missed. record { type = type; name = name; here = site; part = p; stands = its; missed = missed }, λ use'. back use')
  where
    back : UsesUnassigned f n → IsMissedAt f p n name
    back u =
        let name_is : u.name ≡ name = (let same : Uses u.type u.name ≡ Uses type name = same_Some _ _ (sym u.here ∙ site) in cc) in
        let part_is : u.part ≡ p = same_Some _ _ (sym u.stands ∙ its) in
        subst (λ (m : ℕ). IsMissedAt f p n m) name_is (subst (λ (q : Part). IsMissedAt f q n u.name) part_is u.missed)

pub use_within : (f : Function) (n : ℕ) → UsesUnassigned f n → n < length (sites f)
use_within f n u = slice_get_within (sites f) n (Uses u.type u.name) u.here
