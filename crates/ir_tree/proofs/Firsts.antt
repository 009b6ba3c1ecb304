-- The table of first definitions, when one more site is looked at.
use Rattle.ir_tree.proofs.Common.{◌≡◌, ℕ, ◌+◌, ◌<◌, ◌⊎◌, List, Option, Some, None, length, get_or, set, length-set, refl, ◌∙◌, arith, inl, inr, get_or-set_same, get_or-set_other, cases_eq, IrType, Site, Defines, IsUndefinedBefore, IsDefinition, IsFirstDefinition, AreFirst}
use Rattle.std.specs.List.{slice_get}
use borrow.Author.Count.{below_more}

-- nothing defines the name before, and nor does the site at the end
later-none : (all : List Site) (n name : ℕ) → (IsDefinition all n name → ⊥) → IsUndefinedBefore all n name → IsUndefinedBefore all (n + 1) name
later-none all n name not_here before m type below there =
    let P : ℕ → Type 0 = λ (k : ℕ). (t : Option IrType) → slice_get all k ≡ Some (Defines t name) → ⊥ in
    below_more P n (λ (k : ℕ) (less : k < n) (t : Option IrType) (e : slice_get all k ≡ Some (Defines t name)). before k t less e) (λ (t : Option IrType) (e : slice_get all n ≡ Some (Defines t name)). not_here (t, e)) m below type there

later : (all : List Site) (n name : ℕ) (first : Option ℕ) → (first ≡ None → IsDefinition all n name → ⊥) → IsFirstDefinition all n name first → IsFirstDefinition all (n + 1) name first
later all n name None not_here f = later-none all n name (not_here refl) f
later all n name (Some d) not_here f = (let below : d < n = f.0 in omega (arith, below), f.1, f.2)

-- the site defines no name that has no definition yet
pub kept : (all : List Site) (n : ℕ) (table : List (Option ℕ)) → ((name : ℕ) → get_or table name None ≡ None → IsDefinition all n name → ⊥) → AreFirst all n table → AreFirst all (n + 1) table
kept all n table not_here so_far = record { each = λ name below. later all n name (get_or table name None) (not_here name) (so_far.each name below) }

-- the site defines a name that has no definition yet
pub put : (all : List Site) (n : ℕ) (table : List (Option ℕ)) (type : Option IrType) (name : ℕ) → slice_get all n ≡ Some (Defines type name) → name < length table → get_or table name None ≡ None
    → AreFirst all n table → AreFirst all (n + 1) (set table name (Some n))
put all n table type name here within none so_far = record { each = λ k below. go k (rw (length-set table name (Some n)) at below) (cases_eq k name) }
  where
    go : (k : ℕ) → k < length table → (k ≡ name) ⊎ (k ≡ name → ⊥) → IsFirstDefinition all (n + 1) k (get_or (set table name (Some n)) k None)
    go k below (inl same) =
        let e : get_or (set table name (Some n)) k None ≡ Some n = (rw same (get_or-set_same table name (Some n) None within)) in
        let undefined : IsFirstDefinition all n name None = rw none at (so_far.each name within) in
        rw e (omega arith, (type, rw same here), rw same undefined)
    go k below (inr other) =
        rw (get_or-set_other table name k (Some n) None other)
        (later all n k (get_or table k None) (λ (e : get_or table k None ≡ None) (d : IsDefinition all n k). other (let there : slice_get all n ≡ Some (Defines d.0 k) = d.1 in cc)) (so_far.each k below))

-- the site defines a name that has a definition
pub had : (all : List Site) (n : ℕ) (table : List (Option ℕ)) (type : Option IrType) (name : ℕ) (first : ℕ) → slice_get all n ≡ Some (Defines type name) → get_or table name None ≡ Some first
    → AreFirst all n table → AreFirst all (n + 1) table
had all n table type name first here is so_far = kept all n table (λ other none d.
    let there : slice_get all n ≡ Some (Defines d.0 other) = d.1 in
    let same : other ≡ name = cc in
    let none' : get_or table name None ≡ None = rw same at none in cc) so_far

-- the site defines no name
pub passed : (all : List Site) (n : ℕ) (table : List (Option ℕ)) (site : Site) → slice_get all n ≡ Some site → ((type : Option IrType) (name : ℕ) → site ≡ Defines type name → ⊥) → AreFirst all n table → AreFirst all (n + 1) table
passed all n table site here defines_none so_far = kept all n table (λ name none d. defines_none d.0 name (let there : slice_get all n ≡ Some (Defines d.0 name) = d.1 in cc)) so_far
