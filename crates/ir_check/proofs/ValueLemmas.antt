-- The value of a name is that of its first definition.
use Rattle.ir_check.proofs.Common.{◌≡◌, ◌↔◌, IsTrue, true, false, ℕ, ◌<◌, ◌⊎◌, List, Option, Some, None, length, inl, inr, refl, arith, cases_eq, slice_get_within, IrType, Defines, Uses, Enters, DefinesAgain, IsLabel, UsesUnknown}
use Rattle.std.specs.List.{slice_get}
use Rattle.ir_tree.specs.declared.sites.Site.{Site}
use Rattle.ir_tree.specs.Definitions.{IsFirstDefinition}
use Rattle.ir_check.specs.Values.{GivesValue, defined_type, is_label_of}

-- each definition of the name is its first one
only : (all : List Site) (name n m : ℕ) (type : Option IrType) → ((k : ℕ) → DefinesAgain all k → ⊥) → IsFirstDefinition all (length all) name (Some n) → slice_get all m ≡ Some (Defines type name) → m ≡ n
only all name n m type once first there = go (cases_eq m n)
  where
    go : (m ≡ n) ⊎ (m ≡ n → ⊥) → m ≡ n
    go (inl same) = same
    go (inr other) = absurd (once m (record {
      type = type;
      name = name;
      here = there;
      earlier = n;
      before = (let late : m < n → ⊥ = λ (below : m < n). first.2 m type below there in omega (arith, late, other));
      other = first.1.0;
      there = first.1.1;
    }))

pub no_value : (all : List Site) (name : ℕ) → IsFirstDefinition all (length all) name None → GivesValue all name None
no_value all name undefined has = undefined has.0 (Some has.1) (slice_get_within all has.0 (Defines (Some has.1) name) has.2) has.2

pub first_value : (all : List Site) (name n : ℕ) (site : Site) → ((k : ℕ) → DefinesAgain all k → ⊥) → IsFirstDefinition all (length all) name (Some n) → slice_get all n ≡ Some site → GivesValue all name (defined_type site)
first_value all name n site once first here = rw is (given first.1.0 refl)
  where
    is : site ≡ Defines first.1.0 name
    is = let there : slice_get all n ≡ Some (Defines first.1.0 name) = first.1.1 in cc

    given : (type : Option IrType) → type ≡ first.1.0 → GivesValue all name type
    given None e = λ has. let same : has.0 ≡ n = only all name n has.0 (Some has.1) once first has.2 in
        let there : slice_get all n ≡ Some (Defines (Some has.1) name) = rw same at has.2 in let there' : slice_get all n ≡ Some (Defines first.1.0 name) = first.1.1 in cc
    given (Some type) e = (
      (n, (let there : slice_get all n ≡ Some (Defines first.1.0 name) = first.1.1 in cc)),
      λ m other there. let same : m ≡ n = only all name n m (Some other) once first there in
          let here' : slice_get all n ≡ Some (Defines (Some other) name) = rw same at there in let there' : slice_get all n ≡ Some (Defines first.1.0 name) = first.1.1 in cc,
    )

-- the name is a label exactly where its first definition is a block's
pub no_label : (all : List Site) (name : ℕ) → IsFirstDefinition all (length all) name None → IsLabel all name → ⊥
no_label all name undefined has = undefined has.0 None (slice_get_within all has.0 (Defines None name) has.1) has.1

pub first_label : (all : List Site) (name n : ℕ) (site : Site) → ((k : ℕ) → DefinesAgain all k → ⊥) → IsFirstDefinition all (length all) name (Some n) → slice_get all n ≡ Some site → IsTrue (is_label_of site) ↔ IsLabel all name
first_label all name n site once first here = rw is (given first.1.0 refl)
  where
    is : site ≡ Defines first.1.0 name
    is = let there : slice_get all n ≡ Some (Defines first.1.0 name) = first.1.1 in cc

    given : (type : Option IrType) → type ≡ first.1.0 → IsTrue (is_label_of (Defines type name)) ↔ IsLabel all name
    given None e = (λ t. (n, (let there : slice_get all n ≡ Some (Defines first.1.0 name) = first.1.1 in cc)), λ has. refl)
    given (Some type) e = (
      λ t. absurd (let f : false ≡ true = t in cc),
      λ has. absurd (let same : has.0 ≡ n = only all name n has.0 None once first has.1 in
          let there : slice_get all n ≡ Some (Defines None name) = rw same at has.1 in let there' : slice_get all n ≡ Some (Defines first.1.0 name) = first.1.1 in cc),
    )

-- a site that fails is in the list
pub unknown_within : (all : List Site) (n : ℕ) → UsesUnknown all n → n < length all
unknown_within all n (inl uses) = slice_get_within all n (Uses uses.type uses.name) uses.here
unknown_within all n (inr enters) = slice_get_within all n (Enters enters.name) enters.here
