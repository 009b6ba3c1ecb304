-- What a check reports of a function that it refuses.
use Rattle.std.specs.Prelude.{◌≡◌, ◌⊎◌, ℕ}
use Rattle.ir_tree.specs.declared.module.Reason.{Reason}
use Rattle.ir_tree.specs.declared.module.Reason.TheVariants.{NameTwice, NameUnknown}
use Rattle.ir_tree.specs.declared.module.Refused.{Refused}
use Rattle.ir_tree.specs.declared.tree.Function.{Function}
use Rattle.ir_tree.specs.WellFormed.{Passes, IsFirstSite, refusal_at}

-- the refusal has this reason and the position of the reason's first site in the function
pub record IsToldAt (reason : Reason) (f : Function) (refused : Refused) : Type 0 where
  pub site : ℕ
  pub first : IsFirstSite reason f site
  pub told : refused ≡ refusal_at reason f site

-- some name is defined twice, or none is and some name is not known
abbrev pub AreNamesToldAt : Function → Refused → Type 0
AreNamesToldAt f refused = IsToldAt NameTwice f refused ⊎ (Passes NameTwice f × IsToldAt NameUnknown f refused)
