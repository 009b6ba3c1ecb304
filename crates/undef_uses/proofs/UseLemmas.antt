-- A site at which undef is used, or carried too often, by the counts.
use Rattle.std.proofs.Common.{◌<◌, ℕ, length, Some, inl, inr}
use Rattle.std.proofs.lemmas.Option.{slice_get_within}
use Rattle.ir_tree.specs.declared.tree.Function.{Function}
use Rattle.ir_tree.specs.declared.sites.Site.TheVariants.{Defines, Uses}
use Rattle.ir_tree.specs.Sites.{sites}
use Rattle.ir_tree.specs.Carrying.{UsesUndef}

pub use_within : (f : Function) (n : ℕ) → UsesUndef f n → n < length (sites f)
use_within f n (inl u) = slice_get_within (sites f) n (Uses u.type u.name) u.here
use_within f n (inr m) = slice_get_within (sites f) n (Defines (Some m.type) m.name) m.here
