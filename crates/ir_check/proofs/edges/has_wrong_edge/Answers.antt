use Rattle.ir_check.proofs.Common.{◌≡◌, slice_get, Some, Defines, sites, parts}
use Rattle.ir_tree.specs.declared.sites.Part.TheVariants as part
use Rattle.ir_check.proofs.PredecessorLemmas.{phi_wrong}
use Rattle.ir_check.proofs.edges.has_wrong_edge.Goals as goal

pub returns-in-Defines-Phi-clause-wrong : goal.returns-in-Defines-Phi-clause-wrong
returns-in-Defines-Phi-clause-wrong c =
    let site : slice_get (sites c.args.f.now) c.args.n ≡ Some (Defines c.in-Defines-Phi.of_type-0 c.in-Defines-Phi.name-0) = rw (← c.requires.all, ← c.in-Defines-Phi.is-0) c.get.ensures in
    let its : slice_get (parts c.args.f.now) c.args.n ≡ Some (part.Phi c.in-Defines-Phi.block c.in-Defines-Phi.phi) = rw (← c.requires.parts, ← c.in-Defines-Phi.is-1) c.get-2.ensures in
    let both = phi_wrong c.args.f.now c.args.n c.in-Defines-Phi.of_type-0 c.in-Defines-Phi.name-0 c.in-Defines-Phi.block c.in-Defines-Phi.phi site its in
    (λ t. both.1 (c.is_unfit_at.ensures.unfit.0 t), λ w. c.is_unfit_at.ensures.unfit.1 (both.0 w))
