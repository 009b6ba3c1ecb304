use Rattle.ir_tree.proofs.Common.{◌∙◌}
use Rattle.ir_tree.proofs.Listing.{function-made, list-length}
use Rattle.ir_tree.proofs.sites.sites_of.Goals as goal

pub returns : goal.returns
returns c =
    let made = function-made c.args.f.now (record { all = c.from_vec.result; parts = c.from_vec-2.result }) c.part.new.self c.parameters.new.self c.blocks-2.new.self
    (c.from_vec.ensures ∙ c.new.ensures.items) (c.from_vec-2.ensures ∙ c.new-2.ensures.items)
    (rw (c.fitting.ensures, c.fitting-2.ensures) at c.in_ok-part.ensures) (rw c.as_slice.ensures at c.in_ok-parameters.ensures) (rw c.as_slice-2.ensures at c.in_ok-blocks.ensures) in
    record { all = made.0; parts = made.1; len = list-length c.args.f.now c.blocks-2.new.self made.0 made.1 }
