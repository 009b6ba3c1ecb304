use Rattle.ir_check.proofs.Common.{◌≡◌, ◌<◌, length, slice_get, Some, arith}
use Rattle.ir_check.proofs.PredecessorLemmas.{got, label_numbered, predecessors_numbered, unfit_at, at_unfit}
use Rattle.ir_check.proofs.edges.is_unfit_at.Goals as goal

pub offset_bounds-predecessors-holder : goal.offset_bounds-predecessors-holder
offset_bounds-predecessors-holder c =
    let stands : slice_get c.args.f.now.blocks c.args.block ≡ Some c.in-Some.holder.now = got c.as_slice.result.now _ c.args.block c.in-Some.holder.now c.as_slice.ensures c.in-Some.ensures.lookup.3.0 c.in-Some.ensures.lookup.1 in
    omega (arith, label_numbered c.args.f.now c.args.block c.in-Some.holder.now c.requires.numbered stands, c.requires.len)

pub bounds-predecessors-holder : goal.bounds-predecessors-holder
bounds-predecessors-holder c =
    let stands : slice_get c.args.f.now.blocks c.args.block ≡ Some c.in-Some.holder.now = got c.as_slice.result.now _ c.args.block c.in-Some.holder.now c.as_slice.ensures c.in-Some.ensures.lookup.3.0 c.in-Some.ensures.lookup.1 in
    omega (arith, label_numbered c.args.f.now c.args.block c.in-Some.holder.now c.requires.numbered stands, c.requires.len)

pub is_unfit-requires : goal.is_unfit-requires
is_unfit-requires c =
    let stands : slice_get c.args.f.now.blocks c.args.block ≡ Some c.in-Some.holder.now = got c.as_slice.result.now _ c.args.block c.in-Some.holder.now c.as_slice.ensures c.in-Some.ensures.lookup.3.0 c.in-Some.ensures.lookup.1 in
    let within : c.in-Some.holder.now.label < length c.args.predecessors.now = omega (arith, label_numbered c.args.f.now c.args.block c.in-Some.holder.now c.requires.numbered stands, c.requires.len) in
    record {
      within = rw c.as_slice-3.ensures (predecessors_numbered c.args.f.now c.args.predecessors.now c.in-Some.holder.now.label c.index-predecessors-holder.result (length c.args.marks.now) c.requires.numbered c.requires.each within c.index-predecessors-holder.is c.requires.marks);
    }

pub returns-clause-unfit : goal.returns-clause-unfit
returns-clause-unfit c =
    let stands : slice_get c.args.f.now.blocks c.args.block ≡ Some c.in-Some.holder.now = got c.as_slice.result.now _ c.args.block c.in-Some.holder.now c.as_slice.ensures c.in-Some.ensures.lookup.3.0 c.in-Some.ensures.lookup.1 in
    let its : slice_get c.in-Some.holder.now.phis c.args.phi ≡ Some c.in-Some-get.phi.now = got c.as_slice-2.result.now c.in-Some.holder.now.phis c.args.phi c.in-Some-get.phi.now c.as_slice-2.ensures c.in-Some-get.ensures.lookup.3.0 c.in-Some-get.ensures.lookup.1 in
    let within : c.in-Some.holder.now.label < length c.args.predecessors.now = omega (arith, label_numbered c.args.f.now c.args.block c.in-Some.holder.now c.requires.numbered stands, c.requires.len) in
    let both = rw c.as_slice-3.ensures at c.is_unfit.ensures.unfit in (
      λ t. unfit_at c.args.f.now c.args.predecessors.now c.args.block c.args.phi c.in-Some.holder.now c.in-Some-get.phi.now c.index-predecessors-holder.result c.requires.each within c.index-predecessors-holder.is stands its (both.0 t),
      λ u. both.1 (at_unfit c.args.f.now c.args.predecessors.now c.args.block c.args.phi c.in-Some.holder.now c.in-Some-get.phi.now c.index-predecessors-holder.result c.requires.each within c.index-predecessors-holder.is stands its u),
    )
