use Rattle.ir_items.proofs.Common.{List, map, sym, ap, ◌∙◌, arith, Define, IsCut}
use Rattle.ir_items.proofs.cutting.cut.Goals as goal

pub loop-at-init : goal.loop-at-init
loop-at-init c = record {
  cut = rw c.new-defines.ensures.items IsCut.nothing;
  within = omega arith;
  few = rw c.new-defines.ensures.items (omega arith);
  names = c.new-names.ensures ∙ ap (λ (ds : List Define). map (λ d. d.name) ds) (sym c.new-defines.ensures.items);
}
