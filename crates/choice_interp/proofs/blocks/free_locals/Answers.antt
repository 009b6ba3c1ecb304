use Rattle.choice_interp.proofs.Common.{rules, List, ap, ◌∙◌, filter, MemoryBlock, is_given}
use Rattle.std.proofs.lemmas.Fn.{filter_same}
use Rattle.choice_interp.proofs.blocks.free_locals.Goals as goal

pub returns : goal.returns
returns c =
    let kept = filter_same _ _ _ (λ x b f' k. search rules) _ _ c.retain.ensures.filtered in
    c.from_vec.ensures ∙ kept ∙ ap (λ (bs : List MemoryBlock). filter is_given bs) (c.into_vec-blocks.ensures ∙ c.replace.ensures.value)
