use Rattle.std.proofs.Common.{◌%◌, ◌^◌, ap, ◌∙◌, w64, to_z-of_z}
use Rattle.std.specs.Int.{cast_unsigned}
use Rattle.tv_num.proofs.Wrapping.{wrapped_bits}
use Rattle.tv_num.proofs.wrap_signed.Goals as goal

pub returns : goal.returns
returns c =
    let bits = c.cast_unsigned.ensures ∙ ap (cast_unsigned w64) (to_z-of_z c.ranges.z) in
    c.wrap.ensures ∙ ap (λ k. k % 2 ^ c.args.w.bits) bits ∙ wrapped_bits c.args.w.bits c.args.z c.args.w.at_most_64 c.ranges.z
