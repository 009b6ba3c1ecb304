use Rattle.pair_questions.proofs.Common.{refl, sym, ap, subst, ◌∙◌, ByteFits, reading, keeps_trans, block_number}
use Rattle.pair_questions.proofs.Knowing.{byte_read, six_known, bits_value, part_value}
use Rattle.pair_questions.proofs.known.known_byte.Goals.{in-Bits-default-eq0, in-Bits, in-Part}
use Rattle.pair_questions.proofs.known.known_byte.Goals as goal

pub returns-clause-stands : goal.returns-clause-stands
returns-clause-stands c layout v fits =
    let one = c.constant.new.self in
    let two = c.constant-2.new.self in
    let three = c.constant-3.new.self in
    let four = c.known_pointer.new.terms in
    let five = c.constant-4.new.self in
    let t = c.match-byte.kind in
    let k4 = c.constant-4.ensures.kept in
    let k3 = keeps_trans three four five c.known_pointer.ensures.kept k4 in
    let k2 = keeps_trans two three five c.constant-3.ensures.kept k3 in
    let k1 = keeps_trans one two five c.constant-2.ensures.kept k2 in
    six_known one two three four four five _ t.0 t.1 t.2 (block_number t.3.block) t.3.offset t.4 k1 k2 k3 k4 k4
    c.in_ok-kind.ensures.made c.in_ok-mask.ensures.made c.in_ok-number.ensures.made c.in_ok-block.ensures.block c.in_ok-block.ensures.offset c.in_ok-part.ensures.made (reading layout.blocks v)
    ∙ elim c.match-byte.branch [
      | in-Bits-default-eq0 w ↦
          let bits = w.in-Bits-default-eq0 in
          ap (byte_read layout) w.kind-is ∙ bits_value layout c.args.byte bits.number bits.mask 0 bits.is (sym bits.mask-is ∙ bits.mask-test) fits
      | in-Bits w ↦ ap (byte_read layout) w.kind-is ∙ bits_value layout c.args.byte w.in-Bits.number w.in-Bits.mask w.in-Bits.mask w.in-Bits.is refl fits
      | in-Part w ↦ ap (byte_read layout) w.kind-is ∙ (part_value layout w.in-Part.pointer w.in-Part.part (subst (ByteFits layout) w.in-Part.is fits) ∙ sym w.in-Part.is)
    ]
