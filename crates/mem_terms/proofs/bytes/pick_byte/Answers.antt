use Rattle.std.proofs.Common.{◌∙◌, sym}
use Rattle.mem_terms.proofs.Later.{is_term-later}
use Rattle.mem_terms.proofs.SymBytes.{keeps_five, keeps_four, keeps_six, pick_byte-made, pick_byte-stands}
use Rattle.mem_terms.proofs.bytes.pick_byte.Goals as goal

pub returns-in_err-block-clause-kept : goal.returns-in_err-block-clause-kept
returns-in_err-block-clause-kept c =
    keeps_four c.args.terms.now c.pick.new.terms c.pick_field.new.terms c.pick_field-2.new.terms c.pick_field-3.new.terms
    c.pick.ensures.kept c.pick_field.ensures.kept c.pick_field-2.ensures.kept c.pick_field-3.ensures.kept

pub returns-in_err-offset-clause-kept : goal.returns-in_err-offset-clause-kept
returns-in_err-offset-clause-kept c =
    keeps_five c.args.terms.now c.pick.new.terms c.pick_field.new.terms c.pick_field-2.new.terms c.pick_field-3.new.terms c.pick_field-4.new.terms
    c.pick.ensures.kept c.pick_field.ensures.kept c.pick_field-2.ensures.kept c.pick_field-3.ensures.kept c.pick_field-4.ensures.kept

pub pick_field-requires-5-clause-c : goal.pick_field-requires-5-clause-c
pick_field-requires-5-clause-c c =
    let kept = keeps_five c.args.terms.now c.pick.new.terms c.pick_field.new.terms c.pick_field-2.new.terms c.pick_field-3.new.terms c.pick_field-4.new.terms
    c.pick.ensures.kept c.pick_field.ensures.kept c.pick_field-2.ensures.kept c.pick_field-3.ensures.kept c.pick_field-4.ensures.kept in
    is_term-later c.args.terms.now c.pick_field-4.new.terms kept 1 c.args.c c.requires.c

pub pick_field-requires-5-clause-alike : goal.pick_field-requires-5-clause-alike
pick_field-requires-5-clause-alike c =
    let kept = keeps_five c.args.terms.now c.pick.new.terms c.pick_field.new.terms c.pick_field-2.new.terms c.pick_field-3.new.terms c.pick_field-4.new.terms
    c.pick.ensures.kept c.pick_field.ensures.kept c.pick_field-2.ensures.kept c.pick_field-3.ensures.kept c.pick_field-4.ensures.kept in
    (is_term-later c.args.terms.now c.pick_field-4.new.terms kept 3 c.args.a.part c.requires.a.part).wide
    ∙ sym (is_term-later c.args.terms.now c.pick_field-4.new.terms kept 3 c.args.b.part c.requires.b.part).wide

pub returns-in_err-part-clause-kept : goal.returns-in_err-part-clause-kept
returns-in_err-part-clause-kept c =
    keeps_six c.args.terms.now c.pick.new.terms c.pick_field.new.terms c.pick_field-2.new.terms c.pick_field-3.new.terms c.pick_field-4.new.terms c.pick_field-5.new.terms
    c.pick.ensures.kept c.pick_field.ensures.kept c.pick_field-2.ensures.kept c.pick_field-3.ensures.kept c.pick_field-4.ensures.kept c.pick_field-5.ensures.kept

pub returns-clause-made : goal.returns-clause-made
returns-clause-made c =
    pick_byte-made c.args.terms.now c.pick.new.terms c.pick_field.new.terms c.pick_field-2.new.terms c.pick_field-3.new.terms c.pick_field-4.new.terms c.pick_field-5.new.terms
    c.pick.ensures.kept c.pick_field.ensures.kept c.pick_field-2.ensures.kept c.pick_field-3.ensures.kept c.pick_field-4.ensures.kept c.pick_field-5.ensures.kept
    c.args.c c.in_ok-is_part.is_part c.in_ok-mask.mask c.in_ok-number.number c.in_ok-block.block c.in_ok-offset.offset c.in_ok-part.part c.args.a c.args.b
    (record { bits = c.may_be_bits.result; number = c.may_have_number.result; part = c.may_be_part.result })
    (record { bits = c.may_be_bits-2.result; number = c.may_have_number-2.result; part = c.may_be_part-2.result })
    c.requires.c c.requires.a c.requires.b c.in_ok-is_part.ensures.made
    c.in_ok-mask.ensures.made c.in_ok-mask.ensures.first c.in_ok-mask.ensures.second
    c.in_ok-number.ensures.made c.in_ok-number.ensures.first c.in_ok-number.ensures.second
    c.in_ok-block.ensures.made c.in_ok-block.ensures.first c.in_ok-block.ensures.second
    c.in_ok-offset.ensures.made c.in_ok-offset.ensures.first c.in_ok-offset.ensures.second
    c.in_ok-part.ensures.made c.in_ok-part.ensures.first c.in_ok-part.ensures.second

pub returns-clause-stands : goal.returns-clause-stands
returns-clause-stands c =
    pick_byte-stands c.args.terms.now c.pick.new.terms c.pick_field.new.terms c.pick_field-2.new.terms c.pick_field-3.new.terms c.pick_field-4.new.terms c.pick_field-5.new.terms
    c.pick.ensures.kept c.pick_field.ensures.kept c.pick_field-2.ensures.kept c.pick_field-3.ensures.kept c.pick_field-4.ensures.kept c.pick_field-5.ensures.kept
    c.args.c c.in_ok-is_part.is_part c.in_ok-mask.mask c.in_ok-number.number c.in_ok-block.block c.in_ok-offset.offset c.in_ok-part.part c.args.a c.args.b
    (record { bits = c.may_be_bits.result; number = c.may_have_number.result; part = c.may_be_part.result })
    (record { bits = c.may_be_bits-2.result; number = c.may_have_number-2.result; part = c.may_be_part-2.result })
    c.requires.c c.requires.a c.requires.b c.in_ok-is_part.ensures.made
    c.in_ok-mask.ensures.made c.in_ok-mask.ensures.first c.in_ok-mask.ensures.second
    c.in_ok-number.ensures.made c.in_ok-number.ensures.first c.in_ok-number.ensures.second
    c.in_ok-block.ensures.made c.in_ok-block.ensures.first c.in_ok-block.ensures.second
    c.in_ok-offset.ensures.made c.in_ok-offset.ensures.first c.in_ok-offset.ensures.second
    c.in_ok-part.ensures.made c.in_ok-part.ensures.first c.in_ok-part.ensures.second
    (record { bits = c.may_be_bits.ensures; number = c.may_have_number.ensures; part = c.may_be_part.ensures })
    (record { bits = c.may_be_bits-2.ensures; number = c.may_have_number-2.ensures; part = c.may_be_part-2.ensures })

pub returns-clause-kept : goal.returns-clause-kept
returns-clause-kept c =
    keeps_six c.args.terms.now c.pick.new.terms c.pick_field.new.terms c.pick_field-2.new.terms c.pick_field-3.new.terms c.pick_field-4.new.terms c.pick_field-5.new.terms
    c.pick.ensures.kept c.pick_field.ensures.kept c.pick_field-2.ensures.kept c.pick_field-3.ensures.kept c.pick_field-4.ensures.kept c.pick_field-5.ensures.kept
