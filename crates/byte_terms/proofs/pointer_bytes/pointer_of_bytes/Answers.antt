use Rattle.byte_terms.proofs.Common.{◌<◌, get_or, length, arith, at-any}
use Rattle.byte_terms.proofs.Parts.{pointer_of_bytes_stands}
use Rattle.byte_terms.proofs.pointer_bytes.pointer_of_bytes.Goals as goal

pub returns-clause-stands : goal.returns-clause-stands
returns-clause-stands c = λ r named.
    let some : 0 < length c.args.bytes.now = omega (arith, c.requires.count) in
    let first = get_or c.args.bytes.now 0 (record { is_part = record { index = 0 }; mask = record { index = 0 }; number = record { index = 0 }; block = record { index = 0 }; offset = record { index = 0 }; part = record { index = 0 } }) in
    pointer_of_bytes_stands c.args.terms.now c.are_parts.new.terms c.negation.new.terms c.truth.new.terms c.args.bytes.now first c.in_ok-are_parts.are_parts c.in_ok-poison.poison c.in_ok-is_pointer.is_pointer
    c.requires.bytes some (at-any c.args.bytes.now 0 _ _ some) c.are_parts.ensures.kept c.negation.ensures.kept c.in_ok-poison.ensures.made c.truth.ensures.kept c.in_ok-is_pointer.ensures.made r (c.in_ok-are_parts.ensures.stands r named)
