use Rattle.mem_terms.proofs.SymValues.{pointer-made}
use Rattle.mem_terms.proofs.values.pointer_value.Goals as goal

pub returns-clause-stands : goal.returns-clause-stands
returns-clause-stands c =
    pointer-made c.args.terms.now c.truth.new.terms c.truth-2.new.terms c.in_ok-poison.poison c.in_ok-is_pointer.is_pointer c.args.block c.args.offset c.requires.block c.requires.offset
    c.truth.ensures.kept c.in_ok-poison.ensures.made c.truth-2.ensures.kept c.in_ok-is_pointer.ensures.made
