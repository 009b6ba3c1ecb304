use Rattle.refine_terms.proofs.Common.{subst, IsArg}
use Rattle.refine_terms.proofs.ArgNumbers.{ptr_decides}
use Rattle.refine_terms.proofs.args.arg_code.Goals as goal

pub returns-in_ok-id-in-Ptr-clause-made : goal.returns-in_ok-id-in-Ptr-clause-made
returns-in_ok-id-in-Ptr-clause-made c =
    rw c.in-Ptr.is
    (ptr_decides c.args.terms.now c.at_most.new.terms c.is_number-in-Ptr.new.terms c.is_number-in-Ptr-2.new.terms c.both.new.terms c.implies-in-Ptr.new.terms c.both-in-Ptr.new.terms c.args.layout.now c.args.of_type
    c.in-Ptr.flag c.in-Ptr.block c.in-Ptr.offset c.in_ok-is_given-in-Ptr.is_given c.in_ok-no_block-in-Ptr.no_block c.in_ok-no_offset-in-Ptr.no_offset c.in_ok-is_zero-in-Ptr.is_zero c.in_ok-fine-in-Ptr.fine c.in_ok-id-in-Ptr.id
    c.values_fit.ensures (subst (λ a. IsArg c.args.terms.now c.args.of_type a) c.in-Ptr.is c.requires)
    c.at_most.ensures.kept c.is_number-in-Ptr.ensures.kept c.is_number-in-Ptr-2.ensures.kept c.both.ensures.kept c.implies-in-Ptr.ensures.kept
    c.in_ok-is_given-in-Ptr.ensures.made c.in_ok-no_block-in-Ptr.ensures.made c.in_ok-no_offset-in-Ptr.ensures.made c.in_ok-is_zero-in-Ptr.ensures.made c.in_ok-fine-in-Ptr.ensures.made c.in_ok-id-in-Ptr.ensures.made)
