use Rattle.std.proofs.Common.{subst}
use Rattle.mem_terms.specs.Inputs.{IsArg}
use Rattle.mem_terms.proofs.Later.{keeps_trans}
use Rattle.mem_terms.proofs.GivenTerms.{int_arg-stands, ptr_arg-stands}
use Rattle.mem_terms.proofs.given.arg_value.Goals as goal

pub returns-in_ok-is_pointer-in-Int-clause-stands :
    goal.returns-in_ok-is_pointer-in-Int-clause-stands
returns-in_ok-is_pointer-in-Int-clause-stands c =
    rw c.in-Int.is
    (int_arg-stands c.args.terms.now c.resize.new.terms c.truth.new.terms c.args.of_type c.in-Int.flag c.in-Int.n c.in_ok-number_64-in-Int.number_64 c.in_ok-block-in-Int.block c.in_ok-is_pointer-in-Int.is_pointer
    c.values_fit.ensures (subst (λ a. IsArg c.args.terms.now c.args.of_type a) c.in-Int.is c.requires) c.resize.ensures.kept c.in_ok-number_64-in-Int.ensures.made
    (keeps_trans c.resize.new.terms c.number.new.terms c.truth.new.terms c.number.ensures.kept c.truth.ensures.kept) c.in_ok-is_pointer-in-Int.ensures.made)

pub returns-in_ok-is_pointer-in-Ptr-clause-stands :
    goal.returns-in_ok-is_pointer-in-Ptr-clause-stands
returns-in_ok-is_pointer-in-Ptr-clause-stands c =
    rw c.in-Ptr.is
    (ptr_arg-stands c.args.terms.now c.resize-in-Ptr.new.terms c.truth-in-Ptr.new.terms c.args.of_type c.in-Ptr.flag c.in-Ptr.block c.in-Ptr.offset c.in_ok-block-in-Ptr.block c.in_ok-is_pointer-in-Ptr.is_pointer
    c.values_fit.ensures (subst (λ a. IsArg c.args.terms.now c.args.of_type a) c.in-Ptr.is c.requires) c.resize-in-Ptr.ensures.kept c.in_ok-block-in-Ptr.ensures.made c.truth-in-Ptr.ensures.kept c.in_ok-is_pointer-in-Ptr.ensures.made)
