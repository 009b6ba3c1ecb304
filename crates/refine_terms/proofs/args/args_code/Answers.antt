use Rattle.refine_terms.proofs.Common.{arith, drop, flat_map, IsCodeOfArgs, arg-later, keeps_trans, arg_numbers}
use Rattle.refine_terms.proofs.Deciders.{row_ends}
use Rattle.refine_terms.proofs.ArgNumbers.{arg_is, arg_row, args_count, args_end, no_arg}
use Rattle.refine_terms.proofs.args.args_code.Goals as goal

pub bounds-args-i : goal.bounds-args-i
bounds-args-i c = omega (arith, args_count c.args.terms.now c.args.parameters.now c.args.args.now c.requires, c.loop-i-test.true)

pub arg_code-requires : goal.arg_code-requires
arg_code-requires c =
    let p = c.index-parameters-i.result in
    arg-later c.args.terms.now c.loop-i.terms c.loop-i.invariant.kept p.of_type _ (arg_is c.args.terms.now c.args.parameters.now c.args.args.now c.loop-i.i p no_arg c.requires c.loop-i-test.true c.index-parameters-i.is)

pub loop-i-preserved : goal.loop-i-preserved
loop-i-preserved c = record {
  kept = keeps_trans c.args.terms.now c.arg_code.new.terms c.both.new.terms (keeps_trans c.args.terms.now c.loop-i.terms c.arg_code.new.terms c.loop-i.invariant.kept c.arg_code.ensures.kept) c.both.ensures.kept;
  all = record { within = c.in_ok-all-2.ensures.made.within; wide = c.in_ok-all-2.ensures.made.wide };
  rest = arg_row c.args.terms.now c.loop-i.terms c.arg_code.new.terms c.both.new.terms c.args.layout.now c.loop-i.i c.args.parameters.now c.args.args.now c.index-parameters-i.result no_arg c.loop-i.all c.in_ok-one.one c.in_ok-all-2.all
      c.requires c.loop-i-test.true c.index-parameters-i.is c.loop-i.invariant.kept c.arg_code.ensures.kept c.loop-i.invariant.all c.loop-i.invariant.rest c.in_ok-one.ensures.made c.in_ok-all-2.ensures.made;
}

pub returns-clause-made : goal.returns-clause-made
returns-clause-made c =
    row_ends c.loop-i.terms c.loop-i.all
    (λ v. IsCodeOfArgs c.args.layout.now (drop c.loop-i.i c.args.parameters.now) (flat_map (arg_numbers v c.args.terms.now) (drop c.loop-i.i c.args.args.now)))
    (λ v. IsCodeOfArgs c.args.layout.now c.args.parameters.now (flat_map (arg_numbers v c.args.terms.now) c.args.args.now)) c.loop-i.invariant.all c.loop-i.invariant.rest
    (λ v. args_end v c.args.terms.now c.args.layout.now c.loop-i.i c.args.parameters.now c.args.args.now c.requires c.loop-i-test.false)
