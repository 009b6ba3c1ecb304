use Rattle.pair_questions.proofs.Common.{◌<◌, length, take, get_or, sym, subst, ◌∙◌, arith, take_all, Parameter, ValueFits, reading, IsArg, keeps_trans, args-later, nameable}
use Rattle.byte_block.specs.declared.value.Value.TheVariants.{Num}
use Rattle.pair_questions.proofs.Extending.{args_more}
use Rattle.pair_questions.proofs.Knowing.{fit_count, fit_at, args_stand}
use Rattle.pair_questions.proofs.known.known_args.Goals as goal

pub known_arg-requires : goal.known_arg-requires
known_arg-requires c =
    subst (λ (p : Parameter). ValueFits nameable p.of_type (get_or c.args.args.now c.loop-i.i (Num 0))) (sym c.index-parameters-i.is)
    (fit_at nameable c.args.parameters.now c.args.args.now c.loop-i.i c.index-parameters-i.result (Num 0) c.requires c.loop-i-test.true)

pub bounds-args-i : goal.bounds-args-i
bounds-args-i c = let count = fit_count nameable c.args.parameters.now c.args.args.now c.requires in omega (arith, count, c.loop-i-test.true)

pub loop-i-preserved : goal.loop-i-preserved
loop-i-preserved c =
    let old = c.args.terms.now in
    let before = c.loop-i.terms in
    let after = c.known_arg.new.terms in
    let ps = c.args.parameters.now in
    let xs = c.args.args.now in
    let i = c.loop-i.i in
    let known = c.loop-i.known.items in
    let more = c.push.new.self.items in
    let arg = c.in_ok-arg.arg in
    let p = c.index-parameters-i.result in
    let count = fit_count nameable ps xs c.requires in
    let lt : i < length xs = omega (arith, count, c.loop-i-test.true) in
    record {
      kept = keeps_trans old before after c.loop-i.invariant.kept c.known_arg.ensures.kept;
      are = args_more after ps i p known more arg c.loop-i-test.true (args-later before after c.known_arg.ensures.kept (take i ps) known c.loop-i.invariant.are)
          (subst (λ (q : Parameter). IsArg after q.of_type arg) c.index-parameters-i.is c.in_ok-arg.ensures.is) c.in_ok-push.ensures.items;
      stands = λ layout v fits.
          args_stand before after (take i ps) known more arg xs i (Num 0) c.known_arg.ensures.kept c.loop-i.invariant.are lt c.in_ok-push.ensures.items (reading layout.blocks v) (c.loop-i.invariant.stands layout v fits)
          (c.in_ok-arg.ensures.stands layout v (subst (λ (q : Parameter). ValueFits layout q.of_type (get_or xs i (Num 0))) (sym c.index-parameters-i.is) (fit_at layout ps xs i p (Num 0) fits c.loop-i-test.true)));
    }

pub returns-clause-stands : goal.returns-clause-stands
returns-clause-stands c layout v fits =
    let count = fit_count nameable c.args.parameters.now c.args.args.now c.requires in
    rw c.from_vec.ensures (c.loop-i.invariant.stands layout v fits ∙ take_all c.loop-i.i c.args.args.now (omega (arith, count, c.loop-i-test.false)))
