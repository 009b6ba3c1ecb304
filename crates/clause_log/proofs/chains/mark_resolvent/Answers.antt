-- The first clause is marked, and then what each next one resolves to.
use Rattle.clause_log.proofs.Common.{◌++◌, [], map, option_copied, ap, arith}
use Rattle.clause_log.proofs.Along.{chain-begun, marks-begun}
use Rattle.clause_log.proofs.chains.mark_resolvent.Goals as goal

pub loop-number-init : goal.loop-number-init
loop-number-init c = (
  c.in-Some.start.now,
  marks-begun c.args.places.now c.join.new.self c.in-Some.start.now c.in_ok-join.field-0 (c.in_ok-join.ensures [] (c.in_ok-begin.ensures c.args.places.now)),
  chain-begun (c.args.clauses.now ++ map (λ s. s.clause) c.args.steps.now) c.args.chain.now (option_copied c.clause_numbered.result) c.in-Some.start.now
      (omega (arith, c.in-len1-up.len_at_least)) c.clause_numbered.ensures (ap option_copied c.in-Some.is),
)
