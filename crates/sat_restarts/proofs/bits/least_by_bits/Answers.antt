-- Nothing is settled at first, and all of the ordered bits at the end.
use Rattle.sat_restarts.proofs.Common.{◌≡◌, ℕ, arith, subst, sym, IsLess}
use Rattle.sat_restarts.proofs.Settling.{settled-none}
use Rattle.sat_restarts.proofs.bits.least_by_bits.Goals as goal

pub loop-bit-init : goal.loop-bit-init
loop-bit-init c =
    settled-none c.args.cnf.now c.in_ok-duplicate.field-0 c.args.values c.in_ok-duplicate.ensures.variables c.in_ok-duplicate.ensures.clauses c.requires

pub returns : goal.returns
returns c =
    let all : c.loop-bit.bit ≡ c.args.cnf.now.front = omega (arith, c.loop-bit.auto.bit-end, c.loop-bit-test.false) in
    record {
      model = c.loop-bit.invariant.model;
      least = λ others model less.
          c.loop-bit.invariant.least others model (subst (λ (n : ℕ). IsLess n others c.loop-bit.settled.values) (sym all) less);
    }
