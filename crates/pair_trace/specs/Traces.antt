-- The traces of a counterexample.
use Rattle.std.specs.Prelude.{[]}
use Rattle.points.specs.declared.point.Bounds.{Bounds}
use Rattle.points.specs.declared.point.Point.{Point}
use Rattle.verdicts.specs.Pair.{Functions, run_pair}
use Rattle.run_trace.specs.Trace.{IsTraceOf}
use Rattle.pair_trace.specs.declared.traces.Traces.{Traces}

-- the target's run on the point, and the source's on the tape of zeros: past its end each word is 0
pub record AreTracesOf (pair : Functions) (bounds : Bounds) (p : Point) (traces : Traces) : Type 0 where
  pub source : IsTraceOf (run_pair pair).source bounds p.input [] traces.source
  pub target : IsTraceOf (run_pair pair).target bounds p.input p.tape traces.target
