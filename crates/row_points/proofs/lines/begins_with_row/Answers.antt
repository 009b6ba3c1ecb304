use Rattle.std.proofs.lemmas.Bool.Decides.{Decides-eqb}
use Rattle.std.proofs.lemmas.Slice.Eq.{strip_prefix_is}
use Rattle.row_points.proofs.lines.begins_with_row.Goals as goal

pub returns : goal.returns
returns c = λ is.
    let cases = strip_prefix_is Decides-eqb c.args.text.now c.args.row.now c.strip_prefix.result c.strip_prefix.ensures.cases in
    record { after = c.in-Some.after.now; is = rw c.in-Some.is at cases; ends = c.goes_on.ensures c.if-goes_on.false }
