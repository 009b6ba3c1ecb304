use Rattle.std.proofs.Common.{◌+◌, ◌-◌, ◌%◌, ◌^◌, ◌∙◌, ap}
use Rattle.known_values.proofs.Cuts.{difference-cut}
use Rattle.known_values.proofs.numbers.difference.Goals as goal

pub returns : goal.returns
returns c = c.sum-2.ensures ∙ (ap (λ x. (x + 1) % 2 ^ c.args.width) (c.sum.ensures ∙ ap (λ x. (c.args.a + (x - c.args.b)) % 2 ^ c.args.width) c.ones.ensures)
    ∙ difference-cut c.args.width c.args.a c.args.b c.requires.b)
