use Rattle.ir_reader.proofs.Common.{◌≡◌, [], ap, sym, ◌∙◌, length, arith, take_all, Place}
use Rattle.text_places.specs.Place.{place_behind}
use Rattle.ir_reader.proofs.reading.end_of.Goals as goal

pub behind-requires-clause-line : goal.behind-requires-clause-line
unfolding place_behind
behind-requires-clause-line c = let e : c.start.result.line ≡ 1 = ap (λ (p : Place). p.line) c.start.ensures in omega arith

pub behind-requires-clause-column : goal.behind-requires-clause-column
unfolding place_behind
behind-requires-clause-column c = let e : c.start.result.column ≡ 1 = ap (λ (p : Place). p.column) c.start.ensures in omega arith

pub returns : goal.returns
returns c = c.behind.ensures [] c.start.ensures ∙ sym (ap place_behind (take_all (length c.args.text.now) c.args.text.now (omega arith)))
