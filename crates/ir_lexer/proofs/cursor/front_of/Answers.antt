use Rattle.ir_lexer.proofs.Common.{◌≡◌, ◌∙◌, arith, sym, ap, length, take, Place, place_behind}
use Rattle.std.proofs.lemmas.List.{length-take-le}
use Rattle.ir_lexer.proofs.Lines.{plain-longest, further, further-on}
use Rattle.ir_lexer.proofs.cursor.front_of.Goals as goal

pub overflow_add-after : goal.overflow_add-after
overflow_add-after c =
    let o = plain-longest c.args.text.now (c.in-Some.kind, c.in-Some.len) c.in-Some.ensures.token in omega (arith, c.requires.column, o.2)

pub returns-in-Some-clause-found : goal.returns-in-Some-clause-found
returns-in-Some-clause-found c = (plain-longest c.args.text.now (c.in-Some.kind, c.in-Some.len) c.in-Some.ensures.token).0

pub returns-in-Some-clause-bounds : goal.returns-in-Some-clause-bounds
returns-in-Some-clause-bounds c = let o = plain-longest c.args.text.now (c.in-Some.kind, c.in-Some.len) c.in-Some.ensures.token in (o.1, o.2)

pub returns-in-Some-clause-after : goal.returns-in-Some-clause-after
returns-in-Some-clause-after c = λ before is.
    let o = plain-longest c.args.text.now (c.in-Some.kind, c.in-Some.len) c.in-Some.ensures.token in
    let len : length (take c.in-Some.len c.args.text.now) ≡ c.in-Some.len = length-take-le c.in-Some.len c.args.text.now (o.2) in
    ap (λ (p : Place). further p c.in-Some.len) is ∙ ap (further (place_behind before)) (sym len) ∙ sym (further-on (take c.in-Some.len c.args.text.now) before c.in-Some.ensures.line)
