-- What is marked at the end is the join.
use Rattle.clause_log.proofs.Common.{◌<◌, ◌∙◌, length, sym, arith, IsClause}
use Rattle.clause_log.proofs.Joins.{joined-end, second-clash, new-walk, new-marks, same-walk, gone-walk, gone-marks}
use Rattle.clause_log.proofs.marks.Marks.join.Goals as goal
use Rattle.clause_log.proofs.marks.Marks.join.Goals.{in-None, in-Some-sign+then-positive-literal+else-clashed, in-Some-sign+else-positive-literal}

pub returns-then-clashed : goal.returns-then-clashed
returns-then-clashed c = λ d marks.
    let q : IsClause c.literals-literal-items.result.now = rw c.literals-literal-items.ensures.value c.literals-literal-items.ensures.clause in
    let within : c.in-Some.place < length c.loop-literal.self.by_place.items = omega (arith, c.loop-literal.self.by_place.ok.0) in
    let twice = second-clash c.args.places.now c.args.self.now c.loop-literal.self c.literals-literal-items.result.now c.loop-literal.literal-index
    c.in-Some.place c.loop-literal.clashed c.loop-literal-test.true q c.loop-literal.invariant.walk (sym c.find.ensures ∙ c.in-Some.is) within
    c.in-Some-sign.positive (sym c.sign.ensures ∙ c.in-Some-sign.is) c.if-positive-literal.true c.if-clashed.true d marks in
    rw c.literals-literal-items.ensures.value at twice

pub loop-literal-preserved : goal.loop-literal-preserved
loop-literal-preserved c =
    let q : IsClause c.literals-literal-items.result.now = rw c.literals-literal-items.ensures.value c.literals-literal-items.ensures.clause in
    let places = c.args.places.now in
    let start = c.args.self.now in
    let old = c.loop-literal.self in
    let ys = c.literals-literal-items.result.now in
    let i = c.loop-literal.literal-index in
    let place = c.in-Some.place in
    let clashed = c.loop-literal.clashed in
    let lt = c.loop-literal-test.true in
    let walk = c.loop-literal.invariant.walk in
    let at = sym c.find.ensures ∙ c.in-Some.is in
    let within : place < length old.by_place.items = omega (arith, old.by_place.ok.0) in
    elim c.match-sign.branch [
      | in-None w ↦
          let none = sym c.sign.ensures ∙ w.in-None.is in
          rw (w.self-is, w.clashed-is) (record {
            walk = new-walk places start old ys i place clashed lt q walk at within w.put.new.self none w.put.ensures.marks w.put.ensures.stamp;
            marks = λ d marks. new-marks places start old ys i place clashed lt q walk at within w.put.new.self none w.put.ensures.marks w.put.ensures.stamp
                w.put.ensures.count (c.loop-literal.invariant.marks d marks);
          })
      | in-Some-sign+then-positive-literal+else-clashed w ↦
          let some = sym c.sign.ensures ∙ w.in-Some-sign.is in
          rw (w.self-is, w.clashed-is) (record {
            walk = gone-walk places start old ys i place clashed lt q walk at within w.in-Some-sign.positive some w.if-positive-literal.true
                w.remove.new.self w.remove.ensures.marks w.remove.ensures.stamp w.if-clashed.false;
            marks = λ d marks. gone-marks places start old ys i place clashed lt q walk at within w.in-Some-sign.positive some w.if-positive-literal.true
                w.remove.new.self w.remove.ensures.marks w.remove.ensures.stamp w.remove.ensures.count (c.loop-literal.invariant.marks d marks);
          })
      | in-Some-sign+else-positive-literal w ↦
          let some = sym c.sign.ensures ∙ w.in-Some-sign.is in
          rw (w.self-is, w.clashed-is) (record {
            walk = same-walk places start old ys i place clashed lt q walk at within w.in-Some-sign.positive some w.if-positive-literal.false;
            marks = c.loop-literal.invariant.marks;
          })
    ]

pub returns-then-clashed-2 : goal.returns-then-clashed-2
returns-then-clashed-2 c = λ d marks.
    let walk = rw c.if-clashed-2.true at (rw c.literals-literal-items.ensures.value at c.loop-literal.invariant.walk) in
    let past = rw c.literals-literal-items.ensures.value at c.loop-literal-test.false in
    joined-end c.args.places.now c.args.self.now c.loop-literal.self d c.args.clause.now c.loop-literal.literal-index _ past
    c.literals-literal-items.ensures.clause marks walk (c.loop-literal.invariant.marks d marks)

pub returns-else-clashed-2 : goal.returns-else-clashed-2
returns-else-clashed-2 c = λ d marks.
    let walk = rw c.if-clashed-2.false at (rw c.literals-literal-items.ensures.value at c.loop-literal.invariant.walk) in
    let past = rw c.literals-literal-items.ensures.value at c.loop-literal-test.false in
    joined-end c.args.places.now c.args.self.now c.loop-literal.self d c.args.clause.now c.loop-literal.literal-index _ past
    c.literals-literal-items.ensures.clause marks walk (c.loop-literal.invariant.marks d marks)
