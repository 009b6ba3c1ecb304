-- The clause has as many literals as are marked, and each of them is.
use Rattle.clause_log.proofs.Common.{◌≡◌, ◌∙◌, length, ap, sym, refl}
use Rattle.clause_log.proofs.Joins.{marks-of, marks-lack}
use Rattle.clause_log.proofs.marks.Marks.are_of.Goals as goal

pub returns-then-ne : goal.returns-then-ne
returns-then-ne c = λ d are. (
  λ t. cc,
  λ same. absurd (marks-lack c.args.places.now c.args.self.now d c.literals-literals.result.now c.loop-literal.literal-index
      c.sign_of.result c.ne.result are c.loop-literal-test.true c.sign_of.ensures c.ne.ensures c.if-ne.true (same ∙ sym c.literals-literals.ensures.value)),
)

pub returns : goal.returns
returns c = λ d are.
    let told = rw c.literals-literals.ensures.value at c.loop-literal.invariant in
    let past = rw c.literals-literals.ensures.value at c.loop-literal-test.false in
    let whole : length c.args.clause.now ≡ c.args.self.now.count = ap length (sym c.literals-literals.ensures.value) ∙ c.if-literals-self.false in (
      λ t. marks-of c.args.places.now c.args.self.now d c.args.clause.now c.loop-literal.literal-index are c.literals-literals.ensures.clause whole past told,
      λ same. refl,
    )
