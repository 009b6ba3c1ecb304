-- The bit is the last model's, one that is found, or 1.
use Rattle.sat_restarts.proofs.Common.{◌∙◌, ◌+◌, ◌++◌, ◌∷◌, [], false, true, List, ap, subst, get_or_from_slice_get, Lit, IsFound}
use Rattle.sat_restarts.specs.declared.bits.Found.{Found}
use Rattle.sat_restarts.proofs.Settling.{settled-extended, settled-found, settled-one, settled-zero, without-last}
use Rattle.sat_restarts.proofs.bits.settle.Goals as goal

pub returns-then-not-get : goal.returns-then-not-get
returns-then-not-get c =
    let settled = c.args.settled in
    settled-zero c.args.question.now settled.cnf c.args.bit settled.values c.requires.settled c.in_ok-zeroed.zeroed c.in_ok-zeroed.ensures.variables c.in_ok-zeroed.ensures.clauses
    (get_or_from_slice_get settled.values c.args.bit c.get.result.now false c.get.ensures ∙ c.if-not-get.true)

pub returns-in-Model : goal.returns-in-Model
returns-in-Model c =
    let settled = c.args.settled in
    let asked = c.in_ok-asked.asked in
    let more = c.in_ok-more.more in
    let before = settled-extended c.args.question.now settled.cnf c.args.bit settled.values c.requires.settled asked.cnf c.in_ok-asked.ensures in
    settled-found c.args.question.now asked.cnf c.args.bit settled.values before more c.in-Model.values c.in_ok-more.ensures.variables c.in_ok-more.ensures.clauses
    (subst (λ (f : Found). IsFound more.variables more.clauses f) c.in-Model.is c.in_ok-values.ensures)

pub returns-in_ok-ones-in-Refuted : goal.returns-in_ok-ones-in-Refuted
returns-in_ok-ones-in-Refuted c =
    let settled = c.args.settled in
    let asked = c.in_ok-asked.asked in
    let more = c.in_ok-more.more in
    let before = settled-extended c.args.question.now settled.cnf c.args.bit settled.values c.requires.settled asked.cnf c.in_ok-asked.ensures in
    let refuted = subst (λ (f : Found). IsFound more.variables more.clauses f) c.in-Refuted.is c.in_ok-values.ensures in
    settled-one c.args.question.now asked.cnf c.args.bit settled.values before more c.in_ok-ones-in-Refuted.ones refuted.0 c.in_ok-more.ensures.clauses refuted.1
    (c.in_ok-ones-in-Refuted.ensures.variables ∙ (c.without_last.ensures.variables ∙ c.in_ok-more.ensures.variables))
    (c.in_ok-ones-in-Refuted.ensures.clauses
    ∙ (ap (λ (l : Lit). c.without_last.result.clauses ++ (l ∷ []) ∷ []) c.opposite.ensures
    ∙ ap (λ (cs : List (List Lit)). cs ++ (record { variable = c.args.bit + 1; positive = true } ∷ []) ∷ [])
    (c.without_last.ensures.clauses ∙ without-last asked.cnf.clauses (record { variable = c.args.bit + 1; positive = false } ∷ []) more.clauses c.in_ok-more.ensures.clauses)))
    (get_or_from_slice_get settled.values c.args.bit c.get.result.now false c.get.ensures ∙ c.if-not-get.false)
