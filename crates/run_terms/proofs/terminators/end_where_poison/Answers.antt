use Rattle.run_terms.proofs.Common.{◌∙◌, not, refl, sym, bit_at, keeps_self, keeps_trans, bit-later, is_term-later}
use Rattle.run_terms.proofs.Lasting.{ending-later, frontier-later, leaving-at, tally-later, tested}
use Rattle.run_terms.proofs.Moving.{ended_frontier, ended_shape, ends_simulates, simulates_later, simulates_when}
use Rattle.run_terms.proofs.Leading.{leads_less}
use Rattle.run_terms.proofs.terminators.end_where_poison.Goals as goal

pub end_undefined-requires-clause-own : goal.end_undefined-requires-clause-own
end_undefined-requires-clause-own c = ending-later c.args.terms.now c.split.new.terms c.split.ensures.kept c.args.frontier.now.ending c.requires.leaving.frontier.ending

pub end_undefined-requires-clause-tally : goal.end_undefined-requires-clause-tally
end_undefined-requires-clause-tally c = tally-later c.args.terms.now c.split.new.terms c.split.ensures.kept c.args.leaving.state.now.tally c.requires.leaving.state.tally

pub returns-clause-leaving : goal.returns-clause-leaving
returns-clause-leaving c =
    let old = c.args.terms.now in
    let a = c.split.new.terms in
    let b = c.end_undefined.new.terms in
    let ka = c.split.ensures.kept in
    let kb = c.end_undefined.ensures.kept in
    let before = frontier-later old a ka c.args.frontier.now c.requires.leaving.frontier in
    let ends = c.in_ok-end_undefined.ensures.ends in
    let on = tested c.in_ok-undefined.ensures.on in
    leaving-at old b (keeps_trans old a b ka kb) c.args.setting c.args.frontier.now _ c.args.leaving c.in_ok-undefined.defined c.args.leaving.path c.requires.leaving (ended_frontier (keeps_self a) kb before on ends)
    (ended_shape (keeps_self a) kb before on ends c.requires.leaving.shape) (is_term-later a b kb 1 c.in_ok-undefined.defined (tested c.in_ok-undefined.ensures.off))
    (leads_less ka kb c.args.leaving.c c.in_ok-undefined.defined c.args.leaving.path.now c.requires.leaving.path (λ v. not (bit_at v old c.args.poison)) c.in_ok-undefined.ensures.off)

pub returns-clause-rest : goal.returns-clause-rest
returns-clause-rest c = λ v. bit-later c.split.new.terms c.end_undefined.new.terms c.end_undefined.ensures.kept v c.in_ok-undefined.defined c.in_ok-undefined.ensures.off.within ∙ c.in_ok-undefined.ensures.off.says v

pub returns-clause-simulates : goal.returns-clause-simulates
returns-clause-simulates c = λ g at.
    let old = c.args.terms.now in
    let a = c.split.new.terms in
    let ka = c.split.ensures.kept in
    let leaving = c.requires.leaving in
    simulates_when (simulates_later (ends_simulates (keeps_self a) c.end_undefined.ensures.kept (frontier-later old a ka c.args.frontier.now leaving.frontier) (tested c.in_ok-undefined.ensures.on) c.in_ok-end_undefined.ensures.ends (λ m held h. (h.tally, refl)))
    ka leaving.frontier leaving.state) (sym (c.in_ok-undefined.ensures.on.says g.v))
