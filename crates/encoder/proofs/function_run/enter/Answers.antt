use Rattle.encoder.proofs.Common.{refl, keeps_self, keeps_trans, is_term-later, state-later, tally-later, ended_frontier, ended_shape, ends_simulates}
use Rattle.encoder.proofs.Whole.{enter_stands}
use Rattle.encoder.proofs.function_run.enter.Goals as goal

pub end_undefined-requires-clause-own : goal.end_undefined-requires-clause-own
end_undefined-requires-clause-own c = c.in_ok-frontier.ensures.made.ending

pub end_undefined-requires-clause-tally : goal.end_undefined-requires-clause-tally
end_undefined-requires-clause-tally c = tally-later c.begin.new.terms c.unknown.new.terms c.unknown.ensures.kept c.in_ok-start.start.state.tally c.in_ok-start.ensures.state.tally

pub follow-requires : goal.follow-requires
follow-requires c =
    let a = c.begin.new.terms in
    let b = c.unknown.new.terms in
    let d = c.end_undefined.new.terms in
    let kb = c.unknown.ensures.kept in
    let kd = c.end_undefined.ensures.kept in
    let hu = is_term-later a b kb 1 c.in_ok-start.start.undefined c.in_ok-start.ensures.undefined in
    let ends = c.in_ok-end_undefined.ensures.ends in
    let state = state-later a d (keeps_trans a b d kb kd) c.in_ok-start.start.state c.in_ok-start.ensures.state in
    record {
      frontier = ended_frontier (keeps_self b) kd c.in_ok-frontier.ensures.made hu ends;
      shape = ended_shape (keeps_self b) kd c.in_ok-frontier.ensures.made hu ends c.in_ok-frontier.ensures.shape;
      state = state;
      fits = c.in_ok-start.ensures.shape;
      c = state.alive;
      path = rw c.as_slice.ensures state.path;
    }

pub returns-clause-stands : goal.returns-clause-stands
returns-clause-stands c = λ g given.
    let a = c.begin.new.terms in
    let b = c.unknown.new.terms in
    let kb = c.unknown.ensures.kept in
    let kd = c.end_undefined.ensures.kept in
    let start = c.in_ok-start.ensures in
    enter_stands c.args.terms.now a b c.end_undefined.new.terms c.follow.new.terms c.args.setting.f.now c.args.setting.copies.now c.args.input.now
    c.in_ok-frontier.frontier _ c.follow.new.frontier c.in_ok-start.start.undefined c.in_ok-start.start.state kb kd start.state start.undefined start.breaks start.alive
    g (start.matches g given) (c.in_ok-frontier.ensures.stands g)
    (ends_simulates (keeps_self b) kd c.in_ok-frontier.ensures.made (is_term-later a b kb 1 c.in_ok-start.start.undefined start.undefined) c.in_ok-end_undefined.ensures.ends (λ m held h. (h.tally, refl)))
    (c.in_ok-follow.ensures.leaves.simulates g 0 tt)

pub returns-in_err-follow-clause-kept : goal.returns-in_err-follow-clause-kept
returns-in_err-follow-clause-kept c =
    keeps_trans c.args.terms.now c.begin.new.terms c.follow.new.terms c.begin.ensures.kept
    (keeps_trans c.begin.new.terms c.unknown.new.terms c.follow.new.terms c.unknown.ensures.kept (keeps_trans c.unknown.new.terms c.end_undefined.new.terms c.follow.new.terms c.end_undefined.ensures.kept c.follow.ensures.kept))

pub returns-clause-kept : goal.returns-clause-kept
returns-clause-kept c =
    keeps_trans c.args.terms.now c.begin.new.terms c.follow.new.terms c.begin.ensures.kept
    (keeps_trans c.begin.new.terms c.unknown.new.terms c.follow.new.terms c.unknown.ensures.kept (keeps_trans c.unknown.new.terms c.end_undefined.new.terms c.follow.new.terms c.end_undefined.ensures.kept c.follow.ensures.kept))
