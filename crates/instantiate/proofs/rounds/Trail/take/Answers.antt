-- The trail has the point, and its tape or the end.
use Rattle.std.proofs.Common.{◌<◌, ◌∷◌, [], length, length-append, arith, ap, ◌∙◌}
use Rattle.instantiate.proofs.Growing.{grown_more, grown_of, told_rounds}
use Rattle.instantiate.proofs.rounds.Trail.take.Goals as goal

pub returns-then-len-budget : goal.returns-then-len-budget
returns-then-len-budget c =
    let s = c.args.subject.now in
    told_rounds s.pair.now s.bounds.now c.args.budget.now c.args.self.now.question.tapes c.args.self.now.points.items c.push.new.self.items c.args.point c.args.tape
    (grown_of s c.args.budget.now c.args.self.now c.requires.trail) c.requires.least c.requires.cover (omega arith) c.in_ok-push.ensures.items

pub returns : goal.returns
returns c =
    let s = c.args.subject.now in
    let tapes = c.args.self.now.question.tapes in
    let room : length tapes < c.args.budget.now.rounds = omega (arith, c.requires.trail.within) in
    let grown = grown_more s.pair.now s.bounds.now c.args.budget.now tapes c.exclude.new.self.tapes c.args.self.now.points.items c.push.new.self.items c.args.point c.args.tape
    (grown_of s c.args.budget.now c.args.self.now c.requires.trail) c.requires.least c.requires.cover room c.in_ok-exclude.ensures.more c.in_ok-push.ensures.items in (
      record { count = grown.count; trail = grown.trail; within = grown.within; question = c.in_ok-exclude.ensures.question; limit = c.exclude.ensures.limit ∙ c.requires.trail.limit },
      ap length c.in_ok-exclude.ensures.more ∙ length-append tapes (c.args.tape ∷ []),
    )
