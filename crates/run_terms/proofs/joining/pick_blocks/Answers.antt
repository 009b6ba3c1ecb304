use Rattle.run_terms.proofs.Common.{◌≡◌, ◌<◌, ◌-◌, ◌∙◌, ap, length, take, drop, arith, sym_blocks-later, given_before, first_local, frames_in}
use Rattle.run_terms.proofs.Memories.{above_before, frames_count, frames_made, from_after, given_count, given_like, memory_made, memory_picked}
use Rattle.run_terms.proofs.joining.pick_blocks.Goals as goal

pub split_at-requires : goal.split_at-requires
split_at-requires c = rw c.as_slice.ensures c.requires.a.count

pub pick_memory-requires-clause-a : goal.pick_memory-requires-clause-a
pick_memory-requires-clause-a c =
    let behind = c.split_at.ensures.back ∙ ap (drop c.args.a.now.given) c.as_slice.ensures in
    sym_blocks-later c.args.terms.now c.pick_given.new.terms c.pick_given.ensures.kept c.split_at.result.1.now (rw behind c.requires.a.are)

pub pick_memory-requires-clause-b : goal.pick_memory-requires-clause-b
pick_memory-requires-clause-b c =
    let a = c.args.a.now in
    let behind = c.split_at-2.ensures.back ∙ ap (drop a.given) c.as_slice-2.ensures in
    sym_blocks-later c.args.terms.now c.pick_given.new.terms c.pick_given.ensures.kept c.split_at-2.result.1.now
    (rw behind (given_like c.args.terms.now a c.args.b.now c.requires.a c.requires.b c.requires.frames).1)

pub returns-clause-made : goal.returns-clause-made
returns-clause-made c =
    let a = c.args.a.now in
    let like = given_like c.args.terms.now a c.args.b.now c.requires.a c.requires.b c.requires.frames in
    let front_a = c.split_at.ensures.front ∙ ap (take a.given) c.as_slice.ensures in
    let front_b = c.split_at-2.ensures.front ∙ ap (take a.given) c.as_slice-2.ensures in
    let behind_a = c.split_at.ensures.back ∙ ap (drop a.given) c.as_slice.ensures in
    let behind_b = c.split_at-2.ensures.back ∙ ap (drop a.given) c.as_slice-2.ensures in
    let pos : 0 < first_local a.given = omega (arith, given_before a.given) in
    let above_a = above_before (first_local a.given) c.split_at.result.1.now pos (rw behind_a c.requires.a.own) in
    let above_b = above_before (first_local a.given) c.split_at-2.result.1.now pos (rw behind_b like.2) in
    let known = frames_in a in
    let given = c.in_ok-given.ensures.given known (rw front_a c.requires.a.given) (rw front_b like.0) in
    let count : length c.in_ok-given.given ≡ a.given = given_count known c.pick_given.new.terms c.in_ok-given.given given ∙ frames_count a c.requires.a.count in
    memory_made c.in_ok-given.given c.in_ok-own.own c.in_ok-blocks.blocks a.given count c.in_ok-blocks.ensures c.pick_given.new.terms c.pick_memory.new.terms known c.pick_memory.ensures.kept
    given c.requires.a.numbered c.in_ok-own.ensures.made
    (from_after (first_local a.given) c.in_ok-own.own pos (c.in_ok-own.ensures.numbers (first_local a.given - 1) above_a above_b))

pub returns-clause-frames : goal.returns-clause-frames
returns-clause-frames c =
    let a = c.args.a.now in
    let like = given_like c.args.terms.now a c.args.b.now c.requires.a c.requires.b c.requires.frames in
    let front_a = c.split_at.ensures.front ∙ ap (take a.given) c.as_slice.ensures in
    let front_b = c.split_at-2.ensures.front ∙ ap (take a.given) c.as_slice-2.ensures in
    let known = frames_in a in
    let given = c.in_ok-given.ensures.given known (rw front_a c.requires.a.given) (rw front_b like.0) in
    let count : length c.in_ok-given.given ≡ a.given = given_count known c.pick_given.new.terms c.in_ok-given.given given ∙ frames_count a c.requires.a.count in
    frames_made c.in_ok-given.given c.in_ok-own.own c.in_ok-blocks.blocks a.given count c.in_ok-blocks.ensures known given.frames

pub pick_given-requires-clause-b : goal.pick_given-requires-clause-b
pick_given-requires-clause-b c =
    let a = c.args.a.now in
    let front_b = c.split_at-2.ensures.front ∙ ap (take a.given) c.as_slice-2.ensures in
    rw front_b (given_like c.args.terms.now a c.args.b.now c.requires.a c.requires.b c.requires.frames).0.are

pub pick_given-requires-clause-frames : goal.pick_given-requires-clause-frames
pick_given-requires-clause-frames c =
    let a = c.args.a.now in
    let front_a = c.split_at.ensures.front ∙ ap (take a.given) c.as_slice.ensures in
    let front_b = c.split_at-2.ensures.front ∙ ap (take a.given) c.as_slice-2.ensures in
    rw (front_a, front_b) (given_like c.args.terms.now a c.args.b.now c.requires.a c.requires.b c.requires.frames).0.frames

pub returns-clause-stands : goal.returns-clause-stands
returns-clause-stands c =
    let a = c.args.a.now in
    let like = given_like c.args.terms.now a c.args.b.now c.requires.a c.requires.b c.requires.frames in
    let front_a = c.split_at.ensures.front ∙ ap (take a.given) c.as_slice.ensures in
    let front_b = c.split_at-2.ensures.front ∙ ap (take a.given) c.as_slice-2.ensures in
    let behind_a = c.split_at.ensures.back ∙ ap (drop a.given) c.as_slice.ensures in
    let behind_b = c.split_at-2.ensures.back ∙ ap (drop a.given) c.as_slice-2.ensures in
    memory_picked c.args.terms.now c.pick_given.new.terms c.pick_memory.new.terms c.args.c a.blocks c.args.b.now.blocks c.in_ok-given.given c.in_ok-own.own c.in_ok-blocks.blocks a.given
    c.requires.c c.pick_given.ensures.kept c.pick_memory.ensures.kept c.in_ok-given.ensures.made c.requires.a.are like.1
    (λ r. rw (front_a, front_b) at (c.in_ok-given.ensures.stands (frames_in a) r (rw front_a c.requires.a.given) (rw front_b like.0)))
    (λ r. rw (behind_a, behind_b) at (c.in_ok-own.ensures.stands r)) c.in_ok-blocks.ensures
