use Rattle.encoder.proofs.Common.{◌≡◌, map, frame_of, frames_of, given_blocks-later, is_term-later, keeps_trans, some-later}
use Rattle.run_terms.proofs.Memories.{given_framed}
use Rattle.encoder.proofs.function_run.no_end.Goals as goal

pub returns-clause-made : goal.returns-clause-made
returns-clause-made c =
    let old = c.args.terms.now in
    let a = c.no_value.new.terms in
    let b = c.number.new.terms in
    let new = c.truth.new.terms in
    let kan = keeps_trans a b new c.number.ensures.kept c.truth.ensures.kept in
    let k = keeps_trans old a new c.no_value.ensures.kept kan in
    let never = c.in_ok-never.ensures.made in
    record {
      ub = record { within = never.within; wide = never.wide };
      beyond = record { within = never.within; wide = never.wide };
      value = some-later a new kan c.in_ok-value.value c.in_ok-value.ensures.made;
      given = rw c.in_ok-blocks.ensures (given_framed (frames_of c.args.setting.layout.now) new c.args.memory.now.blocks (given_blocks-later old new k (frames_of c.args.setting.layout.now) c.args.memory.now.blocks c.requires));
      tally = record {
        read = is_term-later b new c.truth.ensures.kept 64 c.in_ok-read.read (record { within = c.in_ok-read.ensures.made.within; wide = c.in_ok-read.ensures.made.wide });
        fits = record { within = never.within; wide = never.wide };
      };
      returned = tt;
    }

pub returns-clause-shape : goal.returns-clause-shape
returns-clause-shape c =
    let frames : map frame_of c.in_ok-blocks.field-0.blocks ≡ frames_of c.args.setting.layout.now = rw c.in_ok-blocks.ensures c.requires.frames in
    let alike = c.in_ok-value.ensures.alike in
    λ i. record { valued = alike i; frames = frames i }
