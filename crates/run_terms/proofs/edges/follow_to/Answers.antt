use Rattle.run_terms.proofs.Common.{◌∙◌, sym, subst, ap, Ub, StateShape, HaveShape, ending_shape}
use Rattle.run_terms.proofs.Moving.{ends_here, simulates_to}
use Rattle.run_terms.proofs.edges.follow_to.Goals as goal

pub returns-in_ok-arrive-in-Some-clause-leaves : goal.returns-in_ok-arrive-in-Some-clause-leaves
returns-in_ok-arrive-in-Some-clause-leaves c =
    let goes = c.in-Some.ensures.goes c.get-block.result.now c.get-block.ensures in
    let arrive = c.in_ok-arrive-in-Some.ensures in
    let before = c.requires.shape in
    record {
      frontier = arrive.own;
      shape = record {
        ahead = subst (λ (x : StateShape). HaveShape x c.arrive.new.self.ahead) c.requires.fits arrive.shapes;
        count = arrive.count ∙ before.count;
        ending = ap ending_shape arrive.ending ∙ before.ending;
      };
      simulates = λ g turn here. simulates_to (arrive.simulates g turn goes.0) (λ m h. sym (goes.1 m));
    }

pub returns-in_ok-end_undefined-in-None-clause-leaves : goal.returns-in_ok-end_undefined-in-None-clause-leaves
returns-in_ok-end_undefined-in-None-clause-leaves c =
    let h = ends_here Ub c.end_undefined.ensures.kept c.requires c.in_ok-end_undefined-in-None.ensures.ends in
    record {
      frontier = h.frontier;
      shape = h.shape;
      simulates = λ g turn here. simulates_to (h.simulates g turn tt) (λ m at. sym (c.block_ahead.ensures.none c.in-None.is m));
    }
