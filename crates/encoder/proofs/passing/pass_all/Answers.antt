use Rattle.encoder.proofs.Common.{◌≡◌, ◌∙◌, ℕ, length, sym, subst, refl, arith, Some, slice_get_read, Where, pass_copy, walk, each-at, keeps_trans, words-later, IsCopyIn, MatchesFrontier, placed, sees-later, walk_more, walk_end}
use Rattle.encoder.proofs.passing.pass_all.Goals as goal

pub pass_copy-requires-clause-number : goal.pass_copy-requires-clause-number
pass_copy-requires-clause-number c = slice_get_read c.args.setting.copies.now (length c.args.setting.copies.now) c.loop-number.number c.copy-item.result refl (rw c.as_slice-copy-items.ensures at c.loop-number-test.true) (rw c.as_slice-copy-items.ensures at c.copy-item.is)

pub pass_copy-requires-clause-copy : goal.pass_copy-requires-clause-copy
pass_copy-requires-clause-copy c = each-at (IsCopyIn c.args.setting.f.now) c.args.setting.copies.now c.loop-number.number c.copy-item.result c.requires.copies (rw c.as_slice-copy-items.ensures at c.loop-number-test.true) (rw c.as_slice-copy-items.ensures at c.copy-item.is)

pub pass_copy-requires-clause-tape : goal.pass_copy-requires-clause-tape
pass_copy-requires-clause-tape c = words-later c.args.terms.now c.loop-number.terms c.loop-number.invariant.kept c.args.setting.tape.now c.requires.tape

pub loop-number-preserved : goal.loop-number-preserved
loop-number-preserved c = record {
  kept = keeps_trans c.args.terms.now c.loop-number.terms c.pass_copy.new.terms c.loop-number.invariant.kept c.pass_copy.ensures.kept;
  within = (let lt = rw c.as_slice-copy-items.ensures at c.loop-number-test.true in omega (arith, lt));
  frontier = c.in_ok-pass_copy.ensures.frontier;
  shape = c.in_ok-pass_copy.ensures.shape;
  matches = λ g w sees s.
      let so = c.loop-number.invariant.matches g w sees s in (
        pass_copy c.args.setting.f.now c.loop-number.number c.copy-item.result g.tape so.0,
        sym (walk_more c.args.setting.f.now c.args.setting.copies.now c.loop-number.number c.copy-item.result g.tape so.0 (rw c.as_slice-copy-items.ensures at c.loop-number-test.true) (rw c.as_slice-copy-items.ensures at c.copy-item.is)) ∙ so.1,
        c.in_ok-pass_copy.ensures.passes g so.0 (sees-later c.args.terms.now c.loop-number.terms c.loop-number.invariant.kept g c.args.setting.tape.now c.requires.tape sees) so.2,
      );
}

pub returns-clause-passes : goal.returns-clause-passes
returns-clause-passes c = λ g w sees s.
    let so = c.loop-number.invariant.matches g w sees s in
    let past = rw c.as_slice-copy-items.ensures at c.loop-number-test.false in
    let all : c.loop-number.number ≡ length c.args.setting.copies.now = omega (arith, past, c.loop-number.invariant.within) in
    let there = sym (walk_end c.args.setting.f.now c.args.setting.copies.now c.loop-number.number g.tape so.0 past) ∙ so.1 in
    subst (λ (n : ℕ). MatchesFrontier g c.loop-number.terms c.loop-number.frontier (Some (placed c.args.setting.f.now c.args.setting.copies.now n (walk c.args.setting.f.now 0 c.args.setting.copies.now g.tape w)))) all
    (subst (λ (x : Where). MatchesFrontier g c.loop-number.terms c.loop-number.frontier (Some (placed c.args.setting.f.now c.args.setting.copies.now c.loop-number.number x))) there so.2)
