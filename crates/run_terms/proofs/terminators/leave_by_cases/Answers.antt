use Rattle.run_terms.proofs.Common.{ℕ, ◌%◌, ◌^◌, ◌∙◌, ◌&&◌, not, map, nat_eq, ap, sym, arith, on_ok_weaker, Case, Edge, keeps_self, keeps_trans, bit-later, is_term-later, Machine, Where, along, bit_at, term_at, placed}
use Rattle.run_terms.proofs.Lasting.{frontier-later, leaving-at, tested}
use Rattle.run_terms.proofs.Moving.{cases_end, cases_step, simulates_later, simulates_to, simulates_when}
use Rattle.run_terms.proofs.Leading.{case_off, case_on}
use Rattle.run_terms.proofs.Leaves.{case_edge, default_edge, hit_is}
use Rattle.run_terms.proofs.terminators.leave_by_cases.Goals as goal

pub split_by_case-requires-clause-number : goal.split_by_case-requires-clause-number
split_by_case-requires-clause-number c = is_term-later c.args.terms.now c.loop-i.terms c.loop-i.invariant.kept c.args.switch.width.bits c.args.switch.number c.requires.number

pub follow-requires : goal.follow-requires
follow-requires c =
    let l = c.loop-i.terms in
    let a = c.split_by_case.new.terms in
    let ka = c.split_by_case.ensures.kept in
    let h = c.loop-i.invariant.leaving in
    let hit = λ (v : ℕ → ℕ → ℕ). nat_eq (c.case-item.result.value % 2 ^ c.args.switch.width.bits) (term_at v l c.args.switch.number) in
    leaving-at l a ka c.args.setting c.loop-i.frontier c.loop-i.frontier (record c.args.leaving { c = c.loop-i.left; path = record c.args.leaving.path { now = c.loop-i.path } }) c.in_ok-split.split.here c.as_slice-in-loop-i.result h (frontier-later l a ka c.loop-i.frontier h.frontier) h.shape (tested c.in_ok-split.ensures.on)
    (rw c.as_slice-in-loop-i.ensures (case_on ka (keeps_self a) c.loop-i.left c.in_ok-split.split.same c.in_ok-split.split.here hit c.loop-i.path c.in_ok-taken.taken h.path h.c c.in_ok-split.ensures.same (rw c.as_slice.ensures at c.in_ok-taken.ensures) c.in_ok-split.ensures.on))

pub follow-requires-2 : goal.follow-requires-2
follow-requires-2 c =
    let h = c.loop-i.invariant.leaving in
    record { frontier = h.frontier; shape = h.shape; state = h.state; fits = h.fits; c = h.c; path = rw c.as_slice-2.ensures h.path }

pub loop-i-init : goal.loop-i-init
loop-i-init c = record {
  kept = keeps_self c.args.terms.now;
  within = omega arith;
  leaving = (let h = c.requires.leaving in record { frontier = h.frontier; shape = h.shape; state = h.state; fits = h.fits; c = h.c; path = rw c.in_ok-path.ensures h.path });
  simulates = λ g turn edge default is new after to h. h;
}

pub loop-i-preserved : goal.loop-i-preserved
loop-i-preserved c =
    let old = c.args.terms.now in
    let l = c.loop-i.terms in
    let a = c.split_by_case.new.terms in
    let b = c.follow.new.terms in
    let ka = c.split_by_case.ensures.kept in
    let kb = c.follow.ensures.kept in
    let k = keeps_trans l a b ka kb in
    let h = c.loop-i.invariant.leaving in
    let leaves = c.in_ok-follow.ensures.leaves in
    let hit = λ (v : ℕ → ℕ → ℕ). nat_eq (c.case-item.result.value % 2 ^ c.args.switch.width.bits) (term_at v l c.args.switch.number) in
    record {
      kept = keeps_trans old l b c.loop-i.invariant.kept k;
      within = omega arith;
      leaving = leaving-at l b k c.args.setting c.loop-i.frontier c.follow.new.frontier (record c.args.leaving { c = c.loop-i.left; path = record c.args.leaving.path { now = c.loop-i.path } }) c.in_ok-split.split.rest (record c.args.leaving.path { now = c.in_ok-path-2.path }) h leaves.frontier leaves.shape (is_term-later a b kb 1 c.in_ok-split.split.rest (tested c.in_ok-split.ensures.off))
          (case_off ka kb c.loop-i.left c.in_ok-split.split.same c.in_ok-split.split.rest hit c.loop-i.path c.in_ok-path-2.path h.path h.c c.in_ok-split.ensures.same (rw c.as_slice-in-loop-i-2.ensures at c.in_ok-path-2.ensures) c.in_ok-split.ensures.off);
      simulates = λ g turn edge default is new after to rest.
          let f = c.args.setting.f.now in
          let copies = c.args.setting.copies.now in
          let ahead = c.args.leaving.ahead in
          let cases = c.args.switch.cases.now in
          let x = c.case-item.result in
          let at = c.case-item.is in
          let same = hit_is g.v old l c.loop-i.invariant.kept c.args.switch.number c.args.switch.width.bits x.value c.requires.number in
          let edge_is = c.edge_at-edge.ensures ∙ case_edge c.args.switch.edges.now default edge cases c.loop-i.i x is c.loop-i-test.true at in
          cases_step (λ (y : Case). nat_eq (y.value % 2 ^ c.args.switch.width.bits) (term_at g.v old c.args.switch.number)) (λ (y : Case) (m : Machine). placed f copies ahead (along (edge y) m)) to cases c.loop-i.i x k h.state c.loop-i-test.true at
          (simulates_when (simulates_to (simulates_later (leaves.simulates g turn tt) ka h.frontier h.state) (λ m there. ap (λ (e : Edge). placed f copies ahead (along e m)) edge_is))
          (sym (c.in_ok-split.ensures.on.says g.v ∙ ap (λ t. bit_at g.v l c.loop-i.left && t) same)))
          (simulates_when rest (sym (bit-later a b kb g.v c.in_ok-split.split.rest c.in_ok-split.ensures.off.within ∙ (c.in_ok-split.ensures.off.says g.v ∙ ap (λ t. bit_at g.v l c.loop-i.left && not t) same))))
          (c.loop-i.invariant.simulates g turn edge default is new after);
    }

pub returns-in_err-follow-clause-kept : goal.returns-in_err-follow-clause-kept
returns-in_err-follow-clause-kept c =
    keeps_trans c.args.terms.now c.loop-i.terms c.follow.new.terms c.loop-i.invariant.kept (keeps_trans c.loop-i.terms c.split_by_case.new.terms c.follow.new.terms c.split_by_case.ensures.kept c.follow.ensures.kept)

pub returns-clause-leaves : goal.returns-clause-leaves
returns-clause-leaves c = on_ok_weaker c.follow-2.result (λ so edge default is.
    let cases = c.args.switch.cases.now in
    let place : Edge → Machine → Where = λ (e : Edge) (m : Machine). placed c.args.setting.f.now c.args.setting.copies.now c.args.leaving.ahead (along e m) in
    let last = c.edge_at-default.ensures ∙ default_edge c.args.switch.edges.now default (map edge cases) is in
    record {
      frontier = so.frontier;
      shape = so.shape;
      simulates = λ g turn here. simulates_to (c.loop-i.invariant.simulates g turn edge default is c.follow-2.new.terms c.follow-2.new.frontier (place default) (simulates_to (so.simulates g turn tt) (λ m at. ap (λ (e : Edge). place e m) last)))
          (λ m at. cases_end (λ (e : Edge). place e m) edge (λ (y : Case). nat_eq (y.value % 2 ^ c.args.switch.width.bits) (term_at g.v c.args.terms.now c.args.switch.number)) default cases c.loop-i.i c.loop-i-test.false);
    }) c.follow-2.ensures.leaves
