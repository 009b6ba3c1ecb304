-- Wherever what is left of the cases takes the run, all of them take it there.
use Rattle.run_terms.proofs.Common.{ℕ, ◌≡◌, ◌≤◌, ◌∷◌, ◌%◌, ◌^◌, List, length, map, take, nat_eq, find, option_map_or, Case, Edge, Machine, Where, along, Term, Keeps, bit_at, term_at, Frontier, Scene, IsLeaving, Simulates, placed}
use Rattle.run_terms.proofs.terminators.leave_by_cases.Given as goal

abbrev pub invariant-loop-i : goal.invariant-loop-i
invariant-loop-i l = record {
  kept : Keeps l.fn.terms l.terms;
  within : l.i ≤ length l.switch.cases.now;
  leaving : IsLeaving l.setting l.terms l.frontier (record l.leaving { c = l.left; path = record l.leaving.path { now = l.path } });
  simulates : (g : Scene) (turn : ℕ) (edge : Case → Edge) (default : Edge) → l.switch.edges.now ≡ default ∷ map edge l.switch.cases.now → (new : List Term) (after : Frontier) (to : Machine → Where)
      → Simulates g l.terms new l.frontier after (bit_at g.v l.terms l.left) (record { label = l.leaving.label; turn = turn }) l.leaving.state.now to
      → Simulates g l.fn.terms new l.fn.frontier after (bit_at g.v l.fn.terms l.leaving.c) (record { label = l.leaving.label; turn = turn }) l.leaving.state.now
      (λ (m : Machine). option_map_or (λ (case : Case). placed l.setting.f.now l.setting.copies.now l.leaving.ahead (along (edge case) m)) (find (λ (case : Case). nat_eq (case.value % 2 ^ l.switch.width.bits) (term_at g.v l.fn.terms l.switch.number)) (take l.i l.switch.cases.now)) (to m));
}
