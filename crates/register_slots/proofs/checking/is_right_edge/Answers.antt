use Rattle.register_slots.proofs.Common.{◌≡◌, ℕ, List, Option, map, ap, subst, ◌∙◌, AllByRecursion, Phi, IsHeld, holding}
use Rattle.register_slots.proofs.PhiLemmas.{right_phis}
use Rattle.register_slots.proofs.checking.is_right_edge.Goals as goal

pub returns : goal.returns
returns c = λ yes.
    let slots = c.args.slots.now in
    let held = c.args.held.now in
    let phis = c.args.block.now.phis in
    let into : List Phi → List ℕ = λ (ps : List Phi). map (λ (phi : Phi). phi.into) ps in
    let fit = rw c.as_slice.ensures at (c.phis_have_slots.ensures c.if-not-phis_have_slots.false) in
    let after : c.deref.result.now ≡ holding slots (into phis) held = c.deref.ensures.value ∙ (c.in_ok-entered.ensures ∙ ap (λ (ps : List Phi). holding slots (into ps) held) c.as_slice-2.ensures) in
    record {
      phis = right_phis slots c.args.names held c.args.from phis c.requires fit;
      live = subst (λ (h : List (Option ℕ)). AllByRecursion (IsHeld slots h) c.args.needed.now) after (c.are_held-2.ensures yes);
    }
