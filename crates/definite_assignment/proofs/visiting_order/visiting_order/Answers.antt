use Rattle.definite_assignment.proofs.Common.{ℕ, ◌+◌, ◌≡◌, ◌<◌, ◌⊎◌, inl, inr, [], ◌∷◌, ◌++◌, List, length, subst, sym, arith, Contains, cases_eq, All-same, All-push, Contains-append_left, Contains-push}
use Rattle.definite_assignment.proofs.visiting_order.visiting_order.Goals as goal

one_more : (order : List ℕ) (n : ℕ) → ((block : ℕ) → block < n → Contains order block) → (block : ℕ) → block < n + 1 → Contains (order ++ n ∷ []) block
one_more order n every block below = cases (cases_eq block n)
  where
    cases : (block ≡ n) ⊎ (block ≡ n → ⊥) → Contains (order ++ n ∷ []) block
    cases (inl e) = subst (λ b. Contains (order ++ n ∷ []) b) (sym e) (Contains-push order n)
    cases (inr away) = Contains-append_left order (n ∷ []) block (every block (omega (arith, below, away)))

pub loop-block-preserved : goal.loop-block-preserved
loop-block-preserved c =
    record {
      within = All-same (λ b. b < length c.args.successors.now) _ _ c.in_ok-push.ensures.items (All-push (λ b. b < length c.args.successors.now) c.loop-block.order.items c.loop-block.block c.loop-block.invariant.within c.loop-block-test.true);
      every = subst (λ xs. (block : ℕ) → block < c.loop-block.block + 1 → Contains xs block) (sym c.in_ok-push.ensures.items) (one_more c.loop-block.order.items c.loop-block.block c.loop-block.invariant.every);
    }
