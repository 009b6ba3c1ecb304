use Rattle.std.proofs.Common.{◌≡◌, ◌++◌, ◌∙◌, ℕ, List, append_assoc}
use Rattle.trace_text.proofs.steps.push_missing_step.Goals as goal

two_joined : (old mid new a b : List ℕ) → mid ≡ old ++ a → new ≡ mid ++ b → new ≡ old ++ (a ++ b)
two_joined old mid new a b h k = k ∙ rw h (append_assoc old a b)

pub returns : goal.returns
returns c = two_joined c.args.out.now.items _ _ _ _ c.in_ok-extend_from_slice.ensures.items c.in_ok-push_reason.ensures
