use Rattle.std.proofs.Common.{◌≡◌, ◌++◌, ◌∙◌, ℕ, List, append_assoc}
use Rattle.trace_text.proofs.differences.push_difference.Goals as goal

three_joined : (old first second new a b c : List ℕ) → first ≡ old ++ a → second ≡ first ++ b → new ≡ second ++ c → new ≡ old ++ (a ++ (b ++ c))
three_joined old first second new a b c h1 h2 h3 = h3 ∙ rw (h2, h1) (simp append_assoc)

pub returns : goal.returns
returns c = three_joined c.args.out.now.items _ _ _ _ _ _ c.in_ok-extend_from_slice.ensures.items c.in_ok-push_words.ensures c.in_ok-extend_from_slice-2.ensures.items
