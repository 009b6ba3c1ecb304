use Rattle.token_forms.proofs.Common.{◌≡◌, [], ◌∷◌, length, until_closed}
use Rattle.token_forms.proofs.bracket.pass_bracket.Given as goal

abbrev pub invariant-loop-brackets : goal.invariant-loop-brackets
invariant-loop-brackets l = until_closed l.brackets l.rest.now ≡ until_closed (l.fn.bracket ∷ []) l.fn.rest.now

abbrev pub decreases-loop-brackets : goal.decreases-loop-brackets
decreases-loop-brackets l = length l.rest.now
