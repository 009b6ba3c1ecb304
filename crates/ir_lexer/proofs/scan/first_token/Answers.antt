use Rattle.ir_lexer.proofs.Common.{◌≡◌, length, ◌<◌, ◌≤◌, ◌∙◌, Option, ℕ, subst, sym, IfSome, Kind, longest_token}
use Rattle.ir_lexer.proofs.Longest.{front_token-longest, longest-bounds}
use Rattle.ir_lexer.proofs.scan.first_token.Goals as goal

pub returns : goal.returns
returns c =
    let is : c.dispatched.result ≡ longest_token c.args.text.now = c.dispatched.ensures ∙ front_token-longest c.args.text.now in
    record {
      value = is;
      bounds = subst (λ (o : Option (Kind × ℕ)). IfSome o (λ found. (0 < found.1) × (found.1 ≤ length c.args.text.now))) (sym is) (longest-bounds c.args.text.now);
    }
