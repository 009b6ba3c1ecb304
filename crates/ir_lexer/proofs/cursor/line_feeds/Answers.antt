use Rattle.ir_lexer.proofs.Common.{ap, ◌∙◌, length, List, ℕ}
use Rattle.ir_lexer.proofs.Feeds.{feeds-found}
use Rattle.ir_lexer.proofs.cursor.line_feeds.Goals as goal

pub returns : goal.returns
returns c = c.count.ensures ∙ ap (λ (xs : List ℕ). length xs) c.memchr_iter.ensures.value ∙ feeds-found c.args.bytes.now
