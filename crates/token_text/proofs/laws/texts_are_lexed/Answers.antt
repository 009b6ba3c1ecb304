use Rattle.token_text.proofs.Lexed.{texts-lexed}
use Rattle.token_text.proofs.laws.texts_are_lexed.Goals as goal

pub returns : goal.returns
returns c = texts-lexed
