use Rattle.ir_grammar.proofs.Common.{define}
use Rattle.token_forms.proofs.AsSpelled.{as-spelled}
use Rattle.ir_grammar.proofs.cursor.Cursor.define.Goals as goal

pub returns : goal.returns
returns c = as-spelled define c.function.result c.args.self.now c.function.new.self c.function.ensures
