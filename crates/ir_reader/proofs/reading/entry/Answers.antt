use Rattle.ir_reader.proofs.Common.{◌∙◌, ◌+◌, List, drop, refl, subst, Lexeme, IsFunction}
use Rattle.ir_reader.proofs.Entries.{passed, enough}
use Rattle.ir_reader.proofs.reading.entry.Goals as goal

pub take-requires : goal.take-requires
take-requires c = enough c.args.done c.args.define.first (c.args.define.last + 1) _ _ c.requires.behind c.requires.spans c.requires.left c.skip.ensures

pub returns-clause-entry : goal.returns-clause-entry
returns-clause-entry c tokens e =
    let skipped = passed tokens c.args.done c.args.define.first _ _ c.requires.behind e c.skip.ensures in
    let part = c.as_slice.ensures ∙ c.in_ok-tokens.ensures.taken (drop c.args.define.first tokens) skipped in
    record { name = refl; function = subst (λ (ts : List Lexeme). IsFunction ts c.in_ok-function.function) part c.in_ok-function.ensures }

pub returns-clause-left : goal.returns-clause-left
returns-clause-left c tokens e =
    let skipped = passed tokens c.args.done c.args.define.first _ _ c.requires.behind e c.skip.ensures in
    passed tokens c.args.define.first (c.args.define.last + 1) _ _ c.requires.spans skipped c.in_ok-tokens.ensures.left
