use Rattle.ir_reader.proofs.Common.{◌∙◌, sym}
use Rattle.ir_reader.proofs.Spans.{if-some, span-read}
use Rattle.ir_reader.proofs.beside.piece_of.Goals as goal

pub returns : goal.returns
returns c =
    let part = if-some _ c.lex_part.result c.in_ok-tokens.field-0 (sym c.ok.ensures.value ∙ c.in_ok-tokens.was) c.lex_part.ensures.part in
    let cut = if-some _ c.cut.result c.in_ok-defines.defines (sym c.ok-2.ensures.value ∙ c.in_ok-defines.was) c.cut.ensures.items in
    let entries = if-some _ c.entries_of.result c.in_ok-entries.entries (sym c.ok-3.ensures.value ∙ c.in_ok-entries.was) c.entries_of.ensures in
    span-read _ _ _ _ _ part cut entries c.edges_of-edges.ensures
