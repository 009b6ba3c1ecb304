use Rattle.module_rows.proofs.Common.{◌≡◌, ◌<◌, arith, List, length, ap, sym, ◌∙◌, take, get_or, Name, Entry, with_name, entry_names}
use Rattle.module_rows.proofs.Searches.{with_name-next, entry_names-at, length-entry_names}
use Rattle.module_rows.proofs.index.names_of.Goals as goal

pub loop-entry-preserved : goal.loop-entry-preserved
loop-entry-preserved c =
    let i = c.loop-entry.entry-index in
    let d = c.entry-item.result in
    let ns = entry_names c.args.entries.now in
    let within : i < length ns = omega (arith, c.loop-entry-test.true, length-entry_names c.args.entries.now) in
    let name : c.in_ok-copy_name.field-0 ≡ get_or ns i d.name = c.in_ok-copy_name.ensures ∙ ap (λ (e : Entry). e.name) c.entry-item.is ∙ sym (entry_names-at c.args.entries.now i d c.loop-entry-test.true) in
    c.in_ok-number.ensures.names
    ∙ ap (λ (front : List Name). with_name front c.in_ok-copy_name.field-0) c.loop-entry.invariant
    ∙ ap (λ (n : Name). with_name (take i ns) n) name
    ∙ with_name-next ns i d.name c.requires within
