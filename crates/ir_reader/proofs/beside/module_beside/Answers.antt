use Rattle.ir_reader.proofs.Common.{◌≡◌, ◌∙◌, ◌≤◌, IsDistinct, List, length, map, sym, subst, arith, same_name, Entry}
use Rattle.std.proofs.lemmas.Grind.{common_steps}
use Rattle.ir_reader.proofs.Spans.{if-some, span-module, span-judgeable}
use Rattle.ir_reader.proofs.beside.module_beside.Goals as goal

pub returns-clause-module : goal.returns-clause-module
returns-clause-module g c =
    let entries : List Entry = c.in_ok-span.span.entries.items in
    let end : c.in_ok-span.span.after ≡ length c.args.text.now = omega arith in
    let few : length entries ≤ 4096 = grind (arith, common_steps) in
    let own = if-some _ c.have_own_names.result c.in_ok-ok.field-0 (sym c.ok.ensures.value ∙ c.in_ok-ok.was) c.have_own_names.ensures c.if-not-branch.false in
    let distinct : IsDistinct same_name (map (λ (e : Entry). e.name) entries) = subst (λ (es : List Entry). IsDistinct same_name (map (λ (e : Entry). e.name) es)) c.as_slice.ensures.value own in
    span-module c.args.text.now c.first.result.at c.in_ok-span.span _ c.first.ensures.first end few distinct c.from_vec.ensures c.in_ok-span.ensures

pub returns-clause-judgeable : goal.returns-clause-judgeable
returns-clause-judgeable g c = rw c.from_vec.ensures (span-judgeable c.args.text.now c.first.result.at c.in_ok-span.span c.in_ok-span.ensures)
