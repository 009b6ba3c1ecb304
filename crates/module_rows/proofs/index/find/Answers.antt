use Rattle.module_rows.proofs.Common.{◌≡◌, ◌<◌, arith, List, length, ap, sym, subst, ◌∙◌, Some, None, position, Name, Entry, same_name, IsJudgeableEntry, entry_names}
use Rattle.module_rows.proofs.Searches.{all_at, function_named-at, function_named-none, length-entry_names}
use Rattle.module_rows.proofs.index.find.Goals as goal

pub returns-in-Some-clause-value : goal.returns-in-Some-clause-value
returns-in-Some-clause-value c =
    let at : position (same_name c.args.name.now) (entry_names c.args.entries.now) ≡ Some c.in-Some.number = subst (λ (ns : List Name). position (same_name c.args.name.now) ns ≡ Some c.in-Some.number) c.requires (sym c.in-Some.ensures.value) in
    ap (λ (e : Entry). Some e.function) c.index-entries-number.is ∙ sym (function_named-at c.args.entries.now c.args.name.now c.in-Some.number c.index-entries-number.result at)

pub returns-in-None-clause-value : goal.returns-in-None-clause-value
returns-in-None-clause-value c =
    let at : position (same_name c.args.name.now) (entry_names c.args.entries.now) ≡ None = subst (λ (ns : List Name). position (same_name c.args.name.now) ns ≡ None) c.requires (sym c.in-None.ensures.value) in
    sym (function_named-none c.args.entries.now c.args.name.now at)

pub returns-in-Some-clause-judgeable : goal.returns-in-Some-clause-judgeable
returns-in-Some-clause-judgeable c = λ all.
    let names : length c.args.names.now ≡ length (entry_names c.args.entries.now) = ap (λ (ns : List Name). length ns) c.requires in
    let within : c.in-Some.number < length c.args.entries.now = omega (arith, c.in-Some.ensures.within, names, length-entry_names c.args.entries.now) in
    subst IsJudgeableEntry (sym c.index-entries-number.is) (all_at IsJudgeableEntry c.args.entries.now c.in-Some.number c.index-entries-number.result all within)
