use Rattle.ir_reader.proofs.Common.{◌≡◌, ◌∙◌, false, get_or, sym, ap, arith}
use Rattle.std.specs.Prelude.{is_some, position}
use Rattle.ir_reader.proofs.Common.{same_name}
use Rattle.ir_reader.proofs.Different.{own-none, own-more, own-all}
use Rattle.ir_reader.proofs.beside.have_own_names.Goals as goal

pub loop-entry-init : goal.loop-entry-init
loop-entry-init c = own-none c.args.entries.now _ c.new-names.ensures

pub loop-entry-preserved : goal.loop-entry-preserved
loop-entry-preserved c =
    let is : c.entry-item.result ≡ get_or c.args.entries.now c.loop-entry.entry-index c.entry-item.result = c.entry-item.is in
    let absent : is_some (position (same_name c.entry-item.result.name) c.loop-entry.names) ≡ false = ap is_some (sym c.find.ensures.value) ∙ sym c.is_some.ensures ∙ c.if-is_some.false in
    own-more c.args.entries.now c.loop-entry.entry-index c.entry-item.result c.loop-entry.names _ c.in_ok-copy_name.field-0 (omega arith) is c.in_ok-copy_name.ensures absent c.in_ok-number.ensures.names c.loop-entry.invariant

pub returns : goal.returns
returns c = λ own. own-all c.args.entries.now c.loop-entry.entry-index _ (omega arith) c.loop-entry.invariant
