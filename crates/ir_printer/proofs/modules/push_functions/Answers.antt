use Rattle.ir_printer.proofs.Accepted.{any_done, any_more, text_done, text_more}
use Rattle.ir_printer.proofs.modules.push_functions.Goals as goal

pub loop-entry-preserved : goal.loop-entry-preserved
loop-entry-preserved c =
    let entries = c.args.entries.now in
    let i = c.loop-entry.entry-index in
    let made = c.in_ok-any.ensures.any in
    record {
      any = any_more entries i c.entry-item.result c.loop-entry.any c.in_ok-any.any _ c.loop-entry-test.true c.entry-item.is made c.loop-entry.invariant.any;
      text =
          text_more entries i c.entry-item.result c.loop-entry.any c.in_ok-any.any c.loop-entry.out.items c.push_entry.new.out.items _ c.loop-entry-test.true c.entry-item.is made
          c.in_ok-any.ensures.text c.loop-entry.invariant.text;
    }

pub returns-clause-any : goal.returns-clause-any
returns-clause-any c = any_done c.args.entries.now c.loop-entry.entry-index c.loop-entry.any _ c.loop-entry-test.false c.loop-entry.invariant.any

pub returns-clause-text : goal.returns-clause-text
returns-clause-text c = text_done c.args.entries.now c.loop-entry.entry-index c.loop-entry.any _ _ c.loop-entry-test.false c.loop-entry.invariant.text
