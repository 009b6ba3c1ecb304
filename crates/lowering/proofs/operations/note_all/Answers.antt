use Rattle.std.proofs.Common.{◌<◌, ◌-◌, ◌++◌, ◌∙◌, length, drop, arith}
use Rattle.undef_uses.proofs.TableLemmas.{own_results}
use Rattle.lowering.proofs.OperationLemmas.{insts_more}
use Rattle.lowering.proofs.operations.note_all.Goals as goal

pub note-requires : goal.note-requires
note-requires c name found =
    let below : c.loop-at.at - 1 < length c.args.insts.now = omega arith in
    let own = own_results (length c.args.table.now) c.args.insts.now (c.loop-at.at - 1) c.index-insts-at.result c.requires below c.index-insts-at.is name found in
    omega (arith, own, c.loop-at.invariant.long)

pub loop-at-preserved : goal.loop-at-preserved
loop-at-preserved c =
    let below : c.loop-at.at - 1 < length c.args.insts.now = omega arith in
    record {
      within = omega arith;
      long = c.note.auto.table ∙ c.loop-at.invariant.long;
      operations = λ rest before. insts_more c.args.insts.now rest (c.loop-at.at - 1) c.loop-at.at c.index-insts-at.result c.note.new.table (omega arith) below c.index-insts-at.is
          (c.note.ensures (drop c.loop-at.at c.args.insts.now ++ rest) (c.loop-at.invariant.operations rest before));
    }
