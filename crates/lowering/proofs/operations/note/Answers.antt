use Rattle.std.proofs.Common.{length, arith}
use Rattle.undef_uses.proofs.TableLemmas.{own_first}
use Rattle.lowering.proofs.OperationLemmas.{noted}
use Rattle.lowering.proofs.operations.note.Goals as goal

pub bounds-table-into : goal.bounds-table-into
bounds-table-into c = own_first c.args.inst.now c.in-Some.into (length c.args.table.now) c.in-Some.ensures c.requires

pub offset_bounds-table-into : goal.offset_bounds-table-into
offset_bounds-table-into c = omega (arith, own_first c.args.inst.now c.in-Some.into (length c.args.table.now) c.in-Some.ensures c.requires)

pub returns-in-Some : goal.returns-in-Some
returns-in-Some c = noted c.args.inst.now c.args.table.now c.in-Some.into c.operation_in.result c.in-Some.ensures (own_first c.args.inst.now c.in-Some.into (length c.args.table.now) c.in-Some.ensures c.requires) c.operation_in.ensures
