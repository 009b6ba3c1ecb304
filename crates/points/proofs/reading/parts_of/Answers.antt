use Rattle.points.proofs.Common.{arith}
use Rattle.points.proofs.Cursor.{code_count, parts_are}
use Rattle.points.proofs.reading.parts_of.Goals as goal

pub overflow_sub-code : goal.overflow_sub-code
overflow_sub-code c = let long = code_count c.args.shape.now c.args.code.now c.requires in let count = long.count in omega (arith, count)

pub args_length-requires : goal.args_length-requires
args_length-requires c = let long = code_count c.args.shape.now c.args.code.now c.requires in let count = long.count in rw c.as_slice.ensures (omega (arith, count))

pub split_at-requires-2 : goal.split_at-requires-2
split_at-requires-2 c =
    let long = code_count c.args.shape.now c.args.code.now c.requires in let count = long.count in
    let here = rw c.as_slice.ensures at c.args_length.ensures in
    omega (arith, count, here)

pub split_at-requires-3 : goal.split_at-requires-3
split_at-requires-3 c =
    let long = code_count c.args.shape.now c.args.code.now c.requires in let count = long.count in
    let here = rw c.as_slice.ensures at c.args_length.ensures in
    omega (arith, count, here)

pub returns : goal.returns
returns c =
    let long = code_count c.args.shape.now c.args.code.now c.requires in let count = long.count in
    let here = rw c.as_slice.ensures at c.args_length.ensures in
    let parts = parts_are c.args.shape.now c.args.code.now c.split_at.result.0.now c.split_at.result.1.now c.split_at-2.result.0.now c.split_at-2.result.1.now c.split_at-3.result.0.now c.split_at-3.result.1.now _ c.args_length.result c.requires (omega (arith, count)) c.split_at.ensures.front c.split_at.ensures.back here c.split_at-2.ensures.front c.split_at-2.ensures.back c.split_at-3.ensures.front c.split_at-3.ensures.back in
    record { whole = parts.whole; args = parts.are_args; sizes = parts.are_sizes; places = parts.are_places; tape = parts.are_words }
