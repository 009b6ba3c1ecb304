use Rattle.std.proofs.Common.{arith}
use Rattle.answer_order.specs.Fronts.{numbers_of}
use Rattle.answer_order.proofs.Steps.{widths_more, total_more, read_more, read_all}
use Rattle.answer_order.proofs.reading.numbers_of.Goals as goal

pub split_at-requires : goal.split_at-requires
split_at-requires c = omega (arith, c.loop-width.invariant.long, total_more c.args.widths.now c.loop-width.width-index c.loop-width-test.true)

pub number_of-requires : goal.number_of-requires
number_of-requires c =
    let widths = widths_more c.args.widths.now c.loop-width.width-index c.loop-width-test.true c.loop-width.invariant.widths in
    omega (arith, c.split_at.ensures.front_len, widths.0)

pub loop-width-preserved : goal.loop-width-preserved
loop-width-preserved c =
    let widths = widths_more c.args.widths.now c.loop-width.width-index c.loop-width-test.true c.loop-width.invariant.widths in
    let long = total_more c.args.widths.now c.loop-width.width-index c.loop-width-test.true in
    record {
      widths = widths.1;
      long = omega (arith, c.split_at.ensures.back_len, c.loop-width.invariant.long, long);
      read = read_more c.args.widths.now c.loop-width.rest.now c.split_at.result.0.now c.split_at.result.1.now c.loop-width.width-index c.number_of.result c.loop-width.numbers.items c.push.new.self.items
          (numbers_of c.args.widths.now c.args.digits.now) c.loop-width-test.true c.loop-width.invariant.read c.split_at.ensures.front c.split_at.ensures.back c.number_of.ensures c.in_ok-push.ensures.items;
    }

pub returns : goal.returns
returns c = read_all c.args.widths.now c.loop-width.rest.now c.loop-width.width-index c.loop-width.numbers.items (numbers_of c.args.widths.now c.args.digits.now) c.loop-width-test.false c.loop-width.invariant.read
