-- The order is one that may be asked for, and what is answered in bits is answered in numbers.
use Rattle.pair_questions.proofs.Answered.{asks_numbers, least_is, long_digits, none_is}
use Rattle.pair_questions.proofs.Mentioned.{has_all}
use Rattle.pair_questions.proofs.Numbered.{are_different, are_variables}
use Rattle.pair_questions.proofs.asking.least_numbers.Goals as goal

pub ask-requires-clause-order : goal.ask-requires-clause-order
ask-requires-clause-order c = are_variables c.args.terms.now 0 c.args.order.now c.args.widths.now c.requires.order.numbered

pub ask-requires-clause-different : goal.ask-requires-clause-different
ask-requires-clause-different c = are_different c.args.terms.now c.args.order.now c.args.widths.now c.requires.order.numbered

pub ask-requires-clause-all : goal.ask-requires-clause-all
ask-requires-clause-all c = has_all c.args.terms.now c.args.order.now c.args.widths.now c.args.goal c.as_slice.ensures.fit c.requires.order c.requires.goal.within

pub numbers_of-requires-clause-digits : goal.numbers_of-requires-clause-digits
numbers_of-requires-clause-digits c =
    let found = rw c.in-Least.is at c.in_ok-digits.ensures.asked in
    rw c.as_slice-in-Least.ensures.value (long_digits c.args.terms.now c.args.goal c.args.order.now c.args.widths.now c.as_slice.ensures.fit c.requires.order c.requires.goal.within c.in-Least.digits.items found.0)

pub returns-in_ok-numbers-in-Least : goal.returns-in_ok-numbers-in-Least
returns-in_ok-numbers-in-Least c =
    let found = rw c.in-Least.is at c.in_ok-digits.ensures.asked in
    rw c.from_vec.ensures (least_is c.args.terms.now c.args.goal c.args.order.now c.args.widths.now c.as_slice.ensures.fit c.requires.order c.requires.goal.within
    c.in-Least.digits.items c.in_ok-numbers-in-Least.numbers.items c.requires.widths found.0 (rw c.as_slice-in-Least.ensures.value at c.in_ok-numbers-in-Least.ensures))

pub returns-in-None : goal.returns-in-None
returns-in-None c =
    let found = rw c.in-None.is at c.in_ok-digits.ensures.asked in (
      none_is c.args.terms.now c.args.goal c.args.order.now c.args.widths.now c.as_slice.ensures.fit c.requires.order c.requires.goal.within found.0.0,
      record {
        asks = asks_numbers c.args.terms.now c.args.goal c.args.order.now c.args.widths.now c.as_slice.ensures.fit c.requires.order c.requires.goal.within c.in-None.cert.cnf found.0.1;
        refutes = found.0.2;
        careful = found.0.3;
        small = found.1;
      },
    )

pub returns-in-Spent : goal.returns-in-Spent
returns-in-Spent c =
    let found = rw c.in-Spent.is at c.in_ok-digits.ensures.asked in (
      found.0.1.0,
      found.0.1.1,
      record {
        asks = asks_numbers c.args.terms.now c.args.goal c.args.order.now c.args.widths.now c.as_slice.ensures.fit c.requires.order c.requires.goal.within c.in-Spent.cert.cnf found.0.0;
        spent = found.0.1.2;
        small = found.1;
      },
    )
