use Rattle.term_rules.proofs.Common.{and_comm, or_comm, xor_comm}
use Rattle.term_rules.proofs.low_bits.turned.Goals as goal

pub returns-in-Conjunction : goal.returns-in-Conjunction
returns-in-Conjunction c = rw c.in-Conjunction.is (λ _ x y. and_comm y x)

pub returns-in-Disjunction : goal.returns-in-Disjunction
returns-in-Disjunction c = rw c.in-Disjunction.is (λ _ x y. or_comm y x)

pub returns-in-Exclusive : goal.returns-in-Exclusive
returns-in-Exclusive c = rw c.in-Exclusive.is (λ _ x y. xor_comm y x)
