use Rattle.choice_interp.proofs.Common.{refl}
use Rattle.choice_interp.proofs.SmallSizes.{whole_size}
use Rattle.choice_interp.proofs.memory_steps.index_value.Goals as goal

pub returns-clause-value : goal.returns-clause-value
returns-clause-value c = rw (c.cut.ensures, c.value_of.ensures, c.indexed_size.ensures, whole_size c.args.of_type.now c.args.n c.requires) refl
