use Rattle.pair_questions.proofs.Assigning.{inputs_have_assignments}
use Rattle.pair_questions.proofs.laws.inputs_have_assignments.Goals as goal

pub returns : goal.returns
returns c = inputs_have_assignments
