use Rattle.run_terms.proofs.Common.{◌∙◌, sym, Some, given_blocks-later}
use Rattle.run_terms.proofs.Lasting.{ending-later, leads-later}
use Rattle.run_terms.proofs.Returning.{ending_valued, given_shaped, return_leaves}
use Rattle.run_terms.proofs.terminators.return_operand.Goals as goal

pub given-given-requires : goal.given-given-requires
given-given-requires c = c.requires.leaving.state.memory.count

pub end_return-requires-clause-own : goal.end_return-requires-clause-own
end_return-requires-clause-own c = ending-later c.args.terms.now c.returned_value.new.terms c.returned_value.ensures.kept c.args.frontier.now.ending c.requires.leaving.frontier.ending

pub end_return-requires-clause-alike : goal.end_return-requires-clause-alike
end_return-requires-clause-alike c = sym (ending_valued c.args.setting c.args.frontier.now c.requires.leaving.shape ∙ c.requires.value)

pub end_return-requires-clause-given : goal.end_return-requires-clause-given
end_return-requires-clause-given c = rw c.given-given.ensures (given_blocks-later c.args.terms.now c.returned_value.new.terms c.returned_value.ensures.kept _ _ (given_shaped c.args.setting c.args.terms.now c.args.frontier.now c.args.leaving c.requires.leaving))

pub end_return-requires-clause-path : goal.end_return-requires-clause-path
end_return-requires-clause-path c = leads-later c.args.terms.now c.returned_value.new.terms c.returned_value.ensures.kept c.args.leaving.c c.args.leaving.path.now c.requires.leaving.c c.requires.leaving.path

pub returns-clause-leaves : goal.returns-clause-leaves
returns-clause-leaves c = return_leaves (Some c.in_ok-value.value) c.returned_value.ensures.kept c.end_return.ensures.kept c.requires.leaving (rw c.given-given.ensures at c.in_ok-end_return.ensures.ends) c.in_ok-value.ensures.stands
