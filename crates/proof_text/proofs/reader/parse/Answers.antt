use Rattle.proof_text.proofs.OneReading.{proofs_are_one}
use Rattle.proof_text.proofs.Top.{first_fault, no_proof}
use Rattle.proof_text.proofs.reader.parse.Goals as goal

pub returns-in-Err-At-clause-fault : goal.returns-in-Err-At-clause-fault
returns-in-Err-At-clause-fault c =
    let text = c.args.text.now in
    let stuck = (rw c.in-Err-At.field-0-is at c.in-Err-At.ensures.err) in
    (first_fault text stuck.0 c.in-Err-At.left c.line_of.result stuck.1 stuck.2 c.line_of.ensures, no_proof text stuck.0 stuck.2)

pub returns-in-Ok-clause-written : goal.returns-in-Ok-clause-written
returns-in-Ok-clause-written c = λ proof of_proof. proofs_are_one c.args.text.now proof c.in-Ok.proof of_proof c.in-Ok.ensures.ok.0
