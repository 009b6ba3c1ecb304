use Rattle.proof_text.proofs.Growing.{proof_more}
use Rattle.proof_text.proofs.writer.push_part.Goals as goal

pub returns : goal.returns
returns c = λ proof written.
    proof_more proof c.args.name.now c.args.is_correct c.args.cert.now _ c.push_row.new.out.items _ c.requires written c.in_ok-push_row.ensures c.in_ok-push_cert.ensures
