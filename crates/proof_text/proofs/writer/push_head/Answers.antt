use Rattle.proof_text.proofs.Heads.{head_pushed}
use Rattle.proof_text.proofs.writer.push_head.Goals as goal

pub returns : goal.returns
returns c =
    head_pushed c.args.head.now c.args.out.now.items _ _ _ _ _ _ c.extend_from_slice.new.self.items c.in_ok-push_named_number.ensures c.in_ok-push_named_number-2.ensures c.in_ok-push_named_number-3.ensures
    c.in_ok-push_named_number-4.ensures c.in_ok-push_named_number-5.ensures c.in_ok-push_named_number-6.ensures c.in_ok-extend_from_slice.ensures.items
