use Rattle.run_trace.proofs.Common.{length, state_after, IsLeaving}
use Rattle.run_trace.proofs.Terminators.{end_leads}
use Rattle.run_trace.proofs.ends.trace_end.Goals as goal

pub returns-clause-shown : goal.returns-clause-shown
returns-clause-shown c = λ first block leads.
    let f = c.args.f.now in
    let b = c.args.block.now in
    let m = c.args.tracer.now.machine in
    let n = c.leave.new.machine in
    let is : IsLeaving f b.terminator c.args.tape.now m n (record { at = c.args.at; jumps = c.args.jumps; left = c.in_ok-left.left; to = c.block_of_exit.result; read = c.len-read.result }) =
    record { exit = c.in_ok-left.ensures.exit; to = c.block_of_exit.ensures n; registers = c.in_ok-left.ensures.registers; turn = c.in_ok-left.ensures.turn; read = c.len-read.ensures } in
    end_leads f c.args.tape.now first (state_after c.next_after.result c.next_after.new.machine) b c.args.at c.args.jumps m n c.in_ok-left.left c.args.tracer.now.steps c.push.new.self c.in_ok-shown.shown
    block leads (c.in_ok-shown.ensures f c.args.tape.now m (length b.insts) is) is.exit (c.next_after.ensures.next f is.to) c.in_ok-push.ensures.ok
