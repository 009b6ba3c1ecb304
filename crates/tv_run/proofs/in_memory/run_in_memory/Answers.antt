use Rattle.tv_run.proofs.Common.{◌-◌, Some, refl, ap, vec_len, files_of, memory_state, ShelfState, SinkState, job_in}
use Rattle.tv_run.proofs.InMemory.{complete, defined, sound}
use Rattle.tv_run.proofs.in_memory.run_in_memory.Goals as goal

pub returns-clause-sound : goal.returns-clause-sound
returns-clause-sound g c = λ within check is.
    sound (files_of c.args.files) check c.run-status.result _ _ c.run-status.new.out.bytes.items (ap Some c.in_ok-out.ensures.0) refl
    ((c.run-status.ensures.sound (files_of c.args.files) check (ap (λ (s : ShelfState). s.files) c.new-shelf.ensures) is).whole within)

pub returns-clause-defined : goal.returns-clause-defined
returns-clause-defined g c = λ within check is none.
    defined (files_of c.args.files) check c.run-status.result _ _ c.run-status.new.out.bytes.items (ap Some c.in_ok-out.ensures.0) refl
    (c.run-status.ensures.defined within (files_of c.args.files) check (ap (λ (s : ShelfState). s.files) c.new-shelf.ensures) is none)

pub returns-clause-complete : goal.returns-clause-complete
returns-clause-complete g c =
    let shelf = c.new-shelf.result in
    let out = c.in_ok-out.out in
    let old : ShelfState = memory_state shelf.files shelf.fetch_faults shelf.put_faults shelf.bytes_taken in
    let last = c.run-status.new.shelf in
    let new : ShelfState = memory_state last.files last.fetch_faults last.put_faults last.bytes_taken in
    let written = c.run-status.new.out in
    let out_old : SinkState = record { taken = Some out.bytes.items; room = out.room - vec_len out.bytes; faults = out.faults } in
    let out_new : SinkState = record { taken = Some written.bytes.items; room = written.room - vec_len written.bytes; faults = written.faults } in
    complete c.args.room (files_of c.args.files) (job_in c.args.arguments.now) old new out_old out_new c.run-status.new.judged.items c.run-status.result
    (record { known = ap (λ (s : ShelfState). s.files) c.new-shelf.ensures; fails = ap (λ (s : ShelfState). s.may_fail) c.new-shelf.ensures })
    (ap (λ (s : SinkState). s.room) c.in_ok-out.ensures.2) c.if-status-eq8.false c.run-status.ensures.complete.checked c.run-status.ensures.refused c.run-status.ensures.part
