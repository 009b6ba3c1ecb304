use Rattle.proof_text.proofs.Common.{◌≡◌, ◌∙◌, sym, subst, true, false, true≢false, codes, slice_eq-Decides, Decides-eqb, File, Parts, Rest, first_line}
use Rattle.proof_text.proofs.Languages.{file_leads, file_missing, file_nil, some_file}
use Rattle.proof_text.proofs.Moves.{moves_line, stuck_at_end, stuck_at_line}
use Rattle.proof_text.proofs.reader.read_format.Goals as goal

pub returns-in_default-clause-err : goal.returns-in_default-clause-err
returns-in_default-clause-err c =
    let none = (rw c.in_default.is at c.next.ensures.none) in
    rw c.left.ensures (stuck_at_end File c.args.lines.now some_file none.0 file_nil)

pub returns-then-eq-clause-ok : goal.returns-then-eq-clause-ok
returns-then-eq-clause-ok c =
    let is = (slice_eq-Decides Decides-eqb c.in-Some.line.now c.as_slice.result.now c.eq.result c.eq.ensures).0 c.if-eq.true ∙ c.as_slice.ensures in
    let parts = subst (λ t. Parts 10 c.args.lines.now t c.next.new.self) is c.in-Some.ensures.some in
    moves_line File (Rest false) c.args.lines.now (first_line false) c.next.new.self parts (file_leads false)

pub returns-then-eq-2-clause-ok : goal.returns-then-eq-2-clause-ok
returns-then-eq-2-clause-ok c =
    let is = (slice_eq-Decides Decides-eqb c.in-Some.line.now c.as_slice-else-eq.result.now c.eq-else-eq.result c.eq-else-eq.ensures).0 c.if-eq-2.true ∙ c.as_slice-else-eq.ensures in
    let parts = subst (λ t. Parts 10 c.args.lines.now t c.next.new.self) is c.in-Some.ensures.some in
    moves_line File (Rest true) c.args.lines.now (first_line true) c.next.new.self parts (file_leads true)

pub returns-else-eq-2-clause-err : goal.returns-else-eq-2-clause-err
returns-else-eq-2-clause-err c =
    let plain = λ (z : c.in-Some.line.now ≡ codes "tvproof 1"). true≢false (sym ((slice_eq-Decides Decides-eqb c.in-Some.line.now c.as_slice.result.now c.eq.result c.eq.ensures).1 (z ∙ sym c.as_slice.ensures)) ∙ c.if-eq.false) in
    let headed = λ (z : c.in-Some.line.now ≡ codes "tvproof 2"). true≢false (sym ((slice_eq-Decides Decides-eqb c.in-Some.line.now c.as_slice-else-eq.result.now c.eq-else-eq.result c.eq-else-eq.ensures).1 (z ∙ sym c.as_slice-else-eq.ensures)) ∙ c.if-eq-2.false) in
    rw c.left.ensures (stuck_at_line File c.args.lines.now c.in-Some.line.now c.next.new.self some_file c.in-Some.ensures.some (file_missing c.in-Some.line.now plain headed))
