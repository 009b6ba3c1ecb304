use Rattle.ir_reader.proofs.Common.{◌≡◌, ◌∙◌, ◌≤◌, length, Some, None, sym, ap, slice_get, lexed, place_or_end}
use Rattle.ir_reader.proofs.Entries.{is-at, ok-and}
use Rattle.ir_reader.proofs.reading.place_or_end.Goals as goal

pub unreachable-requires : goal.unreachable-requires
unreachable-requires c =
    let lexed_so = ok-and (λ tokens. c.args.at ≤ length tokens) (lexed c.args.text.now) c.requires in
    let skipped = c.skip.ensures lexed_so.0 (c.new-lexer.ensures ∙ lexed_so.1) in
    c.in_default.not-Ok _ (is-at lexed_so.0 c.args.at _ _ c.next.result skipped c.next.ensures)

pub returns-in-Some : goal.returns-in-Some
returns-in-Some c tokens e =
    let at = is-at tokens c.args.at _ _ c.next.result (c.skip.ensures tokens (c.new-lexer.ensures ∙ e)) c.next.ensures in
    let token : slice_get tokens c.args.at ≡ Some c.in-Some.token = cc (at, c.in-Ok.is, c.in-Some.is) in
    c.place.ensures ∙ sym (ap (place_or_end c.args.text.now) token)

pub returns-in-None : goal.returns-in-None
returns-in-None c tokens e =
    let at = is-at tokens c.args.at _ _ c.next.result (c.skip.ensures tokens (c.new-lexer.ensures ∙ e)) c.next.ensures in
    let none : slice_get tokens c.args.at ≡ None = cc (at, c.in-Ok.is, c.in-None.is) in
    c.end_of.ensures ∙ sym (ap (place_or_end c.args.text.now) none)
