use Rattle.ir_lexer.proofs.Common.{◌≡◌, ℕ, ◌∙◌, sym, ap, drop, take, Some, is_name_byte, behind, name_run, word_or_label, Kind}
use Rattle.std.specs.Prelude.{count_by}
use Rattle.text_places.specs.Place.{is_line_feed}
use Rattle.ir_lexer.proofs.Behind.{drop-run}
use Rattle.ir_lexer.proofs.Dispatch.{mark-first, word-first}
use Rattle.ir_lexer.proofs.Lines.{word-line, mark-line}
use Rattle.ir_lexer.proofs.scan.plain_token.Goals as goal

pub returns-then-is_lone_mark-clause-token : goal.returns-then-is_lone_mark-clause-token
returns-then-is_lone_mark-clause-token c = (mark-first c.args.text.now (sym c.is_lone_mark.ensures ∙ c.if-is_lone_mark.true))

pub returns-then-begins_plain_word-clause-token : goal.returns-then-begins_plain_word-clause-token
returns-then-begins_plain_word-clause-token c =
    let run : c.run_at_front-run.result ≡ name_run c.args.text.now = c.run_at_front-run.ensures in
    let rest : c.split_at.result.1.now ≡ behind is_name_byte c.args.text.now = c.split_at.ensures.back ∙ ap (λ (n : ℕ). drop n c.args.text.now) run ∙ drop-run is_name_byte c.args.text.now in
    let is : c.word_or_label.result ≡ word_or_label (name_run c.args.text.now) (behind is_name_byte c.args.text.now) =
    c.word_or_label.ensures ∙ ap (λ (n : ℕ). word_or_label n c.split_at.result.1.now) run ∙ ap (word_or_label (name_run c.args.text.now)) rest in
    word-first c.args.text.now (sym c.begins_plain_word.ensures ∙ c.if-begins_plain_word.true) ∙ ap Some (sym is)

pub returns-then-begins_plain_word-clause-line : goal.returns-then-begins_plain_word-clause-line
returns-then-begins_plain_word-clause-line c =
    let run : c.run_at_front-run.result ≡ name_run c.args.text.now = c.run_at_front-run.ensures in
    let rest : c.split_at.result.1.now ≡ behind is_name_byte c.args.text.now = c.split_at.ensures.back ∙ ap (λ (n : ℕ). drop n c.args.text.now) run ∙ drop-run is_name_byte c.args.text.now in
    let is : c.word_or_label.result ≡ word_or_label (name_run c.args.text.now) (behind is_name_byte c.args.text.now) =
    c.word_or_label.ensures ∙ ap (λ (n : ℕ). word_or_label n c.split_at.result.1.now) run ∙ ap (word_or_label (name_run c.args.text.now)) rest in
    ap (λ (found : Kind × ℕ). count_by is_line_feed (take found.1 c.args.text.now)) is ∙ word-line c.args.text.now

pub returns-then-is_lone_mark-clause-line : goal.returns-then-is_lone_mark-clause-line
returns-then-is_lone_mark-clause-line c = mark-line c.args.text.now (sym c.is_lone_mark.ensures ∙ c.if-is_lone_mark.true)
