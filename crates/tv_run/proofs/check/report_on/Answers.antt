use Rattle.tv_run.proofs.Common.{◌≡◌, All, List, map, ap, refl, subst, sym, ◌∙◌, filter_map, Judged, Row, report_text, status_of, IsCertified, IsReadName, parts_of, seen_check, IsProofAsked, part_heading, row_heading}
use Rattle.tv_run.proofs.check.report_on.Goals as goal

pub proof_asked-requires-clause-names : goal.proof_asked-requires-clause-names
proof_asked-requires-clause-names c = subst (λ (rows : List Row). All (λ (row : Row). IsReadName row.name) rows) (sym c.as_slice.ensures.value) c.requires.names

pub proof_asked-requires-clause-certified : goal.proof_asked-requires-clause-certified
proof_asked-requires-clause-certified c =
    subst (λ (rows : List Row). All IsCertified (parts_of rows c.as_slice-2.result.now)) (sym c.as_slice.ensures.value)
    (subst (λ (answers : List Judged). All IsCertified (parts_of c.args.judgements.rows.items answers)) (sym c.as_slice-2.ensures.value) c.requires.certified)

pub proof_asked-requires-clause-each : goal.proof_asked-requires-clause-each
proof_asked-requires-clause-each c =
    subst (λ (rows : List Row). map part_heading (parts_of rows c.as_slice-2.result.now) ≡ filter_map row_heading rows) (sym c.as_slice.ensures.value)
    (subst (λ (answers : List Judged). map part_heading (parts_of c.args.judgements.rows.items answers) ≡ filter_map row_heading c.args.judgements.rows.items) (sym c.as_slice-2.ensures.value) c.requires.each)

pub returns : goal.returns
returns c = record {
  answers_are = refl;
  text_is = c.in_ok-text.ensures ∙ ap (report_text c.args.check.now.bounds c.args.check.now.budget c.args.check.now.first) c.as_slice-4.ensures.value;
  status_is = c.status_of-status.ensures.value ∙ ap status_of c.as_slice-3.ensures.value;
  asked =
      subst (λ (rows : List Row). IsProofAsked (seen_check c.args.check.now).proof c.args.check.now.bounds c.args.check.now.budget rows c.args.judgements.answers.items c.in_ok-proof.proof) c.as_slice.ensures.value
      (subst (λ (answers : List Judged). IsProofAsked (seen_check c.args.check.now).proof c.args.check.now.bounds c.args.check.now.budget c.as_slice.result.now answers c.in_ok-proof.proof) c.as_slice-2.ensures.value c.in_ok-proof.ensures);
}
