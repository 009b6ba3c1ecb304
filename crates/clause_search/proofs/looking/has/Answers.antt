use Rattle.clause_search.proofs.Common.{◌∙◌, sym}
use Rattle.clause_search.proofs.Seeing.{among-has, has-among}
use Rattle.clause_search.proofs.looking.has.Goals as goal

pub returns : goal.returns
returns c =
    let e = c.literals.ensures.value in (
      λ t. rw e at (among-has c.literals.result.now c.args.literal (sym c.is_among.ensures ∙ t)),
      λ s. c.is_among.ensures ∙ has-among c.literals.result.now c.args.literal (rw e s),
    )
