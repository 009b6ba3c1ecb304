use Rattle.clause_log.proofs.Common.{◌∙◌, subst, IsBinarySearchResult, nat_cmp}
use Rattle.clause_log.proofs.Placed.{index_of-searched}
use Rattle.clause_log.proofs.places.Variables.find.Goals as goal

pub returns : goal.returns
returns c =
    let found = subst (λ xs. IsBinarySearchResult (λ y. nat_cmp y c.args.variable) xs c.binary_search.result) c.deref.ensures.value c.binary_search.ensures.position in
    c.ok.ensures.value ∙ index_of-searched c.args.self.now.numbers.items c.args.variable c.binary_search.result c.args.self.now.rising found
