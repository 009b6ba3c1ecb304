-- The value of an operation fits its width.
use Rattle.term_rules.proofs.Common.{ℕ, ◌<◌, ◌^◌, subst, term_width, width-within}
use Rattle.term_rules.proofs.Stored.{value_fits}
use Rattle.term_rules.proofs.building.apply.Goals as goal

pub store-requires : goal.store-requires
store-requires c =
    let v : ℕ → ℕ → ℕ = λ _ _. 0 in
    let t = c.args.term in
    let fits = value_fits c.args.terms.now t v c.values_fit.ensures c.requires.within c.requires.matched in
    record {
      within = rw c.width-width.ensures (width-within _ t c.requires.within, subst (λ n. n < 2 ^ term_width t) (c.in-Some.ensures v) fits);
      matched = tt;
      operation = tt;
    }
