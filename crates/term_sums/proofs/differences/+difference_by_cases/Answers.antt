use Rattle.std.proofs.Common.{rules}
use Rattle.term_sums.proofs.Common.{◌≡◌, ◌<◌, ◌%◌, ◌^◌, ap, ◌∙◌, sym, subst, mod-lt, term_at, tree_in, width_of}
use Rattle.std.proofs.lemmas.Nat.{pow_pos}
use Rattle.term_sums.specs.Polynomials.{AreTrue, sum_value}
use Rattle.term_sums.proofs.AmountRules.{difference_known}
use Rattle.term_sums.proofs.DifferenceRules.{by_both}
use Rattle.term_sums.proofs.differences.+difference_by_cases.Goals as goal

pub returns-in-Some : goal.returns-in-Some
returns-in-Some t c =
    let w = width_of (tree_in c.args.terms.now c.args.a) in
    let terms = c.args.terms.now in
    let cut : c.cut.result ≡ c.in-Some.by % 2 ^ w = c.cut.ensures ∙ ap (λ n. c.in-Some.by % 2 ^ n) c.width-width.ensures.width in
    let same : c.as_slice.result.now ≡ c.in_ok-sum.sum.items = search rules in
    record {
      fits = subst (λ k. k < 2 ^ w) (sym cut) (mod-lt c.in-Some.by (pow_pos w));
      says = λ v hold.
          let a = term_at v terms c.args.a in
          let b = term_at v terms c.args.b in
          let la : a < 2 ^ w = search rules in
          let lb : b < 2 ^ w = search rules in
          let known : sum_value v terms w c.in_ok-sum.sum.items ≡ c.in-Some.by = ap (sum_value v terms w) (sym same) ∙ c.in-Some.ensures v terms w in
          difference_known w a b c.cut.result la lb (cut ∙ (ap (λ k. k % 2 ^ w) (sym known) ∙ c.in_ok-sum.ensures v hold));
    }

pub returns-then-first-second : goal.returns-then-first-second
returns-then-first-second t c = by_both c.args.terms.now c.args.facts.now c.as_slice-3.result.now c.as_slice-4.result.now c.args.a c.args.b c.in_ok-condition.condition
    c.in_ok-first.first c.in_ok-second.second (let same : c.in_ok-first.first ≡ c.in_ok-second.second = search rules in same)
    (λ v hold e. let all : AreTrue v c.args.terms.now c.as_slice-3.result.now = search rules in all)
    (λ v hold e. let all : AreTrue v c.args.terms.now c.as_slice-4.result.now = search rules in all)
    c.in_ok-first.ensures c.in_ok-second.ensures
