use Rattle.run_terms.proofs.Common.{◌∙◌, ap, refl, is_poison, keeps_trans}
use Rattle.run_terms.specs.Runs.{sight}
use Rattle.run_terms.proofs.Lasting.{counts-later}
use Rattle.run_terms.proofs.Taking.{choice_taken, number_value}
use Rattle.run_terms.proofs.choices.choose_number.Goals as goal

pub returns-clause-defined : goal.returns-clause-defined
returns-clause-defined c = λ r. ap is_poison (c.in_ok-value.ensures.stands r
    ∙ number_value c.number_among.new.terms c.truth.new.terms c.in_ok-poison.poison c.in_ok-number.number r.v _ c.in_ok-number.ensures.number.within c.truth.ensures.kept c.in_ok-poison.ensures.made refl)

pub returns-clause-takes : goal.returns-clause-takes
returns-clause-takes c = λ g at m sees held h.
    let a = c.number_among.new.terms in
    let b = c.truth.new.terms in
    let d = c.integer_value.new.terms in
    let made = c.in_ok-number.ensures in
    let p = choice_taken c.args.terms.now a c.args.tape.now c.words_up_to-words.result.now c.in_ok-number.number c.in_ok-number.tally.read c.in_ok-number.tally.fits c.args.state.now.tally.read c.args.state.now.tally.fits c.args.taken c.args.width.bits c.args.state.now.words_bound
    c.args.width.at_most_64 c.in_ok-words_bound.ensures.room c.words_up_to-words.ensures made.number made.read made.fits g m sees held h.words_bound h.tally in (
      counts-later a d (keeps_trans a b d c.truth.ensures.kept c.integer_value.ensures.kept) g c.in_ok-number.tally _
          (record { read = record { within = made.read.within; wide = made.read.wide }; fits = record { within = made.fits.within; wide = made.fits.wide } }) p.0,
      c.in_ok-value.ensures.stands (sight g) ∙ number_value a b c.in_ok-poison.poison c.in_ok-number.number g.v _ made.number.within c.truth.ensures.kept c.in_ok-poison.ensures.made p.1,
    )
