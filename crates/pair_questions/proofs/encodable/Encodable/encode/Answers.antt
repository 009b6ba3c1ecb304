use Rattle.pair_questions.proofs.Common.{sym, subst, Run, reading, input_at, words_at, Shows}
use Rattle.pair_questions.proofs.encodable.Encodable.encode.Goals as goal

pub encode-requires-clause-layers : goal.encode-requires-clause-layers
encode-requires-clause-layers c = rw (c.encoded_of-f.ensures, c.requires.encodable.within) c.requires.encodable.copies

pub encode-requires-clause-input : goal.encode-requires-clause-input
encode-requires-clause-input c =
    rw c.encoded_of-f.ensures (c.requires.encodable.stands_in.inputs c.args.layout.now c.args.terms.now c.args.input.now c.requires.input)

pub returns-clause-stands : goal.returns-clause-stands
returns-clause-stands c =
    let old = c.args.terms.now in
    let blocks = c.args.layout.now.blocks in
    let words = c.args.tape.now.words in
    λ v. subst (λ (run : Run). Shows (reading blocks v) c.encode.new.terms (words_at v old words) run c.in_ok-outcome.outcome)
    (c.requires.encodable.stands_in.runs c.args.bounds.now (input_at (reading blocks v) old c.args.input.now) (words_at v old words))
    (rw c.encoded_of-f.ensures at (c.in_ok-outcome.ensures.stands c.args.bounds.now v (sym c.requires.encodable.within)))
