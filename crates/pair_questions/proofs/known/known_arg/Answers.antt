use Rattle.pair_questions.proofs.Common.{◌∙◌, bit_at, term_at, bit-later}
use Rattle.pair_questions.proofs.Knowing.{pointer_value}
use Rattle.pair_questions.proofs.known.known_arg.Goals as goal

pub returns-in_ok-block-in-Ptr-Ptr-clause-stands : goal.returns-in_ok-block-in-Ptr-Ptr-clause-stands
returns-in_ok-block-in-Ptr-Ptr-clause-stands c = λ layout v fits.
    let first = c.truth-in-Ptr-Ptr.new.terms in
    let new = c.known_pointer.new.terms in
    let flag = c.in_ok-flag-in-Ptr-Ptr in
    let found = c.in_ok-block-in-Ptr-Ptr in
    pointer_value layout c.args.of_type c.args.value c.in-Ptr-Ptr.pointer c.in-Ptr-Ptr.is-0 c.in-Ptr-Ptr.is-1 fits (bit_at v new flag.flag) (term_at v new found.block) (term_at v new found.offset)
    (bit-later first new c.known_pointer.ensures.kept v flag.flag flag.ensures.made.within ∙ flag.ensures.made.says v) (found.ensures.block.says v) (found.ensures.offset.says v)
