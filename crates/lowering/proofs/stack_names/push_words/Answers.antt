use Rattle.std.proofs.Common.{◌∙◌, rules}
use Rattle.lowering.proofs.NameLemmas.{has_all, has_first, has_more}
use Rattle.lowering.proofs.stack_names.push_words.Goals as goal

pub loop-word-init : goal.loop-word-init
loop-word-init c = has_first c.args.names.now c.args.count c.args.first c.requires.longer

pub loop-word-preserved : goal.loop-word-preserved
loop-word-preserved c =
    has_more _ c.loop-word.names c.number.new.self c.from_vec.result c.args.count c.args.first c.loop-word.word c.loop-word-test.true
    (c.from_vec.ensures ∙ c.in_ok-bytes.ensures.items_if_clones_equal (λ y e. search rules)) c.in_ok-number.ensures.names c.loop-word.invariant

pub returns : goal.returns
returns c = has_all _ c.loop-word.names c.args.count c.args.first c.loop-word.word c.loop-word-test.false c.loop-word.invariant
