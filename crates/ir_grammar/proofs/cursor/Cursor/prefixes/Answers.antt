use Rattle.ir_grammar.proofs.Common.{refl, false, arith, reads, at_start, one_more, no_more, begins-shorter, any, prefixes, is_prefix, next_prefix}
use Rattle.ir_grammar.proofs.cursor.Cursor.prefixes.Goals as goal

pub loop-more-init : goal.loop-more-init
unfolding prefixes
loop-more-init c = at_start is_prefix next_prefix (λ s. any) (λ s more ts. reads more ts) false c.args.self.now

pub loop-more-smaller : goal.loop-more-smaller
loop-more-smaller c = begins-shorter is_prefix next_prefix (λ s. any) (λ s more ts. reads more ts) c.loop-more.no_undef c.loop-more.self c.in-Some.more c.prefix.new.self c.in-Some.ensures

pub loop-more-preserved : goal.loop-more-preserved
loop-more-preserved c = one_more is_prefix next_prefix (λ s. any) (λ s more ts. reads more ts) c.loop-more.no_undef c.in-Some.more c.loop-more.self c.prefix.new.self c.prefix.new.self c.in-Some.more _ c.in-Some.ensures refl (omega arith) c.loop-more.invariant

pub returns : goal.returns
returns c = no_more is_prefix next_prefix (λ s. any) (λ s more ts. reads more ts) c.loop-more.no_undef c.loop-more.self c.prefix.new.self _ c.in_default.ensures c.loop-more.invariant
