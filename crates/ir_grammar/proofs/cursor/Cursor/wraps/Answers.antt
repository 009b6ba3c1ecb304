use Rattle.ir_grammar.proofs.Common.{refl, arith, reads, at_start, one_more, no_more, begins-shorter, any, no_flags, wraps, is_wrap, next_wrap}
use Rattle.ir_grammar.proofs.cursor.Cursor.wraps.Goals as goal

pub loop-more-init : goal.loop-more-init
unfolding wraps
loop-more-init c = at_start is_wrap (next_wrap c.args.ordered) (λ flags. any) (λ flags more ts. reads more ts) no_flags c.args.self.now

pub loop-more-smaller : goal.loop-more-smaller
loop-more-smaller c = begins-shorter is_wrap (next_wrap c.args.ordered) (λ flags. any) (λ flags more ts. reads more ts) c.loop-more.flags c.loop-more.self c.in-Some.more c.wrap.new.self c.in-Some.ensures

pub loop-more-preserved : goal.loop-more-preserved
loop-more-preserved c = one_more is_wrap (next_wrap c.args.ordered) (λ flags. any) (λ flags more ts. reads more ts) c.loop-more.flags c.in-Some.more c.loop-more.self c.wrap.new.self c.wrap.new.self c.in-Some.more _ c.in-Some.ensures refl (omega arith) c.loop-more.invariant

pub returns : goal.returns
returns c = no_more is_wrap (next_wrap c.args.ordered) (λ flags. any) (λ flags more ts. reads more ts) c.loop-more.flags c.loop-more.self c.wrap.new.self _ c.in_default.ensures c.loop-more.invariant
