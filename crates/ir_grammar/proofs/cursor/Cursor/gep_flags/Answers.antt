use Rattle.ir_grammar.proofs.Common.{refl, arith, reads, at_start, one_more, no_more, begins-shorter, any, gep_flags, is_gep_flag, next_gep_flag, no_gep_flags}
use Rattle.ir_grammar.proofs.cursor.Cursor.gep_flags.Goals as goal

pub loop-more-init : goal.loop-more-init
unfolding gep_flags
loop-more-init c = at_start is_gep_flag next_gep_flag (λ flags. any) (λ flags more ts. reads more ts) no_gep_flags c.args.self.now

pub loop-more-smaller : goal.loop-more-smaller
loop-more-smaller c = begins-shorter is_gep_flag next_gep_flag (λ flags. any) (λ flags more ts. reads more ts) c.loop-more.flags c.loop-more.self c.in-Some.more c.gep_flag.new.self c.in-Some.ensures

pub loop-more-preserved : goal.loop-more-preserved
loop-more-preserved c = one_more is_gep_flag next_gep_flag (λ flags. any) (λ flags more ts. reads more ts) c.loop-more.flags c.in-Some.more c.loop-more.self c.gep_flag.new.self c.gep_flag.new.self c.in-Some.more _ c.in-Some.ensures refl (omega arith) c.loop-more.invariant

pub returns : goal.returns
returns c = no_more is_gep_flag next_gep_flag (λ flags. any) (λ flags more ts. reads more ts) c.loop-more.flags c.loop-more.self c.gep_flag.new.self _ c.in_default.ensures c.loop-more.invariant
