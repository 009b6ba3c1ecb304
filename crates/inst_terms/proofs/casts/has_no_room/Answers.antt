use Rattle.inst_terms.proofs.Common.{arith}
use Rattle.inst_terms.proofs.Casting.{room-stands}
use Rattle.inst_terms.proofs.casts.has_no_room.Goals as goal

pub returns-in_ok-never-clause-made : goal.returns-in_ok-never-clause-made
returns-in_ok-never-clause-made c = room-stands c.args.terms.now c.truth.new.terms c.args.a c.in_ok-never.never c.args.from.bits c.args.to.bits (omega arith) c.values_fit.ensures c.requires c.in_ok-never.ensures.made
