use Rattle.ir_printer.proofs.Common.{◌≡◌, drop, ◌++◌, ◌∷◌, flat_map, text_of, inst_pieces}
use Rattle.ir_printer.proofs.functions.push_insts.Given as goal

abbrev pub invariant-loop-inst : goal.invariant-loop-inst
invariant-loop-inst l = l.out.items ++ flat_map (λ x. text_of (inst_pieces l.names x)) (drop l.inst-index l.insts) ≡ l.fn.out.items ++ flat_map (λ x. text_of (inst_pieces l.names x)) l.insts
