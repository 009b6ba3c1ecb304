use Rattle.ir_printer.proofs.Common.{◌≡◌, drop, ◌++◌, ◌∷◌, flat_map, text_of, case_pieces}
use Rattle.ir_printer.proofs.terminators.push_cases.Given as goal

abbrev pub invariant-loop-case : goal.invariant-loop-case
invariant-loop-case l = l.out.items ++ flat_map (λ x. text_of (case_pieces l.names x)) (drop l.case-index l.cases) ≡ l.fn.out.items ++ flat_map (λ x. text_of (case_pieces l.names x)) l.cases
