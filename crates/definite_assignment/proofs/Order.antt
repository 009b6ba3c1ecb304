-- A depth-first search over the blocks.
use Rattle.definite_assignment.proofs.Common.{ℕ, suc, zero, ◌+◌, ◌≡◌, ◌<◌, Bool, true, false, List, [], ◌∷◌, length, get_or, set, subst, arith, ◌++◌, Some, IfSome, All, All-pop, block_of, steps_left}
use Rattle.std.specs.Option.{option_to_list}
use Rattle.definite_assignment.specs.declared.visiting_order.Step.{Step}

-- a block that is entered leaves the steps of the others
pub steps_left-enter : (marks : List Bool) (successors : List (List ℕ)) (block : ℕ) → block < length marks → block < length successors → get_or marks block false ≡ false
    → steps_left (set marks block true) successors + (length (get_or successors block []) + 2) ≡ steps_left marks successors
steps_left-enter [] successors block below below' e = absurd (omega (arith, below))
steps_left-enter (m ∷ marks) [] block below below' e = absurd (omega (arith, below'))
steps_left-enter (false ∷ marks) (nexts ∷ successors) zero below below' e = omega arith
steps_left-enter (true ∷ marks) (nexts ∷ successors) zero below below' e = absurd cc
steps_left-enter (true ∷ marks) (nexts ∷ successors) (suc block) below below' e = steps_left-enter marks successors block (omega (arith, below)) (omega (arith, below')) e
steps_left-enter (false ∷ marks) (nexts ∷ successors) (suc block) below below' e = omega (arith, steps_left-enter marks successors block (omega (arith, below)) (omega (arith, below')) e)

-- the step that is taken from the end, and those that are left
pub next_step : (n : ℕ) (steps left : List Step) (step : Step) {taken : Step} → steps ≡ left ++ option_to_list (Some step) → step ≡ taken → All (λ s. block_of s < n) steps → All (λ s. block_of s < n) left × (block_of taken < n)
next_step n steps left step is same all =
    let both : All (λ s. block_of s < n) left × IfSome (Some step) (λ s. block_of s < n) = All-pop (λ s. block_of s < n) steps left (Some step) is all in
    (both.0, subst (λ s. block_of s < n) same both.1)
