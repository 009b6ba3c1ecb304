-- New numbers for clauses, where steps are left out.
use Rattle.std.specs.Prelude.{ℕ, ◌-◌, cond, List, map, nat_lt, slice_index_or}
use Rattle.clause_log.specs.declared.step.Step.{Step}

-- the first `count` clauses keep their numbers, and the steps after them have those of a table
abbrev pub new_number : ℕ → List ℕ → ℕ → ℕ
new_number count numbers number =
    cond (nat_lt count number) (slice_index_or numbers (number - count - 1) 0) number

-- the same clause, of the chain by the new numbers
abbrev pub renumbered_step : ℕ → List ℕ → Step → Step
renumbered_step count numbers s =
    record { chain = map (new_number count numbers) s.chain; clause = s.clause }
