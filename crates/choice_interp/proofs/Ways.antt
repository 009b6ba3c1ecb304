-- A run, one block at a time.
use Rattle.choice_interp.proofs.Common.{◌≡◌, inl, inr, ℕ, zero, suc, ◌+◌, ◌<◌, ◌≤◌, List, [], ◌∷◌, length, map, get_or, Option, Some, None, refl, sym, ap, subst, ◌∙◌, arith, slice_get, lt-ltb, le-ltb, Phi, Block, Machine, Run, Exit, To, Over, ended, phi_value, with_phis, assigned, exit_of, Go, jump, go_on, forward, run_turns, Ending, assign_all, left_by, exit_with, IsJump}
use Rattle.std.proofs.lemmas.Option.{slice_get_past, slice_get_read}
use Rattle.ir_tree.specs.declared.tree.Function.{Function}
use Rattle.ir_tree.specs.Flow.{block_of}
use Rattle.points.specs.declared.outcome.Outcome.TheVariants as outcome
use Rattle.choice_interp.specs.declared.ending.Ending.TheVariants as ending
use Rattle.choice_interp.specs.declared.flow.Left.{Left}
use Rattle.choice_interp.specs.declared.flow.Left.TheVariants as left

-- the values of all phis, read before, and given one after another
pub all_phis : (before : Machine) (phis : List Phi) (m : Machine) → assign_all phis (map (phi_value before) phis) m ≡ with_phis before phis m
all_phis before [] m = refl
all_phis before (phi ∷ phis) m = all_phis before phis (assigned m phi.into (phi_value before phi))

-- where a further backward jump leads
abbrev pub again_of : Function → List ℕ → ℕ → Go
again_of f tape zero = λ at m. ended outcome.Beyond m
again_of f tape (suc turns) = run_turns f tape turns

run_turns_is : (f : Function) (tape : List ℕ) (turns at : ℕ) (m : Machine) → run_turns f tape turns at m ≡ forward f tape (again_of f tape turns) (length f.blocks) at m
unfolding run_turns
run_turns_is f tape zero at m = refl
run_turns_is f tape (suc turns) at m = refl

-- from here the run goes on as the whole one does
pub record IsOnTheWay (f : Function) (tape : List ℕ) (jumps at : ℕ) (m : Machine) (whole : Run) : Type 0 where
  pub spare : ℕ
  pub enough : length f.blocks ≤ spare + at
  pub rest : forward f tape (again_of f tape jumps) spare at m ≡ whole

pub way_start : (f : Function) (tape : List ℕ) (turns : ℕ) (m : Machine) → IsOnTheWay f tape turns 0 m (run_turns f tape turns 0 m)
way_start f tape turns m = record { spare = length f.blocks; enough = omega arith; rest = sym (run_turns_is f tape turns 0 m) }

forward_step : (f : Function) (tape : List ℕ) (again : Go) (spare at : ℕ) (m : Machine) → forward f tape again (suc spare) at m ≡ go_on f (exit_of f.returns_no_undef (slice_get f.blocks at) tape m) at (forward f tape again spare) again
unfolding forward
forward_step f tape again spare at m = refl

-- a block was left so, and the run goes on from there
pub record IsLeftSo (f : Function) (tape : List ℕ) (jumps at : ℕ) (x : Exit) (whole : Run) : Type 0 where
  pub spare : ℕ
  pub enough : length f.blocks ≤ suc spare + at
  pub goes : go_on f x at (forward f tape (again_of f tape jumps) spare) (again_of f tape jumps) ≡ whole

pub left_so : (f : Function) (tape : List ℕ) (jumps at : ℕ) (m n : Machine) (b : Block) (l : Left) (whole : Run) → IsOnTheWay f tape jumps at m whole → at < length f.blocks → slice_get f.blocks at ≡ Some b
    → exit_of f.returns_no_undef (Some b) tape m ≡ exit_with l n → IsLeftSo f tape jumps at (exit_with l n) whole
left_so f tape jumps at m n b l whole way below is exit = by_spare way.spare way.enough way.rest
  where
    by_spare : (spare : ℕ) → length f.blocks ≤ spare + at → forward f tape (again_of f tape jumps) spare at m ≡ whole → IsLeftSo f tape jumps at (exit_with l n) whole
    by_spare zero enough rest = absurd (omega arith)
    by_spare (suc spare) enough rest =
        let again = again_of f tape jumps in
        let step = sym (forward_step f tape again spare at m) ∙ rest in
        record {
          spare = spare;
          enough = enough;
          goes = ap (λ (x : Exit). go_on f x at (forward f tape again spare) again) (sym exit) ∙ ap (λ (o : Option Block). go_on f (exit_of f.returns_no_undef o tape m) at (forward f tape again spare) again) (sym is) ∙ step;
        }

-- as the loop has it: the block is the one at its index of the list
pub left_at : (f : Function) (tape : List ℕ) (jumps at : ℕ) (m n : Machine) (xs : List Block) (b : Block) (l k : Left) (whole : Run) → IsOnTheWay f tape jumps at m whole → xs ≡ f.blocks → at < length xs → b ≡ get_or xs at b
    → exit_of f.returns_no_undef (Some b) tape m ≡ exit_with l n → l ≡ k → IsLeftSo f tape jumps at (exit_with k n) whole
left_at f tape jumps at m n xs b l k whole way same below is exit left =
    let there : slice_get f.blocks at ≡ Some b = ap (λ (ys : List Block). slice_get ys at) (sym same) ∙ slice_get_read _ _ _ _ refl below is in
    left_so f tape jumps at m n b k whole way (subst (λ (ys : List Block). at < length ys) same below) there (exit ∙ ap (λ (x : Left). exit_with x n) left)

pub way_over : (f : Function) (tape : List ℕ) (jumps at : ℕ) (n : Machine) (e : Ending) (whole : Run) → IsLeftSo f tape jumps at (exit_with (left.Over e) n) whole → whole ≡ left_by e n
way_over f tape jumps at n e whole so = sym so.goes

pub way_on : (f : Function) (tape : List ℕ) (jumps at label to rest : ℕ) (n p : Machine) (whole : Run) → IsLeftSo f tape jumps at (exit_with (left.To label) n) whole → to ≡ block_of f label → IsJump at to jumps n p (Some rest) → IsOnTheWay f tape rest to p whole
way_on f tape jumps at label to rest n p whole so is (inl onward) =
    let again = again_of f tape jumps in
    let there = ap (λ (k : ℕ). jump at k n (forward f tape again so.spare) again) is ∙ so.goes in
    let goes = rw (lt-ltb at to onward.0) at there in
    rw (onward.1, onward.2) (record { spare = so.spare; enough = (let e = so.enough in let b = onward.0 in omega (arith, e, b)); rest = goes })
way_on f tape jumps at label to rest n p whole so is (inr back) =
    let again = again_of f tape jumps in
    let there = ap (λ (k : ℕ). jump at k n (forward f tape again so.spare) again) is ∙ so.goes in
    let goes = rw (le-ltb at to back.0) at there in
    let less : jumps ≡ suc rest = (let b = back.1 in omega (arith, b)) in
    let goes' = rw less at goes in
    rw back.2 (record { spare = length f.blocks; enough = omega arith; rest = sym (run_turns_is f tape rest to (record n { turn = n.turn + 1 })) ∙ goes' })

pub way_beyond : (f : Function) (tape : List ℕ) (jumps at label to : ℕ) (n p : Machine) (whole : Run) → IsLeftSo f tape jumps at (exit_with (left.To label) n) whole → to ≡ block_of f label → IsJump at to jumps n p None → whole ≡ left_by ending.Beyond p
way_beyond f tape jumps at label to n p whole so is back =
    let again = again_of f tape jumps in
    let there = ap (λ (k : ℕ). jump at k n (forward f tape again so.spare) again) is ∙ so.goes in
    let goes = rw (le-ltb at to back.0) at there in
    let goes' = rw back.1 at goes in
    sym goes' ∙ ap (λ (q : Machine). left_by ending.Beyond q) (sym back.2)

pub way_outside : (f : Function) (tape : List ℕ) (jumps at : ℕ) (m : Machine) (whole : Run) → IsOnTheWay f tape jumps at m whole → length f.blocks ≤ at → whole ≡ left_by ending.Ub m
unfolding forward
way_outside f tape jumps at m whole way past = by_spare way.spare way.rest
  where
    by_spare : (spare : ℕ) → forward f tape (again_of f tape jumps) spare at m ≡ whole → whole ≡ left_by ending.Ub m
    by_spare zero rest = sym rest
    by_spare (suc spare) rest = let none : slice_get f.blocks at ≡ None = slice_get_past f.blocks at past in sym (rw none at rest)
