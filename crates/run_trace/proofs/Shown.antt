-- What is shown of an instruction that acted.
use Rattle.run_trace.proofs.Common.{◌≡◌, ℕ, List, drop, length, Bool, true, false, ◌&&◌, ◌||◌, not, if◌then◌else◌, Option, Some, None, inl, inr, refl, sym, ap, ◌∙◌, list_any, Inst, Function, Value, Machine, act, Reason, effective_operands, is_poison_name, name_of, value_after, words_after, Position, Acts, after_inst, is_some_poison, gives_poison, NeedsCause, IsCauseOf, is_failure, needs_reason, HasReason, Shows, position, IsBefore, and_parts, not-true}
use Rattle.std.proofs.Math.Seq.{drop-length}
use Rattle.run_trace.specs.declared.steps.Site.TheVariants as site
use Rattle.run_trace.specs.declared.insts.Before.{Before}

needs_cause : (inst : Inst) (tape : List ℕ) (p : Position)
    → (is_failure (after_inst p (act inst tape p.machine)) || (gives_poison inst tape p.machine && not (list_any (is_poison_name p.machine.registers) (effective_operands inst p.machine.registers)))) ≡ true
    → NeedsCause inst tape p.machine
needs_cause inst tape p = go (act inst tape p.machine) refl
  where
    go : (o : Option Machine) → act inst tape p.machine ≡ o
        → (is_failure (after_inst p o) || (gives_poison inst tape p.machine && not (list_any (is_poison_name p.machine.registers) (effective_operands inst p.machine.registers)))) ≡ true
        → NeedsCause inst tape p.machine
    go None e needs = inl e
    go (Some m) e needs = let both = and_parts _ _ needs in inr (both.0, not-true _ both.1)

reason_if : (f : Function) (inst : Inst) (tape : List ℕ) (p : Position) (cause : Option Reason) → IsCauseOf inst p.machine cause
    → (n : Bool) → needs_reason f tape (Acts inst) p ≡ n → HasReason f tape (Acts inst) p (if n then cause else None)
reason_if f inst tape p None is true e = absurd (is tape (needs_cause inst tape p e))
reason_if f inst tape p (Some r) is true e = (e, is tape (needs_cause inst tape p e))
reason_if f inst tape p cause is false e = e

needs_is : (f : Function) (inst : Inst) (tape : List ℕ) (p : Position) (goes : Bool) (m' : Machine) → act inst tape p.machine ≡ (if goes then Some m' else None)
    → needs_reason f tape (Acts inst) p
    ≡ (not goes || (is_some_poison (value_after (if goes then Some m' else None) (name_of inst)) && not (list_any (is_poison_name p.machine.registers) (effective_operands inst p.machine.registers))))
needs_is f inst tape p true m' e = rw e refl
needs_is f inst tape p false m' e = rw e refl

words_are : (inst : Inst) (tape : List ℕ) (m m' : Machine) (goes : Bool) → act inst tape m ≡ (if goes then Some m' else None) → (goes ≡ false → m' ≡ m)
    → drop (length m.taken) m'.taken ≡ words_after m (act inst tape m)
words_are inst tape m m' true e stays = rw e refl
words_are inst tape m m' false e stays = rw (e, stays refl) (drop-length m.taken)

pub shows_inst : (f : Function) (inst : Inst) (tape : List ℕ) (m m' : Machine) (before : Before) (at k jumps : ℕ) (goes : Bool)
    (result : Option Value) (taken : List ℕ) (reason : Option Reason)
    → IsBefore inst m before → act inst tape m ≡ (if goes then Some m' else None) → (goes ≡ false → m' ≡ m)
    → result ≡ value_after (if goes then Some m' else None) (name_of inst) → taken ≡ drop before.read m'.taken
    → reason ≡ (if (not goes || (is_some_poison result && not before.inherits)) then before.cause else None)
    → Shows f tape (Acts inst) (position at k jumps m)
    (record { block = at; turn = before.turn; site = site.Inst k; operands = before.operands; result = result; taken = taken; to = None; location = before.location; reason = reason })
shows_inst f inst tape m m' before at k jumps goes result taken reason is acts stays is_result is_taken is_reason =
    let p = position at k jumps m in
    let needs : needs_reason f tape (Acts inst) p ≡ (not goes || (is_some_poison result && not before.inherits)) = needs_is f inst tape p goes m' acts ∙ rw (is_result, is.inherits) refl in
    record {
      block = refl;
      turn = is.turn;
      site = refl;
      operands = is.operands;
      result = is_result ∙ ap (λ (o : Option Machine). value_after o (name_of inst)) (sym acts);
      taken = is_taken ∙ ap (λ n. drop n m'.taken) is.read ∙ words_are inst tape m m' goes acts stays;
      to = refl;
      location = is.location;
      reason = rw is_reason (reason_if f inst tape p before.cause is.cause (not goes || (is_some_poison result && not before.inherits)) needs);
    }
