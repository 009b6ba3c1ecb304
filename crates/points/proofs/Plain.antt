-- What a run reads of its tape.
use Rattle.points.proofs.Common.{◌≡◌, inl, inr, ℕ, zero, suc, ◌+◌, ◌-◌, ◌*◌, ◌^◌, ◌%◌, ◌<◌, ◌≤◌, max, Bool, true, false, ◌&&◌, if◌then◌else◌, List, [], ◌∷◌, ◌++◌, length, get_or, drop, replicate, Some, None, Option, refl, sym, ap, subst, ◌∙◌, arith, append_assoc, append-nil, length-append, flat_map, list_any, mod_below, pow_pos, cases_lt, ltb-true, mod-le, mod-eq_of_lt, mul-le-mul_right, pow_mono, length-replicate, IrType, Inst, Binary, Icmp, Cast, Select, Freeze, Alloca, Load, Store, GetElementPtr, Terminator, Block, Function, BlockName, Null, Given, MemoryBlock, Value, Num, Poison, Machine, Bounds, Input, number_of, WordsFit, Ub, Beyond, act, ended, frozen, Choice, next_word, block_number, given_or_null, integer_choice, pointer_choice, choice_of, with_taken, assigned, operand_value, typed_value, typed_operand_value, access_of, allocated, loaded, stored, index_values, returns, is_poison, undef_type, returned_with, breaks_noundef, first_machine, run_of, Exit, Over, To, exit_by, exit_after, exit_insts, exit_of, branch_on, switch_on, entered, Go, jump, go_on, forward, run_turns, word_widths, inst_widths, widths_of, end_widths, block_widths, choice_widths, need_of, widest, widest_choice, plain_form, TapesHavePlainForms}
use Rattle.std.specs.Prelude.{slice_index, slice_get, nat_lt}
use Rattle.std.specs.Option.{option_map}
use Rattle.ir_tree.specs.declared.tree.IrType.TheVariants as type
use Rattle.ir_tree.specs.declared.tree.TypedOperand.{TypedOperand}
use Rattle.ir_tree.specs.declared.tree.Case.{Case}
use Rattle.ir_tree.specs.declared.tree.Terminator.TheVariants as terminator
use Rattle.ir_tree.specs.Flow.{block_of}
use Rattle.byte_block.specs.declared.value.Value.TheVariants as value
use Rattle.memory_access.specs.declared.access_types.Loaded.{Loaded}
use Rattle.memory_access.specs.declared.access_types.Loaded.TheVariants as load
use Rattle.memory_access.specs.declared.access_types.Stored.{Stored}
use Rattle.memory_access.specs.declared.access_types.Stored.TheVariants as store
use Rattle.memory_access.specs.Blocks.{names}
use Rattle.memory_access.specs.Accesses.{load_result, store_result, after_store}
use Rattle.memory_access.specs.Offsets.{gep_result}
use Rattle.points.specs.Table.{value_result, compared, cast_value, selected}
use Rattle.points.proofs.Runs.{exit_taken, entered_taken, run_entered_by, run_of_is}

-- ---- the widest of two lists

pub widest-append : (xs ys : List ℕ) → widest (xs ++ ys) ≡ max (widest xs) (widest ys)
unfolding widest
widest-append [] ys = let low = widest_positive ys in omega (arith, low)
  where
    widest_positive : (ys : List ℕ) → 1 ≤ widest ys
    widest_positive [] = omega arith
    widest_positive (y ∷ ys) = let rest = widest_positive ys in omega (arith, rest)
widest-append (x ∷ xs) ys = let rest = widest-append xs ys in omega (arith, rest)

below_wider : (n a b : ℕ) → a ≤ b → n < 2 ^ a → n < 2 ^ b
below_wider n a b h less = let most : 2 ^ a ≤ 2 ^ b = pow_mono h in omega (arith, most, less)

-- ---- what was taken

-- what was taken from a machine on: at most `count` choices of at most `wide` bits, none above the tape's word
pub record TookUpTo (count wide : ℕ) (tape from to : List ℕ) : Type 0 where
  pub more : List ℕ
  pub is : to ≡ from ++ more
  pub words : length more ≤ count
  pub below : (k : ℕ) → k < length more → get_or more k 0 < 2 ^ wide
  pub no_greater : (k : ℕ) → k < length more → get_or more k 0 ≤ slice_index tape (length from + k)

-- at most one choice for each of these widths
abbrev pub Took : (widths tape from to : List ℕ) → Type 0
Took widths tape from to = TookUpTo (length widths) (widest widths) tape from to

up_to_nothing : (count wide : ℕ) (tape from to : List ℕ) → to ≡ from → TookUpTo count wide tape from to
up_to_nothing count wide tape from to e = record { more = []; is = e ∙ sym (append-nil from); words = omega arith; below = λ k h. absurd (omega arith); no_greater = λ k h. absurd (omega arith) }

took_nothing : (widths tape from to : List ℕ) → to ≡ from → Took widths tape from to
took_nothing widths tape from to e = up_to_nothing (length widths) (widest widths) tape from to e

pub get_front : (xs ys : List ℕ) (k : ℕ) → k < length xs → get_or (xs ++ ys) k 0 ≡ get_or xs k 0
get_front [] ys k h = absurd (omega arith)
get_front (x ∷ xs) ys zero h = refl
get_front (x ∷ xs) ys (suc k) h = get_front xs ys k (omega arith)

get_back : (xs ys : List ℕ) (k : ℕ) → get_or (xs ++ ys) (length xs + k) 0 ≡ get_or ys k 0
get_back [] ys k = let e : 0 + k ≡ k = omega arith in rw e refl
get_back (x ∷ xs) ys k = let e : suc (length xs) + k ≡ suc (length xs + k) = omega arith in rw e (get_back xs ys k)

-- where more might have been taken
pub up_to_more : (count most narrow wide : ℕ) (tape from to : List ℕ) → count ≤ most → narrow ≤ wide → TookUpTo count narrow tape from to → TookUpTo most wide tape from to
up_to_more count most narrow wide tape from to c w t =
    record { more = t.more; is = t.is; words = omega (arith, c, t.words); below = λ k h. below_wider _ narrow wide w (t.below k h); no_greater = t.no_greater }

-- one after another
pub up_to_then : (first second wide : ℕ) (tape from mid to : List ℕ) → TookUpTo first wide tape from mid → TookUpTo second wide tape mid to → TookUpTo (first + second) wide tape from to
up_to_then first second wide tape from mid to t r =
    let len = length-append from t.more in
    let len' : length mid ≡ length from + length t.more = ap length t.is ∙ len in
    record {
      more = t.more ++ r.more;
      is = r.is ∙ ap (λ xs. xs ++ r.more) t.is ∙ append_assoc from t.more r.more;
      words = rw (length-append t.more r.more) (omega (arith, t.words, r.words));
      below = λ k h.
          elim (cases_lt k (length t.more)) as (λ _. get_or (t.more ++ r.more) k 0 < 2 ^ wide) [
            | inl front ↦ rw (get_front t.more r.more k front) (t.below k front)
            | inr back ↦
                let e : k ≡ length t.more + (k - length t.more) = omega arith in
                let g = get_back t.more r.more (k - length t.more) in
                let sum = length-append t.more r.more in
                let f : get_or (t.more ++ r.more) k 0 ≡ get_or r.more (k - length t.more) 0 = ap (λ n. get_or (t.more ++ r.more) n 0) e ∙ g in
                rw f (r.below (k - length t.more) (omega (arith, sum)))
          ];
      no_greater = λ k h.
          elim (cases_lt k (length t.more)) as (λ _. get_or (t.more ++ r.more) k 0 ≤ slice_index tape (length from + k)) [
            | inl front ↦ rw (get_front t.more r.more k front) (t.no_greater k front)
            | inr back ↦
                let e : k ≡ length t.more + (k - length t.more) = omega arith in
                let g = get_back t.more r.more (k - length t.more) in
                let sum = length-append t.more r.more in
                let f : get_or (t.more ++ r.more) k 0 ≡ get_or r.more (k - length t.more) 0 = ap (λ n. get_or (t.more ++ r.more) n 0) e ∙ g in
                let place : length mid + (k - length t.more) ≡ length from + k = omega (arith, len') in
                let most = r.no_greater (k - length t.more) (omega (arith, sum)) in
                let most' = rw place at most in
                rw f most'
          ];
    }

took_then : (ws vs tape from mid to : List ℕ) → Took ws tape from mid → Took vs tape mid to → Took (ws ++ vs) tape from to
took_then ws vs tape from mid to t r =
    let wide = widest-append ws vs in
    let len = length-append ws vs in
    up_to_more (length ws + length vs) (length (ws ++ vs)) (widest (ws ++ vs)) (widest (ws ++ vs)) tape from to (omega (arith, len)) (omega arith)
    (up_to_then (length ws) (length vs) (widest (ws ++ vs)) tape from mid to
    (up_to_more (length ws) (length ws) (widest ws) (widest (ws ++ vs)) tape from mid (omega arith) (omega (arith, wide)) t)
    (up_to_more (length vs) (length vs) (widest vs) (widest (ws ++ vs)) tape mid to (omega arith) (omega (arith, wide)) r))

-- ---- by an instruction

-- two words, one after the other
both_below : (a b bound : ℕ) → a < bound → b < bound → (k : ℕ) → k < 2 → get_or (a ∷ b ∷ []) k 0 < bound
both_below a b bound first second zero h = first
both_below a b bound first second (suc zero) h = second
both_below a b bound first second (suc (suc k)) h = absurd (omega arith)

both_no_greater : (a b from : ℕ) (tape : List ℕ) → a ≤ slice_index tape (from + 0) → b ≤ slice_index tape (from + 1) → (k : ℕ) → k < 2 → get_or (a ∷ b ∷ []) k 0 ≤ slice_index tape (from + k)
both_no_greater a b from tape first second zero h = first
both_no_greater a b from tape first second (suc zero) h = second
both_no_greater a b from tape first second (suc (suc k)) h = absurd (omega arith)

-- a block goes by no greater number than the one that named it
named_no_greater : (memory : List MemoryBlock) (n : ℕ) → block_number (given_or_null memory n) ≤ n
named_no_greater memory n = go (nat_lt 0 n && list_any (names (Given n)) memory)
  where
    go : (found : Bool) → block_number (if found then Given n else Null) ≤ n
    go true = omega arith
    go false = omega arith

choice_took : (type : IrType) (tape : List ℕ) (m : Machine) → Took (word_widths type) tape m.taken (with_taken m (choice_of type tape m)).taken
unfolding widest
choice_took (type.Int width) tape m = record {
  more = next_word tape m 0 % 2 ^ width.bits ∷ [];
  is = refl;
  words = omega arith;
  below = λ k h. let e : k ≡ 0 = omega arith in rw e (below_wider _ width.bits (max width.bits 1) (omega arith) (mod_below _ _ (pow_pos width.bits)));
  no_greater = λ k h. let e : k ≡ 0 = omega arith in rw e (mod-le _ _);
}
choice_took type.Ptr tape m =
    let number = next_word tape m 0 % 65536 in
    let low : number < 65536 = mod_below (next_word tape m 0) 65536 (omega arith) in
    let named : block_number (given_or_null m.memory number) ≤ number = named_no_greater m.memory number in
    let less : number ≤ next_word tape m 0 = mod-le (next_word tape m 0) 65536 in
    record {
      more = block_number (given_or_null m.memory number) ∷ next_word tape m 1 % 2 ^ 64 ∷ [];
      is = refl;
      words = omega arith;
      below = both_below _ _ (2 ^ 64) (omega (arith, named, low)) (mod_below _ _ (pow_pos 64));
      no_greater = both_no_greater _ _ (length m.taken) tape (omega (arith, named, less)) (mod-le _ _);
    }

took_frozen : (tape : List ℕ) (m : Machine) (into : ℕ) (type : IrType) (v : Value) → Took (word_widths type) tape m.taken (frozen tape m into type v).taken
took_frozen tape m into type (Num n) = took_nothing _ tape m.taken m.taken refl
took_frozen tape m into type (value.Ptr p) = took_nothing _ tape m.taken m.taken refl
took_frozen tape m into type Poison = choice_took type tape m

took_none : (tape : List ℕ) (m n m' : Machine) → n.taken ≡ m.taken → Some n ≡ Some m' → Took [] tape m.taken m'.taken
took_none tape m n m' as_was e = let same : n ≡ m' = cc in took_nothing [] tape m.taken m'.taken (rw (← same) as_was)

took_assigned : (tape : List ℕ) (m m' : Machine) (into : ℕ) (v : Option Value) → option_map (assigned m into) v ≡ Some m' → Took [] tape m.taken m'.taken
took_assigned tape m m' into None e = absurd (cc)
took_assigned tape m m' into (Some v) e = took_none tape m (assigned m into v) m' refl e

took_loaded : (tape : List ℕ) (m m' : Machine) (into : ℕ) (result : Loaded) → loaded m into result ≡ Some m' → Took [] tape m.taken m'.taken
took_loaded tape m m' into load.Ub e = absurd (cc)
took_loaded tape m m' into (load.Done v) e = took_none tape m (assigned m into v) m' refl e

took_stored : (tape : List ℕ) (m m' : Machine) (memory : List MemoryBlock) (result : Stored) → stored m memory result ≡ Some m' → Took [] tape m.taken m'.taken
took_stored tape m m' memory store.Ub e = absurd (cc)
took_stored tape m m' memory store.Done e = took_none tape m (record m { memory = memory }) m' refl e

pub act_took : (inst : Inst) (tape : List ℕ) (m m' : Machine) → act inst tape m ≡ Some m' → Took (inst_widths inst) tape m.taken m'.taken
act_took (Binary into op w left right) tape m m' e = took_assigned tape m m' into (value_result op w.bits (operand_value m.registers left) (operand_value m.registers right)) e
act_took (Icmp into predicate same_sign w left right) tape m m' e = took_assigned tape m m' into (Some (compared predicate same_sign w.bits (operand_value m.registers left) (operand_value m.registers right))) e
act_took (Cast into cast from operand to) tape m m' e = took_assigned tape m m' into (Some (cast_value cast from.bits to.bits (operand_value m.registers operand))) e
act_took (Select into condition if_true if_false) tape m m' e =
    took_assigned tape m m' into (Some (selected (operand_value m.registers condition) (typed_operand_value m.registers if_true) (typed_operand_value m.registers if_false))) e
act_took (Freeze into type operand) tape m m' e =
    let v = typed_value type (operand_value m.registers operand) in
    let same : frozen tape m into type v ≡ m' = some_is (frozen tape m into type v) m' e in
    subst (λ (n : Machine). Took (word_widths type) tape m.taken n.taken) same (took_frozen tape m into type v)
  where
    some_is : (n m' : Machine) → Some n ≡ Some m' → n ≡ m'
    some_is n m' e = cc
act_took (Alloca into number type align) tape m m' e = took_none tape m (allocated m into number type align) m' refl e
act_took (Load into type pointer align) tape m m' e = took_loaded tape m m' into (load_result m.memory (operand_value m.registers pointer) (access_of type) align) e
act_took (Store v pointer align) tape m m' e =
    took_stored tape m m' (after_store m.memory (typed_operand_value m.registers v) (access_of v.of_type) (operand_value m.registers pointer) align)
    (store_result m.memory (access_of v.of_type) (operand_value m.registers pointer) align) e
act_took (GetElementPtr into inbounds nuw type base indices) tape m m' e =
    took_assigned tape m m' into (Some (gep_result m.memory (operand_value m.registers base) (index_values m.registers type 0 indices) inbounds nuw)) e

-- ---- by a run

took_as : (ws vs tape from to : List ℕ) → ws ≡ vs → Took ws tape from to → Took vs tape from to
took_as ws vs tape from to e t = rw e at t

returned_took : (o : Option IrType) (r : TypedOperand) (tape : List ℕ) (m : Machine) → Took (widths_of o) tape m.taken (returned_with o r tape m).taken
returned_took None r tape m = took_nothing [] tape m.taken m.taken refl
returned_took (Some type) r tape m = choice_took type tape m

stopped_took : (stops : Bool) (o : Option IrType) (r : TypedOperand) (tape : List ℕ) (m : Machine) → Took (widths_of o) tape m.taken (if stops then ended Ub m else returned_with o r tape m).taken
stopped_took true o r tape m = took_nothing (widths_of o) tape m.taken m.taken refl
stopped_took false o r tape m = returned_took o r tape m

branched_taken : (v : Value) (if_true if_false : ℕ) (m : Machine) → exit_taken (branch_on v if_true if_false m) ≡ m.taken
branched_taken (Num n) if_true if_false m = refl
branched_taken Poison if_true if_false m = refl
branched_taken (value.Ptr p) if_true if_false m = refl

switched_taken : (width : ℕ) (v : Value) (default : ℕ) (cases : List Case) (m : Machine) → exit_taken (switch_on width v default cases m) ≡ m.taken
switched_taken width (Num n) default cases m = refl
switched_taken width Poison default cases m = refl
switched_taken width (value.Ptr p) default cases m = refl

end_took : (no_undef : Bool) (end : Terminator) (tape : List ℕ) (m : Machine) → Took (end_widths end) tape m.taken (exit_taken (exit_by no_undef end tape m))
end_took no_undef (terminator.Return None) tape m = took_nothing [] tape m.taken m.taken refl
end_took no_undef (terminator.Return (Some r)) tape m = stopped_took (no_undef && is_poison (typed_operand_value m.registers r)) (undef_type r.of_type r.operand) r tape m
end_took no_undef (terminator.Branch to) tape m = took_nothing [] tape m.taken m.taken refl
end_took no_undef (terminator.CondBranch condition if_true if_false) tape m = took_nothing [] tape m.taken _ (branched_taken (operand_value m.registers condition) if_true if_false m)
end_took no_undef (terminator.Switch width operand default cases) tape m = took_nothing [] tape m.taken _ (switched_taken width.bits (operand_value m.registers operand) default cases m)
end_took no_undef terminator.Unreachable tape m = took_nothing [] tape m.taken m.taken refl

-- the widths of the choices that instructions, and what ends them, may make
abbrev pub rest_widths : List Inst → Terminator → List ℕ
rest_widths insts end = flat_map inst_widths insts ++ end_widths end

insts_took_option : (no_undef : Bool) (inst : Inst) (insts : List Inst) (end : Terminator) (tape : List ℕ) (m : Machine) (o : Option Machine) → act inst tape m ≡ o → ((m' : Machine) → Took (rest_widths insts end) tape m'.taken (exit_taken (exit_insts no_undef insts end tape m'))) → Took (rest_widths (inst ∷ insts) end) tape m.taken (exit_taken (exit_after o m (exit_insts no_undef insts end tape)))
insts_took_option no_undef inst insts end tape m None e rest = took_nothing _ tape m.taken m.taken refl
insts_took_option no_undef inst insts end tape m (Some m') e rest =
    took_as (inst_widths inst ++ rest_widths insts end) (rest_widths (inst ∷ insts) end) tape m.taken (exit_taken (exit_insts no_undef insts end tape m')) (sym (append_assoc (inst_widths inst) (flat_map inst_widths insts) (end_widths end)))
    (took_then (inst_widths inst) (rest_widths insts end) tape m.taken m'.taken (exit_taken (exit_insts no_undef insts end tape m')) (act_took inst tape m m' e) (rest m'))

pub insts_took : (no_undef : Bool) (insts : List Inst) (end : Terminator) (tape : List ℕ) (m : Machine) → Took (rest_widths insts end) tape m.taken (exit_taken (exit_insts no_undef insts end tape m))
unfolding exit_insts
insts_took no_undef [] end tape m = end_took no_undef end tape m
insts_took no_undef (inst ∷ insts) end tape m = insts_took_option no_undef inst insts end tape m (act inst tape m) refl (λ m'. insts_took no_undef insts end tape m')

-- ---- by the blocks from an index in the function on

-- no more words are read from there to the function's end
abbrev pub words_from : Function → ℕ → ℕ
words_from f at = length (flat_map block_widths (drop at f.blocks))

words_at : (xs : List Block) (at : ℕ) (b : Block) → slice_get xs at ≡ Some b → length (flat_map block_widths (drop at xs)) ≡ length (block_widths b) + length (flat_map block_widths (drop (at + 1) xs))
words_at [] at b e = absurd (cc)
words_at (x ∷ xs) zero b e = let same : x ≡ b = cc in rw same (length-append (block_widths b) (flat_map block_widths xs))
words_at (x ∷ xs) (suc at) b e = let next : suc at + 1 ≡ suc (at + 1) = omega arith in rw next (words_at xs at b e)

words_later : (xs : List Block) (at to : ℕ) → at ≤ to → length (flat_map block_widths (drop to xs)) ≤ length (flat_map block_widths (drop at xs))
words_later [] zero zero h = omega arith
words_later [] zero (suc to) h = omega arith
words_later [] (suc at) to h = words_none (suc at) to
  where
    words_none : (at to : ℕ) → length (flat_map block_widths (drop to [])) ≤ length (flat_map block_widths (drop at []))
    words_none zero zero = omega arith
    words_none zero (suc to) = omega arith
    words_none (suc at) zero = omega arith
    words_none (suc at) (suc to) = omega arith
words_later (x ∷ xs) zero zero h = omega arith
words_later (x ∷ xs) zero (suc to) h =
    let rest = words_later xs zero to (omega arith) in
    let first = length-append (block_widths x) (flat_map block_widths xs) in
    omega (arith, rest, first)
words_later (x ∷ xs) (suc at) zero h = absurd (omega arith)
words_later (x ∷ xs) (suc at) (suc to) h = words_later xs at to (omega arith)

-- a block's choices are no wider than the widest
narrower : (xs : List Block) (at : ℕ) (b : Block) → slice_get xs at ≡ Some b → widest (block_widths b) ≤ widest (flat_map block_widths xs)
narrower [] at b e = absurd (cc)
narrower (x ∷ xs) zero b e = let same : x ≡ b = cc in let wide = widest-append (block_widths b) (flat_map block_widths xs) in rw same (omega (arith, wide))
narrower (x ∷ xs) (suc at) b e = let rest = narrower xs at b e in let wide = widest-append (block_widths x) (flat_map block_widths xs) in omega (arith, rest, wide)

-- a block that is entered takes at most its own choices
block_took : (f : Function) (at : ℕ) (b : Block) (tape : List ℕ) (m : Machine) → slice_get f.blocks at ≡ Some b
    → TookUpTo (length (block_widths b)) (widest_choice f) tape m.taken (exit_taken (exit_insts f.returns_no_undef b.insts b.terminator tape (entered b m)))
block_took f at b tape m e =
    let took = insts_took f.returns_no_undef b.insts b.terminator tape (entered b m) in
    let x = exit_insts f.returns_no_undef b.insts b.terminator tape (entered b m) in
    subst (λ (from : List ℕ). TookUpTo (length (block_widths b)) (widest_choice f) tape from (exit_taken x)) (entered_taken b m)
    (up_to_more (length (block_widths b)) (length (block_widths b)) (widest (block_widths b)) (widest_choice f) tape (entered b m).taken (exit_taken x) (omega arith) (narrower f.blocks at b e) took)

-- all that comes again takes at most `count`
abbrev pub TakesUpTo : ℕ → ℕ → List ℕ → Go → Type 0
TakesUpTo count wide tape go = (at : ℕ) (m : Machine) → TookUpTo count wide tape m.taken (go at m).taken

jump_took : (f : Function) (tape : List ℕ) (onward again : Go) (more at to : ℕ) (m : Machine) (later : Bool) → nat_lt at to ≡ later → ((to : ℕ) (m : Machine) → TookUpTo (words_from f to + more) (widest_choice f) tape m.taken (onward to m).taken) → TakesUpTo more (widest_choice f) tape again
    → TookUpTo (words_from f (at + 1) + more) (widest_choice f) tape m.taken (if later then onward to m else again to (record m { turn = m.turn + 1 })).taken
jump_took f tape onward again more at to m true is on h =
    let less : at < to = ltb-true at to is in
    let fewer = words_later f.blocks (at + 1) to (omega (arith, less)) in
    up_to_more (words_from f to + more) (words_from f (at + 1) + more) (widest_choice f) (widest_choice f) tape m.taken (onward to m).taken (omega (arith, fewer)) (omega arith) (on to m)
jump_took f tape onward again more at to m false is on h =
    up_to_more more (words_from f (at + 1) + more) (widest_choice f) (widest_choice f) tape m.taken (again to (record m { turn = m.turn + 1 })).taken (omega arith) (omega arith) (h to (record m { turn = m.turn + 1 }))

go_on_took : (f : Function) (tape : List ℕ) (onward again : Go) (more at count : ℕ) (from : List ℕ) (x : Exit) → ((to : ℕ) (m : Machine) → TookUpTo (words_from f to + more) (widest_choice f) tape m.taken (onward to m).taken) → TakesUpTo more (widest_choice f) tape again
    → words_from f at ≡ count + words_from f (at + 1) → TookUpTo count (widest_choice f) tape from (exit_taken x) → TookUpTo (words_from f at + more) (widest_choice f) tape from (go_on f x at onward again).taken
go_on_took f tape onward again more at count from (Over run) on h sum took = up_to_more count (words_from f at + more) (widest_choice f) (widest_choice f) tape from run.taken (omega (arith, sum)) (omega arith) took
go_on_took f tape onward again more at count from (To label m) on h sum took =
    up_to_more (count + (words_from f (at + 1) + more)) (words_from f at + more) (widest_choice f) (widest_choice f) tape from (jump at (block_of f label) m onward again).taken (omega (arith, sum)) (omega arith)
    (up_to_then count (words_from f (at + 1) + more) (widest_choice f) tape from m.taken (jump at (block_of f label) m onward again).taken took (jump_took f tape onward again more at (block_of f label) m (nat_lt at (block_of f label)) refl on h))

left_took : (f : Function) (tape : List ℕ) (onward again : Go) (more at : ℕ) (m : Machine) (o : Option Block) → slice_get f.blocks at ≡ o → ((to : ℕ) (m : Machine) → TookUpTo (words_from f to + more) (widest_choice f) tape m.taken (onward to m).taken) → TakesUpTo more (widest_choice f) tape again
    → TookUpTo (words_from f at + more) (widest_choice f) tape m.taken (go_on f (exit_of f.returns_no_undef o tape m) at onward again).taken
left_took f tape onward again more at m None e on h = up_to_nothing _ (widest_choice f) tape m.taken m.taken refl
left_took f tape onward again more at m (Some b) e on h =
    go_on_took f tape onward again more at (length (block_widths b)) m.taken (exit_insts f.returns_no_undef b.insts b.terminator tape (entered b m)) on h (words_at f.blocks at b e) (block_took f at b tape m e)

pub forward_took : (f : Function) (tape : List ℕ) (again : Go) (more : ℕ) → TakesUpTo more (widest_choice f) tape again → (left at : ℕ) (m : Machine) → TookUpTo (words_from f at + more) (widest_choice f) tape m.taken (forward f tape again left at m).taken
unfolding forward
forward_took f tape again more h zero at m = up_to_nothing _ (widest_choice f) tape m.taken m.taken refl
forward_took f tape again more h (suc left) at m = left_took f tape (forward f tape again left) again more at m (slice_get f.blocks at) refl (λ to m'. forward_took f tape again more h left to m') h

pub turns_took : (f : Function) (tape : List ℕ) (turns : ℕ) → TakesUpTo (need_of turns f) (widest_choice f) tape (run_turns f tape turns)
unfolding run_turns
turns_took f tape zero at m =
    let fewer = words_later f.blocks 0 at (omega arith) in
    let took = forward_took f tape (λ at m. ended Beyond m) 0 (λ at m. up_to_nothing 0 (widest_choice f) tape m.taken m.taken refl) (length f.blocks) at m in
    up_to_more (words_from f at + 0) (need_of 0 f) (widest_choice f) (widest_choice f) tape m.taken _ (omega (arith, fewer)) (omega arith) took
turns_took f tape (suc turns) at m =
    let fewer = words_later f.blocks 0 at (omega arith) in
    let took = forward_took f tape (run_turns f tape turns) (need_of turns f) (turns_took f tape turns) (length f.blocks) at m in
    let once : need_of (suc turns) f ≡ length (choice_widths f) + need_of turns f = one_more turns (length (choice_widths f)) in
    up_to_more (words_from f at + need_of turns f) (need_of (suc turns) f) (widest_choice f) (widest_choice f) tape m.taken _ (omega (arith, fewer, once)) (omega arith) took
  where
    one_more : (turns n : ℕ) → (suc turns + 1) * n ≡ n + (turns + 1) * n
    one_more turns n = omega arith

entered_took : (broken : Bool) (f : Function) (bounds : Bounds) (tape : List ℕ) (m : Machine) → TookUpTo (need_of bounds.turns f) (widest_choice f) tape m.taken (run_entered_by broken f bounds tape m).taken
entered_took true f bounds tape m = up_to_nothing _ (widest_choice f) tape m.taken m.taken refl
entered_took false f bounds tape m = turns_took f tape bounds.turns 0 m

pub run_took : (f : Function) (bounds : Bounds) (input : Input) (tape : List ℕ) → TookUpTo (need_of bounds.turns f) (widest_choice f) tape [] (run_of f bounds input tape).taken
run_took f bounds input tape = rw (run_of_is f bounds input tape) (entered_took (breaks_noundef f.parameters input.args) f bounds tape (first_machine f input))

-- ---- another tape with the same choices

-- the other tape has these choices from an index on
abbrev pub Agrees : List ℕ → List ℕ → List ℕ → Type 0
Agrees other from taken = (k : ℕ) → length from ≤ k → k < length taken → slice_index other k ≡ slice_index taken k

-- a word after those that were read
word_same : (other from words : List ℕ) (k : ℕ) → k < length words → Agrees other from (from ++ words) → slice_index other (length from + k) ≡ get_or words k 0
word_same other from words k below agree =
    let len = length-append from words in
    agree (length from + k) (omega arith) (omega (arith, len, below)) ∙ get_back from words k

-- a block's number names it again
named_again : (memory : List MemoryBlock) (n : ℕ) → n < 65536 → given_or_null memory (block_number (given_or_null memory n) % 65536) ≡ given_or_null memory n
named_again memory n low = go (nat_lt 0 n && list_any (names (Given n)) memory) refl
  where
    go : (found : Bool) → (nat_lt 0 n && list_any (names (Given n)) memory) ≡ found → given_or_null memory (block_number (if found then Given n else Null) % 65536) ≡ (if found then Given n else Null)
    go true e = rw (mod-eq_of_lt low, e) refl
    go false e = refl

choice_same : (type : IrType) (tape other : List ℕ) (m : Machine) → Agrees other m.taken (with_taken m (choice_of type tape m)).taken → choice_of type other m ≡ choice_of type tape m
choice_same (type.Int width) tape other m agree =
    let n = next_word tape m 0 % 2 ^ width.bits in
    let word = word_same other m.taken (n ∷ []) 0 (omega arith) agree in
    let again : next_word other m 0 % 2 ^ width.bits ≡ n = ap (λ w. w % 2 ^ width.bits) word ∙ mod-eq_of_lt (mod_below (next_word tape m 0) (2 ^ width.bits) (pow_pos width.bits)) in
    ap integer_choice again
choice_same type.Ptr tape other m agree =
    let n = next_word tape m 0 % 65536 in
    let offset = next_word tape m 1 % 2 ^ 64 in
    let words = block_number (given_or_null m.memory n) ∷ offset ∷ [] in
    let first = word_same other m.taken words 0 (omega arith) agree in
    let second = word_same other m.taken words 1 (omega arith) agree in
    let block : given_or_null m.memory (next_word other m 0 % 65536) ≡ given_or_null m.memory n =
    ap (λ w. given_or_null m.memory (w % 65536)) first ∙ named_again m.memory n (mod_below (next_word tape m 0) 65536 (omega arith)) in
    let again : next_word other m 1 % 2 ^ 64 ≡ offset = ap (λ w. w % 2 ^ 64) second ∙ mod-eq_of_lt (mod_below (next_word tape m 1) (2 ^ 64) (pow_pos 64)) in
    ap (λ (b : BlockName). pointer_choice b (next_word other m 1 % 2 ^ 64)) block ∙ ap (λ w. pointer_choice (given_or_null m.memory n) w) again

frozen_same : (tape other : List ℕ) (m : Machine) (into : ℕ) (type : IrType) (v : Value) → Agrees other m.taken (frozen tape m into type v).taken → frozen other m into type v ≡ frozen tape m into type v
frozen_same tape other m into type (Num n) agree = refl
frozen_same tape other m into type (value.Ptr p) agree = refl
frozen_same tape other m into type Poison agree = ap (λ (c : Choice). assigned (with_taken m c) into c.value) (choice_same type tape other m agree)

act_same : (inst : Inst) (tape other : List ℕ) (m : Machine) → ((m' : Machine) → act inst tape m ≡ Some m' → Agrees other m.taken m'.taken) → act inst other m ≡ act inst tape m
act_same (Binary into op w left right) tape other m agree = refl
act_same (Icmp into predicate same_sign w left right) tape other m agree = refl
act_same (Cast into cast from operand to) tape other m agree = refl
act_same (Select into condition if_true if_false) tape other m agree = refl
act_same (Freeze into type operand) tape other m agree =
    let v = typed_value type (operand_value m.registers operand) in
    ap Some (frozen_same tape other m into type v (agree (frozen tape m into type v) refl))
act_same (Alloca into number type align) tape other m agree = refl
act_same (Load into type pointer align) tape other m agree = refl
act_same (Store v pointer align) tape other m agree = refl
act_same (GetElementPtr into inbounds nuw type base indices) tape other m agree = refl

returned_same : (o : Option IrType) (r : TypedOperand) (tape other : List ℕ) (m : Machine) → Agrees other m.taken (returned_with o r tape m).taken → returned_with o r other m ≡ returned_with o r tape m
returned_same None r tape other m agree = refl
returned_same (Some type) r tape other m agree = ap (λ (c : Choice). returns (Some c.value) (with_taken m c)) (choice_same type tape other m agree)

stopped_same : (stops : Bool) (o : Option IrType) (r : TypedOperand) (tape other : List ℕ) (m : Machine) → Agrees other m.taken (if stops then ended Ub m else returned_with o r tape m).taken → (if stops then ended Ub m else returned_with o r other m) ≡ (if stops then ended Ub m else returned_with o r tape m)
stopped_same true o r tape other m agree = refl
stopped_same false o r tape other m agree = returned_same o r tape other m agree

end_same : (no_undef : Bool) (end : Terminator) (tape other : List ℕ) (m : Machine) → Agrees other m.taken (exit_taken (exit_by no_undef end tape m)) → exit_by no_undef end other m ≡ exit_by no_undef end tape m
end_same no_undef (terminator.Return None) tape other m agree = refl
end_same no_undef (terminator.Return (Some r)) tape other m agree = ap Over (stopped_same (no_undef && is_poison (typed_operand_value m.registers r)) (undef_type r.of_type r.operand) r tape other m agree)
end_same no_undef (terminator.Branch to) tape other m agree = refl
end_same no_undef (terminator.CondBranch condition if_true if_false) tape other m agree = refl
end_same no_undef (terminator.Switch width operand default cases) tape other m agree = refl
end_same no_undef terminator.Unreachable tape other m agree = refl

agrees_before : (count wide : ℕ) (other tape from mid taken : List ℕ) → TookUpTo count wide tape mid taken → Agrees other from taken → Agrees other from mid
agrees_before count wide other tape from mid taken took agree k low below =
    let len = ap length took.is ∙ length-append mid took.more in
    let here : slice_index taken k ≡ slice_index mid k = ap (λ xs. slice_index xs k) took.is ∙ get_front mid took.more k below in
    agree k low (omega (arith, len)) ∙ here

-- and from a later index on
agrees_behind : (count wide : ℕ) (other tape from mid taken : List ℕ) → TookUpTo count wide tape from mid → Agrees other from taken → Agrees other mid taken
agrees_behind count wide other tape from mid taken took agree k low below =
    let len = ap length took.is ∙ length-append from took.more in
    agree k (omega (arith, len, low)) below

same_option : (no_undef : Bool) (inst : Inst) (insts : List Inst) (end : Terminator) (tape other : List ℕ) (m : Machine) (o : Option Machine) → act inst tape m ≡ o
    → Agrees other m.taken (exit_taken (exit_after o m (exit_insts no_undef insts end tape)))
    → ((m' : Machine) → Agrees other m'.taken (exit_taken (exit_insts no_undef insts end tape m')) → exit_insts no_undef insts end other m' ≡ exit_insts no_undef insts end tape m')
    → exit_after (act inst other m) m (exit_insts no_undef insts end other) ≡ exit_after o m (exit_insts no_undef insts end tape)
same_option no_undef inst insts end tape other m None e agree rest =
    let same : act inst other m ≡ act inst tape m = act_same inst tape other m (λ m' f. absurd (let g = sym e ∙ f in cc)) in
    rw (same, e) refl
same_option no_undef inst insts end tape other m (Some m') e agree rest =
    let took = insts_took no_undef insts end tape m' in
    let first = act_took inst tape m m' e in
    let len : length m'.taken ≡ length m.taken + length first.more = ap length first.is ∙ length-append m.taken first.more in
    let before = agrees_before (length (rest_widths insts end)) (widest (rest_widths insts end)) other tape m.taken m'.taken (exit_taken (exit_insts no_undef insts end tape m')) took agree in
    let same : act inst other m ≡ act inst tape m =
    act_same inst tape other m (λ n f. let g : m' ≡ n = (let h = sym e ∙ f in cc) in λ k low below. let below' : k < length m'.taken = rw g below in before k low below' ∙ ap (λ (x : Machine). slice_index x.taken k) g) in
    rw (same, e) (rest m' (λ k low below. agree k (omega (arith, len)) below))

insts_same : (no_undef : Bool) (insts : List Inst) (end : Terminator) (tape other : List ℕ) (m : Machine) → Agrees other m.taken (exit_taken (exit_insts no_undef insts end tape m)) → exit_insts no_undef insts end other m ≡ exit_insts no_undef insts end tape m
unfolding exit_insts
insts_same no_undef [] end tape other m agree = end_same no_undef end tape other m agree
insts_same no_undef (inst ∷ insts) end tape other m agree =
    same_option no_undef inst insts end tape other m (act inst tape m) refl agree (λ m' agree'. insts_same no_undef insts end tape other m' agree')

-- ---- the same blocks

-- by another tape that agrees with what is taken from a machine on, the run is the same
abbrev pub AreSame : List ℕ → Go → Go → Type 0
AreSame other go go' = (at : ℕ) (m : Machine) → Agrees other m.taken (go at m).taken → go' at m ≡ go at m

jump_same : (other : List ℕ) (onward again onward' again' : Go) (at to : ℕ) (m : Machine) (later : Bool) → AreSame other onward onward' → AreSame other again again'
    → Agrees other m.taken (if later then onward to m else again to (record m { turn = m.turn + 1 })).taken
    → (if later then onward' to m else again' to (record m { turn = m.turn + 1 })) ≡ (if later then onward to m else again to (record m { turn = m.turn + 1 }))
jump_same other onward again onward' again' at to m true on h agree = on to m agree
jump_same other onward again onward' again' at to m false on h agree = h to (record m { turn = m.turn + 1 }) agree

module _ (f : Function) (tape other : List ℕ) (onward again onward' again' : Go) (more at : ℕ) (on : (to : ℕ) (m : Machine) → TookUpTo (words_from f to + more) (widest_choice f) tape m.taken (onward to m).taken) (h : TakesUpTo more (widest_choice f) tape again) (same_on : AreSame other onward onward') (same_again : AreSame other again again') where
  go_on_same : (b : Block) (m : Machine) (x : Exit) → slice_get f.blocks at ≡ Some b → exit_insts f.returns_no_undef b.insts b.terminator tape (entered b m) ≡ x
      → Agrees other m.taken (go_on f x at onward again).taken
      → go_on f (exit_insts f.returns_no_undef b.insts b.terminator other (entered b m)) at onward' again' ≡ go_on f x at onward again
  go_on_same b m (Over run) e is agree =
      let agree' : Agrees other (entered b m).taken (exit_taken (exit_insts f.returns_no_undef b.insts b.terminator tape (entered b m))) = rw (is, entered_taken b m) agree in
      let same = insts_same f.returns_no_undef b.insts b.terminator tape other (entered b m) agree' in
      rw (same, is) refl
  go_on_same b m (To label m') e is agree =
      let later = jump_took f tape onward again more at (block_of f label) m' (nat_lt at (block_of f label)) refl on h in
      let took = rw is at (block_took f at b tape m e) in
      let before = agrees_before (words_from f (at + 1) + more) (widest_choice f) other tape m.taken m'.taken (jump at (block_of f label) m' onward again).taken later agree in
      let agree' : Agrees other (entered b m).taken (exit_taken (exit_insts f.returns_no_undef b.insts b.terminator tape (entered b m))) = rw (is, entered_taken b m) before in
      let same = insts_same f.returns_no_undef b.insts b.terminator tape other (entered b m) agree' in
      rw (same, is) (jump_same other onward again onward' again' at (block_of f label) m' (nat_lt at (block_of f label)) same_on same_again
      (agrees_behind (length (block_widths b)) (widest_choice f) other tape m.taken m'.taken (jump at (block_of f label) m' onward again).taken took agree))

  left_same : (m : Machine) (o : Option Block) → slice_get f.blocks at ≡ o → Agrees other m.taken (go_on f (exit_of f.returns_no_undef o tape m) at onward again).taken
      → go_on f (exit_of f.returns_no_undef o other m) at onward' again' ≡ go_on f (exit_of f.returns_no_undef o tape m) at onward again
  left_same m None e agree = refl
  left_same m (Some b) e agree = go_on_same b m (exit_insts f.returns_no_undef b.insts b.terminator tape (entered b m)) e refl agree

forward_same : (f : Function) (tape other : List ℕ) (again again' : Go) (more : ℕ) → TakesUpTo more (widest_choice f) tape again → AreSame other again again' → (left : ℕ) → AreSame other (forward f tape again left) (forward f other again' left)
unfolding forward
forward_same f tape other again again' more h same zero at m agree = refl
forward_same f tape other again again' more h same (suc left) at m agree =
    left_same f tape other (forward f tape again left) again (forward f other again' left) again' more at (λ to m'. forward_took f tape again more h left to m') h (forward_same f tape other again again' more h same left) same m (slice_get f.blocks at) refl agree

turns_same : (f : Function) (tape other : List ℕ) (turns : ℕ) → AreSame other (run_turns f tape turns) (run_turns f other turns)
unfolding run_turns
turns_same f tape other zero at m agree =
    forward_same f tape other (λ at m. ended Beyond m) (λ at m. ended Beyond m) 0 (λ at m. up_to_nothing 0 (widest_choice f) tape m.taken m.taken refl) (λ at m a. refl) (length f.blocks) at m agree
turns_same f tape other (suc turns) at m agree =
    forward_same f tape other (run_turns f tape turns) (run_turns f other turns) (need_of turns f) (turns_took f tape turns) (turns_same f tape other turns) (length f.blocks) at m agree

entered_same : (broken : Bool) (f : Function) (bounds : Bounds) (tape other : List ℕ) (m : Machine) → Agrees other m.taken (run_entered_by broken f bounds tape m).taken → run_entered_by broken f bounds other m ≡ run_entered_by broken f bounds tape m
entered_same true f bounds tape other m agree = refl
entered_same false f bounds tape other m agree = turns_same f tape other bounds.turns 0 m agree

-- a tape that agrees with what the run took gives the same run
pub same_run : (f : Function) (bounds : Bounds) (input : Input) (tape other : List ℕ) → ((k : ℕ) → k < length (run_of f bounds input tape).taken → slice_index other k ≡ slice_index (run_of f bounds input tape).taken k) → run_of f bounds input other ≡ run_of f bounds input tape
same_run f bounds input tape other agree =
    let is = run_of_is f bounds input tape in
    let is' = run_of_is f bounds input other in
    let agree' = rw is at agree in
    is' ∙ entered_same (breaks_noundef f.parameters input.args) f bounds tape other (first_machine f input) (λ k low below. agree' k below) ∙ sym is

-- ---- the plain form

get_zeros : (n k : ℕ) → get_or {A = ℕ} (replicate n 0) k 0 ≡ 0
get_zeros zero k = refl
get_zeros (suc n) zero = refl
get_zeros (suc n) (suc k) = get_zeros n k

pub get_past : (xs : List ℕ) (k : ℕ) → length xs ≤ k → get_or xs k 0 ≡ 0
get_past [] k h = refl
get_past (x ∷ xs) zero h = absurd (omega arith)
get_past (x ∷ xs) (suc k) h = get_past xs k (omega arith)

-- the plain form has the choices and zeros
pub plain_form_get : (n : ℕ) (taken : List ℕ) (k : ℕ) → slice_index (plain_form n taken) k ≡ slice_index taken k
plain_form_get n taken k =
    elim (cases_lt k (length taken)) as (λ _. get_or (plain_form n taken) k 0 ≡ get_or taken k 0) [
      | inl front ↦ get_front taken (replicate (n - length taken) 0) k front
      | inr back ↦
          let e : k ≡ length taken + (k - length taken) = omega arith in
          ap (λ j. get_or (plain_form n taken) j 0) e ∙ get_back taken (replicate (n - length taken) 0) (k - length taken) ∙ get_zeros (n - length taken) (k - length taken) ∙ sym (get_past taken k back)
    ]

zeros_fit : (width n : ℕ) → WordsFit width n (replicate n 0)
zeros_fit width zero = tt
zeros_fit width (suc n) = (pow_pos width, zeros_fit width n)

pub plain_form_fits : (width n : ℕ) (taken : List ℕ) → length taken ≤ n → ((k : ℕ) → k < length taken → get_or taken k 0 < 2 ^ width) → WordsFit width n (plain_form n taken)
plain_form_fits width n [] h below = let e : n - 0 ≡ n = omega arith in rw e (zeros_fit width n)
plain_form_fits width zero (t ∷ ts) h below = absurd (omega arith)
plain_form_fits width (suc n) (t ∷ ts) h below =
    let e : suc n - suc (length ts) ≡ n - length ts = omega arith in
    (below 0 (omega arith), (rw e (plain_form_fits width n ts (omega arith) (λ k f. below (suc k) (omega arith)))))

-- index by index no greater, and so as numbers
pub number_of-le : (xs ys : List ℕ) → length xs ≡ length ys → ((k : ℕ) → k < length xs → get_or xs k 0 ≤ get_or ys k 0) → number_of xs ≤ number_of ys
unfolding number_of
number_of-le [] [] e h = omega arith
number_of-le (x ∷ xs) (y ∷ ys) e h =
    let len : length xs ≡ length ys = omega (arith, e) in
    let rest = number_of-le xs ys len (λ k f. h (suc k) (omega arith)) in
    let first : x * (2 ^ 64) ^ length ys ≤ y * (2 ^ 64) ^ length ys = mul-le-mul_right ((2 ^ 64) ^ length ys) (h 0 (omega arith)) in
    rw len (omega (arith, first, rest))
number_of-le [] (y ∷ ys) e h = absurd (omega (arith, e))
number_of-le (x ∷ xs) [] e h = absurd (omega (arith, e))

pub length_plain_form : (n : ℕ) (taken : List ℕ) → length taken ≤ n → length (plain_form n taken) ≡ n
length_plain_form n taken h = length-append taken (replicate (n - length taken) 0) ∙ ap (λ k. length taken + k) (length-replicate (n - length taken) 0) ∙ omega arith

no_greater_at : (need : ℕ) (tape taken more : List ℕ) (k : ℕ) → taken ≡ more → ((k : ℕ) → k < length more → get_or more k 0 ≤ slice_index tape (0 + k)) → get_or (plain_form need taken) k 0 ≤ get_or tape k 0
no_greater_at need tape taken more k e h =
    elim (cases_lt k (length taken)) as (λ _. get_or (plain_form need taken) k 0 ≤ get_or tape k 0) [
      | inl front ↦
          let here = h k (rw (← e) front) in
          let plus : 0 + k ≡ k = omega arith in
          let here' = rw plus at here in
          rw (plain_form_get need taken k, e) here'
      | inr back ↦ rw (plain_form_get need taken k, get_past taken k back) (omega arith)
    ]

pub tapes_have_plain_forms : TapesHavePlainForms
tapes_have_plain_forms = λ f bounds input tape.
    let run = run_of f bounds input tape in
    let need = need_of bounds.turns f in
    let took : TookUpTo need (widest_choice f) tape [] run.taken = run_took f bounds input tape in
    let taken : run.taken ≡ took.more = took.is in
    let len = ap length taken in
    let enough : length run.taken ≤ need = omega (arith, len, took.words) in
    let below : (k : ℕ) → k < length run.taken → get_or run.taken k 0 < 2 ^ widest_choice f = λ k h. rw taken (took.below k (rw (← taken) h)) in
    record {
      enough = enough;
      same = same_run f bounds input tape (plain_form need run.taken) (λ k h. plain_form_get need run.taken k);
      fits = plain_form_fits (widest_choice f) need run.taken enough below;
      plain = λ k. plain_form_get need run.taken k;
      no_greater = λ long. number_of-le (plain_form need run.taken) tape (length_plain_form need run.taken enough ∙ sym long) (λ k h. no_greater_at need tape run.taken took.more k taken took.no_greater);
    }
