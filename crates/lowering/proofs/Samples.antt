-- What computes an operand leads to a machine that has a sample of its tree.
use Rattle.lowering.proofs.PresentCommon.{◌≡◌, ◌⊎◌, inl, inr, ℕ, ◌+◌, ◌-◌, ◌<◌, ◌≤◌, Bool, true, false, List, [], ◌∷◌, ◌++◌, length, get_or, set, sum_by, Option, Some, refl, sym, ap, ◌∙◌, arith, append_assoc, length-set, get_or-set_same, get_or-set_other, get_or-append-add, set-append_right, cases_Bool, option_map, IrType, Operand, Op, Predicate, Conversion, Inst, Terminator, Function, one_bit, leaf_count, carries, carrying_operands, is_division, Value, Machine, value_result, defined_result, compared, cast_value, selected, operand_value, typed_value, choice_of, with_taken, assigned, frozen, act, exit_after, HasFewLeaves, scratch, placed, above, computed, computed_by, computed_from, Tree, Sample, chosen}
unfoldable use Rattle.lowering.proofs.PresentCommon.{exit_insts, sample}
use Rattle.lowering.proofs.Enough.{computed_none, computed_undef, computed_local, carries_undef}
use Rattle.lowering.proofs.PresentTrees.{IsIn, IsMadeBy, IsBinary, IsIcmp, IsCast, IsSelect, Presents, presents_in, leaves_of, sum-one, sum-two, sum-three, has_leaves, placed-carrying, placed-plain, above-carrying, above-most, above-least, value-more}
use Rattle.ir_tree.specs.declared.tree.IrType.TheVariants as type
use Rattle.ir_tree.specs.declared.tree.Operand.TheVariants as operand
use Rattle.ir_tree.specs.declared.tree.Op.TheVariants as op
use Rattle.ir_tree.specs.declared.tree.Inst.TheVariants as inst
use Rattle.byte_block.specs.declared.value.Value.TheVariants.{Poison}
use Rattle.lowering.specs.Trees as tree

-- a machine with more registers after its own
abbrev pub with_scratch : Machine → List Value → Machine
with_scratch m s = record m { registers = m.registers ++ s }

-- ---- instructions that lead from one machine to another

-- the instructions lead from a machine to another one, whatever follows them
abbrev pub Leads : List ℕ → List Inst → Machine → Machine → Type 0
Leads tape insts m m' = (no_undef : Bool) (more : List Inst) (end : Terminator) → exit_insts no_undef (insts ++ more) end tape m ≡ exit_insts no_undef more end tape m'

pub leads_none : (tape : List ℕ) (m : Machine) → Leads tape [] m m
leads_none tape m = λ no_undef more end. refl

pub leads_one : (tape : List ℕ) (i : Inst) (m m' : Machine) → act i tape m ≡ Some m' → Leads tape (i ∷ []) m m'
unfolding exit_insts
leads_one tape i m m' e = λ no_undef more end. ap (λ (o : Option Machine). exit_after o m (exit_insts no_undef more end tape)) e

pub leads_on : (tape : List ℕ) (insts others : List Inst) (m m' m'' : Machine) → Leads tape insts m m' → Leads tape others m' m'' → Leads tape (insts ++ others) m m''
leads_on tape insts others m m' m'' first second = λ no_undef more end.
    ap (λ (all : List Inst). exit_insts no_undef all end tape m) (append_assoc insts others more) ∙ (first no_undef (others ++ more) end ∙ second no_undef more end)

-- ---- what sampling leaves as it was

pub sample-registers : (t : Tree) (tape : List ℕ) (m : Machine) → (sample t tape m).machine.registers ≡ m.registers
unfolding sample
sample-registers (tree.Known v) tape m = refl
sample-registers (tree.Undef ty) tape m = refl
sample-registers (tree.Binary op bits l r) tape m = sample-registers r tape (sample l tape m).machine ∙ sample-registers l tape m
sample-registers (tree.Icmp predicate same_sign bits l r) tape m = sample-registers r tape (sample l tape m).machine ∙ sample-registers l tape m
sample-registers (tree.Cast cast low high t) tape m = sample-registers t tape m
sample-registers (tree.Select c true_type t false_type e) tape m =
    sample-registers e tape (sample t tape (sample c tape m).machine).machine ∙ (sample-registers t tape (sample c tape m).machine ∙ sample-registers c tape m)

-- ---- registers past the function's own

pub scratch-value : (f : Function) (rs s : List Value) (height : ℕ) → length rs ≡ length f.names → get_or (rs ++ s) (scratch f height) Poison ≡ get_or s height Poison
scratch-value f rs s height long = ap (λ (n : ℕ). get_or (rs ++ s) (n + height) Poison) (sym long) ∙ get_or-append-add rs s height Poison

pub assigned-above : (f : Function) (m : Machine) (s : List Value) (height : ℕ) (v : Value) → length m.registers ≡ length f.names
    → assigned (with_scratch m s) (scratch f height) v ≡ with_scratch m (set s height v)
assigned-above f m s height v long =
    let there : (length f.names + height) - length f.names ≡ height = omega arith in
    ap (λ (rs : List Value). record m { registers = rs })
    (set-append_right m.registers s (length f.names) (scratch f height) v long (omega arith) ∙ ap (λ (k : ℕ). m.registers ++ set s k v) there)

-- what is placed below this height stays
pub kept : (f : Function) (rs a b : List Value) (height : ℕ) (o : Operand) → length rs ≡ length f.names → IsIn f o → ((k : ℕ) → k < above f height o → get_or b k Poison ≡ get_or a k Poison)
    → operand_value (rs ++ b) (placed f height o) ≡ operand_value (rs ++ a) (placed f height o)
kept f rs a b height o long within same = by (cases_Bool (carries f o))
  where
    by : (carries f o ≡ true) ⊎ (carries f o ≡ false) → operand_value (rs ++ b) (placed f height o) ≡ operand_value (rs ++ a) (placed f height o)
    by (inl does) =
        let is = placed-carrying f height o does in
        let up = above-carrying f height o does in
        ap (operand_value (rs ++ b)) is
        ∙ (scratch-value f rs b height long
        ∙ (same height (omega (arith, up))
        ∙ (sym (scratch-value f rs a height long)
        ∙ sym (ap (operand_value (rs ++ a)) is))))
    by (inr not') =
        let is = placed-plain f height o not' in
        ap (operand_value (rs ++ b)) is
        ∙ (value-more f rs b o long within
        ∙ (sym (value-more f rs a o long within)
        ∙ sym (ap (operand_value (rs ++ a)) is)))

-- ---- what computes an operand

-- What computes an operand at a height leads to a machine that has taken the sample's choices, and has its value
-- where the operand is placed; the registers below the height are as before.
pub record Computes (f : Function) (tape : List ℕ) (m : Machine) (rs s : List Value) (height : ℕ) (ty : IrType) (o : Operand) (result : Sample) : Type 0 where
  pub after : List Value
  pub long : length after ≡ length s
  pub leads : Leads tape (computed f height ty o) (with_scratch m s) (with_scratch result.machine after)
  pub value : operand_value (rs ++ after) (placed f height o) ≡ result.value
  pub below : (k : ℕ) → k < height → get_or after k Poison ≡ get_or s k Poison

-- the result is assigned last
finish : (f : Function) (tape : List ℕ) (m m2 : Machine) (rs s a : List Value) (height : ℕ) (ty : IrType) (o : Operand) (v : Value)
    → carries f o ≡ true → m2.registers ≡ rs → length rs ≡ length f.names → length a ≡ length s → height < length s
    → Leads tape (computed f height ty o) (with_scratch m s) (assigned (with_scratch m2 a) (scratch f height) v)
    → ((k : ℕ) → k < height → get_or a k Poison ≡ get_or s k Poison)
    → Computes f tape m rs s height ty o (record { value = v; machine = m2 })
finish f tape m m2 rs s a height ty o v does regs wide long room leads below = record {
  after = set a height v;
  long = length-set a height v ∙ long;
  leads = λ no_undef more end. leads no_undef more end ∙ ap (λ (x : Machine). exit_insts no_undef more end tape x) (assigned-above f m2 a height v (ap length regs ∙ wide));
  value = ap (operand_value (rs ++ set a height v)) (placed-carrying f height o does) ∙ (scratch-value f rs (set a height v) height wide ∙ get_or-set_same a height v Poison (omega (arith, room, long)));
  below = λ k under. get_or-set_other a height k v Poison (λ e. omega (arith, e, under)) ∙ below k under;
}

computes_known : (f : Function) (tape : List ℕ) (m : Machine) (rs s : List Value) (height : ℕ) (ty : IrType) (o : Operand) (v : Value)
    → length rs ≡ length f.names → carries f o ≡ false → IsIn f o → v ≡ operand_value rs o → Computes f tape m rs s height ty o (record { value = v; machine = m })
computes_known f tape m rs s height ty o v wide not' within is = record {
  after = s;
  long = refl;
  leads = λ no_undef more end. ap (λ (insts : List Inst). exit_insts no_undef (insts ++ more) end tape (with_scratch m s)) (computed_none f height ty o not');
  value = ap (operand_value (rs ++ s)) (placed-plain f height o not') ∙ (value-more f rs s o wide within ∙ sym is);
  below = λ k under. refl;
}

frozen_undef : (tape : List ℕ) (m : Machine) (name : ℕ) (ty : IrType) → frozen tape m name ty (typed_value ty Poison) ≡ assigned (with_taken m (choice_of ty tape m)) name (choice_of ty tape m).value
frozen_undef tape m name (type.Int width) = refl
frozen_undef tape m name type.Ptr = refl

pub choice-scratch : (tape : List ℕ) (m : Machine) (s : List Value) (ty : IrType) → choice_of ty tape (with_scratch m s) ≡ choice_of ty tape m
choice-scratch tape m s (type.Int width) = refl
choice-scratch tape m s type.Ptr = refl

computes_undef : (f : Function) (tape : List ℕ) (m : Machine) (rs s : List Value) (height : ℕ) (ty : IrType) → m.registers ≡ rs → length rs ≡ length f.names → height < length s
    → Computes f tape m rs s height ty operand.Undef (chosen ty tape m)
computes_undef f tape m rs s height ty regs wide room =
    finish f tape m (with_taken m (choice_of ty tape m)) rs s s height ty operand.Undef (choice_of ty tape m).value (carries_undef f) regs wide refl room leads (λ k under. refl)
  where
    acts : act (inst.Freeze (scratch f height) ty operand.Undef) tape (with_scratch m s) ≡ Some (assigned (with_scratch (with_taken m (choice_of ty tape m)) s) (scratch f height) (choice_of ty tape m).value)
    acts = ap Some (frozen_undef tape (with_scratch m s) (scratch f height) ty ∙ rw (choice-scratch tape m s ty) refl)

    leads : Leads tape (computed f height ty operand.Undef) (with_scratch m s) (assigned (with_scratch (with_taken m (choice_of ty tape m)) s) (scratch f height) (choice_of ty tape m).value)
    leads = rw (computed_undef f height ty) (leads_one tape (inst.Freeze (scratch f height) ty operand.Undef) (with_scratch m s) _ acts)

-- ---- operations

is_defined : (o : Op) (bits : ℕ) (a b : Value) → is_division o ≡ false → value_result o bits a b ≡ Some (defined_result o bits a b)
is_defined (op.Add flags) bits a b whole = refl
is_defined (op.Sub flags) bits a b whole = refl
is_defined (op.Mul flags) bits a b whole = refl
is_defined (op.UnsignedDiv exact) bits a b whole = absurd (let never : true ≡ false = whole in cc)
is_defined op.UnsignedRem bits a b whole = absurd (let never : true ≡ false = whole in cc)
is_defined (op.SignedDiv exact) bits a b whole = absurd (let never : true ≡ false = whole in cc)
is_defined op.SignedRem bits a b whole = absurd (let never : true ≡ false = whole in cc)
is_defined (op.ShiftLeft flags) bits a b whole = refl
is_defined (op.LogicalShiftRight exact) bits a b whole = refl
is_defined (op.ArithmeticShiftRight exact) bits a b whole = refl
is_defined op.And bits a b whole = refl
is_defined (op.Or disjoint) bits a b whole = refl
is_defined op.Xor bits a b whole = refl

-- what computes a name, by the instruction that makes it
computed_made : (f : Function) → HasFewLeaves f → (height : ℕ) (ty : IrType) (o : Operand) (name : ℕ) (i : Inst) → IsMadeBy f o name i → computed f height ty o ≡ computed_by f (computed f) height i
computed_made f few height ty o name i made =
    ap (computed f height ty) made.is ∙ (computed_local f few height ty name made.carried ∙ ap (computed_from f (computed f) height) made.maker)

-- a name that carries undef has leaves, those of what its maker carries
made_leaves : (f : Function) → HasFewLeaves f → (o : Operand) (name : ℕ) (i : Inst) → IsMadeBy f o name i → (carries f o ≡ true) × (leaf_count f o ≡ sum_by (leaf_count f) (carrying_operands i)) × (0 < leaf_count f o)
made_leaves f few o name i made = rw made.is (made.carried, leaves_of f few name i made.maker, has_leaves f (operand.Local name) made.carried)

-- two operands, one after the other
pub record ComputesTwo (f : Function) (tape : List ℕ) (m : Machine) (rs s : List Value) (height : ℕ) (ty ty' : IrType) (left right : Operand) (l r : Sample) : Type 0 where
  pub after : List Value
  pub long : length after ≡ length s
  pub leads : Leads tape (computed f height ty left ++ computed f (above f height left) ty' right) (with_scratch m s) (with_scratch r.machine after)
  pub left_value : operand_value (rs ++ after) (placed f height left) ≡ l.value
  pub right_value : operand_value (rs ++ after) (placed f (above f height left) right) ≡ r.value
  pub below : (k : ℕ) → k < height → get_or after k Poison ≡ get_or s k Poison

two : (f : Function) (tape : List ℕ) (m : Machine) (rs s : List Value) (height : ℕ) (ty ty' : IrType) (left right : Operand) (l r : Sample)
    → length rs ≡ length f.names → IsIn f left → (first : Computes f tape m rs s height ty left l) → Computes f tape l.machine rs first.after (above f height left) ty' right r
    → ComputesTwo f tape m rs s height ty ty' left right l r
two f tape m rs s height ty ty' left right l r wide within first second = record {
  after = second.after;
  long = second.long ∙ first.long;
  leads = leads_on tape (computed f height ty left) (computed f (above f height left) ty' right) (with_scratch m s) (with_scratch l.machine first.after) (with_scratch r.machine second.after) first.leads second.leads;
  left_value = kept f rs first.after second.after height left wide within second.below ∙ first.value;
  right_value = second.value;
  below = λ k under. let up = above-least f height left in second.below k (omega (arith, under, up)) ∙ first.below k under;
}

-- the instruction after two operands
two_leads : (f : Function) (tape : List ℕ) (m : Machine) (rs s : List Value) (height : ℕ) (ty ty' over : IrType) (left right o : Operand) (l r : Sample) (i : Inst) (m' : Machine)
    → (both : ComputesTwo f tape m rs s height ty ty' left right l r)
    → computed f height over o ≡ (computed f height ty left ++ computed f (above f height left) ty' right) ++ i ∷ []
    → act i tape (with_scratch r.machine both.after) ≡ Some m' → Leads tape (computed f height over o) (with_scratch m s) m'
two_leads f tape m rs s height ty ty' over left right o l r i m' both is acts =
    rw is
    (leads_on tape (computed f height ty left ++ computed f (above f height left) ty' right) (i ∷ []) (with_scratch m s) (with_scratch r.machine both.after) m' both.leads (leads_one tape i (with_scratch r.machine both.after) m' acts))

at_registers : (rs rs' a : List Value) (o : Operand) (v : Value) → rs' ≡ rs → operand_value (rs ++ a) o ≡ v → operand_value (rs' ++ a) o ≡ v
at_registers rs rs' a o v same is = rw same is

computes_binary : (f : Function) → HasFewLeaves f → (tape : List ℕ) (m : Machine) (rs s : List Value) (height : ℕ) (ty : IrType) (o : Operand) (op : Op) (bits : ℕ) (b : IsBinary f o op bits) (l r : Sample)
    → length rs ≡ length f.names → height < length s → carries f o ≡ true → r.machine.registers ≡ rs
    → ComputesTwo f tape m rs s height (type.Int b.width) (type.Int b.width) b.left b.right l r
    → Computes f tape m rs s height ty o (record { value = defined_result op bits l.value r.value; machine = r.machine })
computes_binary f few tape m rs s height ty o op bits b l r wide room does regs both =
    finish f tape m r.machine rs s both.after height ty o _ does regs wide both.long room leads both.below
  where
    i : Inst
    i = inst.Binary (scratch f height) op b.width (placed f height b.left) (placed f (above f height b.left) b.right)

    acts : act i tape (with_scratch r.machine both.after) ≡ Some (assigned (with_scratch r.machine both.after) (scratch f height) (defined_result op bits l.value r.value))
    acts =
        rw (at_registers rs r.machine.registers both.after (placed f height b.left) l.value regs both.left_value, at_registers rs r.machine.registers both.after (placed f (above f height b.left) b.right) r.value regs both.right_value)
        (ap (option_map (assigned (with_scratch r.machine both.after) (scratch f height))) (is_defined op b.width.bits l.value r.value b.whole)
        ∙ ap (λ (n : ℕ). Some (assigned (with_scratch r.machine both.after) (scratch f height) (defined_result op n l.value r.value))) (sym b.wide))

    leads : Leads tape (computed f height ty o) (with_scratch m s) (assigned (with_scratch r.machine both.after) (scratch f height) (defined_result op bits l.value r.value))
    leads = two_leads f tape m rs s height (type.Int b.width) (type.Int b.width) ty b.left b.right o l r i _ both (computed_made f few height ty o b.name (inst.Binary b.into op b.width b.left b.right) b.made) acts

computes_icmp : (f : Function) → HasFewLeaves f → (tape : List ℕ) (m : Machine) (rs s : List Value) (height : ℕ) (ty : IrType) (o : Operand) (predicate : Predicate) (same_sign : Bool) (bits : ℕ) (b : IsIcmp f o predicate same_sign bits) (l r : Sample)
    → length rs ≡ length f.names → height < length s → carries f o ≡ true → r.machine.registers ≡ rs
    → ComputesTwo f tape m rs s height (type.Int b.width) (type.Int b.width) b.left b.right l r
    → Computes f tape m rs s height ty o (record { value = compared predicate same_sign bits l.value r.value; machine = r.machine })
computes_icmp f few tape m rs s height ty o predicate same_sign bits b l r wide room does regs both =
    finish f tape m r.machine rs s both.after height ty o _ does regs wide both.long room leads both.below
  where
    i : Inst
    i = inst.Icmp (scratch f height) predicate same_sign b.width (placed f height b.left) (placed f (above f height b.left) b.right)

    acts : act i tape (with_scratch r.machine both.after) ≡ Some (assigned (with_scratch r.machine both.after) (scratch f height) (compared predicate same_sign bits l.value r.value))
    acts =
        rw (at_registers rs r.machine.registers both.after (placed f height b.left) l.value regs both.left_value, at_registers rs r.machine.registers both.after (placed f (above f height b.left) b.right) r.value regs both.right_value)
        (ap (λ (n : ℕ). Some (assigned (with_scratch r.machine both.after) (scratch f height) (compared predicate same_sign n l.value r.value))) (sym b.wide))

    leads : Leads tape (computed f height ty o) (with_scratch m s) (assigned (with_scratch r.machine both.after) (scratch f height) (compared predicate same_sign bits l.value r.value))
    leads = two_leads f tape m rs s height (type.Int b.width) (type.Int b.width) ty b.left b.right o l r i _ both (computed_made f few height ty o b.name (inst.Icmp b.into predicate same_sign b.width b.left b.right) b.made) acts

computes_cast : (f : Function) → HasFewLeaves f → (tape : List ℕ) (m : Machine) (rs s : List Value) (height : ℕ) (ty : IrType) (o : Operand) (cast : Conversion) (low high : ℕ) (b : IsCast f o cast low high) (x : Sample)
    → length rs ≡ length f.names → height < length s → carries f o ≡ true → x.machine.registers ≡ rs
    → Computes f tape m rs s height (type.Int b.from) b.of x
    → Computes f tape m rs s height ty o (record { value = cast_value cast low high x.value; machine = x.machine })
computes_cast f few tape m rs s height ty o cast low high b x wide room does regs one =
    finish f tape m x.machine rs s one.after height ty o _ does regs wide one.long room leads one.below
  where
    i : Inst
    i = inst.Cast (scratch f height) cast b.from (placed f height b.of) b.to

    acts : act i tape (with_scratch x.machine one.after) ≡ Some (assigned (with_scratch x.machine one.after) (scratch f height) (cast_value cast low high x.value))
    acts =
        rw (at_registers rs x.machine.registers one.after (placed f height b.of) x.value regs one.value)
        (ap (λ (n : ℕ). Some (assigned (with_scratch x.machine one.after) (scratch f height) (cast_value cast n b.to.bits x.value))) (sym b.wide)
        ∙ ap (λ (n : ℕ). Some (assigned (with_scratch x.machine one.after) (scratch f height) (cast_value cast low n x.value))) (sym b.wide_to))

    leads : Leads tape (computed f height ty o) (with_scratch m s) (assigned (with_scratch x.machine one.after) (scratch f height) (cast_value cast low high x.value))
    leads =
        rw (computed_made f few height ty o b.name (inst.Cast b.into cast b.from b.of b.to) b.made)
        (leads_on tape (computed f height (type.Int b.from) b.of) (i ∷ []) (with_scratch m s) (with_scratch x.machine one.after) _ one.leads (leads_one tape i (with_scratch x.machine one.after) _ acts))

computes_select : (f : Function) → HasFewLeaves f → (tape : List ℕ) (m : Machine) (rs s : List Value) (height : ℕ) (ty : IrType) (o : Operand) (true_type false_type : IrType) (b : IsSelect f o true_type false_type) (c t e : Sample)
    → length rs ≡ length f.names → height < length s → carries f o ≡ true → e.machine.registers ≡ rs → IsIn f b.condition → IsIn f b.if_true.operand
    → (both : ComputesTwo f tape m rs s height (type.Int one_bit) b.if_true.of_type b.condition b.if_true.operand c t)
    → Computes f tape t.machine rs both.after (above f (above f height b.condition) b.if_true.operand) b.if_false.of_type b.if_false.operand e
    → Computes f tape m rs s height ty o (record { value = selected c.value (typed_value true_type t.value) (typed_value false_type e.value); machine = e.machine })
computes_select f few tape m rs s height ty o true_type false_type b c t e wide room does regs condition_in true_in both last =
    finish f tape m e.machine rs s last.after height ty o _ does regs wide (last.long ∙ both.long) room leads (λ k under. last.below k (omega (arith, under, up, up')) ∙ both.below k under)
  where
    up : height ≤ above f height b.condition
    up = above-least f height b.condition

    up' : above f height b.condition ≤ above f (above f height b.condition) b.if_true.operand
    up' = above-least f (above f height b.condition) b.if_true.operand

    i : Inst
    i =
        inst.Select (scratch f height) (placed f height b.condition) (record { of_type = b.if_true.of_type; operand = placed f (above f height b.condition) b.if_true.operand })
        (record { of_type = b.if_false.of_type; operand = placed f (above f (above f height b.condition) b.if_true.operand) b.if_false.operand })

    condition_is : operand_value (e.machine.registers ++ last.after) (placed f height b.condition) ≡ c.value
    condition_is =
        at_registers rs e.machine.registers last.after (placed f height b.condition) c.value regs
        (kept f rs both.after last.after height b.condition wide condition_in (λ k under. last.below k (omega (arith, under, up'))) ∙ both.left_value)

    true_is : operand_value (e.machine.registers ++ last.after) (placed f (above f height b.condition) b.if_true.operand) ≡ t.value
    true_is =
        at_registers rs e.machine.registers last.after (placed f (above f height b.condition) b.if_true.operand) t.value regs
        (kept f rs both.after last.after (above f height b.condition) b.if_true.operand wide true_in last.below ∙ both.right_value)

    false_is : operand_value (e.machine.registers ++ last.after) (placed f (above f (above f height b.condition) b.if_true.operand) b.if_false.operand) ≡ e.value
    false_is = at_registers rs e.machine.registers last.after (placed f (above f (above f height b.condition) b.if_true.operand) b.if_false.operand) e.value regs last.value

    acts : act i tape (with_scratch e.machine last.after) ≡ Some (assigned (with_scratch e.machine last.after) (scratch f height) (selected c.value (typed_value true_type t.value) (typed_value false_type e.value)))
    acts =
        rw (condition_is, true_is, false_is)
        (ap (λ (k : IrType). Some (assigned (with_scratch e.machine last.after) (scratch f height) (selected c.value (typed_value k t.value) (typed_value b.if_false.of_type e.value)))) (sym b.true_is)
        ∙ ap (λ (k : IrType). Some (assigned (with_scratch e.machine last.after) (scratch f height) (selected c.value (typed_value true_type t.value) (typed_value k e.value)))) (sym b.false_is))

    leads : Leads tape (computed f height ty o) (with_scratch m s) (assigned (with_scratch e.machine last.after) (scratch f height) (selected c.value (typed_value true_type t.value) (typed_value false_type e.value)))
    leads =
        let first = computed f height (type.Int one_bit) b.condition in
        let then = computed f (above f height b.condition) b.if_true.of_type b.if_true.operand in
        let third = computed f (above f (above f height b.condition) b.if_true.operand) b.if_false.of_type b.if_false.operand in
        rw (computed_made f few height ty o b.name (inst.Select b.into b.condition b.if_true b.if_false) b.made)
        (leads_on tape (first ++ then ++ third) (i ∷ []) (with_scratch m s) (with_scratch e.machine last.after) _
        (leads_on tape (first ++ then) third (with_scratch m s) (with_scratch t.machine both.after) (with_scratch e.machine last.after) both.leads last.leads)
        (leads_one tape i (with_scratch e.machine last.after) _ acts))

-- ---- any operand

-- what computes an operand leads to a sample of the tree that it presents
pub computes : (f : Function) → HasFewLeaves f → (tape : List ℕ) (t : Tree) (m : Machine) (rs s : List Value) (height : ℕ) (ty : IrType) (o : Operand)
    → m.registers ≡ rs → length rs ≡ length f.names → height + leaf_count f o ≤ length s → Presents f rs ty o t → Computes f tape m rs s height ty o (sample t tape m)
unfolding sample
computes f few tape (tree.Known v) m rs s height ty o regs wide room p = computes_known f tape m rs s height ty o v wide p.0 p.1 p.2
computes f few tape (tree.Undef t) m rs s height ty o regs wide room p =
    let some = has_leaves f operand.Undef (carries_undef f) in
    let room' : height + leaf_count f operand.Undef ≤ length s = rw p.0 at room in
    rw (p.0, p.1) (computes_undef f tape m rs s height ty regs wide (omega (arith, some, room')))
computes f few tape (tree.Binary op bits l r) m rs s height ty o regs wide room p =
    let b = p.0 in
    let n = made_leaves f few o b.name (inst.Binary b.into op b.width b.left b.right) b.made in
    let sum = sum-two (leaf_count f) b.left b.right in
    let up = above-most f height b.left in
    let regs' = sample-registers l tape m ∙ regs in
    let first = computes f few tape l m rs s height (type.Int b.width) b.left regs wide (omega (arith, n.1, sum, room)) p.1 in
    let second = computes f few tape r (sample l tape m).machine rs first.after (above f height b.left) (type.Int b.width) b.right regs' wide (omega (arith, n.1, sum, room, up, first.long)) p.2 in
    computes_binary f few tape m rs s height ty o op bits b (sample l tape m) (sample r tape (sample l tape m).machine) wide (omega (arith, n.2, room)) n.0 (sample-registers r tape (sample l tape m).machine ∙ regs')
    (two f tape m rs s height (type.Int b.width) (type.Int b.width) b.left b.right _ _ wide (presents_in f rs (type.Int b.width) b.left l p.1) first second)
computes f few tape (tree.Icmp predicate same_sign bits l r) m rs s height ty o regs wide room p =
    let b = p.0 in
    let n = made_leaves f few o b.name (inst.Icmp b.into predicate same_sign b.width b.left b.right) b.made in
    let sum = sum-two (leaf_count f) b.left b.right in
    let up = above-most f height b.left in
    let regs' = sample-registers l tape m ∙ regs in
    let first = computes f few tape l m rs s height (type.Int b.width) b.left regs wide (omega (arith, n.1, sum, room)) p.1 in
    let second = computes f few tape r (sample l tape m).machine rs first.after (above f height b.left) (type.Int b.width) b.right regs' wide (omega (arith, n.1, sum, room, up, first.long)) p.2 in
    computes_icmp f few tape m rs s height ty o predicate same_sign bits b (sample l tape m) (sample r tape (sample l tape m).machine) wide (omega (arith, n.2, room)) n.0 (sample-registers r tape (sample l tape m).machine ∙ regs')
    (two f tape m rs s height (type.Int b.width) (type.Int b.width) b.left b.right _ _ wide (presents_in f rs (type.Int b.width) b.left l p.1) first second)
computes f few tape (tree.Cast cast low high t) m rs s height ty o regs wide room p =
    let b = p.0 in
    let n = made_leaves f few o b.name (inst.Cast b.into cast b.from b.of b.to) b.made in
    let sum = sum-one (leaf_count f) b.of in
    computes_cast f few tape m rs s height ty o cast low high b (sample t tape m) wide (omega (arith, n.2, room)) n.0 (sample-registers t tape m ∙ regs)
    (computes f few tape t m rs s height (type.Int b.from) b.of regs wide (omega (arith, n.1, sum, room)) p.1)
computes f few tape (tree.Select c true_type t false_type e) m rs s height ty o regs wide room p =
    let b = p.0 in
    let n = made_leaves f few o b.name (inst.Select b.into b.condition b.if_true b.if_false) b.made in
    let sum = sum-three (leaf_count f) b.condition b.if_true.operand b.if_false.operand in
    let up = above-most f height b.condition in
    let up' = above-most f (above f height b.condition) b.if_true.operand in
    let regs' = sample-registers c tape m ∙ regs in
    let regs'' = sample-registers t tape (sample c tape m).machine ∙ regs' in
    let first = computes f few tape c m rs s height (type.Int one_bit) b.condition regs wide (omega (arith, n.1, sum, room)) p.1 in
    let second = computes f few tape t (sample c tape m).machine rs first.after (above f height b.condition) b.if_true.of_type b.if_true.operand regs' wide (omega (arith, n.1, sum, room, up, first.long)) p.2 in
    let both = two f tape m rs s height (type.Int one_bit) b.if_true.of_type b.condition b.if_true.operand _ _ wide (presents_in f rs (type.Int one_bit) b.condition c p.1) first second in
    let third = computes f few tape e (sample t tape (sample c tape m).machine).machine rs both.after (above f (above f height b.condition) b.if_true.operand) b.if_false.of_type b.if_false.operand regs'' wide (omega (arith, n.1, sum, room, up, up', both.long)) p.3 in
    computes_select f few tape m rs s height ty o true_type false_type b (sample c tape m) (sample t tape (sample c tape m).machine) (sample e tape (sample t tape (sample c tape m).machine).machine)
    wide (omega (arith, n.2, room)) n.0 (sample-registers e tape (sample t tape (sample c tape m).machine).machine ∙ regs'')
    (presents_in f rs (type.Int one_bit) b.condition c p.1) (presents_in f rs b.if_true.of_type b.if_true.operand t p.2) both third
