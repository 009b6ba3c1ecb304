-- A function that the reader accepts can be lowered: no register has too many leaves, one that carries undef is no
-- pointer, and the lowered function may be run.
use Rattle.std.proofs.Common.{◌≡◌, ◌+◌, ◌*◌, ◌<◌, ◌≤◌, ℕ, min, Bool, true, false, List, [], ◌∷◌, ◌++◌, map, length, length-append, Option, Some, None, nat_lt, inl, inr, ◌⊎◌, ◌||◌, refl, sym, subst, ◌∙◌, ap, arith, sum_by, All, get_or}
use Rattle.std.specs.Prelude.{if◌then◌else◌}
use Rattle.std.specs.List.{AllByRecursion, Contains, flat_map, list_any}
use Rattle.std.proofs.lemmas.Bool.{cases_Bool, cases_lt}
use Rattle.std.proofs.lemmas.List.Concat.{flat_map-cons}
use Rattle.std.proofs.lemmas.List.Elements.{All-map}
use Rattle.std.proofs.lemmas.List.Sums.{sum_by-cons}
use Rattle.ir_tree.specs.declared.tree.IrType.{IrType}
use Rattle.ir_tree.specs.declared.tree.IrType.TheVariants as type
use Rattle.ir_tree.specs.declared.tree.Operand.{Operand}
use Rattle.ir_tree.specs.declared.tree.Operand.TheVariants.{Local, Number, Null, Poison, Undef}
use Rattle.ir_tree.specs.declared.tree.Inst.{Inst}
use Rattle.ir_tree.specs.declared.tree.Inst.TheVariants.{Binary, Icmp, Cast, Select, Freeze, Alloca, Load, Store, GetElementPtr}
use Rattle.ir_tree.specs.declared.tree.Terminator.{Terminator}
use Rattle.ir_tree.specs.declared.tree.Terminator.TheVariants as terminator
use Rattle.ir_tree.specs.declared.tree.Block.{Block}
use Rattle.ir_tree.specs.declared.tree.Function.{Function}
use Rattle.ir_tree.specs.declared.sites.Part.TheVariants as part
use Rattle.ir_tree.specs.declared.sites.Site.TheVariants.{Defines, Uses}
use Rattle.ir_tree.specs.Types.{one_bit}
use Rattle.ir_tree.specs.Sites.{AreNumbered, inst_sites, operand_site, is_same_type}
use Rattle.ir_tree.specs.Carrying.{carried_by, carried_from, carries, carrying_operands, insts_of, is_pointer, leaf_count, makes, refuses_undef}
use Rattle.ir_tree.specs.Limits.{CanRun, FitsReturn, HasSmallNumber, HasSmallNumbers, HasSmallObjects, HasSmallTypes, IsWithinLimits, instructions_of}
use Rattle.ir_tree.specs.WellFormed.{IsWellFormed}
use Rattle.points.specs.Tapes.{block_widths, choice_widths, end_widths, inst_widths, widths_of, word_widths}
use Rattle.points.specs.Run.{undef_type}
use Rattle.std.proofs.lemmas.Bool.Decides.{nat_tests}
use Rattle.ir_tree.proofs.Definers.{all_at}
use Rattle.ir_tree.proofs.Leaves.{counts_agree, found}
use Rattle.ir_tree.proofs.Standing.{inst_site}
use Rattle.undef_uses.specs.Undefs.{FitsUndef, HasIntegerUndefs, UndefsFit, is_undef}
use Rattle.lowering.specs.Laws.{AcceptedCanBeLowered}
use Rattle.lowering.specs.Lowered.{CanBeLowered, HasFewLeaves, computed, insts_at_end, lowered, lowered_block, lowered_end, lowered_inst, maker_of, makes_tree, sampled_insts, sampled_operand, scratch}
use Rattle.lowering.proofs.Makers.{IsMaker, Stands, few_leaves, maker, makes_defines, site_of, all_in_blocks, all_stand}
use Rattle.lowering.proofs.Plain.{block_all, number_plain, small_plain}
use Rattle.lowering.proofs.Returns.{can_run}
use Rattle.lowering.proofs.Words.{MakersFit, operand_words, or_second, or_third, words, words-append, words_one}

does_carry : (n : ℕ) → 0 < n → nat_lt 0 n ≡ true
does_carry n some = grind (arith, nat_tests)

not_zero : (n : ℕ) → nat_lt 0 n ≡ true → 0 < n
not_zero n e = grind (arith, nat_tests)

or_first : (a b : Bool) → a ≡ true → (a || b) ≡ true
or_first true b e = refl
or_first false b e = let never : false ≡ true = e in cc

carries_none : (n : ℕ) → n ≡ 0 → nat_lt 0 n ≡ false
carries_none n e = ap (nat_lt 0) e

module _ (f : Function) (formed : IsWellFormed f) (undefs : UndefsFit f) where
  stands_fits : (i : Inst) → Stands f i → HasIntegerUndefs i
  stands_fits i s = (all_at FitsUndef s.b.insts s.place i (all_at (λ (b : Block). All FitsUndef b.insts) f.blocks s.block s.b undefs s.at) s.here).1

  makers_fit : MakersFit f
  makers_fit name i e = stands_fits i (found (Stands f) (makes name) (insts_of f) (Some i) (all_stand f) e i refl)

  -- ---- what carries undef is no pointer

  none_carried : (name : ℕ) (i : Inst) → maker_of f name ≡ Some i → carrying_operands i ≡ [] → leaf_count f (Local name) ≡ 0
  none_carried name i e none =
      let agree : leaf_count f (Local name) ≡ min 65 (sum_by (leaf_count f) (carried_by (insts_of f) name)) = counts_agree f (Local name) in
      let empty : carried_by (insts_of f) name ≡ [] = ap carried_from e ∙ none in
      agree ∙ ap (λ (os : List Operand). min 65 (sum_by (leaf_count f) os)) empty

  -- an operand of a select between pointers carries nothing
  pointer_operand : (i : Inst) → Stands f i → refuses_undef i ≡ true → (t : IrType) (o : Operand) → Contains (inst_sites i) (operand_site t o) → (is_undef o ≡ true → ⊥) → leaf_count f o ≡ 0
  pointer_operand i s refuses t (Local name) has not' = by (cases_lt 0 (leaf_count f (Local name)))
    where
      by : (0 < leaf_count f (Local name)) ⊎ (leaf_count f (Local name) ≤ 0) → leaf_count f (Local name) ≡ 0
      by (inl some) =
          let at = inst_site f s.block s.b s.place i (Uses t name) s.at s.here has in
          absurd (formed.undef at.0 (inl (record {
            type = t;
            name = name;
            here = at.1;
            carried = does_carry (leaf_count f (Local name)) some;
            part = part.Inst s.block s.place;
            stands = at.2;
            refuses = (s.b, s.at, i, s.here, refuses);
          })))
      by (inr none) = omega (arith, none)
  pointer_operand i s refuses t Undef has not' = absurd (not' refl)
  pointer_operand i s refuses t (Number n) has not' = counts_agree f (Number n)
  pointer_operand i s refuses t Null has not' = counts_agree f Null
  pointer_operand i s refuses t Poison has not' = counts_agree f Poison

  -- a name that carries undef gets an integer
  no_pointer : (name : ℕ) (i : Inst) (is : IsMaker f name i) → 0 < leaf_count f (Local name) → is_pointer (makes_defines i name is.makes).type ≡ false
  no_pointer name (Binary into op width left right) is some = refl
  no_pointer name (Icmp into predicate same_sign width left right) is some = refl
  no_pointer name (Cast into cast from operand to) is some = refl
  no_pointer name (Select into condition if_true if_false) is some = by (cases_Bool (is_pointer if_true.of_type))
    where
      no_undef : is_pointer if_true.of_type ≡ true → (b : Bool) → (list_any is_undef (condition ∷ if_true.operand ∷ if_false.operand ∷ []) ≡ b) → b ≡ true → ⊥
      no_undef pointer b e holds = let fits = (stands_fits (Select into condition if_true if_false) is.stands (e ∙ holds)).0 in let never : true ≡ false = sym pointer ∙ fits in cc

      all_none : is_pointer if_true.of_type ≡ true → leaf_count f (Local name) ≡ 0
      all_none pointer =
          let none = no_undef pointer (list_any is_undef (condition ∷ if_true.operand ∷ if_false.operand ∷ [])) refl in
          let refuses : refuses_undef (Select into condition if_true if_false) ≡ true = ap (λ (b : Bool). b || is_pointer if_false.of_type) pointer in
          let a = pointer_operand (Select into condition if_true if_false) is.stands refuses (type.Int one_bit) condition (2, omega arith, refl) (λ e. none (or_first (is_undef condition) _ e)) in
          let b = pointer_operand (Select into condition if_true if_false) is.stands refuses if_true.of_type if_true.operand (4, omega arith, refl) (λ e. none (or_second (is_undef condition) (is_undef if_true.operand) (is_undef if_false.operand) e)) in
          let c = pointer_operand (Select into condition if_true if_false) is.stands refuses if_false.of_type if_false.operand (6, omega arith, refl) (λ e. none (or_third (is_undef condition) (is_undef if_true.operand) (is_undef if_false.operand) e)) in
          let agree : leaf_count f (Local name) ≡ min 65 (sum_by (leaf_count f) (carried_by (insts_of f) name)) = counts_agree f (Local name) in
          let those : carried_by (insts_of f) name ≡ condition ∷ if_true.operand ∷ if_false.operand ∷ [] = ap carried_from is.found in
          let sum : leaf_count f (Local name) ≡ min 65 (sum_by (leaf_count f) (condition ∷ if_true.operand ∷ if_false.operand ∷ [])) = agree ∙ ap (λ (os : List Operand). min 65 (sum_by (leaf_count f) os)) those in
          omega (arith, sum, a, b, c)

      by : (is_pointer if_true.of_type ≡ true) ⊎ (is_pointer if_true.of_type ≡ false) → is_pointer if_true.of_type ≡ false
      by (inl pointer) = let none = all_none pointer in absurd (omega (arith, some, none))
      by (inr integer) = integer
  no_pointer name (Freeze into t operand) is some = let none = none_carried name (Freeze into t operand) is.found refl in absurd (omega (arith, some, none))
  no_pointer name (Alloca into number t align) is some = let none = none_carried name (Alloca into number t align) is.found refl in absurd (omega (arith, some, none))
  no_pointer name (Load into t pointer align) is some = let none = none_carried name (Load into t pointer align) is.found refl in absurd (omega (arith, some, none))
  no_pointer name (Store value pointer align) is some = let none = none_carried name (Store value pointer align) is.found refl in absurd (omega (arith, some, none))
  no_pointer name (GetElementPtr into inbounds nuw t base indices) is some = let none = none_carried name (GetElementPtr into inbounds nuw t base indices) is.found refl in absurd (omega (arith, some, none))

  -- a pointer that is frozen carries nothing
  pointer_frozen : (into name : ℕ) → Stands f (Freeze into type.Ptr (Local name)) → carries f (Local name) ≡ false
  pointer_frozen into name s = by (cases_lt 0 (leaf_count f (Local name)))
    where
      other : (t : IrType) → is_pointer t ≡ false → is_same_type t type.Ptr ≡ false
      other (type.Int width) e = refl
      other type.Ptr e = let never : true ≡ false = e in cc

      by : (0 < leaf_count f (Local name)) ⊎ (leaf_count f (Local name) ≤ 0) → carries f (Local name) ≡ false
      by (inl some) =
          let m = maker f name some in
          let first = makes_defines m.inst name m.is.makes in
          let defined = site_of f m.inst (Defines (Some first.type) name) m.is.stands first.defines in
          let used = site_of f (Freeze into type.Ptr (Local name)) (Uses type.Ptr name) s (2, omega arith, refl) in
          absurd (formed.types used.n (inr (record {
            type = type.Ptr;
            name = name;
            here = used.here;
            defined = defined.n;
            other = first.type;
            there = defined.here;
            differs = other first.type (no_pointer name m.inst m.is some);
          })))
      by (inr none) = carries_none (leaf_count f (Local name)) (omega (arith, none))

  -- ---- the words of the choices

  few : HasFewLeaves f
  few = few_leaves f formed.undef

  -- of the instructions that compute what is frozen or returned
  sampled_words : (t : IrType) (name : ℕ) → words (computed f 0 t (Local name)) ≤ 64
  sampled_words t name =
      let taken = operand_words f few makers_fit (Local name) 0 t (λ e. let never : false ≡ true = e in cc) in
      let most = few name in
      omega (arith, taken, most)

  -- an instruction that stays makes no more choices than before
  kept_words : (i : Inst) (b : Bool) → inst_widths i ≡ [] → words (let is : List Inst = if b then [] else i ∷ [] in is) ≤ 65
  kept_words i true e = omega arith
  kept_words i false e = let one = words_one i in let none : length (inst_widths i) ≡ 0 = ap (λ (ws : List ℕ). length ws) e in omega (arith, one, none)

  two_words : (t : IrType) → length (word_widths t) ≤ 2
  two_words (type.Int width) = omega arith
  two_words type.Ptr = omega arith

  frozen_after : (into : ℕ) (t : IrType) (o : Operand) (insts : List Inst) → words (insts ++ Freeze into t o ∷ []) ≡ words insts + length (word_widths t)
  frozen_after into t o insts = let both = words-append insts (Freeze into t o ∷ []) in let one = words_one (Freeze into t o) in omega (arith, both, one)

  frozen_words : (into : ℕ) (t : IrType) (o : Operand) → Stands f (Freeze into t o) → words (lowered_inst f (Freeze into t o)) ≤ 65
  frozen_words into t (Local name) s = by (cases_Bool (carries f (Local name)))
    where
      never_pointer : (t : IrType) → Stands f (Freeze into t (Local name)) → carries f (Local name) ≡ true → length (word_widths t) ≤ 1
      never_pointer (type.Int width) s does = omega arith
      never_pointer type.Ptr s does = let never : true ≡ false = sym does ∙ pointer_frozen into name s in cc

      by : (carries f (Local name) ≡ true) ⊎ (carries f (Local name) ≡ false) → words (lowered_inst f (Freeze into t (Local name))) ≤ 65
      by (inl does) =
          let taken = sampled_words t name in
          let one = never_pointer t s does in
          let both = frozen_after into t (Local (scratch f 0)) (computed f 0 t (Local name)) in
          subst (λ (b : Bool). words ((let is : List Inst = if b then computed f 0 t (Local name) else [] in is) ++ Freeze into t (let o : Operand = if b then Local (scratch f 0) else Local name in o) ∷ []) ≤ 65) (sym does) (omega (arith, taken, one, both))
      by (inr not') =
          let two = two_words t in
          let both = frozen_after into t (Local name) [] in
          subst (λ (b : Bool). words ((let is : List Inst = if b then computed f 0 t (Local name) else [] in is) ++ Freeze into t (let o : Operand = if b then Local (scratch f 0) else Local name in o) ∷ []) ≤ 65) (sym not') (omega (arith, two, both))
  frozen_words into t (Number n) s = let two = two_words t in let both = frozen_after into t (Number n) [] in omega (arith, two, both)
  frozen_words into t Null s = let two = two_words t in let both = frozen_after into t Null [] in omega (arith, two, both)
  frozen_words into t Poison s = let two = two_words t in let both = frozen_after into t Poison [] in omega (arith, two, both)
  frozen_words into t Undef s = let two = two_words t in let both = frozen_after into t Undef [] in omega (arith, two, both)

  inst_words : (i : Inst) → Stands f i → words (lowered_inst f i) ≤ 65
  inst_words (Binary into op width left right) s = kept_words (Binary into op width left right) (makes_tree f (Binary into op width left right)) refl
  inst_words (Icmp into predicate same_sign width left right) s = kept_words (Icmp into predicate same_sign width left right) (makes_tree f (Icmp into predicate same_sign width left right)) refl
  inst_words (Cast into cast from o to) s = kept_words (Cast into cast from o to) (makes_tree f (Cast into cast from o to)) refl
  inst_words (Select into condition if_true if_false) s = kept_words (Select into condition if_true if_false) (makes_tree f (Select into condition if_true if_false)) refl
  inst_words (Freeze into t o) s = frozen_words into t o s
  inst_words (Alloca into number t align) s = kept_words (Alloca into number t align) (makes_tree f (Alloca into number t align)) refl
  inst_words (Load into t pointer align) s = kept_words (Load into t pointer align) (makes_tree f (Load into t pointer align)) refl
  inst_words (Store value pointer align) s = kept_words (Store value pointer align) (makes_tree f (Store value pointer align)) refl
  inst_words (GetElementPtr into inbounds nuw t base indices) s = kept_words (GetElementPtr into inbounds nuw t base indices) (makes_tree f (GetElementPtr into inbounds nuw t base indices)) refl

  insts_words : (insts : List Inst) → AllByRecursion (Stands f) insts → words (flat_map (lowered_inst f) insts) ≤ 65 * length insts
  insts_words [] all = omega arith
  insts_words (i ∷ insts) all =
      let first = inst_words i all.0 in
      let rest = insts_words insts all.1 in
      let both = words-append (lowered_inst f i) (flat_map (lowered_inst f) insts) in
      rw (flat_map-cons (lowered_inst f) i insts) (omega (arith, first, rest, both))

  returned_words : (t : IrType) (o : Operand) → words (sampled_insts f t o) + length (widths_of (undef_type t (sampled_operand f o))) ≤ 65
  returned_words t (Local name) = by (cases_Bool (carries f (Local name)))
    where
      by : (carries f (Local name) ≡ true) ⊎ (carries f (Local name) ≡ false) → words (sampled_insts f t (Local name)) + length (widths_of (undef_type t (sampled_operand f (Local name)))) ≤ 65
      by (inl does) =
          let taken = sampled_words t name in
          subst (λ (b : Bool). words (let is : List Inst = if b then computed f 0 t (Local name) else [] in is) + length (widths_of (undef_type t (let o : Operand = if b then Local (scratch f 0) else Local name in o))) ≤ 65) (sym does) (omega (arith, taken))
      by (inr not') =
          subst (λ (b : Bool). words (let is : List Inst = if b then computed f 0 t (Local name) else [] in is) + length (widths_of (undef_type t (let o : Operand = if b then Local (scratch f 0) else Local name in o))) ≤ 65) (sym not') (omega arith)
  returned_words t (Number n) = omega arith
  returned_words t Null = omega arith
  returned_words t Poison = omega arith
  returned_words t Undef = let two = two_words t in omega (arith, two)

  end_words : (end : Terminator) → words (insts_at_end f end) + length (end_widths (lowered_end f end)) ≤ 65
  end_words (terminator.Return None) = omega arith
  end_words (terminator.Return (Some returned)) = returned_words returned.of_type returned.operand
  end_words (terminator.Branch to) = omega arith
  end_words (terminator.CondBranch condition if_true if_false) = omega arith
  end_words (terminator.Switch width operand default cases) = omega arith
  end_words terminator.Unreachable = omega arith

  block_words : (b : Block) → AllByRecursion (Stands f) b.insts → length (block_widths (lowered_block f b)) ≤ 65 * instructions_of b
  block_words b all =
      let insts = insts_words b.insts all in
      let end = end_words b.terminator in
      let within = words-append (flat_map (lowered_inst f) b.insts) (insts_at_end f b.terminator) in
      let both = length-append (flat_map inst_widths (flat_map (lowered_inst f) b.insts ++ insts_at_end f b.terminator)) (end_widths (lowered_end f b.terminator)) in
      omega (arith, insts, end, within, both)

  blocks_words : (blocks : List Block) → AllByRecursion (λ (b : Block). AllByRecursion (Stands f) b.insts) blocks → length (flat_map block_widths (map (lowered_block f) blocks)) ≤ 65 * sum_by instructions_of blocks
  blocks_words [] all = omega arith
  blocks_words (b ∷ blocks) all =
      let first = block_words b all.0 in
      let rest = blocks_words blocks all.1 in
      let both = length-append (block_widths (lowered_block f b)) (flat_map block_widths (map (lowered_block f) blocks)) in
      let sum = sum_by-cons instructions_of b blocks in
      rw (flat_map-cons block_widths (lowered_block f b) (map (lowered_block f) blocks)) (omega (arith, first, rest, both, sum))

  function_words : IsWithinLimits f → length (choice_widths (lowered f)) ≤ 4259840
  function_words limits =
      let all = blocks_words f.blocks (all_in_blocks f) in
      let most = limits.instructions in
      omega (arith, all, most)

  -- ---- the lowered function can be run

  fits_return : (header : Option IrType) (end : Terminator) → FitsReturn header end → FitsReturn header (lowered_end f end)
  fits_return header (terminator.Return None) fits = fits
  fits_return header (terminator.Return (Some returned)) fits = fits
  fits_return header (terminator.Branch to) fits = fits
  fits_return header (terminator.CondBranch condition if_true if_false) fits = fits
  fits_return header (terminator.Switch width operand default cases) fits = fits
  fits_return header terminator.Unreachable fits = fits

  can_run_lowered : CanRun f → CanRun (lowered f)
  can_run_lowered run = record {
    returns = All-map (λ (b : Block). FitsReturn f.returns b.terminator) (lowered_block f) f.blocks (λ k d below. fits_return f.returns (get_or f.blocks k d).terminator (run.returns k d below));
    objects = All-map HasSmallObjects (lowered_block f) f.blocks (λ k d below. block_all f HasSmallTypes small_plain (get_or f.blocks k d) (run.objects k d below));
    numbers = All-map HasSmallNumbers (lowered_block f) f.blocks (λ k d below. block_all f HasSmallNumber number_plain (get_or f.blocks k d) (run.numbers k d below));
  }

  pub can_be_lowered : AreNumbered f → IsWithinLimits f → All HasSmallNumbers f.blocks → CanBeLowered f
  can_be_lowered numbered limits numbers =
      let run = can_run_lowered (can_run f formed limits numbers) in
      record {
        numbered = numbered;
        leaves = few;
        runnable = record { words = function_words limits; objects = run.objects };
        run = run;
      }

pub accepted_can_be_lowered : AcceptedCanBeLowered
accepted_can_be_lowered f numbered formed limits numbers undefs = can_be_lowered f formed undefs numbered limits numbers
