-- What is numbered has small objects, its allocas have small numbers, and undef is an operand only where it may be.
use Rattle.ir_reader.proofs.Common.{◌≡◌, ℕ, zero, suc, ◌+◌, ◌<◌, ◌≤◌, ◌⊎◌, inl, inr, Bool, true, false, List, [], ◌∷◌, length, get_or, refl, sym, ap, subst, arith, nat_le, AllByRecursion, Contains, lt-leb, cases_lt, All-nil, All-cons, Contains-append_left, Contains-append_right, IsAlignment, HasSmallArrays, HasSmallTypes, HasSmallObjects, HasSmallNumber, object_size, with_name, number_of, Name, Inst, Block, Function, Int, Ptr, TypeClash, operand_site, index_sites, indices_sites, inst_sites, Passes, WrittenInst, WrittenAccess, WrittenGep, WrittenBody, so, each_in, value_in, typed_in, binary_in, icmp_in, cast_in, select_in, freeze_in, alloca_in, load_in, store_in, index_in, gep_in, inst_in, phi_in, terminator_in, block_in, then-so, block_with}
use Rattle.std.proofs.Common.{All}
use Rattle.std.specs.Prelude.{Some}
use Rattle.std.proofs.lemmas.Option.{slice_get-get_or}
use Rattle.ir_tree.specs.declared.tree.Inst.TheVariants as inst
use Rattle.ir_tree.specs.declared.tree.GepIndex.{GepIndex}
use Rattle.ir_tree.specs.declared.tree.Operand.{Operand}
use Rattle.ir_tree.specs.declared.tree.TypedOperand.{TypedOperand}
use Rattle.ir_tree.specs.Sites.{is_same_type}
use Rattle.ir_tree.specs.declared.sites.Site.{Site}
use Rattle.ir_tree.specs.declared.sites.Site.TheVariants.{Defines, Written}
use Rattle.ir_tree.proofs.Standing.{inst_site}
use Rattle.ir_words.specs.declared.written.WrittenInst.TheVariants as line
use Rattle.ir_words.specs.declared.written.WrittenAccess.TheVariants as access
use Rattle.undef_uses.specs.Undefs.{FitsUndef, UndefsFit}
use Rattle.ir_reader.proofs.Undefs.{FitsArms, HasWrittenArms, binary-numbered, divides_written, select-integers, select-numbered}

-- ---- what is written

-- an alloca's number, and how large what it makes is
abbrev pub IsSmallAccess : WrittenAccess → Type 0
IsSmallAccess (access.Alloca into number type) = (number < 65536) × (length type.of_type.lengths ≤ 8) × (object_size type.of_type ≤ 64)
IsSmallAccess (access.Load into type from) = Unit {0}
IsSmallAccess (access.Store value to) = Unit {0}

abbrev pub IsSmallGep : WrittenGep → Type 0
IsSmallGep g = (length g.of_type.of_type.lengths ≤ 8) × HasSmallArrays g.of_type.of_type.lengths g.of_type.of_type.element

-- what is known of an instruction that is read
abbrev pub IsReadInst : WrittenInst → Type 0
IsReadInst (line.Binary into op type left right) = divides_written op left right ≡ false
IsReadInst (line.Select into bit condition if_true if_false) = HasWrittenArms condition if_true if_false
IsReadInst (line.Access a align) = IsSmallAccess a × IsAlignment align
IsReadInst (line.GetElementPtr g) = IsSmallGep g
IsReadInst _ = Unit {0}

-- ---- what is made of it

-- the same but for the count of indices, which types bound
abbrev HasSmallParts : Inst → Type 0
HasSmallParts (inst.GetElementPtr into inbounds nuw type base indices) = (length type.lengths ≤ 8) × HasSmallArrays type.lengths type.element
HasSmallParts x = HasSmallTypes x

abbrev IsJudgeableInst : Inst → Type 0
IsJudgeableInst x = HasSmallParts x × HasSmallNumber x × FitsArms x

inst-judgeable : (names : List Name) (i : WrittenInst) (x : Inst) (after : List Name) → inst_in names i ≡ so x after → IsReadInst i → IsJudgeableInst x
unfolding binary_in icmp_in cast_in select_in freeze_in alloca_in load_in store_in gep_in
inst-judgeable names (line.Binary into op type left right) x after e known =
    let L = then-so (value_in (with_name names into.name) left.value) _ x after e in
    let R = then-so (value_in L.mid right.value) _ x after L.later in
    let is : inst.Binary (number_of names into.name) op type.width L.value R.value ≡ x = cc R.later in
    let divides = binary-numbered (number_of names into.name) op type.width (with_name names into.name) L.mid R.mid left right L.value R.value L.first R.first known in
    subst IsJudgeableInst is (tt, tt, (divides, tt))
inst-judgeable names (line.Icmp into predicate same_sign type left right) x after e known =
    let L = then-so (value_in (with_name names into.name) left.value) _ x after e in
    let R = then-so (value_in L.mid right.value) _ x after L.later in
    let is : inst.Icmp (number_of names into.name) predicate same_sign type.width L.value R.value ≡ x = cc R.later in
    subst IsJudgeableInst is (tt, tt, (refl, tt))
inst-judgeable names (line.Cast into cast from value to) x after e known =
    let V = then-so (value_in (with_name names into.name) value.value) _ x after e in
    let is : inst.Cast (number_of names into.name) cast from.width V.value to.width ≡ x = cc V.later in
    subst IsJudgeableInst is (tt, tt, (refl, tt))
inst-judgeable names (line.Select into bit condition if_true if_false) x after e known =
    let C = then-so (value_in (with_name names into.name) condition.value) _ x after e in
    let T = then-so (typed_in C.mid if_true) _ x after C.later in
    let F = then-so (typed_in T.mid if_false) _ x after T.later in
    let is : inst.Select (number_of names into.name) C.value T.value F.value ≡ x = cc F.later in
    let undefs = select-numbered (number_of names into.name) (with_name names into.name) C.mid T.mid F.mid condition if_true if_false C.value T.value F.value C.first T.first F.first known in
    subst IsJudgeableInst is (tt, tt, (refl, undefs))
inst-judgeable names (line.Freeze into value) x after e known =
    let V = then-so (value_in (with_name names into.name) value.operand.value) _ x after e in
    let is : inst.Freeze (number_of names into.name) value.of_type.of_type V.value ≡ x = cc V.later in
    subst IsJudgeableInst is (tt, tt, (refl, tt))
inst-judgeable names (line.Access (access.Alloca into number type) align) x after e known =
    let is : inst.Alloca (number_of names into.name) number type.of_type align ≡ x = cc e in
    subst IsJudgeableInst is ((known.0.1, known.0.2, known.1), known.0.0, (refl, tt))
inst-judgeable names (line.Access (access.Load into type from) align) x after e known =
    let V = then-so (value_in (with_name names into.name) from.operand.value) _ x after e in
    let is : inst.Load (number_of names into.name) type.of_type V.value align ≡ x = cc V.later in
    subst IsJudgeableInst is (known.1, tt, (refl, tt))
inst-judgeable names (line.Access (access.Store value to) align) x after e known =
    let T = then-so (typed_in names value) _ x after e in
    let V = then-so (value_in T.mid to.operand.value) _ x after T.later in
    let is : inst.Store T.value V.value align ≡ x = cc V.later in
    subst IsJudgeableInst is (known.1, tt, (refl, tt))
inst-judgeable names (line.GetElementPtr g) x after e known =
    let V = then-so (value_in (with_name names g.into.name) g.base.operand.value) _ x after e in
    let I = then-so (each_in index_in V.mid g.indices) _ x after V.later in
    let is : inst.GetElementPtr (number_of names g.into.name) g.flags.inbounds g.flags.nuw g.of_type.of_type V.value I.value ≡ x = cc I.later in
    subst IsJudgeableInst is (known, tt, (refl, tt))

insts-judgeable : (items : List WrittenInst) (names : List Name) (bs : List Inst) (after : List Name) → each_in inst_in names items ≡ so bs after → AllByRecursion IsReadInst items → All IsJudgeableInst bs
insts-judgeable [] names bs after e small = let is : [] ≡ bs = cc e in subst (λ (ys : List Inst). All IsJudgeableInst ys) is (All-nil IsJudgeableInst)
insts-judgeable (a ∷ items) names bs after e (first, others) =
    let F = then-so (inst_in names a) _ bs after e in
    let M = then-so (each_in inst_in F.mid items) _ bs after F.later in
    let is : F.value ∷ M.value ≡ bs = cc M.later in
    subst (λ (ys : List Inst). All IsJudgeableInst ys) is (All-cons IsJudgeableInst F.value M.value (inst-judgeable names a F.value F.mid F.first first) (insts-judgeable items F.mid M.value M.mid M.first others))

pub record IsJudgeableBlock (b : Block) : Type 0 where
  pub parts : All HasSmallParts b.insts
  pub numbers : All HasSmallNumber b.insts
  pub undefs : All FitsArms b.insts

judgeable-block : (b : Block) → All IsJudgeableInst b.insts → IsJudgeableBlock b
judgeable-block b all = record {
  parts = λ k d below. let known = all k d below in known.0;
  numbers = λ k d below. let known = all k d below in known.1;
  undefs = λ k d below. let known = all k d below in known.2;
}

pub block-judgeable : (names : List Name) (label : Name) (w : WrittenBody) (x : Block) (after : List Name) → block_in names label w ≡ so x after → AllByRecursion IsReadInst w.insts → IsJudgeableBlock x
unfolding block_in
block-judgeable names label w x after e known =
    let before = with_name names label in
    let P = then-so (each_in phi_in before w.phis) _ x after e in
    let I = then-so (each_in inst_in P.mid w.insts) _ x after P.later in
    let T = then-so (terminator_in I.mid w.terminator) _ x after I.later in
    let is : block_with (number_of names label) P.value I.value T.value ≡ x = cc T.later in
    subst IsJudgeableBlock is (judgeable-block (block_with (number_of names label) P.value I.value T.value) (insts-judgeable w.insts P.mid I.value I.mid I.first known))

-- ---- types bound the indices of a getelementptr

-- the site of each index says whether it goes into an array
index-site : (arrays n k : ℕ) (indices : List GepIndex) → k < length indices → Contains (indices_sites arrays n indices) (Written (nat_le (n + k) arrays))
index-site arrays n k [] below = absurd (omega (arith, below))
index-site arrays n zero (i ∷ indices) below =
    let e : n + 0 ≡ n = omega arith in
    let here : Contains (index_sites (nat_le n arrays) i) (Written (nat_le n arrays)) = Contains-append_right (Written true ∷ operand_site (Int i.width) i.operand ∷ []) (Written (nat_le n arrays) ∷ []) (Written (nat_le n arrays)) (0, omega arith, refl) in
    subst (λ (m : ℕ). Contains (indices_sites arrays n (i ∷ indices)) (Written (nat_le m arrays))) (sym e) (Contains-append_left (index_sites (nat_le n arrays) i) (indices_sites arrays (n + 1) indices) (Written (nat_le n arrays)) here)
index-site arrays n (suc k) (i ∷ indices) below =
    let e : n + suc k ≡ n + 1 + k = omega arith in
    subst (λ (m : ℕ). Contains (indices_sites arrays n (i ∷ indices)) (Written (nat_le m arrays))) (sym e) (Contains-append_right (index_sites (nat_le n arrays) i) (indices_sites arrays (n + 1) indices) (Written (nat_le (n + 1 + k) arrays)) (index-site arrays (n + 1) k indices (omega (arith, below))))

abbrev NoClash : Inst → Type 0
NoClash x = Contains (inst_sites x) (Written false) → ⊥

few-indices : (x : Inst) → NoClash x → HasSmallParts x → HasSmallTypes x
few-indices (inst.Binary into op width left right) clashes small = small
few-indices (inst.Icmp into predicate same_sign width left right) clashes small = small
few-indices (inst.Cast into cast from operand to) clashes small = small
few-indices (inst.Select into condition if_true if_false) clashes small = small
few-indices (inst.Freeze into type operand) clashes small = small
few-indices (inst.Alloca into number type align) clashes small = small
few-indices (inst.Load into type pointer align) clashes small = small
few-indices (inst.Store value pointer align) clashes small = small
few-indices (inst.GetElementPtr into inbounds nuw type base indices) clashes (nested, arrays) = (nested, by (cases_lt 9 (length indices)), arrays)
  where
    by : (9 < length indices) ⊎ (length indices ≤ 9) → length indices ≤ 9
    by (inr few) = few
    by (inl many) =
        let found = index-site (length type.lengths) 0 9 indices many in
        let outside : nat_le (0 + 9) (length type.lengths) ≡ false = lt-leb 9 (length type.lengths) (omega (arith, nested)) in
        let front : List Site = Defines (Some Ptr) into ∷ Written true ∷ Written true ∷ operand_site Ptr base ∷ [] in
        absurd (clashes (Contains-append_right front (indices_sites (length type.lengths) 0 indices) (Written false) (subst (λ (b : Bool). Contains (indices_sites (length type.lengths) 0 indices) (Written b)) outside found)))

-- where the types are right, each instruction's are
no-clash : (f : Function) → Passes TypeClash f → (k : ℕ) (d : Block) → k < length f.blocks → (j : ℕ) (i : Inst) → j < length (get_or f.blocks k d).insts → NoClash (get_or (get_or f.blocks k d).insts j i)
no-clash f types k d below j i inside clash =
    let b : Block = get_or f.blocks k d in
    let S = inst_site f k b j (get_or b.insts j i) (Written false) (slice_get-get_or f.blocks k d below) (slice_get-get_or b.insts j i inside) clash in
    types S.0 (inl S.1)

-- what is small and has right types is within the limits of its objects
pub blocks-small : (f : Function) → Passes TypeClash f → All IsJudgeableBlock f.blocks → All HasSmallObjects f.blocks
blocks-small f types small = λ k d below.
    λ j i inside. few-indices (get_or (get_or f.blocks k d).insts j i) (no-clash f types k d below j i inside) (let all = small k d below in all.parts j i inside)

-- ---- types make both arms of a select with undef integers

same-arms : (into : ℕ) (c : Operand) (t f : TypedOperand) → NoClash (inst.Select into c t f) → is_same_type t.of_type f.of_type ≡ true
same-arms into c t f clashes = go (is_same_type t.of_type f.of_type) refl
  where
    go : (b : Bool) → is_same_type t.of_type f.of_type ≡ b → is_same_type t.of_type f.of_type ≡ true
    go true is = is
    go false is = absurd (clashes (5, omega arith, ap Written is))

fits-undef : (x : Inst) → NoClash x → FitsArms x → FitsUndef x
fits-undef (inst.Binary into op width left right) clashes fits = fits
fits-undef (inst.Icmp into predicate same_sign width left right) clashes fits = fits
fits-undef (inst.Cast into cast from operand to) clashes fits = fits
fits-undef (inst.Select into condition if_true if_false) clashes (divides, arms) = (divides, select-integers into condition if_true if_false (same-arms into condition if_true if_false clashes) arms)
fits-undef (inst.Freeze into type operand) clashes fits = fits
fits-undef (inst.Alloca into number type align) clashes fits = fits
fits-undef (inst.Load into type pointer align) clashes fits = fits
fits-undef (inst.Store value pointer align) clashes fits = fits
fits-undef (inst.GetElementPtr into inbounds nuw type base indices) clashes fits = fits

pub blocks-undefs : (f : Function) → Passes TypeClash f → All IsJudgeableBlock f.blocks → UndefsFit f
blocks-undefs f types known = λ k d below.
    λ j i inside. fits-undef (get_or (get_or f.blocks k d).insts j i) (no-clash f types k d below j i inside) (let all = known k d below in all.undefs j i inside)
