-- The tests of an argument's numbers say that they are a code of one.
use Rattle.refine_terms.proofs.Common.{ℕ, zero, suc, ◌≡◌, ◌<◌, ◌≤◌, ◌+◌, ◌^◌, ◌↔◌, ◌⊎◌, inl, inr, true, not, ◌&&◌, ◌||◌, nat_eq, nat_le, List, [], ◌∷◌, length, drop, get_or, refl, sym, ap, subst, ◌∙◌, arith, length-append, flat_map, drop_more, drop_all, Layout, IsPointerAmong, IsCodeOfValue, IsCodeOfArgs, TermId, Term, truth, AreInRange, IsTerm, Keeps, Tests, bit_at, term_at, IsArg, AreArgs, term-below, bit-later, keeps_trans, term-later, Decides, arg_numbers}
use Rattle.ir_tree.specs.declared.tree.IrType.{IrType}
use Rattle.ir_tree.specs.declared.tree.IrType.TheVariants as type
use Rattle.ir_tree.specs.declared.tree.Parameter.{Parameter}
use Rattle.mem_terms.specs.declared.inputs.ArgTerms.{ArgTerms}
use Rattle.mem_terms.specs.declared.inputs.ArgTerms.TheVariants as arg
use Rattle.refine_terms.proofs.Truths.{and_left, and_right, equal_says, at_most_says}
use Rattle.refine_terms.proofs.Deciders.{tested, row_more}
use Rattle.refine_terms.proofs.Rows.{chain_parts}

-- ---- a pointer

pointer_there : (layout : Layout) (f b o : ℕ) → f < 2 ^ 1 → o < 2 ^ 64 → (nat_le b layout.blocks && (not (truth f) || (nat_eq b 0 && nat_eq o 0))) ≡ true → IsPointerAmong layout (f ∷ b ∷ o ∷ []) ⊎ ((f ∷ b ∷ o ∷ []) ≡ (1 ∷ 0 ∷ 0 ∷ []))
pointer_there layout zero b o flag small h = inl (record { block = b; offset = o; is = refl; given = (at_most_says b layout.blocks).0 (and_left (nat_le b layout.blocks) true h); small = small })
pointer_there layout (suc zero) b o flag small h =
    let zeros = and_right (nat_le b layout.blocks) (nat_eq b 0 && nat_eq o 0) h in
    let eb : b ≡ 0 = (equal_says b 0).0 (and_left (nat_eq b 0) (nat_eq o 0) zeros) in
    let eo : o ≡ 0 = (equal_says o 0).0 (and_right (nat_eq b 0) (nat_eq o 0) zeros) in
    inr (rw (eb, eo) refl)
pointer_there layout (suc (suc f)) b o flag small h = absurd (omega (arith, flag))

pointer_back : (layout : Layout) (f b o : ℕ) → IsPointerAmong layout (f ∷ b ∷ o ∷ []) ⊎ ((f ∷ b ∷ o ∷ []) ≡ (1 ∷ 0 ∷ 0 ∷ [])) → (nat_le b layout.blocks && (not (truth f) || (nat_eq b 0 && nat_eq o 0))) ≡ true
pointer_back layout f b o (inl h) =
    let e = h.is in
    let ef : f ≡ 0 = cc in
    let eb : b ≡ h.block = cc in
    let given = h.given in
    rw (ef, (at_most_says b layout.blocks).1 (omega (arith, given, eb))) refl
pointer_back layout f b o (inr e) =
    let ef : f ≡ 1 = cc in
    let eb : b ≡ 0 = cc in
    let eo : o ≡ 0 = cc in
    rw (ef, (at_most_says b layout.blocks).1 (omega (arith, eb)), (equal_says b 0).1 eb, (equal_says o 0).1 eo) refl

pub ptr_decides : (old a b c d e g : List Term) (layout : Layout) (t : IrType) (flag block offset is_given no_block no_offset is_zero fine id : TermId) → AreInRange old → IsArg old t (arg.Ptr flag block offset)
    → Keeps old a → Keeps a b → Keeps b c → Keeps c d → Keeps d e
    → Tests a is_given (λ v. nat_le (term_at v old block) layout.blocks) → Tests b no_block (λ v. nat_eq (term_at v a block) 0) → Tests c no_offset (λ v. nat_eq (term_at v b offset) 0)
    → Tests d is_zero (λ v. bit_at v c no_block && bit_at v c no_offset) → Tests e fine (λ v. not (bit_at v d flag) || bit_at v d is_zero) → Tests g id (λ v. bit_at v e is_given && bit_at v e fine)
    → Decides g id (λ v. IsCodeOfValue layout t (arg_numbers v old (arg.Ptr flag block offset)))
ptr_decides old a b c d e g layout (type.Int w) flag block offset is_given no_block no_offset is_zero fine id range h ka kb kc kd ke t1 t2 t3 t4 t5 t6 = absurd h
ptr_decides old a b c d e g layout type.Ptr flag block offset is_given no_block no_offset is_zero fine id range h ka kb kc kd ke t1 t2 t3 t4 t5 t6 =
    let k_b = keeps_trans old a b ka kb in
    let k_bd = keeps_trans b c d kc kd in
    let flat : Tests g id (λ v. nat_le (term_at v old block) layout.blocks && (not (bit_at v old flag) || (nat_eq (term_at v old block) 0 && nat_eq (term_at v old offset) 0))) = record {
      within = t6.within;
      wide = t6.wide;
      says = λ v.
          let given_is = bit-later a e (keeps_trans a d e (keeps_trans a b d kb k_bd) ke) v is_given t1.within ∙ t1.says v in
          let flag_is = bit-later old d (keeps_trans old b d k_b k_bd) v flag h.0.within in
          let block_is = bit-later b c kc v no_block t2.within ∙ (t2.says v ∙ ap (λ n. nat_eq n 0) (term-later old a ka v block h.1.within)) in
          let offset_is = t3.says v ∙ ap (λ n. nat_eq n 0) (term-later old b k_b v offset h.2.within) in
          t6.says v ∙ (rw (given_is, t5.says v, flag_is, t4.says v, block_is, offset_is) refl);
    } in
    tested g id (λ v. nat_le (term_at v old block) layout.blocks && (not (bit_at v old flag) || (nat_eq (term_at v old block) 0 && nat_eq (term_at v old offset) 0)))
    (λ v. IsCodeOfValue layout type.Ptr (arg_numbers v old (arg.Ptr flag block offset))) flat
    (λ v. (
      pointer_there layout (term_at v old flag) (term_at v old block) (term_at v old offset) (term-below old 1 flag range h.0 v) (term-below old 64 offset range h.2 v),
      pointer_back layout (term_at v old flag) (term_at v old block) (term_at v old offset),
    ))

-- ---- all arguments

-- the default where a list has no argument
abbrev pub no_arg : ArgTerms
no_arg = arg.Int (record { index = 0 }) (record { index = 0 })

pub arg_numbers-later : (old new : List Term) (k : Keeps old new) (t : IrType) (a : ArgTerms) → IsArg old t a → (v : ℕ → ℕ → ℕ) → arg_numbers v new a ≡ arg_numbers v old a
arg_numbers-later old new k (type.Int w) (arg.Int flag n) h v = rw (term-later old new k v flag h.0.within, term-later old new k v n h.1.within) refl
arg_numbers-later old new k type.Ptr (arg.Ptr flag block offset) h v = rw (term-later old new k v flag h.0.within, term-later old new k v block h.1.within, term-later old new k v offset h.2.within) refl
arg_numbers-later old new k (type.Int w) (arg.Ptr flag block offset) h v = absurd h
arg_numbers-later old new k type.Ptr (arg.Int flag n) h v = absurd h

pub args_count : (old : List Term) (ps : List Parameter) (args : List ArgTerms) → AreArgs old ps args → length args ≡ length ps
args_count old [] [] h = refl
args_count old (p ∷ ps) (a ∷ rest) h = ap suc (args_count old ps rest h.1)
args_count old [] (a ∷ rest) h = absurd h
args_count old (p ∷ ps) [] h = absurd h

arg-at : (old : List Term) (ps : List Parameter) (args : List ArgTerms) (i : ℕ) (p : Parameter) (a : ArgTerms) → AreArgs old ps args → i < length ps → IsArg old (get_or ps i p).of_type (get_or args i a)
arg-at old [] args i p a h lt = absurd (omega arith)
arg-at old (q ∷ ps) [] i p a h lt = absurd h
arg-at old (q ∷ ps) (b ∷ rest) zero p a h lt = h.0
arg-at old (q ∷ ps) (b ∷ rest) (suc i) p a h lt = arg-at old ps rest i p a h.1 (omega arith)

pub arg_is : (old : List Term) (ps : List Parameter) (args : List ArgTerms) (i : ℕ) (p : Parameter) (a : ArgTerms) → AreArgs old ps args → i < length ps → p ≡ get_or ps i p → IsArg old p.of_type (get_or args i a)
arg_is old ps args i p a h lt is = subst (λ (q : Parameter). IsArg old q.of_type (get_or args i a)) (sym is) (arg-at old ps args i p a h lt)

value_long : (v : ℕ → ℕ → ℕ) (old : List Term) (layout : Layout) (t : IrType) (a : ArgTerms) → IsArg old t a → (ds : List ℕ) → IsCodeOfValue layout t ds → length ds ≡ length (arg_numbers v old a)
value_long v old layout (type.Int w) (arg.Int flag n) h ds (inl c) = rw c.is refl
value_long v old layout (type.Int w) (arg.Int flag n) h ds (inr e) = rw e refl
value_long v old layout type.Ptr (arg.Ptr flag block offset) h ds (inl c) = rw c.is refl
value_long v old layout type.Ptr (arg.Ptr flag block offset) h ds (inr e) = rw e refl
value_long v old layout (type.Int w) (arg.Ptr flag block offset) h ds c = absurd h
value_long v old layout type.Ptr (arg.Int flag n) h ds c = absurd h

pub args_long : (v : ℕ → ℕ → ℕ) (old : List Term) (layout : Layout) (ps : List Parameter) (args : List ArgTerms) → AreArgs old ps args
    → (ds : List ℕ) → IsCodeOfArgs layout ps ds → length ds ≡ length (flat_map (arg_numbers v old) args)
args_long v old layout [] [] h ds c = rw c refl
args_long v old layout (p ∷ ps) (a ∷ rest) h ds c =
    let here = value_long v old layout p.of_type a h.0 c.front c.in_front in
    let more = args_long v old layout ps rest h.1 c.back c.in_back in
    rw (c.whole, length-append, length-append) (rw (here, more) refl)
args_long v old layout [] (a ∷ rest) h ds c = absurd h
args_long v old layout (p ∷ ps) [] h ds c = absurd h

args_more : (v : ℕ → ℕ → ℕ) (old : List Term) (layout : Layout) (i : ℕ) (ps : List Parameter) (args : List ArgTerms) (p : Parameter) (a : ArgTerms) → i < length ps → i < length args → p ≡ get_or ps i p → IsArg old p.of_type (get_or args i a)
    → IsCodeOfArgs layout (drop i ps) (flat_map (arg_numbers v old) (drop i args))
    ↔ (IsCodeOfValue layout p.of_type (arg_numbers v old (get_or args i a)) × IsCodeOfArgs layout (drop (i + 1) ps) (flat_map (arg_numbers v old) (drop (i + 1) args)))
args_more v old layout i ps args p a lt lt_a is h =
    let e_p : drop i ps ≡ p ∷ drop (i + 1) ps = drop_more ps i p lt ∙ ap (λ q. q ∷ drop (i + 1) ps) (sym is) in
    let e_a : drop i args ≡ get_or args i a ∷ drop (i + 1) args = drop_more args i a lt_a in
    rw (e_p, e_a)
    (chain_parts (IsCodeOfValue layout p.of_type) (λ value rest. IsCodeOfArgs layout (drop (i + 1) ps) rest) (arg_numbers v old (get_or args i a)) (flat_map (arg_numbers v old) (drop (i + 1) args))
    (λ ds c. value_long v old layout p.of_type (get_or args i a) h ds c))

pub arg_row : (old a b c : List Term) (layout : Layout) (i : ℕ) (ps : List Parameter) (args : List ArgTerms) (p : Parameter) (x : ArgTerms) (all one next : TermId) → AreArgs old ps args → i < length ps → p ≡ get_or ps i p → Keeps old a → Keeps a b → IsTerm a 1 all
    → ((v : ℕ → ℕ → ℕ) → ((bit_at v a all ≡ true) × IsCodeOfArgs layout (drop i ps) (flat_map (arg_numbers v old) (drop i args))) ↔ IsCodeOfArgs layout ps (flat_map (arg_numbers v old) args))
    → Decides b one (λ v. IsCodeOfValue layout p.of_type (arg_numbers v a (get_or args i x))) → Tests c next (λ v. bit_at v b all && bit_at v b one)
    → (v : ℕ → ℕ → ℕ) → ((bit_at v c next ≡ true) × IsCodeOfArgs layout (drop (i + 1) ps) (flat_map (arg_numbers v old) (drop (i + 1) args))) ↔ IsCodeOfArgs layout ps (flat_map (arg_numbers v old) args)
arg_row old a b c layout i ps args p x all one next h lt is ka kb is_all so one_is t =
    let lt_a : i < length args = omega (arith, args_count old ps args h, lt) in
    let here = arg_is old ps args i p x h lt is in
    row_more a b c all one next (λ v. IsCodeOfValue layout p.of_type (arg_numbers v a (get_or args i x)))
    (λ v. IsCodeOfArgs layout (drop i ps) (flat_map (arg_numbers v old) (drop i args)))
    (λ v. IsCodeOfArgs layout (drop (i + 1) ps) (flat_map (arg_numbers v old) (drop (i + 1) args)))
    (λ v. IsCodeOfArgs layout ps (flat_map (arg_numbers v old) args)) kb is_all so one_is t
    (λ v. rw (arg_numbers-later old a ka p.of_type (get_or args i x) here v) (args_more v old layout i ps args p x lt lt_a is here))

pub args_end : (v : ℕ → ℕ → ℕ) (old : List Term) (layout : Layout) (i : ℕ) (ps : List Parameter) (args : List ArgTerms) → AreArgs old ps args → length ps ≤ i → IsCodeOfArgs layout (drop i ps) (flat_map (arg_numbers v old) (drop i args))
args_end v old layout i ps args h le =
    let e_p : drop i ps ≡ [] = drop_all i ps le in
    let e_a : drop i args ≡ [] = drop_all i args (omega (arith, args_count old ps args h, le)) in
    rw (e_p, e_a) refl
