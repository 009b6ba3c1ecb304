-- The registers of a run before its first block.
use Rattle.run_terms.proofs.Common.{ℕ, zero, suc, ◌≡◌, ◌+◌, ◌<◌, ◌≤◌, ◌-◌, Bool, true, false, ◌&&◌, ◌||◌, cond, if◌then◌else◌, List, [], ◌∷◌, length, map, take, drop, replicate, get_or, slice_set, nat_eq, refl, ap, sym, subst, ◌∙◌, arith, or_assoc, eqb-suc-zero, take_all, drop_all, Function, BlockName, Null, Given, Local, Poison, Ptr, equal_names, argument_value, breaks_noundef, first_machine, is_null, is_poison, with_args, value_of, frames_of, given_frames, map-set, keeps_trans, bit-later, term-later, values-later, args_at-later, naming, Value, TermId, Term, Keeps, Makes, Tests, bit_at, term_at, SymValue, SymBlock, Each, AreSymValues, IsNaming, IsSymValue, Reading, first_local, values_at, AreGivenBlocks, AreSymBlocks, frame_of, memory_at, RunMemory, RunState, AreNumberedFrom, IsRunMemory, MatchesState, Scene, frames_in, sight}
use Rattle.ir_tree.specs.declared.tree.Parameter.{Parameter}
use Rattle.points.specs.declared.point.Layout.{Layout}
use Rattle.mem_terms.specs.declared.inputs.ArgTerms.{ArgTerms}
use Rattle.mem_terms.specs.declared.inputs.InputTerms.{InputTerms}
use Rattle.mem_terms.specs.Values.{value_at}
use Rattle.mem_terms.specs.Inputs.{AreArgs, IsArg, arg_at, args_at, given_blocks_at, input_at}
use Rattle.run_terms.proofs.Lasting.{blocks_at-later}
use Rattle.run_terms.proofs.Memories.{given_count, given_framed}

-- ---- null

-- a number names the null block where it is 0
null_number : (name : ℕ → BlockName) → IsNaming name → (b : ℕ) → equal_names (name b) Null ≡ nat_eq b 0
null_number name h zero = rw h.null refl
null_number name h (suc k) = by (name (suc k)) refl ∙ sym (eqb-suc-zero k)
  where
    by : (x : BlockName) → name (suc k) ≡ x → equal_names x Null ≡ false
    by Null e = absurd (let same : suc k ≡ 0 = h.apart (suc k) 0 (e ∙ sym h.null) in omega (arith, same))
    by (Given n) e = refl
    by (Local turn alloca) e = refl

chosen_so : (c : Bool) (x y : Value) → cond c x y ≡ (if c then x else y)
chosen_so true x y = refl
chosen_so false x y = refl

null_is_poison : (p i : Bool) (block : BlockName) (b n : ℕ) → equal_names block Null ≡ nat_eq b 0
    → value_of (p || (i && (nat_eq b 0 && nat_eq n 0))) i block n ≡ (if is_null (value_of p i block n) then Poison else value_of p i block n)
null_is_poison true i block b n e = refl
null_is_poison false false block b n e = refl
null_is_poison false true block b n e = rw e (chosen_so (nat_eq b 0 && nat_eq n 0) Poison (Ptr (record { block = block; offset = n })))

pub non_null_stands : (old a b d e f new : List Term) (s : SymValue) (zero_term no_block no_offset is_zero null poison : TermId) → IsSymValue old s
    → Keeps old a → Makes a zero_term 64 (λ _. 0)
    → Keeps a b → Tests b no_block (λ v. nat_eq (term_at v a s.block) (term_at v a zero_term))
    → Keeps b d → Tests d no_offset (λ v. nat_eq (term_at v b s.number) (term_at v b zero_term))
    → Keeps d e → Tests e is_zero (λ v. bit_at v d no_block && bit_at v d no_offset)
    → Keeps e f → Tests f null (λ v. bit_at v e s.is_pointer && bit_at v e is_zero)
    → Keeps f new → Tests new poison (λ v. bit_at v f s.poison || bit_at v f null)
    → (r : Reading) → IsNaming r.name
    → value_at r new (record { poison = poison; is_pointer = s.is_pointer; block = s.block; number = s.number }) ≡ (if is_null (value_at r old s) then Poison else value_at r old s)
unfolding value_at
non_null_stands old a b d e f new s zero_term no_block no_offset is_zero null poison h ka mz kb tb kd to ke tz kf tn kn tp r named =
    let v = r.v in
    let kob = keeps_trans old a b ka kb in
    let koe = keeps_trans old d e (keeps_trans old b d kob kd) ke in
    let kof = keeps_trans old e f koe kf in
    let kon = keeps_trans old f new kof kn in
    let e_block : bit_at v d no_block ≡ nat_eq (term_at v old s.block) 0 = bit-later b d kd v no_block tb.within ∙ (tb.says v ∙ rw (term-later old a ka v s.block h.block.within, mz.says v) refl) in
    let e_offset : bit_at v d no_offset ≡ nat_eq (term_at v old s.number) 0 =
    to.says v ∙ rw (term-later old b kob v s.number h.number.within, term-later a b kb v zero_term mz.within, mz.says v) refl in
    let e_null : bit_at v f null ≡ (bit_at v old s.is_pointer && (nat_eq (term_at v old s.block) 0 && nat_eq (term_at v old s.number) 0)) =
    tn.says v ∙ rw (bit-later old e koe v s.is_pointer h.is_pointer.within, tz.says v, e_block, e_offset) refl in
    rw (tp.says v, bit-later old f kof v s.poison h.poison.within, e_null, bit-later old new kon v s.is_pointer h.is_pointer.within, term-later old new kon v s.block h.block.within, term-later old new kon v s.number h.number.within)
    (null_is_poison (bit_at v old s.poison) (bit_at v old s.is_pointer) (r.name (term_at v old s.block)) (term_at v old s.block) (term_at v old s.number) (null_number r.name named (term_at v old s.block)))

poison_of : (p i : Bool) (block : BlockName) (n : ℕ) → is_poison (value_of p i block n) ≡ p
poison_of true i block n = refl
poison_of false true block n = refl
poison_of false false block n = refl

pub poison_bit : (r : Reading) (terms : List Term) (s : SymValue) → is_poison (value_at r terms s) ≡ bit_at r.v terms s.poison
unfolding value_at
poison_bit r terms s = poison_of (bit_at r.v terms s.poison) (bit_at r.v terms s.is_pointer) (r.name (term_at r.v terms s.block)) (term_at r.v terms s.number)

-- ---- poison everywhere

map-replicate : {A B : Type 0} (f : A → B) (n : ℕ) (x : A) → map f (replicate n x) ≡ replicate n (f x)
map-replicate f zero x = refl
map-replicate f (suc n) x = ap (λ xs. f x ∷ xs) (map-replicate f n x)

pub each-replicate : {A : Type 0} (P : A → Type 0) (n : ℕ) (x : A) → P x → Each P (replicate n x)
each-replicate P zero x h = tt
each-replicate P (suc n) x h = (h, each-replicate P n x h)

pub poison_made : (terms : List Term) (s : SymValue) (n : ℕ) (rs : List SymValue) → rs ≡ replicate n s → IsSymValue terms s → AreSymValues terms rs
poison_made terms s n rs is h = subst (AreSymValues terms) (sym is) (each-replicate (IsSymValue terms) n s h)

pub poison_stands : (terms : List Term) (s : SymValue) (n : ℕ) (rs : List SymValue) → rs ≡ replicate n s → ((r : Reading) → value_at r terms s ≡ Poison) → (r : Reading) → values_at r terms rs ≡ replicate n Poison
poison_stands terms s n rs is h r = ap (values_at r terms) is ∙ (map-replicate (value_at r terms) n s ∙ ap (λ (x : Value). replicate n x) (h r))

-- ---- the parameters one after another

pub args_front : (terms : List Term) (parameters ps : List Parameter) (p : Parameter) (args rest : List ArgTerms) (a : ArgTerms) → parameters ≡ p ∷ ps → args ≡ a ∷ rest → AreArgs terms parameters args → IsArg terms p.of_type a × AreArgs terms ps rest
args_front terms parameters ps p args rest a is are h = subst (λ (qs : List Parameter). AreArgs terms qs (a ∷ rest)) is (subst (λ (bs : List ArgTerms). AreArgs terms parameters bs) are h)

pub given_more : (a b : List Term) (k : Keeps a b) (parameters ps : List Parameter) (p : Parameter) (args rest : List ArgTerms) (arg : ArgTerms) (rs : List SymValue) (value : SymValue) (whole : Reading → List Value)
    → parameters ≡ p ∷ ps → args ≡ arg ∷ rest → AreArgs a parameters args → AreSymValues a rs → ((r : Reading) → IsNaming r.name → value_at r b value ≡ argument_value p (arg_at r a arg))
    → ((r : Reading) → IsNaming r.name → with_args parameters (args_at r a args) (values_at r a rs) ≡ whole r)
    → (r : Reading) → IsNaming r.name → with_args ps (args_at r b rest) (values_at r b (slice_set rs p.name value)) ≡ whole r
given_more a b k parameters ps p args rest arg rs value whole is are h hr one so r named =
    let set : values_at r b (slice_set rs p.name value) ≡ slice_set (values_at r a rs) p.name (argument_value p (arg_at r a arg)) =
    map-set (value_at r b) rs p.name value ∙ rw (one r named, values-later a b k r rs hr) refl in
    let further : args_at r b rest ≡ args_at r a rest = args_at-later a b k r ps rest (args_front a parameters ps p args rest arg is are h).1 in
    let so' : with_args (p ∷ ps) (args_at r a (arg ∷ rest)) (values_at r a rs) ≡ whole r =
    subst (λ (qs : List Parameter). with_args qs (args_at r a (arg ∷ rest)) (values_at r a rs) ≡ whole r) is (subst (λ (bs : List ArgTerms). with_args parameters (args_at r a bs) (values_at r a rs) ≡ whole r) are (so r named)) in
    rw (set, further) so'

module _ (a d : List Term) (k : Keeps a d) (parameters ps : List Parameter) (p : Parameter) (args rest : List ArgTerms) (arg : ArgTerms) (broken : TermId) (whole : Reading → Bool)
    (is : parameters ≡ p ∷ ps) (are : args ≡ arg ∷ rest) (h : AreArgs a parameters args) (so : (r : Reading) → IsNaming r.name → (bit_at r.v a broken || breaks_noundef parameters (args_at r a args)) ≡ whole r) where
  broken_so : (r : Reading) → IsNaming r.name → (bit_at r.v a broken || breaks_noundef (p ∷ ps) (args_at r a (arg ∷ rest))) ≡ whole r
  broken_so r named = subst (λ (qs : List Parameter). (bit_at r.v a broken || breaks_noundef qs (args_at r a (arg ∷ rest))) ≡ whole r) is
      (subst (λ (bs : List ArgTerms). (bit_at r.v a broken || breaks_noundef parameters (args_at r a bs)) ≡ whole r) are (so r named))

  further_same : (r : Reading) → args_at r d rest ≡ args_at r a rest
  further_same r = args_at-later a d k r ps rest (args_front a parameters ps p args rest arg is are h).1

  -- the parameter is noundef
  pub broken_more : (b : List Term) (value : SymValue) (broken' : TermId) → broken.index < length a → Keeps a b → ((r : Reading) → IsNaming r.name → value_at r b value ≡ argument_value p (arg_at r a arg))
      → p.no_undef ≡ true → Tests d broken' (λ v. bit_at v b broken || bit_at v b value.poison)
      → (r : Reading) → IsNaming r.name → (bit_at r.v d broken' || breaks_noundef ps (args_at r d rest)) ≡ whole r
  broken_more b value broken' within kb one noundef t r named =
      let here : (bit_at r.v a broken || ((p.no_undef && is_poison (argument_value p (arg_at r a arg))) || breaks_noundef ps (args_at r a rest))) ≡ whole r = broken_so r named in
      let flag : is_poison (argument_value p (arg_at r a arg)) ≡ bit_at r.v b value.poison = ap is_poison (sym (one r named)) ∙ poison_bit r b value in
      rw (t.says r.v, further_same r, bit-later a b kb r.v broken within) (or_assoc (bit_at r.v a broken) (bit_at r.v b value.poison) (breaks_noundef ps (args_at r a rest)) ∙ (rw (noundef, flag) at here))

-- a list is its first item and the part from the second on
pub front_is : {A : Type 0} (xs : List A) (x : A) → 1 ≤ length xs → x ≡ get_or xs 0 x → xs ≡ x ∷ take (length xs - 1) (drop 1 xs)
front_is [] x some is = absurd (omega arith)
front_is (y ∷ ys) x some is =
    ap (λ z. z ∷ ys) (sym is) ∙ ap (λ zs. x ∷ zs) (sym (take_all (length (y ∷ ys) - 1) ys (omega arith)))

-- ---- given blocks

numbered_frames : (first n bytes : ℕ) → AreNumberedFrom first (given_frames first n bytes)
numbered_frames first zero bytes = tt
numbered_frames first (suc n) bytes = (refl, numbered_frames (first + 1) n bytes)

frame_count : (first n bytes : ℕ) → length (given_frames first n bytes) ≡ n
frame_count first zero bytes = refl
frame_count first (suc n) bytes = ap suc (frame_count (first + 1) n bytes)

-- given blocks alone are a memory
module _ (terms : List Term) (m : RunMemory) (layout : Layout) (h : AreGivenBlocks (frames_of layout) terms m.blocks) (is : m.given ≡ layout.blocks) where
  count : length m.blocks ≡ layout.blocks
  count = given_count (frames_of layout) terms m.blocks h ∙ frame_count 1 layout.blocks layout.bytes

  front : take m.given m.blocks ≡ m.blocks
  front = take_all m.given m.blocks (omega (arith, count, is))

  pub only_frames : frames_in m ≡ frames_of layout
  only_frames = ap (map frame_of) front ∙ h.frames

  pub only_given : IsRunMemory terms m
  only_given =
      let none : drop m.given m.blocks ≡ [] = drop_all m.given m.blocks (omega (arith, count, is)) in
      record {
        given = subst (λ (bs : List SymBlock). AreGivenBlocks (map frame_of bs) terms bs) (sym front) (given_framed (frames_of layout) terms m.blocks h);
        count = omega (arith, count, is);
        numbered = subst (AreNumberedFrom 1) (sym only_frames) (numbered_frames 1 layout.blocks layout.bytes);
        are = subst (AreSymBlocks terms) (sym none) tt;
        own = subst (Each (λ (b : SymBlock). first_local m.given ≤ b.number)) (sym none) tt;
      }

-- ---- the first state

pub first_matches : (old a b x y new : List Term) (f : Function) (input : InputTerms) (first : List SymValue) (s : RunState) (ka : Keeps old a) (kb : Keeps a b) (kx : Keeps b x) (ky : Keeps x y) (kn : Keeps y new)
    → AreArgs old f.parameters input.args → AreSymValues b s.registers → IsRunMemory y s.memory
    → ((r : Reading) → values_at r a first ≡ replicate (length f.names) Poison)
    → ((r : Reading) → IsNaming r.name → values_at r b s.registers ≡ with_args f.parameters (args_at r a input.args) (values_at r a first))
    → ((r : Reading) → memory_at r y s.memory.blocks ≡ given_blocks_at r x 1 input.sizes input.places)
    → ((r : Reading) → given_blocks_at r x 1 input.sizes input.places ≡ given_blocks_at r old 1 input.sizes input.places)
    → s.memory.given ≡ length input.sizes
    → ((v : ℕ → ℕ → ℕ) → term_at v new s.tally.read ≡ 0) → ((v : ℕ → ℕ → ℕ) → bit_at v new s.tally.fits ≡ true)
    → (g : Scene) → g.given ≡ length input.sizes → MatchesState g new (record { label = 0; turn = 0 }) s (first_machine f (input_at (sight g) old input))
first_matches old a b x y new f input first s ka kb kx ky kn hargs hr hm poison given left same count read fits g is =
    let r = sight g in
    let given' : values_at r b s.registers ≡ with_args f.parameters (args_at r old input.args) (replicate (length f.names) Poison) =
    given r (naming g.given) ∙ rw (args_at-later old a ka r f.parameters input.args hargs, poison r) refl in
    record {
      registers = values-later b new (keeps_trans b y new (keeps_trans b x y kx ky) kn) r s.registers hr ∙ given';
      given = count ∙ sym is;
      memory = blocks_at-later y new kn r s.memory hm ∙ (left r ∙ same r);
      tally = record { read = read g.v; fits = fits g.v };
      words_bound = omega arith;
      visit = refl;
    }
