-- The tests of a byte's numbers say what kind of byte they are.
use Rattle.refine_terms.proofs.Common.{ℕ, zero, suc, ◌≡◌, ◌<◌, ◌≤◌, ◌^◌, ◌↔◌, ◌⊎◌, Bool, true, false, not, ◌&&◌, ◌||◌, cond, nat_eq, nat_le, bit_and, List, [], ◌∷◌, length, refl, sym, ap, ◌∙◌, arith, both_ways, nat_tests, Layout, IsNumberByte, IsPartByte, IsPoisonByte, IsCodeOfByte, IsUnused, TermId, Term, width_of, truth, IsTerm, Keeps, Makes, Tests, AreInRange, bit_at, term_at, tree_in, ByteTerms, term-below, keeps_self, keeps_trans, bit-later, term-later, Decides, IsByteTerms, byte_numbers, IsCodeOfPlace}
use Rattle.refine_terms.proofs.Truths.{and_says, equal_says}
use Rattle.refine_terms.proofs.Deciders.{tested, as_fact, at_equal, at_most_decides, decides-later, either_decides, three_decide, four_decide}

pub byte-later : (old new : List Term) (k : Keeps old new) (x : ByteTerms) → IsByteTerms old x → (v : ℕ → ℕ → ℕ) → byte_numbers v new x ≡ byte_numbers v old x
byte-later old new k x h v =
    rw (term-later old new k v x.kind h.kind.within, term-later old new k v x.mask h.mask.within, term-later old new k v x.number h.number.within, term-later old new k v x.block h.block.within, term-later old new k v x.offset h.offset.within, term-later old new k v x.part h.part.within) refl

-- ---- the pointer's numbers

pub part_tests : (old a b c d e : List Term) (x : ByteTerms) (block offset part rest id : TermId) → IsByteTerms old x → Keeps old a → Keeps a b → Keeps b c → Keeps c d
    → Tests a block (λ v. nat_eq (term_at v old x.block) 0) → Tests b offset (λ v. nat_eq (term_at v a x.offset) 0) → Tests c part (λ v. nat_eq (term_at v b x.part) 0)
    → Tests d rest (λ v. bit_at v c offset && bit_at v c part) → Tests e id (λ v. bit_at v d block && bit_at v d rest)
    → Tests e id (λ v. nat_eq (term_at v old x.block) 0 && (nat_eq (term_at v old x.offset) 0 && nat_eq (term_at v old x.part) 0))
part_tests old a b c d e x block offset part rest id h ka kb kc kd t1 t2 t3 t4 t5 = record {
  within = t5.within;
  wide = t5.wide;
  says = λ v.
      let block_is = bit-later a d (keeps_trans a c d (keeps_trans a b c kb kc) kd) v block t1.within ∙ t1.says v in
      let offset_is = bit-later b c kc v offset t2.within ∙ t2.says v in
      let offset_same = term-later old a ka v x.offset h.offset.within in
      let part_same = term-later old b (keeps_trans old a b ka kb) v x.part h.part.within in
      t5.says v ∙ (rw (block_is, t4.says v, offset_is, offset_same, t3.says v, part_same) refl);
}

-- ---- four tests in a row

pub four_tests : (old a b c : List Term) (x y z w last rest id : TermId) → IsTerm old 1 x → IsTerm old 1 y → Keeps old a → Keeps a b
    → Tests a last (λ v. bit_at v old z && bit_at v old w) → Tests b rest (λ v. bit_at v a y && bit_at v a last) → Tests c id (λ v. bit_at v b x && bit_at v b rest)
    → Tests c id (λ v. bit_at v old x && (bit_at v old y && (bit_at v old z && bit_at v old w)))
four_tests old a b c x y z w last rest id hx hy ka kb t1 t2 t3 = record {
  within = t3.within;
  wide = t3.wide;
  says = λ v. t3.says v ∙ (rw (bit-later old b (keeps_trans old a b ka kb) v x hx.within, t2.says v, bit-later old a ka v y hy.within, t1.says v) refl);
}

-- ---- facts about one number

is_known : (old a b : List Term) (x id : TermId) (n : ℕ) → x.index < length old → Keeps old a → Tests b id (λ v. nat_eq (term_at v a x) n) → Decides b id (λ v. term_at v old x ≡ n)
is_known old a b x id n within k t = tested b id (λ v. nat_eq (term_at v a x) n) (λ v. term_at v old x ≡ n) t (λ v. rw (term-later old a k v x within) (equal_says (term_at v old x) n))

-- the numbers of a pointer's part
abbrev AreZero : (b o p : ℕ) → Type 0
AreZero b o p = (b ≡ 0) × ((o ≡ 0) × (p ≡ 0))

zeros_say : (b o p : ℕ) → ((nat_eq b 0 && (nat_eq o 0 && nat_eq p 0)) ≡ true) ↔ AreZero b o p
zeros_say b o p =
    and_says (nat_eq b 0) (nat_eq o 0 && nat_eq p 0) (b ≡ 0) ((o ≡ 0) × (p ≡ 0)) (equal_says b 0)
    (and_says (nat_eq o 0) (nat_eq p 0) (o ≡ 0) (p ≡ 0) (equal_says o 0) (equal_says p 0))

are_zero : (old a b : List Term) (x : ByteTerms) (id : TermId) → IsByteTerms old x → Keeps old a → Tests b id (λ v. nat_eq (term_at v a x.block) 0 && (nat_eq (term_at v a x.offset) 0 && nat_eq (term_at v a x.part) 0))
    → Decides b id (λ v. AreZero (term_at v old x.block) (term_at v old x.offset) (term_at v old x.part))
are_zero old a b x id h k t =
    tested b id (λ v. nat_eq (term_at v a x.block) 0 && (nat_eq (term_at v a x.offset) 0 && nat_eq (term_at v a x.part) 0)) (λ v. AreZero (term_at v old x.block) (term_at v old x.offset) (term_at v old x.part)) t
    (λ v.
    rw (term-later old a k v x.block h.block.within, term-later old a k v x.offset h.offset.within, term-later old a k v x.part h.part.within)
    (zeros_say (term_at v old x.block) (term_at v old x.offset) (term_at v old x.part)))

-- ---- an index past the size

unused_says : (k m n b o p : ℕ) → ((k ≡ 0) × ((m ≡ 0) × ((n ≡ 0) × AreZero b o p))) ↔ IsUnused (k ∷ m ∷ n ∷ b ∷ o ∷ p ∷ [])
unused_says k m n b o p = ((λ h. rw (h.0, h.1.0, h.1.1.0, h.1.1.1.0, h.1.1.1.1.0, h.1.1.1.1.1) refl), (λ e. (cc, (cc, (cc, (cc, (cc, cc)))))))

pub unused_decides : (old a b c d e : List Term) (x : ByteTerms) (kind mask number part id : TermId) → IsByteTerms old x → Keeps old a → Keeps a b → Keeps b c → Keeps c d
    → Tests a kind (λ v. nat_eq (term_at v old x.kind) 0) → Tests b mask (λ v. nat_eq (term_at v a x.mask) 0) → Tests c number (λ v. nat_eq (term_at v b x.number) 0)
    → Tests d part (λ v. nat_eq (term_at v c x.block) 0 && (nat_eq (term_at v c x.offset) 0 && nat_eq (term_at v c x.part) 0))
    → Tests e id (λ v. bit_at v d kind && (bit_at v d mask && (bit_at v d number && bit_at v d part)))
    → Decides e id (λ v. IsUnused (byte_numbers v old x))
unused_decides old a b c d e x kind mask number part id h ka kb kc kd t1 t2 t3 t4 t5 =
    let k_b = keeps_trans old a b ka kb in
    let zero = is_known old old a x.kind kind 0 h.kind.within (keeps_self old) t1 in
    let no_mask = is_known old a b x.mask mask 0 h.mask.within ka t2 in
    let no_number = is_known old b c x.number number 0 h.number.within k_b t3 in
    let no_part = are_zero old c d x part h (keeps_trans old b c k_b kc) t4 in
    as_fact e id _ (λ v. IsUnused (byte_numbers v old x)) (four_decide a b c d e kind mask number part id _ _ _ _ kb kc kd zero no_mask no_number no_part t5)
    (λ v. unused_says (term_at v old x.kind) (term_at v old x.mask) (term_at v old x.number) (term_at v old x.block) (term_at v old x.offset) (term_at v old x.part))

-- ---- bits without poison

number_says : (k m n b o p : ℕ) → n < 2 ^ 8 → ((k ≡ 0) × ((m ≡ 0) × AreZero b o p)) ↔ IsNumberByte (k ∷ m ∷ n ∷ b ∷ o ∷ p ∷ [])
number_says k m n b o p small = (
  (λ h. record { number = n; is = rw (h.0, h.1.0, h.1.1.0, h.1.1.1.0, h.1.1.1.1) refl; small = small }),
  (λ r. let e = r.is in (cc, (cc, (cc, (cc, cc))))),
)

pub number_decides : (old a b c d e : List Term) (x : ByteTerms) (kind mask part rest id : TermId) → AreInRange old → IsByteTerms old x → Keeps old a → Keeps a b → Keeps b c → Keeps c d
    → Tests a kind (λ v. nat_eq (term_at v old x.kind) 0) → Tests b mask (λ v. nat_eq (term_at v a x.mask) 0)
    → Tests c part (λ v. nat_eq (term_at v b x.block) 0 && (nat_eq (term_at v b x.offset) 0 && nat_eq (term_at v b x.part) 0))
    → Tests d rest (λ v. bit_at v c mask && bit_at v c part) → Tests e id (λ v. bit_at v d kind && bit_at v d rest)
    → Decides e id (λ v. IsNumberByte (byte_numbers v old x))
number_decides old a b c d e x kind mask part rest id range h ka kb kc kd t1 t2 t3 t4 t5 =
    let zero = is_known old old a x.kind kind 0 h.kind.within (keeps_self old) t1 in
    let no_mask = is_known old a b x.mask mask 0 h.mask.within ka t2 in
    let no_part = are_zero old b c x part h (keeps_trans old a b ka kb) t3 in
    as_fact e id _ (λ v. IsNumberByte (byte_numbers v old x)) (three_decide a b c d e kind mask part rest id _ _ _ kb kc kd zero no_mask no_part t4 t5)
    (λ v. number_says (term_at v old x.kind) (term_at v old x.mask) (term_at v old x.number) (term_at v old x.block) (term_at v old x.offset) (term_at v old x.part) (term-below old 8 x.number range h.number v))

-- ---- a part of a pointer

pointer_says : (layout : Layout) (k m n b o p : ℕ) → o < 2 ^ 64 → p < 2 ^ 3 → ((k ≡ 1) × ((m ≡ 0) × ((n ≡ 0) × (b ≤ layout.blocks)))) ↔ IsPartByte layout (k ∷ m ∷ n ∷ b ∷ o ∷ p ∷ [])
pointer_says layout k m n b o p small eight = (
  (λ h. record { block = b; offset = o; part = p; is = rw (h.0, h.1.0, h.1.1.0) refl; given = h.1.1.1; small = small; of_eight = omega (arith, eight) }),
  (λ r. let e = r.is in let eb : b ≡ r.block = cc in (cc, (cc, (cc, rw eb r.given)))),
)

pub pointer_decides : (old a b c d e : List Term) (x : ByteTerms) (layout : Layout) (kind mask number block id : TermId) → AreInRange old → IsByteTerms old x → Keeps old a → Keeps a b → Keeps b c → Keeps c d
    → Tests a kind (λ v. nat_eq (term_at v old x.kind) 1) → Tests b mask (λ v. nat_eq (term_at v a x.mask) 0) → Tests c number (λ v. nat_eq (term_at v b x.number) 0) → Tests d block (λ v. nat_le (term_at v c x.block) layout.blocks)
    → Tests e id (λ v. bit_at v d kind && (bit_at v d mask && (bit_at v d number && bit_at v d block)))
    → Decides e id (λ v. IsPartByte layout (byte_numbers v old x))
pointer_decides old a b c d e x layout kind mask number block id range h ka kb kc kd t1 t2 t3 t4 t5 =
    let k_b = keeps_trans old a b ka kb in
    let one = is_known old old a x.kind kind 1 h.kind.within (keeps_self old) t1 in
    let no_mask = is_known old a b x.mask mask 0 h.mask.within ka t2 in
    let no_number = is_known old b c x.number number 0 h.number.within k_b t3 in
    let given = at_equal d block (λ n. n ≤ layout.blocks) (λ v. term_at v c x.block) (λ v. term_at v old x.block) (at_most_decides d block (λ v. term_at v c x.block) layout.blocks t4)
    (λ v. term-later old c (keeps_trans old b c k_b kc) v x.block h.block.within) in
    as_fact e id _ (λ v. IsPartByte layout (byte_numbers v old x)) (four_decide a b c d e kind mask number block id _ _ _ _ kb kc kd one no_mask no_number given t5)
    (λ v.
    pointer_says layout (term_at v old x.kind) (term_at v old x.mask) (term_at v old x.number) (term_at v old x.block) (term_at v old x.offset) (term_at v old x.part)
    (term-below old 64 x.offset range h.offset v) (term-below old 3 x.part range h.part v))

-- ---- bits with poison

poison_says : (k m n b o p : ℕ) → m < 2 ^ 8 → n < 2 ^ 8 → ((k ≡ 2) × ((0 < m) × ((bit_and n m ≡ 0) × AreZero b o p))) ↔ IsPoisonByte (k ∷ m ∷ n ∷ b ∷ o ∷ p ∷ [])
poison_says k m n b o p within small = (
  (λ h. record { mask = m; number = n; is = rw (h.0, h.1.1.1.0, h.1.1.1.1.0, h.1.1.1.1.1) refl; some = h.1.0; within = within; small = small; apart = h.1.1.0 }),
  (λ r.
      let e = r.is in
      let em : m ≡ r.mask = cc in
      let en : n ≡ r.number = cc in
      (cc, (rw em r.some, (rw (em, en) r.apart, (cc, (cc, cc)))))),
)

not_zero_says : (n : ℕ) → (not (nat_eq n 0) ≡ true) ↔ (0 < n)
not_zero_says zero = ((λ e. absurd (both_ways false refl e)), (λ lt. absurd (omega (arith, lt))))
not_zero_says (suc n) = let some : nat_eq (suc n) 0 ≡ false = grind (arith, nat_tests) in ((λ e. omega arith), (λ lt. rw some refl))

pub poison_decides : (old a b c d e : List Term) (x : ByteTerms) (kind some apart part id : TermId) → AreInRange old → IsByteTerms old x → Keeps old a → Keeps a b → Keeps b c → Keeps c d
    → Tests a kind (λ v. nat_eq (term_at v old x.kind) 2) → Tests b some (λ v. not (nat_eq (term_at v a x.mask) 0)) → Tests c apart (λ v. nat_eq (bit_and (term_at v b x.number) (term_at v b x.mask)) 0)
    → Tests d part (λ v. nat_eq (term_at v c x.block) 0 && (nat_eq (term_at v c x.offset) 0 && nat_eq (term_at v c x.part) 0))
    → Tests e id (λ v. bit_at v d kind && (bit_at v d some && (bit_at v d apart && bit_at v d part)))
    → Decides e id (λ v. IsPoisonByte (byte_numbers v old x))
poison_decides old a b c d e x kind some apart part id range h ka kb kc kd t1 t2 t3 t4 t5 =
    let k_b = keeps_trans old a b ka kb in
    let two = is_known old old a x.kind kind 2 h.kind.within (keeps_self old) t1 in
    let masked = tested b some (λ v. not (nat_eq (term_at v a x.mask) 0)) (λ v. 0 < term_at v old x.mask) t2 (λ v. rw (term-later old a ka v x.mask h.mask.within) (not_zero_says (term_at v old x.mask))) in
    let no_common = tested c apart (λ v. nat_eq (bit_and (term_at v b x.number) (term_at v b x.mask)) 0) (λ v. bit_and (term_at v old x.number) (term_at v old x.mask) ≡ 0) t3
    (λ v. rw (term-later old b k_b v x.number h.number.within, term-later old b k_b v x.mask h.mask.within) (equal_says (bit_and (term_at v old x.number) (term_at v old x.mask)) 0)) in
    let no_part = are_zero old c d x part h (keeps_trans old b c k_b kc) t4 in
    as_fact e id _ (λ v. IsPoisonByte (byte_numbers v old x)) (four_decide a b c d e kind some apart part id _ _ _ _ kb kc kd two masked no_common no_part t5)
    (λ v.
    poison_says (term_at v old x.kind) (term_at v old x.mask) (term_at v old x.number) (term_at v old x.block) (term_at v old x.offset) (term_at v old x.part)
    (term-below old 8 x.mask range h.mask v) (term-below old 8 x.number range h.number v))

-- ---- a byte

pub byte_decides : (old a b c d e : List Term) (x : ByteTerms) (layout : Layout) (number part poison rest id : TermId) → IsByteTerms old x → Keeps old a → Keeps a b → Keeps b c → Keeps c d
    → Decides a number (λ v. IsNumberByte (byte_numbers v old x)) → Decides b part (λ v. IsPartByte layout (byte_numbers v a x))
    → Decides c poison (λ v. IsPoisonByte (byte_numbers v b x))
    → Tests d rest (λ v. bit_at v c part || bit_at v c poison) → Tests e id (λ v. bit_at v d number || bit_at v d rest)
    → Decides e id (λ v. IsCodeOfByte layout (byte_numbers v old x))
byte_decides old a b c d e x layout number part poison rest id h ka kb kc kd d1 d2 d3 t4 t5 =
    let number_d = decides-later a d (keeps_trans a c d (keeps_trans a b c kb kc) kd) number (λ v. IsNumberByte (byte_numbers v old x)) d1 in
    let part_old = at_equal b part (IsPartByte layout) (λ v. byte_numbers v a x) (λ v. byte_numbers v old x) d2 (byte-later old a ka x h) in
    let part_c = decides-later b c kc part (λ v. IsPartByte layout (byte_numbers v old x)) part_old in
    let poison_c = at_equal c poison IsPoisonByte (λ v. byte_numbers v b x) (λ v. byte_numbers v old x) d3 (byte-later old b (keeps_trans old a b ka kb) x h) in
    let rest_d = either_decides c d part poison rest (λ v. IsPartByte layout (byte_numbers v old x)) (λ v. IsPoisonByte (byte_numbers v old x)) part_c poison_c t4 in
    either_decides d e number rest id (λ v. IsNumberByte (byte_numbers v old x)) (λ v. IsPartByte layout (byte_numbers v old x) ⊎ IsPoisonByte (byte_numbers v old x)) number_d rest_d t5

-- ---- an index

placed : (p : Bool) (x y : ℕ) (layout : Layout) (ds : List ℕ) → ((truth x ≡ true) ↔ IsUnused ds) → ((truth y ≡ true) ↔ IsCodeOfByte layout ds) → (truth (cond p x y) ≡ true) ↔ IsCodeOfPlace layout p ds
placed true x y layout ds h g = h
placed false x y layout ds h g = g

pub place_decides : (old a b c d : List Term) (x : ByteTerms) (layout : Layout) (place : ℕ) (size byte unused is_past id : TermId) → IsByteTerms old x → size.index < length old → Keeps old a → Keeps a b → Keeps b c
    → Decides a byte (λ v. IsCodeOfByte layout (byte_numbers v old x)) → Decides b unused (λ v. IsUnused (byte_numbers v a x))
    → Tests c is_past (λ v. nat_le (term_at v b size) place) → Makes d id (width_of (tree_in c unused)) (λ v. cond (bit_at v c is_past) (term_at v c unused) (term_at v c byte))
    → Decides d id (λ v. IsCodeOfPlace layout (nat_le (term_at v old size) place) (byte_numbers v old x))
place_decides old a b c d x layout place size byte unused is_past id h within ka kb kc d1 d2 t3 m =
    let byte_c = decides-later a c (keeps_trans a b c kb kc) byte (λ v. IsCodeOfByte layout (byte_numbers v old x)) d1 in
    let unused_b = at_equal b unused IsUnused (λ v. byte_numbers v a x) (λ v. byte_numbers v old x) d2 (byte-later old a ka x h) in
    let unused_c = decides-later b c kc unused (λ v. IsUnused (byte_numbers v old x)) unused_b in (
      record { within = m.within; wide = m.wide ∙ unused_c.0.wide },
      λ v.
          let past_is : bit_at v c is_past ≡ nat_le (term_at v old size) place = t3.says v ∙ ap (λ n. nat_le n place) (term-later old b (keeps_trans old a b ka kb) v size within) in
          let is : bit_at v d id ≡ truth (cond (nat_le (term_at v old size) place) (term_at v c unused) (term_at v c byte)) = ap truth (m.says v) ∙ ap (λ q. truth (cond q (term_at v c unused) (term_at v c byte))) past_is in
          let told = placed (nat_le (term_at v old size) place) (term_at v c unused) (term_at v c byte) layout (byte_numbers v old x) (unused_c.1 v) (byte_c.1 v) in
          ((λ e. told.0 (sym is ∙ e)), (λ f. is ∙ told.1 f)),
    )
