-- The lines of a block, and the blocks of a function.
use Rattle.read_back.proofs.Common.{◌≡◌, ℕ, zero, suc, ◌+◌, ◌-◌, ◌<◌, ◌≤◌, Bool, true, false, List, [], ◌∷◌, ◌++◌, length, refl, sym, subst, arith, ◌==◌, AllByRecursion, ltb-true, eqb-true, length-append, part_begins, WrittenName, WrittenPhi, WrittenInst, WrittenLine, WrittenLines, WrittenTerminator, WrittenBlock, WrittenBlocks, label_of, any, default_align, starts_line, line_begins, line_within, may_have_phi, next_number, with_phi, with_inst, with_line, next_line, opened, lines, block, body_of, entry_block, begins_block, block_begins, with_block, next_block, blocks}
use Rattle.ir_words.specs.declared.written.WrittenInst.TheVariants as inst
use Rattle.ir_words.specs.declared.written.WrittenLine.TheVariants as line
use Rattle.read_back.proofs.Spellable.{IsName, IsNameOrNone, IsPhi, IsInst, AreInsts, IsBody, body_size, AreBlocks}
use Rattle.read_back.proofs.FitsForms.{Stands, Gives, GivesParts}
use Rattle.read_back.proofs.FitsNames.{label-is, named-is}
use Rattle.read_back.proofs.FitsMemory.{part-begins, own-alignment}
use Rattle.read_back.proofs.FitsPhis.{all-push}
use Rattle.read_back.proofs.FitsLines.{IsLine, line-fits}
use Rattle.read_back.proofs.FitsEnds.{terminator-gives}

-- ---- the lines so far

insts-push : (n : ℕ) (xs : List WrittenInst) (i : WrittenInst) → AreInsts n xs → IsInst (n + length xs) i → AreInsts n (xs ++ i ∷ [])
insts-push n [] i A I = let e : n + 0 ≡ n = omega arith in (subst (λ (m : ℕ). IsInst m i) e I, tt)
insts-push n (x ∷ xs) i (first, others) I = let e : n + suc (length xs) ≡ n + 1 + length xs = omega arith in (first, insts-push (n + 1) xs i others (subst (λ (m : ℕ). IsInst m i) e I))

no-insts : (n : ℕ) (xs : List WrittenInst) → (length xs == 0) ≡ true → AreInsts n xs
no-insts n [] e = tt
no-insts n (x ∷ xs) e = let none : suc (length xs) ≡ 0 = eqb-true (suc (length xs)) 0 e in absurd (omega (arith, none))

-- the first instruction has this number; what was counted and the room make up the most
record LinesFit (n : ℕ) (s : WrittenLines) : Type 0 where
  label : IsNameOrNone s.label
  phis : AllByRecursion IsPhi s.phis
  insts : AreInsts (n + length s.phis) s.insts
  counted : n + (length s.phis + length s.insts + s.room) ≡ 65536

phi-line : (n : ℕ) (s : WrittenLines) (p : WrittenPhi) → LinesFit n s → 0 < s.room → may_have_phi s ≡ true → IsPhi p → LinesFit n (with_phi s p)
phi-line n s p F some may P = record {
  label = F.label;
  phis = all-push IsPhi s.phis p F.phis P;
  insts = no-insts (n + length (s.phis ++ p ∷ [])) s.insts may;
  counted = omega (arith, some, F.counted, length-append s.phis (p ∷ []));
}

inst-line : (n : ℕ) (s : WrittenLines) (i : WrittenInst) → LinesFit n s → 0 < s.room → IsInst (next_number s) i → LinesFit n (with_inst s i)
inst-line n s i F some I =
    let is : next_number s ≡ n + length s.phis + length s.insts = omega (arith, F.counted) in
    record {
      label = F.label;
      phis = F.phis;
      insts = insts-push (n + length s.phis) s.insts i F.insts (subst (λ (m : ℕ). IsInst m i) is I);
      counted = omega (arith, some, F.counted, length-append s.insts (i ∷ []));
    }

one-line-more : (n : ℕ) (s : WrittenLines) (l : WrittenLine) → LinesFit n s → IsLine (may_have_phi s) (next_number s) s.room l → LinesFit n (with_line s l)
one-line-more n s (line.Label name) F is = record { label = is; phis = F.phis; insts = F.insts; counted = F.counted }
one-line-more n s line.Record F is = record { label = F.label; phis = F.phis; insts = F.insts; counted = F.counted }
one-line-more n s (line.Entries p) F (some, may, P) = phi-line n s p F some may P
one-line-more n s (line.Phi p) F (some, may, P) = phi-line n s p F some may P
one-line-more n s (line.Access a) F (some, A) = inst-line n s (inst.Access a (default_align a)) F some (A, own-alignment a)
one-line-more n s (line.Indices g) F (some, G) = inst-line n s (inst.GetElementPtr g) F some G
one-line-more n s (line.Inst i) F (some, I) = inst-line n s i F some I

lines-more : (m n : ℕ) (s x : WrittenLines) → GivesParts starts_line line_begins line_within (λ s' a next. Gives (next_line s' a) next) m s x → LinesFit n s → LinesFit n x
unfolding next_line
lines-more zero n s x same F = subst (λ (y : WrittenLines). LinesFit n y) same F
lines-more (suc m) n s x (a, next, T, (l, L, same), more) F = lines-more m n next x more (subst (λ (y : WrittenLines). LinesFit n y) same (one-line-more n s l F (line-fits s a l T L)))

lines-give : (is_new : Bool) (n room : ℕ) (x : WrittenLines) → n + room ≡ 65536 → Gives (lines is_new room) x → LinesFit n x
unfolding lines
lines-give is_new n room x counted (s, first, m, P) =
    let none : LinesFit n (opened is_new room) = record { label = tt; phis = tt; insts = tt; counted = omega (arith, counted) } in
    lines-more m n s x P (subst (λ (y : WrittenLines). LinesFit n y) first none)

-- ---- a block

record BlockFits (n : ℕ) (b : WrittenLines × WrittenTerminator) : Type 0 where
  label : IsNameOrNone b.0.label
  body : IsBody n (body_of b)
  counted : n + body_size (body_of b) + (b.0.room - 1) ≡ 65536

block-gives : (is_new : Bool) (n room : ℕ) (b : WrittenLines × WrittenTerminator) → n + room ≡ 65536 → Gives (block is_new room) b → BlockFits n b
unfolding block
block-gives is_new n room b counted (all, (L, T), (last, E, (passed, A, same))) =
    let F = lines-give is_new n room all.0 counted L in
    let some : 0 < all.0.room = ltb-true 0 all.0.room T.keeps in
    subst (λ (y : WrittenLines × WrittenTerminator). BlockFits n y) same (record {
      label = F.label;
      body = record { phis = F.phis; insts = F.insts; last = terminator-gives all.1 last E };
      counted = omega (arith, some, F.counted);
    })

-- ---- the blocks so far

-- the first instruction has the one number, and the next one after them the other
abbrev BlocksTo : ℕ → List WrittenBlock → ℕ → Type 0
BlocksTo n [] m = n ≡ m
BlocksTo n (b ∷ bs) m = IsName b.label.name × IsBody n b.body × BlocksTo (n + body_size b.body) bs m

blocks-push : (n : ℕ) (bs : List WrittenBlock) (m : ℕ) (b : WrittenBlock) → BlocksTo n bs m → IsName b.label.name → IsBody m b.body → BlocksTo n (bs ++ b ∷ []) (m + body_size b.body)
blocks-push n [] m b same is B = subst (λ (k : ℕ). BlocksTo k (b ∷ []) (m + body_size b.body)) (sym same) (is, B, refl)
blocks-push n (x ∷ xs) m b (x-is, X, others) is B = (x-is, X, blocks-push (n + body_size x.body) xs m b others is B)

blocks-end : (n : ℕ) (bs : List WrittenBlock) (m : ℕ) → BlocksTo n bs m → m ≤ 65536 → AreBlocks n bs
blocks-end n [] m same few = omega (arith, same, few)
blocks-end n (b ∷ bs) m (is, B, others) few = (is, B, blocks-end (n + body_size b.body) bs m others few)

record BlocksFit (s : WrittenBlocks) : Type 0 where
  label : IsNameOrNone s.label
  entry : IsBody 0 s.entry
  next : ℕ
  others : BlocksTo (body_size s.entry) s.others next
  counted : next + s.room ≡ 65536

entry-gives : (x : WrittenBlocks) → Gives entry_block x → BlocksFit x
unfolding entry_block
entry-gives x (b, B, same) =
    let F = block-gives true 0 65536 b (omega arith) B in
    subst (λ (y : WrittenBlocks). BlocksFit y) same (record { label = F.label; entry = F.body; next = body_size (body_of b); others = refl; counted = omega (arith, F.counted) })

label-fits : (s : WrittenBlocks) (name : WrittenName) → Stands (part_begins begins_block (block_begins s)) any name → IsName name.name
label-fits s name S =
    let is = part-begins (begins_block S.token) (block_begins s S.token) name S.stands_for in
    named-is (label_of S.token.kind S.token.text) S.token.place name (λ n e. label-is S.token.kind S.token.text n S.bytes e) is

one-block-more : (s : WrittenBlocks) (name : WrittenName) (b : WrittenLines × WrittenTerminator) → (F : BlocksFit s) → IsName name.name → BlockFits F.next b → BlocksFit (with_block s name b)
one-block-more s name b F is B =
    let added : WrittenBlock = record { label = name; body = body_of b } in
    record { label = F.label; entry = F.entry; next = F.next + body_size (body_of b); others = blocks-push (body_size s.entry) s.others F.next added F.others is B.body; counted = B.counted }

blocks-more : (n : ℕ) (s x : WrittenBlocks) → GivesParts begins_block block_begins (λ s'. any) (λ s' a next. Gives (next_block s' a) next) n s x → BlocksFit s → BlocksFit x
unfolding next_block
blocks-more zero s x same F = subst (λ (y : WrittenBlocks). BlocksFit y) same F
blocks-more (suc n) s x (name, next, T, (b, B, same), more) F =
    let G = block-gives false F.next s.room b F.counted B in
    blocks-more n next x more (subst (λ (y : WrittenBlocks). BlocksFit y) same (one-block-more s name b F (label-fits s name T) G))

pub record AreSpellable (x : WrittenBlocks) : Type 0 where
  pub label : IsNameOrNone x.label
  pub entry : IsBody 0 x.entry
  pub others : AreBlocks (body_size x.entry) x.others

pub blocks-give : (x : WrittenBlocks) → Gives blocks x → AreSpellable x
unfolding blocks
blocks-give x (s, E, n, P) =
    let F = blocks-more n s x P (entry-gives s E) in
    record { label = F.label; entry = F.entry; others = blocks-end (body_size x.entry) x.others F.next F.others (omega (arith, F.counted)) }
