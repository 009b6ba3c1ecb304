-- Printed blocks are spelled.
use Rattle.read_back.proofs.Common.{◌≡◌, ℕ, zero, ◌+◌, ◌-◌, ◌<◌, ◌≤◌, Bool, true, false, List, [], ◌∷◌, ◌++◌, map, length, Option, Some, None, refl, sym, ap, subst, ◌∙◌, arith, append_assoc, append-nil, nat_lt, ◌==◌, flat_map, AllByRecursion, lt-ltb, map-append, Place, Name, WrittenName, WrittenPhi, WrittenInst, WrittenLines, WrittenTerminator, WrittenBody, WrittenBlock, WrittenBlocks, is_comma, starts_line, line_begins, line_within, commas, whole_line, next_line, opened, lines, attachments, block, entry_block, begins_block, block_begins, next_block, blocks, never, either, part_begins, Piece, indented}
use Rattle.ir_words.specs.declared.word.LineStart.TheVariants as start
use Rattle.ir_words.specs.declared.written.WrittenLine.TheVariants as line
use Rattle.ir_grammar.specs.Grammar as form
use Rattle.ir_printer.specs.Pieces as piece
use Rattle.read_back.proofs.Written.{phi_pieces, inst_pieces, terminator_pieces, body_pieces, block_pieces}
use Rattle.read_back.proofs.Placeless.{name_of, phi_of, inst_of, terminator_of, body_of, block_of}
use Rattle.read_back.proofs.Spellable.{IsName, IsPhi, IsInst, AreInsts, IsTerminator, IsBody, body_size, AreBlocks}
use Rattle.read_back.proofs.SpelledTokens.{Reads, IsSpelled, AreSpelled, seq-last, upto-then, spelled-mapped, spelled-as, given-more, no-more, one-more, more-as, spelled-tail, tail-from}
use Rattle.read_back.proofs.SpelledNames.{label-again}
use Rattle.read_back.proofs.SpelledClasses.{a_name}
use Rattle.read_back.proofs.SpelledInsts.{same-both}
use Rattle.read_back.proofs.SpelledLines.{Lines, AddsTo, inst-more}
use Rattle.read_back.proofs.SpelledPhis.{AddsPhi, phi-more}
use Rattle.read_back.proofs.SpelledEnds.{end_word, end_text, end_pieces, end-parts, end-reads, end-spelled}

abbrev pub labelled : Option WrittenName → Option Name
labelled None = None
labelled (Some n) = Some n.name

-- lines so far with these parts, of which the next instruction has this number
pub record LinesAre (label : Option Name) (phis : List WrittenPhi) (insts : List WrittenInst)
    (n : ℕ) (s : WrittenLines) : Type 0 where
  pub is_label : labelled s.label ≡ label
  pub are_phis : map phi_of s.phis ≡ phis
  pub are_insts : map inst_of s.insts ≡ insts
  pub counted : s.room + n ≡ 65536

has-room : (room n : ℕ) → room + n ≡ 65536 → n < 65536 → nat_lt 0 room ≡ true
has-room room n e l = lt-ltb 0 room (omega (arith, e, l))

number-is : (room n : ℕ) → room + n ≡ 65536 → 65536 - room ≡ n
number-is room n e = omega (arith, e)

less-room : (room n : ℕ) → room + n ≡ 65536 → n < 65536 → room - 1 + (n + 1) ≡ 65536
less-room room n e l = omega (arith, e, l)

-- ---- lines

one-inst : (label : Option Name) (phis : List WrittenPhi) (before : List WrittenInst) (n : ℕ)
    (s next : WrittenLines) (i : WrittenInst) → LinesAre label phis before n s → n < 65536
    → AddsTo s i next → LinesAre label phis (before ++ inst_of i ∷ []) (n + 1) next
one-inst label phis before n s next i L few A =
    subst (λ (t : WrittenLines). LinesAre label phis (before ++ inst_of i ∷ []) (n + 1) t)
    (sym A.is) (record {
      is_label = L.is_label;
      are_phis = L.are_phis;
      are_insts =
          map-append inst_of s.insts (A.inst ∷ []) ∙ same-both
          (λ (xs : List WrittenInst) (x : WrittenInst). xs ++ x ∷ []) L.are_insts A.same;
      counted = less-room s.room n L.counted few;
    })

insts-spelled : (label : Option Name) (phis : List WrittenPhi) (before : List WrittenInst) (n : ℕ)
    (insts : List WrittenInst) (s : WrittenLines) → LinesAre label phis before n s
    → AreInsts n insts → n + length insts < 65536
    → Lines s (flat_map inst_pieces insts)
    (LinesAre label phis (before ++ map inst_of insts) (n + length insts))
insts-spelled label phis before n [] s L all few =
    no-more
    (record {
      is_label = L.is_label;
      are_phis = L.are_phis;
      are_insts = L.are_insts ∙ sym (append-nil before);
      counted = omega (arith, L.counted);
    })
insts-spelled label phis before n (i ∷ insts) s L (here, all) few =
    let small : n < 65536 = omega (arith, few) in
    inst-more s i (flat_map inst_pieces insts) (has-room s.room n L.counted small)
    (subst (λ (k : ℕ). IsInst k i) (sym (number-is s.room n L.counted)) here) (λ next A.
    more-as
    (insts-spelled label phis (before ++ inst_of i ∷ []) (n + 1) insts next
    (one-inst label phis before n s next i L small A) all (omega (arith, few)))
    (λ t M. record {
      is_label = M.is_label;
      are_phis = M.are_phis;
      are_insts = M.are_insts ∙ append_assoc before (inst_of i ∷ []) (map inst_of insts);
      counted = omega (arith, M.counted);
    }))

one-phi : (label : Option Name) (before : List WrittenPhi) (n : ℕ) (s next : WrittenLines)
    (p : WrittenPhi) → LinesAre label before [] n s → n < 65536 → AddsPhi s p next
    → LinesAre label (before ++ phi_of p ∷ []) [] (n + 1) next
one-phi label before n s next p L few A =
    subst (λ (t : WrittenLines). LinesAre label (before ++ phi_of p ∷ []) [] (n + 1) t) (sym A.is)
    (record {
      is_label = L.is_label;
      are_phis =
          map-append phi_of s.phis (A.phi ∷ []) ∙ same-both
          (λ (xs : List WrittenPhi) (x : WrittenPhi). xs ++ x ∷ []) L.are_phis A.same;
      are_insts = L.are_insts;
      counted = less-room s.room n L.counted few;
    })

no-insts : (insts : List WrittenInst) → map inst_of insts ≡ [] → (length insts == 0) ≡ true
no-insts [] e = refl
no-insts (i ∷ insts) e = absurd (cc e)

phis-spelled : {Is : WrittenLines → Type 0} (label : Option Name) (before : List WrittenPhi) (n : ℕ)
    (phis : List WrittenPhi) (s : WrittenLines) (qs : List Piece) → LinesAre label before [] n s
    → AllByRecursion IsPhi phis → n + length phis < 65536
    → ((next : WrittenLines) → LinesAre label (before ++ map phi_of phis) [] (n + length phis) next
    → Lines next qs Is) → Lines s (flat_map phi_pieces phis ++ qs) Is
phis-spelled label before n [] s qs L all few more =
    more s
    (record {
      is_label = L.is_label;
      are_phis = L.are_phis ∙ sym (append-nil before);
      are_insts = L.are_insts;
      counted = omega (arith, L.counted);
    })
phis-spelled {Is} label before n (p ∷ phis) s qs L (here, all) few more =
    let small : n < 65536 = omega (arith, few) in
    subst (λ (pieces : List Piece). Lines s pieces Is)
    (sym (append_assoc (phi_pieces p) (flat_map phi_pieces phis) qs))
    (phi-more s p (flat_map phi_pieces phis ++ qs) (has-room s.room n L.counted small)
    (no-insts s.insts L.are_insts) here (λ next A.
    phis-spelled label (before ++ phi_of p ∷ []) (n + 1) phis next qs
    (one-phi label before n s next p L small A) all (omega (arith, few)) (λ t M.
    more t
    (record {
      is_label = M.is_label;
      are_phis = M.are_phis ∙ append_assoc before (phi_of p ∷ []) (map phi_of phis);
      are_insts = M.are_insts;
      counted = omega (arith, M.counted);
    }))))

abbrev lines_pieces : WrittenBody → List Piece
lines_pieces b = flat_map phi_pieces b.phis ++ flat_map inst_pieces b.insts

-- the number of a block's last instruction
abbrev last_number : ℕ → WrittenBody → ℕ
last_number n b = n + length b.phis + length b.insts

abbrev AreLinesOf : Option Name → ℕ → WrittenBody → WrittenLines → Type 0
AreLinesOf label n b s =
    LinesAre label (map phi_of b.phis) (map inst_of b.insts) (last_number n b) s

body-lines : (label : Option Name) (n : ℕ) (b : WrittenBody) (s : WrittenLines)
    → LinesAre label [] [] n s → IsBody n b → n + body_size b ≤ 65536 → Lines s (lines_pieces b)
    (AreLinesOf label n b)
body-lines label n b s L B few =
    phis-spelled label [] n b.phis s (flat_map inst_pieces b.insts) L B.phis (omega (arith, few))
    (λ next M.
    insts-spelled label (map phi_of b.phis) [] (n + length b.phis) b.insts next M B.insts
    (omega (arith, few)))

-- ---- a block

pub record BlockIs (label : Option Name) (b : WrittenBody) (n : ℕ)
    (x : WrittenLines × WrittenTerminator) : Type 0 where
  pub is_label : labelled x.0.label ≡ label
  pub is_body : body_of (form.body_of x) ≡ body_of b
  pub counted : x.0.room - 1 + (n + body_size b) ≡ 65536

a-body : (s : WrittenLines) (last : WrittenTerminator) (b : WrittenBody)
    → map phi_of s.phis ≡ map phi_of b.phis → map inst_of s.insts ≡ map inst_of b.insts
    → terminator_of last ≡ terminator_of b.terminator → body_of (form.body_of (s, last)) ≡ body_of b
a-body s last b p i t =
    same-both
    (λ (x : List WrittenPhi)
    (y : List WrittenInst). record { phis = x; insts = y; terminator = terminator_of last })
    p i ∙ ap
    (λ (z : WrittenTerminator). record {
      phis = map phi_of b.phis;
      insts = map inst_of b.insts;
      terminator = z;
    }) t

block-counted : (room n p i : ℕ) → room + (n + p + i) ≡ 65536 → n + (p + i + 1) ≤ 65536
    → room - 1 + (n + (p + i + 1)) ≡ 65536
block-counted room n p i e few = omega (arith, e, few)

block-spelled : (is_new : Bool) (room : ℕ) (label : Option Name) (n : ℕ) (b : WrittenBody)
    (ps : List Piece) → IsSpelled (lines is_new room) ps (AreLinesOf label n b)
    → IsTerminator b.terminator → n + body_size b ≤ 65536
    → IsSpelled (block is_new room) (ps ++ terminator_pieces b.terminator) (BlockIs label b n)
unfolding block attachments
block-spelled is_new room label n b ps found is few =
    subst (λ (qs : List Piece). IsSpelled (block is_new room) (ps ++ qs) (BlockIs label b n))
    (end-parts b.terminator)
    (upto-then ps (end_pieces b.terminator) (piece.word indented (end_text b.terminator))
    (λ at. end_word b.terminator) found
    (λ s L. end-reads b.terminator (nat_lt 0 s.room)
    (has-room s.room (last_number n b) L.counted (omega (arith, few))))
    (λ s L at. seq-last (end-spelled b.terminator is) (λ last e.
    spelled-mapped (either never (either is_comma never))
    (tail-from is_comma never
    (no-more
    (record {
      is_label = L.is_label;
      is_body = a-body s last b L.are_phis L.are_insts e;
      counted = block-counted s.room n (length b.phis) (length b.insts) L.counted few;
    }))))))

-- ---- the entry

-- the lines of an entry whose label was read
abbrev behind_label : Name → Place → WrittenLines
behind_label n at =
    record { label = Some (a_name n at); phis = []; insts = []; is_new = false; room = 65536 }

label-reads : (n : Name) → IsName n
    → Reads (part_begins starts_line (line_begins (opened true 65536)))
    (line_within (opened true 65536)) (piece.label n) (λ at. start.Label (a_name n at))
label-reads n is =
    record {
      stands_for = λ t. ap (λ (m : Name). Some (start.Label (a_name m t.place))) (label-again n is);
      keeps = λ t. refl;
    }

entry-lines : (n : Name) (b : WrittenBody) → IsName n → IsBody 0 b → body_size b ≤ 65536
    → IsSpelled (lines true 65536) (piece.label n ∷ lines_pieces b) (AreLinesOf (Some n) 0 b)
unfolding lines next_line whole_line
entry-lines n b is B few =
    tail-from starts_line (either commas never) (
    given-more (λ at. start.Label (a_name n at)) (behind_label n) (label-reads n is)
    (λ at ts. (
      line.Label (a_name n at),
      (line.Label (a_name n at), ts, (refl, refl), zero, (refl, refl)),
      refl,
    )) (λ at.
    body-lines (Some n) 0 b (behind_label n at)
    (record { is_label = refl; are_phis = refl; are_insts = refl; counted = refl }) B
    (omega (arith, few))))

pub record BlocksAre (label : Option Name) (entry : WrittenBody) (others : List WrittenBlock)
    (s : WrittenBlocks) : Type 0 where
  pub is_label : labelled s.label ≡ label
  pub is_entry : body_of s.entry ≡ entry
  pub are_others : map block_of s.others ≡ others

pub record EntryIs (n : Name) (b : WrittenBody) (s : WrittenBlocks) : Type 0 where
  pub parts : BlocksAre (Some n) (body_of b) [] s
  pub counted : s.room + body_size b ≡ 65536

entry-spelled : (n : Name) (b : WrittenBody) → IsName n → IsBody 0 b → body_size b ≤ 65536
    → IsSpelled entry_block (body_pieces n b) (EntryIs n b)
unfolding entry_block
entry-spelled n b is B few =
    subst (λ (ps : List Piece). IsSpelled entry_block (piece.label n ∷ ps) (EntryIs n b))
    (append_assoc (flat_map phi_pieces b.phis) (flat_map inst_pieces b.insts)
    (terminator_pieces b.terminator))
    (spelled-mapped (either commas never)
    (spelled-as
    (block-spelled true 65536 (Some n) 0 b (piece.label n ∷ lines_pieces b)
    (entry-lines n b is B few) B.last (omega (arith, few))) (λ x X.
    record {
      parts = record { is_label = X.is_label; is_entry = X.is_body; are_others = refl };
      counted = omega (arith, X.counted);
    })))

-- ---- other blocks

other-lines : (room n : ℕ) (b : WrittenBody) → room + n ≡ 65536 → IsBody n b
    → n + body_size b ≤ 65536 → IsSpelled (lines false room) (lines_pieces b) (AreLinesOf None n b)
unfolding lines
other-lines room n b e B few =
    tail-from starts_line (either commas never)
    (body-lines None n b (opened false room)
    (record { is_label = refl; are_phis = refl; are_insts = refl; counted = e }) B few)

-- one more block
record AddsBlock (s : WrittenBlocks) (name : Name) (b : WrittenBody) (n : ℕ)
    (next : WrittenBlocks) : Type 0 where
  pub block : WrittenBlock
  pub is_label : next.label ≡ s.label
  pub is_entry : next.entry ≡ s.entry
  pub are_others : next.others ≡ s.others ++ block ∷ []
  pub same : block_of block ≡ record {
    label = record {
      name = name;
      at = (name_of block.label).at;
    };
    body = body_of b;
  }
  pub counted : next.room + n ≡ 65536

other-spelled : (s : WrittenBlocks) (name : Name) (at : Place) (n : ℕ) (b : WrittenBody)
    → s.room + n ≡ 65536 → IsBody n b → n + body_size b ≤ 65536
    → IsSpelled (next_block s (a_name name at))
    (flat_map phi_pieces b.phis ++ (flat_map inst_pieces b.insts ++ terminator_pieces b.terminator))
    (AddsBlock s name b (n + body_size b))
unfolding next_block
other-spelled s name at n b e B few =
    subst
    (λ (ps : List Piece). IsSpelled (next_block s (a_name name at)) ps
    (AddsBlock s name b (n + body_size b)))
    (append_assoc (flat_map phi_pieces b.phis) (flat_map inst_pieces b.insts)
    (terminator_pieces b.terminator))
    (spelled-mapped (either commas never)
    (spelled-as
    (block-spelled false s.room None n b (lines_pieces b) (other-lines s.room n b e B few)
    B.last few) (λ x X.
    record {
      block = record { label = a_name name at; body = form.body_of x };
      is_label = refl;
      is_entry = refl;
      are_others = refl;
      same = ap
          (λ (y : WrittenBody). record { label = name_of (a_name name at); body = y }) X.is_body;
      counted = X.counted;
    })))

block-reads : (s : WrittenBlocks) (n : Name) → IsName n
    → Reads (part_begins begins_block (block_begins s)) (λ t. true) (piece.label n) (a_name n)
block-reads s n is =
    record {
      stands_for = λ t. ap (λ (m : Name). Some (a_name m t.place)) (label-again n is);
      keeps = λ t. refl;
    }

within-most : (n : ℕ) (bs : List WrittenBlock) → AreBlocks n bs → n ≤ 65536
within-most n [] all = all
within-most n (b ∷ bs) (is, B, all) = omega (arith, within-most (n + body_size b.body) bs all)

one-block : (label : Option Name) (entry : WrittenBody) (before : List WrittenBlock) (n : ℕ)
    (s next : WrittenBlocks) (b : WrittenBlock) → BlocksAre label entry before s
    → AddsBlock s b.label.name b.body n next
    → BlocksAre label entry (before ++ block_of b ∷ []) next
one-block label entry before n s next b S A = record {
  is_label = ap labelled A.is_label ∙ S.is_label;
  is_entry = ap body_of A.is_entry ∙ S.is_entry;
  are_others =
      ap (map block_of) A.are_others ∙ map-append block_of s.others (A.block ∷ []) ∙ same-both
      (λ (xs : List WrittenBlock) (x : WrittenBlock). xs ++ x ∷ []) S.are_others A.same;
}

others-spelled : (label : Option Name) (entry : WrittenBody) (before : List WrittenBlock) (n : ℕ)
    (bs : List WrittenBlock) (s : WrittenBlocks) → BlocksAre label entry before s
    → s.room + n ≡ 65536 → AreBlocks n bs
    → AreSpelled begins_block block_begins (λ s' t. true) next_block s (flat_map block_pieces bs)
    (BlocksAre label entry (before ++ map block_of bs))
others-spelled label entry before n [] s S e all =
    no-more
    (record {
      is_label = S.is_label;
      is_entry = S.is_entry;
      are_others = S.are_others ∙ sym (append-nil before);
    })
others-spelled label entry before n (b ∷ bs) s S e (is, B, all) =
    one-more {Next = AddsBlock s b.label.name b.body (n + body_size b.body)}
    (piece.label b.label.name)
    (flat_map phi_pieces b.body.phis
    ++ (flat_map inst_pieces b.body.insts ++ terminator_pieces b.body.terminator))
    (flat_map block_pieces bs) (a_name b.label.name) (block-reads s b.label.name is)
    (λ at. other-spelled s b.label.name at n b.body e B (within-most (n + body_size b.body) bs all))
    (λ next A. more-as
    (others-spelled label entry (before ++ block_of b ∷ []) (n + body_size b.body) bs next
    (one-block label entry before (n + body_size b.body) s next b S A) A.counted all)
    (λ t T. record {
      is_label = T.is_label;
      is_entry = T.is_entry;
      are_others = T.are_others ∙ append_assoc before (block_of b ∷ []) (map block_of bs);
    }))

pub blocks-spelled : (n : Name) (b : WrittenBody) (bs : List WrittenBlock) → IsName n → IsBody 0 b
    → AreBlocks (body_size b) bs → IsSpelled blocks (body_pieces n b ++ flat_map block_pieces bs)
    (BlocksAre (Some n) (body_of b) (map block_of bs))
unfolding blocks
blocks-spelled n b bs is B all =
    spelled-tail begins_block (either (either commas never) never)
    (either (either commas never) never) {First = EntryIs n b} (body_pieces n b)
    (flat_map block_pieces bs) (entry-spelled n b is B (within-most (body_size b) bs all)) (λ s E.
    others-spelled (Some n) (body_of b) [] (body_size b) bs s E.parts E.counted all)
