-- What is shown of numbers by the names that they denote: phis, terminators and blocks.
use Rattle.read_back.proofs.Common.{◌≡◌, List, [], ◌∷◌, ◌++◌, codes, refl, ap, ◌∙◌, flat_map, with_name, Name, Inst, Phi, Block, WrittenEntry, WrittenPhi, WrittenCase, Void, Value, WrittenTerminator, WrittenBody, WrittenBlock, Numbered, so, each_in, inst_in, returned_in, entry_in, phi_in, case_in, branch_in, cond_branch_in, switch_in, terminator_in, block_in, labelled_in, blocks_in, Piece, block_pieces}
use Rattle.ir_tree.specs.declared.tree.PhiEntry.{PhiEntry}
use Rattle.ir_tree.specs.declared.tree.Case.{Case}
use Rattle.ir_tree.specs.declared.tree.Terminator.{Terminator}
use Rattle.ir_words.specs.declared.written.WrittenTerminator.TheVariants as end
use Rattle.ir_printer.specs.Pieces as pieces
use Rattle.ir_printer.specs.Instructions as printed
use Rattle.read_back.proofs.Written as written
use Rattle.read_back.proofs.NumbersShown.{kept-on, Keeps, keeps-then, grows-not, each-kept, name-kept, value-then, typed-then, inst-kept}

pub append-same : (ps qs cs ds : List Piece) → ps ≡ qs → cs ≡ ds → ps ++ cs ≡ qs ++ ds
append-same ps qs cs ds e f = ap (λ (xs : List Piece). xs ++ cs) e ∙ ap (λ (xs : List Piece). qs ++ xs) f

-- ---- phis

entry-kept : (names : List Name) (e : WrittenEntry) → Keeps names printed.entry_pieces (written.entry_pieces e) (entry_in names e)
unfolding entry_in
entry-kept names e =
    value-then names e.operand.value (λ m. Keeps names printed.entry_pieces (written.entry_pieces e) m) _ (λ o before V.
    let N = name-kept before e.from.name in
    let V' = kept-on names before (with_name before e.from.name) V N.grows in
    record { grows = V'.grows; shows = λ later. rw (V'.shows later, N.shows later) refl })

comma-kept : (names : List Name) (e : WrittenEntry) → Keeps names (λ (all : List Name) (x : PhiEntry). pieces.comma ∷ printed.entry_pieces all x) (pieces.comma ∷ written.entry_pieces e) (entry_in names e)
comma-kept names e = go (entry_in names e) (entry-kept names e)
  where
    go : (m : Numbered PhiEntry) → Keeps names printed.entry_pieces (written.entry_pieces e) m → Keeps names (λ (all : List Name) (x : PhiEntry). pieces.comma ∷ printed.entry_pieces all x) (pieces.comma ∷ written.entry_pieces e) m
    go (so x after) K = record { grows = K.grows; shows = λ later. ap (λ (xs : List Piece). pieces.comma ∷ xs) (K.shows later) }

entries-kept : (names : List Name) (items : List WrittenEntry) → Keeps names printed.entries_pieces (written.entries_pieces items) (each_in entry_in names items)
entries-kept names [] = record { grows = grows-not names; shows = λ later. refl }
entries-kept names (e ∷ items) =
    let goal : Numbered (List PhiEntry) → Type 0 = λ m. Keeps names printed.entries_pieces (written.entries_pieces (e ∷ items)) m in
    let shown : List Name → PhiEntry → List Piece = λ all x. pieces.comma ∷ printed.entry_pieces all x in
    let is : WrittenEntry → List Piece = λ x. pieces.comma ∷ written.entry_pieces x in
    keeps-then names printed.entry_pieces (written.entry_pieces e) (entry_in names e) goal _ (entry-kept names e) (λ x before F.
    keeps-then before (λ (all : List Name) (xs : List PhiEntry). flat_map (shown all) xs) (flat_map is items) (each_in entry_in before items) goal _ (each-kept entry_in shown is comma-kept before items) (λ xs after M.
    let F' = kept-on names before after F M.grows in
    record { grows = F'.grows; shows = λ later. append-same _ _ _ _ (F'.shows later) (M.shows later) }))

phi-kept : (names : List Name) (phi : WrittenPhi) → Keeps names printed.phi_pieces (written.phi_pieces phi) (phi_in names phi)
unfolding phi_in
phi-kept names phi =
    let before = with_name names phi.into.name in
    let N = name-kept names phi.into.name in
    keeps-then before printed.entries_pieces (written.entries_pieces phi.entries) (each_in entry_in before phi.entries) (λ m. Keeps names printed.phi_pieces (written.phi_pieces phi) m) _ (entries-kept before phi.entries) (λ all after E.
    let N' = kept-on names before after N E.grows in
    record { grows = N'.grows; shows = λ later. rw (N'.shows later, E.shows later) refl })

-- ---- terminators

case-kept : (names : List Name) (c : WrittenCase) → Keeps names printed.case_pieces (written.case_pieces c) (case_in names c)
unfolding case_in
case-kept names c = let N = name-kept names c.to.name in record { grows = N.grows; shows = λ later. rw (N.shows later) refl }

abbrev IsShown : List Name → WrittenTerminator → Numbered Terminator → Type 0
IsShown names t m = Keeps names printed.terminator_pieces (written.terminator_pieces t) m

terminator-kept : (names : List Name) (t : WrittenTerminator) → IsShown names t (terminator_in names t)
unfolding returned_in branch_in cond_branch_in switch_in
terminator-kept names (end.Return (Void at)) = record { grows = grows-not names; shows = λ later. refl }
terminator-kept names (end.Return (Value typed)) =
    typed-then names typed (λ m. IsShown names (end.Return (Value typed)) m) _ (λ o after T. record { grows = T.grows; shows = λ later. ap (λ (xs : List Piece). pieces.word pieces.indented (codes "ret") ∷ xs) (T.shows later) })
terminator-kept names (end.Branch to) = let N = name-kept names to.name in record { grows = N.grows; shows = λ later. rw (N.shows later) refl }
terminator-kept names (end.CondBranch bit condition if_true if_false) =
    value-then names condition.value (λ m. IsShown names (end.CondBranch bit condition if_true if_false) m) _ (λ c before C.
    let N = name-kept before if_true.name in
    let between = with_name before if_true.name in
    let M = name-kept between if_false.name in
    let N' = kept-on before between (with_name between if_false.name) N M.grows in
    let C' = kept-on names before (with_name between if_false.name) C N'.grows in
    record { grows = C'.grows; shows = λ later. rw (C'.shows later, N'.shows later, M.shows later) refl })
terminator-kept names (end.Switch type value default cases) =
    value-then names value.value (λ m. IsShown names (end.Switch type value default cases) m) _ (λ o before V.
    let N = name-kept before default.name in
    let between = with_name before default.name in
    keeps-then between (λ (all : List Name) (cs : List Case). flat_map (printed.case_pieces all) cs) (flat_map written.case_pieces cases) (each_in case_in between cases) (λ m. IsShown names (end.Switch type value default cases) m) _ (each-kept case_in printed.case_pieces written.case_pieces case-kept between cases) (λ all after C.
    let N' = kept-on before between after N C.grows in
    let V' = kept-on names before after V N'.grows in
    record { grows = V'.grows; shows = λ later. rw (V'.shows later, N'.shows later, C.shows later) refl }))
terminator-kept names end.Unreachable = record { grows = grows-not names; shows = λ later. refl }

-- ---- blocks

block-kept : (names : List Name) (label : Name) (b : WrittenBody) → Keeps names block_pieces (written.body_pieces label b) (block_in names label b)
unfolding block_in
block-kept names label b =
    let goal : Numbered Block → Type 0 = λ m. Keeps names block_pieces (written.body_pieces label b) m in
    let before = with_name names label in
    let N = name-kept names label in
    keeps-then before (λ (all : List Name) (xs : List Phi). flat_map (printed.phi_pieces all) xs) (flat_map written.phi_pieces b.phis) (each_in phi_in before b.phis) goal _ (each-kept phi_in printed.phi_pieces written.phi_pieces phi-kept before b.phis) (λ phis between P.
    keeps-then between (λ (all : List Name) (xs : List Inst). flat_map (printed.inst_pieces all) xs) (flat_map written.inst_pieces b.insts) (each_in inst_in between b.insts) goal _ (each-kept inst_in printed.inst_pieces written.inst_pieces inst-kept between b.insts) (λ insts behind I.
    keeps-then behind printed.terminator_pieces (written.terminator_pieces b.terminator) (terminator_in behind b.terminator) goal _ (terminator-kept behind b.terminator) (λ last after T.
    let I' = kept-on between behind after I T.grows in
    let P' = kept-on before between after P I'.grows in
    let N' = kept-on names before after N P'.grows in
    record { grows = N'.grows; shows = λ later. rw (N'.shows later, P'.shows later, I'.shows later, T.shows later) refl })))

pub blocks-kept : (names : List Name) (label : Name) (entry : WrittenBody) (others : List WrittenBlock)
    → Keeps names (λ (all : List Name) (bs : List Block). flat_map (block_pieces all) bs) (written.body_pieces label entry ++ flat_map written.block_pieces others) (blocks_in names label entry others)
unfolding blocks_in
blocks-kept names label entry others =
    let goal : Numbered (List Block) → Type 0 = λ m. Keeps names (λ (all : List Name) (bs : List Block). flat_map (block_pieces all) bs) (written.body_pieces label entry ++ flat_map written.block_pieces others) m in
    keeps-then names block_pieces (written.body_pieces label entry) (block_in names label entry) goal _ (block-kept names label entry) (λ first before F.
    keeps-then before (λ (all : List Name) (bs : List Block). flat_map (block_pieces all) bs) (flat_map written.block_pieces others) (each_in labelled_in before others) goal _ (each-kept labelled_in block_pieces written.block_pieces (λ ns b. block-kept ns b.label.name b.body) before others) (λ bs after M.
    let F' = kept-on names before after F M.grows in
    record { grows = F'.grows; shows = λ later. append-same _ _ _ _ (F'.shows later) (M.shows later) }))
