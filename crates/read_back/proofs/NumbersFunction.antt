-- Names occur where their numbers do.
use Rattle.read_back.proofs.Common.{◌≡◌, ℕ, List, [], ◌∷◌, ◌++◌, codes, refl, sym, ap, ◌∙◌, flat_map, Name, Parameter, Block, NamedParameter, Numbered, each_in, parameter_in, blocks_in, parts_in, function_of, named_behind, entry_name, numbered, Piece, parameter_pieces, parameters_pieces, block_pieces, function_pieces}
use Rattle.std.proofs.lemmas.List.{append-nil}
use Rattle.ir_printer.specs.Pieces as pieces
use Rattle.read_back.proofs.Written as written
use Rattle.read_back.proofs.Steps.{PiecesAreWritten}
use Rattle.read_back.proofs.NumbersShown.{Kept, kept-on, Keeps, keeps-then, grows-not, each-kept, name-kept}
use Rattle.read_back.proofs.NumbersBlocks.{append-same, blocks-kept}

-- ---- parameters

parameter-kept : (gap : List ℕ) (names : List Name) (p : NamedParameter) → Keeps names (λ (all : List Name) (x : Parameter). parameter_pieces all gap x) (written.parameter_pieces gap p) (parameter_in names p)
unfolding parameter_in
parameter-kept gap names p = let N = name-kept names p.name in record { grows = N.grows; shows = λ later. rw (N.shows later) refl }

comma-kept : (names : List Name) (p : NamedParameter) → Keeps names (λ (all : List Name) (x : Parameter). pieces.comma ∷ parameter_pieces all pieces.space x) (pieces.comma ∷ written.parameter_pieces pieces.space p) (parameter_in names p)
unfolding parameter_in
comma-kept names p = let N = name-kept names p.name in record { grows = N.grows; shows = λ later. rw (N.shows later) refl }

parameters-kept : (names : List Name) (ps : List NamedParameter) → Keeps names parameters_pieces (written.parameters_pieces ps) (each_in parameter_in names ps)
parameters-kept names [] = record { grows = grows-not names; shows = λ later. refl }
parameters-kept names (p ∷ ps) =
    let goal : Numbered (List Parameter) → Type 0 = λ m. Keeps names parameters_pieces (written.parameters_pieces (p ∷ ps)) m in
    let shown : List Name → Parameter → List Piece = λ all x. pieces.comma ∷ parameter_pieces all pieces.space x in
    let is : NamedParameter → List Piece = λ x. pieces.comma ∷ written.parameter_pieces pieces.space x in
    keeps-then names (λ (all : List Name) (x : Parameter). parameter_pieces all pieces.none x) (written.parameter_pieces pieces.none p) (parameter_in names p) goal _ (parameter-kept pieces.none names p) (λ x before F.
    keeps-then before (λ (all : List Name) (xs : List Parameter). flat_map (shown all) xs) (flat_map is ps) (each_in parameter_in before ps) goal _ (each-kept parameter_in shown is comma-kept before ps) (λ xs after M.
    let F' = kept-on names before after F M.grows in
    record { grows = F'.grows; shows = λ later. append-same _ _ _ _ (F'.shows later) (M.shows later) }))

-- ---- the function

shown-whole : {X : Type 0} (names after : List Name) (shown : List Name → X) (is : X) → Kept names after shown is → shown after ≡ is
shown-whole names after shown is K = ap shown (sym (append-nil after)) ∙ K.shows []

whole-same : (header ps qs bs cs : List Piece) → ps ≡ qs → bs ≡ cs
    → header ++ (ps ++ (pieces.mark pieces.none (codes ")") ∷ pieces.mark pieces.space (codes "{") ∷ (bs ++ pieces.mark pieces.line (codes "}") ∷ []))) ≡ header ++ (qs ++ (pieces.mark pieces.none (codes ")") ∷ pieces.mark pieces.space (codes "{") ∷ (cs ++ pieces.mark pieces.line (codes "}") ∷ [])))
whole-same header ps qs bs cs e f =
    ap (λ (xs : List Piece). header ++ (xs ++ (pieces.mark pieces.none (codes ")") ∷ pieces.mark pieces.space (codes "{") ∷ (bs ++ pieces.mark pieces.line (codes "}") ∷ [])))) e
    ∙ ap (λ (xs : List Piece). header ++ (qs ++ (pieces.mark pieces.none (codes ")") ∷ pieces.mark pieces.space (codes "{") ∷ (xs ++ pieces.mark pieces.line (codes "}") ∷ [])))) f

pub pieces_are_written : PiecesAreWritten
unfolding numbered parts_in
pieces_are_written gap w =
    let named_ones = named_behind [] w.parameters in
    let label = entry_name w in
    keeps-then [] parameters_pieces (written.parameters_pieces named_ones) (each_in parameter_in [] named_ones) (λ m. function_pieces gap (function_of w m) ≡ written.written_pieces gap w) _ (parameters-kept [] named_ones) (λ ps before P.
    keeps-then before (λ (all : List Name) (bs : List Block). flat_map (block_pieces all) bs) (written.body_pieces label w.entry ++ flat_map written.block_pieces w.others) (blocks_in before label w.entry w.others) (λ m. function_pieces gap (function_of w m) ≡ written.written_pieces gap w) _ (blocks-kept before label w.entry w.others) (λ bs after B.
    let P' = kept-on [] before after P B.grows in
    whole-same (written.header_pieces gap w) _ _ _ _ (shown-whole [] after _ _ P') (shown-whole before after _ _ B)))
