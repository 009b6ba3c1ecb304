-- The functions of a module that can be printed, as they are written.
use Rattle.read_back.proofs.Common.{◌≡◌, ℕ, suc, true, false, List, [], ◌∷◌, ◌++◌, length, map, Ok, Result, refl, ap, ◌∙◌, All, flat_map, AllByRecursion, AllZip, Lexeme, IsWellFormed, Name, Parameter, Block, Function, Refused, Entry, WrittenFunction, Numbered, so, parts_in, function_of, named_behind, entry_name, numbered, IsFunction, well_formed, Piece, accepted, accepted_first, function_pieces, functions_pieces, none, IsSameFunction, IsOfBytes, IsPrintableEntry}
use Rattle.read_back.proofs.Written.{written_pieces}
use Rattle.read_back.proofs.Spellable.{IsSpellable}
use Rattle.read_back.proofs.FitsFunction.{spelled_is_spellable}
use Rattle.read_back.proofs.NumbersFunction.{pieces_are_written}

-- the entry is a function that is written so
pub record Writes (e : Entry) (w : WrittenFunction) : Type 0 where
  pub function : Function
  pub accepted : e.function ≡ Ok function
  pub same : IsSameFunction (numbered w) function
  pub named : e.name ≡ w.name.name
  pub spellable : IsSpellable w
  pub well_formed : IsWellFormed (numbered w)

-- ---- each entry is written somehow

named_as : (w : WrittenFunction) (m : Numbered (List Parameter × List Block))
    → (function_of w m).name ≡ w.name.name
named_as w (so parts names) = refl

-- numbering keeps the function's name
pub numbered-name : (w : WrittenFunction) → (numbered w).name ≡ w.name.name
unfolding numbered
numbered-name w =
    named_as w (parts_in (named_behind [] w.parameters) (entry_name w) w.entry w.others)

writes : (e : Entry) (f g : Function) (tokens : List Lexeme) → e.function ≡ Ok f → e.name ≡ f.name
    → All IsOfBytes tokens → IsSameFunction g f → IsFunction tokens (Ok g)
    → (w : WrittenFunction) × Writes e w
writes e f g tokens accepted named bytes same (well_formed w spells well) = (
  w,
  record {
    function = f;
    accepted = accepted;
    same = same;
    named = named ∙ ap (λ (h : Function). h.name) same ∙ numbered-name w;
    spellable = spelled_is_spellable w tokens bytes spells;
    well_formed = well;
  },
)

pub all-written : (es : List Entry) → AllByRecursion IsPrintableEntry es
    → (ws : List WrittenFunction) × AllZip Writes es ws
all-written [] h = ([], tt)
all-written (e ∷ es) h =
    let p = h.0 in
    let s = p.spelled in
    let first = writes e p.function s.function s.tokens p.accepted p.named s.bytes s.same s.is in
    let others = all-written es h.1 in
    (first.0 ∷ others.0, (first.1, others.1))

-- ---- what is printed

printed_as : (gap : List ℕ) (f : Function) (w : WrittenFunction) → IsSameFunction (numbered w) f
    → function_pieces gap f ≡ written_pieces gap w
printed_as gap f w same = ap (function_pieces gap) same ∙ pieces_are_written gap w

first_accepted : (r : Result Function Refused) (f : Function) (fs : List Function) → r ≡ Ok f
    → accepted_first r fs ≡ f ∷ fs
first_accepted r f fs e = ap (λ (s : Result Function Refused). accepted_first s fs) e

pub later-pieces : (es : List Entry) (ws : List WrittenFunction) → AllZip Writes es ws
    → functions_pieces true (accepted es) ≡ flat_map (written_pieces (10 ∷ 10 ∷ [])) ws
later-pieces [] [] h = refl
later-pieces [] (w ∷ ws) h = absurd h
later-pieces (e ∷ es) [] h = absurd h
later-pieces (e ∷ es) (w ∷ ws) h =
    ap (functions_pieces true) (first_accepted e.function h.0.function (accepted es) h.0.accepted)
    ∙ ap (λ (ps : List Piece). ps ++ functions_pieces true (accepted es))
    (printed_as (10 ∷ 10 ∷ []) h.0.function w h.0.same)
    ∙ ap (λ (ps : List Piece). written_pieces (10 ∷ 10 ∷ []) w ++ ps) (later-pieces es ws h.1)

pub first-pieces : (e : Entry) (es : List Entry) (w : WrittenFunction) (ws : List WrittenFunction)
    → AllZip Writes (e ∷ es) (w ∷ ws)
    → functions_pieces false (accepted (e ∷ es))
    ≡ written_pieces none w ++ flat_map (written_pieces (10 ∷ 10 ∷ [])) ws
first-pieces e es w ws h =
    ap (functions_pieces false) (first_accepted e.function h.0.function (accepted es) h.0.accepted)
    ∙ ap (λ (ps : List Piece). ps ++ functions_pieces true (accepted es))
    (printed_as none h.0.function w h.0.same)
    ∙ ap (λ (ps : List Piece). written_pieces none w ++ ps) (later-pieces es ws h.1)

-- ---- names, limits and forms of all

pub names-written : (es : List Entry) (ws : List WrittenFunction) → AllZip Writes es ws
    → map (λ (e : Entry). e.name) es ≡ map (λ (w : WrittenFunction). w.name.name) ws
names-written [] [] h = refl
names-written [] (w ∷ ws) h = absurd h
names-written (e ∷ es) [] h = absurd h
names-written (e ∷ es) (w ∷ ws) h = ap (λ (n : Name). n ∷ map (λ (d : Entry). d.name) es) h.0.named
    ∙ ap (λ (ns : List Name). w.name.name ∷ ns) (names-written es ws h.1)

pub length-written : (es : List Entry) (ws : List WrittenFunction) → AllZip Writes es ws
    → length ws ≡ length es
length-written [] [] h = refl
length-written [] (w ∷ ws) h = absurd h
length-written (e ∷ es) [] h = absurd h
length-written (e ∷ es) (w ∷ ws) h = ap suc (length-written es ws h.1)

pub all-spellable : (es : List Entry) (ws : List WrittenFunction) → AllZip Writes es ws
    → AllByRecursion IsSpellable ws
all-spellable [] [] h = tt
all-spellable [] (w ∷ ws) h = absurd h
all-spellable (e ∷ es) [] h = absurd h
all-spellable (e ∷ es) (w ∷ ws) h = (h.0.spellable, all-spellable es ws h.1)
