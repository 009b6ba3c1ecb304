-- The steps of the proof that a printed module reads back.
use Rattle.read_back.proofs.Common.{◌≡◌, ℕ, List, [], map, true, All, Lexeme, Spells, SpellsPlainly, define, WrittenFunction, numbered, Piece, spelled, function_pieces, IsSameFunction, IsOfBytes}
use Rattle.read_back.proofs.Written.{written_pieces}
use Rattle.read_back.proofs.Placeless.{placeless}
use Rattle.read_back.proofs.Spellable.{IsSpellable}

-- 1: what is spelled by bytes is spellable
abbrev pub SpelledIsSpellable : Type 0
SpelledIsSpellable = (w : WrittenFunction) (tokens : List Lexeme) → All IsOfBytes tokens → Spells true define w tokens [] → IsSpellable w

-- 2: what is spellable is spelled by the tokens that are printed
abbrev pub SpellableIsSpelled : Type 0
SpellableIsSpelled = (gap : List ℕ) (w : WrittenFunction) → IsSpellable w → (tokens : List Lexeme) → map spelled tokens ≡ map (λ (p : Piece). (p.kind, p.text)) (written_pieces gap w)
    → (other : WrittenFunction) × SpellsPlainly true define other tokens [] × (placeless other ≡ placeless w)

-- 3: names occur where their numbers do
abbrev pub PiecesAreWritten : Type 0
PiecesAreWritten = (gap : List ℕ) (w : WrittenFunction) → function_pieces gap (numbered w) ≡ written_pieces gap w

-- 4: numbers don't depend on positions
abbrev pub PlacelessIsSame : Type 0
PlacelessIsSame = (w other : WrittenFunction) → placeless other ≡ placeless w → IsSameFunction (numbered w) (numbered other)
