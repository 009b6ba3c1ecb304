-- What the parts of the cut return.
use Rattle.std.specs.Prelude.{◌≡◌, ℕ, ◌+◌, ◌-◌, ◌<◌, ◌≤◌, List, [], ◌∷◌, ◌++◌, length, Some, None, false}
use Rattle.ir_lexer.specs.Lexeme.{Lexeme}
use Rattle.ir_items.specs.declared.item.Define.{Define}
use Rattle.ir_items.specs.declared.fault.Why.{Why}
use Rattle.ir_items.specs.declared.fault.Why.TheVariants as why
use Rattle.ir_items.specs.declared.fault.ItemFault.{ItemFault}
use Rattle.ir_items.specs.declared.fault.ItemFault.TheVariants.{Stop, NoMemory}
use Rattle.ir_items.specs.Marks.{marks, IsInside}
use Rattle.ir_tree.specs.declared.name.Name.{Name}
use Rattle.ir_items.specs.Items.{IsDefine, name_at, has_name}
use Rattle.ir_items.specs.Stops.{StopsAt}

-- a piece that begins at an index stops at another
pub data PieceStopsAt (tokens : List Lexeme) (from : ℕ) : ℕ → Why → Type 0 where
  bracket : {place : ℕ} → from ≤ place → IsInside tokens from place → place < length tokens → marks tokens from (place + 1) ≡ None → PieceStopsAt tokens from place why.Bracket
  text_ends : {place : ℕ} → place ≡ length tokens → IsInside tokens from place → PieceStopsAt tokens from place why.TextEnds

abbrev pub PieceStops : List Lexeme → ℕ → ItemFault → Type 0
PieceStops tokens from NoMemory = Unit {0}
PieceStops tokens from (Stop place reason) = PieceStopsAt tokens from place reason

-- the item that begins at an index stops
abbrev pub ItemStops : List Lexeme → List Define → ℕ → ItemFault → Type 0
ItemStops tokens defines first NoMemory = Unit {0}
ItemStops tokens defines first (Stop place reason) = StopsAt tokens defines first place reason

-- after some defines another one begins at an index and ends before another, and is added
pub record IsAdded (tokens : List Lexeme) (first end : ℕ) (old new : List Define) : Type 0 where
  pub name : Name
  pub place : ℕ
  pub define : IsDefine tokens first place end
  pub named : name_at tokens place ≡ Some name
  pub fresh : has_name old name ≡ false
  pub few : length old < 4096
  pub added : new ≡ old ++ record { name = name; first = first; last = end - 1 } ∷ []
