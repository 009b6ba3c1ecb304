-- Where a text stops being items, and why.
use Rattle.std.specs.Prelude.{◌≡◌, ℕ, ◌+◌, ◌<◌, ◌≤◌, List, length, Some, None, true, false, ◌||◌, is_some}
use Rattle.ir_lexer.specs.Lexeme.{Lexeme}
use Rattle.ir_tree.specs.declared.name.Name.{Name}
use Rattle.ir_items.specs.declared.item.Define.{Define}
use Rattle.ir_items.specs.declared.fault.Why.{Why}
use Rattle.ir_items.specs.declared.fault.Why.TheVariants as why
use Rattle.ir_items.specs.declared.fault.ItemFault.{ItemFault}
use Rattle.ir_items.specs.declared.fault.ItemFault.TheVariants.{Stop, NoMemory}
use Rattle.ir_items.specs.Marks.{marks, has_open, IsBalanced, IsInside}
use Rattle.ir_items.specs.Items.{is_head, is_define, begins_item, is_wrong_layout, OtherGoesOn, BeforeName, IsNamed, BeforeBody, HasBody, name_at, has_name, IsCut}

-- after these defines one more may follow: it begins at an index, and its name, which none of them
-- has, is at another
pub record IsNew (tokens : List Lexeme) (defines : List Define) (first place : ℕ) : Type 0 where
  pub few : length defines < 4096
  pub named : IsNamed tokens first place
  pub name : Name
  pub spelled : name_at tokens place ≡ Some name
  pub fresh : has_name defines name ≡ false

-- The item that begins at an index, after these defines, goes on to another: no item ends before,
-- and none stops.
pub data GoesOn (tokens : List Lexeme) (defines : List Define) (first : ℕ) : ℕ → Type 0 where
  other : {place : ℕ} → OtherGoesOn tokens first place → is_some (marks tokens first place) ≡ true → GoesOn tokens defines first place
  before_name : {place : ℕ} → length defines < 4096 → BeforeName tokens first place → is_some (marks tokens first place) ≡ true → GoesOn tokens defines first place
  in_parameters : {name place : ℕ} → IsNew tokens defines first name → name + 1 ≤ place → IsInside tokens (name + 1) place → GoesOn tokens defines first place
  before_body : {name place : ℕ} → IsNew tokens defines first name → BeforeBody tokens first name place → is_some (marks tokens first place) ≡ true → GoesOn tokens defines first place
  in_body : {name body place : ℕ} → IsNew tokens defines first name → HasBody tokens first name body → body ≤ place → IsInside tokens body place → GoesOn tokens defines first place

-- The item that begins at an index, after these defines, stops at a token, for this reason. The
-- text ends at the index after the last token. From its body on nothing of a define is at depth 0.
pub data StopsAt (tokens : List Lexeme) (defines : List Define) (first : ℕ) : ℕ → Why → Type 0 where
  no_item : first < length tokens → is_head tokens first ≡ false → StopsAt tokens defines first first why.NoItem
  bracket : {place : ℕ} → GoesOn tokens defines first place → place < length tokens → marks tokens first (place + 1) ≡ None → StopsAt tokens defines first place why.Bracket
  no_body : {place : ℕ} → is_define tokens first ≡ true → GoesOn tokens defines first place → IsBalanced tokens first place → begins_item tokens place ≡ true → StopsAt tokens defines first place why.NoBody
  text_ends : GoesOn tokens defines first (length tokens) → (is_define tokens first || has_open (marks tokens first (length tokens))) ≡ true → StopsAt tokens defines first (length tokens) why.TextEnds
  name_twice : {place : ℕ} {name : Name} → length defines < 4096 → IsNamed tokens first place → name_at tokens place ≡ Some name → has_name defines name ≡ true → StopsAt tokens defines first place why.NameTwice
  too_many : is_define tokens first ≡ true → length defines ≡ 4096 → StopsAt tokens defines first first why.TooManyFunctions
  layout : OtherGoesOn tokens first (first + 3) → is_wrong_layout tokens first ≡ true → StopsAt tokens defines first (first + 3) why.DataLayout

-- after some whole items the next one stops
pub record IsStop (tokens : List Lexeme) (place : ℕ) (reason : Why) : Type 0 where
  pub first : ℕ
  pub defines : List Define
  pub items : IsCut tokens first defines
  pub stops : StopsAt tokens defines first place reason

-- running out of memory is always allowed
abbrev pub Stops : List Lexeme → ItemFault → Type 0
Stops tokens NoMemory = Unit {0}
Stops tokens (Stop place reason) = IsStop tokens place reason
