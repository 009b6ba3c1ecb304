-- An item has one end, and one name and body where it is a define.
use Rattle.ir_items.proofs.Common.{◌≡◌, ℕ, ◌+◌, ◌<◌, ◌≤◌, false, List, length, subst, inl, inr, arith, cases_lt, cases_order, Lexeme, marks, IsBalanced, IsInside, IsPiece, begins_item, OtherGoesOn, IsOther, BeforeName, IsNamed, BeforeBody, HasBody, IsDefine}
use Rattle.ir_items.proofs.Opening.{not_balanced, deeper, piece_balanced}
use Rattle.ir_items.proofs.HeadTokens.{brace_begins_nothing}
use Rattle.ir_items.proofs.Phases.{wrong_and_right}

-- each is at most the other
one_number : (a b : ℕ) → a ≤ b → b ≤ a → a ≡ b
one_number a b ab ba = omega arith

-- inside a piece it doesn't end
pub inside_piece : (tokens : List Lexeme) (from end place : ℕ) → IsPiece tokens from end → IsInside tokens from place → place < end
inside_piece tokens from end place piece inside =
    elim (cases_lt place end) [
      | inl less ↦ less
      | inr more ↦ absurd (not_balanced (marks tokens from end) (inside end piece.some more) piece.balanced)
    ]

piece_le : (tokens : List Lexeme) (from e f : ℕ) → IsPiece tokens from e → IsPiece tokens from f → e ≤ f
piece_le tokens from e f a b =
    elim (cases_lt f e) [
      | inl less ↦ absurd (not_balanced (marks tokens from f) (a.first f b.some less) b.balanced)
      | inr more ↦ more
    ]

pub piece_one : (tokens : List Lexeme) (from e f : ℕ) → IsPiece tokens from e → IsPiece tokens from f → e ≡ f
piece_one tokens from e f a b = one_number e f (piece_le tokens from e f a b) (piece_le tokens from f e b a)

-- ---- an item that is no define

pub other_le : (tokens : List Lexeme) (first end place : ℕ) → IsOther tokens first end → OtherGoesOn tokens first place → place ≤ end
other_le tokens first end place item on =
    elim (cases_lt end place) [
      | inl less ↦ elim item.ends [
        | inl is ↦ absurd (omega (arith, is, on.within))
        | inr head ↦ wrong_and_right (on.no_head end item.goes_on.some less item.balanced) head
      ]
      | inr more ↦ more
    ]

pub other_one : (tokens : List Lexeme) (first e f : ℕ) → IsOther tokens first e → IsOther tokens first f → e ≡ f
other_one tokens first e f a b = one_number e f (other_le tokens first f e b a.goes_on) (other_le tokens first e f a b.goes_on)

-- ---- a define

-- the name of a define has no name before it
pub named_le : (tokens : List Lexeme) (first name place : ℕ) → IsNamed tokens first name → BeforeName tokens first place → place ≤ name
named_le tokens first name place named before =
    elim (cases_lt name place) [
      | inl less ↦ wrong_and_right (before.no_name name named.before.some less named.balanced) named.called
      | inr more ↦ more
    ]

pub named_one : (tokens : List Lexeme) (first m n : ℕ) → IsNamed tokens first m → IsNamed tokens first n → m ≡ n
named_one tokens first m n a b = one_number m n (named_le tokens first n m b a.before) (named_le tokens first m n a b.before)

body_le_named : (tokens : List Lexeme) (first name body place : ℕ) → HasBody tokens first name body → BeforeBody tokens first name place → place ≤ body
body_le_named tokens first name body place has before =
    let ends : before.end ≡ has.before.end = piece_one tokens (name + 1) before.end has.before.end before.parameters has.before.parameters in
    elim (cases_lt body place) [
      | inl less ↦ wrong_and_right (before.no_brace body (omega (arith, ends, has.before.behind)) less has.balanced) has.brace
      | inr more ↦ more
    ]

pub body_le : (tokens : List Lexeme) (first m n body place : ℕ) → HasBody tokens first m body → BeforeBody tokens first n place → place ≤ body
body_le tokens first m n body place has before =
    let names : n ≡ m = named_one tokens first n m before.named has.before.named in
    body_le_named tokens first m body place has (subst (λ (k : ℕ). BeforeBody tokens first k place) names before)

pub body_one : (tokens : List Lexeme) (first m n b c : ℕ) → HasBody tokens first m b → HasBody tokens first n c → b ≡ c
body_one tokens first m n b c x y = one_number b c (body_le tokens first n m c b y x.before) (body_le tokens first m n b c x y.before)

pub define_one : (tokens : List Lexeme) (first m n e f : ℕ) → IsDefine tokens first m e → IsDefine tokens first n f → (m ≡ n) × (e ≡ f)
define_one tokens first m n e f x y =
    let bodies : x.body ≡ y.body = body_one tokens first m n x.body y.body x.has_body y.has_body in (
      named_one tokens first m n x.has_body.before.named y.has_body.before.named,
      piece_one tokens y.body e f (subst (λ (k : ℕ). IsPiece tokens k e) bodies x.closed) y.closed,
    )

-- the indices of a define's parts increase
pub define_rises : (tokens : List Lexeme) (first name end : ℕ) (item : IsDefine tokens first name end)
    → (first < name) × (name + 1 < item.has_body.before.end) × (item.has_body.before.end ≤ item.body) × (item.body < end) × (end ≤ length tokens)
define_rises tokens first name end item =
    (item.has_body.before.named.before.some, item.has_body.before.parameters.some, item.has_body.before.behind, item.closed.some, item.closed.within)

pub define_balanced : (tokens : List Lexeme) (first name end : ℕ) → IsDefine tokens first name end → IsBalanced tokens first end
define_balanced tokens first name end item =
    let rises = define_rises tokens first name end item in
    piece_balanced tokens first item.body end (omega (arith, rises.0, rises.1, rises.2)) item.has_body.balanced item.closed

-- before its end no item begins at depth 0 in a define
pub define_no_head : (tokens : List Lexeme) (first name end place : ℕ) → IsDefine tokens first name end → first < place → place < end → IsBalanced tokens first place → begins_item tokens place ≡ false
define_no_head tokens first name end place item lo hi balanced =
    let rises = define_rises tokens first name end item in
    elim (cases_order place item.body) [
      | inl same ↦ rw same (brace_begins_nothing tokens item.body item.has_body.brace)
      | inr (inl less) ↦ item.has_body.before.no_head place lo less balanced
      | inr (inr more) ↦ absurd (deeper tokens first item.body place (omega (arith, rises.0, rises.1, rises.2)) (omega arith) item.has_body.balanced (item.closed.first place more hi) balanced)
    ]
