-- How an item goes on, one piece after another.
use Rattle.ir_items.proofs.Common.{◌≡◌, ℕ, ◌+◌, ◌<◌, ◌≤◌, Bool, true, false, ◌||◌, List, length, refl, sym, ap, subst, ◌∙◌, inl, inr, arith, cases_order, Lexeme, Define, Why, marks, IsBalanced, has_open, IsInside, IsPiece, is_define, begins_item, is_called, is_brace, is_wrong_layout, NoHeadBetween, OtherGoesOn, BeforeName, IsNamed, BeforeBody, HasBody, IsNew, GoesOn, StopsAt, PieceStopsAt, PieceStops, ItemStops, or_left}
use Rattle.ir_items.specs.declared.fault.Why.TheVariants as why
use Rattle.ir_items.specs.declared.fault.ItemFault.{ItemFault}
use Rattle.ir_items.specs.declared.fault.ItemFault.TheVariants.{Stop, NoMemory}
use Rattle.ir_items.proofs.Opening.{marks_join, deeper, piece_balanced, inside_fits}
use Rattle.ir_items.proofs.HeadTokens.{called_begins_nothing, called_balanced, called_opens}

-- a test fails at each index of depth 0 from an index to another
abbrev pub FailsAtDepth0 : List Lexeme → ℕ → (ℕ → Bool) → ℕ → ℕ → Type 0
FailsAtDepth0 tokens first test low high = (m : ℕ) → low ≤ m → m < high → IsBalanced tokens first m → test m ≡ false

-- after an index at depth 0, inside what begins there
further : (tokens : List Lexeme) (first : ℕ) (test : ℕ → Bool) (low k e : ℕ) → first ≤ k → IsBalanced tokens first k → FailsAtDepth0 tokens first test low k → test k ≡ false
    → ((m : ℕ) → k < m → m < e → has_open (marks tokens k m) ≡ true) → FailsAtDepth0 tokens first test low e
further tokens first test low k e fk balanced before here inside m lo hi bal =
    elim (cases_order m k) [
      | inl same ↦ rw same here
      | inr (inl less) ↦ before m lo less bal
      | inr (inr more) ↦ absurd (deeper tokens first k m fk (omega arith) balanced (inside m more hi) bal)
    ]

pub no_head_to : (tokens : List Lexeme) (first k e : ℕ) → first < k → IsBalanced tokens first k → NoHeadBetween tokens first k → begins_item tokens k ≡ false
    → ((m : ℕ) → k < m → m < e → has_open (marks tokens k m) ≡ true) → NoHeadBetween tokens first e
no_head_to tokens first k e fk balanced before here inside m lo hi bal =
    further tokens first (begins_item tokens) (first + 1) k e (omega arith) balanced (λ n a b c. before n (omega arith) b c) here inside m (omega arith) hi bal

to_piece_end : (tokens : List Lexeme) (k e : ℕ) → IsPiece tokens k e → (m : ℕ) → k < m → m < e → has_open (marks tokens k m) ≡ true
to_piece_end tokens k e piece m lo hi = piece.first m lo hi

pub to_place : (tokens : List Lexeme) (k place : ℕ) → IsInside tokens k place → (m : ℕ) → k < m → m < place → has_open (marks tokens k m) ≡ true
to_place tokens k place inside m lo hi = inside m lo (omega arith)

or_right : (a : Bool) {b : Bool} → b ≡ true → (a || b) ≡ true
or_right true h = refl
or_right false h = h

-- the text ends in a define
pub define_ends : (tokens : List Lexeme) (defines : List Define) (first end : ℕ) → end ≡ length tokens → is_define tokens first ≡ true → GoesOn tokens defines first end → StopsAt tokens defines first end why.TextEnds
define_ends tokens defines first end is word on = rw is (StopsAt.text_ends (subst (λ (p : ℕ). GoesOn tokens defines first p) is on) (or_left (is_define tokens first) _ word))

-- ---- other items

other_to : (tokens : List Lexeme) (first k e : ℕ) → IsBalanced tokens first k → begins_item tokens k ≡ false → k ≤ e → e ≤ length tokens → (is_wrong_layout tokens first ≡ true → e ≤ first + 3)
    → ((m : ℕ) → k < m → m < e → has_open (marks tokens k m) ≡ true) → OtherGoesOn tokens first k → OtherGoesOn tokens first e
other_to tokens first k e balanced here ke within layout inside h = record {
  head = h.head;
  other = h.other;
  some = omega (arith, h.some);
  within = within;
  no_head = no_head_to tokens first k e h.some balanced h.no_head here inside;
  layout = layout;
}

pub other_piece : (tokens : List Lexeme) (first k e : ℕ) → IsBalanced tokens first k → begins_item tokens k ≡ false → (is_wrong_layout tokens first ≡ true → e ≤ first + 3) → IsPiece tokens k e → OtherGoesOn tokens first k
    → OtherGoesOn tokens first e
other_piece tokens first k e balanced here layout piece h = other_to tokens first k e balanced here (omega (arith, piece.some)) piece.within layout (to_piece_end tokens k e piece) h

-- ---- before the name

name_to : (tokens : List Lexeme) (first k e : ℕ) → IsBalanced tokens first k → begins_item tokens k ≡ false → is_called tokens k ≡ false → k ≤ e → e ≤ length tokens
    → ((m : ℕ) → k < m → m < e → has_open (marks tokens k m) ≡ true) → BeforeName tokens first k → BeforeName tokens first e
name_to tokens first k e balanced here uncalled ke within inside h = record {
  word = h.word;
  some = omega (arith, h.some);
  within = within;
  no_head = no_head_to tokens first k e h.some balanced h.no_head here inside;
  no_name = λ m lo hi bal. further tokens first (is_called tokens) (first + 1) k e (omega (arith, h.some)) balanced (λ n a b c. h.no_name n (omega arith) b c) uncalled inside m (omega arith) hi bal;
}

pub name_piece : (tokens : List Lexeme) (first k e : ℕ) → IsBalanced tokens first k → begins_item tokens k ≡ false → is_called tokens k ≡ false → IsPiece tokens k e → BeforeName tokens first k → BeforeName tokens first e
name_piece tokens first k e balanced here uncalled piece h = name_to tokens first k e balanced here uncalled (omega (arith, piece.some)) piece.within (to_piece_end tokens k e piece) h

pub name_stops : (tokens : List Lexeme) (defines : List Define) (first k place : ℕ) (reason : Why) → length defines < 4096 → IsBalanced tokens first k → begins_item tokens k ≡ false → is_called tokens k ≡ false → BeforeName tokens first k
    → k < length tokens → PieceStopsAt tokens k place reason → StopsAt tokens defines first place reason
name_stops tokens defines first k place reason few balanced here uncalled h kl (PieceStopsAt.bracket kp inside pl none) =
    StopsAt.bracket
    (GoesOn.before_name few (name_to tokens first k place balanced here uncalled kp (omega arith) (to_place tokens k place inside) h) (inside_fits tokens first k place (omega (arith, h.some)) kp balanced inside)) pl
    (marks_join tokens first k (place + 1) (omega (arith, h.some)) (omega arith) balanced ∙ none)
name_stops tokens defines first k place reason few balanced here uncalled h kl (PieceStopsAt.text_ends is inside) =
    let at_end : IsInside tokens k (length tokens) = subst (λ (p : ℕ). IsInside tokens k p) is inside in
    subst (λ (p : ℕ). StopsAt tokens defines first p why.TextEnds) (sym is)
    (define_ends tokens defines first (length tokens) refl h.word
    (GoesOn.before_name few (name_to tokens first k (length tokens) balanced here uncalled (omega arith) (omega arith) (to_place tokens k (length tokens) at_end) h)
    (inside_fits tokens first k (length tokens) (omega (arith, h.some)) (omega arith) balanced at_end)))

-- ---- parameters

pub parameters_stop : (tokens : List Lexeme) (defines : List Define) (first name place : ℕ) (reason : Why) → IsNew tokens defines first name → IsBalanced tokens first (name + 1) → name + 1 < length tokens
    → PieceStopsAt tokens (name + 1) place reason → StopsAt tokens defines first place reason
parameters_stop tokens defines first name place reason new balanced nl (PieceStopsAt.bracket kp inside pl none) =
    StopsAt.bracket (GoesOn.in_parameters new kp inside) pl (marks_join tokens first (name + 1) (place + 1) (omega (arith, new.named.before.some)) (omega arith) balanced ∙ none)
parameters_stop tokens defines first name place reason new balanced nl (PieceStopsAt.text_ends is inside) =
    subst (λ (p : ℕ). StopsAt tokens defines first p why.TextEnds) (sym is)
    (define_ends tokens defines first (length tokens) refl new.named.before.word (GoesOn.in_parameters new (omega arith) (subst (λ (p : ℕ). IsInside tokens (name + 1) p) is inside)))

-- ---- before the body

body_to : (tokens : List Lexeme) (first name k e : ℕ) → IsBalanced tokens first k → begins_item tokens k ≡ false → is_brace tokens k ≡ false → k ≤ e → e ≤ length tokens
    → ((m : ℕ) → k < m → m < e → has_open (marks tokens k m) ≡ true) → BeforeBody tokens first name k → BeforeBody tokens first name e
body_to tokens first name k e balanced here no_brace ke within inside h =
    let fk : first < k = omega (arith, h.named.before.some, h.parameters.some, h.behind) in
    record {
      named = h.named;
      end = h.end;
      parameters = h.parameters;
      behind = omega (arith, h.behind);
      within = within;
      no_head = no_head_to tokens first k e fk balanced h.no_head here inside;
      no_brace = further tokens first (is_brace tokens) h.end k e (omega arith) balanced h.no_brace no_brace inside;
    }

pub body_piece : (tokens : List Lexeme) (first name k e : ℕ) → IsBalanced tokens first k → begins_item tokens k ≡ false → is_brace tokens k ≡ false → IsPiece tokens k e → BeforeBody tokens first name k → BeforeBody tokens first name e
body_piece tokens first name k e balanced here no_brace piece h = body_to tokens first name k e balanced here no_brace (omega (arith, piece.some)) piece.within (to_piece_end tokens k e piece) h

pub body_stops : (tokens : List Lexeme) (defines : List Define) (first name k place : ℕ) (reason : Why) → IsNew tokens defines first name → IsBalanced tokens first k → begins_item tokens k ≡ false → is_brace tokens k ≡ false
    → BeforeBody tokens first name k → k < length tokens → PieceStopsAt tokens k place reason → StopsAt tokens defines first place reason
body_stops tokens defines first name k place reason new balanced here no_brace h kl (PieceStopsAt.bracket kp inside pl none) =
    let fk : first ≤ k = omega (arith, h.named.before.some, h.parameters.some, h.behind) in
    StopsAt.bracket
    (GoesOn.before_body new (body_to tokens first name k place balanced here no_brace kp (omega arith) (to_place tokens k place inside) h) (inside_fits tokens first k place fk kp balanced inside)) pl
    (marks_join tokens first k (place + 1) fk (omega arith) balanced ∙ none)
body_stops tokens defines first name k place reason new balanced here no_brace h kl (PieceStopsAt.text_ends is inside) =
    let fk : first ≤ k = omega (arith, h.named.before.some, h.parameters.some, h.behind) in
    let at_end : IsInside tokens k (length tokens) = subst (λ (p : ℕ). IsInside tokens k p) is inside in
    subst (λ (p : ℕ). StopsAt tokens defines first p why.TextEnds) (sym is)
    (define_ends tokens defines first (length tokens) refl h.named.before.word
    (GoesOn.before_body new (body_to tokens first name k (length tokens) balanced here no_brace (omega arith) (omega arith) (to_place tokens k (length tokens) at_end) h)
    (inside_fits tokens first k (length tokens) fk (omega arith) balanced at_end)))

-- ---- the body

pub in_body_stops : (tokens : List Lexeme) (defines : List Define) (first name body place : ℕ) (reason : Why) → IsNew tokens defines first name → HasBody tokens first name body → body < length tokens → PieceStopsAt tokens body place reason
    → StopsAt tokens defines first place reason
in_body_stops tokens defines first name body place reason new h bl (PieceStopsAt.bracket kp inside pl none) =
    StopsAt.bracket (GoesOn.in_body new h kp inside) pl
    (marks_join tokens first body (place + 1) (omega (arith, h.before.named.before.some, h.before.parameters.some, h.before.behind)) (omega arith) h.balanced ∙ none)
in_body_stops tokens defines first name body place reason new h bl (PieceStopsAt.text_ends is inside) =
    subst (λ (p : ℕ). StopsAt tokens defines first p why.TextEnds) (sym is)
    (define_ends tokens defines first (length tokens) refl h.before.named.before.word (GoesOn.in_body new h (omega arith) (subst (λ (p : ℕ). IsInside tokens body p) is inside)))

-- ---- the faults of pieces are those of their items

pub wrong_and_right : {b : Bool} {P : Type 0} → b ≡ false → b ≡ true → P
wrong_and_right f t = let bad : false ≡ true = sym f ∙ t in absurd (cc)

other_stops : (tokens : List Lexeme) (defines : List Define) (first k place : ℕ) (reason : Why) → IsBalanced tokens first k → begins_item tokens k ≡ false → is_wrong_layout tokens first ≡ false → OtherGoesOn tokens first k
    → k < length tokens → PieceStopsAt tokens k place reason → StopsAt tokens defines first place reason
other_stops tokens defines first k place reason balanced here right h kl (PieceStopsAt.bracket kp inside pl none) =
    StopsAt.bracket
    (GoesOn.other (other_to tokens first k place balanced here kp (omega arith) (λ e. wrong_and_right right e) (to_place tokens k place inside) h) (inside_fits tokens first k place (omega (arith, h.some)) kp balanced inside)) pl
    (marks_join tokens first k (place + 1) (omega (arith, h.some)) (omega arith) balanced ∙ none)
other_stops tokens defines first k place reason balanced here right h kl (PieceStopsAt.text_ends is inside) =
    let at_end : IsInside tokens k (length tokens) = subst (λ (p : ℕ). IsInside tokens k p) is inside in
    subst (λ (p : ℕ). StopsAt tokens defines first p why.TextEnds) (sym is)
    (StopsAt.text_ends
    (GoesOn.other (other_to tokens first k (length tokens) balanced here (omega arith) (omega arith) (λ e. wrong_and_right right e) (to_place tokens k (length tokens) at_end) h)
    (inside_fits tokens first k (length tokens) (omega (arith, h.some)) (omega arith) balanced at_end))
    (or_right (is_define tokens first) (ap has_open (marks_join tokens first k (length tokens) (omega (arith, h.some)) (omega arith) balanced) ∙ at_end (length tokens) kl (omega arith))))

pub other_fault : (tokens : List Lexeme) (defines : List Define) (first k : ℕ) (fault : ItemFault) → IsBalanced tokens first k → begins_item tokens k ≡ false → is_wrong_layout tokens first ≡ false → OtherGoesOn tokens first k
    → k < length tokens → PieceStops tokens k fault → ItemStops tokens defines first fault
other_fault tokens defines first k NoMemory balanced here right h kl stops = tt
other_fault tokens defines first k (Stop place reason) balanced here right h kl stops = other_stops tokens defines first k place reason balanced here right h kl stops

pub name_fault : (tokens : List Lexeme) (defines : List Define) (first k : ℕ) (fault : ItemFault) → length defines < 4096 → IsBalanced tokens first k → begins_item tokens k ≡ false → is_called tokens k ≡ false → BeforeName tokens first k
    → k < length tokens → PieceStops tokens k fault → ItemStops tokens defines first fault
name_fault tokens defines first k NoMemory few balanced here uncalled h kl stops = tt
name_fault tokens defines first k (Stop place reason) few balanced here uncalled h kl stops = name_stops tokens defines first k place reason few balanced here uncalled h kl stops

pub body_fault : (tokens : List Lexeme) (defines : List Define) (first name k : ℕ) (fault : ItemFault) → IsNew tokens defines first name → IsBalanced tokens first k → begins_item tokens k ≡ false → is_brace tokens k ≡ false
    → BeforeBody tokens first name k → k < length tokens → PieceStops tokens k fault → ItemStops tokens defines first fault
body_fault tokens defines first name k NoMemory new balanced here no_brace h kl stops = tt
body_fault tokens defines first name k (Stop place reason) new balanced here no_brace h kl stops = body_stops tokens defines first name k place reason new balanced here no_brace h kl stops

pub parameters_balanced : (tokens : List Lexeme) (first name : ℕ) → IsNamed tokens first name → IsBalanced tokens first (name + 1)
parameters_balanced tokens first name named = marks_join tokens first name (name + 1) (omega (arith, named.before.some)) (omega arith) named.balanced ∙ called_balanced tokens name named.called

pub parameters_fault : (tokens : List Lexeme) (defines : List Define) (first name : ℕ) (fault : ItemFault) → IsNew tokens defines first name → PieceStops tokens (name + 1) fault → ItemStops tokens defines first fault
parameters_fault tokens defines first name NoMemory new stops = tt
parameters_fault tokens defines first name (Stop place reason) new stops =
    parameters_stop tokens defines first name place reason new (parameters_balanced tokens first name new.named) (called_opens tokens name new.named.called).0 stops

pub behind_parameters : (tokens : List Lexeme) (first name e : ℕ) → IsNamed tokens first name → IsPiece tokens (name + 1) e → BeforeBody tokens first name e
behind_parameters tokens first name e named piece = record {
  named = named;
  end = e;
  parameters = piece;
  behind = omega arith;
  within = piece.within;
  no_head = no_head_to tokens first (name + 1) e (omega (arith, named.before.some)) (parameters_balanced tokens first name named)
      (no_head_to tokens first name (name + 1) named.before.some named.balanced named.before.no_head (called_begins_nothing tokens name named.called) (λ m lo hi. absurd (omega arith)))
      (called_opens tokens name named.called).1 (to_piece_end tokens (name + 1) e piece);
  no_brace = λ m lo hi bal. absurd (omega arith);
}

pub parameters_end_balanced : (tokens : List Lexeme) (first name e : ℕ) → IsNamed tokens first name → IsPiece tokens (name + 1) e → IsBalanced tokens first e
parameters_end_balanced tokens first name e named piece = piece_balanced tokens first (name + 1) e (omega (arith, named.before.some)) (parameters_balanced tokens first name named) piece

pub in_body_fault : (tokens : List Lexeme) (defines : List Define) (first name body : ℕ) (fault : ItemFault) → IsNew tokens defines first name → HasBody tokens first name body → body < length tokens → PieceStops tokens body fault
    → ItemStops tokens defines first fault
in_body_fault tokens defines first name body NoMemory new h bl stops = tt
in_body_fault tokens defines first name body (Stop place reason) new h bl stops = in_body_stops tokens defines first name body place reason new h bl stops
