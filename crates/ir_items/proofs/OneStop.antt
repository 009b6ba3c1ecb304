-- An item that stops, stops once, and doesn't end.
use Rattle.ir_items.proofs.Common.{◌≡◌, ◌⊎◌, ℕ, ◌+◌, ◌<◌, ◌≤◌, Bool, true, false, cond, eqb, ◌||◌, List, [], length, Some, None, refl, sym, ap, subst, ◌∙◌, inl, inr, arith, is_some, cases_lt, cases_Bool, eq-eqb, ne_eqb, Lexeme, Name, Define, Why, marks, IsBalanced, has_open, IsInside, is_head, is_define, begins_item, is_called, is_wrong_layout, NoHeadBetween, OtherGoesOn, IsOther, IsNamed, HasBody, IsDefine, name_at, has_name, IsNew, GoesOn, StopsAt}
use Rattle.ir_items.specs.declared.fault.Why.TheVariants as why
use Rattle.ir_items.proofs.Opening.{fits_before, balanced_fits, inside_fits, balanced_on}
use Rattle.ir_items.proofs.HeadTokens.{called_begins_nothing, called_opens, brace_begins_nothing, wrong_layout_balanced, wrong_layout_within, define_within, define_is_head, begins_within, begins_balanced}
use Rattle.ir_items.proofs.Phases.{wrong_and_right, no_head_to, to_place, parameters_balanced}
use Rattle.ir_items.proofs.Ends.{inside_piece, named_le, named_one, body_le, body_one, define_rises, define_balanced, define_no_head}

-- ---- what is known where an item goes on

pub goes_some : (tokens : List Lexeme) (defines : List Define) (first place : ℕ) → GoesOn tokens defines first place → first < place
goes_some tokens defines first place (GoesOn.other on fits) = on.some
goes_some tokens defines first place (GoesOn.before_name few before fits) = before.some
goes_some tokens defines first place (GoesOn.in_parameters new le inside) = omega (arith, new.named.before.some)
goes_some tokens defines first place (GoesOn.before_body new before fits) = omega (arith, before.named.before.some, before.parameters.some, before.behind)
goes_some tokens defines first place (GoesOn.in_body new has le inside) = omega (arith, has.before.named.before.some, has.before.parameters.some, has.before.behind)

goes_head : (tokens : List Lexeme) (defines : List Define) (first place : ℕ) → GoesOn tokens defines first place → is_head tokens first ≡ true
goes_head tokens defines first place (GoesOn.other on fits) = on.head
goes_head tokens defines first place (GoesOn.before_name few before fits) = define_is_head tokens first before.word
goes_head tokens defines first place (GoesOn.in_parameters new le inside) = define_is_head tokens first new.named.before.word
goes_head tokens defines first place (GoesOn.before_body new before fits) = define_is_head tokens first new.named.before.word
goes_head tokens defines first place (GoesOn.in_body new has le inside) = define_is_head tokens first new.named.before.word

goes_few : (tokens : List Lexeme) (defines : List Define) (first place : ℕ) → GoesOn tokens defines first place → is_define tokens first ≡ true → length defines < 4096
goes_few tokens defines first place (GoesOn.other on fits) word = wrong_and_right on.other word
goes_few tokens defines first place (GoesOn.before_name few before fits) word = few
goes_few tokens defines first place (GoesOn.in_parameters new le inside) word = new.few
goes_few tokens defines first place (GoesOn.before_body new before fits) word = new.few
goes_few tokens defines first place (GoesOn.in_body new has le inside) word = new.few

body_behind : (tokens : List Lexeme) (first name body : ℕ) → HasBody tokens first name body → first < body
body_behind tokens first name body has = omega (arith, has.before.named.before.some, has.before.parameters.some, has.before.behind)

goes_fits : (tokens : List Lexeme) (defines : List Define) (first place : ℕ) → GoesOn tokens defines first place → is_some (marks tokens first place) ≡ true
goes_fits tokens defines first place (GoesOn.other on fits) = fits
goes_fits tokens defines first place (GoesOn.before_name few before fits) = fits
goes_fits tokens defines first place (GoesOn.in_parameters {name = name} new le inside) =
    inside_fits tokens first (name + 1) place (omega (arith, new.named.before.some)) le (parameters_balanced tokens first name new.named) inside
goes_fits tokens defines first place (GoesOn.before_body new before fits) = fits
goes_fits tokens defines first place (GoesOn.in_body {name = name} {body = body} new has le inside) =
    inside_fits tokens first body place (omega (arith, body_behind tokens first name body has)) le has.balanced inside

goes_no_head : (tokens : List Lexeme) (defines : List Define) (first place : ℕ) → GoesOn tokens defines first place → NoHeadBetween tokens first place
goes_no_head tokens defines first place (GoesOn.other on fits) = on.no_head
goes_no_head tokens defines first place (GoesOn.before_name few before fits) = before.no_head
goes_no_head tokens defines first place (GoesOn.in_parameters {name = name} new le inside) =
    no_head_to tokens first (name + 1) place (omega (arith, new.named.before.some)) (parameters_balanced tokens first name new.named)
    (no_head_to tokens first name (name + 1) new.named.before.some new.named.balanced new.named.before.no_head (called_begins_nothing tokens name new.named.called) (λ m lo hi. absurd (omega arith)))
    (called_opens tokens name new.named.called).1 (to_place tokens (name + 1) place inside)
goes_no_head tokens defines first place (GoesOn.before_body new before fits) = before.no_head
goes_no_head tokens defines first place (GoesOn.in_body {name = name} {body = body} new has le inside) =
    no_head_to tokens first body place (body_behind tokens first name body has) has.balanced has.before.no_head (brace_begins_nothing tokens body has.brace) (to_place tokens body place inside)

-- ---- an item goes on no further than to its stop

new_fresh : (tokens : List Lexeme) (defines : List Define) (first m place : ℕ) (name : Name) → IsNew tokens defines first m → IsNamed tokens first place → name_at tokens place ≡ Some name → has_name defines name ≡ true → ⊥
new_fresh tokens defines first m place name new named spelled has =
    let places : m ≡ place = named_one tokens first m place new.named named in
    let spellings : Some new.name ≡ Some name = sym new.spelled ∙ ap (name_at tokens) places ∙ spelled in
    let names : new.name ≡ name = cc spellings in
    wrong_and_right (ap (has_name defines) (sym names) ∙ new.fresh) has

to_name : (tokens : List Lexeme) (defines : List Define) (first place q : ℕ) (name : Name) → IsNamed tokens first place → name_at tokens place ≡ Some name → has_name defines name ≡ true → GoesOn tokens defines first q → q ≤ place
to_name tokens defines first place q name named spelled has (GoesOn.other on fits) = wrong_and_right on.other named.before.word
to_name tokens defines first place q name named spelled has (GoesOn.before_name few before fits) = named_le tokens first place q named before
to_name tokens defines first place q name named spelled has (GoesOn.in_parameters {name = m} new le inside) = absurd (new_fresh tokens defines first m place name new named spelled has)
to_name tokens defines first place q name named spelled has (GoesOn.before_body {name = m} new before fits) = absurd (new_fresh tokens defines first m place name new named spelled has)
to_name tokens defines first place q name named spelled has (GoesOn.in_body {name = m} new body le inside) = absurd (new_fresh tokens defines first m place name new named spelled has)

to_layout : (tokens : List Lexeme) (defines : List Define) (first q : ℕ) → OtherGoesOn tokens first (first + 3) → is_wrong_layout tokens first ≡ true → GoesOn tokens defines first q → q ≤ first + 3
to_layout tokens defines first q at_layout wrong (GoesOn.other on fits) = on.layout wrong
to_layout tokens defines first q at_layout wrong (GoesOn.before_name few before fits) = wrong_and_right at_layout.other before.word
to_layout tokens defines first q at_layout wrong (GoesOn.in_parameters new le inside) = wrong_and_right at_layout.other new.named.before.word
to_layout tokens defines first q at_layout wrong (GoesOn.before_body new before fits) = wrong_and_right at_layout.other new.named.before.word
to_layout tokens defines first q at_layout wrong (GoesOn.in_body new has le inside) = wrong_and_right at_layout.other new.named.before.word

to_head : (tokens : List Lexeme) (defines : List Define) (first place q : ℕ) → first < place → IsBalanced tokens first place → begins_item tokens place ≡ true → GoesOn tokens defines first q → q ≤ place
to_head tokens defines first place q lo balanced head on =
    elim (cases_lt place q) [
      | inl less ↦ wrong_and_right (goes_no_head tokens defines first q on place lo less balanced) head
      | inr more ↦ more
    ]

to_bracket : (tokens : List Lexeme) (defines : List Define) (first place q : ℕ) → first < place → marks tokens first (place + 1) ≡ None → GoesOn tokens defines first q → q ≤ place
to_bracket tokens defines first place q lo none on = let less : q < place + 1 = fits_before tokens first (place + 1) q (omega arith) none (goes_fits tokens defines first q on) in omega arith

to_stop : (tokens : List Lexeme) (defines : List Define) (first place q : ℕ) (reason : Why) → StopsAt tokens defines first place reason → GoesOn tokens defines first q → q ≤ length tokens → q ≤ place
to_stop tokens defines first place q reason (StopsAt.no_item within plain) on hi = wrong_and_right plain (goes_head tokens defines first q on)
to_stop tokens defines first place q reason (StopsAt.bracket goes within none) on hi = to_bracket tokens defines first place q (goes_some tokens defines first place goes) none on
to_stop tokens defines first place q reason (StopsAt.no_body word goes balanced head) on hi = to_head tokens defines first place q (goes_some tokens defines first place goes) balanced head on
to_stop tokens defines first place q reason (StopsAt.text_ends goes inside) on hi = hi
to_stop tokens defines first place q reason (StopsAt.name_twice {name = name} few named spelled has) on hi = to_name tokens defines first place q name named spelled has on
to_stop tokens defines first place q reason (StopsAt.too_many word full) on hi = absurd (omega (arith, full, goes_few tokens defines first q on word))
to_stop tokens defines first place q reason (StopsAt.layout goes wrong) on hi = to_layout tokens defines first q goes wrong on

-- ---- and it goes on to its stop

reached : (tokens : List Lexeme) (defines : List Define) (first place : ℕ) (reason : Why) → StopsAt tokens defines first place reason → (place ≡ first) ⊎ GoesOn tokens defines first place
reached tokens defines first place reason (StopsAt.no_item within plain) = inl refl
reached tokens defines first place reason (StopsAt.bracket goes within none) = inr goes
reached tokens defines first place reason (StopsAt.no_body word goes balanced head) = inr goes
reached tokens defines first place reason (StopsAt.text_ends goes inside) = inr goes
reached tokens defines first place reason (StopsAt.name_twice few named spelled has) = inr (GoesOn.before_name few named.before (balanced_fits tokens first place named.balanced))
reached tokens defines first place reason (StopsAt.too_many word full) = inl refl
reached tokens defines first place reason (StopsAt.layout goes wrong) = inr (GoesOn.other goes (balanced_fits tokens first (first + 3) (wrong_layout_balanced tokens first wrong).0))

stop_within : (tokens : List Lexeme) (defines : List Define) (first place : ℕ) (reason : Why) → StopsAt tokens defines first place reason → place ≤ length tokens
stop_within tokens defines first place reason (StopsAt.no_item within plain) = omega arith
stop_within tokens defines first place reason (StopsAt.bracket goes within none) = omega arith
stop_within tokens defines first place reason (StopsAt.no_body word goes balanced head) = omega (arith, begins_within tokens place head)
stop_within tokens defines first place reason (StopsAt.text_ends goes inside) = omega arith
stop_within tokens defines first place reason (StopsAt.name_twice few named spelled has) = named.before.within
stop_within tokens defines first place reason (StopsAt.too_many word full) = omega (arith, define_within tokens first word)
stop_within tokens defines first place reason (StopsAt.layout goes wrong) = goes.within

stop_from : (tokens : List Lexeme) (defines : List Define) (first place : ℕ) (reason : Why) → StopsAt tokens defines first place reason → first ≤ place
stop_from tokens defines first place reason stop =
    elim (reached tokens defines first place reason stop) [
      | inl is ↦ omega (arith, is)
      | inr on ↦ omega (arith, goes_some tokens defines first place on)
    ]

stop_le : (tokens : List Lexeme) (defines : List Define) (first p q : ℕ) (v w : Why) → StopsAt tokens defines first p v → StopsAt tokens defines first q w → q ≤ p
stop_le tokens defines first p q v w a b =
    elim (reached tokens defines first q w b) [
      | inl is ↦ omega (arith, is, stop_from tokens defines first p v a)
      | inr on ↦ to_stop tokens defines first p q v a on (stop_within tokens defines first q w b)
    ]

-- ---- at one index for one reason

reason_of : (head here end fits word called : Bool) → Why
reason_of head here end fits word called =
    cond head (cond here why.TooManyFunctions (cond end why.TextEnds (cond fits (cond word (cond called why.NameTwice why.NoBody) why.DataLayout) why.Bracket))) why.NoItem

reason_at : List Lexeme → ℕ → ℕ → Why
reason_at tokens first place =
    reason_of (is_head tokens first) (eqb place first) (eqb place (length tokens)) (is_some (marks tokens first (place + 1))) (is_define tokens first) (is_called tokens place)

no_item_of : (head here end fits word called : Bool) → head ≡ false → why.NoItem ≡ reason_of head here end fits word called
unfolding reason_of
no_item_of head here end fits word called h = rw h refl

too_many_of : (head here end fits word called : Bool) → head ≡ true → here ≡ true → why.TooManyFunctions ≡ reason_of head here end fits word called
unfolding reason_of
too_many_of head here end fits word called h a = rw (h, a) refl

text_ends_of : (head here end fits word called : Bool) → head ≡ true → here ≡ false → end ≡ true → why.TextEnds ≡ reason_of head here end fits word called
unfolding reason_of
text_ends_of head here end fits word called h a b = rw (h, a, b) refl

bracket_of : (head here end fits word called : Bool) → head ≡ true → here ≡ false → end ≡ false → fits ≡ false → why.Bracket ≡ reason_of head here end fits word called
unfolding reason_of
bracket_of head here end fits word called h a b c = rw (h, a, b, c) refl

layout_of : (head here end fits word called : Bool) → head ≡ true → here ≡ false → end ≡ false → fits ≡ true → word ≡ false → why.DataLayout ≡ reason_of head here end fits word called
unfolding reason_of
layout_of head here end fits word called h a b c d = rw (h, a, b, c, d) refl

name_twice_of : (head here end fits word called : Bool) → head ≡ true → here ≡ false → end ≡ false → fits ≡ true → word ≡ true → called ≡ true → why.NameTwice ≡ reason_of head here end fits word called
unfolding reason_of
name_twice_of head here end fits word called h a b c d e = rw (h, a, b, c, d, e) refl

no_body_of : (head here end fits word called : Bool) → head ≡ true → here ≡ false → end ≡ false → fits ≡ true → word ≡ true → called ≡ false → why.NoBody ≡ reason_of head here end fits word called
unfolding reason_of
no_body_of head here end fits word called h a b c d e = rw (h, a, b, c, d, e) refl

behind : (first place : ℕ) → first < place → eqb place first ≡ false
behind first place lo = ne_eqb place first (λ is. omega (arith, is))

before_end : (tokens : List Lexeme) (place : ℕ) → place < length tokens → eqb place (length tokens) ≡ false
before_end tokens place hi = ne_eqb place (length tokens) (λ is. omega (arith, is))

head_not_called : (tokens : List Lexeme) (place : ℕ) → begins_item tokens place ≡ true → is_called tokens place ≡ false
head_not_called tokens place head =
    elim (cases_Bool (is_called tokens place)) [
      | inl called ↦ wrong_and_right (called_begins_nothing tokens place called) head
      | inr other ↦ other
    ]

stop_reason : (tokens : List Lexeme) (defines : List Define) (first place : ℕ) (reason : Why) → StopsAt tokens defines first place reason → reason ≡ reason_at tokens first place
unfolding reason_at
stop_reason tokens defines first place reason (StopsAt.no_item within plain) = no_item_of _ _ _ _ _ _ plain
stop_reason tokens defines first place reason (StopsAt.bracket goes within none) =
    bracket_of _ _ _ _ _ _ (goes_head tokens defines first place goes) (behind first place (goes_some tokens defines first place goes)) (before_end tokens place within) (ap is_some none)
stop_reason tokens defines first place reason (StopsAt.no_body word goes balanced head) =
    let lo : first < place = goes_some tokens defines first place goes in
    no_body_of _ _ _ _ _ _ (goes_head tokens defines first place goes) (behind first place lo) (before_end tokens place (begins_within tokens place head))
    (balanced_fits tokens first (place + 1) (balanced_on tokens first place (place + 1) (omega arith) (omega arith) balanced (begins_balanced tokens place head))) word (head_not_called tokens place head)
stop_reason tokens defines first place reason (StopsAt.text_ends goes inside) =
    text_ends_of _ _ _ _ _ _ (goes_head tokens defines first (length tokens) goes) (behind first (length tokens) (goes_some tokens defines first (length tokens) goes)) (eq-eqb (length tokens) (length tokens) refl)
stop_reason tokens defines first place reason (StopsAt.name_twice few named spelled has) =
    name_twice_of _ _ _ _ _ _ (define_is_head tokens first named.before.word) (behind first place named.before.some)
    (before_end tokens place (omega (arith, (called_opens tokens place named.called).0))) (balanced_fits tokens first (place + 1) (parameters_balanced tokens first place named)) named.before.word named.called
stop_reason tokens defines first place reason (StopsAt.too_many word full) = too_many_of _ _ _ _ _ _ (define_is_head tokens first word) (eq-eqb first first refl)
stop_reason tokens defines first place reason (StopsAt.layout goes wrong) =
    layout_of _ _ _ _ _ _ goes.head (behind first (first + 3) goes.some) (before_end tokens (first + 3) (wrong_layout_within tokens first wrong))
    (balanced_fits tokens first (first + 3 + 1) (wrong_layout_balanced tokens first wrong).1) goes.other

pub one_stop : (tokens : List Lexeme) (defines : List Define) (first p q : ℕ) (v w : Why) → StopsAt tokens defines first p v → StopsAt tokens defines first q w → (p ≡ q) × (v ≡ w)
one_stop tokens defines first p q v w a b =
    let qp : q ≤ p = stop_le tokens defines first p q v w a b in
    let pq : p ≤ q = stop_le tokens defines first q p w v b a in
    let places : p ≡ q = omega arith in (
      places,
      stop_reason tokens defines first p v a ∙ ap (reason_at tokens first) places ∙ sym (stop_reason tokens defines first q w b),
    )

-- the item of a stop begins at a token
pub stop_first : (tokens : List Lexeme) (defines : List Define) (first place : ℕ) (reason : Why) → StopsAt tokens defines first place reason → first < length tokens
stop_first tokens defines first place reason (StopsAt.no_item within plain) = within
stop_first tokens defines first place reason (StopsAt.bracket goes within none) = omega (arith, goes_some tokens defines first place goes)
stop_first tokens defines first place reason (StopsAt.no_body word goes balanced head) = define_within tokens first word
stop_first tokens defines first place reason (StopsAt.text_ends goes inside) = goes_some tokens defines first (length tokens) goes
stop_first tokens defines first place reason (StopsAt.name_twice few named spelled has) = define_within tokens first named.before.word
stop_first tokens defines first place reason (StopsAt.too_many word full) = define_within tokens first word
stop_first tokens defines first place reason (StopsAt.layout goes wrong) = omega (arith, goes.some, goes.within)

-- ---- an item that ends stops nowhere

other_ends : (tokens : List Lexeme) (defines : List Define) (first end place : ℕ) → IsOther tokens first end → GoesOn tokens defines first place → place ≤ length tokens → end < place → ⊥
other_ends tokens defines first end place item on hi less =
    elim item.ends [
      | inl is ↦ absurd (omega (arith, is))
      | inr head ↦ wrong_and_right (goes_no_head tokens defines first place on end item.goes_on.some less item.balanced) head
    ]

other_open : (tokens : List Lexeme) (first end : ℕ) → IsOther tokens first end → end ≡ length tokens → (is_define tokens first || has_open (marks tokens first (length tokens))) ≡ true → ⊥
other_open tokens first end item is inside =
    let closed : marks tokens first (length tokens) ≡ Some [] = ap (marks tokens first) (sym is) ∙ item.balanced in
    let bad : false ≡ true = (rw (item.goes_on.other, closed) at inside) in cc

other_bracket : (tokens : List Lexeme) (defines : List Define) (first end place : ℕ) → IsOther tokens first end → GoesOn tokens defines first place → place < length tokens → marks tokens first (place + 1) ≡ None → ⊥
other_bracket tokens defines first end place item on within none =
    let lo : first < place = goes_some tokens defines first place on in
    let le : end < place + 1 = fits_before tokens first (place + 1) end (omega arith) none (balanced_fits tokens first end item.balanced) in
    elim (cases_lt end place) [
      | inl less ↦ other_ends tokens defines first end place item on (omega arith) less
      | inr more ↦ let same : place ≡ end = omega arith in
          elim item.ends [
            | inl is ↦ absurd (omega (arith, is, same))
            | inr head ↦
                let next : IsBalanced tokens first (end + 1) = balanced_on tokens first end (end + 1) (omega arith) (omega arith) item.balanced (begins_balanced tokens end head) in
                let again : end + 1 < place + 1 = fits_before tokens first (place + 1) (end + 1) (omega arith) none (balanced_fits tokens first (end + 1) next) in
                absurd (omega arith)
          ]
    ]

pub other_apart : (tokens : List Lexeme) (defines : List Define) (first end place : ℕ) (reason : Why) → IsOther tokens first end → StopsAt tokens defines first place reason → ⊥
other_apart tokens defines first end place reason item (StopsAt.no_item within plain) = wrong_and_right plain item.goes_on.head
other_apart tokens defines first end place reason item (StopsAt.bracket goes within none) = other_bracket tokens defines first end place item goes within none
other_apart tokens defines first end place reason item (StopsAt.no_body word goes balanced head) = wrong_and_right item.goes_on.other word
other_apart tokens defines first end place reason item (StopsAt.text_ends goes inside) =
    elim (cases_lt end (length tokens)) [
      | inl less ↦ other_ends tokens defines first end (length tokens) item goes (omega arith) less
      | inr more ↦ other_open tokens first end item (omega (arith, item.goes_on.within)) inside
    ]
other_apart tokens defines first end place reason item (StopsAt.name_twice few named spelled has) = wrong_and_right item.goes_on.other named.before.word
other_apart tokens defines first end place reason item (StopsAt.too_many word full) = wrong_and_right item.goes_on.other word
other_apart tokens defines first end place reason item (StopsAt.layout goes wrong) = wrong_and_right item.layout wrong

define_bound : (tokens : List Lexeme) (defines : List Define) (first name end place : ℕ) → IsDefine tokens first name end → GoesOn tokens defines first place → place < end
define_bound tokens defines first name end place item (GoesOn.other on fits) = wrong_and_right on.other item.has_body.before.named.before.word
define_bound tokens defines first name end place item (GoesOn.before_name few before fits) =
    let rises = define_rises tokens first name end item in
    omega (arith, rises.0, rises.1, rises.2, rises.3, named_le tokens first name place item.has_body.before.named before)
define_bound tokens defines first name end place item (GoesOn.in_parameters {name = m} new le inside) =
    let rises = define_rises tokens first name end item in
    let names : m ≡ name = named_one tokens first m name new.named item.has_body.before.named in
    omega (arith, rises.2, rises.3, inside_piece tokens (name + 1) item.has_body.before.end place item.has_body.before.parameters (subst (λ (k : ℕ). IsInside tokens (k + 1) place) names inside))
define_bound tokens defines first name end place item (GoesOn.before_body {name = m} new before fits) =
    let rises = define_rises tokens first name end item in
    omega (arith, rises.3, body_le tokens first name m item.body place item.has_body before)
define_bound tokens defines first name end place item (GoesOn.in_body {name = m} {body = body} new has le inside) =
    let bodies : body ≡ item.body = body_one tokens first m name body item.body has item.has_body in
    inside_piece tokens item.body end place item.closed (subst (λ (k : ℕ). IsInside tokens k place) bodies inside)

pub define_apart : (tokens : List Lexeme) (defines : List Define) (first at end place : ℕ) (reason : Why) (name : Name) → IsDefine tokens first at end → name_at tokens at ≡ Some name → has_name defines name ≡ false → length defines < 4096
    → StopsAt tokens defines first place reason → ⊥
define_apart tokens defines first at end place reason name item named fresh few (StopsAt.no_item within plain) = wrong_and_right plain (define_is_head tokens first item.has_body.before.named.before.word)
define_apart tokens defines first at end place reason name item named fresh few (StopsAt.bracket goes within none) =
    let lo : first < place = goes_some tokens defines first place goes in
    let hi : place < end = define_bound tokens defines first at end place item goes in
    let le : end < place + 1 = fits_before tokens first (place + 1) end (omega arith) none (balanced_fits tokens first end (define_balanced tokens first at end item)) in
    absurd (omega arith)
define_apart tokens defines first at end place reason name item named fresh few (StopsAt.no_body word goes balanced head) =
    wrong_and_right (define_no_head tokens first at end place item (goes_some tokens defines first place goes) (define_bound tokens defines first at end place item goes) balanced) head
define_apart tokens defines first at end place reason name item named fresh few (StopsAt.text_ends goes inside) =
    absurd (omega (arith, item.closed.within, define_bound tokens defines first at end (length tokens) item goes))
define_apart tokens defines first at end place reason name item named fresh few (StopsAt.name_twice {name = other} few_too twice spelled has) =
    new_fresh tokens defines first at place other (record { few = few; named = item.has_body.before.named; name = name; spelled = named; fresh = fresh }) twice spelled has
define_apart tokens defines first at end place reason name item named fresh few (StopsAt.too_many word full) = absurd (omega (arith, full, few))
define_apart tokens defines first at end place reason name item named fresh few (StopsAt.layout goes wrong) = wrong_and_right goes.other item.has_body.before.named.before.word
