-- Whether a type is allowed at a stop: from what each class of a form says of types, by induction on the form.
use Rattle.ir_reader.proofs.Common.{◌≡◌, ℕ, zero, suc, ◌≤◌, ◌⊎◌, inl, inr, Bool, true, false, List, [], ◌∷◌, ◌++◌, length, Option, Some, None, refl, sym, ap, subst, ◌∙◌, append_assoc, arith, codes, ◌==◌, if◌then◌else◌, not, length-append, Lexeme, Kind, Reason, Syntax, Class, never, Form, give, one, seq, upto, peek, tail, balanced, mapped, Reading, reads, stops, and_then, Judged, none, found, judged, taken, one_of, first_of, peeked, begun, parts, read, until_closed, fitting, open_behind, IsNone, SpellParts, part_begins, LeavesOpen, SameHead, Follows, Whole, Lawful, free-never, then-found, read_lawful, then-stops, token, reason, width_reason, SomeType}
use Rattle.std.proofs.lemmas.Bool.Decides.{nat_tests}
use Rattle.ir_lexer.specs.declared.token.Kind.TheVariants as kind
use Rattle.token_forms.specs.Form.{Why, unfit, past}
use Rattle.token_forms.specs.declared.bracket.Bracket.{Bracket}
use Rattle.token_forms.specs.declared.bracket.Nesting.TheVariants.{Opens, Closes, Plain}
use Rattle.token_forms.specs.declared.bracket.Bracket.TheVariants.{Round, Square, Curly}
use Rattle.token_forms.specs.Brackets.{nesting_in, nesting_of}
use Rattle.token_forms.proofs.Balanced.{Halted, balanced-refused, closed-halts}

abbrev Tokens : Type 0
Tokens = List Lexeme

abbrev Reader : Type 0 → Type 0
Reader X = Tokens → Reading X

-- i1, i8 and ptr have the property
abbrev pub AllTypes : (Lexeme → Type 0) → Type 0
AllTypes P = P (token kind.Word (codes "i1")) × P (token kind.Word (codes "i8")) × P (token kind.Word (codes "ptr"))

pub some-type : {P Q : Lexeme → Type 0} → ((u : Lexeme) → P u → Q u) → SomeType P → SomeType Q
some-type f (inl p) = inl (f _ p)
some-type f (inr (inl p)) = inr (inl (f _ p))
some-type f (inr (inr p)) = inr (inr (f _ p))

pub all-types : {P Q : Lexeme → Type 0} → ((u : Lexeme) → P u → Q u) → AllTypes P → AllTypes Q
all-types f (p, q, r) = (f _ p, f _ q, f _ r)

-- ---- what a form has to say

-- the token is of the class
abbrev pub Stands : {A : Type 0} → (Lexeme → Option A) → Lexeme → Type 0
Stands {A} stands t = (a : A) × (stands t ≡ Some a)

-- of a class that comes next: one of the types is taken there, and the reason of a token that is refused looks for types
abbrev pub IsOfType : (Lexeme → Type 0) → (Lexeme → Type 0) → (Lexeme → Reason) → Type 0
IsOfType Refused Taken why = ((t : Lexeme) → Refused t → why t ≡ width_reason t) × SomeType Taken

-- none of the types is taken there, and the reason does not look for types
abbrev pub IsOfNone : (Lexeme → Type 0) → (Lexeme → Reason) → Type 0
IsOfNone Refused why = ((t : Lexeme) → why t ≡ reason t) × AllTypes Refused

-- what is read leaves no token
abbrev pub Uses : {X : Type 0} → Reading X → Type 0
Uses {X} z = ((x : X) × (z ≡ reads x [])) ⊎ ((why : Why) × (z ≡ stops why []))

-- reading stops at the token
abbrev pub Refuses : {X : Type 0} → Reading X → Lexeme → Type 0
Refuses z u = (why : Reason) × (z ≡ stops (unfit why) (u ∷ []))

-- after what spells a value of the form one of the types goes on with it
abbrev pub GoesOnWithTypes : {A : Type 0} {o : Lexeme → Bool} → Form o A → Type 0
GoesOnWithTypes {A} {o} f = (ts rest : Tokens) (a : A) → (W : Whole o (λ us. read false f us) ts a rest) → SomeType (λ u. Uses (read false f (W.front ++ u ∷ [])))

-- Each class of the form is of one of the two kinds where it comes next. A class that ends a form may leave the types to
-- what goes on with the form.
abbrev pub TellsTypes : {o : Lexeme → Bool} {X : Type 0} → Form o X → Type 0
TellsTypes (give y) = Unit {0}
TellsTypes (one c) = IsOfType (λ t. c.stands t ≡ None) (Stands c.stands) c.reason ⊎ IsOfNone (λ t. c.stands t ≡ None) c.reason
TellsTypes (seq {A} f k) = TellsTypes f × ((a : A) → TellsTypes (k a))
TellsTypes (upto {A} {B} {o} f c fits) =
    TellsTypes f
    × ((a : A) → IsOfType (λ t. (c a).stands t ≡ None) (λ t. (o t ≡ false) × Stands (c a).stands t) (c a).reason ⊎ IsOfNone (λ t. (o t ≡ false) × ((c a).stands t ≡ None)) (c a).reason
    ⊎ (((ts q : Tokens) (t : Lexeme) → read false f ts ≡ reads a (t ∷ q) → (c a).reason t ≡ width_reason t) × GoesOnWithTypes f))
TellsTypes (peek {A} {B} c f d g) =
    (IsOfType (λ t. (c.stands t ≡ None) × (d.stands t ≡ None)) (λ t. Stands c.stands t ⊎ ((c.stands t ≡ None) × Stands d.stands t)) d.reason ⊎ IsOfNone (λ t. (c.stands t ≡ None) × (d.stands t ≡ None)) d.reason)
    × ((a : A) → TellsTypes (f a)) × ((b : B) → TellsTypes (g b))
TellsTypes (tail {A} {S} goes_on begins within part f) = TellsTypes f × ((s : S) (a : A) → TellsTypes (part s a))
TellsTypes (balanced b) = Unit {0}
TellsTypes (mapped k f) = TellsTypes f

-- ---- what is known of a stop

-- the reason at a stop: where no token is left, where a type is taken, or where each is refused
abbrev pub Says : (Lexeme → Type 0) → (Lexeme → Type 0) → Reason → Tokens → Type 0
Says Taken Refused why [] = why ≡ Syntax
Says Taken Refused why (t ∷ q) = ((why ≡ width_reason t) × SomeType Taken) ⊎ ((why ≡ reason t) × AllTypes Refused)

says-along : {T R T' R' : Lexeme → Type 0} (why : Reason) (rest : Tokens) → Says T R why rest → ((u : Lexeme) → T u → T' u) → ((u : Lexeme) → R u → R' u) → Says T' R' why rest
says-along why [] e f g = e
says-along why (t ∷ q) (inl (e, s)) f g = inl (e, some-type f s)
says-along why (t ∷ q) (inr (e, a)) f g = inr (e, all-types g a)

-- reading stops after front, and what it does with a type instead of the token there
pub record Look {X : Type 0} (g : Reader X) (ts : Tokens) (why : Reason) (rest : Tokens) : Type 0 where
  pub front : Tokens
  pub split : ts ≡ front ++ rest
  pub says : Says (λ u. Uses (g (front ++ u ∷ []))) (λ u. Refuses (g (front ++ u ∷ [])) u) why rest

-- a part of no tokens has none
nil-of : (xs ys : Tokens) → [] ≡ xs ++ ys → ys ≡ []
nil-of [] ys e = sym e
nil-of (x ∷ xs) ys e = absurd (cc e)

pub uses-nil : {o : Lexeme → Bool} {X : Type 0} (g : Reader X) → Lawful o g g → Uses (g [])
uses-nil {o} {X} g L = go (g []) refl
  where
    go : (z : Reading X) → g [] ≡ z → Uses z
    go (reads x rest) e = let W = L.whole [] x rest e in inl (x, ap (λ (us : Tokens). reads x us) (nil-of W.front rest W.split))
    go (stops why rest) e = let H = L.halts [] why rest e in inr (why, ap (λ (us : Tokens). stops why us) (nil-of H.front rest H.split))

-- ---- one form after another

uses-then : {A X : Type 0} (z : Reading A) (k : A → Reader X) → ((a : A) → Uses (k a [])) → Uses z → Uses (and_then z k)
uses-then z k nil (inl (a, e)) = subst (λ (y : Reading _). Uses (and_then y k)) (sym e) (nil a)
uses-then z k nil (inr (why, e)) = inr (why, ap (λ (y : Reading _). and_then y k) e)

refuses-then : {A X : Type 0} (z : Reading A) (k : A → Reader X) (u : Lexeme) → Refuses z u → Refuses (and_then z k) u
refuses-then z k u (why, e) = (why, ap (λ (y : Reading _). and_then y k) e)

module _ {A X : Type 0} {o1 : Lexeme → Bool} (g1 : Reader A) (g2 : A → Reader X) (lawful : Lawful o1 g1 g1) (nil : (a : A) → Uses (g2 a [])) where
  abbrev both : Reader X
  both ts = and_then (g1 ts) g2

  pub look-first : (ts : Tokens) (why : Reason) (rest : Tokens) → Look g1 ts why rest → Look both ts why rest
  look-first ts why rest L = record {
    front = L.front;
    split = L.split;
    says = says-along why rest L.says (λ u. uses-then (g1 (L.front ++ u ∷ [])) g2 nil) (λ u. refuses-then (g1 (L.front ++ u ∷ [])) g2 u);
  }

  -- in the second one, which has taken a token, or nothing goes on with the first
  pub look-second : (ts mid : Tokens) (a : A) (why : Reason) (rest : Tokens) → g1 ts ≡ reads a mid → (L : Look (g2 a) mid why rest) → ((u : Lexeme) → Follows o1 mid (L.front ++ u ∷ [])) → Look both ts why rest
  look-second ts mid a why rest e L follows = record {
    front = W.front ++ L.front;
    split = W.split ∙ ap (λ (us : Tokens). W.front ++ us) L.split ∙ sym (append_assoc W.front L.front rest);
    says = says-along why rest L.says (λ u U. subst (λ (y : Reading X). Uses y) (sym (at u)) U) (λ u R. subst (λ (y : Reading X). Refuses y u) (sym (at u)) R);
  }
    where
      W : Whole o1 g1 ts a mid
      W = lawful.whole ts a mid e

      at : (u : Lexeme) → both ((W.front ++ L.front) ++ u ∷ []) ≡ g2 a (L.front ++ u ∷ [])
      at u = let again = W.again (L.front ++ u ∷ []) (follows u) in rw (append_assoc W.front L.front (u ∷ []), again) refl

-- ---- a class

module _ {A : Type 0} (c : Class A) where
  class-takes : (u : Lexeme) (q : Tokens) (a : A) → c.stands u ≡ Some a → one_of false c (u ∷ q) ≡ reads a q
  class-takes u q a e = rw e refl

  class-refuses : (u : Lexeme) (q : Tokens) → c.stands u ≡ None → one_of false c (u ∷ q) ≡ stops (unfit (c.reason u)) (u ∷ q)
  class-refuses u q e = rw e refl

  -- a token at which a class stops is not of the class, which gives the reason
  class-stops : (ts : Tokens) (why : Reason) (rest : Tokens) → one_of false c ts ≡ stops (unfit why) rest → ((ts ≡ []) × (rest ≡ []) × (why ≡ Syntax)) ⊎ ((t : Lexeme) × (q : Tokens) × (ts ≡ t ∷ q) × (rest ≡ t ∷ q) × (c.stands t ≡ None) × (why ≡ c.reason t))
  class-stops [] why rest e = inl (refl, cc e, cc e)
  class-stops (t ∷ q) why rest e = go (c.stands t) refl e
    where
      go : (v : Option A) → c.stands t ≡ v → taken (judged false (c.within t) v) (c.reason t) t q ≡ stops (unfit why) rest → ((t ∷ q ≡ []) × (rest ≡ []) × (why ≡ Syntax)) ⊎ ((t' : Lexeme) × (q' : Tokens) × (t ∷ q ≡ t' ∷ q') × (rest ≡ t' ∷ q') × (c.stands t' ≡ None) × (why ≡ c.reason t'))
      go None is e' = inr (t, q, refl, cc e', is, cc e')
      go (Some a) is e' = absurd (cc e')

look-one : {A : Type 0} (c : Class A) → IsOfType (λ t. c.stands t ≡ None) (Stands c.stands) c.reason ⊎ IsOfNone (λ t. c.stands t ≡ None) c.reason
    → (ts : Tokens) (why : Reason) (rest : Tokens) → one_of false c ts ≡ stops (unfit why) rest → Look (λ us. one_of false c us) ts why rest
look-one {A} c kind ts why rest e = by (class-stops c ts why rest e)
  where
    takes : (u : Lexeme) → Stands c.stands u → Uses (one_of false c (u ∷ []))
    takes u (a, is) = inl (a, class-takes c u [] a is)

    refuses : (u : Lexeme) → c.stands u ≡ None → Refuses (one_of false c (u ∷ [])) u
    refuses u lacks = (c.reason u, class-refuses c u [] lacks)

    says : (t : Lexeme) (q : Tokens) → c.stands t ≡ None → why ≡ c.reason t → IsOfType (λ t'. c.stands t' ≡ None) (Stands c.stands) c.reason ⊎ IsOfNone (λ t'. c.stands t' ≡ None) c.reason → Says (λ u. Uses (one_of false c (u ∷ []))) (λ u. Refuses (one_of false c (u ∷ [])) u) why (t ∷ q)
    says t q lacks is (inl (f, s)) = inl (is ∙ f t lacks, some-type takes s)
    says t q lacks is (inr (f, a)) = inr (is ∙ f t, all-types refuses a)

    by : ((ts ≡ []) × (rest ≡ []) × (why ≡ Syntax)) ⊎ ((t : Lexeme) × (q : Tokens) × (ts ≡ t ∷ q) × (rest ≡ t ∷ q) × (c.stands t ≡ None) × (why ≡ c.reason t)) → Look (λ us. one_of false c us) ts why rest
    by (inl (a, b, s)) = record { front = []; split = a ∙ sym b; says = subst (λ (us : Tokens). Says (λ u. Uses (one_of false c (u ∷ []))) (λ u. Refuses (one_of false c (u ∷ [])) u) why us) (sym b) s }
    by (inr (t, q, a, b, lacks, is)) = record { front = []; split = a ∙ sym b; says = subst (λ (us : Tokens). Says (λ u. Uses (one_of false c (u ∷ []))) (λ u. Refuses (one_of false c (u ∷ [])) u) why us) (sym b) (says t q lacks is kind) }

-- ---- by the class of the first token

module _ {A B X : Type 0} (c : Class A) (f : A → Reader X) (d : Class B) (g : B → Reader X) (nil-f : (a : A) → Uses (f a [])) (nil-g : (b : B) → Uses (g b [])) where
  abbrev second : Reader X
  second ts = and_then (one_of false d ts) g

  abbrev chosen : Reader X
  chosen ts = peeked false c f second ts

  at-first : (t : Lexeme) (q : Tokens) (a : A) → c.stands t ≡ Some a → chosen (t ∷ q) ≡ f a q
  at-first t q a e = rw e refl

  at-second : (t : Lexeme) (q : Tokens) (b : B) → c.stands t ≡ None → d.stands t ≡ Some b → chosen (t ∷ q) ≡ g b q
  at-second t q b e e' = rw (e, e') refl

  at-none : (t : Lexeme) (q : Tokens) → c.stands t ≡ None → d.stands t ≡ None → chosen (t ∷ q) ≡ stops (unfit (d.reason t)) (t ∷ q)
  at-none t q e e' = rw (e, e') refl

  abbrev Kind_of : Type 0
  Kind_of =
      IsOfType (λ t. (c.stands t ≡ None) × (d.stands t ≡ None)) (λ t. Stands c.stands t ⊎ ((c.stands t ≡ None) × Stands d.stands t)) d.reason
      ⊎ IsOfNone (λ t. (c.stands t ≡ None) × (d.stands t ≡ None)) d.reason

  takes : (u : Lexeme) → Stands c.stands u ⊎ ((c.stands u ≡ None) × Stands d.stands u) → Uses (chosen (u ∷ []))
  takes u (inl (a, e)) = subst (λ (y : Reading X). Uses y) (sym (at-first u [] a e)) (nil-f a)
  takes u (inr (e, (b, e'))) = subst (λ (y : Reading X). Uses y) (sym (at-second u [] b e e')) (nil-g b)

  refuses : (u : Lexeme) → (c.stands u ≡ None) × (d.stands u ≡ None) → Refuses (chosen (u ∷ [])) u
  refuses u (lacks, lacks') = (d.reason u, at-none u [] lacks lacks')

  -- a later stop
  moved : (t : Lexeme) (q : Tokens) (why : Reason) (rest : Tokens) (h : Reader X) → ((r : Tokens) → chosen (t ∷ r) ≡ h r) → Look h q why rest → Look chosen (t ∷ q) why rest
  moved t q why rest h same L = record {
    front = t ∷ L.front;
    split = ap (λ (us : Tokens). t ∷ us) L.split;
    says = says-along why rest L.says (λ u U. subst (λ (y : Reading X). Uses y) (sym (same (L.front ++ u ∷ []))) U) (λ u R. subst (λ (y : Reading X). Refuses y u) (sym (same (L.front ++ u ∷ []))) R);
  }

  pub look-peek : Kind_of → ((a : A) (ts : Tokens) (why : Reason) (rest : Tokens) → f a ts ≡ stops (unfit why) rest → Look (f a) ts why rest) → ((b : B) (ts : Tokens) (why : Reason) (rest : Tokens) → g b ts ≡ stops (unfit why) rest → Look (g b) ts why rest)
      → (ts : Tokens) (why : Reason) (rest : Tokens) → chosen ts ≡ stops (unfit why) rest → Look chosen ts why rest
  look-peek kind F G [] why rest e =
      let nil : [] ≡ rest = cc e in
      let is : Syntax ≡ why = cc e in
      record { front = []; split = nil; says = subst (λ (us : Tokens). Says (λ u. Uses (chosen (u ∷ []))) (λ u. Refuses (chosen (u ∷ [])) u) why us) nil (sym is) }
  look-peek kind F G (t ∷ q) why rest e = go (c.stands t) refl
    where
      says : c.stands t ≡ None → d.stands t ≡ None → why ≡ d.reason t → Kind_of → Says (λ u. Uses (chosen (u ∷ []))) (λ u. Refuses (chosen (u ∷ [])) u) why (t ∷ q)
      says lacks lacks' is (inl (h, s)) = inl (is ∙ h t (lacks, lacks'), some-type takes s)
      says lacks lacks' is (inr (h, a)) = inr (is ∙ h t, all-types refuses a)

      other : c.stands t ≡ None → (v : Option B) → d.stands t ≡ v → Look chosen (t ∷ q) why rest
      other lacks (Some b) is = moved t q why rest (g b) (λ r. at-second t r b lacks is) (G b q why rest (sym (at-second t q b lacks is) ∙ e))
      other lacks None is =
          let both : stops (unfit (d.reason t)) (t ∷ q) ≡ stops (unfit why) rest = sym (at-none t q lacks is) ∙ e in
          let left : t ∷ q ≡ rest = cc both in
          let why-is : d.reason t ≡ why = cc both in
          record { front = []; split = left; says = subst (λ (us : Tokens). Says (λ u. Uses (chosen (u ∷ []))) (λ u. Refuses (chosen (u ∷ [])) u) why us) left (says lacks is (sym why-is) kind) }

      go : (v : Option A) → c.stands t ≡ v → Look chosen (t ∷ q) why rest
      go (Some a) is = moved t q why rest (f a) (λ r. at-first t r a is) (F a q why rest (sym (at-first t q a is) ∙ e))
      go None is = other is (d.stands t) refl

-- ---- parts

module _ {A S : Type 0} {o : Lexeme → Bool} (goes_on : Lexeme → Bool) (begins : S → Lexeme → Option A) (within : S → Lexeme → Bool) (part : S → A → Reader S) (P : (s : S) (a : A) → Lawful o (part s a) (part s a))
    (looks : (s : S) (a : A) (ts : Tokens) (why : Reason) (rest : Tokens) → part s a ts ≡ stops (unfit why) rest → Look (part s a) ts why rest) where
  abbrev going : ℕ → S → Reader S
  going n s ts = parts false goes_on begins within part n s ts

  pub going-nil : (m : ℕ) (s : S) → going m s [] ≡ reads s []
  unfolding parts
  going-nil zero s = refl
  going-nil (suc m) s = refl

  going-more : (m : ℕ) (s : S) (a : A) (t : Lexeme) (ts : Tokens) → begun false (within s t) (goes_on t) (begins s t) ≡ found a → going (suc m) s (t ∷ ts) ≡ and_then (part s a ts) (λ s' rest. going m s' rest)
  unfolding parts
  going-more m s a t ts is = rw is refl

  abbrev Takes_at : S → Tokens → Lexeme → Type 0
  Takes_at s front u = (m : ℕ) → length (front ++ u ∷ []) ≤ m → Uses (going m s (front ++ u ∷ []))

  abbrev Refuses_at : S → Tokens → Lexeme → Type 0
  Refuses_at s front u = (m : ℕ) → length (front ++ u ∷ []) ≤ m → Refuses (going m s (front ++ u ∷ [])) u

  -- as Look, with any number of steps that is enough, and not without a part
  record Look_parts (s : S) (ts : Tokens) (why : Reason) (rest : Tokens) : Type 0 where
    first : Lexeme
    front : Tokens
    split : ts ≡ (first ∷ front) ++ rest
    says : Says (Takes_at s (first ∷ front)) (Refuses_at s (first ∷ front)) why rest

  -- by the step that takes the first part
  in-steps : (s : S) (a : A) (t : Lexeme) (ts : Tokens) (Q : Reading S → Type 0) → begun false (within s t) (goes_on t) (begins s t) ≡ found a → ((m : ℕ) → length ts ≤ m → Q (and_then (part s a ts) (λ s' rest. going m s' rest))) → (m : ℕ) → length (t ∷ ts) ≤ m → Q (going m s (t ∷ ts))
  in-steps s a t ts Q is f zero h = absurd (omega (arith, h))
  in-steps s a t ts Q is f (suc m) h = subst Q (sym (going-more m s a t ts is)) (f m (omega (arith, h)))

  look-parts : (n : ℕ) (s : S) (ts : Tokens) (why : Reason) (rest : Tokens) → going n s ts ≡ stops (unfit why) rest → Look_parts s ts why rest
  unfolding parts
  look-parts zero s ts why rest e = absurd (cc e)
  look-parts (suc n) s [] why rest e = absurd (cc e)
  look-parts (suc n) s (t ∷ q) why rest e = go (λ s1 mid. look-parts n s1 mid why rest) (begun false (within s t) (goes_on t) (begins s t)) refl e
    where
      go : ((s1 : S) (mid : Tokens) → going n s1 mid ≡ stops (unfit why) rest → Look_parts s1 mid why rest)
          → (j : Judged A) → begun false (within s t) (goes_on t) (begins s t) ≡ j → first_of j t q (λ a rest'. and_then (part s a rest') (λ s' rest''. going n s' rest'')) (λ rest'. reads s rest') ≡ stops (unfit why) rest → Look_parts s (t ∷ q) why rest
      go rec none is e' = absurd (cc e')
      go rec past is e' = absurd (cc e')
      go rec (found a) is e' = by (then-stops (part s a q) (λ s' rest''. going n s' rest'') (unfit why) rest e')
        where
          here : Look (part s a) q why rest → Look_parts s (t ∷ q) why rest
          here L = record {
            first = t;
            front = L.front;
            split = ap (λ (us : Tokens). t ∷ us) L.split;
            says = says-along why rest L.says
                (λ u U. in-steps s a t (L.front ++ u ∷ []) Uses is (λ m h. uses-then (part s a (L.front ++ u ∷ [])) (λ s' r. going m s' r) (λ s'. inl (s', going-nil m s')) U))
                (λ u R. in-steps s a t (L.front ++ u ∷ []) (λ z. Refuses z u) is (λ m h. refuses-then (part s a (L.front ++ u ∷ [])) (λ s' r. going m s' r) u R));
          }

          later : (s1 : S) (mid : Tokens) → part s a q ≡ reads s1 mid → Look_parts s1 mid why rest → Look_parts s (t ∷ q) why rest
          later s1 mid pe L = record {
            first = t;
            front = W.front ++ L.first ∷ L.front;
            split = ap (λ (us : Tokens). t ∷ us) (W.split ∙ ap (λ (us : Tokens). W.front ++ us) L.split ∙ sym (append_assoc W.front (L.first ∷ L.front) rest));
            says = says-along why rest L.says takes refuses;
          }
            where
              W : Whole o (part s a) q s1 mid
              W = (P s a).whole q s1 mid pe

              short : (u : Lexeme) (m : ℕ) → length ((W.front ++ L.first ∷ L.front) ++ u ∷ []) ≤ m → length ((L.first ∷ L.front) ++ u ∷ []) ≤ m
              short u m h = omega (arith, h, ap length (append_assoc W.front (L.first ∷ L.front) (u ∷ [])), length-append W.front ((L.first ∷ L.front) ++ u ∷ []))

              at : (m : ℕ) (u : Lexeme) → and_then (part s a ((W.front ++ L.first ∷ L.front) ++ u ∷ [])) (λ s' r. going m s' r) ≡ going m s1 ((L.first ∷ L.front) ++ u ∷ [])
              at m u =
                  let again = W.again (L.first ∷ (L.front ++ u ∷ [])) (inl (subst (λ (us : Tokens). SameHead us (L.first ∷ (L.front ++ u ∷ []))) (sym L.split) refl)) in
                  let e1 : part s a ((W.front ++ L.first ∷ L.front) ++ u ∷ []) ≡ reads s1 (L.first ∷ (L.front ++ u ∷ [])) = rw (append_assoc W.front (L.first ∷ L.front) (u ∷ [])) again in
                  rw e1 refl

              takes : (u : Lexeme) → Takes_at s1 (L.first ∷ L.front) u → Takes_at s (t ∷ (W.front ++ L.first ∷ L.front)) u
              takes u U = in-steps s a t ((W.front ++ L.first ∷ L.front) ++ u ∷ []) Uses is (λ m h. subst Uses (sym (at m u)) (U m (short u m h)))

              refuses : (u : Lexeme) → Refuses_at s1 (L.first ∷ L.front) u → Refuses_at s (t ∷ (W.front ++ L.first ∷ L.front)) u
              refuses u R = in-steps s a t ((W.front ++ L.first ∷ L.front) ++ u ∷ []) (λ z. Refuses z u) is (λ m h. subst (λ z. Refuses z u) (sym (at m u)) (R m (short u m h)))

          by : (part s a q ≡ stops (unfit why) rest) ⊎ ((s1 : S) × (mid : Tokens) × (part s a q ≡ reads s1 mid) × (going n s1 mid ≡ stops (unfit why) rest)) → Look_parts s (t ∷ q) why rest
          by (inl pe) = here (looks s a q why rest pe)
          by (inr (s1, mid, pe, e'')) = later s1 mid pe (rec s1 mid e'')

  pub look-tail : {p : Lexeme → Bool} (f : Reader S) → Lawful p f f → ((ts : Tokens) (why : Reason) (rest : Tokens) → f ts ≡ stops (unfit why) rest → Look f ts why rest)
      → (ts : Tokens) (why : Reason) (rest : Tokens) → and_then (f ts) (λ s r. going (length r) s r) ≡ stops (unfit why) rest → Look (λ us. and_then (f us) (λ s r. going (length r) s r)) ts why rest
  look-tail {p} f L look ts why rest e = by (then-stops (f ts) (λ s r. going (length r) s r) (unfit why) rest e)
    where
      takes : (s : S) (front : Tokens) (u : Lexeme) → Takes_at s front u → Uses (going (length (front ++ u ∷ [])) s (front ++ u ∷ []))
      takes s front u U = U (length (front ++ u ∷ [])) (omega arith)

      refuses : (s : S) (front : Tokens) (u : Lexeme) → Refuses_at s front u → Refuses (going (length (front ++ u ∷ [])) s (front ++ u ∷ [])) u
      refuses s front u R = R (length (front ++ u ∷ [])) (omega arith)

      second : (s : S) (mid : Tokens) → f ts ≡ reads s mid → Look_parts s mid why rest → Look (λ us. and_then (f us) (λ s' r. going (length r) s' r)) ts why rest
      second s mid first K =
          look-second f (λ s' r. going (length r) s' r) L (λ s'. inl (s', going-nil 0 s')) ts mid s why rest first
          (record {
            front = K.first ∷ K.front;
            split = K.split;
            says = says-along why rest K.says (takes s (K.first ∷ K.front)) (refuses s (K.first ∷ K.front));
          })
          (λ u. inl (subst (λ (us : Tokens). SameHead us (K.first ∷ (K.front ++ u ∷ []))) (sym K.split) refl))

      by : (f ts ≡ stops (unfit why) rest) ⊎ ((s : S) × (mid : Tokens) × (f ts ≡ reads s mid) × (going (length mid) s mid ≡ stops (unfit why) rest)) → Look (λ us. and_then (f us) (λ s r. going (length r) s r)) ts why rest
      by (inl first) = look-first f (λ s r. going (length r) s r) L (λ s. inl (s, going-nil 0 s)) ts why rest (look ts why rest first)
      by (inr (s, mid, first, e')) = second s mid first (look-parts (length mid) s mid why rest e')

-- ---- inside brackets any token is allowed, unless it closes another bracket

plain-goes-on : (front : Tokens) (open_brackets : List Bracket) (t : Lexeme) (q : Tokens) (why : Reason) → until_closed open_brackets (front ++ t ∷ q) ≡ stops (unfit why) (t ∷ q) → (u : Lexeme) → nesting_of u ≡ Plain → until_closed open_brackets (front ++ u ∷ []) ≡ stops (unfit Syntax) []
unfolding until_closed
plain-goes-on [] [] t q why e u p = absurd (cc e)
plain-goes-on [] (b ∷ outer) t q why e u p = rw p refl
plain-goes-on (v ∷ front) [] t q why e u p = absurd (cc e)
plain-goes-on (v ∷ front) (b ∷ outer) t q why e u p = go (λ ob e'. plain-goes-on front ob t q why e' u p) (open_behind (nesting_of v) (b ∷ outer)) refl e
  where
    go : ((ob : List Bracket) → until_closed ob (front ++ t ∷ q) ≡ stops (unfit why) (t ∷ q) → until_closed ob (front ++ u ∷ []) ≡ stops (unfit Syntax) [])
        → (ob : Option (List Bracket)) → open_behind (nesting_of v) (b ∷ outer) ≡ ob → fitting ob v (front ++ t ∷ q) (λ ob'. until_closed ob' (front ++ t ∷ q)) ≡ stops (unfit why) (t ∷ q)
        → fitting (open_behind (nesting_of v) (b ∷ outer)) v (front ++ u ∷ []) (λ ob'. until_closed ob' (front ++ u ∷ [])) ≡ stops (unfit Syntax) []
    go rec None is e' = let left : v ∷ (front ++ t ∷ q) ≡ t ∷ q = cc e' in absurd (omega (arith, ap length left, length-append front (t ∷ q)))
    go rec (Some ob) is e' = rw is (rec ob e')

byte_is : (a b : ℕ) → (a == b) ≡ true → a ≡ b
byte_is a b e = grind (arith, nat_tests)

closing-is-syntax : (t : Lexeme) (c : Bracket) → nesting_of t ≡ Closes c → width_reason t ≡ Syntax
closing-is-syntax t c e = go t.kind t.text refl refl e
  where
    by : (byte : ℕ) → t.kind ≡ kind.Mark → t.text ≡ byte ∷ [] → width_reason (record t { kind = kind.Mark; text = byte ∷ [] }) ≡ Syntax → width_reason t ≡ Syntax
    by byte k x s = rw (k, x) s

    closes : (byte : ℕ) → t.kind ≡ kind.Mark → t.text ≡ byte ∷ [] → (b40 b41 b91 b93 b123 b125 : Bool) → (byte == 41) ≡ b41 → (byte == 93) ≡ b93 → (byte == 125) ≡ b125
        → (if b40 then Opens Round else (if b41 then Closes Round else (if b91 then Opens Square else (if b93 then Closes Square else (if b123 then Opens Curly else (if b125 then Closes Curly else Plain)))))) ≡ Closes c → width_reason t ≡ Syntax
    closes byte k x true b41 b91 b93 b123 b125 is41 is93 is125 e' = absurd (cc e')
    closes byte k x false true b91 b93 b123 b125 is41 is93 is125 e' = by 41 k (x ∙ ap (λ n. n ∷ []) (byte_is byte 41 is41)) refl
    closes byte k x false false true b93 b123 b125 is41 is93 is125 e' = absurd (cc e')
    closes byte k x false false false true b123 b125 is41 is93 is125 e' = by 93 k (x ∙ ap (λ n. n ∷ []) (byte_is byte 93 is93)) refl
    closes byte k x false false false false true b125 is41 is93 is125 e' = absurd (cc e')
    closes byte k x false false false false false true is41 is93 is125 e' = by 125 k (x ∙ ap (λ n. n ∷ []) (byte_is byte 125 is125)) refl
    closes byte k x false false false false false false is41 is93 is125 e' = absurd (cc e')

    go : (k : Kind) (text : List ℕ) → t.kind ≡ k → t.text ≡ text → nesting_in k text ≡ Closes c → width_reason t ≡ Syntax
    go kind.Mark (byte ∷ []) k x e' = closes byte k x (byte == 40) (byte == 41) (byte == 91) (byte == 93) (byte == 123) (byte == 125) refl refl refl e'
    go _ _ k x e' = absurd (cc e')

look-balanced : (b : Bracket) (ts : Tokens) (why : Reason) (rest : Tokens) → until_closed (b ∷ []) ts ≡ stops (unfit why) rest → Look (λ us. until_closed (b ∷ []) us) ts why rest
look-balanced b ts why rest e = record { front = H.front; split = H.split; says = let S = balanced-refused b why ts rest e in says S.innermost rest H.split e S.leaves_open }
  where
    H : Halted (b ∷ []) ts (unfit why) rest
    H = closed-halts (b ∷ []) ts (unfit why) rest e

    is : why ≡ Syntax
    is = let w : unfit Syntax ≡ unfit why = H.why_is in cc w

    takes : (t : Lexeme) (q : Tokens) → until_closed (b ∷ []) (H.front ++ t ∷ q) ≡ stops (unfit why) (t ∷ q) → (u : Lexeme) → nesting_of u ≡ Plain → Uses (until_closed (b ∷ []) (H.front ++ u ∷ []))
    takes t q e' u p = inr (unfit Syntax, plain-goes-on H.front (b ∷ []) t q why e' u p)

    says : (innermost : Bracket) (left : Tokens) → ts ≡ H.front ++ left → until_closed (b ∷ []) ts ≡ stops (unfit why) left → LeavesOpen innermost left → Says (λ u. Uses (until_closed (b ∷ []) (H.front ++ u ∷ []))) (λ u. Refuses (until_closed (b ∷ []) (H.front ++ u ∷ [])) u) why left
    says innermost [] split e' L = is
    says innermost (t ∷ q) split e' L =
        let at : until_closed (b ∷ []) (H.front ++ t ∷ q) ≡ stops (unfit why) (t ∷ q) = ap (λ (us : Tokens). until_closed (b ∷ []) us) (sym split) ∙ e' in
        inl (is ∙ sym (closing-is-syntax t L.0 L.1), inl (takes t q at _ refl))

-- ---- each form

abbrev with_one : {A B : Type 0} → Class B → A → Reader (A × B)
with_one c a rest = and_then (one_of false c rest) (λ x rest'. reads (a, x) rest')

one-nil : {A B : Type 0} (c : Class B) (a : A) → Uses (with_one c a [])
one-nil c a = inr (unfit Syntax, refl)

abbrev upto_reader : {A B : Type 0} {o : Lexeme → Bool} → Form o A → (A → Class B) → Reader (A × B)
upto_reader f c us = and_then (read false f us) (λ a r. with_one (c a) a r)

look-upto : {A B : Type 0} {o : Lexeme → Bool} (f : Form o A) (c : A → Class B)
    → ((a : A) → IsOfType (λ t. (c a).stands t ≡ None) (λ t. (o t ≡ false) × Stands (c a).stands t) (c a).reason ⊎ IsOfNone (λ t. (o t ≡ false) × ((c a).stands t ≡ None)) (c a).reason
    ⊎ (((ts q : Tokens) (t : Lexeme) → read false f ts ≡ reads a (t ∷ q) → (c a).reason t ≡ width_reason t) × GoesOnWithTypes f))
    → (ts mid : Tokens) (a : A) (why : Reason) (rest : Tokens) → read false f ts ≡ reads a mid → with_one (c a) a mid ≡ stops (unfit why) rest → Look (upto_reader f c) ts why rest
look-upto {A} {B} {o} f c T ts mid a why rest first e = by (then-stops {X = A × B} (one_of false (c a) mid) (λ x r. reads (a, x) r) (unfit why) rest e)
  where
    W : Whole o (λ us. read false f us) ts a mid
    W = (read_lawful false f).whole ts a mid first

    free : (u : Lexeme) → o u ≡ false → upto_reader f c (W.front ++ u ∷ []) ≡ with_one (c a) a (u ∷ [])
    free u stays = let again = W.again (u ∷ []) (inr (ap not stays)) in rw again refl

    takes : (u : Lexeme) → (o u ≡ false) × Stands (c a).stands u → Uses (upto_reader f c (W.front ++ u ∷ []))
    takes u (stays, (b, is)) = inl ((a, b), free u stays ∙ ap (λ (z : Reading B). and_then z (λ x r. reads (a, x) r)) (class-takes (c a) u [] b is))

    refuses : (u : Lexeme) → (o u ≡ false) × ((c a).stands u ≡ None) → Refuses (upto_reader f c (W.front ++ u ∷ [])) u
    refuses u (stays, lacks) = ((c a).reason u, free u stays ∙ ap (λ (z : Reading B). and_then z (λ x r. reads (a, x) r)) (class-refuses (c a) u [] lacks))

    says : (t : Lexeme) (q : Tokens) → mid ≡ t ∷ q → (c a).stands t ≡ None → why ≡ (c a).reason t
        → IsOfType (λ t'. (c a).stands t' ≡ None) (λ t'. (o t' ≡ false) × Stands (c a).stands t') (c a).reason ⊎ IsOfNone (λ t'. (o t' ≡ false) × ((c a).stands t' ≡ None)) (c a).reason
        ⊎ (((ts' q' : Tokens) (t' : Lexeme) → read false f ts' ≡ reads a (t' ∷ q') → (c a).reason t' ≡ width_reason t') × GoesOnWithTypes f)
        → Says (λ u. Uses (upto_reader f c (W.front ++ u ∷ []))) (λ u. Refuses (upto_reader f c (W.front ++ u ∷ [])) u) why (t ∷ q)
    says t q m lacks is (inl (h, s)) = inl (is ∙ h t lacks, some-type takes s)
    says t q m lacks is (inr (inl (h, s))) = inr (is ∙ h t, all-types refuses s)
    says t q m lacks is (inr (inr (h, G))) = inl (is ∙ h ts q t (first ∙ ap (λ (us : Tokens). reads a us) m), some-type (λ u U. uses-then (read false f (W.front ++ u ∷ [])) (λ a' r. with_one (c a') a' r) (λ a'. one-nil (c a') a') U) (G ts mid a W))

    by : (one_of false (c a) mid ≡ stops (unfit why) rest) ⊎ ((x : B) × (r : Tokens) × (one_of false (c a) mid ≡ reads x r) × ((let z : Reading (A × B) = reads (a, x) r in z) ≡ stops (unfit why) rest)) → Look (upto_reader f c) ts why rest
    by (inr (x, r, one-is, other)) = absurd (cc other)
    by (inl one-is) = at (class-stops (c a) mid why rest one-is)
      where
        at : ((mid ≡ []) × (rest ≡ []) × (why ≡ Syntax)) ⊎ ((t : Lexeme) × (q : Tokens) × (mid ≡ t ∷ q) × (rest ≡ t ∷ q) × ((c a).stands t ≡ None) × (why ≡ (c a).reason t)) → Look (upto_reader f c) ts why rest
        at (inl (m, r, is)) = record { front = W.front; split = W.split ∙ ap (λ (us : Tokens). W.front ++ us) (m ∙ sym r); says = subst (λ (us : Tokens). Says (λ u. Uses (upto_reader f c (W.front ++ u ∷ []))) (λ u. Refuses (upto_reader f c (W.front ++ u ∷ [])) u) why us) (sym r) is }
        at (inr (t, q, m, r, lacks, is)) = record { front = W.front; split = W.split ∙ ap (λ (us : Tokens). W.front ++ us) (m ∙ sym r); says = subst (λ (us : Tokens). Says (λ u. Uses (upto_reader f c (W.front ++ u ∷ []))) (λ u. Refuses (upto_reader f c (W.front ++ u ∷ [])) u) why us) (sym r) (says t q m lacks is (T a)) }

pub look : {o : Lexeme → Bool} {X : Type 0} (f : Form o X) → TellsTypes f → (ts : Tokens) (why : Reason) (rest : Tokens) → read false f ts ≡ stops (unfit why) rest → Look (λ us. read false f us) ts why rest
look (give x) T ts why rest e = absurd (cc e)
look (one c) T ts why rest e = look-one c T ts why rest e
look (seq {A} f k) T ts why rest e = by (λ e'. look f T.0 ts why rest e') (λ a mid e'. look (k a) (T.1 a) mid why rest e') (then-stops (read false f ts) (λ a r. read false (k a) r) (unfit why) rest e)
  where
    by : (read false f ts ≡ stops (unfit why) rest → Look (λ us. read false f us) ts why rest) → ((a : A) (mid : Tokens) → read false (k a) mid ≡ stops (unfit why) rest → Look (λ us. read false (k a) us) mid why rest)
        → (read false f ts ≡ stops (unfit why) rest) ⊎ ((a : A) × (mid : Tokens) × (read false f ts ≡ reads a mid) × (read false (k a) mid ≡ stops (unfit why) rest)) → Look (λ us. read false (seq f k) us) ts why rest
    by F K (inl first) = look-first (λ us. read false f us) (λ a us. read false (k a) us) (read_lawful false f) (λ a. uses-nil (λ us. read false (k a) us) (read_lawful false (k a))) ts why rest (F first)
    by F K (inr (a, mid, first, later)) = look-second (λ us. read false f us) (λ a' us. read false (k a') us) (read_lawful false f) (λ a'. uses-nil (λ us. read false (k a') us) (read_lawful false (k a'))) ts mid a why rest first (K a mid later) (λ u. inr (free-never _))
look (upto {A} {B} f c fits) T ts why rest e = by (λ e'. look f T.0 ts why rest e') (then-stops (read false f ts) (λ a r. with_one (c a) a r) (unfit why) rest e)
  where
    by : (read false f ts ≡ stops (unfit why) rest → Look (λ us. read false f us) ts why rest)
        → (read false f ts ≡ stops (unfit why) rest) ⊎ ((a : A) × (mid : Tokens) × (read false f ts ≡ reads a mid) × (with_one (c a) a mid ≡ stops (unfit why) rest)) → Look (λ us. read false (upto f c fits) us) ts why rest
    by F (inl first) = look-first (λ us. read false f us) (λ a r. with_one (c a) a r) (read_lawful false f) (λ a. one-nil (c a) a) ts why rest (F first)
    by F (inr (a, mid, first, later)) = look-upto f c T.1 ts mid a why rest first later
look (peek c f d g) T ts why rest e =
    look-peek c (λ a us. read false (f a) us) d (λ b us. read false (g b) us) (λ a. uses-nil (λ us. read false (f a) us) (read_lawful false (f a))) (λ b. uses-nil (λ us. read false (g b) us) (read_lawful false (g b)))
    T.0 (λ a ts' why' rest' e'. look (f a) (T.1 a) ts' why' rest' e') (λ b ts' why' rest' e'. look (g b) (T.2 b) ts' why' rest' e') ts why rest e
look (tail goes_on begins within part f) T ts why rest e =
    look-tail goes_on begins within (λ s a us. read false (part s a) us) (λ s a. read_lawful false (part s a)) (λ s a ts' why' rest' e'. look (part s a) (T.1 s a) ts' why' rest' e')
    (λ us. read false f us) (read_lawful false f) (λ ts' why' rest' e'. look f T.0 ts' why' rest' e') ts why rest e
look (balanced b) T ts why rest e = look-balanced b ts why rest e
look (mapped {A} k f) T ts why rest e = by (λ e'. look f T ts why rest e') (then-stops (read false f ts) (λ a r. reads (k a) r) (unfit why) rest e)
  where
    by : (read false f ts ≡ stops (unfit why) rest → Look (λ us. read false f us) ts why rest)
        → (read false f ts ≡ stops (unfit why) rest) ⊎ ((a : A) × (mid : Tokens) × (read false f ts ≡ reads a mid) × (reads (k a) mid ≡ stops (unfit why) rest)) → Look (λ us. read false (mapped k f) us) ts why rest
    by F (inl first) = look-first (λ us. read false f us) (λ a r. reads (k a) r) (read_lawful false f) (λ a. inl (k a, refl)) ts why rest (F first)
    by F (inr (a, mid, first, later)) = absurd (cc later)

-- ---- after whole parts another may begin

module _ {A S : Type 0} (goes_on : Lexeme → Bool) (begins : S → Lexeme → Option A) (within : S → Lexeme → Bool) (part : S → A → Reader S) (P : (s : S) (a : A) → Lawful never (part s a) (part s a)) (u : Lexeme)
    (begun-at : (s : S) → (a : A) × (begun false (within s u) (goes_on u) (begins s u) ≡ found a)) where
  abbrev run : ℕ → S → Reader S
  run n s ts = parts false goes_on begins within part n s ts

  run-nil : (m : ℕ) (s : S) → run m s [] ≡ reads s []
  unfolding parts
  run-nil zero s = refl
  run-nil (suc m) s = refl

  run-more : (m : ℕ) (s : S) (a : A) (t : Lexeme) (ts : Tokens) → begun false (within s t) (goes_on t) (begins s t) ≡ found a → run (suc m) s (t ∷ ts) ≡ and_then (part s a ts) (λ s' rest. run m s' rest)
  unfolding parts
  run-more m s a t ts is = rw is refl

  pub parts-go-on : (n : ℕ) (s : S) (ts : Tokens) (x : S) → run n s ts ≡ reads x [] → (m : ℕ) → length (ts ++ u ∷ []) ≤ m → Uses (run m s (ts ++ u ∷ []))
  unfolding parts
  parts-go-on n s [] x e zero h = absurd (omega (arith, h))
  parts-go-on n s [] x e (suc m) h =
      let (a, is) = begun-at s in
      subst Uses (sym (run-more m s a u [] is)) (uses-then (part s a []) (λ s' r. run m s' r) (λ s'. inl (s', run-nil m s')) (uses-nil (part s a) (P s a)))
  parts-go-on zero s (t ∷ q) x e m h = absurd (cc e)
  parts-go-on (suc n) s (t ∷ q) x e zero h = absurd (omega (arith, h))
  parts-go-on (suc n) s (t ∷ q) x e (suc m) h = go (λ s1 mid e'. parts-go-on n s1 mid x e' m) (begun false (within s t) (goes_on t) (begins s t)) refl e
    where
      go : ((s1 : S) (mid : Tokens) → run n s1 mid ≡ reads x [] → length (mid ++ u ∷ []) ≤ m → Uses (run m s1 (mid ++ u ∷ [])))
          → (j : Judged A) → begun false (within s t) (goes_on t) (begins s t) ≡ j → first_of j t q (λ a rest'. and_then (part s a rest') (λ s' rest''. run n s' rest'')) (λ rest'. reads s rest') ≡ reads x [] → Uses (run (suc m) s (t ∷ (q ++ u ∷ [])))
      go rec none is e' = absurd (cc e')
      go rec past is e' = absurd (cc e')
      go rec (found a) is e' = by (then-found (part s a q) (λ s' rest''. run n s' rest'') x [] e')
        where
          by : (s1 : S) × (mid : Tokens) × (part s a q ≡ reads s1 mid) × (run n s1 mid ≡ reads x []) → Uses (run (suc m) s (t ∷ (q ++ u ∷ [])))
          by (s1, mid, pe, later) =
              let W = (P s a).whole q s1 mid pe in
              let again = W.again (mid ++ u ∷ []) (inr (free-never _)) in
              let split : q ++ u ∷ [] ≡ W.front ++ (mid ++ u ∷ []) = ap (λ (us : Tokens). us ++ u ∷ []) W.split ∙ append_assoc W.front mid (u ∷ []) in
              let e1 : part s a (q ++ u ∷ []) ≡ reads s1 (mid ++ u ∷ []) = ap (λ (us : Tokens). part s a us) split ∙ again in
              let short : length (mid ++ u ∷ []) ≤ m = omega (arith, h, ap length split, length-append W.front (mid ++ u ∷ [])) in
              subst Uses (sym (run-more m s a t (q ++ u ∷ []) is ∙ ap (λ (z : Reading S). and_then z (λ s' r. run m s' r)) e1)) (rec s1 mid later short)

-- where parts end no other begins
pub parts-end : {A S : Type 0} (limits : Bool) (goes_on : Lexeme → Bool) (begins : S → Lexeme → Option A) (within : S → Lexeme → Bool) (part : S → A → S → Tokens → Tokens → Type 0) (n : ℕ) (s x : S) (tokens rest : Tokens)
    → SpellParts limits goes_on begins within part n s x tokens rest → IsNone (part_begins goes_on (begins x)) rest
parts-end limits goes_on begins within part zero s x tokens rest (same, left, nothing) = subst (λ y. IsNone (part_begins goes_on (begins y)) rest) same nothing
parts-end limits goes_on begins within part (suc n) s x tokens rest (a, inside, next, behind, T, spelled, more) = parts-end limits goes_on begins within part n next x behind rest more
