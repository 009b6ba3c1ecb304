-- Tokens whose brackets close what they open.
use Rattle.read_back.proofs.Common.{◌≡◌, ℕ, zero, suc, ◌+◌, ◌-◌, ◌<◌, ◌≤◌, true, false, eqb, List, [], ◌∷◌, ◌++◌, length, take, map, get_or, Option, Some, refl, sym, ap, ◌∙◌, append_assoc, append-nil, inl, inr, arith, fold, cases_lt, lt-ltb, eq-eqb, length-append, take_at, take-append-le, get_or_at, Kind, Lexeme, mark_in, mark_of, opens, closes, closing, shut, marks_after, marks_behind}
use Rattle.std.proofs.Common.{nat_lt}

-- what is to come after these marks
abbrev pub left : Option (List ℕ) → List ℕ → Option (List ℕ)
left open_marks [] = open_marks
left open_marks (m ∷ ms) = left (marks_after open_marks m) ms

-- all of these are open, and maybe more
pub record Above (s : List ℕ) (o : Option (List ℕ)) : Type 0 where
  pub more : List ℕ
  pub is : o ≡ Some (s ++ more)

-- each mark that is opened is closed, and no other
pub record Nested (ms : List ℕ) : Type 0 where
  pub stays : (s : List ℕ) → left (Some s) ms ≡ Some s
  pub above : (s : List ℕ) (n : ℕ) → Above s (left (Some s) (take n ms))

left-append : (o : Option (List ℕ)) (a b : List ℕ) → left o (a ++ b) ≡ left (left o a) b
left-append o [] b = refl
left-append o (m ∷ a) b = left-append (marks_after o m) a b

take_past : (n : ℕ) (a b : List ℕ) → length a ≤ n → take n (a ++ b) ≡ a ++ take (n - length a) b
take_past n [] b h = ap (λ (k : ℕ). take k b) (omega arith)
take_past zero (m ∷ a) b h = absurd (omega arith)
take_past (suc n) (m ∷ a) b h =
    let e : n - length a ≡ suc n - length (m ∷ a) = omega arith in
    ap (λ (l : List ℕ). m ∷ l) (take_past n a b (omega arith)) ∙ ap (λ (k : ℕ). m ∷ (a ++ take k b)) e

at_front : (s : List ℕ) → Above s (Some s)
at_front s = record { more = []; is = ap (λ (l : List ℕ). Some l) (sym (append-nil s)) }

above_same : (s : List ℕ) (o p : Option (List ℕ)) → p ≡ o → Above s o → Above s p
above_same s o p e h = record { more = h.more; is = e ∙ h.is }

pub nothing-nested : Nested []
nothing-nested = record { stays = λ s. refl; above = λ s n. above_same s (Some s) (left (Some s) (take n [])) (none s n) (at_front s) }
  where
    none : (s : List ℕ) (n : ℕ) → left (Some s) (take n []) ≡ Some s
    none s zero = refl
    none s (suc n) = refl

plain_step : (m : ℕ) (s ms : List ℕ) → opens m ≡ false → closes m ≡ false → left (Some s) (m ∷ ms) ≡ left (Some s) ms
plain_step m s ms o c = rw (o, c) refl

-- what is no bracket
pub plain-nested : (m : ℕ) (ms : List ℕ) → opens m ≡ false → closes m ≡ false → Nested ms → Nested (m ∷ ms)
plain-nested m ms o c h = record { stays = λ s. plain_step m s ms o c ∙ h.stays s; above = λ s n. go s n }
  where
    go : (s : List ℕ) (n : ℕ) → Above s (left (Some s) (take n (m ∷ ms)))
    go s zero = at_front s
    go s (suc n) = above_same s (left (Some s) (take n ms)) _ (plain_step m s (take n ms) o c) (h.above s n)

pub nested-append : (a b : List ℕ) → Nested a → Nested b → Nested (a ++ b)
nested-append a b h k = record { stays = λ s. left-append (Some s) a b ∙ ap (λ (o : Option (List ℕ)). left o b) (h.stays s) ∙ k.stays s; above = λ s n. go s n }
  where
    go : (s : List ℕ) (n : ℕ) → Above s (left (Some s) (take n (a ++ b)))
    go s n = elim (cases_lt n (length a)) [
      | inl lt ↦ above_same s (left (Some s) (take n a)) _ (ap (left (Some s)) (take-append-le n a b (omega arith))) (h.above s n)
      | inr ge ↦ above_same s (left (Some s) (take (n - length a) b)) _
          (ap (left (Some s)) (take_past n a b ge) ∙ left-append (Some s) a (take (n - length a) b) ∙ ap (λ (o : Option (List ℕ)). left o (take (n - length a) b)) (h.stays s))
          (k.above s (n - length a))
    ]

shut_last : (s : List ℕ) (c : ℕ) → shut (s ++ c ∷ []) c ≡ Some s
shut_last s c =
    let lens : length (s ++ c ∷ []) ≡ length s + 1 = length-append s (c ∷ []) in
    let some : nat_lt 0 (length (s ++ c ∷ [])) ≡ true = lt-ltb 0 (length (s ++ c ∷ [])) (omega (arith, lens)) in
    let less : length s ≡ length (s ++ c ∷ []) - 1 = omega (arith, lens) in
    let last : get_or (s ++ c ∷ []) (length (s ++ c ∷ []) - 1) 0 ≡ c = get_or_at s c [] 0 (length (s ++ c ∷ []) - 1) less in
    let same : eqb (get_or (s ++ c ∷ []) (length (s ++ c ∷ []) - 1) 0) c ≡ true = eq-eqb _ c last in
    let front : take (length (s ++ c ∷ []) - 1) (s ++ c ∷ []) ≡ s = take_at s (c ∷ []) (length (s ++ c ∷ []) - 1) less in
    rw (some, same) (ap (λ (l : List ℕ). Some l) front)

-- an opening mark and the one that closes it
pub record IsPair (front end : ℕ) : Type 0 where
  pub opened : opens front ≡ true
  pub close_is : closing front ≡ end
  pub no_other : opens end ≡ false
  pub closed : closes end ≡ true

-- after the opening mark, with the closing one to come
pub opened : (front end : ℕ) (s ms : List ℕ) → IsPair front end → left (Some s) (front ∷ ms) ≡ left (Some (s ++ end ∷ [])) ms
opened front end s ms pair = rw (pair.opened, pair.close_is) refl

pub closed : (front end : ℕ) (s : List ℕ) → IsPair front end → left (Some (s ++ end ∷ [])) (end ∷ []) ≡ Some s
closed front end s pair = rw (pair.no_other, pair.closed) (shut_last s end)

pub pair-nested : (front end : ℕ) (inner : List ℕ) → IsPair front end → Nested inner → Nested (front ∷ (inner ++ end ∷ []))
pair-nested front end inner pair h = record { stays = whole; above = λ s n. go s n }
  where
    behind : (s : List ℕ) → left (Some (s ++ end ∷ [])) (inner ++ end ∷ []) ≡ Some s
    behind s = left-append (Some (s ++ end ∷ [])) inner (end ∷ []) ∙ ap (λ (o : Option (List ℕ)). left o (end ∷ [])) (h.stays (s ++ end ∷ [])) ∙ closed front end s pair

    whole : (s : List ℕ) → left (Some s) (front ∷ (inner ++ end ∷ [])) ≡ Some s
    whole s = opened front end s (inner ++ end ∷ []) pair ∙ behind s

    deeper : (s : List ℕ) (o : Option (List ℕ)) → Above (s ++ end ∷ []) o → Above s o
    deeper s o a = record { more = end ∷ a.more; is = a.is ∙ ap (λ (l : List ℕ). Some l) (append_assoc s (end ∷ []) a.more) }

    take_all : (n : ℕ) → length inner < n → take n (inner ++ end ∷ []) ≡ inner ++ end ∷ []
    take_all n lt = take_past n inner (end ∷ []) (omega arith) ∙ ap (λ (l : List ℕ). inner ++ l) (one (n - length inner) (omega arith))
      where
        one : (k : ℕ) → 0 < k → take k (end ∷ []) ≡ end ∷ []
        one zero h = absurd (omega arith)
        one (suc zero) h = refl
        one (suc (suc k)) h = refl

    go : (s : List ℕ) (n : ℕ) → Above s (left (Some s) (take n (front ∷ (inner ++ end ∷ []))))
    go s zero = at_front s
    go s (suc n) = elim (cases_lt (length inner) n) [
      | inl lt ↦ above_same s (Some s) _ (opened front end s (take n (inner ++ end ∷ [])) pair ∙ ap (left (Some (s ++ end ∷ []))) (take_all n lt) ∙ behind s) (at_front s)
      | inr le ↦ above_same s (left (Some (s ++ end ∷ [])) (take n inner)) _
          (opened front end s (take n (inner ++ end ∷ [])) pair ∙ ap (left (Some (s ++ end ∷ []))) (take-append-le n inner (end ∷ []) le))
          (deeper s (left (Some (s ++ end ∷ [])) (take n inner)) (h.above (s ++ end ∷ []) n))
    ]

-- ---- the marks of tokens

folded : (o : Option (List ℕ)) (tokens : List Lexeme) → fold (λ (open_marks : Option (List ℕ)) (t : Lexeme). marks_after open_marks (mark_of t)) o tokens ≡ left o (map mark_of tokens)
folded o [] = refl
folded o (t ∷ tokens) = folded (marks_after o (mark_of t)) tokens

pub marks_behind-left : (tokens : List Lexeme) → marks_behind tokens ≡ left (Some []) (map mark_of tokens)
marks_behind-left tokens = folded (Some []) tokens

-- a token by its class and bytes
abbrev pub mark_by : Kind × List ℕ → ℕ
mark_by t = mark_in t.0 t.1
