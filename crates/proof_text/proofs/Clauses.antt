-- Reading the literals of a clause.
use Rattle.proof_text.proofs.Common.{ℕ, ◌≡◌, ◌<◌, ◌≤◌, ◌^◌, Bool, true, false, cond, List, [], ◌∷◌, ◌++◌, codes, drop, get_or, All, Contains, append_assoc, append-nil, subst, sym, ap, ap₂, ◌∙◌, refl, ⊎_elim, arith, decimal, flat_map, decimal_injective, flat_map-append, All-contains, All-head, All-tail, Contains-append_right, Lit, IsClauseOver, IsSmall, clause_line, literal_text, spaced, Parts}
use Rattle.proof_text.proofs.Numbers.{free_decimal}
use Rattle.proof_text.proofs.Splits.{contains_it, first_or_later, here, parted, same_parts}

-- ---- literals

free_signed : (p : Bool) (v : ℕ) → IsSmall v → Contains (cond p (decimal v) (codes "-" ++ decimal v)) 32 → ⊥
free_signed true v h i = free_decimal v 32 (omega arith) (omega arith) i
free_signed false v h i = ⊎_elim (λ e. absurd (omega arith)) (λ l. free_decimal v 32 (omega arith) (omega arith) l) (first_or_later 45 32 (decimal v) i)

pub free_literal : (l : Lit) → IsSmall l.variable → Contains (literal_text l) 32 → ⊥
free_literal l h i = free_signed l.positive l.variable h i

unsigned : (m n : ℕ) → IsSmall m → decimal m ≡ 45 ∷ decimal n → ⊥
unsigned m n h e = free_decimal m 45 (omega arith) (omega arith) (subst (λ t. Contains t 45) (sym e) (here 45 (decimal n)))

same_signed : (p q : Bool) (m n : ℕ) → IsSmall m → IsSmall n → cond p (decimal m) (codes "-" ++ decimal m) ≡ cond q (decimal n) (codes "-" ++ decimal n) → (m ≡ n) × (p ≡ q)
same_signed true true m n hm hn e = (decimal_injective m n (omega arith) (omega arith) e, refl)
same_signed false false m n hm hn e = let tails : decimal m ≡ decimal n = cc in (decimal_injective m n (omega arith) (omega arith) tails, refl)
same_signed true false m n hm hn e = absurd (unsigned m n hm e)
same_signed false true m n hm hn e = absurd (unsigned n m hn (sym e))

abbrev lit : ℕ → Bool → Lit
lit v p = record { variable = v; positive = p }

pub same_literal : (k l : Lit) → IsSmall k.variable → IsSmall l.variable → literal_text k ≡ literal_text l → k ≡ l
same_literal k l hk hl e =
    let same = same_signed k.positive l.positive k.variable l.variable hk hl e in
    ap₂ lit same.0 same.1

-- ---- clauses

abbrev pub literals_text : List Lit → List ℕ
literals_text c = flat_map (λ l. spaced (literal_text l)) c

-- these literals of the line were read, and each clause that has the line goes on from there
pub record ClauseRead (variables : ℕ) (line : List ℕ) (read : List Lit) (rest : List ℕ) : Type 0 where
  pub is : line ≡ literals_text read ++ rest
  pub goes_on : (c : List Lit) → IsClauseOver variables c → line ≡ clause_line c → (more : List Lit) × (c ≡ read ++ more) × (rest ≡ clause_line more)

line_cons : (l : Lit) (c : List Lit) → clause_line (l ∷ c) ≡ literal_text l ++ 32 ∷ clause_line c
line_cons l c = simp append_assoc

no_space : (a b : List ℕ) → codes "0" ≡ a ++ 32 ∷ b → ⊥
no_space a b e = ⊎_elim (λ z. absurd (omega arith)) (λ l. absurd (omega (arith, l.1))) (first_or_later 48 32 [] (contains_it 32 (codes "0") a b e))

small_first : (v : ℕ) (l : Lit) (c : List Lit) → IsSmall v → All (λ x. x.variable ≤ v) (l ∷ c) → IsSmall l.variable
small_first v l c h f = let first = All-head (λ x. x.variable ≤ v) l c f in omega arith

-- the clause that a line has is determined
pub same_clause : (v w : ℕ) (c d : List Lit) → IsSmall v → IsSmall w → All (λ l. l.variable ≤ v) c → All (λ l. l.variable ≤ w) d → clause_line c ≡ clause_line d → c ≡ d
same_clause v w [] [] hv hw fc fd e = refl
same_clause v w [] (l ∷ d) hv hw fc fd e = absurd (no_space (literal_text l) (clause_line d) (e ∙ line_cons l d))
same_clause v w (k ∷ c) [] hv hw fc fd e = absurd (no_space (literal_text k) (clause_line c) (sym e ∙ line_cons k c))
same_clause v w (k ∷ c) (l ∷ d) hv hw fc fd e =
    let hk = small_first v k c hv fc in
    let hl = small_first w l d hw fd in
    let apart = parted 32 (literal_text k) (literal_text l) (clause_line c) (clause_line d) (free_literal k hk) (free_literal l hl) (sym (line_cons k c) ∙ e ∙ line_cons l d) in
    ap₂ (λ (x : Lit) (xs : List Lit). x ∷ xs) (same_literal k l hk hl apart.0)
    (same_clause v w c d hv hw (All-tail (λ x. x.variable ≤ v) k c fc) (All-tail (λ x. x.variable ≤ w) l d fd) apart.1)

small_at : (v : ℕ) (c read : List Lit) (l : Lit) (more : List Lit) → v < 2 ^ 62 → IsClauseOver v c → c ≡ read ++ l ∷ more → IsSmall l.variable
small_at v c read l more h f e =
    let within = All-contains (λ x. x.variable ≤ v) c l f.1 (subst (λ xs. Contains xs l) (sym e) (Contains-append_right read (l ∷ more) l (here l more))) in
    omega arith

-- what a clause goes on with at a word
pub record NextLiteral (c read : List Lit) (word after : List ℕ) : Type 0 where
  pub literal : Lit
  pub more : List Lit
  pub is : c ≡ read ++ literal ∷ more
  pub small : IsSmall literal.variable
  pub word_is : word ≡ literal_text literal
  pub after_is : after ≡ clause_line more

at_word : (v : ℕ) (c read : List Lit) (rest word after : List ℕ) (more : List Lit) → v < 2 ^ 62 → IsClauseOver v c → c ≡ read ++ more → rest ≡ clause_line more → Parts 32 rest word after → NextLiteral c read word after
at_word v c read rest word after [] h f e r p = absurd (⊎_elim (λ z. absurd (omega arith)) (λ l. absurd (omega (arith, l.1))) (first_or_later 48 32 [] (subst (λ t. Contains t 32) r (contains_it 32 rest word after p.is))))
at_word v c read rest word after (l ∷ more) h f e r p =
    let small = small_at v c read l more h f e in
    let same = same_parts 32 rest word after (literal_text l) (clause_line more) p (r ∙ line_cons l more) (free_literal l small) in
    record { literal = l; more = more; is = e; small = small; word_is = same.0; after_is = same.1 }

pub next_literal : (v : ℕ) (line : List ℕ) (read : List Lit) (rest word after : List ℕ) (c : List Lit) → v < 2 ^ 62 → ClauseRead v line read rest → Parts 32 rest word after → IsClauseOver v c → line ≡ clause_line c → NextLiteral c read word after
next_literal v line read rest word after c h r p f e =
    let on = r.goes_on c f e in
    at_word v c read rest word after on.0 h f on.1 on.2 p

reshaped : (read : List Lit) (l : Lit) (after : List ℕ) → literals_text read ++ (literal_text l ++ 32 ∷ after) ≡ literals_text (read ++ l ∷ []) ++ after
reshaped read l after = simp (flat_map-append, append_assoc, append-nil)

pub clause_step : (v : ℕ) (line : List ℕ) (read : List Lit) (rest word after : List ℕ) (l : Lit) → v < 2 ^ 62 → ClauseRead v line read rest → Parts 32 rest word after → IsSmall l.variable → word ≡ literal_text l → ClauseRead v line (read ++ l ∷ []) after
clause_step v line read rest word after l h r p small w = record {
  is = r.is ∙ ap (λ t. literals_text read ++ t) (p.is ∙ ap (λ t. t ++ 32 ∷ after) w) ∙ reshaped read l after;
  goes_on = λ c f e.
      let next = next_literal v line read rest word after c h r p f e in
      let same = same_literal next.literal l next.small small (sym next.word_is ∙ w) in
      (next.more, next.is ∙ ap (λ k. read ++ k ∷ next.more) same ∙ sym (append_assoc read (l ∷ []) next.more), next.after_is);
}

at_end : (c read : List Lit) (rest : List ℕ) (more : List Lit) → (Contains rest 32 → ⊥) → c ≡ read ++ more → rest ≡ clause_line more → (c ≡ read) × (rest ≡ codes "0")
at_end c read rest [] n e r = (e ∙ append-nil read, r)
at_end c read rest (l ∷ more) n e r = absurd (n (contains_it 32 rest (literal_text l) (clause_line more) (r ∙ line_cons l more)))

-- where no further word is, the clause was read
pub clause_end : (v : ℕ) (line : List ℕ) (read : List Lit) (rest : List ℕ) (c : List Lit) → ClauseRead v line read rest → (Contains rest 32 → ⊥) → IsClauseOver v c → line ≡ clause_line c → (c ≡ read) × (rest ≡ codes "0")
clause_end v line read rest c r n f e =
    let on = r.goes_on c f e in
    at_end c read rest on.0 n on.1 on.2

signed_off : (word : List ℕ) (p : Bool) (v : ℕ) → IsSmall v → get_or word 0 0 ≡ 45 → word ≡ cond p (decimal v) (codes "-" ++ decimal v) → drop 1 word ≡ decimal v
signed_off word true v h f e = absurd (no_minus word v h f e)
  where
    no_minus : (word : List ℕ) (v : ℕ) → IsSmall v → get_or word 0 0 ≡ 45 → word ≡ decimal v → ⊥
    no_minus [] v h f e = absurd (omega arith)
    no_minus (b ∷ bs) v h f e = free_decimal v 45 (omega arith) (omega arith) (subst (λ t. Contains t 45) e (subst (λ z. Contains (b ∷ bs) z) f (here b bs)))
signed_off word false v h f e = ap (drop 1) e

-- what follows the minus of a literal
pub minus_off : (word : List ℕ) (l : Lit) → IsSmall l.variable → get_or word 0 0 ≡ 45 → word ≡ literal_text l → drop 1 word ≡ decimal l.variable
minus_off word l h f e = signed_off word l.positive l.variable h f e
